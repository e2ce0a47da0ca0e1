use Rattle.arena.proofs.Taking.{Taking}
use Rattle.arena_branch.proofs.take_while.Given as goal

-- the first i are taken
abbrev pub invariant-loop-i : goal.invariant-loop-i
invariant-loop-i l = Taking l.initial.facts l.facts l.fn.ks l.i
