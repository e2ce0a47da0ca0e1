use Rattle.std.proofs.Common.{◌≡◌}
use Rattle.arena.specs.Models.{given_back}
use Rattle.arena_branch.proofs.give_back.Given as goal

-- giving back those of the first n is giving back those of the first i, which are left
abbrev pub invariant-loop-i : goal.invariant-loop-i
invariant-loop-i l = given_back l.initial.facts l.ks l.n ≡ given_back l.facts l.ks l.i
