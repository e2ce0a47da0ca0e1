use Rattle.std.proofs.Common.{◌≡◌, drop}
use Rattle.nodes.specs.Words.{fact_of}
use Rattle.arena.specs.Calls.{enough, all_of, enough_for}
use Rattle.arena_branch.proofs.all_enough.Given as goal

-- it holds of all exactly if it does of those from this one on
abbrev pub invariant-loop-k : goal.invariant-loop-k
invariant-loop-k l = enough (fact_of l.facts) l.ks ≡ all_of (enough_for (fact_of l.facts) l.ks) (drop l.k-index l.ks)
