use Rattle.std.proofs.Common.{◌≡◌, ◌+◌, ◌*◌, ◌^◌, ◌≤◌}
use Rattle.nodes.specs.Words.{fact_of}
use Rattle.arena.specs.Models.{top_for}
use Rattle.arena.specs.Node.{sum_for}
use Rattle.new_value.proofs.sums_of.Given as goal

-- `sum` and `top` are the sum and the tallest of the first children
abbrev pub invariant-loop-k : goal.invariant-loop-k
invariant-loop-k l = (l.sum + l.k-index ≤ 2 ^ 32 * l.k-index) × (l.sum ≡ sum_for l.k-index (fact_of l.facts) l.fn.ks) × (l.top ≡ top_for (fact_of l.facts) l.fn.ks l.k-index)
