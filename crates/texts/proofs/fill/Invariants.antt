-- What was read fits the record, and each turn of the loop reads at least a byte.
use Rattle.std.proofs.Common.{◌-◌, ◌≤◌}
use Rattle.texts.proofs.fill.Given as goal

abbrev pub invariant-loop-count : goal.invariant-loop-count
invariant-loop-count g l = l.count ≤ 32

abbrev pub decreases-loop-count : goal.decreases-loop-count
decreases-loop-count g l = 32 - l.count
