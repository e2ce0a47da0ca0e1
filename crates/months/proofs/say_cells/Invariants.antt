-- No more cells are written than there are, and each block takes at least one.
use Rattle.std.proofs.Common.{◌-◌, ◌≤◌}
use Rattle.months.proofs.say_cells.Given as goal

abbrev pub invariant-loop-from : goal.invariant-loop-from
invariant-loop-from g l = l.from ≤ l.count

abbrev pub decreases-loop-from : goal.decreases-loop-from
decreases-loop-from g l = l.count - l.from
