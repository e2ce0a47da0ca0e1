-- invariant: the path leads to `at` at the level
use Prim.Native.Nat.{◌≤◌}
use Rattle.basics.specs.Limits.{deepest}
use Rattle.nodes.specs.Words.{kid_of}
use Rattle.read_cell.proofs.Walk.{Walked}
use Rattle.read_cell.proofs.descend.Given as goal

abbrev pub invariant-loop-level : goal.invariant-loop-level
invariant-loop-level l = (l.cell.depth ≤ deepest) × Walked (kid_of l.kids) l.cell l.fn.id.0 l.level l.at.0
