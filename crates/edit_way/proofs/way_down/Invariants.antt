use Rattle.std.proofs.Common.{◌≡◌, ◌<◌, ◌^◌, ◌≤◌, length}
use Rattle.basics.specs.Limits.{deepest}
use Rattle.nodes.specs.Words.{kid_of}
use Rattle.edit_way.proofs.Ways.{Falling}
use Rattle.edit_way.proofs.way_down.Given as goal

abbrev pub invariant-loop-left : goal.invariant-loop-left
invariant-loop-left l =
    (l.cell.depth ≤ deepest) × (length l.way.ids ≡ 6) × (l.way.path < 2 ^ 18) × Falling (kid_of l.kids) l.cell l.root l.way.ids l.way.end l.way.path l.left
