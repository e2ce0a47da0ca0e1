-- the cells of the block so far
use Prim.Native.Nat.{◌+◌}
use Rattle.compare_list.specs.Lists.{Same}
use Rattle.compare_list.specs.Models.{Laid, row}
use Rattle.compare_list.proofs.block.Given as goal

abbrev pub invariant-loop-i : goal.invariant-loop-i
invariant-loop-i l = Laid l.at (row l.i l.base l.u l.v) 0 (l.at + l.i) 0 l.initial.list.codes.now l.initial.list.lefts.now l.initial.list.rights.now l.list.codes.now l.list.lefts.now l.list.rights.now
    × Same l.initial.list l.list
