-- Each block takes at least a cell, and no more than are left.
use Rattle.std.proofs.Common.{arith}
use Rattle.month_listing.proofs.Differing.{taken_some}
use Rattle.months.proofs.say_cells.Goals as goal

pub overflow_add-from : goal.overflow_add-from
overflow_add-from g c =
    let took = taken_some _ _ _ c.cell_lines-block.ensures.0 (omega arith) (omega arith) in
    omega (arith, took, c.ranges.count)

pub loop-from-smaller : goal.loop-from-smaller
loop-from-smaller g c =
    let took = taken_some _ _ _ c.cell_lines-block.ensures.0 (omega arith) (omega arith) in
    omega (arith, took)

pub loop-from-preserved : goal.loop-from-preserved
loop-from-preserved g c =
    let took = taken_some _ _ _ c.cell_lines-block.ensures.0 (omega arith) (omega arith) in
    omega (arith, took)
