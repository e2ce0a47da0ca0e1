-- Each line is written after the ones before it, by the lemmas of proofs/Differing.antt.
use Rattle.std.proofs.Common.{rules, arith, ◌≡◌, ◌+◌, ◌<◌, ◌^◌, length, get_or}
use Rattle.month_listing.proofs.Differing.{loop_begun, next_there, next_room, again, loop_done}
use Rattle.month_listing.proofs.cell_lines.Goals as goal

pub loop-i-init : goal.loop-i-init
loop-i-init c = loop_begun _ _ _ _ _ _ _ c.cells_taken-cells.ensures

pub overflow_add-at : goal.overflow_add-at
overflow_add-at c = omega (arith, next_there c.loop-i.invariant c.loop-i-test.true, c.ranges.count)

pub put_cell-len-requires : goal.put_cell-len-requires
put_cell-len-requires c =
    let long : length c.loop-i.out < 2 ^ 63 = search rules in
    omega (arith, next_room c.loop-i.invariant c.loop-i-test.true, long)

pub overflow_add-len : goal.overflow_add-len
overflow_add-len c =
    let long : length c.loop-i.out < 2 ^ 63 = search rules in
    omega (arith, next_room c.loop-i.invariant c.loop-i-test.true, long, c.put_cell-len.ensures.2)

pub loop-i-preserved : goal.loop-i-preserved
loop-i-preserved c =
    let code : c.unwrap_or-code.result ≡ get_or c.args.codes.now (c.args.from + c.loop-i.i) 0 = search rules in
    let left : c.unwrap_or-left.result ≡ get_or c.args.lefts.now (c.args.from + c.loop-i.i) 0 = search rules in
    let right : c.unwrap_or-right.result ≡ get_or c.args.rights.now (c.args.from + c.loop-i.i) 0 = search rules in
    again c.loop-i.invariant c.loop-i-test.true _ _ _ code left right _ _ c.put_cell-len.ensures

pub returns : goal.returns
returns c = loop_done c.loop-i.invariant (omega (arith, c.loop-i-test.false))
