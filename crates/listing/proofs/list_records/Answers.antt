-- Each record is entered and listed after the ones before it, by the lemmas of proofs/Blocks.antt.
use Rattle.std.proofs.Common.{rules, arith, ap, ◌∙◌, ◌<◌, ◌^◌, length, ℕ}
use Rattle.listing.specs.Listing.{record_in}
use Rattle.listing.proofs.Blocks.{loop_begun, next_room, again_from, loop_told}
use Rattle.listing.proofs.list_records.Goals as goal

pub loop-i-init : goal.loop-i-init
loop-i-init g c = loop_begun _ _ _ _ _ _ _ _ _ c.taken-records.ensures

pub slice_bounds-one-count : goal.slice_bounds-one-count
slice_bounds-one-count g c = omega (arith, next_room c.loop-i.invariant c.loop-i-test.true)

pub slice_bounds-one-start : goal.slice_bounds-one-start
slice_bounds-one-start g c = omega (arith, next_room c.loop-i.invariant c.loop-i-test.true)

pub overflow_add-len : goal.overflow_add-len
overflow_add-len g c =
    let long : length c.loop-i.out < 2 ^ 64 = search rules in
    omega (arith, next_room c.loop-i.invariant c.loop-i-test.true, c.one-lined.ensures.0, long)

pub loop-i-preserved : goal.loop-i-preserved
loop-i-preserved g c =
    again_from c.loop-i.invariant _ c.loop-i-test.true c.record_in-record.result.now (c.record_in-record.ensures ∙ ap (λ (w : ℕ). record_in w c.args.bytes.now c.loop-i.i) c.width.ensures)
    c.one-lined.result _ _ _ _ (search rules) (search rules) (search rules) (search rules) c.one-lined.ensures.0 c.one-lined.ensures.1 (omega arith)

pub returns : goal.returns
returns g c = loop_told c.loop-i.invariant (omega (arith, c.loop-i-test.false))
