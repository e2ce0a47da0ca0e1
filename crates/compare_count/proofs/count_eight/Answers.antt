use native.Mathlib.Omega.{arith}
use Rattle.compare_count.proofs.Steps.{eight_none, eight_step, cell_few}
use Rattle.compare_count.proofs.count_eight.Goals as goal

pub overflow_add-cells : goal.overflow_add-cells
overflow_add-cells g c = let few = cell_few c.u.result c.v.result in omega arith

pub loop-c-init : goal.loop-c-init
loop-c-init g c = (omega arith, λ f h p q. eight_none f h)

pub loop-c-preserved : goal.loop-c-preserved
loop-c-preserved g c =
    let few = cell_few c.u.result c.v.result in
    (omega arith, λ f h p q. eight_step f h _ _ _ _ _ (c.loop-c.invariant.1 f h p q) c.count_block-cells.ensures (p _ _ c.loop-c-test.true c.u.ensures) (q _ _ c.loop-c-test.true c.v.ensures))
