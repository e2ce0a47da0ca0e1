use Rattle.std.proofs.Common.{rules, arith, refl}
use Rattle.compare_list.proofs.Steps.{eight_none, eight_step}
use Rattle.compare_list.proofs.put_eight.Goals as goal

pub loop-c-init : goal.loop-c-init
loop-c-init g c = (search rules, λ f h p q. eight_none _ _ f h _ _ _, search rules)

pub loop-c-preserved : goal.loop-c-preserved
loop-c-preserved g c =
    let cell = c.one_cell-to.ensures in
    (omega arith, λ f h p q. eight_step _ _ f h _ _ _ _ _ _ _ _ _ _ _ _ _ _ _ (c.loop-c.invariant.1 f h p q) cell.laid refl (p _ _ c.loop-c-test.true c.u.ensures) (q _ _ c.loop-c-test.true c.v.ensures), search rules)
