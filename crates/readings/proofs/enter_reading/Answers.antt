use Rattle.std.proofs.Common.{◌∙◌, sym}
use Rattle.readings.proofs.Aims.{aim_rising}
use Rattle.readings.proofs.Law.{enter_asked, enter_unfit, act_refused}
use Rattle.readings.proofs.enter_reading.Goals as goal

pub returns-then-not-fit : goal.returns-then-not-fit
returns-then-not-fit c fair = rw c.from.ensures (enter_unfit _ _ _ _ _ _ c.fit.ensures c.if-not-fit.true)

pub act-requires : goal.act-requires
act-requires c = aim_rising _ c.args.bytes.now c.args.k c.args.depth (sym c.in-Ok.is ∙ c.aim_of.ensures) (λ j. (c.type_inv.bytes j).fits)

pub returns-in-Ok : goal.returns-in-Ok
returns-in-Ok c = enter_asked _ _ _ _ _ _ c.fit.ensures c.if-not-fit.false _ (sym c.in-Ok.is ∙ c.aim_of.ensures) _ c.act.ensures

pub returns-in-Err : goal.returns-in-Err
returns-in-Err c fair =
    rw c.from-in-Err.ensures
    (enter_asked _ _ _ _ _ _ c.fit.ensures c.if-not-fit.false _ c.aim_of.ensures _ (λ f. act_refused _ _ _ _ _ c.in-Err.is) fair)
