use Rattle.std.proofs.Common.{rules, refl}
use Rattle.edit_make.proofs.Steps.{place_on, place_end}
use Rattle.edit_make.proofs.place_where.Goals as goal

pub loop-k-init : goal.loop-k-init
loop-k-init c = (search rules, refl)

pub loop-k-preserved : goal.loop-k-preserved
loop-k-preserved c = (search rules, place_on _ _ _ _ _ _ c.loop-k.invariant.0 c.loop-k.invariant.1 _ _ c.loop-k-test.true refl c.place_if.ensures)

pub returns : goal.returns
returns c = place_end _ _ _ _ _ _ c.loop-k.invariant.0 c.loop-k.invariant.1 c.loop-k-test.false
