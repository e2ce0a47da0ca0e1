use Rattle.std.proofs.Common.{refl}
use Rattle.listing.proofs.Steps.{to_refused, to_accepted}
use Rattle.listing.proofs.step_to.Goals as goal

pub returns-then-made-ne0 : goal.returns-then-made-ne0
returns-then-made-ne0 c = to_refused _ c.args.run.root c.args.run.count c.args.made _ _ _ _ refl c.if-made-ne0.true

pub returns : goal.returns
returns c = to_accepted _ c.args.run.root c.args.run.count c.args.made _ _ _ _ refl c.if-made-ne0.false c.release-released.result _ _ _ c.release-released.ensures
