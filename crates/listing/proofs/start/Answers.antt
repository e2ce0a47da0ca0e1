use Rattle.listing.proofs.Steps.{start_is}
use Rattle.listing.proofs.start.Goals as goal

pub returns : goal.returns
returns c = start_is c.fresh-fresh.result _ _ _ _ _ _ _ c.fresh-fresh.ensures
