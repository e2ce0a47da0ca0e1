use Rattle.month_listing.proofs.Differing.{taken_is}
use Rattle.month_listing.proofs.cells_taken.Goals as goal

pub returns : goal.returns
returns c = taken_is _ _ _ _ c.saturating_sub.ensures c.min.ensures
