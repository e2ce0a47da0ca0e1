use Rattle.listing.proofs.Puts.{text_parts}
use Rattle.listing.proofs.text_of.Goals as goal

pub returns : goal.returns
returns c = text_parts _ _ c.text.ensures
