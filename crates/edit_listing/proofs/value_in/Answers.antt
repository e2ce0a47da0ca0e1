use Rattle.edit_listing.specs.Listing.{value_in}
use Rattle.edit_listing.proofs.value_in.Goals as goal

pub returns : goal.returns
unfolding value_in
returns c = c.word.ensures.0
