use Rattle.edit_listing.proofs.Records.{cell_is}
use Rattle.edit_listing.proofs.cell_in.Goals as goal

pub returns : goal.returns
returns c = cell_is _ c.from.ensures c.word.ensures c.from-2.ensures c.word-2.ensures c.from-3.ensures c.word-3.ensures
