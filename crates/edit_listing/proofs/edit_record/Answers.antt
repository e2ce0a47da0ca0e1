use Rattle.edit_listing.proofs.Records.{edited_is}
use Rattle.edit_listing.proofs.edit_record.Goals as goal

pub returns : goal.returns
returns c = λ fair. edited_is _ _ _ _ _ _ c.cell_in-cell.ensures c.value_in-value.ensures (c.set_voxel.ensures fair)
