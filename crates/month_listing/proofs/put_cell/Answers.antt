use Rattle.std.proofs.Common.{ap, ◌∙◌}
use Rattle.paths.specs.declared.IVec3.{IVec3}
use Rattle.paths.specs.Paths.{to_cell}
use Rattle.paths.proofs.Calls.{position_or}
use Rattle.edit_listing.specs.Listing.{record_depth}
use Rattle.lines.proofs.Pieces.{wrote_number}
use Rattle.month_listing.proofs.Differing.{cell_is}
use Rattle.month_listing.proofs.put_cell.Goals as goal

pub returns : goal.returns
returns c =
    let position = c.unwrap_or-position.ensures ∙ position_or _ c.decode_child_index_path.ensures in
    cell_is _ _ _ c.to_cell-cell.result (c.to_cell-cell.ensures ∙ ap (λ (p : IVec3). to_cell p record_depth) position)
    (wrote_number c.put_number.ensures) (wrote_number c.put_number-2.ensures) (wrote_number c.put_number-3.ensures)
    (wrote_number c.put_number-4.ensures) (wrote_number c.put_number-5.ensures) (wrote_number c.put_number-6.ensures)
