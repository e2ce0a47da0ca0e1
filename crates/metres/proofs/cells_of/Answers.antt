use Rattle.std.proofs.Common.{◌∙◌, sym}
use Rattle.metres.specs.Models.{cells_in}
use Rattle.metres.proofs.cells_of.Goals as goal

pub returns-in_err-cell_of : goal.returns-in_err-cell_of
unfolding cells_in
returns-in_err-cell_of c = c.from_residual.ensures ∙ rw (sym c.in_err-cell_of.ensures)

pub returns-in_err-cell_of-2 : goal.returns-in_err-cell_of-2
unfolding cells_in
returns-in_err-cell_of-2 c = c.from_residual-in_err-cell_of-2.ensures ∙ rw (sym c.in_ok-cell_of.ensures, sym c.in_err-cell_of-2.ensures)

pub returns-in_err-cell_of-3 : goal.returns-in_err-cell_of-3
unfolding cells_in
returns-in_err-cell_of-3 c = c.from_residual-in_err-cell_of-3.ensures ∙ rw (sym c.in_ok-cell_of.ensures, sym c.in_ok-cell_of-2.ensures, sym c.in_err-cell_of-3.ensures)

pub returns-in_err-cell_of-4 : goal.returns-in_err-cell_of-4
unfolding cells_in
returns-in_err-cell_of-4 c = c.from_residual-in_err-cell_of-4.ensures ∙ rw (sym c.in_ok-cell_of.ensures, sym c.in_ok-cell_of-2.ensures, sym c.in_ok-cell_of-3.ensures, sym c.in_err-cell_of-4.ensures)

pub returns : goal.returns
unfolding cells_in
returns c = rw (sym c.in_ok-cell_of.ensures, sym c.in_ok-cell_of-2.ensures, sym c.in_ok-cell_of-3.ensures, sym c.in_ok-cell_of-4.ensures)
