-- The lines of the first i cells are written, and there is room for the rest.
use Rattle.month_listing.proofs.Differing.{Loop}
use Rattle.month_listing.proofs.cell_lines.Given as goal

abbrev pub invariant-loop-i : goal.invariant-loop-i
invariant-loop-i l = Loop l.codes l.lefts l.rights l.from l.count l.fn.out l.cells l.out l.i l.len
