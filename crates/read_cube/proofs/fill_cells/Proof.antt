use borrow.Author.Rules.{rules}
use Rattle.read_cube.proofs.Parts.{cells_all}
use Rattle.read_cube.proofs.fill_cells.Statement.{statement}
use Rattle.read_cube.proofs.fill_cells.Tie as tie

pub fill_cells_spec : {M : Type 1} → statement M
fill_cells_spec =
    tie.close
    (tie.spec (λ c κs. search rules) (λ c κs. search rules) (λ c κs. search rules) (λ c. search rules) (λ c. search cells_all))
