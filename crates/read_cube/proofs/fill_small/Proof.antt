use borrow.Author.Rules.{rules}
use Rattle.read_cube.proofs.Parts.{small_none, small_end, small_cells}
use Rattle.read_cube.proofs.fill_small.Statement.{statement}
use Rattle.read_cube.proofs.fill_small.Tie as tie

pub fill_small_spec : {M : Type 1} → statement M
fill_small_spec =
    tie.close
    (tie.spec (λ c. search small_none) (λ c κs. search rules) (λ c κs. search rules) (λ c. search rules) (λ c. search small_end) (λ c κs. search rules) (λ c. search rules)
    (λ c. search small_cells))
