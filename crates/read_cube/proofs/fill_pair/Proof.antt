use borrow.Author.Rules.{rules}
use Rattle.read_cube.proofs.Parts.{pair_fits, pair_is}
use Rattle.read_cube.proofs.fill_pair.Statement.{statement}
use Rattle.read_cube.proofs.fill_pair.Tie as tie

pub fill_pair_spec : {M : Type 1} → statement M
fill_pair_spec =
    tie.close
    (tie.spec (λ c κs. search rules) (λ c. search rules) (λ c. search rules) (λ c κs. search rules) (λ c. search rules) (λ c. search (rules, pair_fits)) (λ c. search (rules, pair_fits)) (λ c. search rules) (λ c. search pair_is))
