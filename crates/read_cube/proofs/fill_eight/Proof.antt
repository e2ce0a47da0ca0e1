use borrow.Author.Rules.{rules}
use Rattle.read_cube.proofs.Parts.{eight_is}
use Rattle.read_cube.proofs.fill_eight.Statement.{statement}
use Rattle.read_cube.proofs.fill_eight.Tie as tie

pub fill_eight_spec : {M : Type 1} → statement M
fill_eight_spec =
    tie.close
    (tie.spec (λ c. search rules) (λ c. search rules) (λ c κs. search rules) (λ c. search rules) (λ c. search rules)
    (λ c. search rules) (λ c κs. search rules) (λ c. search rules) (λ c. search rules) (λ c. search rules) (λ c κs. search rules) (λ c. search rules)
    (λ c. search rules) (λ c. search rules) (λ c. search rules) (λ c κs. search rules) (λ c. search rules) (λ c.
    eight_is _ _ _ _ _ _ _ _ _ _ c.before.before.before.before.before.before.before.before.before.before.before.before.before.before.fill_pair.ensures c.before.before.before.before.before.before.before.before.before.before.fill_pair-2.ensures c.before.before.before.before.before.before.fill_pair-3.ensures c.before.before.fill_pair-4.ensures))
