use borrow.Author.Rules.{rules}
use Rattle.check_places.proofs.tallies.Statement.{statement}
use Rattle.check_places.proofs.tallies.Tie as tie

pub tallies_spec : {M : Type 1} → statement M
tallies_spec =
    tie.close
    (tie.spec (λ c κs. search rules) (λ c κs. search rules) (λ c κs. search rules) (λ c. search rules) (λ c. (cc, cc)))
