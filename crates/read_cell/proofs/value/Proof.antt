use borrow.Author.Rules.{rules}
use Rattle.read_cell.proofs.Ends.{val_word}
use Rattle.read_cell.proofs.value.Statement.{statement}
use Rattle.read_cell.proofs.value.Tie as tie

pub value_spec : {M : Type 1} → statement M
value_spec =
    tie.close
    (tie.spec (λ c κs. search rules) (λ c κs. search rules) (λ c κs. search rules) (λ c. search val_word))
