use borrow.Author.Rules.{rules}
use Rattle.read_cell.proofs.Ends.{val_word}
use Rattle.read_cell.proofs.value_once.Statement.{statement}
use Rattle.read_cell.proofs.value_once.Tie as tie

pub value_once_spec : {M : Type 1} → statement M
value_once_spec =
    tie.close
    (tie.spec (λ c κs. search rules) (λ c κs. search rules) (λ c κs. search rules) (λ c. search val_word))
