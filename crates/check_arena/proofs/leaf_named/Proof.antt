use borrow.Author.Rules.{rules}
use Rattle.check_arena.specs.Models.{leaf_named}
use Rattle.check_arena.proofs.leaf_named.Statement.{statement}
use Rattle.check_arena.proofs.leaf_named.Tie as tie

pub leaf_named_spec : {M : Type 1} → statement M
unfolding leaf_named
leaf_named_spec =
    tie.close
    (tie.spec (λ c κs. search rules) (λ c κs. search rules) (λ c. cc))
