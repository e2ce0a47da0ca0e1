use borrow.Author.Rules.{rules}
use Rattle.check_arena.specs.Models.{branch_named}
use Rattle.check_arena.proofs.branch_named.Statement.{statement}
use Rattle.check_arena.proofs.branch_named.Tie as tie

pub branch_named_spec : {M : Type 1} → statement M
unfolding branch_named
branch_named_spec =
    tie.close
    (tie.spec (λ c κs. search rules) (λ c κs. search rules) (λ c. cc))
