use borrow.Author.Rules.{rules}
use native.Mathlib.Omega.{arith}
use Prim.Native.Nat.{ℕ, ◌≤◌, ◌<◌, ◌^◌}
use mathlib.Core.Path.{◌≡◌}
use mathlib.Core.List.{List}
use borrow.Author.Tests.{le-leb, lt-leb}
use Rattle.nodes.specs.Words.{own, mark, fact_of, fact_put, floor}
use Rattle.check_places.specs.Models.{unmarked}
use Rattle.check_places.proofs.clear_mark.Statement.{statement}
use Rattle.check_places.proofs.clear_mark.Tie as tie

live : (f m : List ℕ) (s w : ℕ) → w ≡ fact_of f s own → 2 ^ 47 ≤ w → m ≡ fact_put f s mark 0 → m ≡ unmarked f s
unfolding floor unmarked
live f m s w e h d = rw (le-leb (2 ^ 47) (fact_of f s own) (omega arith)) d

dead : (f : List ℕ) (s w : ℕ) → w ≡ fact_of f s own → w < 2 ^ 47 → f ≡ unmarked f s
unfolding floor unmarked
dead f s w e h = rw (lt-leb (2 ^ 47) (fact_of f s own) (omega arith))

ruleset mine = (live, dead)

pub clear_mark_spec : {M : Type 1} → statement M
clear_mark_spec =
    tie.close
    (tie.spec (λ c κs. search rules) (λ c κs. search rules) (λ c. search rules) (λ c. search mine) (λ c. search rules)
    (λ c. search mine))
