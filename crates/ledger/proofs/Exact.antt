-- A ladder whose numbers rise gives the lowest number that applies.
use mathlib.Core.Path.{◌≡◌, refl, sym, ◌∙◌, subst}
use mathlib.Core.Bool.{Bool}
use mathlib.Core.List.{List}
use Prim.Native.Nat.{ℕ}
use native.Mathlib.Decide.{ℕ_discrete}
use native.Mathlib.Omega.{arith}
use Rattle.nodes.proofs.Sums.{cases}
use Rattle.basics.specs.Ladder.{ladder, order, Decided, Rising, Listed, Given}
use Rattle.basics.proofs.Ladder.{ladder_given, rising_positive, first_applies, first_lower, lowest_first}
use Rattle.ledger.specs.Refusals.{Exactly}

module _ (A : ℕ → Type 0) where
  given_exactly : (ks : List ℕ) (x : ℕ) → Rising 0 ks → Listed A ks → Given A ks x → Exactly A x
  given_exactly ks x r s g = record {
    refused = λ k q. (
      (λ e. let f = (g.refused k q).0 e in record { this = first_applies A ks k f; lower = λ j l a. first_lower A 0 ks k r f j (s j a) l a }),
      (λ l. (g.refused k q).1 (lowest_first A 0 ks k r (s k l.this) l.this l.lower)),
    );
    accepted = g.accepted;
  }

  pub exactly_as : {x y : ℕ} → x ≡ y → Exactly A y → Exactly A x
  exactly_as e h = subst (λ (z : ℕ). Exactly A z) (sym e) h

  -- x is the number of a ladder that decides, with rising numbers
  pub exactly : (l : List (Bool × ℕ)) (x : ℕ) → x ≡ ladder l → Rising 0 (order l) → Listed A (order l) → Decided A l → Exactly A x
  exactly l x e r s d = exactly_as e (given_exactly (order l) (ladder l) r s (ladder_given A l (rising_positive A 0 (order l) r) s d))

  -- what says when each number is given leaves one number
  pub exactly_one : (x y : ℕ) → Exactly A x → Exactly A y → x ≡ y
  exactly_one x y p q = cases (ℕ_discrete x 0)
      (λ e. e ∙ sym (q.accepted.1 (p.accepted.0 e)))
      (λ e. sym ((q.refused x (omega arith)).1 ((p.refused x (omega arith)).0 refl)))
