-- How a ladder of tests, `pick b x y`, is climbed, and what it tells. `t` and `w` are what a callee gave for the test b and the number x.
use mathlib.Core.Path.{◌≡◌, refl, sym, ◌∙◌}
use mathlib.Core.Logic.{◌↔◌}
use mathlib.Core.Bool.{Bool, true, false, not, true≢false}
use Prim.Native.Nat.{ℕ, ◌≤◌, ◌<◌}
use native.Mathlib.Omega.{arith}
use lib.Dec.{eqb, leb, ltb}
use borrow.Author.Tests.{lt-ltb, le-ltb, le-leb, lt-leb, eq-eqb, ne_eqb, eqb-true, leb-true, ltb-true, not-true, not-false}
use Rattle.basics.specs.Pick.{pick}
use Rattle.basics.proofs.Rungs.{pick_yes, pick_no, via_yes, via_no}

module _ (b x y z t : Bool) (e : t ≡ b) where
  pub not_yes : not t ≡ true → z ≡ y → z ≡ pick b x y
  not_yes h k = via_no b x y t z e (not-true t h) k

  pub not_no : not t ≡ false → z ≡ x → z ≡ pick b x y
  not_no h k = via_yes b x y t z e (not-false t h) k

module _ (x y z : Bool) (a b w v : ℕ) (e : w ≡ a) (d : v ≡ b) where
  pub eq_yes : w ≡ v → z ≡ x → z ≡ pick (eqb a b) x y
  eq_yes h k = k ∙ sym (pick_yes (eqb a b) x y (eq-eqb a b (sym e ∙ h ∙ d)))

  pub le_yes : w ≤ v → z ≡ x → z ≡ pick (leb a b) x y
  le_yes h k = k ∙ sym (pick_yes (leb a b) x y (le-leb a b (omega arith)))

  pub le_no : v < w → z ≡ y → z ≡ pick (leb a b) x y
  le_no h k = k ∙ sym (pick_no (leb a b) x y (lt-leb a b (omega arith)))

  pub lt_yes : w < v → z ≡ x → z ≡ pick (ltb a b) x y
  lt_yes h k = k ∙ sym (pick_yes (ltb a b) x y (lt-ltb a b (omega arith)))

  pub lt_no : v ≤ w → z ≡ y → z ≡ pick (ltb a b) x y
  lt_no h k = k ∙ sym (pick_no (ltb a b) x y (le-ltb a b (omega arith)))

module _ (x y z : Bool) (a b : ℕ) where
  pub ne_left : (w : ℕ) → w ≡ a → (w ≡ b → ⊥) → z ≡ y → z ≡ pick (eqb a b) x y
  ne_left w e h k = k ∙ sym (pick_no (eqb a b) x y (ne_eqb a b (λ q. h (e ∙ q))))

  pub ne_is : (a ≡ b → ⊥) → z ≡ y → z ≡ pick (eqb a b) x y
  ne_is h k = ne_left a refl h k

-- the last test is the answer
module _ (a b w v : ℕ) (e : w ≡ a) (d : v ≡ b) where
  pub same_eq : eqb w v ≡ eqb a b
  same_eq = cc

  pub same_lt : ltb w v ≡ ltb a b
  same_lt = cc

  pub same_le : leb w v ≡ leb a b
  same_le = cc

pub ruleset flags = (via_yes, via_no, not_yes, not_no, refl)

pub ruleset numbers = (eq_yes, ne_is, ne_left, le_yes, le_no, lt_yes, lt_no, same_eq, same_lt, same_le, refl)

pub ruleset ladder = (flags, numbers)

-- ---- what a test tells: it is true exactly if P

abbrev pub Tells : Bool → Type 0 → Type 0
Tells b P = (b ≡ true) ↔ P

pub tells_eq : (a b : ℕ) → Tells (eqb a b) (a ≡ b)
tells_eq a b = (eqb-true a b, eq-eqb a b)

pub tells_le : (a b : ℕ) → Tells (leb a b) (a ≤ b)
tells_le a b = (leb-true a b, le-leb a b)

pub tells_lt : (a b : ℕ) → Tells (ltb a b) (a < b)
tells_lt a b = (ltb-true a b, lt-ltb a b)

module _ {P Q : Type 0} where
  pub tells_map : {b : Bool} → (P → Q) → (Q → P) → Tells b P → Tells b Q
  tells_map f g h = ((λ e. f (h.0 e)), (λ q. h.1 (g q)))

  -- one test and then another
  pub tells_and : {b x : Bool} → Tells b P → (P → Tells x Q) → Tells (pick b x false) (P × Q)
  tells_and {b = true} h f = ((λ e. (h.0 refl, (f (h.0 refl)).0 e)), (λ r. (f r.0).1 r.1))
  tells_and {b = false} h f = ((λ e. absurd (true≢false (sym e))), (λ r. h.1 r.0))

  -- one of two tests, by a third
  pub tells_if : {b x y : Bool} → Tells b P → (P → Tells x Q) → ((P → ⊥) → Tells y Q) → Tells (pick b x y) Q
  tells_if {b = true} h f g = f (h.0 refl)
  tells_if {b = false} h f g = g (λ p. true≢false (sym (h.1 p)))

  -- the second only if the first is true, or only if it is not
  pub tells_then : {b x : Bool} → Tells b P → (P → Tells x Q) → Tells (pick b x true) (P → Q)
  tells_then {b = true} h f = ((λ e p. (f p).0 e), (λ r. (f (h.0 refl)).1 (r (h.0 refl))))
  tells_then {b = false} h f = ((λ e p. absurd (true≢false (sym (h.1 p)))), (λ r. refl))

  pub tells_else : {b x : Bool} → Tells b P → ((P → ⊥) → Tells x Q) → Tells (pick b true x) ((P → ⊥) → Q)
  tells_else {b = true} h f = ((λ e n. absurd (n (h.0 refl))), (λ r. refl))
  tells_else {b = false} h f = let no : P → ⊥ = (λ p. true≢false (sym (h.1 p))) in ((λ e n. (f n).0 e), (λ r. (f no).1 (r no)))

  -- a test that must fail
  pub tells_not : {b x : Bool} → Tells b P → Tells x Q → Tells (pick b false x) ((P → ⊥) × Q)
  tells_not {b = true} h f = ((λ e. absurd (true≢false (sym e))), (λ r. absurd (r.0 (h.0 refl))))
  tells_not {b = false} h f = ((λ e. ((λ p. true≢false (sym (h.1 p))), f.0 e)), (λ r. f.1 r.1))
