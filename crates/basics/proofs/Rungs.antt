-- How a ladder of tests, `pick b x y`, is climbed.
use Prim.Native.Nat.{ℕ}
use lib.Dec.{eqb}
use borrow.Author.Rules.{rules}
use borrow.Author.Tests.{lt-ltb, le-ltb, le-leb, lt-leb, eq-eqb, ne_eqb}
use mathlib.Core.Path.{◌≡◌, ◌∙◌, refl, sym}
use mathlib.Core.Bool.{Bool, true, false}
use Rattle.basics.specs.Pick.{pick}

module _ {A : Type 0} (b : Bool) (x y : A) where
  pub pick_yes : b ≡ true → pick b x y ≡ x
  pick_yes e = rw e

  pub pick_no : b ≡ false → pick b x y ≡ y
  pick_no e = rw e

  -- the test is known
  pub rung_yes : (z : A) → b ≡ true → z ≡ x → z ≡ pick b x y
  rung_yes z e h = h ∙ sym (pick_yes e)

  pub rung_no : (z : A) → b ≡ false → z ≡ y → z ≡ pick b x y
  rung_no z e h = h ∙ sym (pick_no e)

  -- the test is known as the flag t that a callee gave for it
  pub via_yes : (t : Bool) (z : A) → t ≡ b → t ≡ true → z ≡ x → z ≡ pick b x y
  via_yes t z e h k = rung_yes z (sym e ∙ h) k

  pub via_no : (t : Bool) (z : A) → t ≡ b → t ≡ false → z ≡ y → z ≡ pick b x y
  via_no t z e h k = rung_no z (sym e ∙ h) k

  -- what a ladder that ended in z says of a rung whose own answer is another
  pub past_yes : (z : A) → (y ≡ z → ⊥) → pick b x y ≡ z → (b ≡ true) × (x ≡ z)
  past_yes z n e = go b refl
    where
      go : (c : Bool) → b ≡ c → (b ≡ true) × (x ≡ z)
      go true d = (d, sym (pick_yes d) ∙ e)
      go false d = absurd (n (sym (pick_no d) ∙ e))

  pub past_no : (z : A) → (x ≡ z → ⊥) → pick b x y ≡ z → (b ≡ false) × (y ≡ z)
  past_no z n e = go b refl
    where
      go : (c : Bool) → b ≡ c → (b ≡ false) × (y ≡ z)
      go true d = absurd (n (sym (pick_yes d) ∙ e))
      go false d = (d, sym (pick_no d) ∙ e)

pub eq_via : (t v k : ℕ) → t ≡ v → t ≡ k → eqb v k ≡ true
eq_via t v k e h = eq-eqb v k (sym e ∙ h)

pub ne_via : (t v k : ℕ) → t ≡ v → (t ≡ k → ⊥) → eqb v k ≡ false
ne_via t v k e h = ne_eqb v k (λ p. h (e ∙ p))

pub ruleset tests = (lt-ltb, le-ltb, le-leb, lt-leb, eq-eqb, ne_eqb)

pub ruleset rungs = (rules, tests, rung_yes, rung_no, via_yes, via_no)
