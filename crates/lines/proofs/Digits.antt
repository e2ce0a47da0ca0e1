-- The digits of a number, as they are written, and how many there are.
use mathlib.Core.Path.{◌≡◌, refl, sym, ap, ◌∙◌}
use mathlib.Core.List.{List, [], ◌∷◌, ◌++◌}
use Prim.Native.Nat.{ℕ, zero, suc, ◌+◌, ◌-◌, ◌/◌, ◌%◌, ◌≤◌, ◌<◌}
use native.Mathlib.Decide.{dec_lt}
use native.Mathlib.Nat.{pos_of_ne-zero}
use native.Mathlib.Omega.{arith}
use lib.ListN.{length, set, length-append}
use borrow.Author.Tests.{lt-ltb, le-ltb}
use Rattle.basics.specs.Puts.{puts_from}
use Rattle.basics.proofs.Puts.{puts_one, puts_end, length_end}
use Rattle.lines.specs.Lines.{digits_of}

pub digits_none : (l : List ℕ) (at n left : ℕ) → left ≡ 0 → (l ≡ puts_from l at (digits_of left n)) × (0 ≡ length (digits_of left n)) × (0 ≤ left)
unfolding puts_from digits_of
digits_none l at n left z = rw z (refl, refl, omega arith)

low_digits : (n k : ℕ) → n < 10 → digits_of (suc k) n ≡ (48 + n) ∷ []
unfolding digits_of
low_digits n k h = rw (lt-ltb n 10 h)

high_digits : (n k : ℕ) → 10 ≤ n → digits_of (suc k) n ≡ digits_of k (n / 10) ++ ((48 + n % 10) ∷ [])
unfolding digits_of
high_digits n k h = rw (le-ltb n 10 h)

pub digits_low : (l o : List ℕ) (at n left : ℕ) → (left ≡ 0 → ⊥) → n < 10 → o ≡ set l (at + 0) (48 + n)
    → (o ≡ puts_from l at (digits_of left n)) × (1 ≡ length (digits_of left n)) × (1 ≤ left)
digits_low l o at n left z h e =
    let s : 1 ≤ left = omega (arith, pos_of_ne-zero z) in
    let k : left ≡ suc (left - 1) = omega arith in
    let i : at + 0 ≡ at = omega arith in
    let d : digits_of left n ≡ (48 + n) ∷ [] = ap (λ (j : ℕ). digits_of j n) k ∙ low_digits n (left - 1) h in
    (e ∙ ap (λ (j : ℕ). set l j (48 + n)) i ∙ sym (puts_one l at (48 + n)) ∙ ap (puts_from l at) (sym d), ap length (sym d), s)

pub digits_high : (l m o : List ℕ) (at n left r : ℕ) → (left ≡ 0 → ⊥) → 10 ≤ n
    → (m ≡ puts_from l at (digits_of (left - 1) (n / 10))) × (r ≡ length (digits_of (left - 1) (n / 10))) × (r ≤ left - 1)
    → o ≡ set m (at + r) (48 + n % 10) → (o ≡ puts_from l at (digits_of left n)) × (r + 1 ≡ length (digits_of left n)) × (r + 1 ≤ left)
digits_high l m o at n left r z h (e, k, b) q =
    let s : 1 ≤ left = omega (arith, pos_of_ne-zero z) in
    let j : left ≡ suc (left - 1) = omega arith in
    let d : digits_of left n ≡ digits_of (left - 1) (n / 10) ++ ((48 + n % 10) ∷ []) = ap (λ (i : ℕ). digits_of i n) j ∙ high_digits n (left - 1) h in (
      puts_end l m at r (digits_of (left - 1) (n / 10)) e k o (48 + n % 10) q ∙ ap (puts_from l at) (sym d),
      length_end (digits_of (left - 1) (n / 10)) r (48 + n % 10) k ∙ ap length (sym d),
      omega arith,
    )

pub digits_short : (k n : ℕ) → length (digits_of k n) ≤ k
unfolding digits_of
digits_short zero n = omega arith
digits_short (suc k) n =
    let front = digits_short k (n / 10) in
    elim (dec_lt n 10) [
      | yes h ↦ rw (lt-ltb n 10 h) (omega arith)
      | no h ↦ rw (le-ltb n 10 (omega arith)) (omega (arith, length-append (digits_of k (n / 10)) ((48 + n % 10) ∷ [])))
    ]
