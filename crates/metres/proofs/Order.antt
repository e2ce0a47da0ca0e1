-- `<` of two f64 is `below_bits` of their bits.
use mathlib.Core.Path.{◌≡◌, refl, sym, ap, ◌∙◌}
use mathlib.Core.Bool.{Bool, true, false, not, ◌&&◌, cond, true≢false}
use Prim.Native.Nat.{ℕ, zero, suc, ◌+◌, ◌*◌, ◌/◌, ◌%◌, ◌^◌, ◌≤◌, ◌<◌}
use native.Mathlib.Nat.{le_trans, le_of_eq, lt_of_lt_of_le, mod-lt, mul-pos, mul_comm, mul_assoc, mul_right_comm, mul-le-mul_right, le_of_mul-le-mul_right, add-mul, zero-mul}
use native.Mathlib.Omega.{arith}
use lib.Dec.{T, ltb, eqb}
use lib.Pow.{pow_pos, pow_mono}
use lib.Ieee.{Float, nan as nan_float, inf, fin, binary64, up, down, odd, lt, is_nan, nan_bits, of_fields, of_bits}
use lib.Ieee.Bits.{nan_bits_is}
use lib.Ieee.Fits.{down_pos}
use lib.Ieee.Scale.{finite as finite_float}
use borrow.Author.Tests.{lt-ltb, le-ltb, ltb-true, ltb-false, eqb-true, eqb-false}
use Rattle.metres.specs.Bits.{negative, exponent, fraction, nan, finite, size, units, less, below_bits}
use Rattle.metres.proofs.Laws.{size_lt}
use Rattle.metres.proofs.Product.{Units, read, of_bits_fields_lem}

-- ---- a NaN by its bits

pub nan_bits_lem : (b : ℕ) → nan b ≡ nan_bits binary64 b
unfolding nan_bits
nan_bits_lem b = refl

pub finite_no_nan : (b : ℕ) → T (finite b) → T (not (nan_bits binary64 b))
unfolding nan_bits
finite_no_nan b h = go (eqb (exponent b) 2047) (not (eqb (fraction b) 0)) h
  where
    go : (a c : Bool) → T (not a) → T (not (a && c))
    go true c h = absurd h
    go false c h = tt

-- ---- what the bits say of the value: a number of so many units, or an infinity, with more units than any number

odd_finite : (d : ℕ) (s : Bool) (q k l : ℕ) → T (finite_float (odd d s q k l))
unfolding odd
odd_finite d s zero k l = tt
odd_finite d s (suc q) k l = tt

fields_finite : (s : Bool) (x t : ℕ) → T (not (eqb x 2047)) → T (finite_float (of_fields binary64 s x t))
unfolding of_fields
fields_finite s zero t h = odd_finite 53 s t 0 1074
fields_finite s (suc j) t h = go (eqb (suc j) 2047) h
  where
    go : (a : Bool) → T (not a) → T (finite_float (cond a (cond (eqb t 0) (inf s) nan_float) (odd 53 s (2 ^ 52 + t) j 1074)))
    go true h = absurd h
    go false h = odd_finite 53 s (2 ^ 52 + t) j 1074

-- The number with finite bits b is `units b` times 2 ^ -1074, with the sign of b.
pub units_are : (b : ℕ) → T (finite b) → Units (of_bits binary64 b) (negative b) (units b)
units_are b h =
    rw (of_bits_fields_lem b)
    (read (negative b) (exponent b) (fraction b) (fields_finite (negative b) (exponent b) (fraction b) h))

abbrev all : ℕ
all = 2 ^ 2098

data Sort (v : Float) (s : Bool) (n : ℕ) : Type 0 where
  number : Units v s n → n < all → Sort v s n
  infinite : v ≡ inf s → n ≡ all → Sort v s n

inf_fields : (s : Bool) (x t : ℕ) → x ≡ 2047 → t ≡ 0 → (of_fields binary64 s x t ≡ inf s) × (size x t ≡ all)
unfolding of_fields size
inf_fields s x t e f = rw (e, f) (refl, refl)

finite_size : (b : ℕ) → (exponent b ≡ 2047 → ⊥) → units b < all
finite_size b h = lt_of_lt_of_le (size_lt (exponent b) (fraction b) (mod-lt b (pow_pos 52))) (pow_mono (low b h))
  where
    low : (b : ℕ) → (b % 2 ^ 63 / 2 ^ 52 ≡ 2047 → ⊥) → 52 + b % 2 ^ 63 / 2 ^ 52 ≤ 2098
    low b h = omega arith

sort : (b : ℕ) → nan b ≡ false → Sort (of_bits binary64 b) (negative b) (units b)
sort b h = go (eqb (exponent b) 2047) (eqb (fraction b) 0) refl refl h
  where
    go : (e f : Bool) → eqb (exponent b) 2047 ≡ e → eqb (fraction b) 0 ≡ f → (e && not f) ≡ false → Sort (of_bits binary64 b) (negative b) (units b)
    go true true p q h =
        let i = inf_fields (negative b) (exponent b) (fraction b) (eqb-true (exponent b) 2047 p) (eqb-true (fraction b) 0 q) in
        infinite (of_bits_fields_lem b ∙ i.0) i.1
    go true false p q h = let z : ◌≡◌ {A = ℕ} 0 1 = cc in absurd (omega arith)
    go false f p q h = number (units_are b (rw p tt)) (finite_size b (eqb-false (exponent b) 2047 p))

-- ---- the order of two fractions by other names

not_above : (a b P u v Q : ℕ) → 0 < Q → a * P ≡ u * Q → b * P ≡ v * Q → b ≤ a → v ≤ u
not_above a b P u v Q q e f h = le_of_mul-le-mul_right (le_trans (le_of_eq (sym f)) (le_trans (mul-le-mul_right P h) (le_of_eq e))) q

same_order : (a b P u v Q : ℕ) → 0 < P → 0 < Q → a * P ≡ u * Q → b * P ≡ v * Q → ltb a b ≡ ltb u v
same_order a b P u v Q p q e f = go (ltb a b) (ltb u v) refl refl
  where
    go : (s t : Bool) → ltb a b ≡ s → ltb u v ≡ t → s ≡ t
    go true true i j = refl
    go false false i j = refl
    go true false i j = absurd (let h = not_above u v Q a b P p (sym e) (sym f) (ltb-false u v j) in let g = ltb-true a b i in omega arith)
    go false true i j = absurd (let h = not_above a b P u v Q q e f (ltb-false a b i) in let g = ltb-true u v j in omega arith)

module _ (m n u v P E D : ℕ) (p : 0 < P) (q : 0 < E * D) (a : m * P ≡ u * E) (b : n * P ≡ v * D) where
  left : m * D * P ≡ u * (E * D)
  left = mul_right_comm m D P ∙ ap (λ (z : ℕ). z * D) a ∙ mul_assoc u E D

  right : n * E * P ≡ v * (E * D)
  right = mul_right_comm n E P ∙ ap (λ (z : ℕ). z * E) b ∙ mul_assoc v D E ∙ ap (λ (z : ℕ). v * z) (mul_comm D E)

  cross_up : ltb (m * D) (n * E) ≡ ltb u v
  cross_up = same_order (m * D) (n * E) P u v (E * D) p q left right

  cross_down : ltb (n * E) (m * D) ≡ ltb v u
  cross_down = same_order (n * E) (m * D) P v u (E * D) p q right left

  cross_zero : ltb 0 (m * D + n * E) ≡ ltb 0 (u + v)
  cross_zero =
      same_order 0 (m * D + n * E) P 0 (u + v) (E * D) p q (zero-mul P ∙ sym (zero-mul (E * D)))
      (add-mul (m * D) (n * E) P ∙ ap (λ (z : ℕ). z + n * E * P) left ∙ ap (λ (z : ℕ). u * (E * D) + z) right ∙ sym (add-mul u v (E * D)))

-- ---- the order of two values

numbers : (X Y : Float) (s t : Bool) (n m : ℕ) → Units X s n → Units Y t m → lt X Y ≡ less s n t m
unfolding lt
numbers nan_float Y s t n m a b = absurd a
numbers (inf i) Y s t n m a b = absurd a
numbers (fin i x e) nan_float s t n m a b = absurd b
numbers (fin i x e) (inf j) s t n m a b = absurd b
numbers (fin i x e) (fin j y d) s t n m a b = rw (sym a.0, sym b.0) (go i j)
  where
    q : 0 < down e * down d
    q = mul-pos (down_pos e) (down_pos d)

    go : (i j : Bool) → lt (fin i x e) (fin j y d) ≡ less i n j m
    go true true = unfold less in cross_down (x * up e) (y * up d) n m (2 ^ 1074) (down e) (down d) (pow_pos 1074) q a.1 b.1
    go true false = unfold less in cross_zero (x * up e) (y * up d) n m (2 ^ 1074) (down e) (down d) (pow_pos 1074) q a.1 b.1
    go false true = unfold less in refl
    go false false = unfold less in cross_up (x * up e) (y * up d) n m (2 ^ 1074) (down e) (down d) (pow_pos 1074) q a.1 b.1

same : (n : ℕ) → ltb n n ≡ false
same n = le-ltb n n (omega arith)

inf_inf : (top : ℕ) → 0 < top → (s t : Bool) → lt (inf s) (inf t) ≡ less s top t top
unfolding lt less
inf_inf top p true true = sym (same top)
inf_inf top p true false = sym (lt-ltb 0 (top + top) (omega arith))
inf_inf top p false true = refl
inf_inf top p false false = sym (same top)

inf_number : (top n : ℕ) → n < top → (Y : Float) (s t : Bool) → Units Y t n → lt (inf s) Y ≡ less s top t n
unfolding lt less
inf_number top n h nan_float s t b = absurd b
inf_number top n h (inf j) s t b = absurd b
inf_number top n h (fin j y d) true true b = sym (lt-ltb n top h)
inf_number top n h (fin j y d) true false b = sym (lt-ltb 0 (top + n) (omega arith))
inf_number top n h (fin j y d) false true b = refl
inf_number top n h (fin j y d) false false b = sym (le-ltb top n (omega arith))

number_inf : (top n : ℕ) → n < top → (X : Float) (s t : Bool) → Units X s n → lt X (inf t) ≡ less s n t top
unfolding lt less
number_inf top n h nan_float s t a = absurd a
number_inf top n h (inf j) s t a = absurd a
number_inf top n h (fin j y d) true true a = sym (le-ltb top n (omega arith))
number_inf top n h (fin j y d) true false a = sym (lt-ltb 0 (n + top) (omega arith))
number_inf top n h (fin j y d) false true a = refl
number_inf top n h (fin j y d) false false a = sym (lt-ltb n top h)

sorted : (X Y : Float) (s t : Bool) (n m : ℕ) → Sort X s n → Sort Y t m → lt X Y ≡ less s n t m
sorted X Y s t n m (number a i) (number b j) = numbers X Y s t n m a b
sorted X Y s t n m (number a i) (infinite b j) = rw (b, j) (number_inf all n i X s t a)
sorted X Y s t n m (infinite a i) (number b j) = rw (a, i) (inf_number all m j Y s t b)
sorted X Y s t n m (infinite a i) (infinite b j) = rw (a, b, i, j) (inf_inf all (pow_pos 2098) s t)

-- Of bits that are no NaN's, `below_bits` is `<` of the numbers.
below_is : (w x : ℕ) → nan w ≡ false → nan x ≡ false → lt (of_bits binary64 w) (of_bits binary64 x) ≡ below_bits w x
unfolding below_bits
below_is w x f g = rw (f, g) (sorted (of_bits binary64 w) (of_bits binary64 x) (negative w) (negative x) (units w) (units x) (sort w f) (sort x g))

-- a NaN is neither below nor above anything
nan_lt : (X Y : Float) → is_nan X ≡ true → lt X Y ≡ false
unfolding lt is_nan
nan_lt nan_float Y h = refl
nan_lt (inf s) Y h = absurd (true≢false (sym h))
nan_lt (fin s m e) Y h = absurd (true≢false (sym h))

lt_nan : (X Y : Float) → is_nan Y ≡ true → lt X Y ≡ false
unfolding lt is_nan
lt_nan nan_float nan_float h = refl
lt_nan (inf true) nan_float h = refl
lt_nan (inf false) nan_float h = refl
lt_nan (fin s m e) nan_float h = refl
lt_nan X (inf s) h = absurd (true≢false (sym h))
lt_nan X (fin s m e) h = absurd (true≢false (sym h))

is_a_nan : (b : ℕ) → nan b ≡ true → is_nan (of_bits binary64 b) ≡ true
is_a_nan b h = sym (nan_bits_is binary64 b) ∙ sym (nan_bits_lem b) ∙ h

-- `below_bits` is `<` of the numbers.
pub below_lem : (w x : ℕ) → lt (of_bits binary64 w) (of_bits binary64 x) ≡ below_bits w x
unfolding below_bits
below_lem w x = go (nan w) (nan x) refl refl
  where
    go : (a b : Bool) → nan w ≡ a → nan x ≡ b
        → lt (of_bits binary64 w) (of_bits binary64 x) ≡ (not (nan w) && not (nan x) && less (negative w) (units w) (negative x) (units x))
    go true b e f = rw e (nan_lt (of_bits binary64 w) (of_bits binary64 x) (is_a_nan w e))
    go false true e f = rw (e, f) (lt_nan (of_bits binary64 w) (of_bits binary64 x) (is_a_nan x f))
    go false false e f = below_is w x e f
