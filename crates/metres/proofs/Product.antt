-- An f64 times 2 ^ k, read by its bits: the size is 2 ^ k times as large, or the product is an infinity, and then both are far outside.
use mathlib.Core.Path.{◌≡◌, refl, sym, ap, ◌∙◌, subst}
use mathlib.Core.Logic.{◌⊎◌, inl, inr}
use mathlib.Core.Bool.{Bool, true, false, not, cond, true≢false}
use Prim.Native.Nat.compare
use Prim.Native.Nat.{ℕ, zero, suc, ◌+◌, ◌-◌, ◌*◌, ◌/◌, ◌%◌, ◌^◌, ◌≤◌, ◌<◌, compare, Ordering}
use native.Mathlib.Nat.{le_trans, le_of_eq, lt_irrefl, mod-lt, mul-one, one-mul, mul_comm, mul_assoc, mul_right_comm, mul-pos, mul-le-mul_left, mul-div_cancel, mul-mod_left, eq_of_mul-eq-mul_right}
use native.Mathlib.Omega.{arith}
use lib.IntN.{ℤ, pos}
use lib.Dec.{T, ltb, eqb, lit≤, ltb→lt, nltb→le}
use lib.Arith.{le→nltb}
use lib.Pow.{pow-add, pow_pos, pow_mono, shl_lt}
use lib.Ieee.{units as grains, size as span, Float, nan, inf, fin, binary64, up, down, nearest, odd, round, mul, fits, is_nan, nan_bits, of_fields, of_bits, to_bits}
use lib.Ieee.Digits.{size-le, back}
use lib.Ieee.Fits.{core, round_is, down_pos, mul-fits}
use lib.Ieee.Exact.{HasValue, odd_sign, units_val}
use lib.Ieee.Bits.{of_bits-to_bits, nan_bits_is, cond_no}
use lib.Ieee.Scale.{finite}
use Rattle.basics.specs.Limits.{finest_edge}
use Rattle.metres.specs.Bits.{negative, exponent, fraction, size, units, placed, cell_of}
use Rattle.std.specs.declared.option.Option.{Option}
use Rattle.std.specs.declared.option.Option.TheVariants.{None}
use Rattle.metres.proofs.Laws.{far, with_lead}

-- ---- the float 2 ^ k, for the seven k

pub power_is : (k : ℕ) → k ≤ finest_edge → of_bits binary64 ((1023 + k) * 2 ^ 52) ≡ fin false 1 (pos k)
unfolding of_bits
power_is zero h = refl
power_is (suc zero) h = refl
power_is (suc (suc zero)) h = refl
power_is (suc (suc (suc zero))) h = refl
power_is (suc (suc (suc (suc zero)))) h = refl
power_is (suc (suc (suc (suc (suc zero))))) h = refl
power_is (suc (suc (suc (suc (suc (suc zero)))))) h = refl
power_is (suc (suc (suc (suc (suc (suc (suc k))))))) h = absurd (none k h)
  where
    none : (k : ℕ) → suc (suc (suc (suc (suc (suc (suc k)))))) ≤ 6 → ⊥
    none k h = omega arith

pub power_no_nan : (k : ℕ) → k ≤ finest_edge → T (not (nan_bits binary64 ((1023 + k) * 2 ^ 52)))
unfolding is_nan
power_no_nan k h = subst (λ (b : Bool). T (not b)) (sym (nan_bits_is binary64 ((1023 + k) * 2 ^ 52) ∙ ap is_nan (power_is k h))) tt

-- ---- v is a number of n units of 2 ^ -1074, with the sign s

abbrev pub Units : Float → Bool → ℕ → Type 0
Units v s n = HasValue v s n (2 ^ 1074)

pub of_bits_fields_lem : (b : ℕ) → of_bits binary64 b ≡ of_fields binary64 (negative b) (exponent b) (fraction b)
unfolding of_bits
of_bits_fields_lem b = refl

pub read : (s : Bool) (x t : ℕ) → T (finite (of_fields binary64 s x t)) → Units (of_fields binary64 s x t) s (size x t)
unfolding of_fields size
read s zero t p = subst (λ (n : ℕ). HasValue (odd 53 s t 0 1074) s n (2 ^ 1074)) (mul-one t) (odd_sign 53 s t 0 1074)
read s (suc j) t p = go (eqb (suc j) 2047) (eqb t 0) p
  where
    go : (a c : Bool) → T (finite (cond a (cond c (inf s) nan) (odd 53 s (2 ^ 52 + t) j 1074))) → HasValue (cond a (cond c (inf s) nan) (odd 53 s (2 ^ 52 + t) j 1074)) s ((2 ^ 52 + t) * 2 ^ j) (2 ^ 1074)
    go true true p = absurd p
    go true false p = absurd p
    go false c p = odd_sign 53 s (2 ^ 52 + t) j 1074

-- what a finite value's bits say is the value
value_of : (v : Float) → T (fits binary64 v) → T (finite v) → Units v (negative (to_bits binary64 v)) (units (to_bits binary64 v))
value_of v F h =
    let b = to_bits binary64 v in
    let e : of_fields binary64 (negative b) (exponent b) (fraction b) ≡ v = sym (of_bits_fields_lem b) ∙ of_bits-to_bits binary64 v F in
    subst (λ (z : Float). Units z (negative b) (units b)) e (read (negative b) (exponent b) (fraction b) (subst (λ (z : Float). T (finite z)) (sym e) h))

unique : (v : Float) (s s' : Bool) (n n' : ℕ) → Units v s n → Units v s' n' → (s ≡ s') × (n ≡ n')
unique nan s s' n n' h k = absurd h
unique (inf t) s s' n n' h k = absurd h
unique (fin t m e) s s' n n' h k = (sym h.0 ∙ k.0, eq_of_mul-eq-mul_right (down e) (down_pos e) n n' (sym h.1 ∙ k.1))

-- a size has at most 53 digits before its zeros
digits : (x t : ℕ) → t < 2 ^ 52 → (q : ℕ) × (j : ℕ) × (q < 2 ^ 53) × (size x t ≡ q * 2 ^ j)
unfolding size
digits zero t h = (t, 0, go t h, sym (mul-one t))
  where
    go : (t : ℕ) → t < 2 ^ 52 → t < 2 ^ 53
    go t h = omega arith
digits (suc j) t h = (2 ^ 52 + t, j, with_lead t h, refl)

-- ---- `round` at a number of at most 53 digits, be it in range or not

above_zero : (u : ℕ) → 0 < u → compare 0 u ≡ Ordering.lt
above_zero zero h = absurd (lt_irrefl 0 h)
above_zero (suc u) h = compare.zero-suc u

core_exact : (s : Bool) (den k q : ℕ) → 0 < den * 2 ^ k → core binary64 s (q * (den * 2 ^ k)) den k ≡ grains binary64 s q k
core_exact s den k q h =
    let u = den * 2 ^ k in
    ap (λ (x : ℕ). grains binary64 s (nearest x (compare (q * u % u * 2) u)) k) (mul-div_cancel q h)
    ∙ ap (λ (x : ℕ). grains binary64 s (nearest q (compare (x * 2) u)) k) (mul-mod_left q u)
    ∙ ap (λ (o : Ordering). grains binary64 s (nearest q o) k) (above_zero u h)

round_units : (s : Bool) (num den q j : ℕ) → 0 < den → q < 2 ^ 53 → num * 2 ^ 1074 ≡ q * 2 ^ j * den
    → (r : ℕ) × (i : ℕ) × (r * 2 ^ i ≡ q * 2 ^ j) × (round binary64 s num den ≡ grains binary64 s r i)
round_units s num den q j dp small h =
    let n = num * 2 ^ 1074 in
    let e1 : n / den ≡ q * 2 ^ j = ap (λ (x : ℕ). x / den) h ∙ mul-div_cancel (q * 2 ^ j) dp in
    let k = span (n / den) - 53 in
    let k-le : k ≤ j = spare (span (n / den)) j (size-le (n / den) (53 + j) (subst (λ (x : ℕ). x < 2 ^ (53 + j)) (sym e1) (shl_lt 53 j small))) in
    let r = q * 2 ^ (j - k) in
    let e3 : r * 2 ^ k ≡ q * 2 ^ j = mul_assoc q (2 ^ (j - k)) (2 ^ k) ∙ ap (λ (x : ℕ). q * x) (sym (pow-add 2 (j - k) k) ∙ ap (λ (x : ℕ). 2 ^ x) (back j k k-le)) in
    let e2 : n ≡ r * (den * 2 ^ k) = h ∙ ap (λ (x : ℕ). x * den) (sym e3) ∙ mul_assoc r (2 ^ k) den ∙ ap (λ (x : ℕ). r * x) (mul_comm (2 ^ k) den) in
    (r, k, e3, round_is binary64 s num den ∙ ap (λ (x : ℕ). core binary64 s x den k) e2 ∙ core_exact s den k r (mul-pos dp (pow_pos k)))
  where
    spare : (z l : ℕ) → z ≤ 53 + l → z - 53 ≤ l
    spare z l h = omega arith

-- ---- the product

-- n units with the sign s; or, from 2 ^ 2098 units on, an infinity
abbrev Made : Float → Bool → ℕ → Type 0
Made y s n = Units y s n ⊎ ((y ≡ inf s) × (2 ^ 2098 ≤ n))

over : (s : Bool) (r i : ℕ) → 2 ^ 2098 ≤ r * 2 ^ i → grains binary64 s r i ≡ inf s
unfolding grains
over s r i h = cond_no (ltb (r * 2 ^ i) (2 ^ 2098)) (odd 54 s r i 1074) (inf s) (le→nltb (r * 2 ^ i) (2 ^ 2098) h)

made : (s : Bool) (r i : ℕ) → Made (grains binary64 s r i) s (r * 2 ^ i)
made s r i = go (ltb (r * 2 ^ i) (2 ^ 2098)) (ltb→lt (r * 2 ^ i) (2 ^ 2098)) (nltb→le (r * 2 ^ i) (2 ^ 2098))
  where
    go : (b : Bool) → (T b → r * 2 ^ i < 2 ^ 2098) → (T (not b) → 2 ^ 2098 ≤ r * 2 ^ i) → Made (grains binary64 s r i) s (r * 2 ^ i)
    go true h k = inl (units_val binary64 s r i (h tt))
    go false h k = inr (over s r i (k tt), k tt)

mul_is : (s : Bool) (m : ℕ) (e : ℤ) (k : ℕ) → mul binary64 (fin s m e) (fin false 1 (pos k)) ≡ round binary64 s (m * up e * (1 * 2 ^ k)) (down e * 1)
unfolding mul
mul_is true m e k = refl
mul_is false m e k = refl

scaled : (A P K Q J D : ℕ) → A * P ≡ Q * J * D → A * (1 * K) * P ≡ Q * (J * K) * (D * 1)
scaled A P K Q J D h =
    ap (λ (z : ℕ). A * z * P) (one-mul K)
    ∙ mul_right_comm A K P
    ∙ ap (λ (z : ℕ). z * K) h
    ∙ mul_right_comm (Q * J) D K
    ∙ ap (λ (z : ℕ). z * D) (mul_assoc Q J K)
    ∙ ap (λ (z : ℕ). Q * (J * K) * z) (sym (mul-one D))

times : (s : Bool) (m : ℕ) (e : ℤ) (k q j : ℕ) → q < 2 ^ 53 → Units (fin s m e) s (q * 2 ^ j) → Made (mul binary64 (fin s m e) (fin false 1 (pos k))) s (q * 2 ^ j * 2 ^ k)
times s m e k q j Q h =
    let num = m * up e * (1 * 2 ^ k) in
    let den = down e * 1 in
    let z =
    round_units s num den q (j + k) (subst (λ (c : ℕ). 0 < c) (sym (mul-one (down e))) (down_pos e)) Q
    (scaled (m * up e) (2 ^ 1074) (2 ^ k) q (2 ^ j) (down e) h.1 ∙ ap (λ (c : ℕ). q * c * den) (sym (pow-add 2 j k))) in
    let n : z.0 * 2 ^ z.1 ≡ q * 2 ^ j * 2 ^ k = z.2 ∙ ap (λ (c : ℕ). q * c) (pow-add 2 j k) ∙ sym (mul_assoc q (2 ^ j) (2 ^ k)) in
    subst (λ (y : Float). Made y s (q * 2 ^ j * 2 ^ k)) (sym (mul_is s m e k ∙ z.3)) (subst (λ (c : ℕ). Made (grains binary64 s z.0 z.1) s c) n (made s z.0 z.1))

-- ---- where the product's bits place it

at_inf : (s : Bool) → units (to_bits binary64 (inf s)) ≡ 2 ^ 2098
unfolding to_bits size
at_inf true = refl
at_inf false = refl

beyond : (s : Bool) (n d : ℕ) → d ≤ 10 → 2 ^ 2098 ≤ n → None ≡ placed s n d
beyond s n d D h = far s n d (le_trans (pow_mono (go d D)) h)
  where
    go : (d : ℕ) → d ≤ 10 → 1074 + d ≤ 2098
    go d h = omega arith

grow : (n k : ℕ) → n ≤ n * 2 ^ k
grow n k = le_trans (le_of_eq (sym (mul-one n))) (mul-le-mul_left n (pow_pos k))

nan_cell : (k d : ℕ) → d ≤ 10 → None ≡ cell_of (to_bits binary64 nan) k d
unfolding to_bits size
nan_cell k d D = beyond false ((2 ^ 52 + 2 ^ 51) * 2 ^ 2046 * 2 ^ k) d D (le_trans (lit≤ tt) (grow ((2 ^ 52 + 2 ^ 51) * 2 ^ 2046) k))

is_finite : (y : Float) (s : Bool) (n : ℕ) → Units y s n → T (finite y)
is_finite nan s n h = absurd h
is_finite (inf t) s n h = absurd h
is_finite (fin t m e) s n h = tt

finish : (y : Float) (s : Bool) (n d : ℕ) → d ≤ 10 → T (fits binary64 y) → Made y s n → placed (negative (to_bits binary64 y)) (units (to_bits binary64 y)) d ≡ placed s n d
finish y s n d D F (inl h) =
    let b = to_bits binary64 y in
    let u = unique y (negative b) s (units b) n (value_of y F (is_finite y s n h)) h in
    ap (λ (c : Bool). placed c (units b) d) u.0 ∙ ap (λ (c : ℕ). placed s c d) u.1
finish y s n d D F (inr h) =
    let b = to_bits binary64 y in
    sym (beyond (negative b) (units b) d D (le_of_eq (sym (ap (λ (v : Float). units (to_bits binary64 v)) h.0 ∙ at_inf s)))) ∙ beyond s n d D h.1

inf_times : (s : Bool) (k : ℕ) → mul binary64 (inf s) (fin false 1 (pos k)) ≡ inf (negative (to_bits binary64 (inf s)))
unfolding mul to_bits
inf_times true k = refl
inf_times false k = refl

product_cell : (x : Float) (k d : ℕ) → d ≤ 10 → T (fits binary64 x) → T (not (is_nan x))
    → placed (negative (to_bits binary64 (mul binary64 x (fin false 1 (pos k))))) (units (to_bits binary64 (mul binary64 x (fin false 1 (pos k))))) d ≡ cell_of (to_bits binary64 x) k d
unfolding is_nan
product_cell nan k d D F N = absurd N
product_cell (inf s) k d D F N =
    let b = to_bits binary64 (inf s) in
    finish (mul binary64 (inf s) (fin false 1 (pos k))) (negative b) (units b * 2 ^ k) d D (mul-fits binary64 (inf s) (fin false 1 (pos k)))
    (inr (inf_times s k, le_trans (le_of_eq (sym (at_inf s))) (grow (units b) k)))
product_cell (fin s m e) k d D F N =
    let v = fin s m e in
    let b = to_bits binary64 v in
    let o = value_of v F tt in
    let g = digits (exponent b) (fraction b) (mod-lt b (pow_pos 52)) in
    let h : Units v s (g.0 * 2 ^ g.1) = (refl, o.1 ∙ ap (λ (c : ℕ). c * down e) g.3) in
    finish (mul binary64 v (fin false 1 (pos k))) (negative b) (units b * 2 ^ k) d D (mul-fits binary64 v (fin false 1 (pos k)))
    (subst (λ (c : Bool). Made (mul binary64 v (fin false 1 (pos k))) c (units b * 2 ^ k)) o.0
    (subst (λ (c : ℕ). Made (mul binary64 v (fin false 1 (pos k))) s (c * 2 ^ k)) (sym g.3) (times s m e k g.0 g.1 g.2 h)))

-- ---- what `cell_of` asks besides

grains_no_nan : (s : Bool) (q k : ℕ) → T (not (is_nan (grains binary64 s q k)))
unfolding grains odd is_nan
grains_no_nan s q k = go (ltb (q * 2 ^ k) (2 ^ 2098)) q
  where
    go : (b : Bool) (q : ℕ) → T (not (is_nan (cond b (odd 54 s q k 1074) (inf s))))
    go true zero = tt
    go true (suc q) = tt
    go false q = tt

round_no_nan : (s : Bool) (n c : ℕ) → T (not (is_nan (round binary64 s n c)))
unfolding round
round_no_nan s n c =
    let u = n * 2 ^ 1074 in
    let k = span (u / c) - 53 in
    grains_no_nan s (nearest (u / (c * 2 ^ k)) (compare (u % (c * 2 ^ k) * 2) (c * 2 ^ k))) k

product_no_nan : (x : Float) (k : ℕ) → T (not (is_nan x)) → T (not (is_nan (mul binary64 x (fin false 1 (pos k)))))
unfolding is_nan
product_no_nan nan k N = absurd N
product_no_nan (inf s) k N = subst (λ (y : Float). T (not (is_nan y))) (sym (inf_times s k)) tt
product_no_nan (fin s m e) k N = subst (λ (y : Float). T (not (is_nan y))) (sym (mul_is s m e k)) (round_no_nan s (m * up e * (1 * 2 ^ k)) (down e * 1))

-- ---- `cell_of`, by its test and by what its callees answered

module _ (x : Float) (k d : ℕ) where
  pub nan_outside : d ≤ 10 → is_nan x ≡ true → None ≡ cell_of (to_bits binary64 x) k d
  unfolding is_nan
  nan_outside D h = go x h
    where
      go : (y : Float) → is_nan y ≡ true → None ≡ cell_of (to_bits binary64 y) k d
      go nan h = nan_cell k d D
      go (inf s) h = absurd (true≢false (sym h))
      go (fin s m e) h = absurd (true≢false (sym h))

  module _ (p : Float) (e : p ≡ fin false 1 (pos k)) (h : is_nan x ≡ false) where
    pub product_number : T (not (is_nan (mul binary64 x p)))
    product_number = rw e (product_no_nan x k (rw h tt))

    pub product_placed : (r : Option ℕ) → d ≤ 10 → fits binary64 x ≡ true → r ≡ placed (negative (to_bits binary64 (mul binary64 x p))) (units (to_bits binary64 (mul binary64 x p))) d
        → r ≡ cell_of (to_bits binary64 x) k d
    product_placed r D f g = (rw e at g) ∙ product_cell x k d D (rw f tt) (rw h tt)
