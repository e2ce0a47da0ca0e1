-- The bits of a number: of an and, an or and a shift, at any position; and that a number is decided by its bits.
use Prim.Native.Nat.{ℕ, zero, suc, ◌+◌, ◌-◌, ◌*◌, ◌/◌, ◌%◌, ◌^◌, ◌≤◌, ◌<◌, min, max}
use mathlib.Core.Path.{◌≡◌, ◌∙◌, sym, ap, ap₂}
use mathlib.Core.Logic.{⊎_elim}
use native.Mathlib.Nat.{mod-lt, mod-one, mod-eq_of_lt, div-eq_of_lt, zero-div, lt_of_lt_of_le, mul_assoc, mul-add-mod_self_right, min-le_left, eq-or-lt_of_le, le_of_suc-le-suc, mul-le-mul_left}
use native.Mathlib.Numerals.{one-add}
use native.Mathlib.Omega.{arith}
use lib.Arith.{digits_lt}
use lib.Bits.{bit_and, bit_or, and_step, or_step, and_shr, or_shr}
use lib.Pow.{pow_pos, pow_mono, pow-add, split, high, shl-shr, shr-shr, mod-pow-add}
use lib.Pow.{field as field-mod}
use Rattle.basics.specs.Bits.{bit, field}

-- A bit is 0 or 1.
pub bit_lt : (n v : ℕ) → bit n v < 2
bit_lt n v = mod-lt (v / 2 ^ n) (pow_pos 1)

-- 0 has no bit.
pub bit_zero : (n : ℕ) → bit n 0 ≡ 0
bit_zero n = rw (zero-div (2 ^ n))

-- A number below 2^k has no bit from k on.
pub bit_past : (k n v : ℕ) → v < 2 ^ k → k ≤ n → bit n v ≡ 0
bit_past k n v h l = let p : v < 2 ^ n = lt_of_lt_of_le h (pow_mono l) in rw (div-eq_of_lt p)

-- The lowest bits of an and, and of an or.
and_odd : (a b : ℕ) → bit_and a b % 2 ≡ min (a % 2) (b % 2)
and_odd a b = omega (arith, and_step a b, min-le_left (a % 2) (b % 2))

or_odd : (a b : ℕ) → bit_or a b % 2 ≡ max (a % 2) (b % 2)
or_odd a b = omega (arith, or_step a b)

-- Bit n of an and is the smaller of the two bits n.
pub bit_and_lem : (n a b : ℕ) → bit n (bit_and a b) ≡ min (bit n a) (bit n b)
bit_and_lem n a b = ap (λ (v : ℕ). v % 2) (and_shr a b n) ∙ and_odd (a / 2 ^ n) (b / 2 ^ n)

-- Bit n of an or is the larger.
pub bit_or_lem : (n a b : ℕ) → bit n (bit_or a b) ≡ max (bit n a) (bit n b)
bit_or_lem n a b = ap (λ (v : ℕ). v % 2) (or_shr a b n) ∙ or_odd (a / 2 ^ n) (b / 2 ^ n)

-- A field below k does not see what stands from k on.
pub field_below : (at width k hi lo : ℕ) → width + at ≤ k → field at width (hi * 2 ^ k + lo) ≡ field at width lo
field_below at width k hi lo h =
    let e : 2 ^ k ≡ 2 ^ (k - (width + at)) * 2 ^ (width + at) = ap (λ (i : ℕ). 2 ^ i) (omega arith) ∙ pow-add 2 (k - (width + at)) (width + at) in
    let s : hi * 2 ^ k ≡ hi * 2 ^ (k - (width + at)) * 2 ^ (width + at) = rw e (sym (mul_assoc hi (2 ^ (k - (width + at))) (2 ^ (width + at)))) in
    let m : (hi * 2 ^ k + lo) % 2 ^ (width + at) ≡ lo % 2 ^ (width + at) = rw s (mul-add-mod_self_right (hi * 2 ^ (k - (width + at))) (2 ^ (width + at)) lo) in
    sym (field-mod (hi * 2 ^ k + lo) width at) ∙ ap (λ (i : ℕ). i / 2 ^ at) m ∙ field-mod lo width at

-- A bit below k is one of the k low digits.
pub bit_mod : (k n v : ℕ) → n < k → bit n (v % 2 ^ k) ≡ bit n v
bit_mod k n v h =
    let p : 1 + n ≤ k = omega arith in
    sym (field_below n 1 k (v / 2 ^ k) (v % 2 ^ k) p) ∙ ap (bit n) (split v k)

-- A shift by k brings bit n to k + n, and none below k.
pub bit_shift : (k n v : ℕ) → bit (k + n) (v * 2 ^ k) ≡ bit n v
bit_shift k n v = ap (λ (i : ℕ). i % 2) (sym (shr-shr (v * 2 ^ k) k n) ∙ ap (λ (i : ℕ). i / 2 ^ n) (shl-shr v k))

pub bit_shifted_in : (k n v : ℕ) → n < k → bit n (v * 2 ^ k) ≡ 0
bit_shifted_in k n v h =
    let p : 1 + n ≤ k = omega arith in
    let e : v * 2 ^ k ≡ v * 2 ^ k + 0 = omega arith in
    ap (bit n) e ∙ field_below n 1 k v 0 p ∙ bit_zero n

-- Two numbers with the same bits below k have the same k low digits.
same_low : (k a b : ℕ) → ((n : ℕ) → n < k → bit n a ≡ bit n b) → a % 2 ^ k ≡ b % 2 ^ k
same_low zero a b h = mod-one a ∙ sym (mod-one b)
same_low (suc k) a b h =
    rw (sym (one-add k))
    (mod-pow-add a 1 k ∙ ap₂ (λ (i j : ℕ). i * 2 ^ k + j) (h k (omega arith)) (same_low k a b (λ n l. h n (omega arith))) ∙ sym (mod-pow-add b 1 k))

-- A number below 2^k is decided by its bits below k.
pub by_bits : (k a b : ℕ) → a < 2 ^ k → b < 2 ^ k → ((n : ℕ) → n < k → bit n a ≡ bit n b) → a ≡ b
by_bits k a b p q h = sym (mod-eq_of_lt p) ∙ same_low k a b h ∙ mod-eq_of_lt q

-- ## A number put together of fields of w bits

-- Field n is d n, for every n below k.
unfoldable pub built : ℕ → (ℕ → ℕ) → ℕ → ℕ
built w d zero = 0
built w d (suc n) = d n * 2 ^ (w * n) + built w d n

module _ (w : ℕ) (d : ℕ → ℕ) (small : (n : ℕ) → d n < 2 ^ w) where
  -- Of k fields it has w k bits.
  pub built_lt : (k : ℕ) → built w d k < 2 ^ (w * k)
  unfolding built
  built_lt zero = pow_pos (w * 0)
  built_lt (suc n) =
      let e : 2 ^ (w * suc n) ≡ 2 ^ w * 2 ^ (w * n) = ap (λ (i : ℕ). 2 ^ i) (omega arith) ∙ pow-add 2 w (w * n) in
      rw e (digits_lt (small n) (built_lt n))

  -- Field n is d n.
  pub built_field : (k n : ℕ) → n < k → field (w * n) w (built w d k) ≡ d n
  unfolding built
  built_field zero n h = absurd (omega arith)
  built_field (suc k) n h = ⊎_elim last (λ l. before l (built_field k n l)) (eq-or-lt_of_le (le_of_suc-le-suc h))
    where
      last : n ≡ k → field (w * n) w (d k * 2 ^ (w * k) + built w d k) ≡ d n
      last e = rw e (ap (λ (i : ℕ). i % 2 ^ w) (high (d k) (w * k) (built_lt k)) ∙ mod-eq_of_lt (small k))

      before : n < k → field (w * n) w (built w d k) ≡ d n → field (w * n) w (d k * 2 ^ (w * k) + built w d k) ≡ d n
      before l e =
          let p : w + w * n ≤ w * k = omega (arith, mul-le-mul_left w l) in
          field_below (w * n) w (w * k) (d k) (built w d k) p ∙ e
