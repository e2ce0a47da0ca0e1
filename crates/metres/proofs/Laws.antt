-- The cell of a number by its bits: what the tests of `whole` say.
use mathlib.Core.Path.{◌≡◌, sym, ap, ◌∙◌, subst}
use mathlib.Core.Bool.{Bool, true, false}
use Prim.Native.Nat.{ℕ, zero, suc, ◌+◌, ◌-◌, ◌*◌, ◌/◌, ◌%◌, ◌^◌, ◌≤◌, ◌<◌}
use native.Mathlib.Nat.{le_trans, le_of_eq, le_of_lt, mul-pos, lt_of_lt_of_le, mul_comm, mul-le-mul_right, le-add_right, mod-lt, mod-eq_of_lt, div-eq_of_lt, div-lt_iff_lt-mul, le-div_iff_mul-le}
use native.Mathlib.Omega.{arith}
use lib.Pow.{pow-add, pow_pos, pow_mono, shl_lt, shl-shr, shr-shr}
use borrow.Author.Tests.{le-leb, lt-leb, ne_eqb}
use Rattle.metres.specs.Bits.{negative, exponent, fraction, size, units, placed}
use Rattle.std.specs.declared.option.Option.TheVariants.{Some, None}

-- ---- how large the size is that two fields say

pub with_lead : (t : ℕ) → t < 2 ^ 52 → 2 ^ 52 + t < 2 ^ 53
with_lead t h = omega arith

pub size_lt : (x t : ℕ) → t < 2 ^ 52 → size x t < 2 ^ (52 + x)
unfolding size
size_lt zero t h = h
size_lt (suc j) t h = subst (λ (k : ℕ). (2 ^ 52 + t) * 2 ^ j < 2 ^ k) (same j) (shl_lt 53 j (with_lead t h))
  where
    same : (j : ℕ) → 53 + j ≡ 52 + suc j
    same j = omega arith

size_ge : (x t : ℕ) → 0 < x → 2 ^ (51 + x) ≤ size x t
unfolding size
size_ge zero t h = absurd (go h)
  where
    go : 0 < 0 → ⊥
    go h = omega arith
size_ge (suc j) t h = le_trans (le_of_eq (ap (λ (k : ℕ). 2 ^ k) (same j) ∙ pow-add 2 52 j)) (mul-le-mul_right (2 ^ j) (le-add_right (2 ^ 52) t))
  where
    same : (j : ℕ) → 51 + suc j ≡ 52 + j
    same j = omega arith

-- ---- where a number of n units is placed

side : (d : ℕ) → 2 ^ (1074 + d) ≡ 2 ^ d * 2 ^ 1074
side d = pow-add 2 1074 d ∙ mul_comm (2 ^ 1074) (2 ^ d)

under : (n d : ℕ) → n < 2 ^ (1074 + d) → n / 2 ^ 1074 < 2 ^ d
under n d h = (div-lt_iff_lt-mul (pow_pos 1074)).1 (subst (λ (k : ℕ). n < k) (side d) h)

low_cell : (n d : ℕ) → n < 2 ^ 1074 → Some 0 ≡ placed false n d
unfolding placed
low_cell n d h = rw (div-eq_of_lt h, lt-leb (2 ^ d) 0 (pow_pos d))

near : (n d : ℕ) → n < 2 ^ (1074 + d) → Some (n / 2 ^ 1074) ≡ placed false n d
unfolding placed
near n d h = rw (lt-leb (2 ^ d) (n / 2 ^ 1074) (under n d h))

pub below_zero_lem : (n d : ℕ) → 0 < n → None ≡ placed true n d
unfolding placed
below_zero_lem n d h = rw (ne_eqb n 0 (go n h))
  where
    go : (n : ℕ) → 0 < n → n ≡ 0 → ⊥
    go n h e = omega arith

pub far : (s : Bool) (n d : ℕ) → 2 ^ (1074 + d) ≤ n → None ≡ placed s n d
unfolding placed
far true n d h = below_zero_lem n d (lt_of_lt_of_le (pow_pos (1074 + d)) h)
far false n d h = rw (le-leb (2 ^ d) (n / 2 ^ 1074) ((le-div_iff_mul-le (pow_pos 1074)).1 (le_trans (le_of_eq (sym (side d))) h)))

-- ---- `whole`, by its tests of the bits

pub zero_cell : (d : ℕ) → Some 0 ≡ placed true 0 d
unfolding placed
zero_cell d = rw (lt-leb (2 ^ d) 0 (pow_pos d))

pub whole_minus_zero : (b d : ℕ) → b ≤ 2 ^ 63 → 2 ^ 63 ≤ b → Some 0 ≡ placed (negative b) (units b) d
unfolding size
whole_minus_zero b d h g = let e : 2 ^ 63 ≡ b = omega arith in subst (λ (k : ℕ). Some 0 ≡ placed (negative k) (units k) d) e (zero_cell d)

-- only where both fields are 0 the number is zero
some : (x t : ℕ) → 0 < x + t → 0 < size x t
unfolding size
some zero t h = go t h
  where
    go : (t : ℕ) → 0 < 0 + t → 0 < t
    go t h = omega arith
some (suc j) t h = mul-pos (go t) (pow_pos j)
  where
    go : (t : ℕ) → 0 < 2 ^ 52 + t
    go t = omega arith

pub whole_negative : (b d : ℕ) → 2 ^ 63 < b → b < 2 ^ 64 → None ≡ placed (negative b) (units b) d
whole_negative b d h l = rw (le-leb (2 ^ 63) b (le_of_lt h)) (below_zero_lem (units b) d (some (exponent b) (fraction b) (go b h l)))
  where
    go : (b : ℕ) → 2 ^ 63 < b → b < 2 ^ 64 → 0 < b % 2 ^ 63 / 2 ^ 52 + b % 2 ^ 52
    go b h l = omega arith

plain : (b d : ℕ) → b < 2 ^ 63 → placed (negative b) (units b) d ≡ placed false (size (b / 2 ^ 52) (b % 2 ^ 52)) d
plain b d h = ap (λ (s : Bool). placed s (units b) d) (lt-leb (2 ^ 63) b h) ∙ ap (λ (x : ℕ). placed false (size (x / 2 ^ 52) (b % 2 ^ 52)) d) (mod-eq_of_lt h)

pub whole_low : (b d : ℕ) → b < 2 ^ 63 → b / 2 ^ 52 < 1023 → Some 0 ≡ placed (negative b) (units b) d
whole_low b d h l = low_cell (size (b / 2 ^ 52) (b % 2 ^ 52)) d (lt_of_lt_of_le (size_lt (b / 2 ^ 52) (b % 2 ^ 52) (mod-lt b (pow_pos 52))) (pow_mono (go (b / 2 ^ 52) l))) ∙ sym (plain b d h)
  where
    go : (e : ℕ) → e < 1023 → 52 + e ≤ 1074
    go e h = omega arith

pub whole_far : (b d : ℕ) → b < 2 ^ 63 → 1023 + d ≤ b / 2 ^ 52 → None ≡ placed (negative b) (units b) d
whole_far b d h l =
    far false (size (b / 2 ^ 52) (b % 2 ^ 52)) d (le_trans (pow_mono (go (b / 2 ^ 52) d l)) (size_ge (b / 2 ^ 52) (b % 2 ^ 52) (up (b / 2 ^ 52) d l)))
    ∙ sym (plain b d h)
  where
    go : (e d : ℕ) → 1023 + d ≤ e → 1074 + d ≤ 51 + e
    go e d h = omega arith

    up : (e d : ℕ) → 1023 + d ≤ e → 0 < e
    up e d h = omega arith

shifted : (x t : ℕ) → 1 ≤ x → x ≤ 1075 → (2 ^ 52 + t) / 2 ^ (1075 - x) ≡ size x t / 2 ^ 1074
unfolding size
shifted zero t a h = absurd (none a)
  where
    none : 1 ≤ 0 → ⊥
    none a = omega arith
shifted (suc j) t a h =
    let q = 2 ^ 52 + t in
    ap (λ (k : ℕ). k / 2 ^ (1075 - suc j)) (sym (shl-shr q j)) ∙ shr-shr (q * 2 ^ j) j (1075 - suc j) ∙ ap (λ (k : ℕ). q * 2 ^ j / 2 ^ k) (join j h)
  where
    join : (j : ℕ) → suc j ≤ 1075 → j + (1075 - suc j) ≡ 1074
    join j h = omega arith

module _ (b d : ℕ) (h : b < 2 ^ 63) (l : 1023 ≤ b / 2 ^ 52) (u : b / 2 ^ 52 < 1023 + d) (D : d ≤ 10) where
  is : (2 ^ 52 + b % 2 ^ 52) / 2 ^ (1075 - b / 2 ^ 52) ≡ size (b / 2 ^ 52) (b % 2 ^ 52) / 2 ^ 1074
  is = shifted (b / 2 ^ 52) (b % 2 ^ 52) (one (b / 2 ^ 52) l) (top (b / 2 ^ 52) d u D)
    where
      one : (e : ℕ) → 1023 ≤ e → 1 ≤ e
      one e h = omega arith

      top : (e d : ℕ) → e < 1023 + d → d ≤ 10 → e ≤ 1075
      top e d h k = omega arith

  within : size (b / 2 ^ 52) (b % 2 ^ 52) < 2 ^ (1074 + d)
  within = lt_of_lt_of_le (size_lt (b / 2 ^ 52) (b % 2 ^ 52) (mod-lt b (pow_pos 52))) (pow_mono (go (b / 2 ^ 52) d u))
    where
      go : (e d : ℕ) → e < 1023 + d → 52 + e ≤ 1074 + d
      go e d h = omega arith

  pub whole_fits : (2 ^ 52 + b % 2 ^ 52) / 2 ^ (1075 - b / 2 ^ 52) < 2 ^ 16
  whole_fits = subst (λ (k : ℕ). k < 2 ^ 16) (sym is) (lt_of_lt_of_le (under (size (b / 2 ^ 52) (b % 2 ^ 52)) d within) (pow_mono (go d D)))
    where
      go : (d : ℕ) → d ≤ 10 → d ≤ 16
      go d h = omega arith

  pub whole_near : Some ((2 ^ 52 + b % 2 ^ 52) / 2 ^ (1075 - b / 2 ^ 52)) ≡ placed (negative b) (units b) d
  whole_near = ap Some is ∙ near (size (b / 2 ^ 52) (b % 2 ^ 52)) d within ∙ sym (plain b d h)
