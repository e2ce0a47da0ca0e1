-- What the field functions work out.
use mathlib.Core.Path.{◌≡◌, sym, ap, ◌∙◌}
use mathlib.Core.Bool.{Bool, true, false}
use Prim.Native.Nat.{ℕ, ◌+◌, ◌*◌, ◌/◌, ◌%◌, ◌^◌, ◌≤◌, ◌<◌}
use native.Mathlib.Omega.{arith}
use lib.Dec.{eqb}
use borrow.Author.Tests.{le-leb, lt-leb, lt-ltb, le-ltb, eq-eqb, ne_eqb}
use Rattle.basics.specs.Bits.{field}
use Rattle.basics.specs.Pick.{pick}
use Rattle.ids.specs.Ids.{leaf_flag, is_leaf, is_branch, mask_of, has_child, pack, packing_no, new_leaf, new_branch, invalid}

-- ---- the leaf flag: a 64-bit number's highest bit is what is left above bit 62

flag_whole : (raw : ℕ) → raw < 2 ^ 64 → raw / 2 ^ 63 ≡ leaf_flag raw
unfolding leaf_flag
flag_whole raw h = omega arith

pub leaf_test : (raw : ℕ) → raw < 2 ^ 64 → eqb (raw / 2 ^ 63) 1 ≡ is_leaf raw
unfolding is_leaf
leaf_test raw h = ap (λ (f : ℕ). eqb f 1) (flag_whole raw h)

pub branch_test : (raw : ℕ) → raw < 2 ^ 64 → eqb (raw / 2 ^ 63) 0 ≡ is_branch raw
unfolding is_branch
branch_test raw h = ap (λ (f : ℕ). eqb f 0) (flag_whole raw h)

-- ---- a byte: 0 of a leaf

module _ (raw at : ℕ) (leaf : Bool) (e : leaf ≡ is_leaf raw) where
  pub byte_leaf : leaf ≡ true → 0 ≡ pick (is_leaf raw) 0 (field at 8 raw)
  byte_leaf h = rw (sym e ∙ h)

  pub byte_branch : leaf ≡ false → raw / 2 ^ at % 2 ^ 8 ≡ pick (is_leaf raw) 0 (field at 8 raw)
  byte_branch h = rw (sym e ∙ h)

pub child_above : (raw i : ℕ) → 8 ≤ i → false ≡ has_child raw i
unfolding has_child
child_above raw i h = rw (le-ltb i 8 h)

pub child_bit : (raw i m : ℕ) → i < 8 → m ≡ mask_of raw → eqb (m / 2 ^ i % 2) 1 ≡ has_child raw i
unfolding has_child
child_bit raw i m h e = rw (lt-ltb i 8 h, e)

-- ---- packing

pub accepts : (g : ℕ) → g ≤ 0x7FFE → 0 ≡ packing_no g
unfolding packing_no
accepts g h = rw (le-leb g 0x7FFE h)

pub refuses : (g : ℕ) → 0x7FFE < g → 12 ≡ packing_no g
unfolding packing_no
refuses g h = rw (lt-leb g 0x7FFE h)

module _ (i g x : ℕ) (e : x ≡ packing_no g) where
  pub leaf_refused : (x ≡ 0 → ⊥) → invalid ≡ new_leaf i g
  unfolding new_leaf
  leaf_refused h = rw (ne_eqb (packing_no g) 0 (λ p. h (e ∙ p)))

  pub leaf_packed : x ≡ 0 → 0x8000_0000_0000_0000 + g * 0x1_0000_0000 + i ≡ new_leaf i g
  unfolding new_leaf pack
  leaf_packed h = rw (eq-eqb (packing_no g) 0 (sym e ∙ h)) (omega arith)

  module _ (t m : ℕ) where
    pub branch_refused : (x ≡ 0 → ⊥) → invalid ≡ new_branch i g t m
    unfolding new_branch
    branch_refused h = rw (ne_eqb (packing_no g) 0 (λ p. h (e ∙ p)))

    pub branch_packed : x ≡ 0 → t * 0x80_0000_0000_0000 + m * 0x8000_0000_0000 + g * 0x1_0000_0000 + i ≡ new_branch i g t m
    unfolding new_branch pack
    branch_packed h = rw (eq-eqb (packing_no g) 0 (sym e ∙ h)) (omega arith)
