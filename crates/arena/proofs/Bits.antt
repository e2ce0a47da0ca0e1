-- The bits of the two bytes: bit i of a byte over ids is the test of the id at i. So in well-formed tables the mask bit i of a live id is 1 exactly if
-- child i of its node isn't EMPTY, and the types bit i exactly if child i is a leaf.
use mathlib.Core.Path.{◌≡◌, refl, sym, ap, ◌∙◌, subst}
use mathlib.Core.Logic.{◌≢◌, ◌↔◌}
use mathlib.Core.Bool.{Bool, true, false, not, true≢false}
use mathlib.Core.List.{List, [], ◌∷◌}
use Prim.Native.Nat.{ℕ, zero, suc, ◌+◌, ◌*◌, ◌/◌, ◌%◌, ◌^◌, ◌≤◌, ◌<◌}
use native.Mathlib.Nat.{pow-succ', div-div-eq-div-mul, div-one, zero-div}
use native.Mathlib.Omega.{arith}
use lib.Dec.{eqb}
use lib.ListN.{length, get_or}
use borrow.Author.Tests.{eqb-true, eqb-false, eq-eqb, ne_eqb, not-true}
use Rattle.basics.specs.Bits.{bit}
use Rattle.ids.specs.Ids.{leaf_flag, types_field, mask_field, generation_of, is_leaf, types_of, mask_of, has_child, HasFields}
use Rattle.ids.proofs.Fields.{byte_leaf, byte_branch, child_bit}
use Rattle.ids.proofs.Packing.{packed_fields}
use Rattle.nodes.specs.Tally.{one_if, kids_of, Live}
use Rattle.nodes.specs.Words.{Words, own, slot}
use Rattle.nodes.proofs.Sums.{split, tab_from_length_lem, tab_at}
use Rattle.arena.specs.Node.{bits_of, kid_mask, kid_types, branch_id, Node}
use Rattle.arena.specs.Tables.{Tables, cap, W, WellFormed}
use Rattle.arena.proofs.Ids.{gen_small, node_leaf, node_branch}

-- ---- a byte over ids, of any length

one_le : (b : Bool) → one_if b ≤ 1
unfolding one_if
one_le true = omega arith
one_le false = omega arith

bit_zero : (v : ℕ) → bit 0 v ≡ v % 2
bit_zero v = rw (div-one v)

bit_suc : (i v : ℕ) → bit (suc i) v ≡ bit i (v / 2)
bit_suc i v = rw (pow-succ' 2 i, ← div-div-eq-div-mul v 2 (2 ^ i))

-- Bit i is 1 exactly if the test holds of the id at i.
pub bits_at : (p : ℕ → Bool) (ks : List ℕ) (i : ℕ) → i < length ks → bit i (bits_of p ks) ≡ one_if (p (get_or ks i 0))
unfolding bits_of
bits_at p [] i l = absurd (omega arith)
bits_at p (k ∷ ks) zero l = bit_zero (bits_of p (k ∷ ks)) ∙ omega (arith, one_le (p k))
bits_at p (k ∷ ks) (suc i) l =
    let e : (one_if (p k) + 2 * bits_of p ks) / 2 ≡ bits_of p ks = omega (arith, one_le (p k)) in
    bit_suc i (bits_of p (k ∷ ks)) ∙ ap (bit i) e ∙ bits_at p ks i (omega arith)

-- There are no bits beyond the ids.
pub bits_below : (p : ℕ → Bool) (ks : List ℕ) → bits_of p ks < 2 ^ length ks
unfolding bits_of
bits_below p [] = omega arith
bits_below p (k ∷ ks) = rw (pow-succ' 2 (length ks)) (omega (arith, one_le (p k), bits_below p ks))

-- ---- the two bytes of a branch

one_iff : (b : Bool) → one_if b ≡ 1 ↔ b ≡ true
unfolding one_if
one_iff true = ((λ e. refl), (λ e. refl))
one_iff false = ((λ e. absurd (omega arith)), (λ e. absurd (true≢false (sym e))))

some_iff : (k : ℕ) → one_if (not (eqb k 0)) ≡ 1 ↔ k ≢ 0
some_iff k = (
  (λ e. eqb-false k 0 (not-true (eqb k 0) ((one_iff (not (eqb k 0))).0 e))),
  (λ d. (one_iff (not (eqb k 0))).1 (rw (ne_eqb k 0 d))),
)

empty_flag : is_leaf 0 ≡ false
unfolding is_leaf leaf_flag
empty_flag = refl

module _ (W : Words) (s : ℕ) where
  kids_length : length (kids_of 8 W s) ≡ 8
  unfolding kids_of
  kids_length = tab_from_length_lem 8 0 (W s)

  kids_at : (i : ℕ) → i < 8 → get_or (kids_of 8 W s) i 0 ≡ W s i
  unfolding kids_of
  kids_at i l = let e : 0 + i ≡ i = omega arith in tab_at 8 0 (W s) i l ∙ ap (W s) e

  kids_bit : (p : ℕ → Bool) (i : ℕ) → i < 8 → bit i (bits_of p (kids_of 8 W s)) ≡ one_if (p (W s i))
  kids_bit p i l =
      bits_at p (kids_of 8 W s) i (omega (arith, kids_length)) ∙ ap (λ (k : ℕ). one_if (p k)) (kids_at i l)

  kids_byte : (p : ℕ → Bool) → bits_of p (kids_of 8 W s) < 2 ^ 8
  kids_byte p = let h = bits_below p (kids_of 8 W s) in rw kids_length at h

  branch_has : (g : ℕ) → s < 2 ^ 32 → g < 2 ^ 15 → HasFields 0 (kid_types (kids_of 8 W s)) (kid_mask (kids_of 8 W s)) g s (branch_id (kids_of 8 W s) s g)
  unfolding branch_id kid_types kid_mask
  branch_has g l h =
      packed_fields 0 (bits_of is_leaf (kids_of 8 W s)) (bits_of (λ k. not (eqb k 0)) (kids_of 8 W s)) g s (omega arith) (kids_byte is_leaf) (kids_byte (λ k. not (eqb k 0))) h l

-- ---- live ids of well-formed tables

module _ {n tallest : ℕ} {t : Tables} (m : n ≤ 8) (w : WellFormed n tallest t) (y : ℕ) (live : Live (cap t) (W t) y) where
  node : Node n tallest (cap t) (W t) (slot y)
  node = w.nodes (slot y) (live.low, rw live.is live.high)

  branch_fields : is_leaf y ≡ false → HasFields 0 (kid_types (kids_of 8 (W t) (slot y))) (kid_mask (kids_of 8 (W t) (slot y))) (generation_of (W t (slot y) own)) (slot y) y
  branch_fields b =
      let v = node_branch m live.low w.sized.most node (ap is_leaf live.is ∙ b) in
      let h = live.low in
      let k = w.sized.most in
      subst (λ (x : ℕ). HasFields 0 (kid_types (kids_of 8 (W t) (slot y))) (kid_mask (kids_of 8 (W t) (slot y))) (generation_of (W t (slot y) own)) (slot y) x) (sym v.id ∙ live.is)
      (branch_has (W t) (slot y) (generation_of (W t (slot y) own)) (omega arith) (gen_small (W t (slot y) own)))

  -- the same for both bytes: of a leaf the byte is 0, and its children are EMPTY
  byte_bit : (p : ℕ → Bool) (v : ℕ) → p 0 ≡ false → (is_leaf y ≡ true → 0 ≡ v) → (is_leaf y ≡ false → v ≡ bits_of p (kids_of 8 (W t) (slot y)))
      → (i : ℕ) → i < 8 → bit i v ≡ one_if (p (W t (slot y) i))
  unfolding one_if
  byte_bit p v none leaf branch i l =
      split (is_leaf y)
      (λ a.
      let z = (node_leaf m live.low w.sized.most node (ap is_leaf live.is ∙ a)).bare i l in
      rw (← leaf a, z, none, zero-div (2 ^ i)))
      (λ b. ap (bit i) (branch b) ∙ kids_bit (W t) (slot y) p i l)

  pub mask_kids : is_leaf y ≡ false → mask_of y ≡ kid_mask (kids_of 8 (W t) (slot y))
  unfolding mask_of mask_field
  mask_kids b = sym (byte_branch y 47 (is_leaf y) refl b) ∙ (branch_fields b).mask

  pub types_kids : is_leaf y ≡ false → types_of y ≡ kid_types (kids_of 8 (W t) (slot y))
  unfolding types_of types_field
  types_kids b = sym (byte_branch y 55 (is_leaf y) refl b) ∙ (branch_fields b).types

  mask_one : (i : ℕ) → i < 8 → bit i (mask_of y) ≡ one_if (not (eqb (W t (slot y) i) 0))
  unfolding kid_mask mask_of mask_field
  mask_one = byte_bit (λ k. not (eqb k 0)) (mask_of y) refl (byte_leaf y 47 (is_leaf y) refl) mask_kids

  types_one : (i : ℕ) → i < 8 → bit i (types_of y) ≡ one_if (is_leaf (W t (slot y) i))
  unfolding kid_types types_of types_field
  types_one = byte_bit is_leaf (types_of y) empty_flag (byte_leaf y 55 (is_leaf y) refl) types_kids

  -- Mask bit i is 1 exactly if child i isn't EMPTY.
  pub mask_bit : (i : ℕ) → i < 8 → bit i (mask_of y) ≡ 1 ↔ W t (slot y) i ≢ 0
  mask_bit i l = let e = mask_one i l in rw e (some_iff (W t (slot y) i))

  -- Types bit i is 1 exactly if child i is a leaf.
  pub types_bit : (i : ℕ) → i < 8 → bit i (types_of y) ≡ 1 ↔ is_leaf (W t (slot y) i) ≡ true
  types_bit i l = let e = types_one i l in rw e (one_iff (is_leaf (W t (slot y) i)))

  -- An id has child i exactly if child i isn't EMPTY.
  pub has_child_lem : (i : ℕ) → i < 8 → has_child y i ≡ true ↔ W t (slot y) i ≢ 0
  has_child_lem i l =
      let e = child_bit y i (mask_of y) l refl in
      let b = mask_bit i l in
      ((λ h. b.0 (eqb-true (bit i (mask_of y)) 1 (e ∙ h))), (λ d. sym e ∙ eq-eqb (bit i (mask_of y)) 1 (b.1 d)))
