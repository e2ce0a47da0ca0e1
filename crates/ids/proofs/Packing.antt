-- Packing and the fields: what was packed is what the fields give, an id is decided by its fields, and no accepted packing is INVALID.
use mathlib.Core.Path.{◌≡◌, sym, ◌∙◌}
use mathlib.Core.Logic.{inl, inr}
use mathlib.Core.Bool.{true}
use Prim.Native.Nat.{ℕ, ◌+◌, ◌*◌, ◌/◌, ◌%◌, ◌^◌, ◌≤◌, ◌<◌}
use native.Mathlib.Nat.{div-div-eq-div-mul}
use native.Mathlib.Omega.{arith}
use lib.Dec.{eqb}
use borrow.Author.Tests.{le-leb}
use Rattle.ids.specs.Ids.{leaf_flag, types_field, mask_field, generation_of, index_of, pack, packing_no, new_leaf, new_branch, invalid, Packed, HasFields}

-- The fields of a packed number are what was packed.
pub packed_fields : (l t m g i : ℕ) → l < 2 → t < 2 ^ 8 → m < 2 ^ 8 → g < 2 ^ 15 → i < 2 ^ 32 → HasFields l t m g i (pack l t m g i)
unfolding leaf_flag types_field mask_field generation_of index_of pack
packed_fields l t m g i hl ht hm hg hi =
    record { flag = omega arith; types = omega arith; mask = omega arith; generation = omega arith; index = omega arith }

pub packed_below : (l t m g i : ℕ) → l < 2 → t < 2 ^ 8 → m < 2 ^ 8 → g < 2 ^ 15 → i < 2 ^ 32 → pack l t m g i < 2 ^ 64
unfolding pack
packed_below l t m g i hl ht hm hg hi = omega arith

-- A 64-bit number is what its fields pack to, so two with the same fields are the same id.
pub fields_pack : (raw : ℕ) → raw < 2 ^ 64 → raw ≡ pack (leaf_flag raw) (types_field raw) (mask_field raw) (generation_of raw) (index_of raw)
unfolding leaf_flag types_field mask_field generation_of index_of pack
fields_pack raw h =
    let a : raw ≡ raw / 2 ^ 32 * 2 ^ 32 + raw % 2 ^ 32 = omega arith in
    let b : raw / 2 ^ 32 ≡ raw / 2 ^ 47 * 2 ^ 15 + raw / 2 ^ 32 % 2 ^ 15 = omega (arith, div-div-eq-div-mul raw (2 ^ 32) (2 ^ 15)) in
    let c : raw / 2 ^ 47 ≡ raw / 2 ^ 55 * 2 ^ 8 + raw / 2 ^ 47 % 2 ^ 8 = omega (arith, div-div-eq-div-mul raw (2 ^ 47) (2 ^ 8)) in
    let d : raw / 2 ^ 55 ≡ raw / 2 ^ 63 * 2 ^ 8 + raw / 2 ^ 55 % 2 ^ 8 = omega (arith, div-div-eq-div-mul raw (2 ^ 55) (2 ^ 8)) in
    let e : raw / 2 ^ 63 % 2 ≡ raw / 2 ^ 63 = omega arith in
    linear raw (raw / 2 ^ 32) (raw / 2 ^ 47) (raw / 2 ^ 55) (raw / 2 ^ 63) (raw % 2 ^ 32) (raw / 2 ^ 32 % 2 ^ 15) (raw / 2 ^ 47 % 2 ^ 8)
    (raw / 2 ^ 55 % 2 ^ 8) (raw / 2 ^ 63 % 2) a b c d e
  where
    linear : (x a b c d i g m t l : ℕ) → x ≡ a * 2 ^ 32 + i → a ≡ b * 2 ^ 15 + g → b ≡ c * 2 ^ 8 + m → c ≡ d * 2 ^ 8 + t → l ≡ d
        → x ≡ l * 2 ^ 63 + t * 2 ^ 55 + m * 2 ^ 47 + g * 2 ^ 32 + i
    linear x a b c d i g m t l p q r s e = omega arith

pub fields_decide : (l t m g i a b : ℕ) → a < 2 ^ 64 → b < 2 ^ 64 → HasFields l t m g i a → HasFields l t m g i b → a ≡ b
fields_decide l t m g i a b ha hb p q =
    fields_pack a ha
    ∙ rw (p.flag, p.types, p.mask, p.generation, p.index, ← q.flag, ← q.types, ← q.mask, ← q.generation, ← q.index)
    (sym (fields_pack b hb))

-- ---- INVALID

pub accepted : (g : ℕ) → g ≤ 0x7FFE → eqb (packing_no g) 0 ≡ true
unfolding packing_no
accepted g h = rw (le-leb g 0x7FFE h)

-- A generation that packing accepts leaves a bit of INVALID clear.
pub pack_valid : (l t m g i : ℕ) → l < 2 → t < 2 ^ 8 → m < 2 ^ 8 → g ≤ 0x7FFE → i < 2 ^ 32 → pack l t m g i ≡ invalid → ⊥
unfolding pack
pack_valid l t m g i hl ht hm hg hi e = omega arith

-- Packing answers INVALID exactly if it refuses: no accepted packing is INVALID.
pub packed_valid : (raw : ℕ) → Packed raw → raw ≡ invalid → ⊥
unfolding new_leaf new_branch
packed_valid raw (inl (i, g, hi, hg, e)) z =
    pack_valid 1 0 0 g i (omega arith) (omega arith) (omega arith) hg hi (sym (rw (accepted g hg) at e) ∙ z)
packed_valid raw (inr (i, g, t, m, hi, hg, ht, hm, e)) z =
    pack_valid 0 t m g i (omega arith) ht hm hg hi (sym (rw (accepted g hg) at e) ∙ z)
