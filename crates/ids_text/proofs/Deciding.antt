-- Two packed ids with the same text are the same id.
use mathlib.Core.Path.{◌≡◌, refl, sym, ap, ◌∙◌}
use mathlib.Core.Logic.{inl, inr}
use mathlib.Core.List.{List}
use Prim.Native.Nat.{ℕ, zero, suc, ◌/◌, ◌%◌, ◌^◌, ◌≤◌, ◌<◌}
use native.Mathlib.Nat.{pow-succ', mod-eq_of_lt}
use native.Mathlib.Decide.{ℕ_discrete, dec_lt}
use native.Mathlib.Omega.{arith}
use lib.Arith.{mod-mul}
use lib.ListN.{length, take, drop}
use borrow.Author.Tests.{eq-eqb, ne_eqb}
use Rattle.ids.specs.Ids.{leaf_flag, types_field, mask_field, generation_of, index_of, is_leaf, pack, new_leaf, new_branch, invalid, Packed, HasFields}
use Rattle.ids_text.specs.Text.{digit, hex, leaf_text, branch_text, text_of}
use Rattle.ids.proofs.Packing.{packed_fields, packed_below, fields_decide, accepted, pack_valid}
use Rattle.ids_text.proofs.Texts.{low_digit, high_digit}

-- ---- digits decide a number

digit_decides : (d e : ℕ) → d < 16 → e < 16 → digit d ≡ digit e → d ≡ e
digit_decides d e hd he p =
    elim (dec_lt d 10) [
      | yes a ↦ elim (dec_lt e 10) [ yes b ↦ omega (arith, low_digit d a, low_digit e b) | no b ↦ omega (arith, low_digit d a, high_digit e (omega arith)) ]
      | no a ↦ elim (dec_lt e 10) [ yes b ↦ omega (arith, high_digit d (omega arith), low_digit e b) | no b ↦ omega (arith, high_digit d (omega arith), high_digit e (omega arith)) ]
    ]

pow_some : (n : ℕ) → 0 < 16 ^ n
pow_some zero = omega arith
pow_some (suc n) = rw pow-succ' (omega (arith, pow_some n))

-- the last n digits decide the number modulo 16^n
pub hex_decides : (n v w : ℕ) → hex n v ≡ hex n w → v % 16 ^ n ≡ w % 16 ^ n
unfolding hex
hex_decides zero v w p = omega arith
hex_decides (suc n) v w p =
    let q : digit (v / 16 ^ n % 16) ≡ digit (w / 16 ^ n % 16) = cc in
    let r : hex n v ≡ hex n w = cc in
    let d : v / 16 ^ n % 16 ≡ w / 16 ^ n % 16 = digit_decides (v / 16 ^ n % 16) (w / 16 ^ n % 16) (omega arith) (omega arith) q in
    let e : v % 16 ^ n ≡ w % 16 ^ n = hex_decides n v w r in
    rw (pow-succ', mod-mul v {m = 16} {c = 16 ^ n} (omega arith) (pow_some n), mod-mul w {m = 16} {c = 16 ^ n} (omega arith) (pow_some n), d, e)

-- ---- a packed id: its fields, and which of the texts it has

record Known (raw l t m g i : ℕ) : Type 0 where
  below : raw < 2 ^ 64
  other : raw ≡ invalid → ⊥
  fields : HasFields l t m g i raw

know : (l t m g i : ℕ) → l < 2 → t < 2 ^ 8 → m < 2 ^ 8 → g ≤ 0x7FFE → i < 2 ^ 32 → (raw : ℕ) → raw ≡ pack l t m g i → Known raw l t m g i
know l t m g i hl ht hm hg hi raw e =
    record {
      below = rw e (packed_below l t m g i hl ht hm (omega arith) hi);
      other = λ z. pack_valid l t m g i hl ht hm hg hi (sym e ∙ z);
      fields = rw e (packed_fields l t m g i hl ht hm (omega arith) hi);
    }

-- EMPTY; or a leaf; or a branch
data Kind (raw : ℕ) : Type 0 where
  nothing : raw ≡ 0 → text_of raw ≡ text_of 0 → Kind raw
  leaf : (g i : ℕ) → Known raw 1 0 0 g i → text_of raw ≡ leaf_text i g → Kind raw
  branch : (t m g i : ℕ) → Known raw 0 t m g i → text_of raw ≡ branch_text i g m t → Kind raw

flag_zero : leaf_flag 0 ≡ 1 → ⊥
unfolding leaf_flag
flag_zero e = omega arith

leaf_known : (raw g i : ℕ) → Known raw 1 0 0 g i → Kind raw
unfolding text_of is_leaf
leaf_known raw g i k =
    let f = k.fields in
    let z : raw ≡ 0 → ⊥ = λ e. flag_zero (ap leaf_flag (sym e) ∙ f.flag) in
    leaf g i k (rw (ne_eqb raw invalid k.other, ne_eqb raw 0 z, eq-eqb (leaf_flag raw) 1 f.flag, f.index, f.generation))

branch_known : (raw t m g i : ℕ) → Known raw 0 t m g i → Kind raw
unfolding text_of is_leaf
branch_known raw t m g i k =
    elim (ℕ_discrete raw 0) [
      | yes e ↦ nothing e (ap text_of e)
      | no z ↦
          let f = k.fields in
          let n : leaf_flag raw ≡ 1 → ⊥ = λ e. omega (arith, f.flag) in
          branch t m g i k
          (rw (ne_eqb raw invalid k.other, ne_eqb raw 0 z, ne_eqb (leaf_flag raw) 1 n, f.index, f.generation, f.mask, f.types))
    ]

kind : (raw : ℕ) → Packed raw → Kind raw
unfolding new_leaf new_branch
kind raw (inl (i, g, hi, hg, e)) =
    leaf_known raw g i (know 1 0 0 g i (omega arith) (omega arith) (omega arith) hg hi raw (rw (accepted g hg) at e))
kind raw (inr (i, g, t, m, hi, hg, ht, hm, e)) =
    branch_known raw t m g i (know 0 t m g i (omega arith) ht hm hg hi raw (rw (accepted g hg) at e))

-- ---- the lengths tell the kinds apart, and the digits the fields

nothing_length : length (text_of 0) ≡ 9
unfolding text_of
nothing_length = refl

leaf_length : (i g : ℕ) → length (leaf_text i g) ≡ 27
unfolding leaf_text hex
leaf_length i g = refl

branch_length : (i g m t : ℕ) → length (branch_text i g m t) ≡ 41
unfolding branch_text hex
branch_length i g m t = refl

-- n digits that stand at the same place of two equal texts
part : (n at v w : ℕ) (s u : List ℕ) → s ≡ u → take n (drop at s) ≡ hex n v → take n (drop at u) ≡ hex n w → v < 16 ^ n → w < 16 ^ n → v ≡ w
part n at v w s u e p q hv hw =
    sym (mod-eq_of_lt hv) ∙ hex_decides n v w (sym p ∙ ap (λ (l : List ℕ). take n (drop at l)) e ∙ q) ∙ mod-eq_of_lt hw

leaf_parts : (i g j h : ℕ) → leaf_text i g ≡ leaf_text j h → i < 2 ^ 32 → j < 2 ^ 32 → g < 2 ^ 15 → h < 2 ^ 15 → (i ≡ j) × (g ≡ h)
unfolding leaf_text hex
leaf_parts i g j h e a b c d = (
  part 8 9 i j (leaf_text i g) (leaf_text j h) e refl refl a b,
  part 4 22 g h (leaf_text i g) (leaf_text j h) e refl refl (omega arith) (omega arith),
)

branch_parts : (i g m t j h n u : ℕ) → branch_text i g m t ≡ branch_text j h n u → i < 2 ^ 32 → j < 2 ^ 32 → g < 2 ^ 15 → h < 2 ^ 15
    → m < 2 ^ 8 → n < 2 ^ 8 → t < 2 ^ 8 → u < 2 ^ 8 → (i ≡ j) × (g ≡ h) × (m ≡ n) × (t ≡ u)
unfolding branch_text hex
branch_parts i g m t j h n u e hi hj hg hh hm hn ht hu = (
  part 8 9 i j (branch_text i g m t) (branch_text j h n u) e refl refl hi hj,
  part 4 22 g h (branch_text i g m t) (branch_text j h n u) e refl refl (omega arith) (omega arith),
  part 2 31 m n (branch_text i g m t) (branch_text j h n u) e refl refl hm hn,
  part 2 38 t u (branch_text i g m t) (branch_text j h n u) e refl refl ht hu,
)

record Small (l t m g i : ℕ) : Type 0 where
  types : t < 2 ^ 8
  mask : m < 2 ^ 8
  generation : g < 2 ^ 15
  index : i < 2 ^ 32

small : (raw l t m g i : ℕ) → HasFields l t m g i raw → Small l t m g i
unfolding types_field mask_field generation_of index_of
small raw l t m g i f =
    record {
      types = rw (← f.types) (omega arith);
      mask = rw (← f.mask) (omega arith);
      generation = rw (← f.generation) (omega arith);
      index = rw (← f.index) (omega arith);
    }

apart : (s u : List ℕ) (m n : ℕ) → s ≡ u → length s ≡ m → length u ≡ n → (m ≡ n → ⊥) → ⊥
apart s u m n e p q d = d (sym p ∙ ap length e ∙ q)

same_leaf : (a b g i h j : ℕ) → Known a 1 0 0 g i → Known b 1 0 0 h j → leaf_text i g ≡ leaf_text j h → a ≡ b
same_leaf a b g i h j k l e =
    let s = small a 1 0 0 g i k.fields in
    let r = small b 1 0 0 h j l.fields in
    let p = leaf_parts i g j h e s.index r.index s.generation r.generation in
    fields_decide 1 0 0 h j a b k.below l.below (rw (p.0, p.1) at k.fields) l.fields

same_branch : (a b t m g i u n h j : ℕ) → Known a 0 t m g i → Known b 0 u n h j → branch_text i g m t ≡ branch_text j h n u → a ≡ b
same_branch a b t m g i u n h j k l e =
    let s = small a 0 t m g i k.fields in
    let r = small b 0 u n h j l.fields in
    let p = branch_parts i g m t j h n u e s.index r.index s.generation r.generation s.mask r.mask s.types r.types in
    fields_decide 0 u n h j a b k.below l.below (rw (p.0, p.1, p.2, p.3) at k.fields) l.fields

decides : (a b : ℕ) → Kind a → Kind b → text_of a ≡ text_of b → a ≡ b
decides a b (nothing p s) (nothing q r) e = p ∙ sym q
decides a b (nothing p s) (leaf h j l r) e = absurd (apart (text_of 0) (leaf_text j h) 9 27 (sym s ∙ e ∙ r) nothing_length (leaf_length j h) (λ z. omega arith))
decides a b (nothing p s) (branch u n h j l r) e =
    absurd (apart (text_of 0) (branch_text j h n u) 9 41 (sym s ∙ e ∙ r) nothing_length (branch_length j h n u) (λ z. omega arith))
decides a b (leaf g i k s) (nothing q r) e = absurd (apart (leaf_text i g) (text_of 0) 27 9 (sym s ∙ e ∙ r) (leaf_length i g) nothing_length (λ z. omega arith))
decides a b (leaf g i k s) (leaf h j l r) e = same_leaf a b g i h j k l (sym s ∙ e ∙ r)
decides a b (leaf g i k s) (branch u n h j l r) e =
    absurd (apart (leaf_text i g) (branch_text j h n u) 27 41 (sym s ∙ e ∙ r) (leaf_length i g) (branch_length j h n u) (λ z. omega arith))
decides a b (branch t m g i k s) (nothing q r) e =
    absurd (apart (branch_text i g m t) (text_of 0) 41 9 (sym s ∙ e ∙ r) (branch_length i g m t) nothing_length (λ z. omega arith))
decides a b (branch t m g i k s) (leaf h j l r) e =
    absurd (apart (branch_text i g m t) (leaf_text j h) 41 27 (sym s ∙ e ∙ r) (branch_length i g m t) (leaf_length j h) (λ z. omega arith))
decides a b (branch t m g i k s) (branch u n h j l r) e = same_branch a b t m g i u n h j k l (sym s ∙ e ∙ r)

-- Two packed ids with the same text are the same id: an envelope may carry the text.
pub text_decides : (a b : ℕ) → Packed a → Packed b → text_of a ≡ text_of b → a ≡ b
text_decides a b p q e = decides a b (kind a p) (kind b q) e
