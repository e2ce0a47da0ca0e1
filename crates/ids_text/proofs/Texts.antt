-- How the text is written.
use mathlib.Core.Path.{◌≡◌, sym, ap, ◌∙◌}
use mathlib.Core.Bool.{Bool, true, false}
use mathlib.Core.List.{List, ◌++◌}
use Prim.Native.Nat.{ℕ, suc, ◌+◌, ◌-◌, ◌/◌, ◌%◌, ◌^◌, ◌≤◌, ◌<◌}
use native.Mathlib.Nat.{div-div-eq-div-mul, pow-suc}
use native.Mathlib.Omega.{arith}
use lib.Dec.{eqb}
use lib.ListN.{set, replicate}
use borrow.Author.Tests.{lt-ltb, le-ltb}
use Rattle.basics.specs.Codes.{codes}
use Rattle.basics.specs.Puts.{puts_from}
use Rattle.basics.proofs.Puts.{puts_first}
use Rattle.ids_text.specs.declared.IdText.{IdText}
use Rattle.ids.specs.Ids.{empty, invalid, is_leaf, index_of, generation_of, mask_field, types_field, mask_of, types_of}
use Rattle.ids_text.specs.Text.{digit, hex, leaf_text, branch_text, padded, text_of}

-- ---- one digit

pub low_digit : (d : ℕ) → d < 10 → 48 + d ≡ digit d
unfolding digit
low_digit d h = rw (lt-ltb d 10 h)

pub high_digit : (d : ℕ) → 10 ≤ d → 55 + d ≡ digit d
unfolding digit
high_digit d h = rw (le-ltb d 10 h)

-- ---- the digits from the last to the first: those from `place` on are written, `rest` holds the others

module _ (l : List ℕ) (at n v : ℕ) where
  pub digits_none : l ≡ puts_from l (at + n) (hex (at + n - (at + n)) v)
  unfolding puts_from hex
  digits_none = let e : at + n - (at + n) ≡ 0 = omega arith in rw e

  pub rest_none : v ≡ v / 16 ^ (at + n - (at + n))
  rest_none = let e : at + n - (at + n) ≡ 0 = omega arith in rw e (omega arith)

  module _ (out : List ℕ) (rest place : ℕ) (some : at < place) (most : place ≤ at + n) where
    next : at + n - (place - 1) ≡ suc (at + n - place)
    next = omega arith

    pub digits_more : (d : ℕ) → out ≡ puts_from l place (hex (at + n - place) v) → rest ≡ v / 16 ^ (at + n - place)
        → d ≡ digit (rest % 16) → set out (place - 1) d ≡ puts_from l (place - 1) (hex (at + n - (place - 1)) v)
    unfolding hex
    digits_more d e r h =
        let p : suc (place - 1) ≡ place = omega arith in
        let k = at + n - place in
        rw (next, puts_first l (place - 1) (digit (v / 16 ^ k % 16)) (hex k v), p, h, r, e)

    pub rest_more : rest ≡ v / 16 ^ (at + n - place) → rest / 16 ≡ v / 16 ^ (at + n - (place - 1))
    rest_more r = rw (next, r, div-div-eq-div-mul, pow-suc)

  pub digits_all : (out : List ℕ) (place : ℕ) → at ≤ place → place ≤ at → out ≡ puts_from l place (hex (at + n - place) v) → out ≡ puts_from l at (hex n v)
  digits_all out place p q e =
      let s : place ≡ at = omega arith in
      let k : at + n - at ≡ n = omega arith in
      e ∙ ap (λ (x : ℕ). puts_from l x (hex (at + n - x) v)) s ∙ ap (λ (x : ℕ). puts_from l at (hex x v)) k

-- ---- the digits in their places make the text

pub leaf_written : (b c : List ℕ) (i g : ℕ) → b ≡ puts_from (codes "Id(L, i: 00000000, g: 0000)" ++ replicate 14 0) 9 (hex 8 i)
    → c ≡ puts_from b 22 (hex 4 g) → ◌≡◌ {A = IdText} (record { bytes = c; len = 27 }) (padded (leaf_text i g))
unfolding padded leaf_text hex puts_from
leaf_written b c i g p q = ap (λ (s : List ℕ). record { bytes = s; len = 27 }) (q ∙ ap (λ (s : List ℕ). puts_from s 22 (hex 4 g)) p)

pub branch_written : (b c d e : List ℕ) (i g m t : ℕ) → b ≡ puts_from (codes "Id(B, i: 00000000, g: 0000, m: 00, t: 00)") 9 (hex 8 i)
    → c ≡ puts_from b 22 (hex 4 g) → d ≡ puts_from c 31 (hex 2 m) → e ≡ puts_from d 38 (hex 2 t)
    → ◌≡◌ {A = IdText} (record { bytes = e; len = 41 }) (padded (branch_text i g m t))
unfolding padded branch_text hex puts_from
branch_written b c d e i g m t p q r s =
    ap (λ (x : List ℕ). record { bytes = x; len = 41 })
    (s
    ∙ ap (λ (x : List ℕ). puts_from x 38 (hex 2 t))
    (r ∙ ap (λ (x : List ℕ). puts_from x 31 (hex 2 m)) (q ∙ ap (λ (x : List ℕ). puts_from x 22 (hex 4 g)) p)))

-- ---- which text

module _ (raw : ℕ) (r : IdText) (none : Bool) (en : none ≡ eqb raw invalid) where
  pub text_invalid : none ≡ true → r ≡ padded (codes "Id(INVALID)") → r ≡ padded (text_of raw)
  unfolding text_of
  text_invalid h e = rw (sym en ∙ h) e

  module _ (valid : none ≡ false) (bare : Bool) (eb : bare ≡ eqb raw empty) where
    pub text_empty : bare ≡ true → r ≡ padded (codes "Id(EMPTY)") → r ≡ padded (text_of raw)
    unfolding text_of
    text_empty h e = rw (sym en ∙ valid, sym eb ∙ h) e

    module _ (some : bare ≡ false) (leaf : Bool) (el : leaf ≡ is_leaf raw) (i g : ℕ) (ei : i ≡ index_of raw) (eg : g ≡ generation_of raw) where
      pub text_leaf : leaf ≡ true → r ≡ padded (leaf_text i g) → r ≡ padded (text_of raw)
      unfolding text_of
      text_leaf h e = rw (sym en ∙ valid, sym eb ∙ some, sym el ∙ h, ← ei, ← eg) e

      pub text_branch : (m t : ℕ) → leaf ≡ false → m ≡ mask_of raw → t ≡ types_of raw → r ≡ padded (branch_text i g m t) → r ≡ padded (text_of raw)
      unfolding text_of mask_of types_of
      text_branch m t h em et e =
          let pm : m ≡ mask_field raw = em ∙ rw (sym el ∙ h) in
          let pt : t ≡ types_field raw = et ∙ rw (sym el ∙ h) in
          rw (sym en ∙ valid, sym eb ∙ some, sym el ∙ h, ← ei, ← eg, ← pm, ← pt) e
