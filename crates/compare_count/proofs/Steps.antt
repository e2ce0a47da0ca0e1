-- The steps of the count: a block, eight cells, pairs and places.
use mathlib.Core.Path.{◌≡◌, ◌∙◌, refl, sym, ap}
use mathlib.Core.Logic.{⊎_elim}
use mathlib.Core.Bool.{Bool, true, false}
use mathlib.Core.List.{List}
use Prim.Native.Nat.{ℕ, zero, suc, ◌+◌, ◌*◌, ◌-◌, ◌%◌, ◌^◌, ◌≤◌, ◌<◌}
use native.Mathlib.Nat.{pow-zero, mul-le-mul_right}
use native.Mathlib.Numerals.{add-one}
use native.Mathlib.Omega.{arith}
use borrow.Author.Tests.{eq-eqb, ne_eqb, le-leb, lt-leb}
use lib.Dec.{eqb}
use Rattle.basics.specs.Limits.{deepest, cube_kids}
use Rattle.basics.specs.Pick.{pick}
use Rattle.basics.specs.Sums.{sum_to}
use Rattle.nodes.specs.Words.{Words, nodes, kid_of, fact_of, word_of}
use Rattle.nodes.proofs.Sums.{cases, sum_to_ext_lem}
use native.Mathlib.Decide.{ℕ_discrete}
use Rattle.tree.specs.Anew.{part}
use Rattle.read_cell.specs.Models.{val}
use Rattle.read_cell.proofs.Ends.{val_facts}
use Rattle.compare_pairs.specs.Models.{goes_on}
use Rattle.compare_pairs.proofs.Ids.{part_kids, on_not_last, off_ends}
use Rattle.compare_pairs.proofs.Pairs.{count_end, count_places}
use Rattle.compare_pairs.proofs.Sizes.{places_most}
use Rattle.read_cell.proofs.Cube.{cells_shift}
use Rattle.compare_count.specs.Count.{count_of}
use Rattle.compare_count.specs.Models.{count_in, block_count, eight_to, places_count}
use Rattle.compare_count.proofs.Counts.{count_few, count_same, count_ends}

-- ---- a block

pub block_same : (u v k : ℕ) → u ≡ v → 0 ≡ block_count u v k
unfolding block_count
block_same u v k e = rw (eq-eqb u v e) refl

pub block_differs : (u v k : ℕ) → k ≤ deepest → (u ≡ v → ⊥) → 1 * 2 ^ (3 * k) % 2 ^ 32 ≡ block_count u v k
unfolding block_count
block_differs u v k h n = rw (ne_eqb u v n) (cells_shift 32 k (omega arith))

pub cell_few : (u v : ℕ) → block_count u v 0 ≤ 1
unfolding block_count
cell_few u v = cases (ℕ_discrete u v) (λ e. rw (eq-eqb u v e) (omega arith)) (λ e. rw (ne_eqb u v e) (omega arith))

-- ---- eight cells

module _ (f g : ℕ → ℕ) where
  pub eight_none : 0 ≡ eight_to f g 0
  unfolding eight_to sum_to
  eight_none = refl

  pub eight_step : (c m u v q : ℕ) → m ≡ eight_to f g c → q ≡ block_count u v 0 → u ≡ f c → v ≡ g c → m + q ≡ eight_to f g (c + 1)
  unfolding eight_to sum_to
  eight_step c m u v q em eq eu ev = rw (add-one c, em, eq, eu, ev)

-- the eight cells of a pair are its places
pub eight_places : (W : Words) (a b : ℕ) → eight_to (λ i. val W (part W a i)) (λ i. val W (part W b i)) cube_kids ≡ places_count W 0 a b cube_kids
unfolding eight_to places_count count_in block_count
eight_places W a b =
    sum_to_ext_lem cube_kids (λ i. block_count (val W (part W a i)) (val W (part W b i)) 0) (λ i. count_in cube_kids W 0 (part W a i) (part W b i))
    (λ i _. sym (count_end cube_kids W (part W a i) (part W b i)))

pub one_left : (k a b : ℕ) (t : Bool) → t ≡ goes_on k a b → t ≡ true → k ≡ 1 → goes_on 1 a b ≡ true
one_left k a b t e h o = ap (λ (i : ℕ). goes_on i a b) (sym o) ∙ sym e ∙ h

-- ---- a pair

shut_count : (n : ℕ) (W : Words) (k a b : ℕ) → goes_on k a b ≡ false → count_in n W k a b ≡ pick (eqb (val W a) (val W b)) 0 (n ^ k)
unfolding count_in
shut_count n W k a b h = ⊎_elim low (λ f. count_ends n W k a b f.0 f.1) (off_ends k a b h)
  where
    low : k ≡ 0 → count_in n W k a b ≡ pick (eqb (val W a) (val W b)) 0 (n ^ k)
    low e = rw (e, pow-zero n) (count_end n W a b)

open_count : (W : Words) (k a b : ℕ) → (k ≡ 0 → ⊥) → places_count W (k - 1) a b cube_kids ≡ count_in cube_kids W k a b
unfolding places_count count_in
open_count W zero a b z = absurd (z refl)
open_count W (suc j) a b z = let p : suc j - 1 ≡ j = omega arith in rw p (sym (count_places cube_kids W j a b))

module _ (ks fs : List ℕ) (a b k : ℕ) where
  pub pair_same : a ≡ b → 0 ≡ count_in cube_kids (word_of (nodes ks fs)) k a b
  pair_same e = rw e (sym (count_same cube_kids (word_of (nodes ks fs)) k b))

  pub pair_block : (t : Bool) (u v m : ℕ) → t ≡ goes_on k a b → t ≡ false → u ≡ val (fact_of fs) a → v ≡ val (fact_of fs) b → m ≡ block_count u v k
      → m ≡ count_in cube_kids (word_of (nodes ks fs)) k a b
  unfolding block_count
  pair_block t u v m e h eu ev em =
      let i : u ≡ val (word_of (nodes ks fs)) a = eu ∙ val_facts ks fs a in
      let j : v ≡ val (word_of (nodes ks fs)) b = ev ∙ val_facts ks fs b in
      rw (em, i, j, shut_count cube_kids (word_of (nodes ks fs)) k a b (sym e ∙ h))

  pub pair_places : (t : Bool) (m : ℕ) → t ≡ goes_on k a b → t ≡ true → m ≡ places_count (word_of (nodes ks fs)) (k - 1) a b cube_kids
      → m ≡ count_in cube_kids (word_of (nodes ks fs)) k a b
  pair_places t m e h q = q ∙ open_count (word_of (nodes ks fs)) k a b (on_not_last k a b (sym e ∙ h))

  -- one level above the cells
  pub pair_cells : (t : Bool) (m : ℕ) → k ≡ 1 → t ≡ goes_on k a b → t ≡ true → m ≡ places_count (word_of (nodes ks fs)) 0 a b cube_kids
      → m ≡ count_in cube_kids (word_of (nodes ks fs)) k a b
  pair_cells t m o e h q =
      let z : 0 ≡ k - 1 = omega arith in
      pair_places t m e h (q ∙ ap (λ (i : ℕ). places_count (word_of (nodes ks fs)) i a b cube_kids) z)

-- a pair that goes on has a level left, and its places have one level less
pub level_left : (k a b : ℕ) (t : Bool) → t ≡ goes_on k a b → t ≡ true → 1 ≤ k
level_left k a b t e h = let n = on_not_last k a b (sym e ∙ h) in omega (arith, n)

pub places_low : (k a b : ℕ) (t : Bool) → t ≡ goes_on k a b → t ≡ true → k ≤ deepest → k - 1 < deepest
places_low k a b t e h l = let n = on_not_last k a b (sym e ∙ h) in omega (arith, n)

pub places_falls : (k a b m : ℕ) (t : Bool) → t ≡ goes_on k a b → t ≡ true → 2 * k ≡ m → 2 * (k - 1) + 1 < m
places_falls k a b m t e h q = let n = on_not_last k a b (sym e ∙ h) in omega (arith, n)

-- ---- its places

module _ (ks fs : List ℕ) (a b k : ℕ) where
  pub places_none : 0 ≡ places_count (word_of (nodes ks fs)) k a b 0
  unfolding places_count sum_to
  places_none = refl

  pub places_step : (c m p q r : ℕ) → m ≡ places_count (word_of (nodes ks fs)) k a b c → r ≡ count_in cube_kids (word_of (nodes ks fs)) k p q
      → p ≡ part (kid_of ks) a c → q ≡ part (kid_of ks) b c → c < 8 → m + r ≡ places_count (word_of (nodes ks fs)) k a b (c + 1)
  unfolding places_count sum_to
  places_step c m p q r em er ep eq h = rw (add-one c, em, er, ep, eq, part_kids ks fs a c h, part_kids ks fs b c h)

-- so few that a sum of eight has no more than 32 bits
module _ (ks fs : List ℕ) (p q k c m r : ℕ) (e : r ≡ count_in cube_kids (word_of (nodes ks fs)) k p q) (f : m ≤ c * 8 ^ k) where
  pub cells_few : m + r ≤ (c + 1) * 8 ^ k
  cells_few = let g = count_few cube_kids (word_of (nodes ks fs)) k p q in omega arith

  pub cells_fit : k < deepest → c < 8 → m + r < 2 ^ 32
  cells_fit l h = let i : suc c * 8 ^ k ≤ 8 * 8 ^ k = mul-le-mul_right (8 ^ k) h in omega (arith, cells_few, places_most k l)

-- ---- the call

module _ (ks fs : List ℕ) (a b d : ℕ) where
  pub counted : (m : ℕ) → d ≤ deepest → m ≡ count_in cube_kids (word_of (nodes ks fs)) d a b → m ≡ count_of (word_of (nodes ks fs)) a b d
  unfolding count_of count_in
  counted m h e = e ∙ rw (le-leb d deepest h)

  pub too_deep : deepest < d → 0 ≡ count_of (word_of (nodes ks fs)) a b d
  unfolding count_of
  too_deep h = rw (lt-leb d deepest h)
