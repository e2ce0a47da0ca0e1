-- The steps of the walk: blocks, cells, pairs and places.
use mathlib.Core.Path.{◌≡◌, ◌∙◌, refl, sym, ap, subst}
use mathlib.Core.Logic.{⊎_elim}
use mathlib.Core.Bool.{Bool, true, false}
use mathlib.Core.List.{List, [], ◌∷◌, ◌++◌}
use Prim.Native.Nat.{ℕ, zero, suc, ◌+◌, ◌*◌, ◌-◌, ◌/◌, ◌%◌, ◌^◌, ◌≤◌, ◌<◌}
use native.Mathlib.Nat.{pow-succ'}
use native.Mathlib.Numerals.{add-one}
use native.Mathlib.Omega.{arith}
use borrow.Author.Tests.{eq-eqb, ne_eqb}
use lib.ListN.{length, set}
use Rattle.basics.specs.Limits.{deepest}
use Rattle.basics.specs.Sums.{sum_to}
use Rattle.nodes.specs.Words.{Words, nodes, kid_of, fact_of, word_of}
use Rattle.tree.specs.Tree.{Flat}
use Rattle.tree.specs.Anew.{part}
use Rattle.read_cell.specs.Models.{val}
use Rattle.read_cell.proofs.Ends.{val_facts}
use Rattle.compare_pairs.specs.Differing.{Differs, differs, if_differs, joined, differing, opens, opened}
use Rattle.compare_pairs.specs.Models.{cells_in, goes_on}
use Rattle.compare_pairs.proofs.Differing.{cells_are}
use Rattle.compare_pairs.proofs.Ids.{part_kids, on_not_last, on_opens, off_ends, ends_shut}
use Rattle.compare_pairs.proofs.Joined.{joined_ext, joined_step}
use Rattle.compare_pairs.proofs.Pairs.{if_same, if_apart, equal_none, equal_unopened, cells_length_le, opened_few}
use Rattle.compare_pairs.proofs.Sizes.{cells_most}
use Rattle.read_cell.proofs.Cube.{cells_shift}
use Rattle.compare_list.specs.List.{written, cells_written}
use Rattle.compare_list.specs.Models.{most_cells, Laid, row, block, eight_to, places_to, opened_to}
use Rattle.compare_list.proofs.Blocks.{ends_block, last_block}
use Rattle.compare_list.proofs.Laying.{laid_none, laid_one, laid_append}

-- ---- a block, and one cell

module _ (at base u v : ℕ) (c l r : List ℕ) where
  pub block_same : (size : ℕ) → u ≡ v → Laid at (block size base u v) 0 at 0 c l r c l r
  unfolding block
  block_same size e = rw (eq-eqb u v e) (laid_none at c l r)

  pub rows_none : Laid at (row 0 base u v) 0 (at + 0) 0 c l r c l r
  unfolding row joined
  rows_none = let e : at + 0 ≡ at = omega arith in rw e (laid_none at c l r)

  pub rows_step : (i : ℕ) (c₁ l₁ r₁ c₂ l₂ r₂ : List ℕ) → Laid at (row i base u v) 0 (at + i) 0 c l r c₁ l₁ r₁
      → c₂ ≡ set c₁ (at + i) (base + i) → l₂ ≡ set l₁ (at + i) u → r₂ ≡ set r₁ (at + i) v
      → Laid at (row (i + 1) base u v) 0 (at + (i + 1)) 0 c l r c₂ l₂ r₂
  unfolding row
  rows_step i c₁ l₁ r₁ c₂ l₂ r₂ h ec el er =
      let e : at + (i + 1) ≡ at + i + 1 = omega arith in
      let one = laid_one (at + i) c₁ l₁ r₁ (base + i) u v c₂ l₂ r₂ ec el er in
      rw (joined_step i (λ j. differs (base + j) u v ∷ []), e) (laid_append at c l r _ _ 0 0 (at + i) 0 (at + i + 1) 0 c₁ l₁ r₁ c₂ l₂ r₂ h one)

  pub block_done : (i size : ℕ) (c₁ l₁ r₁ : List ℕ) → (u ≡ v → ⊥) → i ≤ size → size ≤ i → Laid at (row i base u v) 0 (at + i) 0 c l r c₁ l₁ r₁
      → Laid at (block size base u v) 0 (at + size) 0 c l r c₁ l₁ r₁
  unfolding block
  block_done i size c₁ l₁ r₁ n h k q =
      let e : i ≡ size = omega arith in
      rw (ne_eqb u v n) (subst (λ (j : ℕ). Laid at (row j base u v) 0 (at + j) 0 c l r c₁ l₁ r₁) e q)

  pub cell_same : u ≡ v → Laid at (if_differs base u v) 0 at 0 c l r c l r
  cell_same e = rw (if_same base u v e) (laid_none at c l r)

  pub cell_put : (c' l' r' : List ℕ) → (u ≡ v → ⊥) → c' ≡ set c at base → l' ≡ set l at u → r' ≡ set r at v
      → Laid at (if_differs base u v) 0 (at + 1) 0 c l r c' l' r'
  cell_put c' l' r' n ec el er = rw (if_apart base u v n) (laid_one at c l r base u v c' l' r' ec el er)

-- ---- a pair

module _ (ks fs : List ℕ) (at base a b k : ℕ) (c l r : List ℕ) where
  abbrev M : Words
  M = word_of (nodes ks fs)

  pub pair_same : a ≡ b → Laid at (cells_in 8 (word_of (nodes ks fs)) k base a b) (opened 8 (word_of (nodes ks fs)) k a b) at 0 c l r c l r
  pair_same e = rw (e, equal_none 8 M k base b, equal_unopened 8 M k b) (laid_none at c l r)

  -- with no level left, or of two ends, it is a block and not opened
  last : goes_on k a b ≡ false → (cells_in 8 M k base a b ≡ block (8 ^ k) base (val M a) (val M b)) × (opened 8 M k a b ≡ 0)
  unfolding opened
  last h = ⊎_elim low flat (off_ends k a b h)
    where
      low : k ≡ 0 → (cells_in 8 M k base a b ≡ block (8 ^ k) base (val M a) (val M b)) × (opened 8 M k a b ≡ 0)
      low e = rw e (last_block 8 M base a b, refl)

      flat : Flat a × Flat b → (cells_in 8 M k base a b ≡ block (8 ^ k) base (val M a) (val M b)) × (opened 8 M k a b ≡ 0)
      flat f = (ends_block 8 M k base a b f.0 f.1, shut k)
        where
          shut : (j : ℕ) → opened 8 M j a b ≡ 0
          shut zero = refl
          shut (suc j) = rw (ends_shut a b f.0 f.1)

  module _ (x y : ℕ) (c' l' r' : List ℕ) (t : Bool) (e : t ≡ goes_on k a b) where
    pub pair_block : (size u v : ℕ) → t ≡ false → size ≡ 8 ^ k → u ≡ val (fact_of fs) a → v ≡ val (fact_of fs) b
        → Laid at (block size base u v) 0 x y c l r c' l' r'
        → Laid at (cells_in 8 (word_of (nodes ks fs)) k base a b) (opened 8 (word_of (nodes ks fs)) k a b) x y c l r c' l' r'
    pair_block size u v h es eu ev q =
        let z = last (sym e ∙ h) in
        let i : u ≡ val M a = eu ∙ val_facts ks fs a in
        let j : v ≡ val M b = ev ∙ val_facts ks fs b in
        rw (z.0, z.1, ← es, ← i, ← j) q

    pub pair_places : (a ≡ b → ⊥) → t ≡ true
        → Laid at (places_to (word_of (nodes ks fs)) (k - 1) base a b 8) (opened_to (word_of (nodes ks fs)) (k - 1) a b 8) x y c l r c' l' r'
        → Laid at (cells_in 8 (word_of (nodes ks fs)) k base a b) (opened 8 (word_of (nodes ks fs)) k a b) x y c l r c' l' r'
    unfolding places_to opened_to cells_in opened
    pair_places n h q = go k (on_not_last k a b (sym e ∙ h)) (on_opens k a b n (sym e ∙ h)) q
      where
        go : (k : ℕ) → (k ≡ 0 → ⊥) → opens a b ≡ true → Laid at (places_to M (k - 1) base a b 8) (opened_to M (k - 1) a b 8) x y c l r c' l' r'
            → Laid at (cells_in 8 M k base a b) (opened 8 M k a b) x y c l r c' l' r'
        go zero z o q = absurd (z refl)
        go (suc j) z o q = let p : suc j - 1 ≡ j = omega arith in rw o (rw p at q)

    -- one level above the cells
    pub pair_cells : k ≡ 1 → (a ≡ b → ⊥) → t ≡ true
        → Laid at (places_to (word_of (nodes ks fs)) 0 base a b 8) (opened_to (word_of (nodes ks fs)) 0 a b 8) x y c l r c' l' r'
        → Laid at (cells_in 8 (word_of (nodes ks fs)) k base a b) (opened 8 (word_of (nodes ks fs)) k a b) x y c l r c' l' r'
    pair_cells o n h q =
        let z : 0 ≡ k - 1 = omega arith in
        pair_places n h (subst (λ (i : ℕ). Laid at (places_to M i base a b 8) (opened_to M i a b 8) x y c l r c' l' r') z q)

  -- ---- its places

  pub places_none : Laid at (places_to (word_of (nodes ks fs)) k base a b 0) (opened_to (word_of (nodes ks fs)) k a b 0) at 1 c l r c l r
  unfolding places_to opened_to joined sum_to
  places_none = let z = laid_none at c l r in record { to = z.to; opened = refl; codes = z.codes; lefts = z.lefts; rights = z.rights }

  -- one more of them
  place_more : (i x y z w : ℕ) (c₁ l₁ r₁ c₂ l₂ r₂ : List ℕ) → Laid at (places_to M k base a b i) (opened_to M k a b i) x y c l r c₁ l₁ r₁
      → Laid x (cells_in 8 M k (base + i * 8 ^ k) (part M a i) (part M b i)) (opened 8 M k (part M a i) (part M b i)) z w c₁ l₁ r₁ c₂ l₂ r₂
      → Laid at (places_to M k base a b (i + 1)) (opened_to M k a b (i + 1)) z (y + w) c l r c₂ l₂ r₂
  unfolding places_to opened_to sum_to
  place_more i x y z w c₁ l₁ r₁ c₂ l₂ r₂ u v =
      let f : ℕ → List Differs = λ j. cells_in 8 M k (base + j * 8 ^ k) (part M a j) (part M b j) in
      let o : ℕ → ℕ = λ j. opened 8 M k (part M a j) (part M b j) in
      let s : 1 + sum_to i o + o i ≡ 1 + (sum_to i o + o i) = omega arith in
      rw (joined_step i f, add-one i)
      (subst (λ (n : ℕ). Laid at (joined i f ++ f i) n z (y + w) c l r c₂ l₂ r₂) s (laid_append at c l r _ _ _ _ x y z w c₁ l₁ r₁ c₂ l₂ r₂ u v))

  pub places_step : (i size from p q x y z w : ℕ) (c₁ l₁ r₁ c₂ l₂ r₂ : List ℕ)
      → Laid at (places_to (word_of (nodes ks fs)) k base a b i) (opened_to (word_of (nodes ks fs)) k a b i) x y c l r c₁ l₁ r₁
      → Laid x (cells_in 8 (word_of (nodes ks fs)) k from p q) (opened 8 (word_of (nodes ks fs)) k p q) z w c₁ l₁ r₁ c₂ l₂ r₂
      → size ≡ 8 ^ k → from ≡ base + i * size → i < 8 → p ≡ part (kid_of ks) a i → q ≡ part (kid_of ks) b i
      → Laid at (places_to (word_of (nodes ks fs)) k base a b (i + 1)) (opened_to (word_of (nodes ks fs)) k a b (i + 1)) z (y + w) c l r c₂ l₂ r₂
  places_step i size from p q x y z w c₁ l₁ r₁ c₂ l₂ r₂ u v es ef h ep eq =
      let f : from ≡ base + i * 8 ^ k = ef ∙ ap (λ (j : ℕ). base + i * j) es in
      let pa : p ≡ part M a i = ep ∙ part_kids ks fs a i h in
      let qb : q ≡ part M b i = eq ∙ part_kids ks fs b i h in
      place_more i x y z w c₁ l₁ r₁ c₂ l₂ r₂ u (rw (f, pa, qb) at v)

-- ---- eight cells

module _ (at base : ℕ) (f g : ℕ → ℕ) (c l r : List ℕ) where
  pub eight_none : Laid at (eight_to base f g 0) 0 at 0 c l r c l r
  unfolding eight_to joined
  eight_none = laid_none at c l r

  pub eight_step : (i x z code u v : ℕ) (c₁ l₁ r₁ c₂ l₂ r₂ : List ℕ) → Laid at (eight_to base f g i) 0 x 0 c l r c₁ l₁ r₁
      → Laid x (if_differs code u v) 0 z 0 c₁ l₁ r₁ c₂ l₂ r₂ → code ≡ base + i → u ≡ f i → v ≡ g i → Laid at (eight_to base f g (i + 1)) 0 z 0 c l r c₂ l₂ r₂
  unfolding eight_to
  eight_step i x z code u v c₁ l₁ r₁ c₂ l₂ r₂ s t e eu ev =
      rw (joined_step i (λ j. if_differs (base + j) (f j) (g j))) (laid_append at c l r _ _ 0 0 x 0 z 0 c₁ l₁ r₁ c₂ l₂ r₂ s (rw (e, eu, ev) at t))

-- those of a pair one level above the cells are its places
pub eight_places : (W : Words) (at base a b x : ℕ) (c l r c' l' r' : List ℕ) → Laid at (eight_to base (λ i. val W (part W a i)) (λ i. val W (part W b i)) 8) 0 x 0 c l r c' l' r'
    → Laid at (places_to W 0 base a b 8) (opened_to W 0 a b 8) x 1 c l r c' l' r'
unfolding eight_to places_to opened_to cells_in opened sum_to
eight_places W at base a b x c l r c' l' r' q =
    let e = joined_ext 8 (λ i. if_differs (base + i) (val W (part W a i)) (val W (part W b i))) (λ i. cells_in 8 W 0 (base + i * 8 ^ 0) (part W a i) (part W b i))
    (λ i h. let z : base + i ≡ base + i * 8 ^ 0 = omega arith in ap (λ (n : ℕ). if_differs n (val W (part W a i)) (val W (part W b i))) z) in
    let p = rw e at q in
    record { to = p.to; opened = refl; codes = p.codes; lefts = p.lefts; rights = p.rights }

-- ---- sizes and bounds

pub size_shift : (d : ℕ) → d ≤ deepest → 1 * 2 ^ (3 * d) % 2 ^ 32 ≡ 8 ^ d
size_shift d h = cells_shift 32 d (omega arith)

pub size_small : (d : ℕ) → d ≤ deepest → 1 * 2 ^ (3 * d) % 2 ^ 32 ≤ most_cells
size_small d h = rw (size_shift d h) (cells_most d h)

module _ (k size a b : ℕ) (t : Bool) (e : t ≡ goes_on k a b) (h : t ≡ true) where
  pub level_left : 1 ≤ k
  level_left = omega (arith, on_not_last k a b (sym e ∙ h))

  pub on_falls : (n : ℕ) → 2 * k ≡ n → 2 * (k - 1) + 1 < n
  on_falls n m = omega (arith, level_left)

  pub eighth : size ≡ 8 ^ k → size / 8 ≡ 8 ^ (k - 1)
  eighth s = go k (on_not_last k a b (sym e ∙ h)) s
    where
      go : (k : ℕ) → (k ≡ 0 → ⊥) → size ≡ 8 ^ k → size / 8 ≡ 8 ^ (k - 1)
      go zero z s = absurd (z refl)
      go (suc j) z s = let p : suc j - 1 ≡ j = omega arith in rw p (omega (arith, pow-succ' 8 j))

-- no more cells than there are, and no more pairs
module _ (W : Words) (k size : ℕ) (e : size ≡ 8 ^ k) (a b : ℕ) where
  pub cells_few : (base : ℕ) → length (cells_in 8 W k base a b) ≤ size
  cells_few base = omega (arith, cells_length_le 8 W k base a b)

  pub pairs_few : opened 8 W k a b ≤ size
  pairs_few = omega (arith, opened_few 7 W k a b)

-- so how far the walk came
pub few : (ks fs : List ℕ) (k base a b size at x y : ℕ) (c l r c' l' r' : List ℕ) → size ≡ 8 ^ k
    → Laid at (cells_in 8 (word_of (nodes ks fs)) k base a b) (opened 8 (word_of (nodes ks fs)) k a b) x y c l r c' l' r' → (x ≤ at + size) × (y ≤ size)
few ks fs k base a b size at x y c l r c' l' r' e q =
    let i = cells_few (word_of (nodes ks fs)) k size e a b base in
    let j = pairs_few (word_of (nodes ks fs)) k size e a b in
    (omega (arith, q.to), omega (arith, q.opened))

-- ---- the list

pub write_done : (ks fs : List ℕ) (a b d x y : ℕ) (c l r c' l' r' : List ℕ)
    → Laid 0 (cells_in 8 (word_of (nodes ks fs)) d 0 a b) (opened 8 (word_of (nodes ks fs)) d a b) x y c l r c' l' r'
    → written x y c' l' r' ≡ cells_written (differing 8 (word_of (nodes ks fs)) d a b) (opened 8 (word_of (nodes ks fs)) d a b) c l r
unfolding cells_written
write_done ks fs a b d x y c l r c' l' r' q =
    let W : Words = word_of (nodes ks fs) in
    let e : x ≡ length (cells_in 8 W d 0 a b) = omega (arith, q.to) in
    rw (← cells_are 8 W d a b) (λ i. written (e i) (q.opened i) (q.codes i) (q.lefts i) (q.rights i))

-- .. and the parts are given back
pub write_back : (ks fs : List ℕ) (a b d x y : ℕ) (c l r c₁ l₁ r₁ c' l' r' : List ℕ)
    → Laid 0 (cells_in 8 (word_of (nodes ks fs)) d 0 a b) (opened 8 (word_of (nodes ks fs)) d a b) x y c l r c₁ l₁ r₁ → c' ≡ c₁ → l' ≡ l₁ → r' ≡ r₁
    → written x y c' l' r' ≡ cells_written (differing 8 (word_of (nodes ks fs)) d a b) (opened 8 (word_of (nodes ks fs)) d a b) c l r
write_back ks fs a b d x y c l r c₁ l₁ r₁ c' l' r' q i j k = rw (i, j, k) (write_done ks fs a b d x y c l r c₁ l₁ r₁ q)
