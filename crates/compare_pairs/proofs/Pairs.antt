-- How many cells and pairs at most; pairs of equal ids; the sides exchanged.
use mathlib.Core.Path.{◌≡◌, ◌∙◌, refl, sym, ap, ap₂}
use mathlib.Core.Bool.{Bool, true, false}
use mathlib.Core.List.{[], ◌∷◌, map}
use Prim.Native.Nat.{ℕ, zero, suc, ◌+◌, ◌*◌, ◌^◌, ◌≤◌, ◌<◌}
use native.Mathlib.Nat.{pow-succ', pow-zero}
use native.Mathlib.Decide.{ℕ_discrete}
use native.Mathlib.Omega.{arith}
use borrow.Author.Tests.{eq-eqb, ne_eqb}
use lib.Dec.{eqb}
use lib.ListN.{length}
use Rattle.basics.specs.Pick.{pick}
use Rattle.basics.specs.Sums.{sum_to}
use Rattle.nodes.specs.Words.{Words}
use Rattle.nodes.proofs.Sums.{cases, sum_to_ext_lem}
use Rattle.tree.specs.Anew.{part}
use Rattle.read_cell.specs.Models.{val}
use Rattle.compare_pairs.specs.Differing.{Differs, differs, cell_of, reads, if_differs, differing, branches, opens, opened}
use Rattle.compare_pairs.specs.Models.{cells_in}
use Rattle.compare_pairs.proofs.Joined.{joined_ext, joined_none, joined_map, joined_length, sum_le}
use Rattle.compare_pairs.proofs.Differing.{cells_from, cells_are}

-- ---- one cell, or none

pub if_same : (c u v : ℕ) → u ≡ v → if_differs c u v ≡ []
unfolding if_differs
if_same c u v e = rw (eq-eqb u v e)

pub if_apart : (c u v : ℕ) → (u ≡ v → ⊥) → if_differs c u v ≡ differs c u v ∷ []
unfolding if_differs
if_apart c u v e = rw (ne_eqb u v e)

pub if_length : (c u v : ℕ) → length (if_differs c u v) ≡ pick (eqb u v) 0 1
unfolding if_differs
if_length c u v = go (eqb u v)
  where
    go : (t : Bool) → length (pick t [] (differs c u v ∷ [])) ≡ pick t 0 1
    go true = refl
    go false = refl

one_most : (t : Bool) → pick t 0 1 ≤ 1
one_most true = omega arith
one_most false = omega arith

-- ---- how many cells: as many as differ, so no more than there are

module _ (n : ℕ) (W : Words) where
  pub count_is : (d a b : ℕ)
      → length (differing n W d a b) ≡ sum_to (n ^ d) (λ c. pick (eqb (reads W (cell_of n d c) a) (reads W (cell_of n d c) b)) 0 1)
  unfolding differing
  count_is d a b = joined_length (n ^ d) _ ∙ sum_to_ext_lem (n ^ d) _ _ (λ c h. if_length c (reads W (cell_of n d c) a) (reads W (cell_of n d c) b))

  pub count_le : (d a b : ℕ) → length (differing n W d a b) ≤ n ^ d
  count_le d a b =
      omega
      (arith, count_is d a b, sum_le (n ^ d) 1 _ (λ c h. one_most (eqb (reads W (cell_of n d c) a) (reads W (cell_of n d c) b))))

  -- wherever the codes start, as many cells differ
  any_base : (k base a b : ℕ) → length (cells_in n W k base a b) ≡ length (differing n W k a b)
  any_base k base a b =
      ap length (cells_from n W k base a b) ∙ joined_length (n ^ k) _
      ∙ sum_to_ext_lem (n ^ k) _ _ (λ c h. if_length (base + c) (reads W (cell_of n k c) a) (reads W (cell_of n k c) b)) ∙ sym (count_is k a b)

  pub cells_length_le : (k base a b : ℕ) → length (cells_in n W k base a b) ≤ n ^ k
  cells_length_le k base a b = rw (any_base k base a b) (count_le k a b)

  -- with no level left, and place by place
  pub count_end : (a b : ℕ) → length (differing n W 0 a b) ≡ pick (eqb (val W a) (val W b)) 0 1
  unfolding cells_in
  count_end a b = ap length (sym (cells_are n W 0 a b)) ∙ if_length 0 (val W a) (val W b)

  pub count_places : (k a b : ℕ) → length (differing n W (suc k) a b) ≡ sum_to n (λ i. length (differing n W k (part W a i) (part W b i)))
  unfolding cells_in
  count_places k a b =
      ap length (sym (cells_are n W (suc k) a b)) ∙ joined_length n _ ∙ sum_to_ext_lem n _ _ (λ i h. any_base k (0 + i * n ^ k) (part W a i) (part W b i))

-- ---- equal ids: nothing differs, nothing is opened

module _ (n : ℕ) (W : Words) where
  pub equal_none : (k base a : ℕ) → cells_in n W k base a a ≡ []
  equal_none k base a = cells_from n W k base a a ∙ joined_none (n ^ k) _ (λ c h. if_same (base + c) _ _ refl)

  pub equal_list : (d a : ℕ) → differing n W d a a ≡ []
  unfolding differing
  equal_list d a = joined_none (n ^ d) _ (λ c h. if_same c _ _ refl)

  pub equal_unopened : (k a : ℕ) → opened n W k a a ≡ 0
  unfolding opened opens
  equal_unopened zero a = refl
  equal_unopened (suc k) a = rw (eq-eqb a a refl)

-- ---- how many pairs: fewer than a complete tree has inner nodes

sum_few : (m q c : ℕ) (f : ℕ → ℕ) → ((i : ℕ) → i < m → q * f i + 1 ≤ c) → q * sum_to m f + m ≤ m * c
unfolding sum_to
sum_few zero q c f h = omega arith
sum_few (suc m) q c f h = omega (arith, sum_few m q c f (λ i l. h i (omega arith)), h m (omega arith))

module _ (m : ℕ) (W : Words) where
  few_step : (k a b : ℕ) → ((i j : ℕ) → m * opened (suc m) W k i j + 1 ≤ suc m ^ k) → m * opened (suc m) W (suc k) a b + 1 ≤ suc m ^ suc k
  unfolding opened
  few_step k a b ih =
      let s = sum_few (suc m) m (suc m ^ k) (λ i. opened (suc m) W k (part W a i) (part W b i)) (λ i h. ih (part W a i) (part W b i)) in
      rw (pow-succ' (suc m) k) (go (opens a b) s)
    where
      below : ℕ
      below = sum_to (suc m) (λ i. opened (suc m) W k (part W a i) (part W b i))

      go : (t : Bool) → m * below + suc m ≤ suc m * suc m ^ k → m * pick t (1 + below) 0 + 1 ≤ suc m * suc m ^ k
      go true s = omega arith
      go false s = omega arith

  -- of n = m + 1 children: m times the pairs opened are fewer than the cells
  pub opened_few : (k a b : ℕ) → m * opened (suc m) W k a b + 1 ≤ suc m ^ k
  unfolding opened
  opened_few zero a b = omega (arith, pow-zero (suc m))
  opened_few (suc k) a b = few_step k a b (opened_few k)

-- ---- the sides exchanged

-- a differing cell with its sides exchanged
abbrev pub swap : Differs → Differs
swap e = differs e.code e.right e.left

pub eqb_sym : (x y : ℕ) → eqb x y ≡ eqb y x
eqb_sym x y = cases (ℕ_discrete x y) (λ e. eq-eqb x y e ∙ sym (eq-eqb y x (sym e))) (λ e. ne_eqb x y e ∙ sym (ne_eqb y x (λ k. e (sym k))))

if_swap : (c u v : ℕ) → if_differs c v u ≡ map swap (if_differs c u v)
unfolding if_differs
if_swap c u v = ap (λ (t : Bool). pick t [] (differs c v u ∷ [])) (eqb_sym v u) ∙ go (eqb u v)
  where
    go : (t : Bool) → pick t [] (differs c v u ∷ []) ≡ map swap (pick t [] (differs c u v ∷ []))
    go true = refl
    go false = refl

opens_sym : (a b : ℕ) → opens b a ≡ opens a b
unfolding opens
opens_sym a b = ap (λ (t : Bool). pick t false (pick (branches b) true (branches a))) (eqb_sym b a) ∙ go (eqb a b) (branches a) (branches b)
  where
    go : (t i j : Bool) → pick t false (pick j true i) ≡ pick t false (pick i true j)
    go true i j = refl
    go false true true = refl
    go false true false = refl
    go false false true = refl
    go false false false = refl

module _ (n : ℕ) (W : Words) where
  pub swapped : (d a b : ℕ) → differing n W d b a ≡ map swap (differing n W d a b)
  unfolding differing
  swapped d a b =
      joined_ext (n ^ d) _ _ (λ c h. if_swap c (reads W (cell_of n d c) a) (reads W (cell_of n d c) b)) ∙ sym (joined_map swap (n ^ d) _)

  pub swapped_opened : (k a b : ℕ) → opened n W k b a ≡ opened n W k a b
  unfolding opened
  swapped_opened zero a b = refl
  swapped_opened (suc k) a b =
      ap₂ (λ (t : Bool) (s : ℕ). pick t (1 + s) 0) (opens_sym a b) (sum_to_ext_lem n _ _ (λ i h. swapped_opened k (part W a i) (part W b i)))
