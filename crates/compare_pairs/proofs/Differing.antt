-- The differing cells place by place are the definition's, which goes over all path codes.
use mathlib.Core.Path.{◌≡◌, ◌∙◌, refl, sym, ap, ap₂}
use mathlib.Core.List.{List, [], ◌∷◌}
use Prim.Native.Nat.{ℕ, zero, suc, ◌+◌, ◌*◌, ◌%◌, ◌^◌, ◌<◌}
use native.Mathlib.Nat.{pow-succ', pow-zero}
use native.Mathlib.Omega.{arith}
use lib.Arith.{digits_div, digits_mod}
use Rattle.nodes.specs.Words.{Words}
use Rattle.tree.specs.Anew.{part}
use Rattle.tree.proofs.Canon.{look_end}
use Rattle.tree.proofs.Making.{look_part}
use Rattle.read_cell.specs.Models.{val}
use Rattle.compare_pairs.specs.Differing.{Differs, cell_of, reads, if_differs, joined, differing}
use Rattle.compare_pairs.specs.Models.{cells_in}
use Rattle.compare_pairs.proofs.Joined.{joined_ext, joined_mul}

-- ---- what is read at the end of a path, and one level down

pub reads_end : (W : Words) (a : ℕ) → reads W [] a ≡ val W a
unfolding val
reads_end W a = ap (λ (i : ℕ). i % 2 ^ 16) (look_end W a)

pub reads_part : (W : Words) (c : ℕ) (p : List ℕ) (a : ℕ) → reads W (c ∷ p) a ≡ reads W p (part W a c)
reads_part W c p a = ap (λ (i : ℕ). i % 2 ^ 16) (look_part W c p a)

-- ---- the digits of a path code

pub cell_end : (n c : ℕ) → cell_of n 0 c ≡ []
unfolding cell_of
cell_end n c = refl

-- the cells below place i are those of the n^k codes from i * n^k on
pub cell_down : (n k i j : ℕ) → j < n ^ k → cell_of n (suc k) (i * n ^ k + j) ≡ i ∷ cell_of n k j
unfolding cell_of
cell_down n k i j h = ap₂ (λ (c r : ℕ). c ∷ cell_of n k r) (digits_div i h) (digits_mod i h)

-- ---- place by place

module _ (n : ℕ) (W : Words) where
  -- the cell of the code c below a and b, whose first cell has the code base
  abbrev cell_at : ℕ → ℕ → ℕ → ℕ → ℕ → List Differs
  cell_at k base a b c = if_differs (base + c) (reads W (cell_of n k c) a) (reads W (cell_of n k c) b)

  cell_part : (k base a b i j : ℕ) → j < n ^ k → cell_at k (base + i * n ^ k) (part W a i) (part W b i) j ≡ cell_at (suc k) base a b (i * n ^ k + j)
  cell_part k base a b i j h =
      let e : base + i * n ^ k + j ≡ base + (i * n ^ k + j) = omega arith in
      rw (cell_down n k i j h, reads_part W i (cell_of n k j) a, reads_part W i (cell_of n k j) b, e) refl

  cells_end : (base a b : ℕ) → if_differs base (val W a) (val W b) ≡ joined (n ^ 0) (cell_at 0 base a b)
  unfolding joined
  cells_end base a b =
      let e : base + 0 ≡ base = omega arith in
      rw (pow-zero n) (rw (cell_end n 0, reads_end W a, reads_end W b, e) refl)

  cells_up : (k base a b : ℕ) → ((x i j : ℕ) → cells_in n W k x i j ≡ joined (n ^ k) (cell_at k x i j))
      → joined n (λ i. cells_in n W k (base + i * n ^ k) (part W a i) (part W b i)) ≡ joined (n ^ suc k) (cell_at (suc k) base a b)
  cells_up k base a b ih =
      joined_ext n _ _
      (λ i h. ih (base + i * n ^ k) (part W a i) (part W b i) ∙ joined_ext (n ^ k) _ _ (λ j l. cell_part k base a b i j l))
      ∙ sym (joined_mul n (n ^ k) (cell_at (suc k) base a b))
      ∙ ap (λ (m : ℕ). joined m (cell_at (suc k) base a b)) (sym (pow-succ' n k))

  -- with k levels left, from the code base on
  pub cells_from : (k base a b : ℕ)
      → cells_in n W k base a b ≡ joined (n ^ k) (λ c. if_differs (base + c) (reads W (cell_of n k c) a) (reads W (cell_of n k c) b))
  unfolding cells_in
  cells_from zero base a b = cells_end base a b
  cells_from (suc k) base a b = cells_up k base a b (cells_from k)

  pub cells_are : (d a b : ℕ) → cells_in n W d 0 a b ≡ differing n W d a b
  unfolding differing
  cells_are d a b =
      cells_from d 0 a b
      ∙ joined_ext (n ^ d) _ _ (λ c h. let e : 0 + c ≡ c = omega arith in ap (λ (i : ℕ). if_differs i (reads W (cell_of n d c) a) (reads W (cell_of n d c) b)) e)
