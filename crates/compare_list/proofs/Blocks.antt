-- Two ends make a block of cells, and so does a pair with no level left.
use mathlib.Core.Path.{◌≡◌, ◌∙◌, refl, sym, ap, ap₂}
use mathlib.Core.Bool.{Bool, true, false}
use mathlib.Core.List.{[], ◌∷◌}
use Prim.Native.Nat.{ℕ, zero, suc, ◌+◌, ◌*◌, ◌^◌}
use native.Mathlib.Nat.{pow-succ', pow-zero}
use native.Mathlib.Omega.{arith}
use lib.Dec.{eqb}
use lib.ListN.{length}
use Rattle.basics.specs.Pick.{pick}
use Rattle.nodes.specs.Words.{Words}
use Rattle.nodes.proofs.Sums.{sum_to_const_lem}
use Rattle.tree.specs.Tree.{Flat}
use Rattle.tree.proofs.Making.{part_flat}
use Rattle.read_cell.specs.Models.{val}
use Rattle.compare_pairs.specs.Differing.{differs, if_differs, joined}
use Rattle.compare_pairs.specs.Models.{cells_in}
use Rattle.compare_pairs.proofs.Joined.{joined_ext, joined_none, joined_mul, joined_length}
use Rattle.compare_list.specs.Models.{row, block}

-- ---- rows

pub row_length : (m base u v : ℕ) → length (row m base u v) ≡ m
unfolding row
row_length m base u v = joined_length m _ ∙ sum_to_const_lem m 1 ∙ omega arith

row_rows : (m w base u v : ℕ) → joined m (λ i. row w (base + i * w) u v) ≡ row (m * w) base u v
unfolding row
row_rows m w base u v =
    joined_ext m _ _ (λ i h. joined_ext w _ _ (λ j g. let e : base + i * w + j ≡ base + (i * w + j) = omega arith in ap (λ (c : ℕ). differs c u v ∷ []) e))
    ∙ sym (joined_mul m w (λ i. differs (base + i) u v ∷ []))

-- ---- blocks

block_blocks : (m w base u v : ℕ) → joined m (λ i. block w (base + i * w) u v) ≡ block (m * w) base u v
unfolding block
block_blocks m w base u v = go (eqb u v)
  where
    go : (t : Bool) → joined m (λ i. pick t [] (row w (base + i * w) u v)) ≡ pick t [] (row (m * w) base u v)
    go true = joined_none m _ (λ i h. refl)
    go false = row_rows m w base u v

block_one : (base u v : ℕ) → if_differs base u v ≡ block 1 base u v
unfolding if_differs block row joined
block_one base u v = let e : base ≡ base + 0 = omega arith in ap (λ (c : ℕ). pick (eqb u v) [] (differs c u v ∷ [])) e

module _ (n : ℕ) (W : Words) where
  -- two ends: one value on each side in every cell
  pub ends_block : (k base a b : ℕ) → Flat a → Flat b → cells_in n W k base a b ≡ block (n ^ k) base (val W a) (val W b)
  unfolding cells_in
  ends_block zero base a b f g = rw (pow-zero n) (block_one base (val W a) (val W b))
  ends_block (suc k) base a b f g =
      joined_ext n _ (λ i. block (n ^ k) (base + i * n ^ k) (val W a) (val W b))
      (λ i h. ap₂ (λ (x y : ℕ). cells_in n W k (base + i * n ^ k) x y) (part_flat W a i f) (part_flat W b i g) ∙ ends_block k (base + i * n ^ k) a b f g)
      ∙ block_blocks n (n ^ k) base (val W a) (val W b)
      ∙ ap (λ (m : ℕ). block m base (val W a) (val W b)) (sym (pow-succ' n k))

  -- with no level left a pair is a block of one cell
  pub last_block : (base a b : ℕ) → cells_in n W 0 base a b ≡ block 1 base (val W a) (val W b)
  unfolding cells_in
  last_block base a b = block_one base (val W a) (val W b)
