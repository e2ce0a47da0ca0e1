-- How many cells of a pair differ: no more than there are; none of equal ids; all or none of two ends.
use mathlib.Core.Path.{◌≡◌, ◌∙◌, refl, ap, ap₂}
use mathlib.Core.Bool.{Bool, true, false}
use Prim.Native.Nat.{ℕ, zero, suc, ◌*◌, ◌^◌, ◌≤◌}
use native.Mathlib.Nat.{pow-succ', pow-zero}
use native.Mathlib.Omega.{arith}
use lib.Dec.{eqb}
use lib.ListN.{length}
use Rattle.basics.specs.Pick.{pick}
use Rattle.nodes.specs.Words.{Words}
use Rattle.nodes.proofs.Sums.{sum_to_ext_lem, sum_to_const_lem}
use Rattle.tree.specs.Tree.{Flat}
use Rattle.tree.specs.Anew.{part}
use Rattle.tree.proofs.Making.{part_flat}
use Rattle.read_cell.specs.Models.{val}
use Rattle.compare_pairs.proofs.Pairs.{count_le, count_end, count_places, equal_list}
use Rattle.compare_count.specs.Models.{count_in}

module _ (n : ℕ) (W : Words) where
  pub count_few : (k a b : ℕ) → count_in n W k a b ≤ n ^ k
  unfolding count_in
  count_few k a b = count_le n W k a b

  pub count_same : (k a : ℕ) → count_in n W k a a ≡ 0
  unfolding count_in
  count_same k a = ap length (equal_list n W k a)

  pub count_ends : (k a b : ℕ) → Flat a → Flat b → count_in n W k a b ≡ pick (eqb (val W a) (val W b)) 0 (n ^ k)
  unfolding count_in
  count_ends zero a b f g = rw (pow-zero n) (count_end n W a b)
  count_ends (suc k) a b f g =
      count_places n W k a b
      ∙ sum_to_ext_lem n (λ i. count_in n W k (part W a i) (part W b i)) (λ i. pick (eqb (val W a) (val W b)) 0 (n ^ k))
      (λ i h. ap₂ (λ (x y : ℕ). count_in n W k x y) (part_flat W a i f) (part_flat W b i g) ∙ count_ends k a b f g)
      ∙ sum_to_const_lem n (pick (eqb (val W a) (val W b)) 0 (n ^ k)) ∙ rw (pow-succ' n k) (go (eqb (val W a) (val W b)))
    where
      go : (t : Bool) → n * pick t 0 (n ^ k) ≡ pick t 0 (n * n ^ k)
      go true = omega arith
      go false = refl
