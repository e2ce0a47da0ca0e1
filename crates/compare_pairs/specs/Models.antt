-- The differing cells place by place, as the walks over two trees find them. Nobody has to believe these: the laws carry them to Differing.
use Rattle.std.specs.Prelude.{Bool, true, false, List, ℕ, zero, suc, ◌+◌, ◌*◌, ◌^◌, eqb}
use Rattle.basics.specs.Pick.{pick}
use Rattle.nodes.specs.Words.{Words}
use Rattle.tree.specs.Anew.{part}
use Rattle.read_cell.specs.Models.{val}
use Rattle.compare_pairs.specs.Differing.{Differs, if_differs, joined, branches}

-- The differing cells of a and b with k levels left: `base` is the code of the first cell below them, and the cells below place i are n^k in a row, after those of the places before it.
unfoldable pub cells_in : ℕ → Words → ℕ → ℕ → ℕ → ℕ → List Differs
cells_in n W zero base a b = if_differs base (val W a) (val W b)
cells_in n W (suc k) base a b = joined n (λ i. cells_in n W k (base + i * n ^ k) (part W a i) (part W b i))

-- of two different ids with k levels left: is there a level, and one of them a branch?
unfoldable pub goes_on : ℕ → ℕ → ℕ → Bool
goes_on k a b = pick (eqb k 0) false (pick (branches a) true (branches b))
