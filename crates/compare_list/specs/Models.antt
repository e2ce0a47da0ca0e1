-- What the private functions do, step by step. Nobody has to believe these: the laws carry them to List.
use Rattle.std.specs.Prelude.{◌≡◌, List, [], ◌∷◌, map, ℕ, ◌+◌, ◌*◌, ◌^◌, eqb, length}
use Rattle.basics.specs.Limits.{deepest, cube_kids}
use Rattle.basics.specs.Pick.{pick}
use Rattle.basics.specs.Puts.{puts_from}
use Rattle.basics.specs.Sums.{sum_to}
use Rattle.nodes.specs.Words.{Words}
use Rattle.tree.specs.Anew.{part}
use Rattle.compare_pairs.specs.Differing.{Differs, differs, if_differs, joined, opened}
use Rattle.compare_pairs.specs.Models.{cells_in}

-- no cube has more cells
abbrev pub most_cells : ℕ
most_cells = cube_kids ^ deepest

-- A walk from place `at` of the list found the cells ds and opened o pairs: it came to the place x with y pairs opened, and took c, l and r to c', l' and r'.
pub record Laid (at : ℕ) (ds : List Differs) (o x y : ℕ) (c l r c' l' r' : List ℕ) : Type 0 where
  pub to : x ≡ at + length ds
  pub opened : y ≡ o
  pub codes : c' ≡ puts_from c at (map (λ e. e.code) ds)
  pub lefts : l' ≡ puts_from l at (map (λ e. e.left) ds)
  pub rights : r' ≡ puts_from r at (map (λ e. e.right) ds)

-- m cells in a row with the values u and v
unfoldable pub row : ℕ → ℕ → ℕ → ℕ → List Differs
row m base u v = joined m (λ i. differs (base + i) u v ∷ [])

-- a block of m cells with one value on each side
unfoldable pub block : ℕ → ℕ → ℕ → ℕ → List Differs
block m base u v = pick (eqb u v) [] (row m base u v)

-- of the first c of eight cells in a row with the values f i and g i, those that differ
unfoldable pub eight_to : ℕ → (ℕ → ℕ) → (ℕ → ℕ) → ℕ → List Differs
eight_to base f g c = joined c (λ i. if_differs (base + i) (f i) (g i))

-- the first c places of an opened pair, with k levels below them: their cells, and the pairs opened, itself among them
unfoldable pub places_to : Words → ℕ → ℕ → ℕ → ℕ → ℕ → List Differs
places_to W k base a b c = joined c (λ i. cells_in cube_kids W k (base + i * cube_kids ^ k) (part W a i) (part W b i))

unfoldable pub opened_to : Words → ℕ → ℕ → ℕ → ℕ → ℕ
opened_to W k a b c = 1 + sum_to c (λ i. opened cube_kids W k (part W a i) (part W b i))
