-- What the private functions do, step by step. Nobody has to believe these: the laws carry them to Count.
use Rattle.std.specs.Prelude.{ℕ, ◌^◌, eqb, length}
use Rattle.basics.specs.Limits.{cube_kids}
use Rattle.basics.specs.Pick.{pick}
use Rattle.basics.specs.Sums.{sum_to}
use Rattle.nodes.specs.Words.{Words}
use Rattle.tree.specs.Anew.{part}
use Rattle.compare_pairs.specs.Differing.{differing}

-- how many cells of a and b differ, with k levels left
unfoldable pub count_in : ℕ → Words → ℕ → ℕ → ℕ → ℕ
count_in n W k a b = length (differing n W k a b)

-- the cells of a block with one value on each side, with k levels left
unfoldable pub block_count : ℕ → ℕ → ℕ → ℕ
block_count u v k = pick (eqb u v) 0 (cube_kids ^ k)

-- of the first c of eight cells with the values f i and g i, those that differ
unfoldable pub eight_to : (ℕ → ℕ) → (ℕ → ℕ) → ℕ → ℕ
eight_to f g c = sum_to c (λ i. block_count (f i) (g i) 0)

-- the first c places of an opened pair, with k levels below them
unfoldable pub places_count : Words → ℕ → ℕ → ℕ → ℕ → ℕ
places_count W k a b c = sum_to c (λ i. count_in cube_kids W k (part W a i) (part W b i))
