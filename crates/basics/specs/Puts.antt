-- A list written over.
use Rattle.std.specs.Prelude.{List, [], ◌∷◌, ℕ, suc, set}

-- the numbers vs written from `at` on; what would stand past the end is not written
unfoldable pub puts_from : List ℕ → ℕ → List ℕ → List ℕ
puts_from l at [] = l
puts_from l at (v ∷ vs) = puts_from (set l at v) (suc at) vs
