-- What counting answers.
use Rattle.std.specs.Prelude.{ℕ, leb, length}
use Rattle.basics.specs.Limits.{deepest, cube_kids}
use Rattle.basics.specs.Pick.{pick}
use Rattle.nodes.specs.Words.{Words}
use Rattle.compare_pairs.specs.Differing.{differing}

-- how many cells of a cube of depth d differ; of a depth above 6 none
unfoldable pub count_of : Words → ℕ → ℕ → ℕ → ℕ
count_of W a b d = pick (leb d deepest) (length (differing cube_kids W d a b)) 0
