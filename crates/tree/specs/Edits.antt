-- What an edit does.
use Rattle.std.specs.Prelude.{◌≡◌, ◌≢◌, List, ℕ, ◌≤◌}
use Rattle.nodes.specs.Words.{Words}
use Rattle.tree.specs.Tree.{LiveOr0, WellMade, Tidy, Cell, look, Extends}
use Rattle.nodes.specs.Values.{height_at}

-- The edit of one cell of root at depth d to the value x: it took the tables from W to W' and answered r.
pub record Edited (n cap d : ℕ) (W : Words) (root : ℕ) (cell : List ℕ) (x : ℕ) (W' : Words) (r : ℕ) : Type 0 where
  -- nothing that was there moved, and the tables are well made again
  pub grows : Extends n cap W W'
  pub made : WellMade n cap W'
  -- the answer is EMPTY or live, no taller than d, and tidy if the old root was
  pub there : LiveOr0 cap W' r
  pub low : height_at W' r ≤ d
  pub tidy : Tidy n W root → Tidy n W' r
  -- it reads x at the cell, and at all other cells what the old root read
  pub changed : look W' cell r ≡ x
  pub others : (q : List ℕ) → Cell n d q → q ≢ cell → look W' q r ≡ look W q root
