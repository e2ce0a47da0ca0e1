-- Reading: the end that a path leads to, and the cells of a cube.
use Rattle.std.specs.Prelude.{ℕ, ◌+◌, ◌/◌, ◌%◌, ◌^◌, List, [], ◌∷◌, leb}
use Rattle.basics.specs.Limits.{deepest}
use Rattle.basics.specs.Pick.{pick}
use Rattle.ids.specs.Ids.{invalid}
use Rattle.nodes.specs.Words.{Words}
use Rattle.nodes.specs.Tally.{tab_from}
use Rattle.paths.specs.declared.Cell.{Cell}
use Rattle.tree.specs.Tree.{kind, empty, leaf, branch, child_of, look}
use Rattle.tree.specs.Cells.{cube_path, path_to}
use Rattle.read_cell.specs.declared.End.{End}

-- ## The end of a path

abbrev pub end_at : ℕ → ℕ → End
end_at a k = record { id = record { 0 = a }; level = k }

-- From the id a at level k down the path until EMPTY, a leaf, or the end of the path: the id reached, and its level.
unfoldable pub descent : Words → ℕ → List ℕ → ℕ → End
descent W k [] a = end_at a k
descent W k (c ∷ p) a = elim (kind a) [ empty _ ↦ end_at a k | leaf _ ↦ end_at a k | branch _ ↦ descent W (k + 1) p (child_of W a c) ]

-- The end at the cell, from id as level 0; INVALID of a depth above 6.
unfoldable pub end_of : Words → ℕ → Cell → End
end_of W id c = pick (leb c.depth deepest) (descent W 0 (path_to c) id) (end_at invalid 0)

-- ## The cells of a cube

-- what lookup reads at the cell, in 16 bits. (Of well-formed tables a stored value has no more)
abbrev pub read_at : Words → ℕ → ℕ → ℕ → ℕ → ℕ → ℕ
read_at W d id x y z = look W (cube_path d x y z) id % 2 ^ 16

-- the cube of depth d: 8^d values; cell (x, y, z) stands at y * 4^d + z * 2^d + x
unfoldable pub cube_of : Words → ℕ → ℕ → List ℕ
cube_of W d id = tab_from (8 ^ d) 0 (λ i. read_at W d id (i % 2 ^ d) (i / 4 ^ d) (i / 2 ^ d % 2 ^ d))
