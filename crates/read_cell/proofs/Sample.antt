-- The definitions compute: a leaf of value 1 in slot 1, and in slot 2 a branch that has it for its children 0 and 2.
use mathlib.Core.Path.{◌≡◌, refl}
use mathlib.Core.List.{List, [], ◌∷◌, ◌++◌}
use Prim.Native.Nat.{ℕ, suc}
use native.Mathlib.Decide.{dec_le}
use lib.ListN.{replicate}
use Rattle.basics.specs.Limits.{deepest}
use Rattle.ids.specs.Ids.{invalid, index_of}
use Rattle.nodes.specs.Words.{row_in, row_at, kid_of, fact_of, word_of, slot, floor}
use Rattle.nodes.specs.Tally.{tab_from}
use Rattle.paths.specs.Paths.{inside, whole, place}
use Rattle.tree.specs.Tree.{kind, look}
use Rattle.nodes.specs.Values.{value_at}
use Rattle.tree.specs.Cells.{path_by}
use Rattle.paths.specs.Paths.{octant}
use Rattle.arena.specs.Tables.{Tables, tables}
use Rattle.arena.specs.Calls.{fit_of, live_of, live_or_empty}
use Rattle.read_cell.specs.declared.Looked.{Looked}
use Rattle.read_cell.specs.Reading.{cube_of}
use Rattle.read_cell.specs.Calls.{look_no, look_of, expand_no, expanded, expand_of}

-- index 1, generation 0
abbrev one : ℕ
one = 0x8000000000000001

-- index 2, generation 0, types and mask 5
abbrev root : ℕ
root = 0x0282800000000002

abbrev kids : List ℕ
kids = replicate 16 0 ++ (one ∷ 0 ∷ one ∷ 0 ∷ 0 ∷ 0 ∷ 0 ∷ 0 ∷ [])

-- own in two halves, value, height, sum, spare, holds, places, mark and the stack's entry of the slots 0, 1 and 2, and the hashes of 2, 1 and 0
abbrev facts : List ℕ
facts =
    replicate 10 0 ++ (1 ∷ 0x80000000 ∷ 1 ∷ 0 ∷ 0 ∷ 0 ∷ 0 ∷ 2 ∷ 0 ∷ 0 ∷ []) ++ (2 ∷ 0x02828000 ∷ 0 ∷ 1 ∷ 2 ∷ 0 ∷ 1 ∷ 0 ∷ 0 ∷ 0 ∷ []) ++ (0x60EA27EE ∷ 0x9E3779B1 ∷ 0 ∷ [])

abbrev sample : Tables
sample = tables (record { capacity = 3; next = 3; freed = 0 }) kids facts (replicate 15 0)

-- lookup's number and value
abbrev Says : ℕ → ℕ → Looked → Type 0
Says k v r = (r.no ≡ k) × (r.value ≡ v)

-- at depth 0 the stored average decides, 2 / 8; at depth 1 the cube is plain
pub at_depth_0 : Says 0 0 (look_of sample root 0 (place 0 0 0))
unfolding look_of look_no fit_of inside whole live_or_empty live_of floor look kind dec_le value_at slot index_of word_of kid_of fact_of row_at row_in path_by octant
at_depth_0 = (refl, refl)

pub at_depth_1 : Says 0 1 (look_of sample root 1 (place 0 1 0))
unfolding look_of look_no fit_of inside whole live_or_empty live_of floor look kind dec_le value_at slot index_of word_of kid_of fact_of row_at row_in path_by octant
at_depth_1 = (refl, refl)

-- refusals
pub too_deep : Says 2 0 (look_of sample root (suc deepest) (place 0 0 0))
unfolding look_of look_no fit_of
too_deep = (refl, refl)

pub outside : Says 3 0 (look_of sample root 1 (place 0 2 0))
unfolding look_of look_no fit_of inside
outside = (refl, refl)

pub not_live : Says 4 0 (look_of sample invalid 1 (place 0 1 0))
unfolding look_of look_no fit_of inside live_or_empty live_of floor slot index_of word_of fact_of row_at row_in
not_live = (refl, refl)

-- cell (x, y, z) stands at y * 4^d + z * 2^d + x
pub expands : expand_of sample root 1 (replicate 8 9) ≡ expanded 0 (1 ∷ 0 ∷ 0 ∷ 0 ∷ 1 ∷ 0 ∷ 0 ∷ 0 ∷ [])
unfolding expand_of expand_no fit_of live_or_empty live_of floor cube_of tab_from look kind dec_le value_at slot index_of word_of kid_of fact_of row_at row_in path_by octant
expands = refl

pub too_short : expand_of sample root 1 (replicate 7 9) ≡ expanded 9 (replicate 7 9)
unfolding expand_of expand_no fit_of live_or_empty live_of floor slot index_of word_of fact_of row_at row_in
too_short = refl
