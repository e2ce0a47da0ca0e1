-- The definitions compute. First nodes of two children: slot 1 the leaf of value 5, slot 2 the leaf of value 7, slot 3 the branch (5, EMPTY), slot 4 the branch
-- (branch 3, leaf 7).
use mathlib.Core.Path.{◌≡◌, refl}
use mathlib.Core.List.{List, [], ◌∷◌, ◌++◌}
use Prim.Native.Nat.{ℕ}
use native.Mathlib.Decide.{dec_le}
use lib.ListN.{get_or, replicate}
use Rattle.basics.specs.Puts.{puts_from}
use Rattle.basics.specs.Sums.{sum_to}
use Rattle.ids.specs.Ids.{index_of}
use Rattle.nodes.specs.Words.{Words, slot, floor, row_in, row_at, word_of, kid_of, fact_of}
use Rattle.nodes.specs.Values.{value_at, height_at}
use Rattle.tree.specs.Tree.{kind, look}
use Rattle.tree.specs.Anew.{part}
use Rattle.arena.specs.Tables.{Tables, tables}
use Rattle.arena.specs.Calls.{fit_of, live_of, live_or_empty}
use Rattle.compare_pairs.specs.Differing.{differs, cell_of, if_differs, joined, differing, branches, opens, opened}
use Rattle.compare.specs.Compare.{outcome, roots_no, compare_no, listed, compare_of}

abbrev five : ℕ
five = 0x8000000000000001

abbrev seven : ℕ
seven = 0x8000000000000002

abbrev low : ℕ
low = 3

abbrev high : ℕ
high = 4

-- children, then (at 8) the id and (at 9) the stored value
abbrev rows : List (List ℕ)
rows =
    replicate 10 0 ∷ (replicate 8 0 ++ (five ∷ 5 ∷ [])) ∷ (replicate 8 0 ++ (seven ∷ 7 ∷ []))
    ∷ (five ∷ 0 ∷ 0 ∷ 0 ∷ 0 ∷ 0 ∷ 0 ∷ 0 ∷ low ∷ 2 ∷ [])
    ∷ (low ∷ seven ∷ 0 ∷ 0 ∷ 0 ∷ 0 ∷ 0 ∷ 0 ∷ high ∷ 4 ∷ []) ∷ []

pub two_kids : Words
two_kids s f = get_or (get_or rows s []) f 0

-- cells 5 0 7 7 against 5 5 5 5: the pairs (4, leaf 5) and (3, leaf 5) are opened, a leaf against a branch; the leaves 7 and 5 are not, and are listed cell by cell
pub against_leaf : differing 2 two_kids 2 high five ≡ differs 1 0 5 ∷ differs 2 7 5 ∷ differs 3 7 5 ∷ []
unfolding differing joined if_differs cell_of look kind dec_le value_at slot index_of two_kids
against_leaf = refl

pub against_leaf_opened : opened 2 two_kids 2 high five ≡ 2
unfolding opened opens branches sum_to part kind dec_le slot index_of two_kids
against_leaf_opened = refl

-- against EMPTY two pairs are opened too
pub against_nothing : differing 2 two_kids 2 0 high ≡ differs 0 0 5 ∷ differs 2 0 7 ∷ differs 3 0 7 ∷ []
unfolding differing joined if_differs cell_of look kind dec_le value_at slot index_of two_kids
against_nothing = refl

pub against_nothing_opened : opened 2 two_kids 2 0 high ≡ 2
unfolding opened opens branches sum_to part kind dec_le slot index_of two_kids
against_nothing_opened = refl

-- two leaves: every cell differs, nothing is opened
pub leaves : differing 2 two_kids 2 five seven ≡ differs 0 5 7 ∷ differs 1 5 7 ∷ differs 2 5 7 ∷ differs 3 5 7 ∷ []
unfolding differing joined if_differs cell_of look kind dec_le value_at slot index_of two_kids
leaves = refl

pub leaves_unopened : opened 2 two_kids 2 five seven ≡ 0
unfolding opened opens branches sum_to part kind dec_le slot index_of two_kids
leaves_unopened = refl

-- equal ids are passed over
pub same_none : differing 2 two_kids 2 high high ≡ []
unfolding differing joined if_differs cell_of look kind dec_le value_at slot index_of two_kids
same_none = refl

pub same_unopened : opened 2 two_kids 2 high high ≡ 0
unfolding opened opens branches sum_to part kind dec_le slot index_of two_kids
same_unopened = refl

-- a branch under a branch: 4 against 3, whose cells are 5 5 0 0
pub below : differing 2 two_kids 2 high low ≡ differs 1 0 5 ∷ differs 2 7 0 ∷ differs 3 7 0 ∷ []
unfolding differing joined if_differs cell_of look kind dec_le value_at slot index_of two_kids
below = refl

pub below_opened : opened 2 two_kids 2 high low ≡ 2
unfolding opened opens branches sum_to part kind dec_le slot index_of two_kids
below_opened = refl

-- ---- the call, on cubes: a leaf of value 1 in slot 1, and in slot 2 a branch that has it for its children 0 and 2

abbrev one : ℕ
one = 0x8000000000000001

-- index 2, generation 0, types and mask 5
abbrev root : ℕ
root = 0x0282800000000002

abbrev kids : List ℕ
kids = replicate 16 0 ++ (one ∷ 0 ∷ one ∷ 0 ∷ 0 ∷ 0 ∷ 0 ∷ 0 ∷ [])

-- own in two halves, value, height, sum, spare, holds, places, mark and the stack's entry of the slots 0, 1 and 2, and the hashes of 2, 1 and 0
abbrev facts : List ℕ
facts =
    replicate 10 0 ++ (1 ∷ 0x80000000 ∷ 1 ∷ 0 ∷ 0 ∷ 0 ∷ 0 ∷ 2 ∷ 0 ∷ 0 ∷ []) ++ (2 ∷ 0x02828000 ∷ 0 ∷ 1 ∷ 2 ∷ 0 ∷ 1 ∷ 0 ∷ 0 ∷ 0 ∷ []) ++ (0x60EA27EE ∷ 0x9E3779B1 ∷ 0 ∷ [])

abbrev sample : Tables
sample = tables (record { capacity = 3; next = 3; freed = 0 }) kids facts (replicate 15 0)

-- the root against EMPTY at depth 1: the cells of codes 0 and 2, one pair opened; the third place stays as it was
pub root_against_nothing : compare_of sample root 0 1 (91 ∷ 92 ∷ 93 ∷ []) (81 ∷ 82 ∷ 83 ∷ []) (71 ∷ 72 ∷ 73 ∷ [])
    ≡ outcome 0 2 1 (0 ∷ 2 ∷ 93 ∷ []) (1 ∷ 1 ∷ 83 ∷ []) (0 ∷ 0 ∷ 73 ∷ [])
unfolding compare_of compare_no roots_no listed puts_from fit_of live_or_empty live_of floor height_at differing joined if_differs cell_of opened opens branches sum_to part look kind dec_le value_at slot index_of word_of kid_of fact_of row_at row_in
root_against_nothing = refl

-- the leaf against EMPTY: a block, listed cell by cell, and nothing opened
pub leaf_against_nothing : compare_of sample one 0 1 (replicate 8 9) (replicate 8 9) (replicate 8 9)
    ≡ outcome 0 8 0 (0 ∷ 1 ∷ 2 ∷ 3 ∷ 4 ∷ 5 ∷ 6 ∷ 7 ∷ []) (replicate 8 1) (replicate 8 0)
unfolding compare_of compare_no roots_no listed puts_from fit_of live_or_empty live_of floor height_at differing joined if_differs cell_of opened opens branches sum_to part look kind dec_le value_at slot index_of word_of kid_of fact_of row_at row_in
leaf_against_nothing = refl

-- no room for the second cell: nothing is counted, and nothing changes
pub no_room : compare_of sample root 0 1 (91 ∷ []) (81 ∷ []) (71 ∷ []) ≡ outcome 15 0 0 (91 ∷ []) (81 ∷ []) (71 ∷ [])
unfolding compare_of compare_no roots_no fit_of live_or_empty live_of floor height_at differing joined if_differs cell_of look kind dec_le value_at slot index_of word_of kid_of fact_of row_at row_in
no_room = refl

-- a root taller than the depth is refused before that, an id that is not live before that, and parts of different lengths before all
pub too_tall : compare_of sample root 0 0 [] [] [] ≡ outcome 8 0 0 [] [] []
unfolding compare_of compare_no roots_no fit_of live_or_empty live_of floor height_at slot index_of word_of kid_of fact_of row_at row_in
too_tall = refl

pub not_live : compare_of sample root 5 0 [] [] [] ≡ outcome 4 0 0 [] [] []
unfolding compare_of compare_no roots_no fit_of live_or_empty live_of floor slot index_of word_of kid_of fact_of row_at row_in
not_live = refl

pub parts_differ : compare_of sample root 5 7 (91 ∷ []) (81 ∷ []) [] ≡ outcome 1 0 0 (91 ∷ []) (81 ∷ []) []
unfolding compare_of compare_no fit_of
parts_differ = refl
