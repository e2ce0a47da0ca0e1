-- What the program `months` prints of two files of edit records, the left one and the right one: the refused records of each, the cells in which they differ, and
-- the numbers at the end.
use Rattle.std.specs.Prelude.{List, [], ◌∷◌, ◌++◌, ℕ, zero, suc, ◌+◌, ◌/◌, min, eqb, length, get_or}
use Prim.Native.String.{String}
use Rattle.basics.specs.Codes.{codes}
use Rattle.basics.specs.Pick.{pick}
use Rattle.lines.specs.Lines.{decimal, space, newline}
use Rattle.ids.specs.Ids.{empty}
use Rattle.paths.specs.Paths.{decoded_of, to_cell}
use Rattle.arena.specs.Tables.{live_in}
use Rattle.listing.specs.Listing.{State, Records, state_at, lines_at, start_of}
use Rattle.edit_listing.specs.Listing.{record_width, record_depth, edit_in, edits, whole_in, cut_of}
use Rattle.compare.specs.Compare.{Outcome, compare_of}
use Rattle.month_listing.specs.declared.Side.{Side}
use Rattle.month_listing.specs.declared.Side.TheVariants.{Left, Right}

-- ## The lines of a side

-- the word before each of them
unfoldable pub side_word : Side → List ℕ
side_word (Left) = codes "left "
side_word (Right) = codes "right "

-- of a refused record its number and the refusal; an accepted one has no line
unfoldable pub refused_line : Side → ℕ → ℕ → List ℕ
refused_line side number refusal =
    pick (eqb refusal 0) [] (side_word side ++ ((decimal number ++ (space ∷ [])) ++ (decimal refusal ++ (newline ∷ []))))

-- edit records, of which the refused ones have a line
abbrev pub sided : Side → Records
sided side = record { width = record_width; enter = edit_in; line = λ number refusal root. refused_line side number refusal }

-- a cut last record of k bytes
unfoldable pub short_line : Side → ℕ → List ℕ
short_line side k = pick (eqb k 0) [] (side_word side ++ (codes "short " ++ (decimal k ++ (newline ∷ []))))

-- all lines of a file of the bytes b
unfoldable pub side_lines : Side → State → List ℕ → List ℕ
side_lines side s b = lines_at (sided side) s b (whole_in (length b)) ++ short_line side (cut_of (length b))

-- where they lead: to the same state as those of `edits`
abbrev pub side_end : State → List ℕ → State
side_end s b = state_at edits s b (whole_in (length b))

-- the second side begins with EMPTY and counts its records from 1, over the tables that the first one left
unfoldable pub second_side : State → State
second_side s = record { tables = s.tables; root = empty; count = 0 }

-- ## The lines of the comparison

-- a differing cell: its path code, x, y and z, and what it holds on the left and on the right
unfoldable pub cell_line : ℕ → ℕ → ℕ → List ℕ
cell_line code left right =
    let cell = to_cell (decoded_of code).position record_depth in
    (decimal code ++ (space ∷ []))
    ++ ((decimal cell.x ++ (space ∷ []))
    ++ ((decimal cell.y ++ (space ∷ []))
    ++ ((decimal cell.z ++ (space ∷ [])) ++ ((decimal left ++ (space ∷ [])) ++ (decimal right ++ (newline ∷ []))))))

-- it has at most so many bytes: six times 20 digits and a byte
abbrev pub widest_cell : ℕ
widest_cell = 126

-- n cells of a list with the parts c, l and r, from place `from` on
unfoldable pub cell_lines : List ℕ → List ℕ → List ℕ → ℕ → ℕ → List ℕ
cell_lines c l r from zero = []
cell_lines c l r from (suc n) = cell_lines c l r from n ++ cell_line (get_or c (from + n) 0) (get_or l (from + n) 0) (get_or r (from + n) 0)

-- how many of n cells a call takes: all, as far as there is room for their lines
unfoldable pub cells_taken : ℕ → ℕ → ℕ
cells_taken n room = min n (room / widest_cell)

-- a word and a number
abbrev pub numbered : String → ℕ → List ℕ
numbered word n = codes word ++ (decimal n ++ (newline ∷ []))

-- the comparison's refusal, if there is one
unfoldable pub refusal_line : ℕ → List ℕ
refusal_line refusal = pick (eqb refusal 0) [] (numbered "refused " refusal)

-- the last lines: the refusal, how many cells differ, how many pairs were opened, how many nodes live
unfoldable pub closing_of : ℕ → ℕ → ℕ → ℕ → List ℕ
closing_of refusal count opened live = refusal_line refusal ++ (numbered "cells " count ++ (numbered "opened " opened ++ numbered "live " live))

-- ## All of it

-- what is printed of a comparison's outcome, where so many nodes live. (Of a refusal no cell is listed: its count is 0)
unfoldable pub outcome_lines : Outcome → ℕ → List ℕ
outcome_lines o live = cell_lines o.codes o.lefts o.rights 0 o.count ++ closing_of o.no o.count o.opened live

-- the bytes a of the left file are entered from s, then those of the right file, b; then the two last roots are compared, with the list of the parts c, l and r
unfoldable pub comparison_of : State → List ℕ → List ℕ → List ℕ → List ℕ → List ℕ → Outcome
comparison_of s a b c l r =
    let t = side_end s a in
    let u = side_end (second_side t) b in
    compare_of u.tables t.root u.root record_depth c l r

-- everything printed of the two files, from a fresh arena of a capacity over the tables k, f and e
unfoldable pub months_of : ℕ → List ℕ → List ℕ → List ℕ → List ℕ → List ℕ → List ℕ → List ℕ → List ℕ → List ℕ
months_of capacity k f e a b c l r =
    let s = (start_of capacity k f e).state in
    let t = second_side (side_end s a) in
    (side_lines Left s a ++ side_lines Right t b) ++ outcome_lines (comparison_of s a b c l r) (live_in (side_end t b).tables.arena)

-- The cells of a list with the parts c, l and r, printed block after block: how many so far, and their lines.
pub data Printed (c l r : List ℕ) : ℕ → List ℕ → Type 0 where
  begun : Printed c l r 0 []
  block : {m : ℕ} {lines : List ℕ} → Printed c l r m lines → (n : ℕ) → Printed c l r (m + n) (lines ++ cell_lines c l r m n)
