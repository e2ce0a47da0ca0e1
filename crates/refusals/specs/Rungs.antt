-- The numbers of the paths, of reading, of the edit, of a reading in metres and of a comparison as ladders: each test with its number, in the order of the tests. (That they are the numbers
-- of the calls is proved: proofs/.)
use Rattle.std.specs.Prelude.{Bool, false, not, ◌||◌, List, [], ◌∷◌, ℕ, ◌^◌, leb, ltb, eqb, length}
use Rattle.basics.specs.Limits.{deepest, deepest_cube, cube_kids, last_packed, finest_edge}
use Rattle.basics.specs.Pick.{pick}
use Rattle.nodes.specs.Values.{height_at}
use Rattle.nodes.specs.Words.{slot}
use Rattle.paths.specs.declared.IVec3.{IVec3}
use Rattle.paths.specs.Paths.{inside}
use Rattle.tree.specs.Lacks.{Need, have, lack}
use Rattle.arena.specs.Tables.{Tables, cap, W}
use Rattle.arena.specs.Calls.{fits, live_or_empty, full_of, free_slots}
use Rattle.edit.specs.Edit.{result_of, cell_at}
use Rattle.metres.specs.Record.{kind_in, malformed, unending, outside}
use Rattle.readings.specs.Enter.{enter_of}
use Rattle.compare.specs.Compare.{cells_of}

-- all three coordinates are inside
unfoldable pub all_inside : ℕ → IVec3 → Bool
all_inside d p = pick (inside d p.x) (pick (inside d p.y) (inside d p.z) false) false

-- the depth is not above the deepest, and the level is below it
unfoldable pub leveled : ℕ → ℕ → Bool
leveled k d = pick (leb d deepest) (ltb k d) false

abbrev pub pack_rungs : ℕ → List (Bool × ℕ)
pack_rungs g = (not (leb g last_packed), 12) ∷ []

abbrev pub decode_rungs : ℕ → List (Bool × ℕ)
decode_rungs code = (not (ltb code (2 ^ 30)), 3) ∷ []

abbrev pub child_rungs : IVec3 → ℕ → ℕ → List (Bool × ℕ)
child_rungs p k d = (not (leveled k d), 2) ∷ (not (all_inside d p), 3) ∷ []

abbrev pub look_rungs : Tables → ℕ → ℕ → IVec3 → List (Bool × ℕ)
look_rungs t id d p = (not (fits t), 1) ∷ (not (leb d deepest), 2) ∷ (not (all_inside d p), 3) ∷ (not (live_or_empty (cap t) (W t) id), 4) ∷ []

abbrev pub expand_rungs : Tables → ℕ → ℕ → ℕ → List (Bool × ℕ)
expand_rungs t id d n =
    (not (fits t), 1) ∷ (not (leb d deepest_cube), 2) ∷ (not (live_or_empty (cap t) (W t) id), 4) ∷ (not (eqb n (8 ^ d)), 9) ∷ []

-- the result is there, isn't EMPTY, and already has 1,000,000 holds
unfoldable pub ten_of : Tables → Need → Bool
ten_of t (have r) = pick (eqb r 0) false (full_of (W t) (slot r))
ten_of t (lack k) = false

-- the result lacks more nodes than there are free slots
unfoldable pub eleven_of : Tables → Need → Bool
eleven_of t (have r) = false
eleven_of t (lack k) = not (leb k (free_slots t.arena))

abbrev pub edit_rungs : Tables → ℕ → ℕ → IVec3 → ℕ → List (Bool × ℕ)
edit_rungs t root d p v =
    (not (fits t), 1) ∷ (not (leb d deepest), 2) ∷ (not (all_inside d p), 3) ∷ (not (live_or_empty (cap t) (W t) root), 4)
    ∷ (not (leb (height_at (W t) root) d), 8) ∷ (ten_of t (result_of cube_kids t v (cell_at d p) root), 10) ∷ (eleven_of t (result_of cube_kids t v (cell_at d p) root), 11) ∷ []

-- a shot or a bar below a root that is taller than d
unfoldable pub eight_of : Tables → ℕ → ℕ → List ℕ → Bool
eight_of t root d l = pick (eqb (kind_in l) 0) false (not (leb (height_at (W t) root) d))

-- 10 and 11 by the number itself: it is that of the first edit that is refused
abbrev pub enter_rungs : Tables → ℕ → ℕ → ℕ → List ℕ → List (Bool × ℕ)
enter_rungs t root d k l =
    (not (fits t), 1) ∷ (ltb deepest d || ltb finest_edge k, 2) ∷ (malformed l, 13) ∷ (unending l, 14) ∷ (outside l k d, 3) ∷ (not (live_or_empty (cap t) (W t) root), 4)
    ∷ (eight_of t root d l, 8) ∷ (eqb (enter_of t root d k l).no 10, 10) ∷ (eqb (enter_of t root d k l).no 11, 11) ∷ []

-- the tables fit, and the parts of the list are equally long
unfoldable pub lent_well : Tables → ℕ → ℕ → ℕ → Bool
lent_well t c l r = pick (fits t) (pick (eqb l c) (eqb r c) false) false

-- each root is EMPTY or live; neither is taller than d
unfoldable pub both_there : Tables → ℕ → ℕ → Bool
both_there t a b = pick (live_or_empty (cap t) (W t) a) (live_or_empty (cap t) (W t) b) false

unfoldable pub both_low : Tables → ℕ → ℕ → ℕ → Bool
both_low t a b d = pick (leb (height_at (W t) a) d) (leb (height_at (W t) b) d) false

abbrev pub compare_rungs : Tables → ℕ → ℕ → ℕ → ℕ → ℕ → ℕ → List (Bool × ℕ)
compare_rungs t a b d c l r =
    (not (lent_well t c l r), 1) ∷ (not (leb d deepest), 2) ∷ (not (both_there t a b), 4) ∷ (not (both_low t a b d), 8) ∷ (not (leb (length (cells_of t a b d)) c), 15) ∷ []
