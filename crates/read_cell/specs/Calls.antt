-- What lookup and expansion answer.
use Rattle.std.specs.Prelude.{ℕ, ◌^◌, List, Result, leb, eqb, length}
use Rattle.std.specs.declared.result.Result.TheVariants.{Ok, Err}
use Rattle.basics.specs.Limits.{deepest, deepest_cube}
use Rattle.basics.specs.Pick.{pick}
use Rattle.basics.specs.Refusals.{number}
use Rattle.basics.specs.declared.Refusal.{Refusal}
use Rattle.paths.specs.declared.IVec3.{IVec3}
use Rattle.paths.specs.Paths.{inside, whole}
use Rattle.arena.specs.Tables.{Tables, cap, W}
use Rattle.arena.specs.Calls.{fits, live_or_empty}
use Rattle.read_cell.specs.declared.Looked.{Looked}
use Rattle.read_cell.specs.Reading.{read_at, cube_of}

-- ## Lookup

-- refusals 1, 2, 3 and 4, the lowest that applies
unfoldable pub look_no : Tables → ℕ → ℕ → IVec3 → ℕ
look_no t id d p =
    pick (fits t)
    (pick (leb d deepest) (pick (inside d p.x) (pick (inside d p.y) (pick (inside d p.z) (pick (live_or_empty (cap t) (W t) id) 0 4) 3) 3) 3) 2)
    1

abbrev pub looked : ℕ → ℕ → Looked
looked k u = record { no = k; value = u }

-- what the code answers, so written
abbrev pub looked_as : Result ℕ Refusal → Looked
looked_as (Ok u) = looked 0 u
looked_as (Err refusal) = looked (number refusal) 0

-- the value at the cell p of depth d, or the refusal with value 0
unfoldable pub look_of : Tables → ℕ → ℕ → IVec3 → Looked
look_of t id d p =
    pick (eqb (look_no t id d p) 0) (looked 0 (read_at (W t) d id (whole p.x) (whole p.y) (whole p.z)))
    (looked (look_no t id d p) 0)

-- ## Expansion

-- refusals 1, 2, 4 and 9, the lowest that applies; n is the length of the lent cube
unfoldable pub expand_no : Tables → ℕ → ℕ → ℕ → ℕ
expand_no t id d n = pick (fits t) (pick (leb d deepest_cube) (pick (live_or_empty (cap t) (W t) id) (pick (eqb n (8 ^ d)) 0 9) 4) 2) 1

-- the number, and the lent cube afterwards
pub record Expanded : Type 0 where
  pub no : ℕ
  pub cube : List ℕ

abbrev pub expanded : ℕ → List ℕ → Expanded
expanded k l = record { no = k; cube = l }

-- all cells written, or the refusal and the cube l as it was lent
unfoldable pub expand_of : Tables → ℕ → ℕ → List ℕ → Expanded
expand_of t id d l =
    pick (eqb (expand_no t id d (length l)) 0) (expanded 0 (cube_of (W t) d id)) (expanded (expand_no t id d (length l)) l)
