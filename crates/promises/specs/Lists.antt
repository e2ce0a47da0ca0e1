-- A list entered whole, call by call, as `Root::enter_all` of the Rust crate does of a list that makes no calls itself.
use Rattle.std.specs.Prelude.{List, [], ◌∷◌, ℕ, ◌≤◌, eqb}
use Rattle.basics.specs.Limits.{deepest, largest_value}
use Rattle.basics.specs.Pick.{pick}
use Rattle.paths.specs.declared.IVec3.{IVec3}
use Rattle.arena.specs.Tables.{Tables}
use Rattle.arena.specs.Calls.{Out, said, refused, release_of}
use Rattle.calls.specs.Cells.{spot}
use Rattle.readings.specs.Enter.{pause_of}
use Rattle.edit.specs.Edit.{edit_of}
use Rattle.promises.specs.Runs.{Change}

-- a position, inside the cube or not, and the value that is to be entered there
pub record Wanted : Type 0 where
  pub position : IVec3
  pub value : ℕ

-- values have 16 bits
abbrev pub Small : List Wanted → Type 0
Small [] = Unit {0}
Small (e ∷ es) = (e.value ≤ largest_value) × Small es

-- the edits that enter changes of a cube's cells
unfoldable pub wanted_of : {d : ℕ} → List (Change d) → List Wanted
wanted_of [] = []
wanted_of (e ∷ es) = record { position = spot e.cell; value = e.value } ∷ wanted_of es

-- from the passing root r on: it is released after the next is made. A refused edit releases it, and its number is the answer
unfoldable pub rest_of : ℕ → Tables → ℕ → List Wanted → Out
rest_of d t r [] = said 0 r t
rest_of d t r (e ∷ es) =
    let o = edit_of t r d e.position e.value in
    let on = rest_of d (release_of deepest o.after r).after o.id es in
    pick (eqb o.no 0) on (refused o.no (release_of deepest t r).after)

-- The whole list. The old root is not released; the first edit's answer is the first passing root. A list of nothing answers the old root with one new hold, as a pause does.
unfoldable pub list_of : ℕ → Tables → ℕ → List Wanted → Out
list_of d t root [] = pause_of t root
list_of d t root (e ∷ es) =
    let o = edit_of t root d e.position e.value in
    let on = rest_of d o.after o.id es in
    pick (eqb o.no 0) on (refused o.no t)
