-- The list of a comparison as changes to be entered.
use Rattle.std.specs.Prelude.{◌≡◌, List, [], ◌∷◌, ℕ, suc, get_or}
use Rattle.paths.specs.Paths.{path_of}
use Rattle.calls.specs.Cells.{spot}
use Rattle.compare.specs.Compare.{Outcome}
use Rattle.promises.specs.Runs.{Change}

-- The changes enter the list of a comparison, one by one, from place i to the last: each is at the cell whose path code is listed, and has the value of the right side.
abbrev pub ListFrom : {d : ℕ} → Outcome → ℕ → List (Change d) → Type 0
ListFrom o i [] = i ≡ o.count
ListFrom o i (e ∷ es) = (path_of (spot e.cell) ≡ get_or o.codes i 0) × (e.value ≡ get_or o.rights i 0) × ListFrom o (suc i) es
