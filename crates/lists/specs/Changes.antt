-- Lists of changes of single cells, and what they do to plain numbers. C is a kind of cell, those of a cube or of a sheet, and `same` tells whether two are one.
use Rattle.std.specs.Prelude.{◌≢◌, Bool, true, false, List, [], ◌∷◌, ℕ}
use Rattle.basics.specs.Pick.{pick}

-- a cell, and the value that is entered for it
pub record Change (C : Type 0) : Type 0 where
  pub cell : C
  pub value : ℕ

-- ## What they do to plain numbers, one for each cell

-- the numbers F with one cell changed
unfoldable pub changed : {C : Type 0} → (C → C → Bool) → (C → ℕ) → C → ℕ → C → ℕ
changed same F c v s = pick (same s c) v (F s)

-- the numbers F after a list of changes, entered from the left
unfoldable pub entered : {C : Type 0} → (C → C → Bool) → (C → ℕ) → List (Change C) → C → ℕ
entered same F [] = F
entered same F (e ∷ es) = entered same (changed same F e.cell e.value) es

-- ## Cells of a list

-- no change of the list is at the cell s
abbrev pub Not-at : {C : Type 0} → C → List (Change C) → Type 0
Not-at s [] = Unit {0}
Not-at s (e ∷ es) = (s ≢ e.cell) × Not-at s es

-- all cells of the list are distinct
abbrev pub Distinct : {C : Type 0} → List (Change C) → Type 0
Distinct [] = Unit {0}
Distinct (e ∷ es) = Not-at e.cell es × Distinct es

-- no cell is in both lists
abbrev pub Disjoint : {C : Type 0} → List (Change C) → List (Change C) → Type 0
Disjoint [] fs = Unit {0}
Disjoint (e ∷ es) fs = Not-at e.cell fs × Disjoint es fs

-- ## Only the last values

-- some change of the list is at the cell s
unfoldable pub names : {C : Type 0} → (C → C → Bool) → List (Change C) → C → Bool
names same [] s = false
names same (e ∷ es) s = pick (same s e.cell) true (names same es s)

-- the list without the changes that a later one at the same cell overrules
unfoldable pub last_only : {C : Type 0} → (C → C → Bool) → List (Change C) → List (Change C)
last_only same [] = []
last_only same (e ∷ es) = pick (names same es e.cell) (last_only same es) (e ∷ last_only same es)

-- ## Two lists as they come

-- The third list has the changes of the first and of the second, each list's in its own order, one here and one there.
pub data Interleaved {C : Type 0} : List (Change C) → List (Change C) → List (Change C) → Type 0 where
  none : Interleaved [] [] []
  first : {es fs gs : List (Change C)} (e : Change C) → Interleaved es fs gs → Interleaved (e ∷ es) fs (e ∷ gs)
  second : {es fs gs : List (Change C)} (e : Change C) → Interleaved es fs gs → Interleaved es (e ∷ fs) (e ∷ gs)
