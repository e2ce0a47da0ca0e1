-- Lists of changes of a cube's cells, and the runs of calls that enter them. Crate `lists` has them for any kind of cells; these are the cube's.
use Rattle.std.specs.Prelude.{◌≡◌, List, [], ◌∷◌, ℕ, ◌^◌, ◌≤◌, length, set}
use Rattle.basics.specs.Limits.{deepest, deepest_cube, cube_kids, largest_value}
use Rattle.tree.specs.Cells.{At}
use Rattle.tree.specs.Tree.{Root}
use Rattle.arena.specs.Tables.{Tables, cap, W, WellFormed}
use Rattle.calls.specs.Cells.{spot, stands_at, Answers}
use Rattle.read_cell.specs.Calls.{expand_of}
use Rattle.lists.specs.Changes as lists
use Rattle.lists.specs.Runs as runs
use Rattle.edit.specs.Edit.{edit_no}
use Rattle.edit.specs.Promises.{then, gives}
use Rattle.compare.specs.Promises.{shows}
use Rattle.promises.specs.Promises.{Step, Cube, same_at}

-- ## Lists of changes

-- a cell of a cube of depth d, and the value that is entered for it
abbrev pub Change : ℕ → Type 0
Change d = lists.Change (At d)

-- the plain cube F after a list of changes, entered from the left
abbrev pub entered : {d : ℕ} → Cube d → List (Change d) → Cube d
entered F es = lists.entered same_at F es

-- the list without the changes that a later one at the same cell overrules
abbrev pub last_only : {d : ℕ} → List (Change d) → List (Change d)
last_only es = lists.last_only same_at es

-- a list as expansion writes it, after a list of changes
unfoldable pub set_all : {d : ℕ} → List ℕ → List (Change d) → List ℕ
set_all l [] = l
set_all l (e ∷ es) = set_all (set l (stands_at e.cell) e.value) es

-- ## Runs of calls

-- an accepted edit at depth d: what it leaves and answers
pub data Enters (d : ℕ) : Tables → ℕ → At d → ℕ → Tables → ℕ → Type 0 where
  accepted : {t : Tables} {a : ℕ} {c : At d} {v : ℕ} → v ≤ largest_value → edit_no t a d (spot c) v ≡ 0 → Enters d t a c v (then t a c v) (gives t a c v)

-- The changes are entered from the root a in the tables t, from the left, each by an accepted edit at depth d of the root that the run stands at; its answer is the
-- root that the run then stands at. It ends with the root r in the tables u.
-- Before, between and after these edits come any other calls and readings, accepted or refused: interns, holds, releases (of passing roots too), edits of any root at
-- any depth, bars. A fresh arena is none of them. After each of them the root that the run stands at is EMPTY or live, as a held root is.
abbrev pub Run : (d : ℕ) → Tables → ℕ → List (Change d) → Tables → ℕ → Type 0
Run d = runs.Run (Enters d) Step

-- over the calls and readings from t to u the root a is kept: it is EMPTY or live after each of them
abbrev pub Stays : (d : ℕ) → Tables → Tables → ℕ → Type 0
Stays d = runs.Stays (Enters d) Step

-- The terms. In well-formed tables t take EMPTY or one live root, tidy and no taller than d. From it the list es is entered and the list fs, in one stretch of calls and readings from
-- t to u: one after the other, or by turns. What one run does are calls beside the other: so the starting root is kept until the later run has left it, and the end of the earlier one
-- until the other ends.
abbrev pub Runs : (d : ℕ) → Tables → ℕ → List (Change d) → ℕ → List (Change d) → ℕ → Tables → Type 0
Runs d = runs.Runs cube_kids deepest d (Enters d) Step

-- A run with no calls but its own: accepted edits, and releases that give back the holds on its own passing roots after the next is made, each once, at once or later.
abbrev pub Crew : (d : ℕ) → Tables → ℕ → List (Change d) → Tables → ℕ → Type 0
Crew d = runs.Crew deepest (Enters d)

-- ## What is promised

-- Both runs end in the same id, EMPTY or a live root, tidy and no taller than d, in well-formed tables. Its cube is that of the starting root after the changes es: as lookup
-- answers it, and as expansion writes it (into lent lists l and m).
pub record OneEnd (d : ℕ) (t : Tables) (root : ℕ) (es : List (Change d)) (r₁ r₂ : ℕ) (u : Tables) : Type 0 where
  pub one : r₁ ≡ r₂
  pub well : WellFormed cube_kids deepest u
  pub tidy : Root cube_kids (cap u) d (W u) r₁
  pub reads : (s : At d) → Answers u r₁ s (entered (shows t root) es s)
  pub expands : d ≤ deepest_cube → (l m : List ℕ) → length l ≡ 8 ^ d → length m ≡ 8 ^ d
      → ((expand_of u r₁ d l).no ≡ 0) × ((expand_of u r₁ d l).cube ≡ set_all (expand_of t root d m).cube es)
