-- A run of calls: its root stands for the plain cube after its list.
use mathlib.Core.List.{List}
use Prim.Native.Nat.{ℕ}
use Rattle.arena.specs.Tables.{Tables}
use Rattle.tree.specs.Cells.{At}
use Rattle.calls.specs.Does.{There}
use Rattle.lists.specs.Changes as lists
use Rattle.lists.specs.Runs.{done, enter, besides}
use Rattle.promises.specs.Promises.{Step, call, entry, Cube, changed, Stands, edit, other}
use Rattle.promises.specs.Runs.{Change, entered, Enters, Run, accepted}
use Rattle.promises.proofs.Readings.{reading_others}

-- after a step, a root that is there stands for the cube that it stood for
step_stands : {d : ℕ} {t u : Tables} {g k j : ℕ → ℕ} {a : ℕ} {F : Cube d} → Step t u g k j → There u a → Stands d t a F → Stands d u a F
step_stands (call c h) there s = other c h there s
step_stands (entry b e i l bytes) there s = reading_others s b e i l bytes

-- after an accepted edit, its answer stands for the cube with the cell changed
edit_stands : {d : ℕ} {t : Tables} {a : ℕ} {F : Cube d} (c : At d) (v : ℕ) {u : Tables} {r : ℕ} → Stands d t a F → Enters d t a c v u r → Stands d u r (changed F c v)
edit_stands c v s (accepted high ok) = edit c v high ok s

-- The root stood for F: the run ends in a root that stands for F after the list.
pub run_stands : {d : ℕ} {t u : Tables} {a r : ℕ} {es : List (Change d)} {F : Cube d} → Stands d t a F → Run d t a es u r → Stands d u r (entered F es)
unfolding lists.entered
run_stands s done = s
run_stands s (enter e taken rest) = run_stands (edit_stands e.cell e.value s taken) rest
run_stands s (besides step there rest) = run_stands (step_stands step there s) rest
