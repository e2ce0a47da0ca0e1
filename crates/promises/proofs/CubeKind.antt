-- The cells of a cube, its edit and its calls are what crate `lists` asks of a kind of cells.
use mathlib.Core.Path.{◌≡◌, refl, sym, ◌∙◌}
use mathlib.Core.List.{List}
use Prim.Native.Nat.{ℕ, ◌≤◌}
use native.Mathlib.Omega.{arith}
use Rattle.basics.specs.Limits.{deepest, cube_kids, kid_words, largest_value}
use Rattle.paths.specs.Paths.{whole}
use Rattle.tree.specs.Cells.{At, way}
use Rattle.tree.proofs.CellLaws.{cube_cell, cube_onto}
use Rattle.arena.specs.Tables.{Tables, WellFormed}
use Rattle.ledger.specs.Ledger.{on}
use Rattle.ledger.specs.Fates.{ended}
use Rattle.ledger.proofs.Effects.{accepted}
use Rattle.calls.specs.Cells.{spot}
use Rattle.calls.specs.Does.{Kept, There}
use Rattle.calls.proofs.Compose.{does_as}
use Rattle.lists.specs.Kinds.{Cells, Accepted, CellKind}
use Rattle.edit.specs.Edit.{edit_cell}
use Rattle.edit.specs.Promises.{Posed}
use Rattle.edit.proofs.Does.{cell_does}
use Rattle.edit.proofs.Edits.{cell_right, cell_number_lem, by_cell, edit_number}
use Rattle.readings.proofs.Theorems.{enter_kept}
use Rattle.promises.specs.Promises.{same_at, Step, call, entry, release, voxel}
use Rattle.promises.specs.Runs.{Enters, accepted as entered_by}
use Rattle.promises.proofs.Calls.{call_keeps}
use Rattle.promises.proofs.Spots.{same_one, same_no}

fit : cube_kids ≤ kid_words
fit = omega arith

-- ## Cells

cube_cells : (d : ℕ) → Cells cube_kids d {C = At d} way same_at
cube_cells d = record {
  cell = λ c. cube_cell d c.x c.y c.z;
  all = λ q k. let o = cube_onto k in (record { x = o.x; y = o.y; z = o.z; in_x = o.small_x; in_y = o.small_y; in_z = o.small_z }, o.path);
  one = same_one;
  two = same_no;
}

-- ## The edit

-- of a cell, whatever the number of children
pub cell_entered : {n tallest : ℕ} {t : Tables} {root d : ℕ} {cell : List ℕ} {v : ℕ} → Posed n tallest t root d cell → v ≤ largest_value → (edit_cell n t root d cell v).no ≡ 0
    → Accepted n tallest d t root cell v (edit_cell n t root d cell v).after (edit_cell n t root d cell v).id
cell_entered {n} {tallest} {t} {root} {d} {cell} {v} q high ok =
    let o = edit_cell n t root d cell v in
    record {
      times = ended t o.after;
      does = does_as n tallest q.words (λ y. on y o.id) (λ y. 0) (ended t o.after) (cell_does q high) (λ y. accepted o (on y o.id) ok) (λ y. refl) (λ s l. refl);
      edited = (cell_right q high (sym (cell_number_lem n t root d cell v) ∙ ok)).edited;
    }

edit_entered : {d : ℕ} {t : Tables} {a : ℕ} (c : At d) (v : ℕ) {u : Tables} {r : ℕ} → WellFormed cube_kids deepest t → Enters d t a c v u r → Accepted cube_kids deepest d t a (way c) v u r
unfolding whole
edit_entered {d} {t} {a = a} c v w (entered_by high ok) =
    by_cell t a d (spot c) v w (λ o. o.no ≡ 0 → Accepted cube_kids deepest d t a (way c) v o.after o.id) (λ k z e. absurd (z e)) (λ q. cell_entered q high)
    (edit_number t a d (spot c) v ∙ ok)

-- ## The steps beside it

step_keeps : {t u : Tables} {g k j : ℕ → ℕ} → WellFormed cube_kids deepest t → Step t u g k j → (a : ℕ) → There t a → There u a → Kept cube_kids deepest t u a
step_keeps w (call c h) a before after = call_keeps w a c h before after
step_keeps w (entry b e i l bytes) a before after = enter_kept w b e i l bytes a

edit_step : {d : ℕ} {t : Tables} {a : ℕ} (c : At d) (v : ℕ) {u : Tables} {r : ℕ} → Enters d t a c v u r → (g : ℕ → ℕ) × (k : ℕ → ℕ) × (j : ℕ → ℕ) × Step t u g k j
edit_step {d} {a = a} c v (entered_by high ok) = (_, _, _, call (voxel a d (spot c) v) high)

pub cube_kind : (d : ℕ) → CellKind cube_kids deepest d way same_at (Enters d) Step
cube_kind d = record {
  words = fit;
  some = omega arith;
  cells = cube_cells d;
  enters = λ c v. edit_entered c v;
  steps = step_keeps;
  edit = λ c v. edit_step c v;
  release = λ t b. (_, _, _, call (release b) tt);
}
