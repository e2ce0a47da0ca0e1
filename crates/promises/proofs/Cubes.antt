-- The plain cube: call for call, every root answers lookup, expansion and edit as an array of 8^d numbers would, at every depth no less than its height.
use mathlib.Core.Path.{◌≡◌, refl, sym, ◌∙◌}
use mathlib.Core.List.{List}
use Prim.Native.Nat.{ℕ, ◌+◌, ◌/◌, ◌^◌, ◌≤◌}
use lib.ListN.{length}
use lib.Pow.{shr_lt}
use Rattle.basics.specs.Limits.{deepest, deepest_cube, cube_kids, largest_value}
use Rattle.nodes.specs.Values.{height_at}
use Rattle.tree.specs.Cells.{At}
use Rattle.arena.specs.Tables.{Tables, W, WellFormed}
use Rattle.calls.specs.Cells.{spot, Answers, Expands}
use Rattle.calls.proofs.Expanding.{look_at_lem, answers_as, expand_at}
use Rattle.edit.specs.Edit.{edit_no}
use Rattle.edit.specs.Promises.{then, gives}
use Rattle.edit.proofs.Edits.{accepted_past}
use Rattle.calls.specs.Does.{There}
use Rattle.promises.specs.Promises.{Cube, changed, scaled, Within, Stands, empty, solid, octants, edit, other, scale}
use Rattle.promises.proofs.Calls.{call_keeps}
use Rattle.promises.proofs.Spots.{changed_here, changed_elsewhere}
use Rattle.promises.proofs.Shows.{Shows, empty_shows, edit_shows, kept_shows, scale_shows, block_shown}
use Rattle.promises.proofs.Octants.{solid_shows, octants_show}

shows : {d : ℕ} {t : Tables} {a : ℕ} {F : Cube d} → Stands d t a F → Shows d t a F
shows (empty {d = d} {t = t} w) = empty_shows d w
shows (solid {d = d} {t = t} {a = a} w l f) = solid_shows d a w l f
shows (octants {d = d} {t = t} {a = a} l b F s) = octants_show d t a l b F (λ i h. shows (s i h))
shows (edit {d = d} {t = t} {a = a} {F = F} c v h ok s) = edit_shows d a F c v h ok (shows s)
shows (other {d = d} {t = t} {a = a} {F = F} c h k s) =
    let z = shows s in
    kept_shows d a F (call_keeps z.well a c h z.there k) z
shows (scale {d = d} {t = t} {a = a} {F = F} e i s) = scale_shows d a F e i (shows s)

-- ## At the depth of the cube

module _ {d : ℕ} {t : Tables} {a : ℕ} {F : Cube d} (s : Stands d t a F) where
  -- lookup answers every cell as the plain cube does
  pub plain_cube : d ≤ deepest → (c : At d) → Answers t a c (F c)
  plain_cube h c = let z = shows s in answers_as (look_at_lem z.well h a z.there c) (z.cells c)

  -- and expansion writes it
  pub plain_expansion : d ≤ deepest_cube → (l : List ℕ) → length l ≡ 8 ^ d → Expands d t a l F
  plain_expansion h l e =
      let z = shows s in
      let x = expand_at z.well h a z.there l e in
      record { accepted = x.accepted; size = x.size; cells = λ c. x.cells c ∙ z.cells c }

  -- it is one cube
  pub stands_one : {G : Cube d} → Stands d t a G → (c : At d) → F c ≡ G c
  stands_one r c = sym ((shows s).cells c) ∙ (shows r).cells c

  -- of a root that is there and no taller than the depth, in a well-formed arena
  pub stands_well : WellFormed cube_kids deepest t
  stands_well = (shows s).well

  pub stands_there : There t a
  stands_there = (shows s).there

  pub stands_low : height_at (W t) a ≤ d
  stands_low = (shows s).low

-- ## At every depth from the root's height to the deepest

module _ {d : ℕ} {t : Tables} {a : ℕ} {F : Cube d} (s : Stands d t a F) where
  -- lookup answers as the cube, scaled to the depth, does ..
  pub plain_cube_at : (e : ℕ) → height_at (W t) a ≤ e → e ≤ deepest → (c : At e) → Answers t a c (scaled e F c)
  plain_cube_at e i h c = plain_cube (scale e i s) h c

  -- .. expansion writes that cube ..
  pub plain_expansion_at : (e : ℕ) → height_at (W t) a ≤ e → e ≤ deepest_cube → (l : List ℕ) → length l ≡ 8 ^ e → Expands e t a l (scaled e F)
  plain_expansion_at e i h l q = plain_expansion (scale e i s) h l q

  -- .. and an accepted edit changes one cell of it.
  pub plain_edit_at : {e : ℕ} (c : At e) (v : ℕ) → v ≤ largest_value → edit_no t a e (spot c) v ≡ 0 → Stands e (then t a c v) (gives t a c v) (changed (scaled e F) c v)
  plain_edit_at {e} c v h ok = edit c v h ok (scale e (accepted_past t a e (spot c) v ok).1 s)

-- ## Cells and blocks

module _ {d : ℕ} (k : ℕ) (c : At (d + k)) (b : At d) (m : Within k c b) {t : Tables} {a : ℕ} where
  -- At a greater depth each cell of a block answers the block's number.
  pub plain_deeper_at : {F : Cube d} → Stands d t a F → d + k ≤ deepest → Answers t a c (F b)
  plain_deeper_at s h =
      let z = shows s in
      answers_as (look_at_lem z.well h a z.there c) (block_shown k c b m z.well z.there z.low ∙ z.cells b)

  -- A smaller depth, no less than the height, answers for a block the number that each of its cells has: all have the same.
  pub plain_blocks : {F : Cube (d + k)} → Stands (d + k) t a F → height_at (W t) a ≤ d → d ≤ deepest → Answers t a b (F c)
  plain_blocks s i h =
      let z = shows s in
      answers_as (look_at_lem z.well h a z.there b) (sym (block_shown k c b m z.well z.there i) ∙ z.cells c)

-- An edit at a smaller depth, no less than the height, fills the block and no other cell of the cube.
module _ {d : ℕ} (k : ℕ) {t : Tables} {a : ℕ} {F : Cube (d + k)} (s : Stands (d + k) t a F) (h : d + k ≤ deepest) (b : At d) (v : ℕ) (small : v ≤ largest_value)
    (ok : edit_no t a d (spot b) v ≡ 0) (c : At (d + k)) where
  pub edit_fills : Within k c b → Answers (then t a b v) (gives t a b v) c v
  edit_fills m = answers_as (plain_deeper_at k c b m (plain_edit_at s b v small ok) h) (changed_here (scaled d F) b v)

  pub edit_spares : ¬ (Within k c b) → Answers (then t a b v) (gives t a b v) c (F c)
  edit_spares n =
      let z = shows s in
      let i = (accepted_past t a d (spot b) v ok).1 in
      let o : At d = record {
        x = c.x / 2 ^ k;
        y = c.y / 2 ^ k;
        z = c.z / 2 ^ k;
        in_x = shr_lt d k c.in_x;
        in_y = shr_lt d k c.in_y;
        in_z = shr_lt d k c.in_z;
      } in
      answers_as (plain_deeper_at k c o (refl, refl, refl) (plain_edit_at s b v small ok) h)
      (changed_elsewhere (scaled d F) b v o n
      ∙ sym ((shows (scale d i s)).cells o)
      ∙ sym (block_shown k c o (refl, refl, refl) z.well z.there i)
      ∙ z.cells c)
