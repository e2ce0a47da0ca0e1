-- The records of edits: what one comes to, and that each grants its answer and nothing else.
use mathlib.Core.Path.{◌≡◌, ap, ap₂, ◌∙◌}
use mathlib.Core.List.{List}
use Prim.Native.Nat.{ℕ, ◌≤◌, ◌<◌}
use native.Mathlib.Omega.{arith}
use lib.IntN.{ℤ, pos}
use mir.Syntax.{w32}
use mir.Val.{to_z, of_z}
use mir.ValLaws.{to_z-of_z}
use Rattle.basics.specs.Limits.{largest_value}
use Rattle.paths.specs.declared.IVec3.{IVec3}
use Rattle.arena.specs.Tables.{Tables}
use Rattle.arena.specs.Calls.{Out}
use Rattle.edit.specs.Edit.{edit_of}
use Rattle.edit.proofs.Edits.{edit_unfit}
use Rattle.edit.proofs.Does.{edit_does}
use Rattle.basics.specs.Bytes.{Bytes, word16}
use Rattle.calls.proofs.Follows.{spared_kept}
use Rattle.listing.specs.Holding.{Enters}
use Rattle.listing.proofs.Puts.{line_short}
use Rattle.edit_listing.specs.Listing.{cell_in, value_in, record_depth, edit_in, edits}

-- ---- a record's numbers

-- a coordinate of 16 bits is read back as it is
coord_is : (z : ℤ) (x v : ℕ) → z ≡ pos x → x ≡ v → x < 65536 → to_z w32 (of_z w32 z) ≡ pos v
coord_is z x v ez ex h = to_z-of_z w32 z (rw ez (record { sfits = omega arith })) ∙ ez ∙ ap pos ex

pub cell_is : (r : List ℕ) {a b c : ℤ} {x y z : ℕ} → a ≡ pos x → (x ≡ word16 r 0) × (x < 65536) → b ≡ pos y → (y ≡ word16 r 2) × (y < 65536)
    → c ≡ pos z → (z ≡ word16 r 4) × (z < 65536)
    → ◌≡◌ {A = IVec3} (record { x = to_z w32 (of_z w32 a); y = to_z w32 (of_z w32 b); z = to_z w32 (of_z w32 c) }) (cell_in r)
unfolding cell_in
cell_is r {a} {b} {c} {x} {y} {z} ea hx eb hy ec hz =
    rw (coord_is a x (word16 r 0) ea hx.0 hx.1, coord_is b y (word16 r 2) eb hy.0 hy.1, coord_is c z (word16 r 4) ec hz.0 hz.1)

value_small : (r : List ℕ) → Bytes r → value_in r ≤ largest_value
unfolding value_in
value_small r h = omega (arith, h 6, h 7)

-- ---- what an edit asks of the tables, and grants

pub edited_is : (t : Tables) (root : ℕ) (p : IVec3) (v : ℕ) (r : List ℕ) (o : Out) → p ≡ cell_in r → v ≡ value_in r → o ≡ edit_of t root record_depth p v → o ≡ edit_in t root r
unfolding edit_in
edited_is t root p v r o ep ev e = e ∙ ap₂ (λ (q : IVec3) (w : ℕ). edit_of t root record_depth q w) ep ev

pub edits_enter : Enters edits
unfolding edit_in
edits_enter = record {
  unfit = λ t root r f. edit_unfit t root record_depth (cell_in r) (value_in r) f;
  grants = λ t root r b w. let d = edit_does w root record_depth (cell_in r) (value_in r) (value_small r b) in record { well = d.well; balance = d.balance; keeps = λ a. spared_kept (omega arith) w d a };
  short = line_short;
}
