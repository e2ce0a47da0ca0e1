-- The same cell: told by coordinates, by way, and by `same_at`; and one cell of a cube changed.
use mathlib.Core.Path.{◌≡◌, sym, ap, ◌∙◌, subst}
use mathlib.Core.Logic.{◌≢◌}
use mathlib.Core.Bool.{true, false, true≢false}
use Prim.Native.Nat.{ℕ, ◌^◌, ◌<◌}
use native.Mathlib.Bridge.{le_prop}
use lib.Dec.{eqb}
use borrow.Author.Tests.{eq-eqb, eqb-true}
use Rattle.basics.specs.Pick.{pick}
use Rattle.tree.specs.Cells.{At, way, Apart}
use Rattle.tree.proofs.CellLaws.{cube_one}
use Rattle.arena.proofs.Fits.{both}
use Rattle.lists.proofs.Changes as lists
use Rattle.promises.specs.Promises.{Cube, same_at, changed}

-- ## Two cells

-- two cells with the same coordinates are one
abbrev made : (d x y z : ℕ) → x < 2 ^ d → y < 2 ^ d → z < 2 ^ d → At d
made d x y z p q o = record { x = x; y = y; z = z; in_x = p; in_y = q; in_z = o }

abbrev pub SameSpot : {d : ℕ} → At d → At d → Type 0
SameSpot s c = (s.x ≡ c.x) × (s.y ≡ c.y) × (s.z ≡ c.z)

pub cell_one : {d : ℕ} (s c : At d) → SameSpot s c → s ≡ c
cell_one {d} s c r =
    subst (λ (x : ℕ). (p : x < 2 ^ d) → s ≡ made d x c.y c.z p c.in_y c.in_z) r.0
    (subst (λ (y : ℕ). (q : y < 2 ^ d) (p : s.x < 2 ^ d) → s ≡ made d s.x y c.z p q c.in_z) r.1
    (subst (λ (z : ℕ). (o : z < 2 ^ d) (q : s.y < 2 ^ d) (p : s.x < 2 ^ d) → s ≡ made d s.x s.y z p q o) r.2
    (λ o q p.
    ap (λ (i : s.x < 2 ^ d). made d s.x s.y s.z i s.in_y s.in_z) (le_prop s.in_x p)
    ∙ ap (λ (i : s.y < 2 ^ d). made d s.x s.y s.z p i s.in_z) (le_prop s.in_y q)
    ∙ ap (λ (i : s.z < 2 ^ d). made d s.x s.y s.z p q i) (le_prop s.in_z o)) c.in_z) c.in_y) c.in_x

pub apart_two : {d : ℕ} (s c : At d) → Apart s c → s ≢ c
apart_two {d} s c h q = h (ap (λ (i : At d). i.x) q, ap (λ (i : At d). i.y) q, ap (λ (i : At d). i.z) q)

-- ## What `same_at` tells

pub same_spot : {d : ℕ} (s c : At d) → same_at s c ≡ true → SameSpot s c
unfolding same_at
same_spot s c e =
    let a = both (eqb s.x c.x) (pick (eqb s.y c.y) (eqb s.z c.z) false) e in
    let b = both (eqb s.y c.y) (eqb s.z c.z) a.1 in
    (eqb-true s.x c.x a.0, eqb-true s.y c.y b.0, eqb-true s.z c.z b.1)

pub same_one : {d : ℕ} (s c : At d) → same_at s c ≡ true → s ≡ c
same_one s c e = cell_one s c (same_spot s c e)

pub same_no : {d : ℕ} (s c : At d) → same_at s c ≡ false → way s ≢ way c
unfolding same_at
same_no {d} s c e k =
    let r = cube_one d s.in_x s.in_y s.in_z c.in_x c.in_y c.in_z k in
    true≢false (sym (rw (eq-eqb s.x c.x r.0, eq-eqb s.y c.y r.1, eq-eqb s.z c.z r.2)) ∙ e)

pub no_two : {d : ℕ} (s c : At d) → same_at s c ≡ false → s ≢ c
no_two s c q e = same_no s c q (ap way e)

-- ## One cell changed

module _ {d : ℕ} (F : Cube d) (c : At d) (v : ℕ) where
  pub changed_here : changed F c v c ≡ v
  changed_here = lists.changed_here same_at same_one no_two F c v

  pub changed_at : (s : At d) → SameSpot s c → changed F c v s ≡ v
  changed_at s e = ap (changed F c v) (cell_one s c e) ∙ changed_here

  pub changed_elsewhere : (s : At d) → Apart s c → changed F c v s ≡ F s
  changed_elsewhere s n = lists.changed_off same_at same_one no_two F c v s (apart_two s c n)
