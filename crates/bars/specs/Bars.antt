-- A bar: the cells from x to x + k at y and z are edited with one value, in rising order, each passing root released after the next is made.
use Rattle.std.specs.Prelude.{◌≡◌, ◌⊎◌, List, ℕ, zero, suc, ◌+◌, ◌^◌, ◌≤◌, ◌<◌, eqb, length}
use Rattle.basics.specs.Limits.{deepest, deepest_cube, cube_kids}
use Rattle.basics.specs.Pick.{pick}
use Rattle.paths.specs.Paths.{place}
use Rattle.nodes.specs.Values.{height_at}
use Rattle.tree.specs.Tree.{LiveOr0, Root}
use Rattle.tree.specs.Cells.{At}
use Rattle.arena.specs.Tables.{Tables, cap, W, WellFormed}
use Rattle.arena.specs.Calls.{Out, said, refused, release_of}
use Rattle.ledger.specs.Ledger.{on, holds_on}
use Rattle.ledger.specs.Fates.{Grew, ended}
use Rattle.calls.specs.Cells.{spot, Answers, Alike, Expands}
use Rattle.calls.specs.Living.{SameLife}
use Rattle.read_cell.specs.Calls.{look_of}
use Rattle.edit.specs.Edit.{edit_of}

-- ## What a bar answers and leaves

-- from the passing root r on: the k cells from x on. A refused edit releases the passing root, and its number is the answer
unfoldable pub pass_of : ℕ → ℕ → ℕ → ℕ → Tables → ℕ → ℕ → ℕ → Out
pass_of d y z v t r x zero = said 0 r t
pass_of d y z v t r x (suc k) =
    let o = edit_of t r d (place x y z) v in
    let on = pass_of d y z v (release_of deepest o.after r).after o.id (suc x) k in
    pick (eqb o.no 0) on (refused o.no (release_of deepest t r).after)

-- the cells from x to x + k of the root at depth d. The old root is not released: the first answer passes on
unfoldable pub bar_of : Tables → ℕ → ℕ → ℕ → ℕ → ℕ → ℕ → ℕ → Out
bar_of t root d y z x k v =
    let o = edit_of t root d (place x y z) v in
    let on = pass_of d y z v o.after o.id (suc x) k in
    pick (eqb o.no 0) on (refused o.no t)

-- ## How often it recycles a slot

-- in the releases of the passing roots; an edit recycles none
unfoldable pub pass_ends : ℕ → ℕ → ℕ → ℕ → Tables → ℕ → ℕ → ℕ → ℕ → ℕ
pass_ends d y z v t r x zero s = 0
pass_ends d y z v t r x (suc k) s =
    let o = edit_of t r d (place x y z) v in
    let u = (release_of deepest o.after r).after in
    let on = ended o.after u s + pass_ends d y z v u o.id (suc x) k s in
    pick (eqb o.no 0) on (ended t (release_of deepest t r).after s)

unfoldable pub bar_ends : Tables → ℕ → ℕ → ℕ → ℕ → ℕ → ℕ → ℕ → ℕ → ℕ
bar_ends t root d y z x k v s =
    let o = edit_of t root d (place x y z) v in
    let on = pass_ends d y z v o.after o.id (suc x) k s in
    pick (eqb o.no 0) on 0

-- ## What an accepted bar does

-- From t to u with the answer r: well formed; no node of t ended or has another content; one new hold on r (none on EMPTY) and every other hold as before.
pub record Passing (t u : Tables) (r : ℕ) : Type 0 where
  pub well : WellFormed cube_kids deepest u
  pub grew : Grew t u
  pub balance : (a : ℕ) → holds_on u a ≡ holds_on t a + on a r

-- The hold on r given back: accepted, well formed, and live nodes and counts as in t.
pub record Undone (t u : Tables) (r : ℕ) : Type 0 where
  pub accepted : (release_of deepest u r).no ≡ 0
  pub well : WellFormed cube_kids deepest (release_of deepest u r).after
  pub same : SameLife t (release_of deepest u r).after

-- the cell s lies on the bar from a to b at y and z
abbrev pub OnBar : {d : ℕ} → ℕ → ℕ → ℕ → ℕ → At d → Type 0
OnBar y z a b s = (s.y ≡ y) × (s.z ≡ z) × (a ≤ s.x) × (s.x ≤ b)

-- The answer r in u shows the cube of the root in t with the cells from a to b at y and z set to v: lookup and expansion. The bar lies inside; the
-- answer is EMPTY or live, no taller than d, and tidy if the root was.
pub record Drawn (d : ℕ) (t : Tables) (root y z a b v : ℕ) (u : Tables) (r : ℕ) : Type 0 where
  pub deep : d ≤ deepest
  pub inside : (y < 2 ^ d) × (z < 2 ^ d) × (b < 2 ^ d)
  pub at : (s : At d) → OnBar y z a b s → Answers u r s v
  pub elsewhere : (s : At d) → ¬ (OnBar y z a b s) → Alike u r t root s
  pub cube : d ≤ deepest_cube → (l : List ℕ) → length l ≡ 8 ^ d → Expands d u r l (λ s. (look_of u r d (spot s)).value)
  pub there : LiveOr0 (cap u) (W u) r
  pub low : height_at (W u) r ≤ d
  pub tidy : Root cube_kids (cap t) d (W t) root → Root cube_kids (cap u) d (W u) r

-- ## Its number

-- accepted, or refused by 10 or 11
abbrev pub Late : ℕ → Type 0
Late k = (k ≡ 0) ⊎ (k ≡ 10) ⊎ (k ≡ 11)
