-- The numbers of a bar: where the refusals before 10 are past for the whole bar, it is accepted or refused by 10 or 11.
use mathlib.Core.Path.{◌≡◌, refl, sym, ◌∙◌, subst}
use mathlib.Core.Logic.{inl, inr}
use Prim.Native.Nat.{ℕ, suc, ◌+◌, ◌^◌, ◌≤◌, ◌<◌}
use native.Mathlib.Decide.{ℕ_discrete}
use native.Mathlib.Omega.{arith}
use lib.Dec.{leb}
use borrow.Author.Tests.{eq-eqb, ne_eqb, le-leb, lt-ltb}
use Rattle.basics.specs.Limits.{deepest, cube_kids, largest_value}
use Rattle.paths.specs.Paths.{place, inside}
use Rattle.nodes.specs.Values.{height_at}
use Rattle.nodes.specs.Words.{slot}
use Rattle.nodes.proofs.Sums.{cases, split}
use Rattle.tree.specs.Tree.{LiveOr0}
use Rattle.tree.specs.Lacks.{Need, have, lack}
use Rattle.arena.specs.Calls.{full_of, free_slots}
use Rattle.arena.specs.Tables.{Tables, cap, W, WellFormed}
use Rattle.arena.proofs.Fits.{sized_fits}
use Rattle.calls.proofs.Follows.{held_there}
use Rattle.read_cell.specs.Calls.{look_no}
use Rattle.read_cell.proofs.Laws.{live_there}
use Rattle.edit.specs.Edit.{result_of, grant_no, cell_no, cell_at, edit_no}
use Rattle.edit.proofs.Edits.{edit_number}
use Rattle.bars.specs.Bars.{Late, pass_of, bar_of}
use Rattle.bars.proofs.Ways.{edit_at, pass_all, bar_by}
use Rattle.bars.proofs.Does.{Ready, ready_first, ready_next}
use Rattle.bars.proofs.Drawing.{edit_low, step_low}

grant_late : (t : Tables) (r : Need) → Late (grant_no t r)
unfolding grant_no
grant_late t (have r) = cases (ℕ_discrete r 0)
    (λ z. inl (rw (eq-eqb r 0 z)))
    (λ z. split (full_of (W t) (slot r)) (λ f. inr (inl (rw (ne_eqb r 0 z, f)))) (λ f. inl (rw (ne_eqb r 0 z, f))))
grant_late t (lack k) = split (leb k (free_slots t.arena)) (λ f. inl (rw f)) (λ f. inr (inr (rw f)))

module _ {t : Tables} (w : WellFormed cube_kids deepest t) (root d x y z v : ℕ) (h : d ≤ deepest) (hx : x < 2 ^ d) (hy : y < 2 ^ d) (hz : z < 2 ^ d)
    (there : LiveOr0 (cap t) (W t) root) (low : height_at (W t) root ≤ d) where
  look_none : look_no t root d (place x y z) ≡ 0
  unfolding look_no inside
  look_none = rw (sized_fits w.sized, le-leb d deepest h, lt-ltb x (2 ^ d) hx, lt-ltb y (2 ^ d) hy, lt-ltb z (2 ^ d) hz, live_there t root there)

  past_grant : edit_no t root d (place x y z) v ≡ grant_no t (result_of cube_kids t v (cell_at d (place x y z)) root)
  unfolding edit_no cell_no
  past_grant = rw (eq-eqb (look_no t root d (place x y z)) 0 look_none, le-leb (height_at (W t) root) d low)

  edit_late : Late (edit_at d y z v t root x).no
  edit_late = subst Late (sym (edit_number t root d (place x y z) v ∙ past_grant)) (grant_late t (result_of cube_kids t v (cell_at d (place x y z)) root))

module _ (d y z v : ℕ) (high : v ≤ largest_value) (h : d ≤ deepest) (hy : y < 2 ^ d) (hz : z < 2 ^ d) where
  -- before each edit: the passing root is no taller than d, and the cells left lie inside
  abbrev Low : Tables → ℕ → ℕ → ℕ → Type 0
  Low u r x k = Ready u r × (height_at (W u) r ≤ d) × (x + k ≤ 2 ^ d)

  pass_late : (k : ℕ) (u : Tables) (r x : ℕ) → Low u r x k → Late (pass_of d y z v u r x k).no
  pass_late =
      pass_all d y z v Low (λ u r x k o. Late o.no) (λ u r x i. inl refl)
      (λ u r x k i e. let p = i.2 in (ready_next d y z v high u r x i.0 e, step_low d y z v high u r x i.0 e i.1, omega arith))
      (λ u r x k o i e l. l)
      (λ u r x k i bad. let p = i.2 in edit_late i.0.0 r d x y z v h (omega arith) hy hz (held_there u r i.0.1) i.1)

-- Where the bar lies inside the cube and the root is EMPTY or live and no taller than d, only 10 and 11 can refuse it.
pub bar_late : {t : Tables} → WellFormed cube_kids deepest t → (root d y z x k v : ℕ) → v ≤ largest_value → d ≤ deepest → y < 2 ^ d → z < 2 ^ d → x + k < 2 ^ d
    → LiveOr0 (cap t) (W t) root → height_at (W t) root ≤ d → Late (bar_of t root d y z x k v).no
bar_late {t} w root d y z x k v high h hy hz hx there low =
    let o = edit_at d y z v t root x in
    bar_by d y z v t root x k (λ i. Late i.no)
    (λ e. pass_late d y z v high h hy hz k o.after o.id (suc x) (ready_first d y z v high t root x w e, edit_low w root d x y z v high e, omega arith))
    (λ bad. edit_late w root d x y z v h (omega arith) hy hz there low)
