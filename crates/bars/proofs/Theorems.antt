-- What a caller may rely on of a bar: what it leaves, accepted or refused.
use mathlib.Core.Path.{◌≡◌, refl}
use mathlib.Core.Logic.{◌≢◌, ◌⊎◌}
use mathlib.Core.List.{List}
use Prim.Native.Nat.{ℕ, ◌^◌, ◌≤◌}
use lib.ListN.{length}
use Rattle.basics.specs.Limits.{deepest, deepest_cube, cube_kids, largest_value}
use Rattle.ids.specs.Ids.{invalid}
use Rattle.tree.specs.Tree.{LiveOr0, Below}
use Rattle.tree.specs.Cells.{At}
use Rattle.arena.specs.Calls.{counts_of}
use Rattle.arena.specs.Tables.{Tables, cap, W, WellFormed}
use Rattle.ledger.specs.Fates.{Lives, Grew}
use Rattle.calls.specs.Cells.{Alike}
use Rattle.calls.specs.Does.{Kept}
use Rattle.calls.specs.Living.{SameLife}
use Rattle.read_cell.specs.Calls.{expand_of}
use Rattle.edit.specs.Edit.{edit_of}
use Rattle.bars.specs.Bars.{Passing, Undone, bar_of}
use Rattle.bars.proofs.Ways.{pass_all, bar_by}
use Rattle.bars.proofs.Does.{bar_does}
use Rattle.bars.proofs.Granting.{granting_grew, granting_kept, granting_reads, granting_cubes, granting_passing, granting_undone, granting_only, granting_same, granting_counts}

-- Refused, it answers INVALID. On any tables.
pub bar_invalid : (t : Tables) (root d y z x k v : ℕ) → (bar_of t root d y z x k v).no ≢ 0 → (bar_of t root d y z x k v).id ≡ invalid
bar_invalid t root d y z x k v =
    bar_by d y z v t root x k (λ o. o.no ≢ 0 → o.id ≡ invalid)
    (λ e.
    pass_all d y z v (λ u r x k. Unit) (λ u r x k o. o.no ≢ 0 → o.id ≡ invalid) (λ u r x i n. absurd (n refl)) (λ u r x k i e. tt) (λ u r x k o i e h. h)
    (λ u r x k i e n. refl) k (edit_of t root d _ v).after (edit_of t root d _ v).id _ tt)
    (λ e n. refl)

module _ {t : Tables} (w : WellFormed cube_kids deepest t) (root d y z x k v : ℕ) (high : v ≤ largest_value) where
  -- Accepted or refused, the tables stay well formed, and no node that lived ended or has another content.
  pub bar_well : WellFormed cube_kids deepest (bar_of t root d y z x k v).after
  bar_well = (bar_does w root d y z x k v high).well

  pub bar_grew : Grew t (bar_of t root d y z x k v).after
  bar_grew = granting_grew w (bar_of t root d y z x k v) (bar_does w root d y z x k v high)

  -- So every root is kept ..
  pub bar_kept : (b : ℕ) → Kept cube_kids deepest t (bar_of t root d y z x k v).after b
  bar_kept = granting_kept w (bar_of t root d y z x k v) (bar_does w root d y z x k v high)

  -- .. and one that was EMPTY or live reads as before at every cell and depth, and expands to the same cube.
  pub bar_reads : (b : ℕ) → LiveOr0 (cap t) (W t) b → (e : ℕ) → e ≤ deepest → (s : At e) → Alike (bar_of t root d y z x k v).after b t b s
  bar_reads = granting_reads w (bar_of t root d y z x k v) (bar_does w root d y z x k v high)

  pub bar_cubes : (b : ℕ) → LiveOr0 (cap t) (W t) b → (e : ℕ) → e ≤ deepest_cube → (l m : List ℕ) → length l ≡ 8 ^ e → length m ≡ 8 ^ e
      → (expand_of (bar_of t root d y z x k v).after b e l).cube ≡ (expand_of t b e m).cube
  bar_cubes = granting_cubes w (bar_of t root d y z x k v) (bar_does w root d y z x k v high)

  -- Accepted: one new hold on the answer, and every other node's holds as before.
  pub bar_accepted : (bar_of t root d y z x k v).no ≡ 0 → Passing t (bar_of t root d y z x k v).after (bar_of t root d y z x k v).id
  bar_accepted = granting_passing w (bar_of t root d y z x k v) (bar_does w root d y z x k v high)

  -- Its release leaves live nodes and counts as they were.
  pub bar_undone : (bar_of t root d y z x k v).no ≡ 0 → Undone t (bar_of t root d y z x k v).after (bar_of t root d y z x k v).id
  bar_undone = granting_undone w (bar_of t root d y z x k v) (bar_does w root d y z x k v high)

  -- Nothing leaks: what lives afterwards lived before, or is a node of the answer.
  pub bar_only : (bar_of t root d y z x k v).no ≡ 0 → (a : ℕ) → Lives (bar_of t root d y z x k v).after a → Lives t a ⊎ Below cube_kids (W (bar_of t root d y z x k v).after) (bar_of t root d y z x k v).id a
  bar_only = granting_only w (bar_of t root d y z x k v) (bar_does w root d y z x k v high)

  -- Refused: live nodes and counts are as before, and the call for counts answers every id as before.
  pub bar_refused : (bar_of t root d y z x k v).no ≢ 0 → SameLife t (bar_of t root d y z x k v).after
  bar_refused = granting_same w (bar_of t root d y z x k v) (bar_does w root d y z x k v high)

  pub bar_counts : (bar_of t root d y z x k v).no ≢ 0 → (a : ℕ) → counts_of (bar_of t root d y z x k v).after a ≡ counts_of t a
  bar_counts = granting_counts w (bar_of t root d y z x k v) (bar_does w root d y z x k v high)
