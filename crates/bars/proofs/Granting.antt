-- What a caller may rely on of a call that grants one hold on its answer and takes none, as an edit, a bar and a reading do: what it leaves, accepted or refused.
use mathlib.Core.Path.{◌≡◌, refl, subst}
use mathlib.Core.Logic.{◌≢◌, ◌⊎◌, inl, inr, ⊎_elim}
use mathlib.Core.List.{List}
use Prim.Native.Nat.{ℕ, ◌^◌, ◌≤◌}
use native.Mathlib.Decide.{ℕ_discrete}
use native.Mathlib.Omega.{arith}
use lib.ListN.{length}
use Rattle.basics.specs.Limits.{deepest, deepest_cube, cube_kids, kid_words, largest_value}
use Rattle.nodes.proofs.Sums.{cases}
use Rattle.paths.specs.declared.IVec3.{IVec3}
use Rattle.tree.specs.Tree.{LiveOr0, Below}
use Rattle.tree.specs.Cells.{At}
use Rattle.tree.proofs.Grow.{extends_keeps}
use Rattle.arena.specs.Calls.{Out, counts_of}
use Rattle.arena.specs.Tables.{Tables, cap, W, WellFormed}
use Rattle.ledger.specs.Ledger.{on, if_accepted}
use Rattle.ledger.specs.Fates.{Lives, Grew}
use Rattle.ledger.proofs.Effects.{holds_dead, on_diff, accepted, unaccepted}
use Rattle.calls.specs.Cells.{Alike}
use Rattle.calls.specs.Does.{Does, Kept}
use Rattle.calls.specs.Living.{SameLife}
use Rattle.calls.proofs.Compose.{does_as, does_net}
use Rattle.calls.proofs.Lasting.{untaken_extends, untaken_grew, untaken_only, same_life, life_counts}
use Rattle.calls.proofs.Living.{held_released}
use Rattle.calls.proofs.Roots.{kept_reads, kept_cube}
use Rattle.read_cell.specs.Calls.{expand_of}
use Rattle.edit.specs.Edit.{edit_of}
use Rattle.edit.proofs.Does.{edit_does}
use Rattle.bars.specs.Bars.{Passing, Undone}
use Rattle.bars.proofs.Does.{granted_held, held_does}

fit : cube_kids ≤ kid_words
fit = omega arith

module _ {t : Tables} (w : WellFormed cube_kids deepest t) (o : Out) {times : ℕ → ℕ}
    (d : Does cube_kids deepest t o.after (λ a. if_accepted o (on a o.id)) (λ a. 0) times) where
  -- ## Accepted or refused

  -- No node that lived ended or has another content.
  pub granting_grew : Grew t o.after
  granting_grew = untaken_grew fit w d

  -- So every root is kept ..
  pub granting_kept : (b : ℕ) → Kept cube_kids deepest t o.after b
  granting_kept b = record { well = d.well; size = d.size; keeps = extends_keeps (untaken_extends fit w d) b }

  -- .. and one that was EMPTY or live reads as before at every cell and depth, and expands to the same cube.
  pub granting_reads : (b : ℕ) → LiveOr0 (cap t) (W t) b → (e : ℕ) → e ≤ deepest → (s : At e) → Alike o.after b t b s
  granting_reads b l e h s = kept_reads w l (granting_kept b) h s

  pub granting_cubes : (b : ℕ) → LiveOr0 (cap t) (W t) b → (e : ℕ) → e ≤ deepest_cube → (l m : List ℕ) → length l ≡ 8 ^ e → length m ≡ 8 ^ e
      → (expand_of o.after b e l).cube ≡ (expand_of t b e m).cube
  granting_cubes b l e h = kept_cube w l (granting_kept b) h

  -- ## Accepted

  module _ (ok : o.no ≡ 0) where
    grants_one : Does cube_kids deepest t o.after (λ a. on a o.id) (λ a. 0) times
    grants_one = does_as cube_kids deepest fit (λ a. on a o.id) (λ a. 0) times d (λ a. accepted o (on a o.id) ok) (λ a. refl) (λ s l. refl)

    -- One new hold on the answer, and every other node's holds as before.
    pub granting_passing : Passing t o.after o.id
    granting_passing = record { well = d.well; grew = granting_grew; balance = λ a. let e = grants_one.balance a in omega arith }

    -- Its release is accepted, and leaves live nodes and counts as they were.
    pub granting_undone : Undone t o.after o.id
    granting_undone =
        let h = granted_held grants_one in
        let net = does_net cube_kids deepest fit (λ a. 0) (λ a. 0) (λ a. on a o.id) w grants_one (held_does d.well o.id h)
        (λ a. (omega arith, omega arith, omega arith, omega arith)) in
        record { accepted = held_released fit d.well o.id h; well = net.well; same = same_life fit w net }

    -- Nothing leaks: what lives afterwards lived before, or is a node of the answer.
    pub granting_only : (a : ℕ) → Lives o.after a → Lives t a ⊎ Below cube_kids (W o.after) o.id a
    granting_only a l =
        ⊎_elim (λ v. inl v)
        (λ (b, dead, h, q). cases (ℕ_discrete b o.id)
        (λ e. inr (subst (λ (c : ℕ). Below cube_kids (W o.after) c a) e q))
        (λ e. absurd (omega (arith, grants_one.balance b, holds_dead t b dead, on_diff b o.id e))))
        (untaken_only fit w grants_one a l)

  -- ## Refused

  module _ (bad : o.no ≢ 0) where
    -- Live nodes and counts are as before.
    pub granting_same : SameLife t o.after
    granting_same = same_life fit w
        (does_as cube_kids deepest fit (λ a. 0) (λ a. 0) times d (λ a. unaccepted o (on a o.id) bad) (λ a. refl) (λ s l. refl))

    -- So the call for counts answers every id as before.
    pub granting_counts : (a : ℕ) → counts_of o.after a ≡ counts_of t a
    granting_counts = life_counts w d.well granting_same

-- An accepted edit of any root, and then its answer released: that is accepted, and live nodes and counts are as they were before the edit.
pub edit_undone : {t : Tables} → WellFormed cube_kids deepest t → (root d : ℕ) (p : IVec3) (v : ℕ) → v ≤ largest_value → (edit_of t root d p v).no ≡ 0
    → Undone t (edit_of t root d p v).after (edit_of t root d p v).id
edit_undone {t} w root d p v high = granting_undone w (edit_of t root d p v) (edit_does w root d p v high)
