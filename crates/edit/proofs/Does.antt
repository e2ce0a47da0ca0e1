-- What an edit does, as any call.
use mathlib.Core.Path.{◌≡◌, refl, sym, subst}
use mathlib.Core.Logic.{◌≢◌}
use mathlib.Core.List.{List}
use Prim.Native.Nat.{ℕ, ◌≤◌}
use native.Mathlib.Decide.{ℕ_discrete}
use native.Mathlib.Omega.{arith}
use Rattle.basics.specs.Limits.{deepest, cube_kids, kid_words, largest_value}
use Rattle.nodes.proofs.Sums.{cases}
use Rattle.paths.specs.declared.IVec3.{IVec3}
use Rattle.tree.specs.Tree.{Extends}
use Rattle.arena.specs.Calls.{Out, refused}
use Rattle.arena.specs.Tables.{Tables, cap, W, WellFormed}
use Rattle.ledger.specs.Ledger.{on, if_accepted}
use Rattle.ledger.specs.Fates.{ended}
use Rattle.ledger.proofs.Effects.{unaccepted}
use Rattle.calls.specs.Does.{Does}
use Rattle.calls.proofs.Once.{grown}
use Rattle.edit.specs.Edit.{cell_no, edit_cell, edit_of}
use Rattle.edit.specs.Promises.{Posed}
use Rattle.edit.proofs.Edits.{cell_right, cell_refused, cell_well, by_cell}
use Rattle.edit.proofs.Holds.{cell_balance}
use Rattle.edit.proofs.Generations.{cell_gens}

-- the capacity stays, and every node
abbrev pub Grows : ℕ → Tables → Tables → Type 0
Grows n t u = (cap u ≡ cap t) × Extends n (cap t) (W t) (W u)

-- one hold is granted on the answer
abbrev pub Grants : ℕ → ℕ → Tables → Out → Type 0
Grants n tallest t o = Does n tallest t o.after (λ y. if_accepted o (on y o.id)) (λ y. 0) (ended t o.after)

same_grows : (n : ℕ) (t : Tables) → Grows n t t
same_grows n t = (refl, (λ a l. record { still = l; kids = λ i k. refl; value = refl; height = refl }))

-- a refusal grants none
refused_does : {n tallest : ℕ} → n ≤ kid_words → {t : Tables} → WellFormed n tallest t → (k : ℕ) → k ≢ 0 → Grants n tallest t (refused k t)
refused_does {n} m {t} w k z =
    grown m t w (same_grows n t).1 (λ y. if_accepted (refused k t) (on y (refused k t).id)) (λ y. 0) w refl
    (λ y. omega (arith, unaccepted (refused k t) (on y (refused k t).id) z)) (λ s. refl)

-- ## An edit of a cell

module _ {n tallest : ℕ} {t : Tables} {root d : ℕ} {cell : List ℕ} {v : ℕ} (q : Posed n tallest t root d cell) (high : v ≤ largest_value) where
  -- an edit, accepted or refused, keeps the capacity and every node
  pub cell_grows : Grows n t (edit_cell n t root d cell v).after
  cell_grows = cases (ℕ_discrete (cell_no n t root d cell v) 0)
      (λ z. let r = cell_right q high z in (r.size, r.edited.grows))
      (λ z. subst (λ (o : Out). Grows n t o.after) (sym (cell_refused n t root d cell v z)) (same_grows n t))

  -- it grants one hold on its answer
  pub cell_does : Grants n tallest t (edit_cell n t root d cell v)
  cell_does =
      let o = edit_cell n t root d cell v in
      grown q.words o.after q.well cell_grows.1 (λ y. if_accepted o (on y o.id)) (λ y. 0) (cell_well q high) cell_grows.0
      (λ y. let z = cell_balance q high y in omega arith) (cell_gens q high)

-- ## An edit of a cube

-- at any depth, of any root
module _ {t : Tables} (w : WellFormed cube_kids deepest t) (b e : ℕ) (p : IVec3) (v : ℕ) (h : v ≤ largest_value) where
  pub edit_grows : Grows cube_kids t (edit_of t b e p v).after
  edit_grows = by_cell t b e p v w (λ o. Grows cube_kids t o.after) (λ k z. same_grows cube_kids t) (λ q. cell_grows q h)

  pub edit_does : Grants cube_kids deepest t (edit_of t b e p v)
  edit_does = by_cell t b e p v w (Grants cube_kids deepest t) (refused_does (omega arith) w) (λ q. cell_does q h)
