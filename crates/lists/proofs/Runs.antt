-- A run of calls: it ends with the numbers after its list, in a tidy root. Runs that follow each other, and the calls of one run seen from another root.
use mathlib.Core.Path.{sym, ap, ◌∙◌, subst}
use mathlib.Core.Bool.{Bool}
use mathlib.Core.List.{List, ◌++◌}
use Prim.Native.Nat.{ℕ}
use Rattle.nodes.proofs.Sums.{split}
use Rattle.tree.specs.Tree.{Root, look}
use Rattle.tree.proofs.Grow.{extends_keeps, root_later}
use Rattle.arena.specs.Tables.{Tables, cap, W, WellFormed}
use Rattle.read_cell.proofs.Meaning.{wf_made}
use Rattle.calls.specs.Does.{Stepping, Kept, There}
use Rattle.calls.proofs.Roots.{kept_there, kept_cell}
use Rattle.lists.specs.Changes.{Change, changed, entered}
use Rattle.lists.specs.Runs.{Entering, Run, done, enter, besides, Stays, Ends}
use Rattle.lists.specs.Kinds.{CellKind}

-- ## One run after another

module _ {C : Type 0} {Enters : Entering C} {Step : Stepping} where
  -- is a run of both lists
  pub run_then : {t u v : Tables} {a b r : ℕ} {es fs : List (Change C)} → Run Enters Step t a es u b → Run Enters Step u b fs v r → Run Enters Step t a (es ++ fs) v r
  run_then done rest = rest
  run_then (enter e i run) rest = enter e i (run_then run rest)
  run_then (besides step there run) rest = besides step there (run_then run rest)

  -- A run goes on while its end is kept.
  pub run_on : {t u v : Tables} {a r : ℕ} {es : List (Change C)} → Run Enters Step t a es u r → Stays Enters Step u v r → Run Enters Step t a es v r
  run_on done rest = rest
  run_on (enter e i run) rest = enter e i (run_on run rest)
  run_on (besides step there run) rest = besides step there (run_on run rest)

module _ {n tallest d : ℕ} {C : Type 0} {way : C → List ℕ} {same : C → C → Bool} {Enters : Entering C} {Step : Stepping} (kind : CellKind n tallest d way same Enters Step) where
  -- ## A kept root

  module _ {t u : Tables} {a : ℕ} {F : C → ℕ} (k : Kept n tallest t u a) (h : Ends n tallest d way F t a) where
    kept_ends : Ends n tallest d way F u a
    kept_ends = record {
      well = k.well;
      root = subst (λ (c : ℕ). Root n c d (W u) a) (sym k.size) (root_later n (cap t) (W t) (W u) (wf_made kind.words h.well) d a k.keeps h.root);
      cells = λ c. kept_cell kind.words h.well h.root.there k (kind.cells.cell c) ∙ h.cells c;
    }

  -- ## An accepted edit

  -- changes one cell of its root
  enter_ends_lem : {t u : Tables} {a r : ℕ} {F : C → ℕ} (e : Change C) → Enters t a e.cell e.value u r → Ends n tallest d way F t a
      → Ends n tallest d way (changed same F e.cell e.value) u r
  unfolding changed
  enter_ends_lem {t} {u} {a} {r} {F} e i h =
      let x = kind.enters e.cell e.value h.well i in
      let z = x.edited in
      record {
        well = x.does.well;
        root = subst (λ (c : ℕ). Root n c d (W u) r) (sym x.does.size) (record { there = z.there; tidy = z.tidy h.root.tidy; low = z.low });
        cells = λ c. split (same c e.cell)
            (λ q. rw q (ap (λ (s : C). look (W u) (way s) r) (kind.cells.one c e.cell q) ∙ z.changed))
            (λ q. rw q (z.others (way c) (kind.cells.cell c) (kind.cells.two c e.cell q) ∙ h.cells c));
      }

  -- and keeps every other
  enter_there : {t u : Tables} {a r : ℕ} (e : Change C) → WellFormed n tallest t → Enters t a e.cell e.value u r → (b : ℕ) → There t b → There u b
  enter_there e w i b there =
      let x = kind.enters e.cell e.value w i in
      kept_there kind.words w there (record { well = x.does.well; size = x.does.size; keeps = extends_keeps x.edited.grows b })

  -- so it is a step beside another run
  pub enter_besides : {t v : Tables} {a b : ℕ} (e : Change C) → WellFormed n tallest t → Enters t a e.cell e.value v b
      → {c r : ℕ} {fs : List (Change C)} {u : Tables} → There t c → Run Enters Step v c fs u r → Run Enters Step t c fs u r
  enter_besides e w i {c} there rest =
      let (granted, taken, times, step) = kind.edit e.cell e.value i in
      besides step (enter_there e w i c there) rest

  -- ## A run

  -- it ends with the numbers after its list
  pub run_ends : {t u : Tables} {a r : ℕ} {es : List (Change C)} {F : C → ℕ} → Ends n tallest d way F t a → Run Enters Step t a es u r
      → Ends n tallest d way (entered same F es) u r
  unfolding entered
  run_ends h done = h
  run_ends h (enter e i rest) = run_ends (enter_ends_lem e i h) rest
  run_ends {a = a} h (besides step there rest) = run_ends (kept_ends (kind.steps h.well step a h.root.there there) h) rest
