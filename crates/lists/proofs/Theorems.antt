-- Two runs from one root: two orders of one list end in the same id; where a cell comes twice, the last value decides.
use mathlib.Core.Path.{◌≡◌, refl, sym, ap, ◌∙◌, subst}
use mathlib.Core.Logic.{◌≢◌, inl}
use mathlib.Core.Bool.{Bool, false}
use mathlib.Core.List.Permᴰ
use mathlib.Core.List.{List, ◌∷◌, ◌++◌, Permᴰ}
use Prim.Native.Nat.{ℕ}
use native.Mathlib.Omega.{arith}
use Rattle.tree.specs.Tree.{Branch, Below, self, under, Root, look}
use Rattle.tree.proofs.Canon.{canon, height_empty}
use Rattle.arena.specs.Tables.{Tables, cap, W, WellFormed}
use Rattle.read_cell.proofs.Meaning.{wf_made}
use Rattle.calls.specs.Does.{Stepping}
use Rattle.lists.specs.Changes.{Change, entered, Not-at, Distinct, Disjoint, last_only, Interleaved}
use Rattle.lists.specs.Runs.{Entering, Run, Stays, Runs, Ends, numbers_of, OneEnd}
use Rattle.lists.specs.Kinds.{CellKind}
use Rattle.lists.proofs.Changes.{entered_off, last_decides, entered_order, entered_last, distinct_last, entered_interleaved}
use Rattle.lists.proofs.Runs.{run_then, run_on, run_ends}

-- EMPTY is a root, tidy and of height 0.
pub empty_root : (n d : ℕ) (t : Tables) → Root n (cap t) d (W t) 0
empty_root n d t = record { there = inl refl; tidy = λ b u k. absurd (bare u refl k); low = omega (arith, height_empty (W t) 0 refl) }
  where
    bare : {a b : ℕ} → Below n (W t) a b → a ≡ 0 → Branch b → ⊥
    bare self e k = k.0 e
    bare (under i h l u) e k = h.0 e

-- One run after the other: the starting root is kept through the first, and the first end through the second.
pub in_turn : {n tallest d : ℕ} {C : Type 0} {Enters : Entering C} {Step : Stepping} {t : Tables} {root : ℕ} {es : List (Change C)} {t₁ : Tables} {r₁ : ℕ} {fs : List (Change C)}
    {r₂ : ℕ} {u : Tables} → WellFormed n tallest t → Root n (cap t) d (W t) root → Run Enters Step t root es t₁ r₁ → Stays Enters Step t t₁ root
    → Run Enters Step t₁ root fs u r₂ → Stays Enters Step t₁ u r₁ → Runs n tallest d Enters Step t root es r₁ fs r₂ u
in_turn w start one kept two still = record { well = w; start = start; first = run_on one still; second = run_then kept two }

module _ {n tallest d : ℕ} {C : Type 0} {way : C → List ℕ} {same : C → C → Bool} {Enters : Entering C} {Step : Stepping} (kind : CellKind n tallest d way same Enters Step) where
  no_two : (s c : C) → same s c ≡ false → s ≢ c
  no_two s c q e = kind.cells.two s c q (ap way e)

  -- ## One run

  module _ {t : Tables} {a : ℕ} {es : List (Change C)} {u : Tables} {r : ℕ} (well : WellFormed n tallest t) (start : Root n (cap t) d (W t) a) (run : Run Enters Step t a es u r)
    where
      -- It ends in a tidy root no taller than d, whose cells have the old numbers after the list.
      pub run_ended : Ends n tallest d way (entered same (numbers_of way t a) es) u r
      run_ended = run_ends kind (record { well = well; root = start; cells = λ c. refl }) run

      -- Where the list changes nothing, a cell has its old number.
      pub ended_old : (s : C) → Not-at s es → numbers_of way u r s ≡ numbers_of way t a s
      ended_old s h = run_ended.cells s ∙ entered_off same kind.cells.one no_two (numbers_of way t a) es s h

      -- Where a cell comes twice, the last value entered for it decides.
      pub ended_last : (before : List (Change C)) (c : Change C) (after : List (Change C)) → es ≡ before ++ c ∷ after → Not-at c.cell after
          → numbers_of way u r c.cell ≡ c.value
      ended_last before c after e h =
          run_ended.cells c.cell
          ∙ ap (λ (l : List (Change C)). entered same (numbers_of way t a) l c.cell) e
          ∙ last_decides same kind.cells.one no_two (numbers_of way t a) before c after h

  -- ## Two runs in one stretch of calls

  -- from two roots, whose lists leave the same numbers: they end in the same id
  pub one_end : {t : Tables} {a : ℕ} {es : List (Change C)} {r₁ : ℕ} {b : ℕ} {fs : List (Change C)} {r₂ : ℕ} {u : Tables} → WellFormed n tallest t → Root n (cap t) d (W t) a
      → Root n (cap t) d (W t) b → Run Enters Step t a es u r₁ → Run Enters Step t b fs u r₂
      → ((c : C) → entered same (numbers_of way t a) es c ≡ entered same (numbers_of way t b) fs c) → r₁ ≡ r₂
  one_end {r₁ = r₁} {r₂ = r₂} {u = u} w ra rb first second alike =
      let one = run_ended w ra first in
      let two = run_ended w rb second in
      canon n (cap u) (W u) (wf_made kind.words one.well) kind.some d r₁ r₂ one.root two.root
      (λ q k.
      let (c, e) = kind.cells.all q k in
      subst (λ (p : List ℕ). look (W u) p r₁ ≡ look (W u) p r₂) e (one.cells c ∙ alike c ∙ sym (two.cells c)))

  module _ {t : Tables} {root : ℕ} {es : List (Change C)} {r₁ : ℕ} {fs : List (Change C)} {r₂ : ℕ} {u : Tables} (runs : Runs n tallest d Enters Step t root es r₁ fs r₂ u) where
    -- Two lists that do the same to every cell of the starting root end in the same id.
    pub same_cells : ((s : C) → entered same (numbers_of way t root) es s ≡ entered same (numbers_of way t root) fs s) → OneEnd n tallest d way same t root es r₁ r₂ u
    same_cells alike = record {
      one = one_end runs.well runs.start runs.start runs.first runs.second alike;
      end = run_ended runs.well runs.start runs.first;
    }

    -- Any two orders of one list, all cells distinct, end in the same id.
    pub any_order : Distinct es → Permᴰ es fs → OneEnd n tallest d way same t root es r₁ r₂ u
    any_order distinct order = same_cells (entered_order same kind.cells.one no_two order distinct (numbers_of way t root))

    -- Where cells come twice: the last values alone, entered in any order, end in the same id as the whole list ..
    pub last_values : Permᴰ (last_only same es) fs → OneEnd n tallest d way same t root es r₁ r₂ u
    last_values order = same_cells
        (λ s.
        sym (entered_last same kind.cells.one no_two es (numbers_of way t root) s)
        ∙ entered_order same kind.cells.one no_two order (distinct_last same kind.cells.one no_two es) (numbers_of way t root) s)

    -- .. and so do two lists, cells twice in either, whose last values are the same up to their order.
    pub same_last_values : Permᴰ (last_only same es) (last_only same fs) → OneEnd n tallest d way same t root es r₁ r₂ u
    same_last_values order = same_cells
        (λ s.
        sym (entered_last same kind.cells.one no_two es (numbers_of way t root) s)
        ∙ entered_order same kind.cells.one no_two order (distinct_last same kind.cells.one no_two es) (numbers_of way t root) s
        ∙ entered_last same kind.cells.one no_two fs (numbers_of way t root) s)

    -- Two crews' lists with no cell in common, each in its own order, cells twice in either: entered as they come, in whatever way they are interleaved, they end in the same id.
    pub as_they_come : {one two : List (Change C)} → Disjoint one two → Interleaved one two es → Interleaved one two fs → OneEnd n tallest d way same t root es r₁ r₂ u
    as_they_come apart m k = same_cells (entered_interleaved same kind.cells.one no_two apart m k (numbers_of way t root))

  -- Entering a list and entering only its last values end in the same id.
  pub only_last : {t : Tables} {root : ℕ} (es : List (Change C)) {r₁ r₂ : ℕ} {u : Tables} → Runs n tallest d Enters Step t root es r₁ (last_only same es) r₂ u
      → OneEnd n tallest d way same t root es r₁ r₂ u
  only_last es runs = last_values runs (Permᴰ.refl (last_only same es))
