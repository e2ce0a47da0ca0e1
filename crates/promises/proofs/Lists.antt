-- Two crews' lists: any two orders of one list end in the same id, and where a cell comes twice the last value decides.
use mathlib.Core.Path.{◌≡◌, refl, sym, ap, ◌∙◌}
use mathlib.Core.List.{List, [], ◌∷◌, ◌++◌, Permᴰ}
use Prim.Native.Nat.{ℕ, ◌^◌, ◌≤◌}
use lib.ListN.{length, get_or, set, length-set}
use Rattle.basics.specs.Limits.{deepest, cube_kids}
use Rattle.nodes.proofs.Sums.{split}
use Rattle.tree.specs.Tree.{Root}
use Rattle.tree.specs.Cells.{At, way}
use Rattle.arena.specs.Tables.{Tables, cap, W, WellFormed}
use Rattle.calls.specs.Cells.{stands_at, Answers, Alike}
use Rattle.calls.specs.Does.{Held}
use Rattle.calls.proofs.Expanding.{look_at_lem, answers_as, answers_alike, way_one, one_set, expand_at, expand_list}
use Rattle.read_cell.specs.Calls.{expand_of}
use Rattle.lists.specs.Changes.{Not-at, Distinct, Disjoint, Interleaved}
use Rattle.lists.specs.Changes as lists
use Rattle.lists.specs.Runs as runs
use Rattle.lists.specs.Runs.{numbers_of}
use Rattle.lists.proofs.Changes.{entered_at}
use Rattle.lists.proofs.Theorems as theorems
use Rattle.lists.proofs.Crews as crews
use Rattle.compare.specs.Promises.{shows}
use Rattle.promises.specs.Promises.{Cube, same_at, changed}
use Rattle.promises.specs.Runs.{Change, entered, last_only, set_all, Run, Stays, Runs, Crew, OneEnd}
use Rattle.promises.proofs.Spots.{same_one, same_no, no_two}
use Rattle.promises.proofs.CubeKind.{cube_kind}

-- EMPTY is a root, tidy and of height 0.
pub empty_root : (d : ℕ) (t : Tables) → Root cube_kids (cap t) d (W t) 0
empty_root = theorems.empty_root cube_kids

-- ## As expansion writes it

set_changed : {d : ℕ} (F : Cube d) (c : At d) (v : ℕ) (m : List ℕ) → length m ≡ 8 ^ d → ((s : At d) → get_or m (stands_at s) 0 ≡ F s) → (s : At d)
    → get_or (set m (stands_at c) v) (stands_at s) 0 ≡ changed F c v s
unfolding lists.changed
set_changed F c v m k f s = split (same_at s c)
    (λ q. rw q (one_set c v m k s v (λ e. refl) (λ n. absurd (n (ap stands_at (same_one s c q))))))
    (λ q. rw q (one_set c v m k s (F s) (λ e. absurd (same_no s c q (way_one s c e))) (λ n. sym (f s))))

set_all_lem : {d : ℕ} (F : Cube d) (es : List (Change d)) (m : List ℕ) → length m ≡ 8 ^ d → ((s : At d) → get_or m (stands_at s) 0 ≡ F s)
    → (length (set_all m es) ≡ 8 ^ d) × ((s : At d) → get_or (set_all m es) (stands_at s) 0 ≡ entered F es s)
unfolding set_all lists.entered
set_all_lem F [] m k f = (k, f)
set_all_lem F (e ∷ es) m k f =
    set_all_lem (changed F e.cell e.value) es (set m (stands_at e.cell) e.value) (length-set m (stands_at e.cell) e.value ∙ k)
    (set_changed F e.cell e.value m k f)

-- ## One end

module _ {d : ℕ} (deep : d ≤ deepest) where
  -- the numbers of the cells are what lookup answers
  entered_shows : {t : Tables} {a : ℕ} → WellFormed cube_kids deepest t → Root cube_kids (cap t) d (W t) a → (es : List (Change d)) (s : At d)
      → entered (numbers_of way t a) es s ≡ entered (shows t a) es s
  entered_shows {t} {a} w r es s = entered_at same_at same_one no_two (numbers_of way t a) (shows t a) es s (sym (look_at_lem w deep a r.there s).value)

  module _ {t : Tables} {root : ℕ} {es : List (Change d)} {r₁ r₂ : ℕ} {u : Tables} (w : WellFormed cube_kids deepest t) (start : Root cube_kids (cap t) d (W t) root) where
    cube_end : runs.OneEnd cube_kids deepest d way same_at t root es r₁ r₂ u → OneEnd d t root es r₁ r₂ u
    cube_end e =
        let there = e.end.root.there in
        record {
          one = e.one;
          well = e.end.well;
          tidy = e.end.root;
          reads = λ s. answers_as (look_at_lem e.end.well deep r₁ there s) (e.end.cells s ∙ entered_shows w start es s);
          expands = λ g l m k j.
              let x = expand_at w g root start.there m j in
              let y = set_all_lem (numbers_of way t root) es (expand_of t root d m).cube x.size x.cells in (
                (expand_at e.end.well g r₁ there l k).accepted,
                expand_list e.end.well g r₁ there l k (set_all (expand_of t root d m).cube es) y.0 (λ s. y.1 s ∙ sym (e.end.cells s)),
              );
        }

  -- ## One run

  module _ {t : Tables} {a : ℕ} {es : List (Change d)} {u : Tables} {r : ℕ} (w : WellFormed cube_kids deepest t) (start : Root cube_kids (cap t) d (W t) a) (run : Run d t a es u r)
    where
      -- It ends in a tidy root no taller than d ..
      pub ends_tidy : WellFormed cube_kids deepest u × Root cube_kids (cap u) d (W u) r
      ends_tidy = let e = theorems.run_ended (cube_kind d) w start run in (e.well, e.root)

      -- .. which reads as the old root after the list.
      pub reads_entered : (s : At d) → Answers u r s (entered (shows t a) es s)
      reads_entered s =
          let e = theorems.run_ended (cube_kind d) w start run in
          answers_as (look_at_lem e.well deep r e.root.there s) (e.cells s ∙ entered_shows w start es s)

      -- Where the list changes nothing, lookup answers as before.
      pub reads_old : (s : At d) → Not-at s es → Alike u r t a s
      reads_old s h =
          let e = theorems.run_ended (cube_kind d) w start run in
          answers_alike (look_at_lem e.well deep r e.root.there s) (look_at_lem w deep a start.there s) (theorems.ended_old (cube_kind d) w start run s h)

      -- Where a cell comes twice, the last value entered for it decides.
      pub reads_last : (before : List (Change d)) (c : Change d) (after : List (Change d)) → es ≡ before ++ c ∷ after → Not-at c.cell after
          → Answers u r c.cell c.value
      reads_last before c after e h =
          let x = theorems.run_ended (cube_kind d) w start run in
          answers_as (look_at_lem x.well deep r x.root.there c.cell) (theorems.ended_last (cube_kind d) w start run before c after e h)

  -- ## Two runs from one root

  module _ {t : Tables} {root : ℕ} {es : List (Change d)} {r₁ : ℕ} {fs : List (Change d)} {r₂ : ℕ} {u : Tables} (terms : Runs d t root es r₁ fs r₂ u) where
    -- Any two orders of one list, all cells distinct, end in the same id.
    pub any_order : Distinct es → Permᴰ es fs → OneEnd d t root es r₁ r₂ u
    any_order distinct order = cube_end terms.well terms.start (theorems.any_order (cube_kind d) terms distinct order)

    -- Where cells come twice: the last values alone, entered in any order, end in the same id as the whole list ..
    pub last_values : Permᴰ (last_only es) fs → OneEnd d t root es r₁ r₂ u
    last_values order = cube_end terms.well terms.start (theorems.last_values (cube_kind d) terms order)

    -- .. and so do two lists, cells twice in either, whose last values are the same up to their order.
    pub same_last_values : Permᴰ (last_only es) (last_only fs) → OneEnd d t root es r₁ r₂ u
    same_last_values order = cube_end terms.well terms.start (theorems.same_last_values (cube_kind d) terms order)

    -- Two crews' lists with no cell in common, each in its own order, cells twice in either: entered as they come, in whatever way they are interleaved, they end in the same id.
    pub as_they_come : {one two : List (Change d)} → Disjoint one two → Interleaved one two es → Interleaved one two fs → OneEnd d t root es r₁ r₂ u
    as_they_come apart m k = cube_end terms.well terms.start (theorems.as_they_come (cube_kind d) terms apart m k)

    -- Two lists that do the same to every cell, whatever they are, end in the same id.
    pub same_cells : ((s : At d) → entered (shows t root) es s ≡ entered (shows t root) fs s) → OneEnd d t root es r₁ r₂ u
    same_cells alike = cube_end terms.well terms.start (theorems.same_cells (cube_kind d) terms
        (λ s. entered_shows terms.well terms.start es s ∙ alike s ∙ sym (entered_shows terms.well terms.start fs s)))

  -- Entering a list and entering only its last values end in the same id.
  pub only_last : {t : Tables} {root : ℕ} (es : List (Change d)) {r₁ r₂ : ℕ} {u : Tables} → Runs d t root es r₁ (last_only es) r₂ u → OneEnd d t root es r₁ r₂ u
  only_last es terms = cube_end terms.well terms.start (theorems.only_last (cube_kind d) es terms)

-- ## One run after the other

-- From EMPTY or one live tidy root no taller than d, which is kept through the first run; the first end is kept through the second: the terms are met.
pub in_turn : {d : ℕ} {t : Tables} {root : ℕ} {es : List (Change d)} {t₁ : Tables} {r₁ : ℕ} {fs : List (Change d)} {r₂ : ℕ} {u : Tables} → WellFormed cube_kids deepest t
    → Root cube_kids (cap t) d (W t) root → Run d t root es t₁ r₁ → Stays d t t₁ root → Run d t₁ root fs u r₂ → Stays d t₁ u r₁ → Runs d t root es r₁ fs r₂ u
in_turn = theorems.in_turn

-- So they are by two crews, from EMPTY or one held tidy root no taller than d, with no calls but their edits and the releases that give back the holds on their own passing roots.
pub two_crews : {d : ℕ} {t : Tables} {root : ℕ} {es : List (Change d)} {t₁ : Tables} {r₁ : ℕ} {fs : List (Change d)} {r₂ : ℕ} {u : Tables} → WellFormed cube_kids deepest t
    → Held t root → Root cube_kids (cap t) d (W t) root → Crew d t root es t₁ r₁ → Crew d t₁ root fs u r₂ → Runs d t root es r₁ fs r₂ u
two_crews {d} = crews.two_crews (cube_kind d)
