-- A list entered whole: it grants one hold on its answer and takes none, so that a refused one leaves live nodes and counts as before; and an accepted one is a crew, so that
-- its order does not matter.
use mathlib.Core.Path.{◌≡◌, refl, sym, ◌∙◌, subst}
use mathlib.Core.Logic.{◌≢◌}
use mathlib.Core.List.{List, [], ◌∷◌}
use Prim.Native.Nat.{ℕ, ◌^◌, ◌≤◌}
use native.Mathlib.Decide.{ℕ_discrete}
use native.Mathlib.Omega.{arith}
use lib.ListN.{length}
use borrow.Author.Tests.{eq-eqb, ne_eqb}
use Rattle.basics.specs.Limits.{deepest, deepest_cube, cube_kids, kid_words, largest_value}
use Rattle.nodes.proofs.Sums.{cases}
use Rattle.tree.specs.Tree.{Root}
use Rattle.tree.specs.Cells.{At}
use Rattle.arena.specs.Tables.{Tables, cap, W, WellFormed}
use Rattle.arena.specs.Calls.{Out, said, refused, release_of, hold_no, hold_of, counts_of}
use Rattle.ledger.specs.Ledger.{on, if_accepted}
use Rattle.ledger.proofs.Effects.{accepted as counted, unaccepted}
use Rattle.calls.specs.Cells.{spot, Alike}
use Rattle.calls.specs.Does.{Does, Held, Kept, There}
use Rattle.calls.specs.Living.{SameLife}
use Rattle.calls.proofs.Compose.{does_none, does_as, does_net}
use Rattle.calls.proofs.Follows.{held_there}
use Rattle.read_cell.specs.Calls.{expand_of}
use Rattle.edit.specs.Edit.{edit_of}
use Rattle.edit.proofs.Edits.{edit_number}
use Rattle.bars.specs.Bars.{Passing, Undone}
use Rattle.bars.proofs.Does.{held_does, Ready, edit_grants, edit_held, edit_passes, passes_held}
use Rattle.bars.proofs.Granting.{granting_kept, granting_reads, granting_cubes, granting_passing, granting_undone, granting_same, granting_counts}
use Rattle.readings.specs.Enter.{pause_of}
use Rattle.readings.proofs.Law.{paused, unpaused}
use Rattle.readings.proofs.Does.{pause_grants}
use Rattle.lists.specs.Runs.{done, besides, Onward, ends, edits, releases, begins}
use Rattle.lists.proofs.Runs.{run_then, run_on}
use Rattle.lists.proofs.Theorems.{run_ended}
use Rattle.lists.proofs.Crews.{crew_run}
use Rattle.promises.specs.Promises.{call, hold}
use Rattle.promises.specs.Runs.{Change, Enters, accepted, Run, Stays, Runs, Crew}
use Rattle.promises.specs.Lists.{Wanted, Small, wanted_of, rest_of, list_of}
use Rattle.promises.proofs.Between.{call_keeps_all, all_there}
use Rattle.promises.proofs.CubeKind.{cube_kind}
use Rattle.promises.proofs.Lists.{in_turn}

fit : cube_kids ≤ kid_words
fit = omega arith

-- ## What it does, as any call

abbrev Grants : Tables → Out → (ℕ → ℕ) → Type 0
Grants t o taken = (times : ℕ → ℕ) × Does cube_kids deepest t o.after (λ a. if_accepted o (on a o.id)) taken times

-- the rest of a list takes the hold on the passing root, and grants one on its answer
abbrev Passes : ℕ → List Wanted → Type 0
Passes d es = (t : Tables) (r : ℕ) → Ready t r → Grants t (rest_of d t r es) (λ a. on a r)

rest_none : (d : ℕ) → Passes d []
unfolding rest_of
rest_none d t r (w, h) =
    let n = does_none cube_kids deepest fit t w in (
      (λ s. 0),
      does_as cube_kids deepest fit (λ a. if_accepted (said 0 r t) (on a r)) (λ a. on a r) (λ s. 0)
          (record { well = w; size = refl; balance = λ a. refl; turns = n.turns; keeps = n.keeps; spares = λ a l. refl })
          (λ a. sym (counted (said 0 r t) (on a r) refl)) (λ a. refl) (λ s l. refl),
    )

rest_more : (d : ℕ) (e : Wanted) (es : List Wanted) → e.value ≤ largest_value → Passes d es → Passes d (e ∷ es)
unfolding rest_of
rest_more d e es high rest t r (w, h) =
    let o = edit_of t r d e.position e.value in
    cases (ℕ_discrete o.no 0)
    (λ z.
    let x = edit_passes w r d e.position e.value high z h in
    let (times, y) = rest (release_of deepest o.after r).after o.id (x.well, passes_held w r d e.position e.value high z h) in
    let i = rest_of d (release_of deepest o.after r).after o.id es in
    rw (eq-eqb o.no 0 z)
    (_, does_net cube_kids deepest fit (λ a. if_accepted i (on a i.id)) (λ a. on a r) (λ a. on a o.id) w x y (λ a. (omega arith, omega arith, omega arith, omega arith))))
    (λ z.
    let i = refused o.no (release_of deepest t r).after in
    rw (ne_eqb o.no 0 z)
    (_, does_as cube_kids deepest fit (λ a. if_accepted i (on a i.id)) (λ a. on a r) _ (held_does w r h) (λ a. sym (unaccepted i (on a i.id) z)) (λ a. refl) (λ s l. refl)))

rest_does : (d : ℕ) (es : List Wanted) → Small es → Passes d es
rest_does d [] small = rest_none d
rest_does d (e ∷ es) small = rest_more d e es small.0 (rest_does d es small.1)

module _ (d : ℕ) {t : Tables} (w : WellFormed cube_kids deepest t) (root : ℕ) where
  -- It grants one hold on its answer if it is accepted, and takes none.
  pub list_does : (es : List Wanted) → Small es → Grants t (list_of d t root es) (λ a. 0)
  unfolding list_of
  list_does [] small = (_, pause_grants w root)
  list_does (e ∷ es) small = cases (ℕ_discrete (edit_of t root d e.position e.value).no 0)
      (λ z.
      let o = edit_of t root d e.position e.value in
      let x = edit_grants w root d e.position e.value small.0 z in
      let (times, y) = rest_does d es small.1 o.after o.id (x.well, edit_held w root d e.position e.value small.0 z) in
      let i = rest_of d o.after o.id es in
      rw (eq-eqb o.no 0 z)
      (_, does_net cube_kids deepest fit (λ a. if_accepted i (on a i.id)) (λ a. 0) (λ a. on a o.id) w x y (λ a. (omega arith, omega arith, omega arith, omega arith))))
      (λ z.
      let i = refused (edit_of t root d e.position e.value).no t in
      rw (ne_eqb (edit_of t root d e.position e.value).no 0 z)
      (_, does_as cube_kids deepest fit (λ a. if_accepted i (on a i.id)) (λ a. 0) _ (does_none cube_kids deepest fit t w) (λ a. sym (unaccepted i (on a i.id) z)) (λ a. refl) (λ s l. refl)))

  module _ (es : List Wanted) (small : Small es) where
    abbrev all : Out
    all = list_of d t root es

    -- Accepted or refused, every root is kept: one that was EMPTY or live reads as before at every cell and depth, and expands to the same cube.
    pub list_kept : (b : ℕ) → Kept cube_kids deepest t all.after b
    list_kept = granting_kept w all (list_does es small).1

    pub list_reads : (b : ℕ) → There t b → (e : ℕ) → e ≤ deepest → (s : At e) → Alike all.after b t b s
    list_reads = granting_reads w all (list_does es small).1

    pub list_cubes : (b : ℕ) → There t b → (e : ℕ) → e ≤ deepest_cube → (l m : List ℕ) → length l ≡ 8 ^ e → length m ≡ 8 ^ e
        → (expand_of all.after b e l).cube ≡ (expand_of t b e m).cube
    list_cubes = granting_cubes w all (list_does es small).1

    -- Accepted: one new hold on the answer and every other as before; its release leaves live nodes and counts as they were.
    pub list_accepted : all.no ≡ 0 → Passing t all.after all.id
    list_accepted = granting_passing w all (list_does es small).1

    pub list_undone : all.no ≡ 0 → Undone t all.after all.id
    list_undone = granting_undone w all (list_does es small).1

    -- Refused, wherever in the list: live nodes and counts are as before, so that the call for counts answers every id as before. The passing roots are gone.
    pub list_refused : all.no ≢ 0 → SameLife t all.after
    list_refused = granting_same w all (list_does es small).1

    pub list_counts : all.no ≢ 0 → (a : ℕ) → counts_of all.after a ≡ counts_of t a
    list_counts = granting_counts w all (list_does es small).1

-- ## An accepted list is a run

module _ (d : ℕ) where
  -- from the passing root on: no other is left to be released
  rest_onward : (cs : List (Change d)) (t : Tables) (r : ℕ) → Small (wanted_of cs) → (rest_of d t r (wanted_of cs)).no ≡ 0
      → Onward deepest (Enters d) [] t r cs (rest_of d t r (wanted_of cs)).after (rest_of d t r (wanted_of cs)).id
  unfolding wanted_of rest_of
  rest_onward [] t r small = λ ok. ends
  rest_onward (c ∷ cs) t r small =
      let o = edit_of t r d (spot c.cell) c.value in
      cases (ℕ_discrete o.no 0)
      (λ z. rw (eq-eqb o.no 0 z)
      (λ ok. edits c (accepted small.0 (sym (edit_number t r d (spot c.cell) c.value) ∙ z)) (releases [] r [] (rest_onward cs _ o.id small.1 ok))))
      (λ z. rw (ne_eqb o.no 0 z) (λ ok. absurd (z ok)))

  -- a list of at least one change is a crew that enters it, and releases each passing root after the next is made
  pub list_crew : (c : Change d) (cs : List (Change d)) (t : Tables) (root : ℕ) → Small (wanted_of (c ∷ cs)) → (list_of d t root (wanted_of (c ∷ cs))).no ≡ 0
      → Crew d t root (c ∷ cs) (list_of d t root (wanted_of (c ∷ cs))).after (list_of d t root (wanted_of (c ∷ cs))).id
  unfolding wanted_of list_of
  list_crew c cs t root small =
      let o = edit_of t root d (spot c.cell) c.value in
      cases (ℕ_discrete o.no 0)
      (λ z. rw (eq-eqb o.no 0 z)
      (λ ok. begins c (accepted small.0 (sym (edit_number t root d (spot c.cell) c.value) ∙ z)) (rest_onward cs o.after o.id small.1 ok)))
      (λ z. rw (ne_eqb o.no 0 z) (λ ok. absurd (z ok)))

-- What an accepted list is, seen from its root and from others: a run that enters it, and calls over which every root is kept that was EMPTY or held.
pub record Whole (d : ℕ) (t : Tables) (root : ℕ) (cs : List (Change d)) (u : Tables) (r : ℕ) : Type 0 where
  pub run : Run d t root cs u r
  pub stays : (b : ℕ) → Held t b → Stays d t u b

module _ {d : ℕ} {t : Tables} (w : WellFormed cube_kids deepest t) (root : ℕ) (held : Held t root) where
  -- a list of nothing is one hold more
  pause_whole : (pause_of t root).no ≡ 0 → Whole d t root [] (pause_of t root).after (pause_of t root).id
  pause_whole = cases (ℕ_discrete (hold_no t root) 0)
      (λ z.
      let there : (b : ℕ) → Held t b → There (hold_of t root).after b = (λ b h. all_there w (call_keeps_all (hold root) w tt tt) (held_there t b h)) in
      subst (λ (i : Out). i.no ≡ 0 → Whole d t root [] i.after i.id) (sym (paused t root z))
      (λ ok. record { run = besides (call (hold root) tt) (there root held) done; stays = λ b h. besides (call (hold root) tt) (there b h) done }))
      (λ z. subst (λ (i : Out). i.no ≡ 0 → Whole d t root [] i.after i.id) (sym (unpaused t root z)) (λ ok. absurd (z ok)))

  pub list_run : (cs : List (Change d)) → Small (wanted_of cs) → (list_of d t root (wanted_of cs)).no ≡ 0
      → Whole d t root cs (list_of d t root (wanted_of cs)).after (list_of d t root (wanted_of cs)).id
  unfolding wanted_of list_of
  list_run [] small ok = pause_whole ok
  list_run (c ∷ cs) small ok = let g = crew_run (cube_kind d) w (list_crew d c cs t root small ok) in record { run = g.run; stays = g.stays }

-- Two lists entered whole, one after the other, from EMPTY or one held tidy root no taller than d, both accepted. Between them come any calls and readings, after each of which the
-- starting root and the first answer are EMPTY or live, and after the last EMPTY or held. The terms are met: any two orders end in the same id, and where a cell comes twice the
-- last value decides.
pub two_lists : {d : ℕ} {t : Tables} → WellFormed cube_kids deepest t → (root : ℕ) → Held t root → Root cube_kids (cap t) d (W t) root
    → (cs : List (Change d)) → Small (wanted_of cs) → (list_of d t root (wanted_of cs)).no ≡ 0
    → {u : Tables} → Stays d (list_of d t root (wanted_of cs)).after u root → Stays d (list_of d t root (wanted_of cs)).after u (list_of d t root (wanted_of cs)).id
    → Held u root → Held u (list_of d t root (wanted_of cs)).id → (es : List (Change d)) → Small (wanted_of es) → (list_of d u root (wanted_of es)).no ≡ 0
    → Runs d t root cs (list_of d t root (wanted_of cs)).id es (list_of d u root (wanted_of es)).id (list_of d u root (wanted_of es)).after
two_lists {d} {t} w root held start cs small ok kept still held' end es small' ok' =
    let one = list_run w root held cs small ok in
    let well = ends_well start one kept in
    let two = list_run well root held' es small' ok' in
    in_turn w start (run_on one.run still) (run_then (one.stays root held) kept) two.run (two.stays (list_of d t root (wanted_of cs)).id end)
  where
    ends_well : Root cube_kids (cap t) d (W t) root → Whole d t root cs (list_of d t root (wanted_of cs)).after (list_of d t root (wanted_of cs)).id
        → {u : Tables} → Stays d (list_of d t root (wanted_of cs)).after u root → WellFormed cube_kids deepest u
    ends_well s o k = (run_ended (cube_kind d) w s (run_then (o.stays root held) k)).well
