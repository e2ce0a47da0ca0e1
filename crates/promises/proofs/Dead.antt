-- An id that is neither EMPTY nor live is refused by every call that is handed it.
use mathlib.Core.Path.{◌≡◌, refl, sym, ap, ◌∙◌, subst}
use mathlib.Core.Logic.{◌≢◌, inl, inr}
use mathlib.Core.Bool.{Bool, true, false}
use mathlib.Core.List.{List}
use Prim.Native.Nat.{ℕ, ◌-◌, ◌^◌, ◌≤◌, ◌<◌}
use native.Mathlib.Omega.{arith}
use lib.Dec.{leb, eqb}
use lib.ListN.{length}
use borrow.Author.Tests.{eq-eqb, ne_eqb, le-leb, lt-ltb}
use Rattle.basics.specs.Limits.{deepest, deepest_cube, cube_kids}
use Rattle.basics.specs.Pick.{pick}
use Rattle.nodes.proofs.Sums.{split}
use Rattle.paths.specs.declared.IVec3.{IVec3}
use Rattle.paths.specs.Paths.{place, inside}
use Rattle.tree.specs.Tree.{LiveOr0}
use Rattle.arena.specs.Calls.{Out, fits, live_or_empty, hold_no}
use Rattle.arena.specs.Tables.{Tables, cap, W, Sized}
use Rattle.arena.proofs.Fits.{sized_fits}
use Rattle.ledger.specs.Fates.{Lives}
use Rattle.ledger.proofs.Ladders.{hold_no_lem}
use Rattle.ledger.proofs.Refusals as refusals
use Rattle.read_cell.specs.Calls.{look_no, look_of, expand_no, expand_of}
use Rattle.read_cell.proofs.Laws.{there_live}
use Rattle.edit.specs.Edit.{edit_no}
use Rattle.edit.proofs.Edits.{edit_number}
use Rattle.compare.specs.Compare.{roots_no, compare_no, compare_of}
use Rattle.compare.proofs.Theorems.{number_is}
use Rattle.basics.specs.Bytes.{Bytes}
use Rattle.metres.specs.Record.{aim_of}
use Rattle.std.specs.declared.option.Option.{Option}
use Rattle.std.specs.declared.option.Option.TheVariants.{Some, None}
use Rattle.std.specs.declared.result.Result.{Result}
use Rattle.std.specs.declared.result.Result.TheVariants.{Ok, Err}
use Rattle.basics.specs.declared.Refusal.{Refusal}
use Rattle.metres.specs.declared.Cells.{Cells}
use Rattle.basics.proofs.Refusals.{number_some}
use Rattle.bars.specs.Bars.{bar_of}
use Rattle.bars.proofs.Ways.{bar_number}
use Rattle.readings.specs.Enter.{pause_of, asked_of, enter_of}
use Rattle.readings.proofs.Aims.{SoundCells, Sound, aim_sound}
use Rattle.readings.proofs.Law.{unpaused, enter_sized}
use Rattle.promises.specs.Promises.{Inside, ByFour, Asks, Comparable, Refused}

-- a ladder of refusals from 1 to 4
abbrev Four : ℕ → Type 0
Four k = (1 ≤ k) × (k ≤ 4)

rung : (b : Bool) (x y : ℕ) → Four x → Four y → Four (pick b x y)
rung true x y a c = a
rung false x y a c = c

either : (b : Bool) (x : ℕ) → pick b x x ≡ x
either true x = refl
either false x = refl

-- ## A comparison of roots of which one is neither EMPTY nor live

module _ (t : Tables) (a b : ℕ) (gone : (d k : ℕ) → roots_no t a b d k ≡ 4) where
  compare_four : (d c l r : ℕ) → Four (compare_no t a b d c l r)
  unfolding compare_no
  compare_four d c l r = rw (gone d _)
      (rung (fits t) _ 1 (rung (eqb l c) _ 1 (rung (eqb r c) _ 1 (rung (leb d deepest) 4 2 (omega arith, omega arith) (omega arith, omega arith)) one) one) one)
    where
      one : Four 1
      one = (omega arith, omega arith)

  compare_gone : (d c l r : ℕ) → Sized t → d ≤ deepest → l ≡ c → r ≡ c → compare_no t a b d c l r ≡ 4
  unfolding compare_no
  compare_gone d c l r sized deep el er = rw (sized_fits sized, eq-eqb l c el, eq-eqb r c er, le-leb d deepest deep) (gone d _)

  dead_comparison : Sized t → (d : ℕ) (c l r : List ℕ) → ByFour (compare_of t a b d c l r).no (Comparable d c l r)
  dead_comparison sized d c l r =
      let f = compare_four d (length c) (length l) (length r) in
      rw (number_is t a b d c l r) (f.0, f.1, (λ i. compare_gone d (length c) (length l) (length r) sized i.0 i.1 i.2))

-- ## Every call

module _ (t : Tables) (y : ℕ) (some : y ≢ 0) (dead : Lives t y → ⊥) where
  absent : LiveOr0 (cap t) (W t) y → ⊥
  absent (inl z) = some z
  absent (inr l) = dead l

  not_there : live_or_empty (cap t) (W t) y ≡ false
  not_there = split (live_or_empty (cap t) (W t) y) (λ e. absurd (absent (there_live t y e))) (λ e. e)

  look_four : (d : ℕ) (p : IVec3) → Four (look_no t y d p)
  unfolding look_no
  look_four d p = rw not_there
      (rung (fits t) _ 1
      (rung (leb d deepest) _ 2
      (rung (inside d p.x) _ 3 (rung (inside d p.y) _ 3 (rung (inside d p.z) 4 3 (omega arith, omega arith) three) three) three) (omega arith, omega arith))
      (omega arith, omega arith))
    where
      three : Four 3
      three = (omega arith, omega arith)

  expand_four : (d n : ℕ) → Four (expand_no t y d n)
  unfolding expand_no
  expand_four d n =
      rw not_there (rung (fits t) _ 1 (rung (leb d deepest_cube) 4 2 (omega arith, omega arith) (omega arith, omega arith)) (omega arith, omega arith))

  edit_looks : (d : ℕ) (p : IVec3) (v : ℕ) → edit_no t y d p v ≡ look_no t y d p
  unfolding edit_no
  edit_looks d p v = rw (ne_eqb (look_no t y d p) 0 (λ e. let f = (look_four d p).0 in omega arith))

  left_gone : (b d k : ℕ) → roots_no t y b d k ≡ 4
  unfolding roots_no
  left_gone b d k = rw not_there

  right_gone : (a d k : ℕ) → roots_no t a y d k ≡ 4
  unfolding roots_no
  right_gone a d k = rw not_there (either (live_or_empty (cap t) (W t) a) 4)

  module _ (sized : Sized t) where
    -- Lookup, expansion and edit refuse it: with 4 where no lower number applies.
    pub dead_look_lem : (d : ℕ) (p : IVec3) → ByFour (look_no t y d p) (Inside d p)
    unfolding look_no
    dead_look_lem d p =
        let f = look_four d p in
        (f.0, f.1, (λ i. rw (sized_fits sized, le-leb d deepest i.0, i.1, i.2, i.3, not_there)))

    pub dead_expand_lem : (d n : ℕ) → ByFour (expand_no t y d n) (d ≤ deepest_cube)
    unfolding expand_no
    dead_expand_lem d n =
        let f = expand_four d n in
        (f.0, f.1, (λ i. rw (sized_fits sized, le-leb d deepest_cube i, not_there)))

    pub dead_edit_lem : (d : ℕ) (p : IVec3) (v : ℕ) → ByFour (edit_no t y d p v) (Inside d p)
    dead_edit_lem d p v = rw (edit_looks d p v) (dead_look_lem d p)

    looked_no : (d : ℕ) (p : IVec3) → (look_of t y d p).no ≡ look_no t y d p
    unfolding look_of
    looked_no d p = rw (ne_eqb (look_no t y d p) 0 (λ e. let f = (look_four d p).0 in omega arith))

    expanded_no : (d : ℕ) (l : List ℕ) → (expand_of t y d l).no ≡ expand_no t y d (length l)
    unfolding expand_of
    expanded_no d l = rw (ne_eqb (expand_no t y d (length l)) 0 (λ e. let f = (expand_four d (length l)).0 in omega arith))

    -- A reading is refused with 4 where the record itself is not refused.
    dead_pause : (pause_of t y).no ≡ 4
    dead_pause =
        let e : hold_no t y ≡ 4 = sym (hold_no_lem t y) ∙ (refusals.dead_refused cube_kids deepest y sized some dead).0 in
        ap (λ (o : Out). o.no) (unpaused t y (λ z. let i : ◌≡◌ {A = ℕ} 4 0 = sym e ∙ z in omega arith)) ∙ e

    dead_bar : (d a b i j v : ℕ) → SoundCells d a b i j v → (bar_of t y d i j a (b - a) v).no ≡ 4
    unfolding inside
    dead_bar d a b i j v g =
        let up = g.rises in
        let far = g.in_x in
        let in_a : a < 2 ^ d = omega arith in
        let e = (dead_edit_lem d (place a i j) v).2 (g.deep, lt-ltb a (2 ^ d) in_a, lt-ltb i (2 ^ d) g.in_y, lt-ltb j (2 ^ d) g.in_z) in
        (bar_number t y d i j a v (b - a) (λ z. let q : ◌≡◌ {A = ℕ} 4 0 = sym e ∙ z in omega arith)).0 ∙ e

    dead_asked : (d : ℕ) (m : Result (Option Cells) Refusal) → Sound d m → ((asked_of t y d m).no ≢ 0) × (((refusal : Refusal) → m ≡ Err refusal → ⊥) → (asked_of t y d m).no ≡ 4)
    unfolding asked_of
    dead_asked d (Ok None) g = let e = dead_pause in ((λ z. omega arith), λ n. e)
    dead_asked d (Ok (Some c)) g = let e = dead_bar d c.first c.last c.y c.z c.value g in ((λ z. omega arith), λ n. e)
    dead_asked d (Err refusal) g = ((λ z. let h = number_some refusal in omega arith), λ a. absurd (a refusal refl))

    dead_reading : (d k : ℕ) (l : List ℕ) → Bytes l → ((enter_of t y d k l).no ≢ 0) × (Asks l k d → (enter_of t y d k l).no ≡ 4)
    dead_reading d k l bytes = subst (λ (o : Out). (o.no ≢ 0) × (Asks l k d → o.no ≡ 4)) (enter_sized t y d k l (sized_fits sized))
        (dead_asked d (aim_of l k d) (aim_sound l k d bytes))

    -- An id that is neither EMPTY nor live is refused by every call that is handed it.
    pub dead_refused : Refused t y
    dead_refused =
        let r = refusals.dead_refused cube_kids deepest y sized some dead in
        record {
          hold = r.0;
          release = r.1;
          counts = r.2;
          child = r.3;
          lookup = λ d p. rw (looked_no d p) (dead_look_lem d p);
          expansion = λ d l. rw (expanded_no d l) (dead_expand_lem d (length l));
          edit = λ d p v. rw (edit_number t y d p v) (dead_edit_lem d p v);
          reading = λ d k l bytes. dead_reading d k l bytes;
          comparison = λ b d c l r. (dead_comparison t y b (left_gone b) sized d c l r, dead_comparison t b y (right_gone b) sized d c l r);
        }
