-- The numbers of a reading in metres: each is given exactly if it is the first that applies of 1, 2, 13, 14, 3, 4, 8, 10 and 11. On tables that are not sized, or
-- well formed.
use mathlib.Core.Path.{◌≡◌, refl, sym, ap, ◌∙◌, subst}
use mathlib.Core.Logic.{◌≢◌, ◌⊎◌, inl, inr, ⊎_elim}
use mathlib.Core.Bool.{Bool, true, false, not, ◌||◌, true≢false}
use mathlib.Core.List.Memᴰ
use mathlib.Core.List.{List, [], ◌∷◌}
use Prim.Native.Nat.{ℕ, zero, suc, ◌+◌, ◌-◌, ◌^◌, ◌≤◌, ◌<◌}
use native.Mathlib.Decide.{ℕ_discrete}
use native.Mathlib.Omega.{arith}
use lib.Dec.{leb, ltb, eqb}
use borrow.Author.Tests.{leb-true, leb-false, lt-leb, ltb-true, ltb-false, lt-ltb, eqb-true, eqb-false, eq-eqb, ne_eqb, not-true}
use Rattle.basics.specs.Limits.{deepest, cube_kids, finest_edge}
use Rattle.basics.specs.Ladder.{ladder, order, Decides, Listed, Given}
use Rattle.basics.specs.Pick.{pick}
use Rattle.basics.proofs.Ladder.{via, tells, on as Holds-on, off, ladder_given}
use Rattle.nodes.specs.Values.{height_at}
use Rattle.nodes.proofs.Counts.{live_nonzero}
use Rattle.nodes.proofs.Sums.{cases, split}
use Rattle.paths.specs.Paths.{place}
use Rattle.tree.specs.Tree.{LiveOr0}
use Rattle.arena.specs.Tables.{Tables, cap, W, Sized, WellFormed}
use Rattle.arena.specs.Calls.{Out, Fair, fits, live_or_empty, hold_no, hold_of}
use Rattle.arena.proofs.Fits.{sized_fits}
use Rattle.ledger.specs.Fates.{Lives}
use Rattle.ledger.specs.Ledger.{on, holds_on}
use Rattle.ledger.specs.Refusals.{Full, Exactly, Lowest, HoldWhy, unsized_held, dead_held, full_held}
use Rattle.ledger.proofs.Effects.{on_same}
use Rattle.ledger.proofs.Ladders.{hold_no_lem}
use Rattle.ledger.proofs.Refusals.{unsized, dead, hold_refusals}
use Rattle.calls.specs.Does.{Held}
use Rattle.calls.proofs.Follows.{held_there}
use Rattle.read_cell.proofs.Laws.{there_live}
use Rattle.edit.specs.Edit.{edit_of}
use Rattle.basics.specs.Bytes.{Bytes}
use Rattle.metres.specs.Record.{kind_in, value_in, x_in, y_in, z_in, last_in, malformed, unending, outside, cells_at, aim_of}
use Rattle.metres.specs.Bits.{cell_number}
use Rattle.metres.specs.Why.{Malformed, Unending, endless_x, endless_y, endless_z, endless_second, Beyond as RecordBeyond, beyond_x, beyond_y, beyond_z, beyond_second}
use Rattle.std.specs.declared.option.Option.{Option}
use Rattle.std.specs.declared.option.Option.TheVariants.{Some, None}
use Rattle.std.specs.declared.result.Result.{Result}
use Rattle.std.specs.declared.result.Result.TheVariants.{Ok, Err}
use Rattle.basics.specs.declared.Refusal.{Refusal}
use Rattle.metres.specs.declared.Cells.{Cells}
use Rattle.basics.specs.declared.Refusal.TheVariants.{Depth, Position, Record, NotFinite}
use Rattle.basics.specs.Refusals.{number as number_of}
use Rattle.metres.proofs.Theorems.{thirteen, fourteen, three}
use Rattle.bars.specs.Bars.{Late, bar_of}
use Rattle.bars.proofs.Ways.{bar_one, bar_stop}
use Rattle.bars.proofs.Numbers.{bar_late}
use Rattle.bars.proofs.Theorems.{bar_well, bar_accepted}
use Rattle.bars.proofs.Drawing.{bar_drawn}
use Rattle.readings.specs.Enter.{pause_of, asked_of, enter_of}
use Rattle.readings.specs.Stops.{reached_of, Stops}
use Rattle.readings.proofs.Aims.{SoundCells, Sound, aim_sound}
use Rattle.readings.proofs.Law.{paused, unpaused, enter_unsized, enter_sized}
use Rattle.readings.proofs.Stops.{bar_stops}
use Rattle.refusals.specs.Why.{Beyond, at_x, at_y, at_z, EditWhy, unsized_edit, deep_edit, beyond_edit, dead_edit, tall_edit, full_edit, crowded_edit, StopsBy, at_cell, EnterWhy, unsized_enter, deep_enter, fine_enter, malformed_enter, unending_enter, beyond_enter, dead_enter, tall_enter, full_pause, full_cell, crowded_cell}
use Rattle.refusals.specs.Rungs.{eight_of, enter_rungs}
use Rattle.refusals.proofs.Editing.{edit_refusals}

-- ---- what a record asks for, by its tests

abbrev far : ℕ → ℕ → Bool
far k d = ltb deepest d || ltb finest_edge k

module _ (l : List ℕ) (k d : ℕ) where
  aim_2 : far k d ≡ true → aim_of l k d ≡ Err Depth
  unfolding aim_of
  aim_2 e = rw e

  module _ (near : far k d ≡ false) where
    aim_13 : malformed l ≡ true → aim_of l k d ≡ Err Record
    unfolding aim_of
    aim_13 e = rw (near, e)

    module _ (formed : malformed l ≡ false) where
      aim_14 : unending l ≡ true → aim_of l k d ≡ Err NotFinite
      unfolding aim_of
      aim_14 e = rw (near, formed, e)

      module _ (ending : unending l ≡ false) where
        aim_3 : outside l k d ≡ true → aim_of l k d ≡ Err Position
        unfolding aim_of
        aim_3 e = rw (near, formed, ending, e)

        module _ (within : outside l k d ≡ false) where
          aim_pause : kind_in l ≡ 0 → aim_of l k d ≡ Ok None
          unfolding aim_of
          aim_pause e = rw (near, formed, ending, within, eq-eqb (kind_in l) 0 e)

          aim_cells : kind_in l ≢ 0 → aim_of l k d ≡ Ok (Some (cells_at (cell_number (x_in l) k) (cell_number (last_in l) k) (cell_number (y_in l) k) (cell_number (z_in l) k) (value_in l)))
          unfolding aim_of
          aim_cells e = rw (near, formed, ending, within, ne_eqb (kind_in l) 0 e)

abbrev IsCells : Result (Option Cells) Refusal → Type 0
IsCells (Ok None) = ⊥
IsCells (Ok (Some c)) = Unit {0}
IsCells (Err refusal) = ⊥

-- ---- a number by the tests that it passes

module _ (a b c e f g h : Bool) (n : ℕ) where
  record Climbs : Type 0 where
    first : a ≡ false → n ≡ 1
    second : a ≡ true → b ≡ true → n ≡ 2
    third : a ≡ true → b ≡ false → c ≡ true → n ≡ 13
    fourth : a ≡ true → b ≡ false → c ≡ false → e ≡ true → n ≡ 14
    fifth : a ≡ true → b ≡ false → c ≡ false → e ≡ false → f ≡ true → n ≡ 3
    sixth : a ≡ true → b ≡ false → c ≡ false → e ≡ false → f ≡ false → g ≡ false → n ≡ 4
    seventh : a ≡ true → b ≡ false → c ≡ false → e ≡ false → f ≡ false → g ≡ true → h ≡ true → n ≡ 8
    last : a ≡ true → b ≡ false → c ≡ false → e ≡ false → f ≡ false → g ≡ true → h ≡ false → Late n

  climbed : Climbs → n ≡ ladder ((not a, 1) ∷ (b, 2) ∷ (c, 13) ∷ (e, 14) ∷ (f, 3) ∷ (not g, 4) ∷ (h, 8) ∷ (eqb n 10, 10) ∷ (eqb n 11, 11) ∷ [])
  unfolding ladder
  climbed s =
      split a
      (λ a1. split b (λ b1. s.second a1 b1 ∙ sym (rw (a1, b1)))
      (λ b0. split c (λ c1. s.third a1 b0 c1 ∙ sym (rw (a1, b0, c1)))
      (λ c0. split e (λ e1. s.fourth a1 b0 c0 e1 ∙ sym (rw (a1, b0, c0, e1)))
      (λ e0. split f (λ f1. s.fifth a1 b0 c0 e0 f1 ∙ sym (rw (a1, b0, c0, e0, f1)))
      (λ f0. split g
      (λ g1. split h (λ h1. s.seventh a1 b0 c0 e0 f0 g1 h1 ∙ sym (rw (a1, b0, c0, e0, f0, g1, h1)))
      (λ h0. rw (a1, b0, c0, e0, f0, g1, h0) (late (s.last a1 b0 c0 e0 f0 g1 h0))))
      (λ g0. s.sixth a1 b0 c0 e0 f0 g0 ∙ sym (rw (a1, b0, c0, e0, f0, g0))))))))
      (λ a0. s.first a0 ∙ sym (rw a0))
    where
      late : Late n → n ≡ pick (eqb n 10) 10 (pick (eqb n 11) 11 0)
      late (inl z) = rw (ne_eqb n 10 (λ i. omega arith), ne_eqb n 11 (λ i. omega arith)) z
      late (inr (inl z)) = rw (eq-eqb n 10 z) z
      late (inr (inr z)) = rw (ne_eqb n 10 (λ i. omega arith), eq-eqb n 11 z) z

-- ---- a pause

pause_no : (t : Tables) (root : ℕ) → (pause_of t root).no ≡ (hold_of t root).no
pause_no t root = cases (ℕ_discrete (hold_no t root) 0)
    (λ z. ap (λ (o : Out). o.no) (paused t root z) ∙ sym (hold_no_lem t root ∙ z))
    (λ z. ap (λ (o : Out). o.no) (unpaused t root z) ∙ sym (hold_no_lem t root))

module _ (t : Tables) (root : ℕ) (sized : Sized t) where
  pause_dead : root ≢ 0 → (Lives t root → ⊥) → (pause_of t root).no ≡ 4
  pause_dead z l = pause_no t root ∙ ((hold_refusals t root).refused 4 (omega arith)).1 (record { this = dead_held z l; lower = lower })
    where
      lower : (j : ℕ) → j < 4 → HoldWhy t root j → ⊥
      lower j h (unsized_held u) = u sized
      lower j h (dead_held z l) = omega arith
      lower j h (full_held l f) = omega arith

  pause_full : Lives t root → Full t root → (pause_of t root).no ≡ 10
  pause_full l f = pause_no t root ∙ ((hold_refusals t root).refused 10 (omega arith)).1 (record { this = full_held l f; lower = lower })
    where
      lower : (j : ℕ) → j < 10 → HoldWhy t root j → ⊥
      lower j h (unsized_held u) = u sized
      lower j h (dead_held z n) = n l
      lower j h (full_held l f) = omega arith

  full_pause_lem : (pause_of t root).no ≡ 10 → Lives t root × Full t root
  full_pause_lem e = why (((hold_refusals t root).refused 10 (omega arith)).0 (sym (pause_no t root) ∙ e)).this
    where
      why : HoldWhy t root 10 → Lives t root × Full t root
      why (full_held l f) = (l, f)

  -- of a root that is EMPTY or live only 10 can apply
  module _ (there : LiveOr0 (cap t) (W t) root) where
    alive : LiveOr0 (cap t) (W t) root → root ≢ 0 → Lives t root
    alive (inl e) z = absurd (z e)
    alive (inr l) z = l

    only_ten : (j : ℕ) → HoldWhy t root j → j ≡ 10
    only_ten j (unsized_held u) = absurd (u sized)
    only_ten j (dead_held z l) = absurd (l (alive there z))
    only_ten j (full_held l f) = refl

    pause_late : ((pause_of t root).no ≡ 0) ⊎ ((pause_of t root).no ≡ 10)
    pause_late = cases (ℕ_discrete (hold_of t root).no 0)
        (λ z. inl (pause_no t root ∙ z))
        (λ z. inr (pause_no t root ∙ only_ten (hold_of t root).no (((hold_refusals t root).refused (hold_of t root).no (omega arith)).0 refl).this))

-- ---- the cells of a bar

-- the cell lies inside
module _ (d a b y z v : ℕ) (g : SoundCells d a b y z v) where
  in_cube : (j : ℕ) → a + j ≤ b → Beyond d (place (a + j) y z) → ⊥
  in_cube j h (at_x o) = let q = g.in_x in omega arith
  in_cube j h (at_y o) = let q = g.in_y in omega arith
  in_cube j h (at_z o) = let q = g.in_z in omega arith

module _ {t : Tables} (w : WellFormed cube_kids deepest t) (root d a b y z v : ℕ) (g : SoundCells d a b y z v) where
  abbrev bar : Out
  bar = bar_of t root d y z a (b - a) v

  -- an edit that none of 1, 2 and 3 refuses, at the cell j
  module _ (u : Tables) (x : WellFormed cube_kids deepest u) (r j : ℕ) (h : a + j ≤ b) where
    early : (i : ℕ) → i < 4 → EditWhy u r d (place (a + j) y z) v i → ⊥
    early i l (unsized_edit n) = n x.sized
    early i l (deep_edit n) = let q = g.deep in omega arith
    early i l (beyond_edit n) = in_cube d a b y z v g j h n
    early i l (dead_edit n m) = omega arith
    early i l (tall_edit n) = omega arith
    early i l (full_edit c U s m k f) = omega arith
    early i l (crowded_edit k m n) = omega arith

    is : (n : ℕ) → 1 ≤ n → EditWhy u r d (place (a + j) y z) v n → ((i : ℕ) → i < n → EditWhy u r d (place (a + j) y z) v i → ⊥)
        → (edit_of u r d (place (a + j) y z) v).no ≡ n
    is n p why lower = ((edit_refusals u r d (place (a + j) y z) v (inr x)).refused n p).1 (record { this = why; lower = lower })

  -- the first cell is refused with n, and so is the bar
  bar_first_no : (n : ℕ) → 1 ≤ n → (edit_of t root d (place (a + 0) y z) v).no ≡ n → bar.no ≡ n
  bar_first_no n p e =
      let c : a + 0 ≡ a = omega arith in
      let f : (edit_of t root d (place a y z) v).no ≡ n = sym (ap (λ (i : ℕ). (edit_of t root d (place i y z) v).no) c) ∙ e in
      ap (λ (o : Out). o.no) (bar_stop d y z v t root a (b - a) (λ i. let q : n ≡ 0 = sym f ∙ i in omega arith)) ∙ f

  bar_dead : root ≢ 0 → (Lives t root → ⊥) → bar.no ≡ 4
  bar_dead n l = let up = g.rises in bar_first_no 4 (omega arith) (is t w root 0 (omega arith) 4 (omega arith) (dead_edit n l) (early t w root 0 (omega arith)))

  module _ (there : LiveOr0 (cap t) (W t) root) where
    stays : LiveOr0 (cap t) (W t) root → root ≢ 0 → (Lives t root → ⊥) → ⊥
    stays (inl e) z n = z e
    stays (inr l) z n = n l

    bar_tall : d < height_at (W t) root → bar.no ≡ 8
    bar_tall tall = let up = g.rises in bar_first_no 8 (omega arith) (is t w root 0 (omega arith) 8 (omega arith) (tall_edit tall) lower)
      where
        lower : (i : ℕ) → i < 8 → EditWhy t root d (place (a + 0) y z) v i → ⊥
        lower i l (unsized_edit n) = n w.sized
        lower i l (deep_edit n) = let q = g.deep in omega arith
        lower i l (beyond_edit n) = let up = g.rises in in_cube d a b y z v g 0 (omega arith) n
        lower i l (dead_edit n m) = stays there n m
        lower i l (tall_edit n) = omega arith
        lower i l (full_edit c U s m k f) = omega arith
        lower i l (crowded_edit k m n) = omega arith

    module _ (low : height_at (W t) root ≤ d) where
      bar_ends_lem : Late bar.no
      bar_ends_lem = let up = g.rises in let far = g.in_x in bar_late w root d y z a (b - a) v g.small g.deep g.in_y g.in_z (omega arith) there low

      -- where the cell j starts from: well formed, the passing root EMPTY or live and no taller than d
      record Reached (o : Out) : Type 0 where
        well : WellFormed cube_kids deepest o.after
        here : LiveOr0 (cap o.after) (W o.after) o.id
        under : height_at (W o.after) o.id ≤ d

      reached : (j : ℕ) → (reached_of t root d y z a j v).no ≡ 0 → Reached (reached_of t root d y z a j v)
      unfolding reached_of
      reached zero ok = record { well = w; here = there; under = low }
      reached (suc j) ok =
          let o = bar_of t root d y z a j v in
          let p = bar_accepted w root d y z a j v g.small ok in
          record {
            well = p.well;
            here = held_there o.after o.id
                (cases (ℕ_discrete o.id 0) (λ e. inl e) (λ e. inr (omega (arith, p.balance o.id, on_same o.id o.id e refl))));
            under = (bar_drawn w root d y z a j v g.small ok).low;
          }

      -- the edit of the cell j
      module _ (j : ℕ) (h : a + j ≤ b) (ok : (reached_of t root d y z a j v).no ≡ 0) where
        abbrev o : Out
        o = reached_of t root d y z a j v

        abbrev number : ℕ
        number = (edit_of o.after o.id d (place (a + j) y z) v).no

        abbrev CellWhy : ℕ → Type 0
        CellWhy = EditWhy o.after o.id d (place (a + j) y z) v

        exact : Exactly CellWhy number
        exact = edit_refusals o.after o.id d (place (a + j) y z) v (inr (reached j ok).well)

        cell_late : Late number
        cell_late =
            let r = reached j ok in
            let far = g.in_x in
            subst (λ (i : Out). Late i.no) (bar_one o.after o.id d y z (a + j) v)
            (bar_late r.well o.id d y z (a + j) 0 v g.small g.deep g.in_y g.in_z (omega arith) r.here r.under)

        stopped : (n : ℕ) → n ≢ 0 → number ≡ n → bar.no ≡ n
        stopped n p e = let up = g.rises in (bar_stops d y z v t root a (b - a) n p).1 (record { cell = j; within = omega arith; so_far = ok; number = e })

        ten_stops : CellWhy 10 → bar.no ≡ 10
        ten_stops why = ⊎_elim (λ e. absurd (exact.accepted.0 e 10 why))
            (λ m. ⊎_elim (λ e. stopped 10 (λ z. omega arith) e)
            (λ e. absurd (((exact.refused 11 (omega arith)).0 e).lower 10 (omega arith) why)) m) cell_late

        eleven_stops : CellWhy 11 → (bar.no ≡ 10) ⊎ (bar.no ≡ 11)
        eleven_stops why = ⊎_elim (λ e. absurd (exact.accepted.0 e 11 why))
            (λ m. ⊎_elim (λ e. inl (stopped 10 (λ z. omega arith) e)) (λ e. inr (stopped 11 (λ z. omega arith) e)) m) cell_late

      -- a bar that is refused with 10 or 11 has a cell to which that applies
      stops_at : (n : ℕ) → 1 ≤ n → bar.no ≡ n
          → (j : ℕ) × (a + j ≤ b) × ((reached_of t root d y z a j v).no ≡ 0)
          × EditWhy (reached_of t root d y z a j v).after (reached_of t root d y z a j v).id d (place (a + j) y z) v n
      stops_at n p e =
          let s = (bar_stops d y z v t root a (b - a) n (λ z. omega arith)).0 e in
          let i = s.within in
          let up = g.rises in
          let h : a + s.cell ≤ b = omega arith in
          (s.cell, h, s.so_far, (((exact s.cell h s.so_far).refused n p).0 s.number).this)

-- ---- the call

module _ (t : Tables) (root d k : ℕ) (l : List ℕ) (bytes : Bytes l) where
  abbrev Enters : ℕ → Type 0
  Enters = EnterWhy t root d k l

  abbrev no : ℕ
  no = (enter_of t root d k l).no

  asks : (m : Result (Option Cells) Refusal) → aim_of l k d ≡ m → fits t ≡ true → no ≡ (asked_of t root d m).no
  asks m e f = ap (λ (o : Out). o.no) (sym (enter_sized t root d k l f)) ∙ ap (λ (i : Result (Option Cells) Refusal). (asked_of t root d i).no) e

  asks_no : (refusal : Refusal) → aim_of l k d ≡ Err refusal → fits t ≡ true → no ≡ number_of refusal
  unfolding asked_of
  asks_no refusal e f = asks (Err refusal) e f

  asks_pause : aim_of l k d ≡ Ok None → fits t ≡ true → no ≡ (pause_of t root).no
  unfolding asked_of
  asks_pause e f = asks (Ok None) e f

  asks_bar : {a b y z v : ℕ} → aim_of l k d ≡ Ok (Some (cells_at a b y z v)) → fits t ≡ true → no ≡ (bar_of t root d y z a (b - a) v).no
  unfolding asked_of
  asks_bar {a} {b} {y} {z} {v} e f = asks (Ok (Some (cells_at a b y z v))) e f

  sound : {a b y z v : ℕ} → aim_of l k d ≡ Ok (Some (cells_at a b y z v)) → SoundCells d a b y z v
  sound {a} {b} {y} {z} {v} e = subst (Sound d) e (aim_sound l k d bytes)

  -- the tests that 4, 8, 10 and 11 come after
  record Passed : Type 0 where
    near : far k d ≡ false
    formed : malformed l ≡ false
    ending : unending l ≡ false
    within : outside l k d ≡ false

  pause_is : Passed → kind_in l ≡ 0 → aim_of l k d ≡ Ok None
  pause_is p = aim_pause l k d p.near p.formed p.ending p.within

  cells_are : Passed → kind_in l ≢ 0 → aim_of l k d ≡ Ok (Some (cells_at (cell_number (x_in l) k) (cell_number (last_in l) k) (cell_number (y_in l) k) (cell_number (z_in l) k) (value_in l)))
  cells_are p = aim_cells l k d p.near p.formed p.ending p.within

  -- cells are not those of a pause
  no_pause : Passed → {a b y z v : ℕ} → aim_of l k d ≡ Ok (Some (cells_at a b y z v)) → kind_in l ≢ 0
  no_pause p e z = subst IsCells (sym e ∙ pause_is p z) tt

  eight_tall : kind_in l ≢ 0 → eight_of t root d l ≡ not (leb (height_at (W t) root) d)
  unfolding eight_of
  eight_tall z = rw (ne_eqb (kind_in l) 0 z)

  eight_pause : kind_in l ≡ 0 → eight_of t root d l ≡ false
  unfolding eight_of
  eight_pause z = rw (eq-eqb (kind_in l) 0 z)

  module _ (w : WellFormed cube_kids deepest t) where
    f : fits t ≡ true
    f = sized_fits w.sized

    four : Passed → live_or_empty (cap t) (W t) root ≡ false → no ≡ 4
    four p e =
        let n = (dead t root).0 (ap not e) in
        cases (ℕ_discrete (kind_in l) 0)
        (λ z. asks_pause (pause_is p z) f ∙ pause_dead t root w.sized n.0 n.1)
        (λ z. let c = cells_are p z in asks_bar c f ∙ bar_dead w root d _ _ _ _ _ (sound c) n.0 n.1)

    eight : Passed → LiveOr0 (cap t) (W t) root → eight_of t root d l ≡ true → no ≡ 8
    eight p there e = cases (ℕ_discrete (kind_in l) 0)
        (λ z. absurd (true≢false (sym e ∙ eight_pause z)))
        (λ z.
        let c = cells_are p z in
        asks_bar c f ∙ bar_tall w root d _ _ _ _ _ (sound c) there (leb-false (height_at (W t) root) d (not-true _ (sym (eight_tall z) ∙ e))))

    low : kind_in l ≢ 0 → eight_of t root d l ≡ false → height_at (W t) root ≤ d
    low z e = split (leb (height_at (W t) root) d) (λ i. leb-true (height_at (W t) root) d i) (λ i. absurd (true≢false (sym (ap not i) ∙ sym (eight_tall z) ∙ e)))

    late : Passed → LiveOr0 (cap t) (W t) root → eight_of t root d l ≡ false → Late no
    late p there e = cases (ℕ_discrete (kind_in l) 0)
        (λ z. subst Late (sym (asks_pause (pause_is p z) f)) (⊎_elim (λ i. inl i) (λ i. inr (inl i)) (pause_late t root w.sized there)))
        (λ z. let c = cells_are p z in subst Late (sym (asks_bar c f)) (bar_ends_lem w root d _ _ _ _ _ (sound c) there (low z e)))

    -- 10 and 11
    module _ (p : Passed) (there : LiveOr0 (cap t) (W t) root) (e : eight_of t root d l ≡ false) where
      from_ten : no ≡ 10 → Enters 10
      from_ten n = cases (ℕ_discrete (kind_in l) 0)
          (λ z. let q = full_pause_lem t root w.sized (sym (asks_pause (pause_is p z) f) ∙ n) in full_pause z q.0 q.1)
          (λ z.
          let c = cells_are p z in
          let (j, h, ok, why) = stops_at w root d _ _ _ _ _ (sound c) there (low z e) 10 (omega arith) (sym (asks_bar c f) ∙ n) in
          full_cell (at_cell _ _ _ _ _ j c h ok why))

      at_ten : StopsBy t root d k l 10 → no ≡ 10
      at_ten (at_cell a b y z v j c h ok why) = asks_bar c f ∙ ten_stops w root d a b y z v (sound c) there (low (no_pause p c) e) j h ok why

      to_ten : Enters 10 → no ≡ 10
      to_ten (full_pause z v i) = asks_pause (pause_is p z) f ∙ pause_full t root w.sized v i
      to_ten (full_cell s) = at_ten s

      from_eleven : no ≡ 11 → Enters 11
      from_eleven n = cases (ℕ_discrete (kind_in l) 0)
          (λ z. let i = sym (asks_pause (pause_is p z) f) ∙ n in ⊎_elim (λ j. absurd (omega arith)) (λ j. absurd (omega arith)) (pause_late t root w.sized there))
          (λ z.
          let c = cells_are p z in
          let (j, h, ok, why) = stops_at w root d _ _ _ _ _ (sound c) there (low z e) 11 (omega arith) (sym (asks_bar c f) ∙ n) in
          crowded_cell (at_cell _ _ _ _ _ j c h ok why))

      at_eleven : (Enters 10 → ⊥) → StopsBy t root d k l 11 → no ≡ 11
      at_eleven ten (at_cell a b y z v j c h ok why) = ⊎_elim
          (λ i. absurd (ten (from_ten (asks_bar c f ∙ i)))) (λ i. asks_bar c f ∙ i)
          (eleven_stops w root d a b y z v (sound c) there (low (no_pause p c) e) j h ok why)

      to_eleven : (Enters 10 → ⊥) → Enters 11 → no ≡ 11
      to_eleven ten (crowded_cell s) = at_eleven ten s

-- a number as a test
is_number : {R : Type 0} (n k : ℕ) → (n ≡ k → R) → (R → n ≡ k) → Decides (eqb n k) R
is_number n k to from = ((λ e. to (eqb-true n k e)), (λ r. eq-eqb n k (from r)))

module _ (t : Tables) (root d k : ℕ) (l : List ℕ) (bytes : Bytes l) where
  abbrev Why : ℕ → Type 0
  Why = EnterWhy t root d k l

  why_1 : Why 1 → Sized t → ⊥
  why_1 (unsized_enter u) = u

  why_13 : Why 13 → Malformed l
  why_13 (malformed_enter m) = m

  why_14 : Why 14 → Unending l
  why_14 (unending_enter m) = m

  why_3 : Why 3 → RecordBeyond l k d
  why_3 (beyond_enter b) = b

  why_4 : Why 4 → (root ≢ 0) × (Lives t root → ⊥)
  why_4 (dead_enter z n) = (z, n)

  why_2 : Why 2 → far k d ≡ false → ⊥
  why_2 (deep_enter h) e = true≢false (sym (rw (lt-ltb deepest d h)) ∙ e)
  why_2 (fine_enter h) e = split (ltb deepest d)
      (λ i. true≢false (sym (rw i) ∙ e)) (λ i. true≢false (sym (rw (i, lt-ltb finest_edge k h)) ∙ e))

  two : Decides (far k d) (Why 2)
  two = tells (far k d)
      (λ e. split (ltb deepest d) (λ i. deep_enter (ltb-true deepest d i)) (λ i. fine_enter (ltb-true finest_edge k (sym (rw i) ∙ e))))
      (λ e y. why_2 y e)

  eight_why : eight_of t root d l ≡ true → Why 8
  eight_why e = cases (ℕ_discrete (kind_in l) 0)
      (λ z. absurd (true≢false (sym e ∙ eight_pause t root d k l bytes z)))
      (λ z. tall_enter z (leb-false (height_at (W t) root) d (not-true _ (sym (eight_tall t root d k l bytes z) ∙ e))))

  why_8 : eight_of t root d l ≡ false → Why 8 → ⊥
  why_8 e (tall_enter z h) = true≢false (sym (ap not (lt-leb (height_at (W t) root) d h)) ∙ sym (eight_tall t root d k l bytes z) ∙ e)

  enter_listed : Listed Why (order (enter_rungs t root d k l))
  enter_listed j (unsized_enter h) = Memᴰ.head refl
  enter_listed j (deep_enter h) = Memᴰ.tail (Memᴰ.head refl)
  enter_listed j (fine_enter h) = Memᴰ.tail (Memᴰ.head refl)
  enter_listed j (malformed_enter h) = Memᴰ.tail (Memᴰ.tail (Memᴰ.head refl))
  enter_listed j (unending_enter h) = Memᴰ.tail (Memᴰ.tail (Memᴰ.tail (Memᴰ.head refl)))
  enter_listed j (beyond_enter h) = Memᴰ.tail (Memᴰ.tail (Memᴰ.tail (Memᴰ.tail (Memᴰ.head refl))))
  enter_listed j (dead_enter z h) = Memᴰ.tail (Memᴰ.tail (Memᴰ.tail (Memᴰ.tail (Memᴰ.tail (Memᴰ.head refl)))))
  enter_listed j (tall_enter z h) = Memᴰ.tail (Memᴰ.tail (Memᴰ.tail (Memᴰ.tail (Memᴰ.tail (Memᴰ.tail (Memᴰ.head refl))))))
  enter_listed j (full_pause z h i) = Memᴰ.tail (Memᴰ.tail (Memᴰ.tail (Memᴰ.tail (Memᴰ.tail (Memᴰ.tail (Memᴰ.tail (Memᴰ.head refl)))))))
  enter_listed j (full_cell s) = Memᴰ.tail (Memᴰ.tail (Memᴰ.tail (Memᴰ.tail (Memᴰ.tail (Memᴰ.tail (Memᴰ.tail (Memᴰ.head refl)))))))
  enter_listed j (crowded_cell s) =
      Memᴰ.tail (Memᴰ.tail (Memᴰ.tail (Memᴰ.tail (Memᴰ.tail (Memᴰ.tail (Memᴰ.tail (Memᴰ.tail (Memᴰ.head refl))))))))

  module _ (fair : Fair cube_kids deepest t) where
    well : fits t ≡ true → WellFormed cube_kids deepest t
    well e = go fair
      where
        go : Fair cube_kids deepest t → WellFormed cube_kids deepest t
        go (inl n) = absurd (true≢false (sym e ∙ n))
        go (inr w) = w

    passes : far k d ≡ false → malformed l ≡ false → unending l ≡ false → outside l k d ≡ false → Passed t root d k l bytes
    passes a b c e = record { near = a; formed = b; ending = c; within = e }

    enter_ladder : (enter_of t root d k l).no ≡ ladder (enter_rungs t root d k l)
    enter_ladder = climbed (fits t) (far k d) (malformed l) (unending l) (outside l k d) (live_or_empty (cap t) (W t) root) (eight_of t root d l) (enter_of t root d k l).no
        (record {
          first = λ a. sym (ap (λ (o : Out). o.no) (enter_unsized t root d k l a));
          second = λ a b. asks_no t root d k l bytes Depth (aim_2 l k d b) a;
          third = λ a b c. asks_no t root d k l bytes Record (aim_13 l k d b c) a;
          fourth = λ a b c e. asks_no t root d k l bytes NotFinite (aim_14 l k d b c e) a;
          fifth = λ a b c e f. asks_no t root d k l bytes Position (aim_3 l k d b c e f) a;
          sixth = λ a b c e f g. four t root d k l bytes (well a) (passes b c e f) g;
          seventh = λ a b c e f g h. eight t root d k l bytes (well a) (passes b c e f) (there_live t root g) h;
          last = λ a b c e f g h. late t root d k l bytes (well a) (passes b c e f) (there_live t root g) h;
        })

    -- Entering a reading: refusals 1, 2, 13, 14, 3, 4, 8, 10 and 11, each given exactly if it is the first in this order that applies.
    pub enter_refusals : Given (EnterWhy t root d k l) (1 ∷ 2 ∷ 13 ∷ 14 ∷ 3 ∷ 4 ∷ 8 ∷ 10 ∷ 11 ∷ []) (enter_of t root d k l).no
    enter_refusals = subst (Given Why (order (enter_rungs t root d k l))) (sym enter_ladder)
        (ladder_given Why (enter_rungs t root d k l)
        (omega arith) enter_listed (
          via (not (fits t)) (unsized t) unsized_enter why_1,
          λ a. (
            two,
            λ b. (
              via (malformed l) (thirteen l) malformed_enter why_13,
              λ c. (
                via (unending l) (fourteen l (off (malformed l) (thirteen l) (λ m. c (malformed_enter m)))) unending_enter why_14,
                λ e. (
                  via (outside l k d) (three l k d) beyond_enter why_3,
                  λ f. (
                    via (not (live_or_empty (cap t) (W t) root)) (dead t root) (λ n. dead_enter n.0 n.1) why_4,
                    λ g. (
                      tells (eight_of t root d l) eight_why why_8,
                      λ h. (
                        is_number _ 10 (from_ten t root d k l bytes (w a) (p b c e f) (there g) (low_enough h))
                            (to_ten t root d k l bytes (w a) (p b c e f) (there g) (low_enough h)),
                        λ i. (
                          is_number _ 11 (from_eleven t root d k l bytes (w a) (p b c e f) (there g) (low_enough h))
                              (to_eleven t root d k l bytes (w a) (p b c e f) (there g) (low_enough h) i),
                          λ _. tt,
                        ),
                      ),
                    ),
                  ),
                ),
              ),
            ),
          ),
        ))
      where
        w : (Why 1 → ⊥) → WellFormed cube_kids deepest t
        w a = well (Holds-on (fits t) (unsized t) (λ n. a (unsized_enter n)))

        p : (Why 2 → ⊥) → (Why 13 → ⊥) → (Why 14 → ⊥) → (Why 3 → ⊥) → Passed t root d k l bytes
        p b c e f =
            let m = off (malformed l) (thirteen l) (λ n. c (malformed_enter n)) in
            passes (off (far k d) two b) m (off (unending l) (fourteen l m) (λ n. e (unending_enter n))) (off (outside l k d) (three l k d) (λ n. f (beyond_enter n)))

        there : (Why 4 → ⊥) → LiveOr0 (cap t) (W t) root
        there g = there_live t root (Holds-on (live_or_empty (cap t) (W t) root) (dead t root) (λ n. g (dead_enter n.0 n.1)))

        low_enough : (Why 8 → ⊥) → eight_of t root d l ≡ false
        low_enough h = split (eight_of t root d l) (λ e. absurd (h (eight_why e))) (λ e. e)

-- ---- a pause

no_cells : (b : Bool) (x y : Result (Option Cells) Refusal) → (IsCells x → ⊥) → (IsCells y → ⊥) → IsCells (pick b x y) → ⊥
no_cells true x y p q = p
no_cells false x y p q = q

pause_cells : (l : List ℕ) (k d : ℕ) → kind_in l ≡ 0 → IsCells (aim_of l k d) → ⊥
unfolding aim_of
pause_cells l k d z =
    rw (eq-eqb (kind_in l) 0 z)
    (no_cells (far k d) (Err Depth) _ (λ i. i)
    (no_cells (malformed l) (Err Record) _ (λ i. i) (no_cells (unending l) (Err NotFinite) _ (λ i. i) (no_cells (outside l k d) (Err Position) (Ok None) (λ i. i) (λ i. i)))))

-- A pause is refused only by 1, 2, 13, 4 and 10: no other number applies to it.
pub pause_only : (t : Tables) (root d k : ℕ) (l : List ℕ) → kind_in l ≡ 0 → (n : ℕ) → EnterWhy t root d k l n → (n ≡ 1) ⊎ (n ≡ 2) ⊎ (n ≡ 13) ⊎ (n ≡ 4) ⊎ (n ≡ 10)
pause_only t root d k l z = go
  where
    stops : (n : ℕ) → StopsBy t root d k l n → ⊥
    stops n (at_cell a b y i v j e h ok w) = pause_cells l k d z (subst IsCells (sym e) tt)

    unends : Unending l → ⊥
    unends (endless_x p e) = p z
    unends (endless_y p e) = p z
    unends (endless_z p e) = p z
    unends (endless_second p e) = omega arith

    strays : RecordBeyond l k d → ⊥
    strays (beyond_x p e) = p z
    strays (beyond_y p e) = p z
    strays (beyond_z p e) = p z
    strays (beyond_second p e) = omega arith

    go : (n : ℕ) → EnterWhy t root d k l n → (n ≡ 1) ⊎ (n ≡ 2) ⊎ (n ≡ 13) ⊎ (n ≡ 4) ⊎ (n ≡ 10)
    go n (unsized_enter h) = inl refl
    go n (deep_enter h) = inr (inl refl)
    go n (fine_enter h) = inr (inl refl)
    go n (malformed_enter h) = inr (inr (inl refl))
    go n (unending_enter h) = absurd (unends h)
    go n (beyond_enter h) = absurd (strays h)
    go n (dead_enter p h) = inr (inr (inr (inl refl)))
    go n (tall_enter p h) = absurd (p z)
    go n (full_pause p h i) = inr (inr (inr (inr refl)))
    go n (full_cell h) = absurd (stops n h)
    go n (crowded_cell h) = absurd (stops n h)
