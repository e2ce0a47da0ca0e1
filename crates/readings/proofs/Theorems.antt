-- What a caller may rely on of a reading that is entered: a pause, a shot and a bar, accepted or refused.
use mathlib.Core.Path.{◌≡◌, refl, sym, ap, ◌∙◌, subst}
use mathlib.Core.Logic.{◌≢◌, ◌⊎◌, inl, inr, ⊎_elim}
use mathlib.Core.Bool.{true, false}
use mathlib.Core.List.{List}
use Prim.Native.Nat.{ℕ, ◌+◌, ◌-◌, ◌^◌, ◌≤◌}
use native.Mathlib.Decide.{ℕ_discrete}
use native.Mathlib.Omega.{arith}
use lib.ListN.{length}
use Rattle.basics.specs.Limits.{deepest, deepest_cube, cube_kids}
use Rattle.ids.specs.Ids.{invalid}
use Rattle.nodes.proofs.Sums.{cases, split}
use Rattle.paths.specs.Paths.{place}
use Rattle.tree.specs.Tree.{LiveOr0, Below}
use Rattle.tree.specs.Cells.{At}
use Rattle.arena.specs.Calls.{Out, refused, fits, hold_no, counts_of}
use Rattle.arena.specs.Tables.{Tables, cap, W, WellFormed}
use Rattle.arena.proofs.Fits.{sized_fits}
use Rattle.ledger.specs.Fates.{Lives}
use Rattle.calls.specs.Cells.{Alike}
use Rattle.calls.specs.Does.{Kept}
use Rattle.calls.specs.Living.{SameLife}
use Rattle.read_cell.specs.Calls.{expand_of}
use Rattle.edit.specs.Edit.{edit_of}
use Rattle.edit.proofs.Edits.{edit_number, edit_refused, accepted_past, posed}
use Rattle.basics.specs.Bytes.{Bytes}
use Rattle.metres.specs.Record.{cells_at, aim_of}
use Rattle.std.specs.declared.option.Option.{Option}
use Rattle.std.specs.declared.result.Result.{Result}
use Rattle.std.specs.declared.option.Option.TheVariants.{Some, None}
use Rattle.std.specs.declared.result.Result.TheVariants.{Ok, Err}
use Rattle.basics.specs.declared.Refusal.{Refusal}
use Rattle.metres.specs.declared.Cells.{Cells}
use Rattle.bars.specs.Bars.{Late, Passing, Undone, Drawn, bar_of}
use Rattle.bars.proofs.Ways.{bar_one, bar_stop}
use Rattle.bars.proofs.Drawing.{bar_drawn}
use Rattle.bars.proofs.Granting.{granting_kept, granting_reads, granting_cubes, granting_passing, granting_undone, granting_only, granting_same, granting_counts}
use Rattle.bars.proofs.Numbers.{bar_late}
use Rattle.bars.proofs.Theorems.{bar_invalid}
use Rattle.readings.specs.Enter.{pause_of, asked_of, enter_of}
use Rattle.readings.proofs.Aims.{SoundCells, Sound, aim_sound}
use Rattle.readings.proofs.Does.{enter_does}
use Rattle.readings.proofs.Law.{paused, unpaused, enter_unsized, enter_sized}

-- ## By what the record asks for

module _ (t : Tables) (root d k : ℕ) (l : List ℕ) where
  -- what holds of refusal 1, and of what is done for whatever the record asks, holds of the call
  by_aim : (P : Out → Type 0) → (fits t ≡ false → P (refused 1 t)) → (fits t ≡ true → P (asked_of t root d (aim_of l k d))) → P (enter_of t root d k l)
  by_aim P one rest = split (fits t)
      (λ f. subst P (enter_sized t root d k l f) (rest f)) (λ f. subst P (enter_unsized t root d k l f) (one f))

  module _ (f : fits t ≡ true) where
    enters : (m : Result (Option Cells) Refusal) → aim_of l k d ≡ m → enter_of t root d k l ≡ asked_of t root d m
    enters m e = sym (enter_sized t root d k l f) ∙ ap (asked_of t root d) e

    -- A pause holds the old root and answers it.
    pub enter_pause : aim_of l k d ≡ Ok None → enter_of t root d k l ≡ pause_of t root
    unfolding asked_of
    enter_pause e = enters (Ok None) e

    pub pause_answers : aim_of l k d ≡ Ok None → (enter_of t root d k l).no ≡ 0 → (enter_of t root d k l).id ≡ root
    pause_answers e ok = cases (ℕ_discrete (hold_no t root) 0)
        (λ z. ap (λ (o : Out). o.id) (enter_pause e ∙ paused t root z))
        (λ z. absurd (z (sym (ap (λ (o : Out). o.no) (enter_pause e ∙ unpaused t root z)) ∙ ok)))

    -- A shot or a bar edits the cells that the record asks for ..
    pub enter_bar : {a b y z v : ℕ} → aim_of l k d ≡ Ok (Some (cells_at a b y z v)) → enter_of t root d k l ≡ bar_of t root d y z a (b - a) v
    unfolding asked_of
    enter_bar {a} {b} {y} {z} {v} e = enters (Ok (Some (cells_at a b y z v))) e

    -- .. and one cell, as of a shot, is the edit.
    pub enter_shot : {a y z v : ℕ} → aim_of l k d ≡ Ok (Some (cells_at a a y z v)) → enter_of t root d k l ≡ edit_of t root d (place a y z) v
    enter_shot {a} {y} {z} {v} e =
        let none : a - a ≡ 0 = omega arith in
        enter_bar e ∙ ap (λ (n : ℕ). bar_of t root d y z a n v) none ∙ bar_one t root d y z a v

-- ## A refusal

asked_invalid : (t : Tables) (root d : ℕ) (m : Result (Option Cells) Refusal) → (asked_of t root d m).no ≢ 0 → (asked_of t root d m).id ≡ invalid
unfolding asked_of
asked_invalid t root d (Ok None) bad = cases (ℕ_discrete (hold_no t root) 0)
    (λ z. absurd (bad (ap (λ (o : Out). o.no) (paused t root z)))) (λ z. ap (λ (o : Out). o.id) (unpaused t root z))
asked_invalid t root d (Ok (Some c)) bad = bar_invalid t root d c.y c.z c.first (c.last - c.first) c.value bad
asked_invalid t root d (Err refusal) bad = refl

-- It answers INVALID. On any tables.
pub enter_invalid : (t : Tables) (root d k : ℕ) (l : List ℕ) → (enter_of t root d k l).no ≢ 0 → (enter_of t root d k l).id ≡ invalid
enter_invalid t root d k l =
    by_aim t root d k l (λ o. o.no ≢ 0 → o.id ≡ invalid) (λ f bad. refl) (λ f. asked_invalid t root d (aim_of l k d))

-- a refused pause changes nothing; nor does a bar that 10 and 11 do not refuse, since only its first cell can be refused so
module _ {t : Tables} (w : WellFormed cube_kids deepest t) (root d : ℕ) where
  pause_stays : (pause_of t root).no ≢ 0 → (pause_of t root).after ≡ t
  pause_stays bad = cases (ℕ_discrete (hold_no t root) 0)
      (λ z. absurd (bad (ap (λ (o : Out). o.no) (paused t root z)))) (λ z. ap (λ (o : Out). o.after) (unpaused t root z))

  bar_stays : (a b y z v : ℕ) → SoundCells d a b y z v → Late (bar_of t root d y z a (b - a) v).no ⊎ ((bar_of t root d y z a (b - a) v).after ≡ t)
  bar_stays a b y z v g = cases (ℕ_discrete (edit_of t root d (place a y z) v).no 0)
      (λ ok.
      let past = accepted_past t root d (place a y z) v (sym (edit_number t root d (place a y z) v) ∙ ok) in
      let up = g.rises in
      let far = g.in_x in
      inl (bar_late w root d y z a (b - a) v g.small g.deep g.in_y g.in_z (omega arith) (posed w root d (place a y z) past.0).there past.1))
      (λ bad. inr (ap (λ (o : Out). o.after) (bar_stop d y z v t root a (b - a) bad)))

  asked_stays : (m : Result (Option Cells) Refusal) → Sound d m → (asked_of t root d m).no ≢ 0 → (asked_of t root d m).no ≢ 10 → (asked_of t root d m).no ≢ 11 → (asked_of t root d m).after ≡ t
  unfolding asked_of
  asked_stays (Ok None) g bad ten eleven = pause_stays bad
  asked_stays (Ok (Some c)) g bad ten eleven = ⊎_elim (λ late. ⊎_elim (λ e. absurd (bad e)) (λ m. ⊎_elim (λ e. absurd (ten e)) (λ e. absurd (eleven e)) m) late)
      (λ e. e) (bar_stays c.first c.last c.y c.z c.value g)
  asked_stays (Err refusal) g bad ten eleven = refl

-- ## The call, on well-formed tables

module _ {t : Tables} (w : WellFormed cube_kids deepest t) (root d k : ℕ) (l : List ℕ) (bytes : Bytes l) where
  abbrev o : Out
  o = enter_of t root d k l

  -- Accepted or refused, every root is kept ..
  pub enter_kept : (b : ℕ) → Kept cube_kids deepest t (enter_of t root d k l).after b
  enter_kept = granting_kept w o (enter_does root d k l bytes w)

  -- .. and one that was EMPTY or live reads as before at every cell and depth, and expands to the same cube.
  pub enter_reads : (b : ℕ) → LiveOr0 (cap t) (W t) b → (e : ℕ) → e ≤ deepest → (s : At e) → Alike (enter_of t root d k l).after b t b s
  enter_reads = granting_reads w o (enter_does root d k l bytes w)

  pub enter_cubes : (b : ℕ) → LiveOr0 (cap t) (W t) b → (e : ℕ) → e ≤ deepest_cube → (m n : List ℕ) → length m ≡ 8 ^ e → length n ≡ 8 ^ e
      → (expand_of (enter_of t root d k l).after b e m).cube ≡ (expand_of t b e n).cube
  enter_cubes = granting_cubes w o (enter_does root d k l bytes w)

  -- Accepted: one new hold on the answer, and every other node's holds as before ..
  pub enter_accepted : (enter_of t root d k l).no ≡ 0 → Passing t (enter_of t root d k l).after (enter_of t root d k l).id
  enter_accepted = granting_passing w o (enter_does root d k l bytes w)

  -- .. and once that hold is given back live nodes and counts are as they were.
  pub enter_undone : (enter_of t root d k l).no ≡ 0 → Undone t (enter_of t root d k l).after (enter_of t root d k l).id
  enter_undone = granting_undone w o (enter_does root d k l bytes w)

  -- Nothing leaks: what lives afterwards lived before, or is a node of the answer.
  pub enter_only : (enter_of t root d k l).no ≡ 0 → (a : ℕ) → Lives (enter_of t root d k l).after a
      → Lives t a ⊎ Below cube_kids (W (enter_of t root d k l).after) (enter_of t root d k l).id a
  enter_only = granting_only w o (enter_does root d k l bytes w)

  -- The answer of a shot or a bar shows the old cube with just its cells set.
  pub enter_drawn : {a b y z v : ℕ} → aim_of l k d ≡ Ok (Some (cells_at a b y z v)) → (enter_of t root d k l).no ≡ 0
      → Drawn d t root y z a b v (enter_of t root d k l).after (enter_of t root d k l).id
  enter_drawn {a} {b} {y} {z} {v} e ok =
      let g : SoundCells d a b y z v = subst (Sound d) e (aim_sound l k d bytes) in
      let q = enter_bar t root d k l (sized_fits w.sized) e in
      let up = g.rises in
      let last : a + (b - a) ≡ b = omega arith in
      subst (λ (i : Out). Drawn d t root y z a b v i.after i.id) (sym q)
      (subst (λ (n : ℕ). Drawn d t root y z a n v (bar_of t root d y z a (b - a) v).after (bar_of t root d y z a (b - a) v).id) last
      (bar_drawn w root d y z a (b - a) v g.small (sym (ap (λ (i : Out). i.no) q) ∙ ok)))

  -- Refused: live nodes and counts are as before, and the call for counts answers every id as before ..
  pub enter_refused : (enter_of t root d k l).no ≢ 0 → SameLife t (enter_of t root d k l).after
  enter_refused = granting_same w o (enter_does root d k l bytes w)

  pub enter_counts : (enter_of t root d k l).no ≢ 0 → (a : ℕ) → counts_of (enter_of t root d k l).after a ≡ counts_of t a
  enter_counts = granting_counts w o (enter_does root d k l bytes w)

  -- .. and where the number is none of 10 and 11 nothing lent is changed, nor the state.
  pub enter_stays : (enter_of t root d k l).no ≢ 0 → (enter_of t root d k l).no ≢ 10 → (enter_of t root d k l).no ≢ 11 → (enter_of t root d k l).after ≡ t
  enter_stays = by_aim t root d k l (λ i. i.no ≢ 0 → i.no ≢ 10 → i.no ≢ 11 → i.after ≡ t) (λ f a b c. refl)
      (λ f. asked_stays w root d (aim_of l k d) (aim_sound l k d bytes))

  -- So it is with every refusal of a pause and of a shot.
  pub pause_unchanged : aim_of l k d ≡ Ok None → (enter_of t root d k l).no ≢ 0 → (enter_of t root d k l).after ≡ t
  pause_unchanged e = subst (λ (i : Out). i.no ≢ 0 → i.after ≡ t) (sym (enter_pause t root d k l (sized_fits w.sized) e)) (pause_stays w root d)

  pub shot_unchanged : {a y z v : ℕ} → aim_of l k d ≡ Ok (Some (cells_at a a y z v)) → (enter_of t root d k l).no ≢ 0 → (enter_of t root d k l).after ≡ t
  shot_unchanged {a} {y} {z} {v} e = subst (λ (i : Out). i.no ≢ 0 → i.after ≡ t) (sym (enter_shot t root d k l (sized_fits w.sized) e))
      (λ bad. ap (λ (i : Out). i.after) (edit_refused t root d (place a y z) v (λ n. bad (edit_number t root d (place a y z) v ∙ n))))
