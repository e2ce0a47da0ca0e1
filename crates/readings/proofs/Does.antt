-- What entering a reading does, as any call: one hold granted on its answer if it is accepted, and none taken.
use mathlib.Core.Path.{◌≡◌, refl, sym, ap, ◌∙◌, subst}
use mathlib.Core.Logic.{◌≢◌, inl, inr}
use mathlib.Core.Bool.{true}
use mathlib.Core.List.{List}
use Prim.Native.Nat.{ℕ, ◌-◌, ◌^◌, ◌≤◌}
use native.Mathlib.Decide.{ℕ_discrete}
use native.Mathlib.Omega.{arith}
use Rattle.basics.specs.Limits.{deepest, cube_kids, kid_words}
use Rattle.nodes.proofs.Sums.{cases}
use Rattle.basics.specs.Bytes.{Bytes}
use Rattle.metres.specs.Record.{aim_of}
use Rattle.std.specs.declared.option.Option.{Option}
use Rattle.std.specs.declared.result.Result.{Result}
use Rattle.std.specs.declared.option.Option.TheVariants.{Some, None}
use Rattle.std.specs.declared.result.Result.TheVariants.{Ok, Err}
use Rattle.basics.specs.declared.Refusal.{Refusal}
use Rattle.basics.specs.Refusals.{number}
use Rattle.basics.proofs.Refusals.{number_some}
use Rattle.metres.specs.declared.Cells.{Cells}
use Rattle.arena.specs.Calls.{Out, said, refused, Fair, fits, hold_no, hold_of}
use Rattle.arena.specs.Tables.{Tables, WellFormed}
use Rattle.arena.proofs.Fits.{sized_fits}
use Rattle.ledger.specs.Ledger.{on, if_accepted}
use Rattle.ledger.proofs.Effects.{accepted, unaccepted}
use Rattle.ledger.proofs.Going.{hold_ends_none}
use Rattle.ledger.proofs.Ladders.{hold_no_lem}
use Rattle.calls.specs.Does.{Does}
use Rattle.calls.proofs.Arena.{hold_does}
use Rattle.calls.proofs.Compose.{does_none, does_as}
use Rattle.calls.proofs.Once.{grew_extends, grown_ends_none}
use Rattle.bars.proofs.Does.{bar_does, bar_ends_few}
use Rattle.readings.specs.Enter.{pause_of, asked_of, enter_of, asked_ends, enter_ends}
use Rattle.readings.proofs.Aims.{Sound, aim_sound}
use Rattle.readings.proofs.Law.{paused, unpaused, enter_unsized, enter_sized}

fit : cube_kids ≤ kid_words
fit = omega arith

-- one hold granted on the answer, none taken, and each slot recycled so often
abbrev pub Grants : Tables → Out → (ℕ → ℕ) → Type 0
Grants t o times = Does cube_kids deepest t o.after (λ y. if_accepted o (on y o.id)) (λ y. 0) times

-- ## The three ways

module _ {t : Tables} (w : WellFormed cube_kids deepest t) where
  -- a refusal grants nothing
  refused_grants : (n : ℕ) → n ≢ 0 → Grants t (refused n t) (λ s. 0)
  refused_grants n z =
      let o = refused n t in
      does_as cube_kids deepest fit (λ y. if_accepted o (on y o.id)) (λ y. 0) (λ s. 0) (does_none cube_kids deepest fit t w)
      (λ y. sym (unaccepted o (on y o.id) z)) (λ y. refl) (λ s l. refl)

  -- a pause grants one hold on the root
  pub pause_grants : (root : ℕ) → Grants t (pause_of t root) (λ s. 0)
  pause_grants root = cases (ℕ_discrete (hold_no t root) 0)
      (λ z.
      let o = said 0 root (hold_of t root).after in
      subst (λ (i : Out). Grants t i (λ s. 0)) (sym (paused t root z))
      (does_as cube_kids deepest fit (λ y. if_accepted o (on y root)) (λ y. 0) (λ s. 0) (hold_does fit w root)
      (λ y. accepted (hold_of t root) (on y root) (hold_no_lem t root ∙ z) ∙ sym (accepted o (on y root) refl)) (λ y. refl)
      (λ s l. grown_ends_none fit (hold_of t root).after w (grew_extends cube_kids fit (hold_ends_none t root)) s l)))
      (λ z. subst (λ (i : Out). Grants t i (λ s. 0)) (sym (unpaused t root z)) (refused_grants (hold_no t root) z))

  asked_grants : (root d : ℕ) (m : Result (Option Cells) Refusal) → Sound d m → Grants t (asked_of t root d m) (asked_ends t root d m)
  unfolding asked_of asked_ends
  asked_grants root d (Ok None) g = pause_grants root
  asked_grants root d (Ok (Some c)) g = bar_does w root d c.y c.z c.first (c.last - c.first) c.value g.small
  asked_grants root d (Err refusal) g = refused_grants (number refusal) (λ z. let h = number_some refusal in omega arith)

-- ## The call

ends_sized : (t : Tables) (root d k : ℕ) (l : List ℕ) (s : ℕ) → fits t ≡ true → asked_ends t root d (aim_of l k d) s ≡ enter_ends t root d k l s
unfolding enter_ends
ends_sized t root d k l s f = rw f

asked_few : (t : Tables) (root d : ℕ) (m : Result (Option Cells) Refusal) (s : ℕ) → Sound d m → asked_ends t root d m s ≤ 2 ^ d
unfolding asked_ends
asked_few t root d (Ok None) s g = omega arith
asked_few t root d (Ok (Some c)) s g = let h = g.in_x in let q = bar_ends_few t root d c.y c.z c.first (c.last - c.first) c.value s in omega arith
asked_few t root d (Err refusal) s g = omega arith

module _ {t : Tables} (root d k : ℕ) (l : List ℕ) (bytes : Bytes l) where
  -- An accepted reading grants one hold on its answer; nothing is taken. A slot is recycled as often as the releases of a bar's passing roots recycle it.
  pub enter_does : WellFormed cube_kids deepest t → Grants t (enter_of t root d k l) (λ s. enter_ends t root d k l s)
  enter_does w =
      let f = sized_fits w.sized in
      let o = asked_of t root d (aim_of l k d) in
      subst (λ (i : Out). Grants t i (λ s. enter_ends t root d k l s)) (enter_sized t root d k l f)
      (does_as cube_kids deepest fit (λ y. if_accepted o (on y o.id)) (λ y. 0) (λ s. enter_ends t root d k l s) (asked_grants w root d (aim_of l k d) (aim_sound l k d bytes))
      (λ y. refl) (λ y. refl) (λ s i. ends_sized t root d k l s f))

  -- Well-formed tables stay so, and tables that are not sized stay as they are.
  pub enter_well : WellFormed cube_kids deepest t → WellFormed cube_kids deepest (enter_of t root d k l).after
  enter_well w = (enter_does w).well

  pub enter_fair : Fair cube_kids deepest t → Fair cube_kids deepest (enter_of t root d k l).after
  enter_fair (inl f) = inl (ap (λ (o : Out). fits o.after) (sym (enter_unsized t root d k l f)) ∙ f)
  enter_fair (inr w) = inr (enter_well w)

  -- No slot is recycled more often than a bar has cells.
  pub enter_ends_few : WellFormed cube_kids deepest t → (s : ℕ) → enter_ends t root d k l s ≤ 2 ^ d
  enter_ends_few w s =
      let q = ends_sized t root d k l s (sized_fits w.sized) in
      let h = asked_few t root d (aim_of l k d) s (aim_sound l k d bytes) in
      omega arith
