-- What the functions need of the definitions: each way that the code takes comes to what `enter_of` says.
use mathlib.Core.Path.{◌≡◌, sym, ap, ◌∙◌, subst}
use mathlib.Core.Logic.{◌≢◌}
use mathlib.Core.Bool.{Bool, true, false}
use mathlib.Core.List.{List}
use Prim.Native.Nat.{ℕ, ◌-◌, ◌≤◌}
use borrow.Author.Tests.{eq-eqb, ne_eqb}
use Rattle.basics.specs.Limits.{deepest, cube_kids}
use Rattle.metres.specs.Record.{aim_of}
use Rattle.std.specs.declared.option.Option.{Option}
use Rattle.std.specs.declared.result.Result.{Result}
use Rattle.std.specs.declared.option.Option.TheVariants.{Some, None}
use Rattle.std.specs.declared.result.Result.TheVariants.{Ok, Err}
use Rattle.basics.specs.declared.Refusal.{Refusal}
use Rattle.basics.specs.Refusals.{number}
use Rattle.metres.specs.declared.Cells.{Cells}
use Rattle.arena.specs.Tables.{Tables}
use Rattle.arena.specs.Calls.{Out, said, refused, did, fits, Fair, hold_no, hold_of}
use Rattle.ledger.proofs.Ladders.{hold_no_lem}
use Rattle.ledger.proofs.Refusals.{hold_refused}
use Rattle.bars.specs.Bars.{bar_of}
use Rattle.readings.specs.Enter.{pause_of, asked_of, enter_of}
use Rattle.readings.specs.Models.{Rising}

-- ## A pause

module _ (t : Tables) (root : ℕ) where
  pub paused : hold_no t root ≡ 0 → pause_of t root ≡ said 0 root (hold_of t root).after
  unfolding pause_of
  paused z = rw (eq-eqb (hold_no t root) 0 z)

  pub unpaused : hold_no t root ≢ 0 → pause_of t root ≡ refused (hold_no t root) t
  unfolding pause_of
  unpaused z = rw (ne_eqb (hold_no t root) 0 z)

  -- the code holds the root, and answers it
  module _ (x : ℕ) (u : Tables) (h : did x u ≡ hold_of t root) where
    same_no : x ≡ hold_no t root
    same_no = ap (λ (o : Out). o.no) h ∙ hold_no_lem t root

    after : u ≡ (hold_of t root).after
    after = ap (λ (o : Out). o.after) h

    pub pause_held : x ≡ 0 → said x root u ≡ pause_of t root
    pause_held z = ap (λ (n : ℕ). said n root u) z ∙ ap (said 0 root) after ∙ sym (paused (sym same_no ∙ z))

    pub pause_refused : (x ≡ 0 → ⊥) → refused x u ≡ pause_of t root
    pause_refused z =
        let n : hold_no t root ≢ 0 = λ e. z (same_no ∙ e) in
        ap (λ (k : ℕ). refused k u) same_no ∙ ap (refused (hold_no t root)) (after ∙ hold_refused t root (λ e. n (sym (hold_no_lem t root) ∙ e))) ∙ sym (unpaused n)

-- ## What a record asks for

module _ (t : Tables) (root d : ℕ) (m : Result (Option Cells) Refusal) where
  pub act_pause : m ≡ Ok None → (o : Out) → o ≡ pause_of t root → o ≡ asked_of t root d m
  unfolding asked_of
  act_pause i o h = h ∙ ap (asked_of t root d) (sym i)

  pub act_refused : (refusal : Refusal) → m ≡ Err refusal → refused (number refusal) t ≡ asked_of t root d m
  unfolding asked_of
  act_refused refusal i = ap (asked_of t root d) (sym i)

  pub act_cells : (c : Cells) → m ≡ Ok (Some c) → (o : Out) → (Fair cube_kids deepest t → o ≡ bar_of t root d c.y c.z c.first (c.last - c.first) c.value)
      → Fair cube_kids deepest t → o ≡ asked_of t root d m
  unfolding asked_of
  act_cells c i o h fair = h fair ∙ ap (asked_of t root d) (sym i)

pub rising : (m : Result (Option Cells) Refusal) → Rising m → (c : Cells) → m ≡ Ok (Some c) → c.first ≤ c.last
rising m h c i = subst Rising i h

-- ## A record

module _ (t : Tables) (root d k : ℕ) (l : List ℕ) where
  pub enter_unsized : fits t ≡ false → refused 1 t ≡ enter_of t root d k l
  unfolding enter_of
  enter_unsized f = rw f

  pub enter_sized : fits t ≡ true → asked_of t root d (aim_of l k d) ≡ enter_of t root d k l
  unfolding enter_of
  enter_sized f = rw f

  pub enter_asked : (f : Bool) → f ≡ fits t → f ≡ true → (m : Result (Option Cells) Refusal) → m ≡ aim_of l k d → (o : Out)
      → (Fair cube_kids deepest t → o ≡ asked_of t root d m) → Fair cube_kids deepest t → o ≡ enter_of t root d k l
  enter_asked f e y m i o h fair = h fair ∙ ap (asked_of t root d) i ∙ enter_sized (sym e ∙ y)

  pub enter_unfit : (f : Bool) → f ≡ fits t → f ≡ false → refused 1 t ≡ enter_of t root d k l
  enter_unfit f e n = enter_unsized (sym e ∙ n)
