-- Readings among the calls: the answer of a shot or a bar stands for the old root's plain cube with its cells painted, and every other root for the cube that
-- it stood for.
use mathlib.Core.Path.{◌≡◌, sym, ap, ◌∙◌, subst}
use mathlib.Core.Bool.{true}
use mathlib.Core.List.{List}
use Prim.Native.Nat.{ℕ, ◌+◌, ◌-◌, ◌≤◌}
use native.Mathlib.Decide.{ℕ_discrete}
use native.Mathlib.Omega.{arith}
use Rattle.basics.specs.Limits.{cube_kids, kid_words}
use Rattle.nodes.proofs.Sums.{cases}
use Rattle.arena.specs.Calls.{Out, fits, hold_no}
use Rattle.arena.specs.Tables.{Tables}
use Rattle.arena.proofs.Fits.{sized_fits}
use Rattle.calls.proofs.Roots.{kept_there}
use Rattle.basics.specs.Bytes.{Bytes}
use Rattle.metres.specs.Record.{cells_at, aim_of}
use Rattle.std.specs.declared.option.Option.{Option}
use Rattle.std.specs.declared.option.Option.TheVariants.{Some, None}
use Rattle.std.specs.declared.result.Result.{Result}
use Rattle.std.specs.declared.result.Result.TheVariants.{Ok, Err}
use Rattle.basics.specs.declared.Refusal.{Refusal}
use Rattle.metres.specs.declared.Cells.{Cells}
use Rattle.bars.specs.Bars.{bar_of}
use Rattle.readings.specs.Enter.{pause_of, asked_of, enter_of}
use Rattle.readings.proofs.Aims.{SoundCells, Sound, aim_sound}
use Rattle.readings.proofs.Law.{paused, unpaused, enter_sized}
use Rattle.readings.proofs.Theorems.{enter_kept, enter_bar}
use Rattle.calls.specs.Does.{There}
use Rattle.promises.specs.Promises.{Cube, hold, Stands, other}
use Rattle.promises.specs.Bars.{painted}
use Rattle.promises.proofs.Cubes.{stands_well, stands_there}
use Rattle.promises.proofs.Bars.{bar_stands, bar_others}

fit : cube_kids ≤ kid_words
fit = omega arith

module _ {d : ℕ} {t : Tables} {root : ℕ} {F : Cube d} (s : Stands d t root F) (k : ℕ) (l : List ℕ) (bytes : Bytes l) where
  f : fits t ≡ true
  f = sized_fits (stands_well s).sized

  -- An accepted shot or bar changes just its cells of the cube.
  pub reading_stands : {a b y z v : ℕ} → aim_of l k d ≡ Ok (Some (cells_at a b y z v)) → (enter_of t root d k l).no ≡ 0
      → Stands d (enter_of t root d k l).after (enter_of t root d k l).id (painted F y z a b v)
  reading_stands {a} {b} {y} {z} {v} e ok =
      let g : SoundCells d a b y z v = subst (Sound d) e (aim_sound l k d bytes) in
      let q = enter_bar t root d k l f e in
      let up = g.rises in
      let last : a + (b - a) ≡ b = omega arith in
      subst (λ (i : Out). Stands d i.after i.id (painted F y z a b v)) (sym q)
      (subst (λ (n : ℕ). Stands d (bar_of t root d y z a (b - a) v).after (bar_of t root d y z a (b - a) v).id (painted F y z a n v)) last
      (bar_stands s y z a (b - a) v g.small (sym (ap (λ (i : Out). i.no) q) ∙ ok)))

-- Every root that stood for a cube stands for it after a reading, accepted or refused.
module _ {e : ℕ} {t : Tables} {b : ℕ} {F : Cube e} (s : Stands e t b F) (root d k : ℕ) (l : List ℕ) (bytes : Bytes l) where
  there : There (enter_of t root d k l).after b
  there = kept_there fit (stands_well s) (stands_there s) (enter_kept (stands_well s) root d k l bytes b)

  pause_others : There (pause_of t root).after b → Stands e (pause_of t root).after b F
  pause_others h = cases (ℕ_discrete (hold_no t root) 0)
      (λ z. subst (λ (o : Out). There o.after b → Stands e o.after b F) (sym (paused t root z)) (λ i. other (hold root) tt i s) h)
      (λ z. subst (λ (o : Out). Stands e o.after b F) (sym (unpaused t root z)) s)

  asked_others : (m : Result (Option Cells) Refusal) → Sound d m → There (asked_of t root d m).after b → Stands e (asked_of t root d m).after b F
  unfolding asked_of
  asked_others (Ok None) g h = pause_others h
  asked_others (Ok (Some c)) g h = bar_others s root d c.y c.z c.first (c.last - c.first) c.value g.small
  asked_others (Err refusal) g h = s

  pub reading_others : Stands e (enter_of t root d k l).after b F
  reading_others =
      let q = enter_sized t root d k l (sized_fits (stands_well s).sized) in
      subst (λ (o : Out). There o.after b → Stands e o.after b F) q (asked_others (aim_of l k d) (aim_sound l k d bytes)) there
