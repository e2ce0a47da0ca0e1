-- A crew keeps the terms: every root that someone holds stays held, and so does the root that the crew stands at.
use mathlib.Core.Path.{◌≡◌, refl}
use mathlib.Core.Logic.{◌⊎◌, inl, inr}
use mathlib.Core.Bool.{Bool}
use mathlib.Core.List.{List, [], ◌∷◌, ◌++◌}
use Prim.Native.Nat.{ℕ, ◌+◌, ◌≤◌}
use native.Mathlib.Decide.{ℕ_discrete}
use native.Mathlib.Omega.{arith}
use Rattle.nodes.proofs.Sums.{cases}
use Rattle.tree.specs.Tree.{Root}
use Rattle.arena.specs.Calls.{Out, release_of}
use Rattle.arena.specs.Tables.{Tables, cap, W, WellFormed}
use Rattle.ledger.specs.Ledger.{on, if_accepted, holds_on}
use Rattle.ledger.proofs.Effects.{on_same, accepted, unaccepted}
use Rattle.calls.specs.Does.{Stepping, Held}
use Rattle.calls.proofs.Arena.{release_does}
use Rattle.calls.proofs.Follows.{held_there}
use Rattle.lists.specs.Changes.{Change}
use Rattle.lists.specs.Runs.{Entering, Run, done, enter, besides, Stays, Runs, Onward, ends, edits, releases, Crew, idle, begins}
use Rattle.lists.specs.Kinds.{CellKind}
use Rattle.lists.proofs.Runs.{enter_besides}
use Rattle.lists.proofs.Theorems.{in_turn}

-- ## Holds

-- the holds on y that the roots of a list stand for, one each
unfoldable all : ℕ → List ℕ → ℕ
all y [] = 0
all y (x ∷ xs) = on y x + all y xs

all_without : (y : ℕ) (before : List ℕ) (b : ℕ) (after : List ℕ) → all y (before ++ b ∷ after) ≡ on y b + all y (before ++ after)
unfolding all
all_without y [] b after = refl
all_without y (x ∷ xs) b after = omega (arith, all_without y xs b after)

at_most : (o : Out) (k : ℕ) → if_accepted o k ≤ k
at_most o k = cases (ℕ_discrete o.no 0) (λ e. omega (arith, accepted o k e)) (λ e. omega (arith, unaccepted o k e))

-- what was held before (h) is held still, and so is the root that the crew stands at
held_now : (u : Tables) (h : ℕ → ℕ) (r y : ℕ) → ((y : ℕ) → h y + on y r ≤ holds_on u y) → (y ≡ 0) ⊎ (1 ≤ h y) → Held u y
held_now u h r y k (inl e) = inl e
held_now u h r y k (inr l) = inr (omega (arith, k y))

stands_held : (u : Tables) (h : ℕ → ℕ) (r : ℕ) → ((y : ℕ) → h y + on y r ≤ holds_on u y) → Held u r
stands_held u h r k = cases (ℕ_discrete r 0) (λ e. inl e) (λ e. inr (omega (arith, k r, on_same r r e refl)))

module _ {n tallest d : ℕ} {C : Type 0} {way : C → List ℕ} {same : C → C → Bool} {Enters : Entering C} {Step : Stepping} (kind : CellKind n tallest d way same Enters Step) where
  -- ## Onward

  -- h y holds on y are others', and the crew has one for each of its passing roots and one for the root that it stands at
  record Ended (t : Tables) (a : ℕ) (es : List (Change C)) (u : Tables) (r : ℕ) (h : ℕ → ℕ) : Type 0 where
    run : Run Enters Step t a es u r
    stays : (b : ℕ) → (b ≡ 0) ⊎ (1 ≤ h b) → Stays Enters Step t u b
    well : WellFormed n tallest u
    holding : (y : ℕ) → h y + on y r ≤ holds_on u y

  onward_run : (h : ℕ → ℕ) {passing : List ℕ} {t : Tables} {a : ℕ} {es : List (Change C)} {u : Tables} {r : ℕ} → WellFormed n tallest t
      → ((y : ℕ) → h y + all y passing + on y a ≤ holds_on t y) → Onward tallest Enters passing t a es u r → Ended t a es u r h
  unfolding all
  onward_run h w k ends = record { run = done; stays = λ b l. done; well = w; holding = λ y. omega (arith, k y) }
  onward_run h {t = t} {a = a} w k (edits e i rest) =
      let x = (kind.enters e.cell e.value w i).does in
      let z = onward_run h x.well (λ y. omega (arith, k y, x.balance y)) rest in
      record {
        run = enter e i z.run;
        stays = λ b l. enter_besides kind e w i (held_there t b (held_now t h a b (λ y. omega (arith, k y)) l)) (z.stays b l);
        well = z.well;
        holding = z.holding;
      }
  onward_run h {t = t} {a = a} w k (releases before b after rest) =
      let v = (release_of tallest t b).after in
      let x = release_does kind.words w b in
      let now : (y : ℕ) → h y + all y (before ++ after) + on y a ≤ holds_on v y =
      (λ y. omega (arith, k y, all_without y before b after, x.balance y, at_most (release_of tallest t b) (on y b))) in
      let less : (y : ℕ) → h y + on y a ≤ holds_on v y = (λ y. omega (arith, now y)) in
      let z = onward_run h x.well now rest in
      let (granted, taken, times, step) = kind.release t b in
      record {
        run = besides step (held_there v a (stands_held v h a less)) z.run;
        stays = λ c l. besides step (held_there v c (held_now v h a c less l)) (z.stays c l);
        well = z.well;
        holding = z.holding;
      }

  -- ## A crew

  pub record Went (t : Tables) (root : ℕ) (es : List (Change C)) (u : Tables) (r : ℕ) : Type 0 where
    -- it is a run, and every root that is EMPTY or held when it starts is kept
    pub run : Run Enters Step t root es u r
    pub stays : (b : ℕ) → Held t b → Stays Enters Step t u b
    pub well : WellFormed n tallest u
    -- whatever was held is held when it ends, and so is its final root
    pub holds : (y : ℕ) → holds_on t y ≤ holds_on u y
    pub end : Held t root → Held u r

  pub crew_run : {t : Tables} {root : ℕ} {es : List (Change C)} {u : Tables} {r : ℕ} → WellFormed n tallest t → Crew tallest Enters t root es u r → Went t root es u r
  unfolding all
  crew_run w idle = record { run = done; stays = λ b h. done; well = w; holds = λ y. omega arith; end = λ h. h }
  crew_run {t} {root} {u = u} {r = r} w (begins e i rest) =
      let x = (kind.enters e.cell e.value w i).does in
      let z = onward_run (holds_on t) x.well (λ y. omega (arith, x.balance y)) rest in
      record {
        run = enter e i z.run;
        stays = λ b h. enter_besides kind e w i (held_there t b h) (z.stays b h);
        well = z.well;
        holds = λ y. omega (arith, z.holding y);
        end = λ s. stands_held u (holds_on t) r z.holding;
      }

  -- Two crews one after the other, from EMPTY or one held tidy root no taller than d: the terms are met.
  pub two_crews : {t : Tables} {root : ℕ} {es : List (Change C)} {t₁ : Tables} {r₁ : ℕ} {fs : List (Change C)} {r₂ : ℕ} {u : Tables} → WellFormed n tallest t → Held t root
      → Root n (cap t) d (W t) root → Crew tallest Enters t root es t₁ r₁ → Crew tallest Enters t₁ root fs u r₂ → Runs n tallest d Enters Step t root es r₁ fs r₂ u
  two_crews {root = root} {r₁ = r₁} w held start one two =
      let x = crew_run w one in
      let y = crew_run x.well two in
      in_turn w start x.run (x.stays root held) y.run (y.stays r₁ (x.end held))
