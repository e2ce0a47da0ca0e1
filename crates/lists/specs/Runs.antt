-- Runs of calls that enter a list of changes, and the terms on which two of them end in the same id. n is the number of children of a node.
use Rattle.std.specs.Prelude.{◌≡◌, Bool, List, [], ◌∷◌, ◌++◌, ℕ}
use Rattle.tree.specs.Tree.{Root, look}
use Rattle.arena.specs.Tables.{Tables, cap, W, WellFormed}
use Rattle.arena.specs.Calls.{release_of}
use Rattle.calls.specs.Does.{Stepping, There}
use Rattle.lists.specs.Changes.{Change, entered}

-- A kind of edit: an accepted one, in the tables t, of the root a, of the cell c to the value v, leaves the tables u and answers r.
abbrev pub Entering : Type 0 → Type 1
Entering C = Tables → ℕ → C → ℕ → Tables → ℕ → Type 0

-- ## A run

-- The changes are entered from the root a in the tables t, from the left, each by an accepted edit of the root that the run stands at; its answer is the root that the
-- run then stands at. It ends with the root r in the tables u.
-- Before, between and after these edits come any other steps. After each of them the root that the run stands at is EMPTY or live. (A root that someone holds is live.)
pub data Run {C : Type 0} (Enters : Entering C) (Step : Stepping) : Tables → ℕ → List (Change C) → Tables → ℕ → Type 0 where
  done : {t : Tables} {a : ℕ} → Run Enters Step t a [] t a
  enter : {t v : Tables} {a b : ℕ} {es : List (Change C)} {u : Tables} {r : ℕ} (e : Change C) → Enters t a e.cell e.value v b → Run Enters Step v b es u r
      → Run Enters Step t a (e ∷ es) u r
  besides : {t v : Tables} {g k j : ℕ → ℕ} {a : ℕ} {es : List (Change C)} {u : Tables} {r : ℕ} → Step t v g k j → There v a → Run Enters Step v a es u r
      → Run Enters Step t a es u r

-- Over the calls from t to u the root a is kept: it is EMPTY or live after each of them. It is a run of no change.
abbrev pub Stays : {C : Type 0} → Entering C → Stepping → Tables → Tables → ℕ → Type 0
Stays Enters Step t u a = Run Enters Step t a [] u a

-- ## Two runs from one root

-- In well-formed tables t take EMPTY or one live root, tidy and no taller than d. From it the list es is entered and the list fs, in one stretch of calls from t to u: one after the
-- other, or by turns. What one run does are steps beside the other. So the starting root is kept until the later run has left it, and the end of the earlier one until the other ends.
pub record Runs (n tallest d : ℕ) {C : Type 0} (Enters : Entering C) (Step : Stepping) (t : Tables) (root : ℕ) (es : List (Change C)) (r₁ : ℕ) (fs : List (Change C)) (r₂ : ℕ)
    (u : Tables) : Type 0 where
  pub well : WellFormed n tallest t
  pub start : Root n (cap t) d (W t) root
  pub first : Run Enters Step t root es u r₁
  pub second : Run Enters Step t root fs u r₂

-- the numbers of a root's cells; `way` is the way of a cell, its child numbers from the root down
abbrev pub numbers_of : {C : Type 0} → (C → List ℕ) → Tables → ℕ → C → ℕ
numbers_of way t a c = look (W t) (way c) a

-- In well-formed tables r is EMPTY or a live root, tidy and no taller than d, and its cells have the numbers F.
pub record Ends (n tallest d : ℕ) {C : Type 0} (way : C → List ℕ) (F : C → ℕ) (t : Tables) (r : ℕ) : Type 0 where
  pub well : WellFormed n tallest t
  pub root : Root n (cap t) d (W t) r
  pub cells : (c : C) → numbers_of way t r c ≡ F c

-- Both runs end in the same id. It is a root again, and its cells have the numbers of the starting root's after the changes es.
pub record OneEnd (n tallest d : ℕ) {C : Type 0} (way : C → List ℕ) (same : C → C → Bool) (t : Tables) (root : ℕ) (es : List (Change C)) (r₁ r₂ : ℕ) (u : Tables) : Type 0 where
  pub one : r₁ ≡ r₂
  pub end : Ends n tallest d way (entered same (numbers_of way t root) es) u r₁

-- ## A crew: a run with no calls but its own

-- What a crew does by itself, once it has left the starting root: it enters the changes, each edit accepted, and gives back the holds that its edits granted on roots that it has left,
-- each once, whenever it likes. `passing` are those not yet given back, an id as often as it was left. It leaves the hold on the root that it stands at, and others' holds.
pub data Onward (tallest : ℕ) {C : Type 0} (Enters : Entering C) : List ℕ → Tables → ℕ → List (Change C) → Tables → ℕ → Type 0 where
  ends : {passing : List ℕ} {t : Tables} {a : ℕ} → Onward tallest Enters passing t a [] t a
  edits : {passing : List ℕ} {t v : Tables} {a b : ℕ} {es : List (Change C)} {u : Tables} {r : ℕ} (e : Change C) → Enters t a e.cell e.value v b
      → Onward tallest Enters (a ∷ passing) v b es u r → Onward tallest Enters passing t a (e ∷ es) u r
  releases : {t : Tables} {a : ℕ} {es : List (Change C)} {u : Tables} {r : ℕ} (before : List ℕ) (b : ℕ) (after : List ℕ)
      → Onward tallest Enters (before ++ after) (release_of tallest t b).after a es u r → Onward tallest Enters (before ++ b ∷ after) t a es u r

-- The whole of it. The hold on the starting root is not its own to give back.
pub data Crew (tallest : ℕ) {C : Type 0} (Enters : Entering C) : Tables → ℕ → List (Change C) → Tables → ℕ → Type 0 where
  idle : {t : Tables} {root : ℕ} → Crew tallest Enters t root [] t root
  begins : {t v : Tables} {root b : ℕ} {es : List (Change C)} {u : Tables} {r : ℕ} (e : Change C) → Enters t root e.cell e.value v b
      → Onward tallest Enters [] v b es u r → Crew tallest Enters t root (e ∷ es) u r
