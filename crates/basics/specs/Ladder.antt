-- A ladder of tests: the first test that is true gives its number, in reading order; 0 if none is true.
use Rattle.std.specs.Prelude.{◌≡◌, ◌⊎◌, ◌↔◌, Bool, true, ℕ, ◌≤◌, ◌<◌}
use mathlib.Core.List.{List, [], ◌∷◌, Memᴰ}
use Rattle.basics.specs.Pick.{pick}

unfoldable pub ladder : List (Bool × ℕ) → ℕ
ladder [] = 0
ladder (r ∷ rs) = pick r.0 r.1 (ladder rs)

-- its numbers, in the order in which they are tested
abbrev pub order : List (Bool × ℕ) → List ℕ
order [] = []
order (r ∷ rs) = r.1 ∷ order rs

-- the test is true exactly if the reason holds
abbrev pub Decides : Bool → Type 0 → Type 0
Decides test Reason = (test ≡ true) ↔ Reason

-- each test decides whether its number applies, where no number tested before it does
abbrev pub Decided : (ℕ → Type 0) → List (Bool × ℕ) → Type 0
Decided applies [] = Unit {0}
Decided applies (r ∷ rs) = Decides r.0 (applies r.1) × ((applies r.1 → ⊥) → Decided applies rs)

-- no number is 0
abbrev pub Positive : List ℕ → Type 0
Positive [] = Unit {0}
Positive (k ∷ ks) = (1 ≤ k) × Positive ks

-- the numbers rise, from above m on
abbrev pub Rising : ℕ → List ℕ → Type 0
Rising m [] = Unit {0}
Rising m (k ∷ ks) = (m < k) × Rising k ks

-- no number applies that isn't listed
abbrev pub Listed : (ℕ → Type 0) → List ℕ → Type 0
Listed applies ks = (k : ℕ) → applies k → Memᴰ k ks

-- k applies, and none that stands before it in the list
abbrev pub First : (ℕ → Type 0) → List ℕ → ℕ → Type 0
First applies [] k = ⊥
First applies (j ∷ ks) k = ((j ≡ k) × applies j) ⊎ ((applies j → ⊥) × First applies ks k)

-- x is each number exactly if that is the first of the list that applies, and 0, accepted, exactly if none applies
pub record Given (applies : ℕ → Type 0) (ks : List ℕ) (x : ℕ) : Type 0 where
  pub refused : (k : ℕ) → 1 ≤ k → (x ≡ k) ↔ First applies ks k
  pub accepted : (x ≡ 0) ↔ ((k : ℕ) → applies k → ⊥)
