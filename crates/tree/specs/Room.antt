-- Tables imagined with more slots, in which an edit's result stands.
use Rattle.std.specs.Prelude.{◌≡◌, ◌≢◌, List, ℕ, ◌+◌, ◌≤◌, ◌<◌}
use Rattle.nodes.specs.Words.{Words, own, slot, floor}
use Rattle.nodes.specs.Tally.{Live}
use Rattle.tree.specs.Tree.{Branch, child_of, WellMade, Extends}
use Rattle.tree.specs.Anew.{Anew}

-- every slot from cap on is dead
abbrev pub Bare : ℕ → Words → Type 0
Bare cap W = (s : ℕ) → cap ≤ s → W s own < floor

-- The tables W with k slots more: the slots that were there keep every word, and in `words` the cell p below a is made anew with the value x, with the
-- answer `id`, a new node that no branch names.
pub record Room (n cap : ℕ) (W : Words) (x : ℕ) (p : List ℕ) (a k : ℕ) : Type 0 where
  pub slots : ℕ
  pub words : Words
  pub id : ℕ
  pub size : slots ≡ cap + k
  pub made : WellMade n slots words
  pub bare : Bare slots words
  pub grows : Extends n slots W words
  pub anew : Anew n slots words x p a id
  pub now : Live slots words id
  pub new : cap ≤ slot id
  pub unnamed : (y : ℕ) → Live slots words y → Branch y → (i : ℕ) → i < n → child_of words y i ≢ id
  pub kept : (s : ℕ) → s < cap → (f : ℕ) → words s f ≡ W s f
