-- The two sums over the children, one child after the other.
use mathlib.Core.Path.{◌≡◌, refl, ap, ◌∙◌}
use mathlib.Core.List.{List}
use Prim.Native.Nat.{ℕ, ◌+◌, ◌/◌, ◌≤◌, max}
use native.Mathlib.Numerals.{add-one}
use native.Mathlib.Omega.{arith}
use borrow.Author.Tests.{eq-eqb, ne_eqb}
use lib.ListN.{get_or}
use Rattle.basics.specs.Limits.{cube_kids}
use Rattle.basics.specs.Sums.{sum_to}
use Rattle.nodes.specs.Words.{Words, height, slot, value}
use Rattle.nodes.specs.Values.{height_at, max_to, value_at}
use Rattle.arena.specs.Models.{top_for}
use Rattle.arena.specs.Node.{sum_for, value_for}

module _ (U : Words) (y : ℕ) where
  pub value_none : y ≡ 0 → 0 ≡ value_at U y
  unfolding value_at
  value_none e = rw (eq-eqb y 0 e)

  pub value_node : (s w : ℕ) → (y ≡ 0 → ⊥) → s ≡ slot y → w ≡ U s value → w ≡ value_at U y
  unfolding value_at
  value_node s w d es ew = rw (ne_eqb y 0 d) (ew ∙ ap (λ (x : ℕ). U x value) es)

  pub height_none : y ≡ 0 → 0 ≡ height_at U y
  unfolding height_at
  height_none e = rw (eq-eqb y 0 e)

  pub height_node : (s w : ℕ) → (y ≡ 0 → ⊥) → s ≡ slot y → w ≡ U s height → w ≡ height_at U y
  unfolding height_at
  height_node s w d es ew = rw (ne_eqb y 0 d) (ew ∙ ap (λ (x : ℕ). U x height) es)

module _ (U : Words) (ks : List ℕ) where
  pub sum_start : 0 ≡ sum_for 0 U ks
  unfolding sum_for sum_to
  sum_start = refl

  pub sum_step : (sum i v : ℕ) → sum ≡ sum_for i U ks → v ≡ value_at U (get_or ks i 0) → sum + v ≡ sum_for (i + 1) U ks
  unfolding sum_for sum_to
  sum_step sum i v e ev = rw (add-one i, e, ev)

  pub sum_last : (sum i : ℕ) → sum ≡ sum_for i U ks → i ≤ cube_kids → cube_kids ≤ i → sum ≡ sum_for cube_kids U ks
  sum_last sum i e a b = let q : i ≡ cube_kids = omega arith in rw q at e

  pub value_last : (sum i : ℕ) → sum ≡ sum_for i U ks → i ≤ cube_kids → cube_kids ≤ i → sum / cube_kids ≡ value_for cube_kids U ks
  unfolding value_for sum_for
  value_last sum i e a b = let q : i ≡ cube_kids = omega arith in ap (λ (x : ℕ). x / cube_kids) (rw q at e)

  pub top_start : 0 ≡ top_for U ks 0
  unfolding top_for max_to
  top_start = refl

  pub top_step : (top i v : ℕ) → top ≡ top_for U ks i → v ≡ height_at U (get_or ks i 0) → max top v ≡ top_for U ks (i + 1)
  unfolding top_for max_to
  top_step top i v e ev = rw (add-one i, e, ev)

  pub top_last : (top i : ℕ) → top ≡ top_for U ks i → i ≤ cube_kids → cube_kids ≤ i → top ≡ top_for U ks cube_kids
  top_last top i e a b = let q : i ≡ cube_kids = omega arith in rw q at e

module _ (U : Words) (ks : List ℕ) (i : ℕ) where
  -- an EMPTY child is passed over
  pub sum_none : (sum x : ℕ) → sum ≡ sum_for i U ks → get_or ks i 0 ≡ 0 → x ≡ sum → x ≡ sum_for (i + 1) U ks
  sum_none sum x e z ex = let w = sum_step U ks sum i 0 e (value_none U (get_or ks i 0) z) in omega arith

  pub top_none : (top x : ℕ) → top ≡ top_for U ks i → get_or ks i 0 ≡ 0 → x ≡ top → x ≡ top_for U ks (i + 1)
  top_none top x e z ex = let w = top_step U ks top i 0 e (height_none U (get_or ks i 0) z) in omega arith

  -- the node of another adds its two facts
  pub sum_node : (sum x s v : ℕ) → sum ≡ sum_for i U ks → (get_or ks i 0 ≡ 0 → ⊥) → s ≡ slot (get_or ks i 0) → v ≡ U s value → x ≡ sum + v
      → x ≡ sum_for (i + 1) U ks
  sum_node sum x s v e d es ev ex = ex ∙ sum_step U ks sum i v e (value_node U (get_or ks i 0) s v d es ev)

  pub top_node : (top x m s v : ℕ) → top ≡ top_for U ks i → (get_or ks i 0 ≡ 0 → ⊥) → s ≡ slot (get_or ks i 0) → v ≡ U s height → m ≡ max top v
      → x ≡ m → x ≡ top_for U ks (i + 1)
  top_node top x m s v e d es ev em ex = ex ∙ em ∙ top_step U ks top i v e (height_node U (get_or ks i 0) s v d es ev)

-- what `sums_of` needs
pub ruleset steps = (sum_start, top_start, sum_none, top_none, sum_node, top_node, sum_last, value_last, top_last)
