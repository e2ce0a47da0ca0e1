-- EMPTY, leaves and branches by the test, and the end of a path.
use Prim.Native.Nat.{ℕ, ◌+◌, ◌%◌, ◌^◌, ◌≤◌, ◌<◌}
use native.Mathlib.Decide.{ℕ_discrete}
use native.Mathlib.Omega.{arith}
use mathlib.Core.Path.{◌≡◌, ◌∙◌, refl, sym, ap}
use mathlib.Core.Bool.{Bool, true, false}
use mathlib.Core.List.{List, [], ◌∷◌}
use borrow.Author.Tests.{eq-eqb, ne_eqb, le-leb, lt-leb}
use lib.Dec.{leb, eqb}
use Rattle.basics.specs.Limits.{deepest}
use Rattle.basics.specs.Pick.{pick}
use Rattle.ids.specs.Ids.{invalid}
use Rattle.nodes.specs.Words.{Words, nodes, value, kid_of, fact_of, word_of, slot}
use Rattle.nodes.proofs.Access.{word_kid, word_fact}
use Rattle.nodes.proofs.Sums.{cases}
use Rattle.paths.specs.declared.Cell as place
use Rattle.tree.specs.Tree.{Leaf, Branch, Kind, empty, leaf, branch, kind, Cell, here, down, child_of, look}
use Rattle.nodes.specs.Values.{value_at}
use Rattle.tree.proofs.CellLaws.{cube_cell}
use Rattle.tree.proofs.Canon.{look_empty, look_leaf, look_branch, look_end, value_empty}
use Rattle.read_cell.specs.declared.End.{End}
use Rattle.read_cell.specs.Reading.{end_at, descent, end_of}
use Rattle.ids.specs.Ids.{is_end}
use Rattle.read_cell.specs.Models.{val}

pub ends_empty : (a : ℕ) → a ≡ 0 → is_end a ≡ true
unfolding is_end
ends_empty a e = rw (eq-eqb a 0 e)

pub ends_leaf : (a : ℕ) → Leaf a → is_end a ≡ true
unfolding is_end
ends_leaf a h = let e : (a ≡ 0 → ⊥) = omega arith in rw (ne_eqb a 0 e) (le-leb _ _ h)

pub ends_not : (a : ℕ) → Branch a → is_end a ≡ false
unfolding is_end
ends_not a h = rw (ne_eqb a 0 h.0) (lt-leb _ _ h.1)

pub never : true ≡ false → ⊥
never z = let n : ◌≡◌ {A = ℕ} 0 1 = cc in omega arith

pub ends_low : (a : ℕ) → a < 2 ^ 63 → eqb a 0 ≡ is_end a
unfolding is_end
ends_low a h = cases (ℕ_discrete a 0) (λ e. rw (eq-eqb a 0 e)) (λ e. rw (ne_eqb a 0 e, lt-leb (2 ^ 63) a h))

pub ends_high : (a : ℕ) → 2 ^ 63 ≤ a → true ≡ is_end a
ends_high a h = sym (ends_leaf a h)

-- ---- the clauses of descent

module _ (W : Words) (k : ℕ) where
  pub descent_end : (a : ℕ) → descent W k [] a ≡ end_at a k
  unfolding descent
  descent_end a = refl

  pub descent_stop : (c : ℕ) (p : List ℕ) (a : ℕ) → is_end a ≡ true → descent W k (c ∷ p) a ≡ end_at a k
  unfolding descent
  descent_stop c p a e = go (kind a)
    where
      go : (n : Kind a) → ◌≡◌ {A = End} (elim n [ empty _ ↦ end_at a k | leaf _ ↦ end_at a k | branch _ ↦ descent W (k + 1) p (child_of W a c) ]) (end_at a k)
      go (empty h) = refl
      go (leaf h) = refl
      go (branch h) = let z : true ≡ false = cc (e, ends_not a h) in absurd (never z)

  pub descent_on : (c : ℕ) (p : List ℕ) (a : ℕ) → is_end a ≡ false → descent W k (c ∷ p) a ≡ descent W (k + 1) p (child_of W a c)
  unfolding descent
  descent_on c p a e = go (kind a)
    where
      go : (n : Kind a) → ◌≡◌ {A = End} (elim n [ empty _ ↦ end_at a k | leaf _ ↦ end_at a k | branch _ ↦ descent W (k + 1) p (child_of W a c) ]) (descent W (k + 1) p (child_of W a c))
      go (empty h) = let z : true ≡ false = cc (e, ends_empty a h) in absurd (never z)
      go (leaf h) = let z : true ≡ false = cc (e, ends_leaf a h) in absurd (never z)
      go (branch h) = refl

-- lookup is the value of the end
pub look_descent : (W : Words) (k : ℕ) (p : List ℕ) (a : ℕ) → look W p a ≡ value_at W (descent W k p a).id.0
look_descent W k [] a = look_end W a ∙ ap (λ (e : End). value_at W e.id.0) (sym (descent_end W k a))
look_descent W k (c ∷ p) a = go (kind a) (look_descent W (k + 1) p (child_of W a c))
  where
    go : Kind a → look W p (child_of W a c) ≡ value_at W (descent W (k + 1) p (child_of W a c)).id.0 → look W (c ∷ p) a ≡ value_at W (descent W k (c ∷ p) a).id.0
    go (empty h) ih =
        look_empty W c p a h ∙ sym (value_empty W a h) ∙ ap (λ (e : End). value_at W e.id.0) (sym (descent_stop W k c p a (ends_empty a h)))
    go (leaf h) ih = look_leaf W c p a h ∙ ap (λ (e : End). value_at W e.id.0) (sym (descent_stop W k c p a (ends_leaf a h)))
    go (branch h) ih = look_branch W c p a h ∙ ih ∙ ap (λ (e : End). value_at W e.id.0) (sym (descent_on W k c p a (ends_not a h)))

-- ---- what the accessors give: children by `kids`, values by `facts`

pub val_word : (W : Words) (a s w r : ℕ) → s ≡ slot a → w ≡ W s value → r ≡ pick (eqb a 0) 0 (w % 2 ^ 16) → r ≡ val W a
unfolding val value_at
val_word W a s w r e k q =
    let p = k ∙ ap (λ (i : ℕ). W i value) e in
    q ∙ cases (ℕ_discrete a 0) (λ z. rw (eq-eqb a 0 z)) (λ z. rw (ne_eqb a 0 z, p))

module _ (ks fs : List ℕ) where
  value_facts : (a : ℕ) → value_at (fact_of fs) a ≡ value_at (word_of (nodes ks fs)) a
  unfolding value_at
  value_facts a = ap (pick (eqb a 0) 0) (sym (word_fact (nodes ks fs) (slot a) value (omega arith)))

  pub val_facts : (a : ℕ) → val (fact_of fs) a ≡ val (word_of (nodes ks fs)) a
  unfolding val
  val_facts a = ap (λ (n : ℕ). n % 2 ^ 16) (value_facts a)

  kids_step : (k c : ℕ) (p : List ℕ) (a : ℕ) → c < 8
      → ((b : ℕ) → descent (kid_of ks) (k + 1) p b ≡ descent (word_of (nodes ks fs)) (k + 1) p b)
      → descent (kid_of ks) k (c ∷ p) a ≡ descent (word_of (nodes ks fs)) k (c ∷ p) a
  kids_step k c p a h ih = go (is_end a) refl
    where
      go : (t : Bool) → is_end a ≡ t → descent (kid_of ks) k (c ∷ p) a ≡ descent (word_of (nodes ks fs)) k (c ∷ p) a
      go true e = descent_stop (kid_of ks) k c p a e ∙ sym (descent_stop (word_of (nodes ks fs)) k c p a e)
      go false e =
          descent_on (kid_of ks) k c p a e ∙ ih (kid_of ks (slot a) c)
          ∙ ap (descent (word_of (nodes ks fs)) (k + 1) p) (sym (word_kid (nodes ks fs) (slot a) c h))
          ∙ sym (descent_on (word_of (nodes ks fs)) k c p a e)

  -- the end by the children alone is the end
  pub descent_kids : {d : ℕ} {p : List ℕ} (k a : ℕ) → Cell 8 d p → descent (kid_of ks) k p a ≡ descent (word_of (nodes ks fs)) k p a
  descent_kids k a here = descent_end (kid_of ks) k a ∙ sym (descent_end (word_of (nodes ks fs)) k a)
  descent_kids k a (down {c = c} {p = p} h t) = kids_step k c p a h (λ b. descent_kids (k + 1) b t)

  pub end_kids : (id : ℕ) (c : place.Cell) → end_of (kid_of ks) id c ≡ end_of (word_of (nodes ks fs)) id c
  unfolding end_of
  end_kids id c = ap (λ (e : End). pick (leb c.depth deepest) e (end_at invalid 0)) (descent_kids 0 id (cube_cell c.depth c.x c.y c.z))
