-- Which roots stand for a cube: in a well-formed arena every root that is there, at every depth no less than its height. And what interning answers: a leaf
-- stands for its value, a branch for its children's cubes as octants.
use mathlib.Core.Path.{◌≡◌, refl, sym, ap, ◌∙◌, subst}
use mathlib.Core.Logic.{inl, inr, ⊎_elim}
use mathlib.Core.List.{List}
use Prim.Native.Nat.{ℕ, zero, suc, ◌≤◌, ◌<◌}
use native.Mathlib.Omega.{arith}
use lib.ListN.{length, get_or}
use lib.Seq.{ext_get_or}
use borrow.Author.Tests.{ne_eqb}
use Rattle.basics.specs.Limits.{deepest, cube_kids, kid_words, largest_value}
use Rattle.basics.specs.Sums.{sum_to}
use Rattle.nodes.specs.Values.{value_at, height_at}
use Rattle.nodes.specs.Words.{Words, height, slot}
use Rattle.nodes.proofs.Counts.{live_nonzero}
use Rattle.tree.specs.Tree.{Leaf, Branch, Kind, empty, leaf, branch, kind, Below, child_of, Flat}
use Rattle.tree.proofs.Canon.{low_flat, value_empty, kid_lower, live, live_leaf}
use Rattle.tree.proofs.Grow.{below_live}
use Rattle.arena.specs.Calls.{intern_leaf_of, intern_branch_of, empties}
use Rattle.arena.specs.Node.{LeafNode, value_for}
use Rattle.arena.specs.Tables.{Tables, cap, W, WellFormed}
use Rattle.arena.proofs.Leaves.{leaf_well}
use Rattle.arena.proofs.Rows.{empties_at}
use Rattle.ledger.specs.Fates.{Lives, HasContent}
use Rattle.ledger.proofs.Contents.{leaf_interned, branch_interned}
use Rattle.ledger.proofs.Found.{kid_word, lives_slot}
use Rattle.read_cell.proofs.Meaning.{wf_made}
use Rattle.calls.specs.Does.{Held, There}
use Rattle.calls.proofs.Follows.{held_there}
use Rattle.promises.specs.Promises.{Cube, joined, Stands, solid, octants, other, branch as branch_call, empty as stands_empty}
use Rattle.promises.proofs.Calls.{call_does}
use Rattle.promises.proofs.Cubes.{stands_well}

fit : cube_kids ≤ kid_words
fit = omega arith

-- ## Which roots are there

-- EMPTY and a held root; and whatever is at or below one that is there
pub held_is_there : (t : Tables) (a : ℕ) → Held t a → There t a
held_is_there = held_there

pub below_is_there : {t : Tables} → WellFormed cube_kids deepest t → (a b : ℕ) → There t a → Below cube_kids (W t) a b → There t b
below_is_there w a b l u = below_live (wf_made fit w) l u

-- ## Each of them stands for a cube

tree_cube : Words → (d : ℕ) → ℕ → Cube d
tree_cube U zero a = λ s. value_at U a
tree_cube U (suc d) a = elim (kind a) [ empty _ ↦ λ s. value_at U a | leaf _ ↦ λ s. value_at U a | branch _ ↦ joined (λ i. tree_cube U d (child_of U a i)) ]

module _ {t : Tables} (w : WellFormed cube_kids deepest t) where
  flat_stands : (d a : ℕ) → There t a → Flat a → Stands d t a (λ s. value_at (W t) a)
  flat_stands d a l (inl e) =
      subst (λ (b : ℕ). Stands d t b (λ s. value_at (W t) b)) (sym e)
      (subst (λ (v : ℕ). Stands d t 0 (λ s. v)) (sym (value_empty (W t) 0 refl)) (stands_empty w))
  flat_stands d a l (inr f) = solid w (live_leaf l f) f

  step : (d a : ℕ) → There t a → height_at (W t) a ≤ suc d → ((b : ℕ) → There t b → height_at (W t) b ≤ d → Stands d t b (tree_cube (W t) d b))
      → Stands (suc d) t a (tree_cube (W t) (suc d) a)
  unfolding tree_cube
  step d a l h ih = go (kind a)
    where
      go : (k : Kind a) → Stands (suc d) t a (elim k [ empty _ ↦ λ s. value_at (W t) a | leaf _ ↦ λ s. value_at (W t) a | branch _ ↦ joined (λ i. tree_cube (W t) d (child_of (W t) a i)) ])
      go (empty e) = flat_stands (suc d) a l (inl e)
      go (leaf f) = flat_stands (suc d) a l (inr f)
      go (branch b) =
          let m = wf_made fit w in
          let v : Lives t a = live l b.0 in
          octants v b (λ i. tree_cube (W t) d (child_of (W t) a i))
          (λ i k. ih (child_of (W t) a i) ((m.branches a v b).kids i k) (omega (arith, kid_lower cube_kids (cap t) (W t) m a i v b k)))

  tree_stands : (d a : ℕ) → There t a → height_at (W t) a ≤ d → Stands d t a (tree_cube (W t) d a)
  unfolding tree_cube
  tree_stands zero a l h = flat_stands 0 a l (low_flat cube_kids (cap t) (W t) (wf_made fit w) a l (omega arith))
  tree_stands (suc d) a l h = step d a l h (λ b k g. tree_stands d b k g)

  -- Every root that is there stands for a cube, at every depth no less than its height.
  pub every_root_stands : (d a : ℕ) → There t a → height_at (W t) a ≤ d → (F : Cube d) × Stands d t a F
  every_root_stands d a l h = (tree_cube (W t) d a, tree_stands d a l h)

-- ## A node of known children

empties_length : length empties ≡ kid_words
unfolding empties
empties_length = refl

-- eight EMPTY have the value 0
none_value : (U : Words) → value_for cube_kids U empties ≡ 0
unfolding value_for empties sum_to value_at
none_value U = refl

module _ {u : Tables} (w : WellFormed cube_kids deepest u) (id v : ℕ) (ks : List ℕ) (k : HasContent u id ks v) where
  pub value_is : value_at (W u) id ≡ v
  unfolding value_at
  value_is = rw (ne_eqb id 0 (live_nonzero k.live)) k.worth

  height_is : height_at (W u) id ≡ W u (slot id) height
  unfolding height_at
  height_is = rw (ne_eqb id 0 (live_nonzero k.live))

  pub kid_is : (i : ℕ) → i < kid_words → child_of (W u) id i ≡ get_or ks i 0
  kid_is i h = kid_word (W u) (slot id) i h ∙ ap (λ (l : List ℕ). get_or l i 0) k.kids

  pub flat_is : ks ≡ empties → Flat id
  flat_is e = go (kind id)
    where
      go : Kind id → Flat id
      go (empty z) = inl z
      go (leaf l) = inr l
      go (branch b) =
          absurd (((wf_made fit w).branches id k.live b).not_all_empty (λ i h. kid_is i (omega arith) ∙ ap (λ (l : List ℕ). get_or l i 0) e ∙ empties_at i (omega arith)))

  pub branch_is : length ks ≡ kid_words → (U : Words) → v ≡ value_for cube_kids U ks → Branch id
  branch_is e U q = go (kind id)
    where
      bare : LeafNode (W u) (slot id) → ks ≡ empties
      bare n = ext_get_or 0 ks empties (e ∙ sym empties_length) (λ i h.
          let j : i < kid_words = subst (λ (m : ℕ). i < m) e h in
          sym (kid_is i j) ∙ n.bare i j ∙ sym (empties_at i j))

      flat : Leaf id → Branch id
      flat l =
          let z = ((wf_made fit w).leaves id k.live l).flat in
          let x = height_is in
          ⊎_elim
          (λ n. absurd (omega (arith, n.some, k.worth, q, ap (value_for cube_kids U) (bare n), none_value U)))
          (λ n. absurd (omega (arith, n.tall)))
          (w.nodes (slot id) (lives_slot u id k.live)).kind

      go : Kind id → Branch id
      go (empty z) = absurd (live_nonzero k.live z)
      go (leaf l) = flat l
      go (branch b) = b

-- ## What interning answers

-- A leaf stands for its value throughout, at every depth.
pub leaf_stands : (d : ℕ) {t : Tables} → WellFormed cube_kids deepest t → (v : ℕ) → v ≤ largest_value → (intern_leaf_of t v).no ≡ 0
    → Stands d (intern_leaf_of t v).after (intern_leaf_of t v).id (λ s. v)
leaf_stands d {t} w v h ok =
    let u = (intern_leaf_of t v).after in
    let id = (intern_leaf_of t v).id in
    let k = (leaf_interned fit w v ok).has in
    let x = leaf_well v fit h w in
    subst (λ (y : ℕ). Stands d u id (λ s. y)) (value_is x id v empties k) (flat_stands x d id (inr k.live) (flat_is x id v empties k refl))

-- A branch of children that stand for cubes stands for these as octants.
pub branch_stands : {d : ℕ} {t : Tables} (ks : List ℕ) (F : ℕ → Cube d) → length ks ≡ kid_words → ((i : ℕ) → i < cube_kids → Stands d t (get_or ks i 0) (F i))
    → (intern_branch_of cube_kids deepest t ks).no ≡ 0 → Stands (suc d) (intern_branch_of cube_kids deepest t ks).after (intern_branch_of cube_kids deepest t ks).id (joined F)
branch_stands {d} {t} ks F e s ok =
    let u = (intern_branch_of cube_kids deepest t ks).after in
    let id = (intern_branch_of cube_kids deepest t ks).id in
    let w = stands_well (s 0 (omega arith)) in
    let x = (call_does w (branch_call ks) e).well in
    let k = (branch_interned fit w ks e ok).has in
    let b = branch_is x id _ ks k e (W t) refl in
    octants k.live b F
    (λ i h.
    let q : child_of (W u) id i ≡ get_or ks i 0 = kid_is x id _ ks k i h in
    let l : There u (get_or ks i 0) = subst (λ (y : ℕ). There u y) q (((wf_made fit x).branches id k.live b).kids i h) in
    subst (λ (y : ℕ). Stands d u y (F i)) (sym q) (other (branch_call ks) e l (s i h)))
