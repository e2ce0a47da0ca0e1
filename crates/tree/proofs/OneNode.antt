-- One node more, and one node less: what interning a fresh node and recycling do to a well-made tree.
use mathlib.Core.Path.{◌≡◌, refl, sym, ap, ◌∙◌}
use mathlib.Core.Logic.{◌≢◌, ◌⊎◌, inl, inr}
use Prim.Native.Nat.{ℕ, zero, suc, ◌/◌, ◌≤◌, ◌<◌}
use native.Mathlib.Decide.{ℕ_discrete}
use native.Mathlib.Omega.{arith}
use lib.Dec.{eqb}
use Rattle.nodes.specs.Words.{Words, own, value, height, holds, slot, floor}
use Rattle.basics.specs.Pick.{pick}
use Rattle.basics.specs.Sums.{average}
use Rattle.nodes.specs.Tally.{Live}
use Rattle.nodes.proofs.Sums.{sum_to_ext_lem}
use Rattle.nodes.proofs.Counts.{live_inj, live_same}
use Rattle.tree.specs.Tree.{EMPTY, Leaf, Branch, LiveOr0, child_of, SameKids, AllKids, LeafMade, BranchMade, WellMade, Same, Extends}
use Rattle.nodes.specs.Values.{value_at, height_at, max_to}
use Rattle.tree.proofs.Canon.{value_empty, height_empty}
use Rattle.tree.proofs.Grow.{extends_keeps, value_later, height_later, there_later}

-- ## Definitions

-- the slot s has the same words later, counts apart: children, id, value, height, sum, spare and hash
abbrev pub SameSlot : Words → Words → ℕ → Type 0
SameSlot W W' s = (f : ℕ) → f < holds → W' s f ≡ W s f

-- a dead slot got the node a, and no other slot moved
pub record Added (cap : ℕ) (W W' : Words) (a : ℕ) : Type 0 where
  pub dead : W (slot a) own < floor
  pub now : Live cap W' a
  pub rest : (s : ℕ) → s ≢ slot a → SameSlot W W' s

-- the slot of the live node a died, and no other slot moved
pub record Recycled (cap : ℕ) (W W' : Words) (a : ℕ) : Type 0 where
  pub was : Live cap W a
  pub dead : W' (slot a) own < floor
  pub rest : (s : ℕ) → s ≢ slot a → SameSlot W W' s

-- ## A slot that did not move

value_slot : (W W' : Words) (a : ℕ) → W (slot a) value ≡ W' (slot a) value → value_at W a ≡ value_at W' a
unfolding value_at
value_slot W W' a e = ap (pick (eqb a 0) 0) e

height_slot : (W W' : Words) (a : ℕ) → W (slot a) height ≡ W' (slot a) height → height_at W a ≡ height_at W' a
unfolding height_at
height_slot W W' a e = ap (pick (eqb a 0) 0) e

-- a live node whose slot did not move is the same node
pub same_slot : {n cap : ℕ} {W W' : Words} {a : ℕ} → n ≤ 8 → Live cap W a → SameSlot W W' (slot a) → Same n cap W W' a
same_slot {cap = cap} {W} {W'} {a} n≤8 l s =
    record {
      still = live_same cap W W' a (s own (omega arith)) l;
      kids = λ i h. sym (s i (omega arith));
      value = value_slot W W' a (sym (s value (omega arith)));
      height = height_slot W W' a (sym (s height (omega arith)));
    }

pub max_to_cong_lem : (n : ℕ) (f g : ℕ → ℕ) → ((i : ℕ) → i < n → f i ≡ g i) → max_to n f ≡ max_to n g
unfolding max_to
max_to_cong_lem zero f g e = refl
max_to_cong_lem (suc n) f g e =
    let a = max_to_cong_lem n f g (λ i h. e i (omega arith)) in
    let b = e n (omega arith) in
    omega arith

-- a node that is the same, with children that are there and the same, is well made later
leaf_made_lem : {n cap : ℕ} {W W' : Words} {a : ℕ} → Same n cap W W' a → LeafMade W a → LeafMade W' a
leaf_made_lem s m = record { something = λ e. m.something (s.value ∙ e); flat = sym s.height ∙ m.flat }

branch_made_lem : {n cap : ℕ} {W W' : Words} {a : ℕ} → Same n cap W W' a
    → ((i : ℕ) → i < n → LiveOr0 cap W' (child_of W a i))
    → ((i : ℕ) → i < n → value_at W (child_of W a i) ≡ value_at W' (child_of W a i))
    → ((i : ℕ) → i < n → height_at W (child_of W a i) ≡ height_at W' (child_of W a i))
    → BranchMade n cap W a → BranchMade n cap W' a
branch_made_lem {n} {cap} {W} {W'} {a} s k x y m =
    record {
      kids = λ i h. rw (s.kids i h) at (k i h);
      not_all_empty = λ e. m.not_all_empty (λ i h. s.kids i h ∙ e i h);
      averaged =
          sym s.value ∙ m.averaged
          ∙ ap (λ (t : ℕ). t / n) (sum_to_ext_lem n _ _ (λ i h. x i h ∙ ap (value_at W') (s.kids i h)));
      tall =
          sym s.height ∙ m.tall
          ∙ ap suc (max_to_cong_lem n _ _ (λ i h. y i h ∙ ap (height_at W') (s.kids i h)));
    }

-- ## One node more

module _ {n cap : ℕ} {W W' : Words} {a : ℕ} (n≤8 : n ≤ 8) (w : WellMade n cap W) (t : Added cap W W' a) where
  pub added_extends : Extends n cap W W'
  added_extends b l =
      same_slot n≤8 l
      (t.rest (slot b) (λ e. let o : W (slot b) own ≡ W (slot a) own = ap (λ (s : ℕ). W s own) e in omega (arith, t.dead, l.high, l.is)))

  pub added_live : {b : ℕ} → Live cap W' b → (b ≡ a) ⊎ Live cap W b
  added_live {b} l = go (ℕ_discrete (slot b) (slot a))
    where
      go : Dec (slot b ≡ slot a) → (b ≡ a) ⊎ Live cap W b
      go (yes e) = inl (live_inj l t.now e)
      go (no e) = inr (same_slot n≤8 l (λ f h. sym (t.rest (slot b) e f h))).still

  -- the fresh branch is well made if its content is right in the old tables
  pub fresh_branch : ((i : ℕ) → i < n → LiveOr0 cap W (child_of W' a i)) → ¬ (AllKids n W' a EMPTY)
      → value_at W' a ≡ average n (λ i. value_at W (child_of W' a i))
      → height_at W' a ≡ suc (max_to n (λ i. height_at W (child_of W' a i)))
      → BranchMade n cap W' a
  fresh_branch k x y z =
      record {
        kids = λ i h. there_later n cap W W' w (child_of W' a i) (k i h) (extends_keeps added_extends (child_of W' a i));
        not_all_empty = x;
        averaged =
            y
            ∙ ap (λ (t : ℕ). t / n)
            (sum_to_ext_lem n _ _
            (λ i h. value_later n cap W W' w (child_of W' a i) (k i h) (extends_keeps added_extends (child_of W' a i))));
        tall =
            z
            ∙ ap suc
            (max_to_cong_lem n _ _
            (λ i h. height_later n cap W W' w (child_of W' a i) (k i h) (extends_keeps added_extends (child_of W' a i))));
      }

  old_branch : (b : ℕ) → Live cap W b → Branch b → BranchMade n cap W' b
  old_branch b l k =
      let m = w.branches b l k in
      branch_made_lem (added_extends b l)
      (λ i h. there_later n cap W W' w (child_of W b i) (m.kids i h) (extends_keeps added_extends (child_of W b i)))
      (λ i h. value_later n cap W W' w (child_of W b i) (m.kids i h) (extends_keeps added_extends (child_of W b i)))
      (λ i h. height_later n cap W W' w (child_of W b i) (m.kids i h) (extends_keeps added_extends (child_of W b i))) m

  -- a fresh node that is well made, and whose content no live node has, keeps the tables well made
  pub added_made : (Leaf a → LeafMade W' a) → (Branch a → BranchMade n cap W' a)
      → ((b : ℕ) → Live cap W b → Leaf b → Leaf a → value_at W b ≢ value_at W' a)
      → ((b : ℕ) → Live cap W b → Branch b → Branch a → ¬ (SameKids n W b W' a))
      → WellMade n cap W'
  added_made lf br new_leaf new_branch =
      record {
        leaves = λ b l k. leaves b k (added_live l);
        branches = λ b l k. branches b k (added_live l);
        one_leaf = λ b c l m k j e. one_leaf b c k j e (added_live l) (added_live m);
        one_branch = λ b c l m k j e. one_branch b c k j e (added_live l) (added_live m);
      }
    where
      leaves : (b : ℕ) → Leaf b → (b ≡ a) ⊎ Live cap W b → LeafMade W' b
      leaves b k (inl e) = rw e (lf (rw e at k))
      leaves b k (inr l) = leaf_made_lem (added_extends b l) (w.leaves b l k)

      branches : (b : ℕ) → Branch b → (b ≡ a) ⊎ Live cap W b → BranchMade n cap W' b
      branches b k (inl e) = rw e (br (rw e at k))
      branches b k (inr l) = old_branch b l k

      one_leaf : (b c : ℕ) → Leaf b → Leaf c → value_at W' b ≡ value_at W' c → (b ≡ a) ⊎ Live cap W b → (c ≡ a) ⊎ Live cap W c → b ≡ c
      one_leaf b c k j e (inl p) (inl q) = p ∙ sym q
      one_leaf b c k j e (inl p) (inr m) =
          absurd (new_leaf c m j (rw p at k) ((added_extends c m).value ∙ sym e ∙ ap (value_at W') p))
      one_leaf b c k j e (inr l) (inl q) =
          absurd (new_leaf b l k (rw q at j) ((added_extends b l).value ∙ e ∙ ap (value_at W') q))
      one_leaf b c k j e (inr l) (inr m) =
          w.one_leaf b c l m k j ((added_extends b l).value ∙ e ∙ sym (added_extends c m).value)

      one_branch : (b c : ℕ) → Branch b → Branch c → SameKids n W' b W' c → (b ≡ a) ⊎ Live cap W b → (c ≡ a) ⊎ Live cap W c → b ≡ c
      one_branch b c k j e (inl p) (inl q) = p ∙ sym q
      one_branch b c k j e (inl p) (inr m) =
          absurd
          (new_branch c m j (rw p at k)
          (λ i h. (added_extends c m).kids i h ∙ sym (e i h) ∙ ap (λ (s : ℕ). child_of W' s i) p))
      one_branch b c k j e (inr l) (inl q) =
          absurd
          (new_branch b l k (rw q at j) (λ i h. (added_extends b l).kids i h ∙ e i h ∙ ap (λ (s : ℕ). child_of W' s i) q))
      one_branch b c k j e (inr l) (inr m) =
          w.one_branch b c l m k j (λ i h. (added_extends b l).kids i h ∙ e i h ∙ sym ((added_extends c m).kids i h))

-- ## One node less

-- c is there later, with the same value and height
abbrev There : ℕ → Words → Words → ℕ → Type 0
There cap W W' c = LiveOr0 cap W' c × (value_at W c ≡ value_at W' c) × (height_at W c ≡ height_at W' c)

module _ {n cap : ℕ} {W W' : Words} {a : ℕ} (n≤8 : n ≤ 8) (w : WellMade n cap W) (t : Recycled cap W W' a) where
  recycled_slot : {b : ℕ} → Live cap W' b → slot b ≢ slot a
  recycled_slot {b} l e = let o : W' (slot b) own ≡ W' (slot a) own = ap (λ (s : ℕ). W' s own) e in omega (arith, t.dead, l.high, l.is)

  -- it makes nothing: every node that is live after it was there before, and is another one
  pub recycled_extends : Extends n cap W' W
  recycled_extends b l = same_slot n≤8 l (λ f h. sym (t.rest (slot b) (recycled_slot l) f h))

  pub recycled_other : {b : ℕ} → Live cap W' b → b ≢ a
  recycled_other l e = recycled_slot l (ap slot e)

  -- every other live node stays
  pub recycled_stays : {b : ℕ} → Live cap W b → b ≢ a → Same n cap W W' b
  recycled_stays {b} l h = same_slot n≤8 l (t.rest (slot b) (λ e. h (live_inj l t.was e)))

  -- if no other branch names it, the tables stay well made
  pub recycled_made : ((b : ℕ) → Live cap W b → Branch b → b ≢ a → (i : ℕ) → i < n → child_of W b i ≢ a) → WellMade n cap W'
  recycled_made unnamed =
      record {
        leaves = λ b l k. leaf_made_lem (stays b l) (w.leaves b (was b l) k);
        branches = branches;
        one_leaf = λ b c l m k j e.
            w.one_leaf b c (was b l) (was c m) k j ((stays b l).value ∙ e ∙ sym (stays c m).value);
        one_branch = λ b c l m k j e.
            w.one_branch b c (was b l) (was c m) k j (λ i h. (stays b l).kids i h ∙ e i h ∙ sym ((stays c m).kids i h));
      }
    where
      was : (b : ℕ) → Live cap W' b → Live cap W b
      was b l = (recycled_extends b l).still

      stays : (b : ℕ) → Live cap W' b → Same n cap W W' b
      stays b l = recycled_stays (was b l) (recycled_other l)

      kid : (c : ℕ) → LiveOr0 cap W c → c ≢ a → There cap W W' c
      kid c (inl e) h =
          (inl e, value_empty W c e ∙ sym (value_empty W' c e), height_empty W c e ∙ sym (height_empty W' c e))
      kid c (inr l) h =
          let s = recycled_stays l h in
          (inr s.still, s.value, s.height)

      branches : (b : ℕ) → Live cap W' b → Branch b → BranchMade n cap W' b
      branches b l k =
          let m = w.branches b (was b l) k in
          let go : (i : ℕ) → i < n → There cap W W' (child_of W b i) =
          λ i h. kid (child_of W b i) (m.kids i h) (unnamed b (was b l) k (recycled_other l) i h) in
          branch_made_lem (stays b l) (λ i h. (go i h).0) (λ i h. (go i h).1) (λ i h. (go i h).2) m
