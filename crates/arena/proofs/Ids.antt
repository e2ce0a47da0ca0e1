-- The fields of the ids that are packed, and what a node's rules say of its id and its height.
use mathlib.Core.Path.{◌≡◌, refl, sym, ap, ◌∙◌}
use mathlib.Core.Logic.{◌≢◌, ⊎_elim}
use mathlib.Core.Bool.{Bool, true, false, not, true≢false}
use mathlib.Core.List.{List}
use Prim.Native.Nat.{ℕ, zero, suc, ◌+◌, ◌*◌, ◌%◌, ◌^◌, ◌≤◌, ◌<◌}
use native.Mathlib.Decide.{ℕ_discrete, dec_lt}
use native.Mathlib.Omega.{arith}
use lib.Dec.{eqb}
use borrow.Author.Tests.{le-leb, eqb-true, eq-eqb, ne_eqb, lt-ltb, le-ltb}
use Rattle.ids.specs.Ids.{new_leaf, new_branch, packing_no, leaf_flag, generation_of, is_leaf, pack, index_of}
use Rattle.nodes.specs.Tally.{one_if, kids_of, Live, tab_from}
use Rattle.nodes.specs.Words.{own, value, height, slot, floor, Words}
use Rattle.nodes.proofs.Sums.{cases}
use Rattle.arena.specs.Node.{next_generation, kid_mask, kid_types, bits_of, leaf_id, branch_id, LeafNode, BranchNode, Node}
use Rattle.nodes.specs.Values.{value_at, height_at, max_to}

pub leaf_slot_lem : (s g : ℕ) → s < 2 ^ 32 → slot (leaf_id s g) ≡ s
unfolding slot index_of leaf_id pack
leaf_slot_lem s g l = omega arith

pub leaf_gen : (s g : ℕ) → s < 2 ^ 32 → g < 2 ^ 15 → generation_of (leaf_id s g) ≡ g
unfolding generation_of leaf_id pack
leaf_gen s g l h = omega arith

flag_one : (s g : ℕ) → s < 2 ^ 32 → g < 2 ^ 15 → leaf_flag (leaf_id s g) ≡ 1
unfolding leaf_flag leaf_id pack
flag_one s g l h = omega arith

pub leaf_flag_lem : (s g : ℕ) → s < 2 ^ 32 → g < 2 ^ 15 → is_leaf (leaf_id s g) ≡ true
unfolding is_leaf
leaf_flag_lem s g l h = eq-eqb (leaf_flag (leaf_id s g)) 1 (flag_one s g l h)

pub leaf_floor : (s g : ℕ) → floor ≤ leaf_id s g
unfolding floor leaf_id pack
leaf_floor s g = omega arith

flag_high : (x : ℕ) → leaf_flag x ≡ 1 → floor ≤ x
unfolding leaf_flag floor
flag_high x h = omega arith

pub flag_floor : (x : ℕ) → is_leaf x ≡ true → floor ≤ x
unfolding is_leaf
flag_floor x h = flag_high x (eqb-true (leaf_flag x) 1 h)

pub branch_slot_lem : (ks : List ℕ) (s g : ℕ) → s < 2 ^ 32 → slot (branch_id ks s g) ≡ s
unfolding slot index_of branch_id pack
branch_slot_lem ks s g l = omega arith

pub branch_gen : (ks : List ℕ) (s g : ℕ) → s < 2 ^ 32 → g < 2 ^ 15 → generation_of (branch_id ks s g) ≡ g
unfolding generation_of branch_id pack
branch_gen ks s g l h = omega arith

bit_le : (b : Bool) → one_if b ≤ 1
unfolding one_if
bit_le true = omega arith
bit_le false = omega arith

bits_bound : (p : ℕ → Bool) (f : ℕ → ℕ) → bits_of p (tab_from 8 0 f) ≤ 255
unfolding bits_of tab_from
bits_bound p f =
    omega (arith, bit_le (p (f 0)), bit_le (p (f 1)), bit_le (p (f 2)), bit_le (p (f 3)), bit_le (p (f 4)), bit_le (p (f 5)), bit_le (p (f 6)), bit_le (p (f 7)))

-- a branch's id has not the leaf flag
flag_zero : (W : Words) (s g : ℕ) → s < 2 ^ 32 → g < 2 ^ 15 → leaf_flag (branch_id (kids_of 8 W s) s g) ≡ 0
unfolding leaf_flag branch_id pack kid_mask kid_types kids_of
flag_zero W s g l h = omega (arith, bits_bound (λ k. not (eqb k 0)) (W s), bits_bound is_leaf (W s))

pub branch_flag : (W : Words) (s g : ℕ) → s < 2 ^ 32 → g < 2 ^ 15 → is_leaf (branch_id (kids_of 8 W s) s g) ≡ false
unfolding is_leaf
branch_flag W s g l h = ne_eqb (leaf_flag (branch_id (kids_of 8 W s) s g)) 1 (λ e. let z = flag_zero W s g l h in omega arith)

-- ---- generations
pub next_gen_low_lem : (g : ℕ) → g < 0x7FFD → next_generation g ≡ g + 1
unfolding next_generation
next_gen_low_lem g h = rw (lt-ltb g 0x7FFD h)

pub next_gen_high_lem : (g : ℕ) → 0x7FFD ≤ g → next_generation g ≡ 0
unfolding next_generation
next_gen_high_lem g h = rw (le-ltb g 0x7FFD h)

pub next_gen_le_lem : (g : ℕ) → next_generation g ≤ 0x7FFD
next_gen_le_lem g = cases (dec_lt g 0x7FFD) (λ h. omega (arith, next_gen_low_lem g h)) (λ h. omega (arith, next_gen_high_lem g (omega arith)))

-- the own word of a dead slot
pub dead_low : (g : ℕ) → g ≤ 0x7FFD → g * 2 ^ 32 < floor
unfolding floor
dead_low g h = omega arith

pub dead_seal : (g : ℕ) → g * 2 ^ 32 % 2 ^ 32 ≡ 0
dead_seal g = omega arith

pub dead_gen : (g : ℕ) → g ≤ 0x7FFD → generation_of (g * 2 ^ 32) ≡ g
unfolding generation_of
dead_gen g h = omega arith

pub gen_zero : generation_of 0 ≤ 0x7FFD
unfolding generation_of
gen_zero = omega arith

pub gen_small : (x : ℕ) → generation_of x < 2 ^ 15
unfolding generation_of
gen_small x = omega arith

-- ---- packing accepts these

pub new_leaf_lem : (s g : ℕ) → g ≤ 0x7FFE → new_leaf s g ≡ leaf_id s g
unfolding new_leaf packing_no leaf_id
new_leaf_lem s g h = rw (le-leb g 0x7FFE h)

pub new_branch_lem : (ks : List ℕ) (s g : ℕ) → g ≤ 0x7FFE → new_branch s g (kid_types ks) (kid_mask ks) ≡ branch_id ks s g
unfolding new_branch packing_no branch_id
new_branch_lem ks s g h = rw (le-leb g 0x7FFE h)

-- ---- heights
module _ (W : Words) (y : ℕ) (d : y ≢ 0) where
  pub height_node : height_at W y ≡ W (slot y) height
  unfolding height_at
  height_node = rw (ne_eqb y 0 d)

  pub value_node : value_at W y ≡ W (slot y) value
  unfolding value_at
  value_node = rw (ne_eqb y 0 d)

pub height_zero : (W : Words) → height_at W 0 ≡ 0
unfolding height_at
height_zero W = refl

pub value_zero : (W : Words) → value_at W 0 ≡ 0
unfolding value_at
value_zero W = refl

pub max_le : (k : ℕ) (f : ℕ → ℕ) (i : ℕ) → i < k → f i ≤ max_to k f
unfolding max_to
max_le zero f i l = absurd (omega arith)
max_le (suc k) f i l =
    cases (ℕ_discrete i k)
    (λ (q : i ≡ k). rw q (omega arith))
    (λ d. let r = max_le k f i (omega arith) in omega arith)

pub max_ext : (k : ℕ) (f g : ℕ → ℕ) → ((i : ℕ) → i < k → f i ≡ g i) → max_to k f ≡ max_to k g
unfolding max_to
max_ext zero f g h = refl
max_ext (suc k) f g h = let r = max_ext k f g (λ i l. h i (omega arith)) in let e = h k (omega arith) in rw (r, e)

-- ---- a node's rules
module _ {n tallest cap : ℕ} {W : Words} {s : ℕ} (m : n ≤ 8) (l : s < cap) (c : cap ≤ 65536) (r : Node n tallest cap W s) where
  pub node_slot : slot (W s own) ≡ s
  node_slot =
      ⊎_elim (λ v. ap slot v.id ∙ leaf_slot_lem s (generation_of (W s own)) (omega arith)) (λ v. ap slot v.id ∙ branch_slot_lem (kids_of 8 W s) s (generation_of (W s own)) (omega arith)) r.kind

  pub node_child : (i : ℕ) → i < 8 → W s i ≢ 0 → Live cap W (W s i) × (W (slot (W s i)) height < W s height)
  node_child i k d =
      ⊎_elim (λ v. absurd (d (v.bare i k)))
      (λ v.
      let j : i < n = cases (dec_lt i n) (λ h. h) (λ h. absurd (d (v.beyond i (omega arith) k))) in (
        v.children i j d,
        (let e = v.tall in let p = max_le n (λ i. height_at W (W s i)) i j in let q = height_node W (W s i) d in omega arith),
      ))
      r.kind

  -- the leaf flag tells
  pub node_leaf : is_leaf (W s own) ≡ true → LeafNode W s
  node_leaf h =
      ⊎_elim (λ v. v)
      (λ v. absurd (true≢false (sym h ∙ ap is_leaf v.id ∙ branch_flag W s (generation_of (W s own)) (omega arith) (gen_small (W s own))))) r.kind

  pub node_branch : is_leaf (W s own) ≡ false → BranchNode n tallest cap W s
  node_branch h =
      ⊎_elim (λ v. absurd (true≢false (sym (ap is_leaf v.id ∙ leaf_flag_lem s (generation_of (W s own)) (omega arith) (gen_small (W s own))) ∙ h))) (λ v. v) r.kind

  pub node_low : W s height ≤ tallest
  node_low = ⊎_elim (λ v. let e = v.flat in omega arith) (λ v. v.low) r.kind
