-- Well-formed tables are well made: the theorems of crate tree (reading, tidy, canonicity) hold of them.
use mathlib.Core.Path.{◌≡◌, sym, ap, ◌∙◌}
use mathlib.Core.Logic.{inl, inr, ⊎_elim}
use mathlib.Core.Bool.{Bool, true, false, not}
use Prim.Native.Nat.{ℕ, ◌/◌, ◌^◌, ◌≤◌, ◌<◌}
use native.Mathlib.Decide.{ℕ_discrete, dec_lt}
use native.Mathlib.Omega.{arith}
use lib.Dec.{eqb}
use borrow.Author.Tests.{ne_eqb}
use Rattle.ids.specs.Ids.{is_leaf, generation_of, pack}
use Rattle.nodes.specs.Words.{Words, own, value, height, slot}
use Rattle.nodes.specs.Tally.{one_if, tab_from, kids_of, Live}
use Rattle.nodes.proofs.Sums.{cases, sum_to_ext_lem}
use Rattle.nodes.proofs.Counts.{live_nonzero, live_inj}
use Rattle.tree.specs.Tree as tree
use Rattle.arena.specs.Node.{bits_of, kid_mask, kid_types, leaf_id, branch_id, LeafNode, BranchNode, Node}
use Rattle.nodes.specs.Values.{value_at, height_at}
use Rattle.arena.specs.Tables.{Tables, cap, W, LiveSlot, WellFormed}

-- ---- a leaf's id has the leaf flag, a branch's has not

pub leaf_above : (s g : ℕ) → 2 ^ 63 ≤ leaf_id s g
unfolding leaf_id pack
leaf_above s g = omega arith

one_le : (b : Bool) → one_if b ≤ 1
unfolding one_if
one_le true = omega arith
one_le false = omega arith

byte : (p : ℕ → Bool) (f : ℕ → ℕ) → bits_of p (tab_from 8 0 f) < 2 ^ 8
unfolding bits_of tab_from
byte p f =
    omega (arith, one_le (p (f 0)), one_le (p (f 1)), one_le (p (f 2)), one_le (p (f 3)), one_le (p (f 4)), one_le (p (f 5)), one_le (p (f 6)), one_le (p (f 7)))

pub branch_below : (M : Words) (s g : ℕ) → s < 2 ^ 32 → g < 2 ^ 15 → branch_id (kids_of 8 M s) s g < 2 ^ 63
unfolding branch_id pack kid_mask kid_types kids_of
branch_below M s g h k = omega (arith, byte (λ i. not (eqb i 0)) (M s), byte is_leaf (M s))

pub generation_small : (x : ℕ) → generation_of x < 2 ^ 15
unfolding generation_of
generation_small x = omega arith

module _ {n tallest : ℕ} {t : Tables} (m : n ≤ 8) (w : WellFormed n tallest t) where
  at : (a : ℕ) → Live (cap t) (W t) a → LiveSlot t (slot a)
  at a l = (l.low, rw l.is l.high)

  node : (a : ℕ) → Live (cap t) (W t) a → Node n tallest (cap t) (W t) (slot a)
  node a l = w.nodes (slot a) (at a l)

  low : (a : ℕ) → Live (cap t) (W t) a → slot a < 2 ^ 32
  low a l = let h = w.sized.most in omega (arith, l.low)

  leaf : (a : ℕ) → Live (cap t) (W t) a → tree.Leaf a → LeafNode (W t) (slot a)
  leaf a l h =
      ⊎_elim (λ v. v)
      (λ v. absurd (omega (arith, l.is, v.id, branch_below (W t) (slot a) (generation_of (W t (slot a) own)) (low a l) (generation_small (W t (slot a) own)))))
      (node a l).kind

  branch : (a : ℕ) → Live (cap t) (W t) a → tree.Branch a → BranchNode n tallest (cap t) (W t) (slot a)
  branch a l h =
      ⊎_elim (λ v. absurd (omega (arith, h.1, l.is, v.id, leaf_above (slot a) (generation_of (W t (slot a) own))))) (λ v. v)
      (node a l).kind

  value_is : (a : ℕ) → Live (cap t) (W t) a → value_at (W t) a ≡ W t (slot a) value
  unfolding value_at
  value_is a l = rw (ne_eqb a 0 (live_nonzero l))

  height_is : (a : ℕ) → Live (cap t) (W t) a → height_at (W t) a ≡ W t (slot a) height
  unfolding height_at
  height_is a l = rw (ne_eqb a 0 (live_nonzero l))

  pub wf_made : tree.WellMade n (cap t) (W t)
  wf_made =
      record {
        leaves = λ a l h.
            let f = leaf a l h in
            record { something = λ z. absurd (omega (arith, value_is a l, f.some)); flat = height_is a l ∙ f.flat };
        branches = λ a l h.
            let b = branch a l h in
            record {
              kids = λ i k. cases (ℕ_discrete (W t (slot a) i) 0) (λ z. inl z) (λ z. inr (b.children i k z));
              not_all_empty = λ all. let s = b.some in s.2 (all s.0 s.1);
              averaged = value_is a l ∙ b.averaged;
              tall = height_is a l ∙ b.tall;
            };
        one_leaf = λ a b k l f g e.
            live_inj k l
            (w.distinct (slot a) (slot b) (at a k) (at b l) (λ i j. (leaf a k f).bare i j ∙ sym ((leaf b l g).bare i j))
            (sym (value_is a k) ∙ e ∙ value_is b l));
        one_branch = λ a b k l f g e.
            let p = branch a k f in
            let q = branch b l g in
            live_inj k l
            (w.distinct (slot a) (slot b) (at a k) (at b l)
            (λ i j. cases (dec_lt i n) (λ u. e i u) (λ u. p.beyond i (omega arith) j ∙ sym (q.beyond i (omega arith) j)))
            (p.averaged
            ∙ ap (λ (s : ℕ). s / n) (sum_to_ext_lem n (λ i. value_at (W t) (W t (slot a) i)) (λ i. value_at (W t) (W t (slot b) i)) (λ i u. ap (value_at (W t)) (e i u)))
            ∙ sym q.averaged));
      }
