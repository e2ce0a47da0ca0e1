-- The rules of content make well made, whatever is owed.
use mathlib.Core.Path.{◌≡◌, sym, ap, ◌∙◌}
use mathlib.Core.Logic.{◌≢◌, inl, inr, ⊎_elim}
use Prim.Native.Nat.{ℕ, ◌/◌, ◌≤◌, ◌<◌}
use native.Mathlib.Decide.{ℕ_discrete, dec_lt}
use native.Mathlib.Omega.{arith}
use borrow.Author.Tests.{ne_eqb}
use Rattle.basics.specs.Limits.{kid_words}
use Rattle.ids.specs.Ids.{generation_of}
use Rattle.nodes.specs.Words.{Words, own, value, height, slot}
use Rattle.nodes.specs.Tally.{Live}
use Rattle.nodes.proofs.Sums.{cases, sum_to_ext_lem}
use Rattle.nodes.proofs.Counts.{live_nonzero, live_inj}
use Rattle.tree.specs.Tree as tree
use Rattle.arena.specs.Node.{LeafNode, BranchNode, Node}
use Rattle.nodes.specs.Values.{height_at, value_at}
use Rattle.arena.proofs.Inv.{Content}
use Rattle.read_cell.proofs.Meaning.{leaf_above, branch_below, generation_small}

module _ (n tallest cap : ℕ) (W : Words) (m : n ≤ kid_words) (most : cap ≤ 65536) (w : Content n tallest cap W) where
  node : (a : ℕ) → Live cap W a → Node n tallest cap W (slot a)
  node a l = w.nodes (slot a) l.low (rw l.is l.high)

  pub leaf_node : (a : ℕ) → Live cap W a → tree.Leaf a → LeafNode W (slot a)
  leaf_node a l h =
      ⊎_elim (λ v. v)
      (λ v. absurd (omega (arith, l.low, l.is, v.id, branch_below W (slot a) (generation_of (W (slot a) own)) (let q = l.low in omega arith) (generation_small (W (slot a) own)))))
      (node a l).kind

  pub branch_node : (a : ℕ) → Live cap W a → tree.Branch a → BranchNode n tallest cap W (slot a)
  branch_node a l h =
      ⊎_elim (λ v. absurd (omega (arith, h.1, l.is, v.id, leaf_above (slot a) (generation_of (W (slot a) own))))) (λ v. v)
      (node a l).kind

  -- a live id with a child is a branch's, one with none a leaf's
  pub is_branch_lem : (a i : ℕ) → Live cap W a → i < kid_words → W (slot a) i ≢ 0 → tree.Branch a
  is_branch_lem a i l h d =
      ⊎_elim (λ v. absurd (d (v.bare i h)))
      (λ v. (live_nonzero l, omega (arith, l.is, v.id, branch_below W (slot a) (generation_of (W (slot a) own)) (let q = l.low in omega arith) (generation_small (W (slot a) own)))))
      (node a l).kind

  pub is_leaf_lem : (a : ℕ) → Live cap W a → ((i : ℕ) → i < kid_words → W (slot a) i ≡ 0) → tree.Leaf a
  is_leaf_lem a l h =
      ⊎_elim (λ v. omega (arith, l.is, v.id, leaf_above (slot a) (generation_of (W (slot a) own))))
      (λ v. absurd (let s = v.some in let q = s.1 in s.2 (h s.0 (omega arith))))
      (node a l).kind

  value_is : (a : ℕ) → Live cap W a → value_at W a ≡ W (slot a) value
  unfolding value_at
  value_is a l = rw (ne_eqb a 0 (live_nonzero l))

  height_is : (a : ℕ) → Live cap W a → height_at W a ≡ W (slot a) height
  unfolding height_at
  height_is a l = rw (ne_eqb a 0 (live_nonzero l))

  pub content_made : tree.WellMade n cap W
  content_made =
      record {
        leaves = λ a l h.
            let f = leaf_node a l h in
            record { something = λ z. absurd (omega (arith, value_is a l, f.some)); flat = height_is a l ∙ f.flat };
        branches = λ a l h.
            let b = branch_node a l h in
            record {
              kids = λ i k. cases (ℕ_discrete (W (slot a) i) 0) (λ z. inl z) (λ z. inr (b.children i k z));
              not_all_empty = λ all. let s = b.some in s.2 (all s.0 s.1);
              averaged = value_is a l ∙ b.averaged;
              tall = height_is a l ∙ b.tall;
            };
        one_leaf = λ a b k l f g e.
            live_inj k l
            (w.distinct (slot a) (slot b) k.low l.low (rw k.is k.high) (rw l.is l.high)
            (λ i j. (leaf_node a k f).bare i j ∙ sym ((leaf_node b l g).bare i j)) (sym (value_is a k) ∙ e ∙ value_is b l));
        one_branch = λ a b k l f g e.
            let p = branch_node a k f in
            let q = branch_node b l g in
            live_inj k l
            (w.distinct (slot a) (slot b) k.low l.low (rw k.is k.high) (rw l.is l.high)
            (λ i j. cases (dec_lt i n) (λ u. e i u) (λ u. p.beyond i (omega arith) j ∙ sym (q.beyond i (omega arith) j)))
            (p.averaged
            ∙ ap (λ (s : ℕ). s / n) (sum_to_ext_lem n (λ i. value_at W (W (slot a) i)) (λ i. value_at W (W (slot b) i)) (λ i u. ap (value_at W) (e i u)))
            ∙ sym q.averaged));
      }
