-- What the code reads at a place of an id: of a branch from its row, of a leaf or EMPTY itself.
use mathlib.Core.Path.{◌≡◌, ◌∙◌, sym, ap}
use mathlib.Core.Bool.{Bool, true, false}
use mathlib.Core.List.{List}
use Prim.Native.Nat.{ℕ, ◌+◌, ◌<◌}
use native.Mathlib.Omega.{arith}
use lib.ListN.{get_or}
use Rattle.basics.specs.Limits.{kid_words}
use Rattle.ids.specs.Ids.{is_end}
use Rattle.nodes.specs.Words.{nodes, kid_of, fact_of, word_of, slot}
use Rattle.nodes.specs.Tally.{kids_of}
use Rattle.nodes.proofs.Access.{word_kid}
use Rattle.nodes.proofs.Sums.{tab_at}
use Rattle.tree.specs.Anew.{part}
use Rattle.tree.proofs.Ends.{flat_end, branch_end, end_branch}
use Rattle.tree.proofs.Making.{part_flat, part_branch}
use Rattle.read_cell.specs.Models.{val}
use Rattle.read_cell.proofs.Ends.{val_facts}
use Rattle.compare_pairs.specs.Differing.{branches}
use Rattle.compare_pairs.specs.Models.{goes_on}
use Rattle.compare_pairs.proofs.Ids.{is_branch_lem, branches_no}

module _ (ks fs : List ℕ) (a : ℕ) (s : Bool) (es : s ≡ is_end a) where
  pub branch_place : (row : List ℕ) (n i y : ℕ) → s ≡ false → row ≡ kids_of kid_words (kid_of ks) n → n ≡ slot a → i < 8 → y ≡ val (fact_of fs) (get_or row i 0)
      → y ≡ val (word_of (nodes ks fs)) (part (word_of (nodes ks fs)) a i)
  unfolding kids_of
  branch_place row n i y h er en l ey =
      let z : 0 + i ≡ i = omega arith in
      let k : get_or row i 0 ≡ part (word_of (nodes ks fs)) a i =
      ap (λ (m : List ℕ). get_or m i 0) (er ∙ ap (kids_of kid_words (kid_of ks)) en) ∙ tab_at kid_words 0 (kid_of ks (slot a)) i l ∙ ap (kid_of ks (slot a)) z
      ∙ sym (word_kid (nodes ks fs) (slot a) i l) ∙ sym (part_branch (word_of (nodes ks fs)) a i (branch_end a (sym es ∙ h))) in
      ey ∙ val_facts ks fs (get_or row i 0) ∙ ap (val (word_of (nodes ks fs))) k

  pub end_place : (i u : ℕ) → s ≡ true → u ≡ val (fact_of fs) a → u ≡ val (word_of (nodes ks fs)) (part (word_of (nodes ks fs)) a i)
  end_place i u h eu = eu ∙ val_facts ks fs a ∙ ap (val (word_of (nodes ks fs))) (sym (part_flat (word_of (nodes ks fs)) a i (flat_end a (sym es ∙ h))))

  -- beside an end the other of a pair that goes on is a branch
  pub other_branch : (b : ℕ) → s ≡ true → goes_on 1 a b ≡ true → false ≡ is_end b
  unfolding goes_on
  other_branch b h g =
      let na : branches a ≡ false = branches_no a (flat_end a (sym es ∙ h)) in
      let nb : branches b ≡ true = rw na at g in
      sym (end_branch b (is_branch_lem b nb))
