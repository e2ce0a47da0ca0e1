-- What the code reads of the lent lists is what the definitions read of the words.
use mathlib.Core.Path.{◌≡◌, refl, sym, ap, ◌∙◌, subst}
use mathlib.Core.Logic.{◌≢◌, ◌⊎◌, inl, inr, ⊎_elim}
use mathlib.Core.Bool.{Bool, true, false, true≢false}
use mathlib.Core.List.{List, [], ◌∷◌}
use Prim.Native.Nat.{ℕ, zero, suc, ◌+◌, ◌^◌, ◌<◌}
use native.Mathlib.Decide.{ℕ_discrete}
use native.Mathlib.Omega.{arith}
use lib.Dec.{eqb}
use lib.ListN.{length, get_or, set, replicate, length-set}
use lib.Seq.{get_or-set_same, get_or-set_other}
use borrow.Author.Tests.{eq-eqb, ne_eqb, le-leb, lt-leb}
use Rattle.basics.specs.Limits.{kid_words}
use Rattle.basics.specs.Pick.{pick}
use Rattle.nodes.specs.Words.{Words, fact_of, word_of, nodes, kid_of, slot}
use Rattle.nodes.specs.Tally.{tab_from, kids_of}
use Rattle.nodes.proofs.Access.{word_kid}
use Rattle.nodes.proofs.Sums.{cases, tab_from_ext_lem, tab_list}
use Rattle.tree.specs.Tree.{Flat, Leaf, Branch, Kind, empty, leaf, branch, kind}
use Rattle.tree.specs.Anew.{part}
use Rattle.tree.proofs.Ends.{flat_end, branch_end}
use Rattle.tree.proofs.Making.{part_flat, part_branch}
use Rattle.ids.specs.Ids.{is_end}
use Rattle.edit_way.specs.Models.{eight_parts, hash_over}

pub end_leaf : (a : ℕ) → is_end a ≡ true → a ≢ 0 → Leaf a
end_leaf a e d = ⊎_elim (λ z. absurd (d z)) (λ h. h) (flat_end a e)

module _ (U : Words) (a : ℕ) where
  pub parts_flat : Flat a → eight_parts U a ≡ replicate 8 a
  unfolding eight_parts tab_from
  parts_flat f = tab_from_ext_lem 8 0 (part U a) (λ i. a) (λ j p q. part_flat U a j f)

  pub parts_branch : Branch a → eight_parts U a ≡ kids_of kid_words U (slot a)
  unfolding eight_parts kids_of
  parts_branch b = tab_from_ext_lem 8 0 (part U a) (U (slot a)) (λ j p q. part_branch U a j b)

-- what stands at place i of a list f j, f (j+1), ..
pub tab_get : (k j : ℕ) (f : ℕ → ℕ) (i : ℕ) → i < k → get_or (tab_from k j f) i 0 ≡ f (j + i)
unfolding tab_from
tab_get zero j f i l = absurd (omega arith)
tab_get (suc k) j f zero l = let e : j ≡ j + 0 = omega arith in ap f e
tab_get (suc k) j f (suc i) l = let e : suc j + i ≡ j + suc i = omega arith in tab_get k (suc j) f i (omega arith) ∙ ap f e

module _ (k f : List ℕ) where
  pub hash_facts : (y : ℕ) → hash_over (fact_of f) y ≡ hash_over (word_of (nodes k f)) y
  unfolding hash_over word_of
  hash_facts y = refl

  pub part_kids : (a i : ℕ) → i < 8 → part (kid_of k) a i ≡ part (word_of (nodes k f)) a i
  part_kids a i l = go (kind a)
    where
      go : Kind a → part (kid_of k) a i ≡ part (word_of (nodes k f)) a i
      go (empty e) = part_flat (kid_of k) a i (inl e) ∙ sym (part_flat (word_of (nodes k f)) a i (inl e))
      go (leaf e) = part_flat (kid_of k) a i (inr e) ∙ sym (part_flat (word_of (nodes k f)) a i (inr e))
      go (branch b) = part_branch (kid_of k) a i b ∙ sym (word_kid (nodes k f) (slot a) i l) ∙ sym (part_branch (word_of (nodes k f)) a i b)

  pub parts_kids : (a : ℕ) → eight_parts (kid_of k) a ≡ eight_parts (word_of (nodes k f)) a
  unfolding eight_parts
  parts_kids a = tab_from_ext_lem 8 0 (part (kid_of k) a) (part (word_of (nodes k f)) a) (λ i p q. part_kids a i q)

pub parts_at : (U : Words) (a c : ℕ) → c < 8 → get_or (eight_parts U a) c 0 ≡ part U a c
unfolding eight_parts
parts_at U a c l = let z : 0 + c ≡ c = omega arith in tab_get 8 0 (part U a) c l ∙ ap (part U a) z

-- what the code gives as the eight parts, by its test of an end
module _ (U : Words) (a : ℕ) (b : Bool) (eb : b ≡ is_end a) where
  pub parts_end : b ≡ true → replicate 8 a ≡ eight_parts U a
  parts_end h = sym (parts_flat U a (flat_end a (sym eb ∙ h)))

  pub parts_else : (ks : List ℕ) (s : ℕ) → b ≡ false → s ≡ slot a → ks ≡ kids_of kid_words U s → ks ≡ eight_parts U a
  parts_else ks s h es e = e ∙ ap (kids_of kid_words U) es ∙ sym (parts_branch U a (branch_end a (sym eb ∙ h)))

-- ---- one part replaced

set_pick : (ks : List ℕ) (c i new : ℕ) → i < length ks → pick (eqb c i) new (get_or ks i 0) ≡ get_or (set ks c new) i 0
set_pick ks c i new l = cases (ℕ_discrete c i)
    (λ (e : c ≡ i). rw (eq-eqb c i e) (sym (ap (λ (j : ℕ). get_or (set ks c new) j 0) (sym e) ∙ get_or-set_same ks c new 0 (omega arith))))
    (λ d. rw (ne_eqb c i d) (sym (get_or-set_other ks c i new 0 (λ e. d (sym e)))))

module _ (ks : List ℕ) (c new : ℕ) (n : length ks ≡ 8) where
  abbrev f : ℕ → ℕ
  f i = pick (eqb c i) new (get_or ks i 0)

  eight : tab_from 8 0 f ≡ set ks c new
  eight =
      let e : length (set ks c new) ≡ 8 = length-set ks c new ∙ n in
      subst (λ (k : ℕ). tab_from k 0 f ≡ set ks c new) e
      (tab_list (set ks c new) 0 f (λ j h. let z : 0 + j ≡ j = omega arith in ap f z ∙ set_pick ks c j new (omega arith)))

  pub parts_set : (a b d e g h i j : ℕ) → a ≡ f 0 → b ≡ f 1 → d ≡ f 2 → e ≡ f 3 → g ≡ f 4 → h ≡ f 5 → i ≡ f 6 → j ≡ f 7
      → a ∷ b ∷ d ∷ e ∷ g ∷ h ∷ i ∷ j ∷ [] ≡ set ks c new
  unfolding tab_from
  parts_set a b d e g h i j p q r s t u v w = rw (p, q, r, s, t, u, v, w) eight
