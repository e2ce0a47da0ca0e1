-- What the functions leave, as the definitions have it.
use mathlib.Core.Path.{◌≡◌, refl, sym, ap, ◌∙◌}
use mathlib.Core.Logic.{◌≢◌}
use mathlib.Core.List.{List, [], ◌∷◌}
use Prim.Native.Nat.{ℕ, suc, ◌+◌, ◌-◌, ◌*◌, ◌/◌, ◌%◌, ◌^◌, ◌≤◌, ◌<◌}
use native.Mathlib.Numerals.{add-one, add-two, add-three}
use native.Mathlib.Omega.{arith}
use lib.ListN.{length, get_or, set}
use lib.Seq.{set_comm}
use Rattle.basics.specs.Puts.{puts_from}
use Rattle.basics.proofs.Puts.{puts_then}
use Rattle.nodes.specs.Tally.{tab_from}
use Rattle.nodes.specs.Words.{own, value, hash, entry, row_put, in_rows, in_facts, fact_put, facts_put}
use Rattle.nodes.proofs.Access.{put_row, put_none, fact_put_out_lem}
use Rattle.nodes.proofs.Rows.{in_small, in_short, at_before, at_after, sets_at, put_in, put_past, row_in_lem, row_out}
use Rattle.nodes.proofs.Sums.{tab_list}

-- ---- words one by one

module _ (l : List ℕ) (at a b : ℕ) where
  four : (c d : ℕ) → set (set (set (set l at a) (at + 1) b) (at + 2) c) (at + 3) d ≡ puts_from l at (a ∷ b ∷ c ∷ d ∷ [])
  unfolding puts_from
  four c d = rw (add-one at, add-two at, add-three at)

-- one number before three others that stand elsewhere
moved : (l : List ℕ) (x y z k a b c v : ℕ) → x ≢ k → y ≢ k → z ≢ k → set (set (set (set l x a) y b) z c) k v ≡ set (set (set (set l k v) x a) y b) z c
moved l x y z k a b c v p q r =
    set_comm (set (set l x a) y b) z k c v r
    ∙ ap (λ (m : List ℕ). set m z c) (set_comm (set l x a) y k b v q ∙ ap (λ (m : List ℕ). set m y b) (set_comm l x k a v p))

-- ---- one fact

module _ (l : List ℕ) (s f v : ℕ) where
  fact_write : s < 2 ^ 32 → 11 * s + 10 < length l → own < f → f ≤ entry → set l (in_facts (length l) s (f - 7)) v ≡ fact_put l s f v
  fact_write a b h k = sym (put_row l s f v h ∙ put_in 11 in_facts l s (f - 7) v (record { small = a; room = b }) (omega arith))

  pub hash_write : s < 2 ^ 32 → 11 * s + 10 < length l → f ≡ hash → set l (length l - 1 - s) v ≡ fact_put l s f v
  hash_write a b e = let p : in_facts (length l) s (f - 7) ≡ length l - 1 - s = rw e refl in rw (sym p) (fact_write a b (omega arith) (omega arith))

  pub before_write : s < 2 ^ 32 → 11 * s + 10 < length l → value ≤ f → f < hash → set l (10 * s + (f - 7)) v ≡ fact_put l s f v
  before_write a b h k = rw (sym (at_before (length l) s (f - 7) (omega arith))) (fact_write a b (omega arith) (omega arith))

  pub after_write : s < 2 ^ 32 → 11 * s + 10 < length l → hash ≤ f → f ≢ hash → f ≤ entry → set l (10 * s + (f - 8)) v ≡ fact_put l s f v
  after_write a b h d k =
      let e : f - 8 ≡ f - 7 - 1 = omega arith in
      rw (e, sym (at_after (length l) s (f - 7) (omega arith))) (fact_write a b (omega arith) k)

  pub fact_short : length l ≤ 11 * s + 10 → l ≡ fact_put l s f v
  fact_short h = sym (fact_put_out_lem l s f v (in_short 11 l s h))

  pub fact_large : 2 ^ 32 ≤ s → l ≡ fact_put l s f v
  fact_large h = sym (fact_put_out_lem l s f v (in_small 11 l s h))

  pub fact_past : entry < f → l ≡ fact_put l s f v
  fact_past h = sym (put_row l s f v (omega arith) ∙ put_past 11 in_facts l s (f - 7) v (omega arith))

  pub fact_low : f < value → l ≡ fact_put l s f v
  fact_low h = sym (put_none l s f v (omega arith))

-- ---- the children, four by four

-- a row is the list of its words
words : (row : List ℕ) (n : ℕ) → length row ≡ n → tab_from n 0 (λ j. get_or row j 0) ≡ row
words row n h =
    ap (λ (k : ℕ). tab_from k 0 (λ j. get_or row j 0)) (sym h)
    ∙ tab_list row 0 (λ j. get_or row j 0) (λ j l. let e : 0 + j ≡ j = omega arith in ap (λ (i : ℕ). get_or row i 0) e)

puts_sets : (r s : ℕ) (l : List ℕ) (p : ℕ) (vs : List ℕ) → sets_at (in_rows r 0 s) l p vs ≡ puts_from l (r * s + p) vs
unfolding sets_at puts_from
puts_sets r s l p [] = refl
puts_sets r s l p (v ∷ vs) = let e : r * s + suc p ≡ suc (r * s + p) = omega arith in puts_sets r s (set l (r * s + p) v) (suc p) vs ∙ rw e

module _ (l : List ℕ) (s : ℕ) where
  pub kids_write : s < 2 ^ 32 → 8 * s + 7 < length l → (m o row : List ℕ) → length row ≡ 8
      → m ≡ set (set (set (set l (8 * s) (get_or row 0 0)) (8 * s + 1) (get_or row 1 0)) (8 * s + 2) (get_or row 2 0)) (8 * s + 3) (get_or row 3 0)
      → o ≡ set (set (set (set m (8 * s + 4) (get_or row 4 0)) (8 * s + 4 + 1) (get_or row 5 0)) (8 * s + 4 + 2) (get_or row 6 0)) (8 * s + 4 + 3) (get_or row 7 0)
      → o ≡ row_put 8 l s row
  unfolding tab_from row_put
  kids_write a b m o row h p q =
      let z : 8 * s + 0 ≡ 8 * s = omega arith in
      puts_then l m (8 * s) 4 (get_or row 0 0 ∷ get_or row 1 0 ∷ get_or row 2 0 ∷ get_or row 3 0 ∷ []) (p ∙ four l (8 * s) _ _ _ _) refl o
      (get_or row 4 0 ∷ get_or row 5 0 ∷ get_or row 6 0 ∷ get_or row 7 0 ∷ []) (q ∙ four m (8 * s + 4) _ _ _ _)
      ∙ ap (puts_from l (8 * s)) (words row 8 h)
      ∙ sym (row_in_lem 8 (in_rows 8) l s 0 row (record { small = a; room = b }) (omega arith) ∙ puts_sets 8 s l 0 row ∙ ap (λ (n : ℕ). puts_from l n row) z)

  pub kids_short : (ks : List ℕ) → length l ≤ 8 * s + 7 → l ≡ row_put 8 l s ks
  unfolding row_put
  kids_short ks h = sym (row_out 8 (in_rows 8) l s 0 ks (in_short 8 l s h))

  pub kids_large : (ks : List ℕ) → 2 ^ 32 ≤ s → l ≡ row_put 8 l s ks
  unfolding row_put
  kids_large ks h = sym (row_out 8 (in_rows 8) l s 0 ks (in_small 8 l s h))

  -- ---- the facts: four, four, the mark and the hash

  pub facts_write : s < 2 ^ 32 → 11 * s + 10 < length l → (j m : List ℕ) (o b c d e f g h i : ℕ)
      → j ≡ set (set (set (set l (10 * s) (o % 2 ^ 32)) (10 * s + 1) (o / 2 ^ 32)) (10 * s + 2) b) (10 * s + 3) c
      → m ≡ set (set (set (set j (10 * s + 4) d) (10 * s + 4 + 1) e) (10 * s + 4 + 2) g) (10 * s + 4 + 3) h
      → set (set m (10 * s + 8) i) (length l - 1 - s) f ≡ facts_put l s (o ∷ b ∷ c ∷ d ∷ e ∷ f ∷ g ∷ h ∷ i ∷ [])
  unfolding facts_put sets_at
  facts_write a r j m o b c d e f g h i p q =
      let z : 10 * s + 0 ≡ 10 * s = omega arith in
      let x : 10 * s + 4 + 1 ≡ 10 * s + 5 = omega arith in
      let y : 10 * s + 4 + 2 ≡ 10 * s + 6 = omega arith in
      let w : 10 * s + 4 + 3 ≡ 10 * s + 7 = omega arith in
      rw (q, p, x, y, w)
      (moved (set (set (set (set (set (set l (10 * s) (o % 2 ^ 32)) (10 * s + 1) (o / 2 ^ 32)) (10 * s + 2) b) (10 * s + 3) c) (10 * s + 4) d) (10 * s + 5) e)
      (10 * s + 6) (10 * s + 7) (10 * s + 8) (length l - 1 - s) g h i f (λ k. omega arith) (λ k. omega arith) (λ k. omega arith) ∙ cc)
      ∙ sym (row_in_lem 11 in_facts l s 0 (o % 2 ^ 32 ∷ o / 2 ^ 32 ∷ b ∷ c ∷ d ∷ e ∷ f ∷ g ∷ h ∷ i ∷ []) (record { small = a; room = r }) (omega arith))

  pub facts_short : (o : ℕ) (fs : List ℕ) → length l ≤ 11 * s + 10 → l ≡ facts_put l s (o ∷ fs)
  unfolding facts_put
  facts_short o fs h = sym (row_out 11 in_facts l s 0 (o % 2 ^ 32 ∷ o / 2 ^ 32 ∷ fs) (in_short 11 l s h))

  pub facts_large : (o : ℕ) (fs : List ℕ) → 2 ^ 32 ≤ s → l ≡ facts_put l s (o ∷ fs)
  unfolding facts_put
  facts_large o fs h = sym (row_out 11 in_facts l s 0 (o % 2 ^ 32 ∷ o / 2 ^ 32 ∷ fs) (in_small 11 l s h))
