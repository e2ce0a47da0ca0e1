-- The laws of a table of r words a slot, for any number of words and any layout that has a place for each.
use mathlib.Core.Path.{◌≡◌, refl, sym, ap, ◌∙◌}
use mathlib.Core.Bool.{true, false}
use mathlib.Core.List.{List, [], ◌∷◌}
use Prim.Native.Nat.{ℕ, zero, suc, ◌+◌, ◌-◌, ◌*◌, ◌/◌, ◌%◌, ◌^◌, ◌≤◌, ◌<◌}
use native.Mathlib.Nat.{mul-le-mul_left}
use native.Mathlib.Decide.{ℕ_discrete, dec_lt}
use native.Mathlib.Omega.{arith}
use lib.Dec.{ltb}
use lib.ListN.{length, get_or, set, length-set}
use lib.Seq.{get_or-set_same, get_or-set_other, set-set, set_comm, set-get_or}
use borrow.Author.Tests.{lt-ltb, le-ltb, ltb-true, ne_eqb}
use Rattle.nodes.specs.Words.{Place, row_in, row_at, row_set, row_from, in_rows, in_facts}
use Rattle.nodes.proofs.Sums.{cases, split}

-- slot s lies in the table
pub record In (r : ℕ) (l : List ℕ) (s : ℕ) : Type 0 where
  pub small : s < 2 ^ 32
  pub room : r * s + (r - 1) < length l

module _ (r : ℕ) (l : List ℕ) (s : ℕ) where
  in_true : In r l s → row_in r l s ≡ true
  unfolding row_in
  in_true w = rw (lt-ltb s (2 ^ 32) w.small, lt-ltb (r * s + (r - 1)) (length l) w.room)

  pub in_small : 2 ^ 32 ≤ s → row_in r l s ≡ false
  unfolding row_in
  in_small h = rw (le-ltb s (2 ^ 32) h)

  pub in_short : length l ≤ r * s + (r - 1) → row_in r l s ≡ false
  unfolding row_in
  in_short h = split (ltb s (2 ^ 32)) (λ t. rw (t, le-ltb (r * s + (r - 1)) (length l) h)) (λ t. rw t)

  pub in_of : row_in r l s ≡ true → In r l s
  unfolding row_in
  in_of e = split (ltb s (2 ^ 32))
      (λ t. let g = rw t at e in record { small = ltb-true s (2 ^ 32) t; room = ltb-true (r * s + (r - 1)) (length l) g })
      (λ t. absurd (let g = rw t at e in let z : ◌≡◌ {A = ℕ} 0 1 = cc in omega arith))

  in_size : (m : List ℕ) → length m ≡ length l → row_in r m s ≡ row_in r l s
  unfolding row_in
  in_size m e = rw e

  in_as : (m : List ℕ) → length m ≡ length l → In r l s → In r m s
  in_as m e w = record { small = w.small; room = rw e w.room }

-- ---- layouts

-- the words of the slots in a table have places in it, each its own
pub record Layout (r : ℕ) (at : Place) : Type 0 where
  pub inside : (n s p : ℕ) → r * s + (r - 1) < n → p < r → at n s p < n
  pub apart : (n s b p q : ℕ) → r * s + (r - 1) < n → r * b + (r - 1) < n → p < r → q < r → (b ≡ s → q ≡ p → ⊥) → at n b q ≡ at n s p → ⊥

pub rows_laid : (r : ℕ) → Layout r (in_rows r)
rows_laid r = record { inside = λ n s p h k. omega arith; apart = λ n s b p q h g k m d e. apart s b p q k m d e }
  where
    apart : (s b p q : ℕ) → p < r → q < r → (b ≡ s → q ≡ p → ⊥) → r * b + q ≡ r * s + p → ⊥
    apart s b p q k m d e = cases (dec_lt b s)
        (λ h. let w : r * suc b ≤ r * s = mul-le-mul_left r h in let z = native.Mathlib.Nat.mul-suc r b in omega arith)
        (λ h. cases (dec_lt s b)
        (λ g. let w : r * suc s ≤ r * b = mul-le-mul_left r g in let z = native.Mathlib.Nat.mul-suc r s in omega arith)
        (λ g. let i : b ≡ s = omega arith in let j : r * b ≡ r * s = ap (λ (n : ℕ). r * n) i in d i (omega arith)))

-- ---- the places of the facts

module _ (n s : ℕ) where
  pub at_before : (p : ℕ) → p < 6 → in_facts n s p ≡ 10 * s + p
  at_before p h = rw (ne_eqb p 6 (λ e. omega arith), lt-ltb p 6 h)

  pub at_after : (p : ℕ) → 6 < p → in_facts n s p ≡ 10 * s + (p - 1)
  at_after p h = rw (ne_eqb p 6 (λ e. omega arith), le-ltb p 6 (omega arith))

  -- before the hash, the hash, after it
  by_place : {A : Type 0} (p : ℕ) → (p < 6 → in_facts n s p ≡ 10 * s + p → A) → (p ≡ 6 → in_facts n s p ≡ n - 1 - s → A)
      → (6 < p → in_facts n s p ≡ 10 * s + (p - 1) → A) → A
  by_place p before is after = cases (dec_lt p 6)
      (λ h. before h (at_before p h)) (λ h. cases (ℕ_discrete p 6) (λ (e : p ≡ 6). is e (rw e)) (λ d. after (omega arith) (at_after p (omega arith))))

pub facts_laid : Layout 11 in_facts
facts_laid = record {
  inside = λ n s p h k. by_place n s p (λ i e. omega arith) (λ i e. omega arith) (λ i e. omega arith);
  apart = λ n s b p q h g k m d x. by_place n s p
      (λ i e. by_place n b q (λ j f. d (omega arith) (omega arith)) (λ j f. omega arith) (λ j f. omega arith))
      (λ i e. by_place n b q (λ j f. omega arith) (λ j f. d (omega arith) (omega arith)) (λ j f. omega arith))
      (λ i e. by_place n b q (λ j f. omega arith) (λ j f. omega arith) (λ j f. d (omega arith) (omega arith)));
}

-- each place of a table for c slots is some word's
pub facts_all : {A : Type 0} (c n q : ℕ) → n ≡ 11 * c → q < n → ((s p : ℕ) → s < c → p < 11 → in_facts n s p ≡ q → A) → A
facts_all c n q e h is = cases (dec_lt q (10 * c))
    (λ k. cases (dec_lt (q % 10) 6)
    (λ b. is (q / 10) (q % 10) (omega arith) (omega arith) (at_before n (q / 10) (q % 10) b ∙ omega arith))
    (λ b. is (q / 10) (suc (q % 10)) (omega arith) (omega arith) (at_after n (q / 10) (suc (q % 10)) (omega arith) ∙ omega arith)))
    (λ k. is (n - 1 - q) 6 (omega arith) (omega arith) (omega arith))

-- the numbers vs set at the places k p, k (p + 1), ..
unfoldable pub sets_at : (ℕ → ℕ) → List ℕ → ℕ → List ℕ → List ℕ
sets_at k l p [] = l
sets_at k l p (v ∷ vs) = sets_at k (set l (k p) v) (suc p) vs

module _ (r : ℕ) (at : Place) where
  -- ---- what is read

  module _ (l : List ℕ) (s p : ℕ) where
    pub cell_in_lem : In r l s → p < r → row_at r at l s p ≡ get_or l (at (length l) s p) 0
    unfolding row_at
    cell_in_lem w h = rw (lt-ltb p r h, in_true r l s w)

    pub cell_out : row_in r l s ≡ false → row_at r at l s p ≡ 0
    unfolding row_at
    cell_out e = split (ltb p r) (λ a. rw (a, e)) (λ a. rw a)

    pub cell_past : r ≤ p → row_at r at l s p ≡ 0
    unfolding row_at
    cell_past h = rw (le-ltb p r h)

    -- two tables of one size agree on a word where they agree at its place
    cell_ext : (m : List ℕ) → length m ≡ length l → (In r l s → p < r → get_or m (at (length l) s p) 0 ≡ get_or l (at (length l) s p) 0) → row_at r at m s p ≡ row_at r at l s p
    unfolding row_at
    cell_ext m e d = split (ltb p r)
        (λ a. split (row_in r l s) (λ t. rw (a, in_size r l s m e, t, e, d (in_of r l s t) (ltb-true p r a))) (λ t. rw (a, in_size r l s m e, t))) (λ a. rw a)

  -- ---- one word written

  put_there : (l : List ℕ) (s p v : ℕ) → In r l s → p < r → row_set r at l s p v ≡ set l (at (length l) s p) v
  unfolding row_set
  put_there l s p v w h = rw (lt-ltb p r h, in_true r l s w)

  module _ (l : List ℕ) (s p v : ℕ) where
    -- the word is set, or nothing is
    cell_cases : {A : Type 0} → (In r l s → p < r → row_set r at l s p v ≡ set l (at (length l) s p) v → A) → (row_set r at l s p v ≡ l → A) → A
    unfolding row_set
    cell_cases one none = split (ltb p r)
        (λ a. split (row_in r l s) (λ t. one (in_of r l s t) (ltb-true p r a) (rw (a, t))) (λ t. none (rw (a, t)))) (λ a. none (rw a))

    pub put_in : In r l s → p < r → row_set r at l s p v ≡ set l (at (length l) s p) v
    put_in w h = put_there l s p v w h

    pub put_out : row_in r l s ≡ false → row_set r at l s p v ≡ l
    unfolding row_set
    put_out e = split (ltb p r) (λ a. rw (a, e)) (λ a. rw a)

    pub put_past : r ≤ p → row_set r at l s p v ≡ l
    unfolding row_set
    put_past h = rw (le-ltb p r h)

    pub cell_size : length (row_set r at l s p v) ≡ length l
    cell_size = cell_cases (λ w h e. ap length e ∙ length-set l (at (length l) s p) v) (λ e. ap length e)

    -- what was there written again
    pub cell_again : v ≡ row_at r at l s p → row_set r at l s p v ≡ l
    cell_again e = cell_cases (λ w h q. q ∙ rw (e ∙ cell_in_lem l s p w h) (set-get_or l (at (length l) s p) 0)) (λ q. q)

    -- and then another
    cell_two : (b q w : ℕ) → In r l s → In r l b → p < r → q < r → row_set r at (row_set r at l s p v) b q w ≡ set (set l (at (length l) s p) v) (at (length l) b q) w
    cell_two b q w i j h k =
        let m = set l (at (length l) s p) v in
        let e = length-set l (at (length l) s p) v in
        rw (put_in i h) (put_there m b q w (in_as r l b m e j) k ∙ ap (λ (n : ℕ). set m (at n b q) w) e)

  pub cell_twice : (l : List ℕ) (s p v w : ℕ) → row_set r at (row_set r at l s p v) s p w ≡ row_set r at l s p w
  cell_twice l s p v w =
      cell_cases l s p v (λ i h e. cell_two l s p v s p w i i h h ∙ set-set l (at (length l) s p) v w ∙ sym (put_in l s p w i h)) (λ e. rw e)

  -- ---- words one after the other written

  pub row_size : (l : List ℕ) (s p : ℕ) (vs : List ℕ) → length (row_from r at l s p vs) ≡ length l
  unfolding row_from
  row_size l s p [] = refl
  row_size l s p (v ∷ vs) = row_size (row_set r at l s p v) s (suc p) vs ∙ cell_size l s p v

  pub row_in_lem : (l : List ℕ) (s p : ℕ) (vs : List ℕ) → In r l s → p + length vs ≤ r → row_from r at l s p vs ≡ sets_at (at (length l) s) l p vs
  unfolding row_from sets_at
  row_in_lem l s p [] w k = refl
  row_in_lem l s p (v ∷ vs) w k =
      let m = set l (at (length l) s p) v in
      let e : length m ≡ length l = length-set l (at (length l) s p) v in
      rw (put_in l s p v w (omega arith)) (row_in_lem m s (suc p) vs (in_as r l s m e w) (omega arith) ∙ ap (λ (n : ℕ). sets_at (at n s) m (suc p) vs) e)

  pub row_out : (l : List ℕ) (s p : ℕ) (vs : List ℕ) → row_in r l s ≡ false → row_from r at l s p vs ≡ l
  unfolding row_from
  row_out l s p [] e = refl
  row_out l s p (v ∷ vs) e = rw (put_out l s p v e) (row_out l s (suc p) vs e)

  -- what was there written again
  pub row_again : (l : List ℕ) (s p : ℕ) (vs : List ℕ) → ((i q : ℕ) → q ≡ p + i → i < length vs → get_or vs i 0 ≡ row_at r at l s q) → row_from r at l s p vs ≡ l
  unfolding row_from
  row_again l s p [] e = refl
  row_again l s p (v ∷ vs) e =
      rw (cell_again l s p v (e 0 p (omega arith) (omega arith))) (row_again l s (suc p) vs (λ i q z h. e (suc i) q (omega arith) (omega arith)))

  -- ---- in a layout with a place for each

  module _ (laid : Layout r at) where
    module _ (l : List ℕ) (s p v : ℕ) where
      pub cell_same : In r l s → p < r → row_at r at (row_set r at l s p v) s p ≡ v
      cell_same w h =
          cell_in_lem (row_set r at l s p v) s p (in_as r l s (row_set r at l s p v) (cell_size l s p v) w) h
          ∙ rw (cell_size l s p v, put_in l s p v w h) (get_or-set_same l (at (length l) s p) v 0 (laid.inside (length l) s p w.room h))

      pub cell_other : (b q : ℕ) → (b ≡ s → q ≡ p → ⊥) → row_at r at (row_set r at l s p v) b q ≡ row_at r at l b q
      cell_other b q d = cell_ext l b q (row_set r at l s p v) (cell_size l s p v)
          (λ i m. cell_cases l s p v
          (λ w h e. rw e (get_or-set_other l (at (length l) s p) (at (length l) b q) v 0 (laid.apart (length l) s b p q w.room i.room h m d))) (λ e. rw e))

      -- two words in either order
      pub cell_swap : (b q w : ℕ) → p < r → q < r → (b ≡ s → q ≡ p → ⊥) → row_set r at (row_set r at l s p v) b q w ≡ row_set r at (row_set r at l b q w) s p v
      cell_swap b q w h k d = split (row_in r l s)
          (λ t. split (row_in r l b)
          (λ z.
          let i = in_of r l s t in
          let j = in_of r l b z in
          cell_two l s p v b q w i j h k
          ∙ set_comm l (at (length l) s p) (at (length l) b q) v w (λ e. laid.apart (length l) s b p q i.room j.room h k d (sym e))
          ∙ sym (cell_two l b q w s p v j i k h))
          (λ z. put_out (row_set r at l s p v) b q w (in_size r l b (row_set r at l s p v) (cell_size l s p v) ∙ z) ∙ sym (ap (λ (m : List ℕ). row_set r at m s p v) (put_out l b q w z))))
          (λ t. ap (λ (m : List ℕ). row_set r at m b q w) (put_out l s p v t) ∙ sym (put_out (row_set r at l b q w) s p v (in_size r l s (row_set r at l b q w) (cell_size l b q w) ∙ t)))

    pub row_other : (l : List ℕ) (s p : ℕ) (vs : List ℕ) (b q : ℕ) → (b ≡ s → p ≤ q → q < p + length vs → ⊥) → row_at r at (row_from r at l s p vs) b q ≡ row_at r at l b q
    unfolding row_from
    row_other l s p [] b q d = refl
    row_other l s p (v ∷ vs) b q d =
        row_other (row_set r at l s p v) s (suc p) vs b q (λ e h k. d e (omega arith) (omega arith))
        ∙ cell_other l s p v b q (λ e m. d e (omega arith) (omega arith))

    pub row_same : (l : List ℕ) (s p : ℕ) (vs : List ℕ) (i q : ℕ) → In r l s → p + length vs ≤ r → i < length vs → q ≡ p + i → row_at r at (row_from r at l s p vs) s q ≡ get_or vs i 0
    unfolding row_from
    row_same l s p [] i q w k h e = absurd (omega arith)
    row_same l s p (v ∷ vs) zero q w k h e =
        let z : q ≡ p = omega arith in
        row_other (row_set r at l s p v) s (suc p) vs s q (λ y a b. omega arith) ∙ rw z (cell_same l s p v w (omega arith))
    row_same l s p (v ∷ vs) (suc i) q w k h e =
        row_same (row_set r at l s p v) s (suc p) vs i q (in_as r l s (row_set r at l s p v) (cell_size l s p v) w) (omega arith) (omega arith) (omega arith)

    -- what is written over leaves nothing
    pub row_over : (l : List ℕ) (s p : ℕ) (vs : List ℕ) (q v : ℕ) → p + length vs ≤ r → p ≤ q → q < p + length vs → row_from r at (row_set r at l s q v) s p vs ≡ row_from r at l s p vs
    unfolding row_from
    row_over l s p [] q v k a b = absurd (omega arith)
    row_over l s p (w ∷ vs) q v k a b = cases (ℕ_discrete q p)
        (λ (e : q ≡ p). ap (λ (m : List ℕ). row_from r at m s (suc p) vs) (rw e (cell_twice l s p v w)))
        (λ d. ap (λ (m : List ℕ). row_from r at m s (suc p) vs) (cell_swap l s q v s p w (omega arith) (omega arith) (λ e f. d (sym f)))
        ∙ row_over (row_set r at l s p w) s (suc p) vs q v (omega arith) (omega arith) (omega arith))
