-- The laws of access: what a write leaves of each word. After these the addressing is not opened again.
use mathlib.Core.Path.{◌≡◌, refl, sym, ap, ◌∙◌}
use mathlib.Core.Logic.{◌≢◌}
use mathlib.Core.Bool.{false}
use mathlib.Core.List.{List, ◌∷◌}
use Prim.Native.Nat.{ℕ, suc, ◌+◌, ◌-◌, ◌*◌, ◌/◌, ◌%◌, ◌^◌, ◌≤◌, ◌<◌}
use native.Mathlib.Decide.{ℕ_discrete, dec_lt}
use native.Mathlib.Omega.{arith}
use lib.ListN.{length, get_or}
use borrow.Author.Tests.{lt-ltb, le-ltb, ne_eqb}
use Rattle.nodes.specs.Tally.{kids_of}
use Rattle.nodes.specs.Words.{own, value, mark, entry, row_in, row_at, row_set, row_from, row_put, in_rows, in_facts, Nodes, nodes, kid_of, fact_of, word_of, fact_put, put_of, facts_put, written}
use Rattle.nodes.proofs.Counts.{Others}
use Rattle.nodes.proofs.Rows.{In, in_of, cell_out, cell_size, cell_same, cell_other, cell_twice, cell_again, cell_swap, put_out, row_size, row_same, row_other, row_over, row_again, rows_laid, facts_laid}
use Rattle.nodes.proofs.Sums.{cases, split, tab_from_ext_lem}

-- the slot's words lie inside both tables
pub record Within (x : Nodes) (s : ℕ) : Type 0 where
  pub kids : In 8 x.kids s
  pub facts : In 11 x.facts s

pub record SameSize (x y : Nodes) : Type 0 where
  pub kids : length y.kids ≡ length x.kids
  pub facts : length y.facts ≡ length x.facts

pub size_refl : (x : Nodes) → SameSize x x
size_refl x = record { kids = refl; facts = refl }

pub size_trans : {x y z : Nodes} → SameSize x y → SameSize y z → SameSize x z
size_trans p q = record { kids = q.kids ∙ p.kids; facts = q.facts ∙ p.facts }

pub within_size : (x y : Nodes) (s : ℕ) → SameSize x y → Within x s → Within y s
within_size x y s p w =
    let a = p.kids in
    let b = p.facts in
    let k = w.kids.room in
    let f = w.facts.room in
    record { kids = record { small = w.kids.small; room = omega arith }; facts = record { small = w.facts.small; room = omega arith } }

pub nodes_path : (k l f g : List ℕ) → k ≡ l → f ≡ g → nodes k f ≡ nodes l g
nodes_path k l f g p q = λ i. record { kids = p i; facts = q i }

-- ---- where a word lies

pub word_kid : (x : Nodes) (s i : ℕ) → i < 8 → word_of x s i ≡ kid_of x.kids s i
unfolding word_of
word_kid x s i h = rw (lt-ltb i 8 h)

pub word_fact : (x : Nodes) (s f : ℕ) → own ≤ f → word_of x s f ≡ fact_of x.facts s f
unfolding word_of
word_fact x s f h = rw (le-ltb f 8 h)

pub kids_word : (n : ℕ) (x : Nodes) (s : ℕ) → n ≤ 8 → kids_of n (kid_of x.kids) s ≡ kids_of n (word_of x) s
unfolding kids_of
kids_word n x s m = tab_from_ext_lem n 0 (kid_of x.kids s) (word_of x s) (λ i a b. sym (word_kid x s i (omega arith)))

module _ (l : List ℕ) (s : ℕ) where
  pub fact_own : fact_of l s own ≡ row_at 11 in_facts l s 0 + 2 ^ 32 * row_at 11 in_facts l s 1
  unfolding fact_of
  fact_own = refl

  pub fact_row : (f : ℕ) → own < f → fact_of l s f ≡ row_at 11 in_facts l s (f - 7)
  unfolding fact_of
  fact_row f h = rw (ne_eqb f own (λ e. omega arith), le-ltb f own (omega arith))

  fact_low : (f : ℕ) → f < own → fact_of l s f ≡ 0
  unfolding fact_of
  fact_low f h = rw (ne_eqb f own (λ e. omega arith), lt-ltb f own h)

  pub put_row : (f v : ℕ) → own < f → fact_put l s f v ≡ row_set 11 in_facts l s (f - 7) v
  unfolding fact_put
  put_row f v h = rw (lt-ltb own f h)

  pub put_none : (f v : ℕ) → f ≤ own → fact_put l s f v ≡ l
  unfolding fact_put
  put_none f v h = rw (le-ltb own f h)

-- by the kind of a fact
kind : {A : Type 0} (f : ℕ) → (f < own → A) → (f ≡ own → A) → (own < f → A) → A
kind f low is high = cases (dec_lt f own) low (λ h. cases (ℕ_discrete f own) is (λ k. high (omega arith)))

-- outside of the table
pub fact_out : (l : List ℕ) (s f : ℕ) → row_in 11 l s ≡ false → fact_of l s f ≡ 0
fact_out l s f e = kind f (fact_low l s f)
    (λ (q : f ≡ own). rw (q, fact_own l s, cell_out 11 in_facts l s 0 e, cell_out 11 in_facts l s 1 e))
    (λ h. fact_row l s f h ∙ cell_out 11 in_facts l s (f - 7) e)

pub fact_put_out_lem : (l : List ℕ) (s f v : ℕ) → row_in 11 l s ≡ false → fact_put l s f v ≡ l
fact_put_out_lem l s f v e = cases (dec_lt own f) (λ h. put_row l s f v h ∙ put_out 11 in_facts l s (f - 7) v e) (λ h. put_none l s f v (omega arith))

-- two tables that agree on the words of a fact agree on the fact
fact_ext : (l m : List ℕ) (b g : ℕ) → ((q : ℕ) → (g ≡ own → q < 2) → (own < g → q ≡ g - 7) → own ≤ g → row_at 11 in_facts m b q ≡ row_at 11 in_facts l b q) → fact_of m b g ≡ fact_of l b g
fact_ext l m b g e = kind g
    (λ h. fact_low m b g h ∙ sym (fact_low l b g h))
    (λ (h : g ≡ own).
    let z = e 0 (λ i. omega arith) (λ i. absurd (omega arith)) (omega arith) in
    let o = e 1 (λ i. omega arith) (λ i. absurd (omega arith)) (omega arith) in
    rw h (fact_own m b ∙ rw (z, o) (sym (fact_own l b))))
    (λ h. fact_row m b g h ∙ e (g - 7) (λ i. absurd (omega arith)) (λ i. refl) (omega arith) ∙ sym (fact_row l b g h))

-- ---- one fact written

module _ (l : List ℕ) (s f v : ℕ) where
  fact_put_size_lem : length (fact_put l s f v) ≡ length l
  fact_put_size_lem = cases (dec_lt own f) (λ h. ap length (put_row l s f v h) ∙ cell_size 11 in_facts l s (f - 7) v) (λ h. ap length (put_none l s f v (omega arith)))

  fact_same : In 11 l s → own < f → f ≤ entry → fact_of (fact_put l s f v) s f ≡ v
  fact_same w a b = rw (put_row l s f v a) (fact_row (row_set 11 in_facts l s (f - 7) v) s f a ∙ cell_same 11 in_facts facts_laid l s (f - 7) v w (omega arith))

  fact_other : (b g : ℕ) → (b ≡ s → g ≡ f → ⊥) → fact_of (fact_put l s f v) b g ≡ fact_of l b g
  fact_other b g d = cases (dec_lt own f)
      (λ h. fact_ext l (fact_put l s f v) b g (λ q i j o. rw (put_row l s f v h) (cell_other 11 in_facts facts_laid l s (f - 7) v b q (λ e m.
      kind g (λ z. omega arith) (λ z. let y = i z in omega arith) (λ z. let y = j z in d e (omega arith))))))
      (λ h. rw (put_none l s f v (omega arith)))

-- two tables agree on a word where they agree on its child or its fact
word_ext : (x y : Nodes) (s f : ℕ) → (f < 8 → kid_of y.kids s f ≡ kid_of x.kids s f) → (own ≤ f → fact_of y.facts s f ≡ fact_of x.facts s f) → word_of y s f ≡ word_of x s f
word_ext x y s f k e = cases (dec_lt f 8)
    (λ h. word_kid y s f h ∙ k h ∙ sym (word_kid x s f h)) (λ h. word_fact y s f (omega arith) ∙ e (omega arith) ∙ sym (word_fact x s f (omega arith)))

module _ (x : Nodes) (s f v : ℕ) where
  pub put_size : SameSize x (put_of x s f v)
  unfolding put_of
  put_size = record { kids = refl; facts = fact_put_size_lem x.facts s f v }

  pub put_same : Within x s → own < f → f ≤ entry → word_of (put_of x s f v) s f ≡ v
  unfolding put_of
  put_same w h k = word_fact (put_of x s f v) s f (omega arith) ∙ fact_same x.facts s f v w.facts h k

  put_elsewhere : (b g : ℕ) → (b ≡ s → g ≡ f → ⊥) → word_of (put_of x s f v) b g ≡ word_of x b g
  unfolding put_of
  put_elsewhere b g d = word_ext x (put_of x s f v) b g (λ h. refl) (λ h. fact_other x.facts s f v b g d)

  pub put_slot : (b g : ℕ) → b ≢ s → word_of (put_of x s f v) b g ≡ word_of x b g
  put_slot b g d = put_elsewhere b g (λ e q. d e)

  pub put_field : (g : ℕ) → g ≢ f → word_of (put_of x s f v) s g ≡ word_of x s g
  put_field g d = put_elsewhere s g (λ e q. d q)

  -- another word, in any slot
  pub put_keeps : (b g : ℕ) → g ≢ f → word_of (put_of x s f v) b g ≡ word_of x b g
  put_keeps b g d = put_elsewhere b g (λ e q. d q)

  pub put_put : (w : ℕ) → put_of (put_of x s f v) s f w ≡ put_of x s f w
  unfolding put_of
  put_put w = ap (nodes x.kids) (cases (dec_lt own f)
      (λ h. put_row (fact_put x.facts s f v) s f w h ∙ rw (put_row x.facts s f v h, put_row x.facts s f w h) (cell_twice 11 in_facts x.facts s (f - 7) v w))
      (λ h. ap (λ (m : List ℕ). fact_put m s f w) (put_none x.facts s f v (omega arith))))

-- two facts in either order
pub put_swap : (l : List ℕ) (s f v b g w : ℕ) → own < f → f ≤ entry → own < g → g ≤ entry → (b ≡ s → g ≡ f → ⊥) → fact_put (fact_put l s f v) b g w ≡ fact_put (fact_put l b g w) s f v
put_swap l s f v b g w hf kf hg kg d =
    put_row (fact_put l s f v) b g w hg ∙ ap (λ (m : List ℕ). row_set 11 in_facts m b (g - 7) w) (put_row l s f v hf)
    ∙ cell_swap 11 in_facts facts_laid l s (f - 7) v b (g - 7) w (omega arith) (omega arith) (λ e q. d e (omega arith))
    ∙ sym (put_row (fact_put l b g w) s f v hf ∙ ap (λ (m : List ℕ). row_set 11 in_facts m s (f - 7) v) (put_row l b g w hg))

-- what was there written again
pub put_word : (x : Nodes) (s f v : ℕ) → v ≡ word_of x s f → put_of x s f v ≡ x
unfolding put_of
put_word x s f v e = ap (nodes x.kids) (cases (dec_lt own f)
    (λ h. put_row x.facts s f v h ∙ cell_again 11 in_facts x.facts s (f - 7) v (e ∙ word_fact x s f (omega arith) ∙ fact_row x.facts s f h))
    (λ h. put_none x.facts s f v (omega arith)))

-- one less, in the table or past it
pub put_less : (x : Nodes) (s f : ℕ) → own < f → f ≤ entry → word_of (put_of x s f (word_of x s f - 1)) s f ≡ word_of x s f - 1
unfolding put_of
put_less x s f h k = split (row_in 11 x.facts s)
    (λ t. word_fact (put_of x s f (word_of x s f - 1)) s f (omega arith) ∙ fact_same x.facts s f (word_of x s f - 1) (in_of 11 x.facts s t) h k)
    (λ t.
    let z : word_of x s f ≡ 0 = word_fact x s f (omega arith) ∙ fact_out x.facts s f t in
    let y : word_of (put_of x s f (word_of x s f - 1)) s f ≡ 0 = word_fact (put_of x s f (word_of x s f - 1)) s f (omega arith) ∙ out t in
    omega arith)
  where
    out : row_in 11 x.facts s ≡ false → fact_of (fact_put x.facts s f (word_of x s f - 1)) s f ≡ 0
    out t = rw (fact_put_out_lem x.facts s f (word_of x s f - 1) t) (fact_out x.facts s f t)

-- ---- the facts of a node written

module _ (l : List ℕ) (s o : ℕ) (fs : List ℕ) (eight : length fs ≡ 8) where
  abbrev row : List ℕ
  row = o % 2 ^ 32 ∷ o / 2 ^ 32 ∷ fs

  facts_row : facts_put l s (o ∷ fs) ≡ row_from 11 in_facts l s 0 row
  unfolding facts_put
  facts_row = refl

  facts_size : length (facts_put l s (o ∷ fs)) ≡ length l
  facts_size = ap length facts_row ∙ row_size 11 in_facts l s 0 row

  facts_words : In 11 l s → (p : ℕ) → p < 10 → row_at 11 in_facts (facts_put l s (o ∷ fs)) s p ≡ get_or row p 0
  facts_words w p h = rw facts_row (row_same 11 in_facts facts_laid l s 0 row p p w (omega arith) (omega arith) (omega arith))

  facts_own : In 11 l s → fact_of (facts_put l s (o ∷ fs)) s own ≡ o
  facts_own w = fact_own (facts_put l s (o ∷ fs)) s ∙ rw (facts_words w 0 (omega arith), facts_words w 1 (omega arith)) (omega arith)

  facts_at : In 11 l s → (i : ℕ) → i < 8 → fact_of (facts_put l s (o ∷ fs)) s (value + i) ≡ get_or fs i 0
  facts_at w i h =
      let e : value + i - 7 ≡ suc (suc i) = omega arith in
      fact_row (facts_put l s (o ∷ fs)) s (value + i) (omega arith) ∙ rw e (facts_words w (suc (suc i)) (omega arith))

  -- the entry, and every other slot
  facts_other : (b g : ℕ) → (b ≡ s → mark < g) → fact_of (facts_put l s (o ∷ fs)) b g ≡ fact_of l b g
  facts_other b g d = fact_ext l (facts_put l s (o ∷ fs)) b g (λ q i j k.
      rw facts_row (row_other 11 in_facts facts_laid l s 0 row b q (λ e h m. let z = d e in let y = j (omega arith) in omega arith)))

  -- what is written over leaves nothing
  facts_over : (f u : ℕ) → f ≤ mark → facts_put (fact_put l s f u) s (o ∷ fs) ≡ facts_put l s (o ∷ fs)
  unfolding facts_put
  facts_over f u h = cases (dec_lt own f)
      (λ k. ap (λ (m : List ℕ). row_from 11 in_facts m s 0 row) (put_row l s f u k) ∙ row_over 11 in_facts facts_laid l s 0 row (f - 7) u (omega arith) (omega arith) (omega arith))
      (λ k. ap (λ (m : List ℕ). row_from 11 in_facts m s 0 row) (put_none l s f u (omega arith)))

-- ---- a slot written

-- the facts are the own word and eight more
module _ (x : Nodes) (s : ℕ) (ks : List ℕ) (o : ℕ) (fs : List ℕ) (eight : length ks ≡ 8) (more : length fs ≡ 8) where
  pub written_size : SameSize x (written x s ks (o ∷ fs))
  unfolding written row_put
  written_size = record { kids = row_size 8 (in_rows 8) x.kids s 0 ks; facts = facts_size x.facts s o fs more }

  -- every other slot, and every entry
  pub written_other : (b f : ℕ) → (b ≡ s → mark < f) → word_of (written x s ks (o ∷ fs)) b f ≡ word_of x b f
  unfolding written kid_of row_put
  written_other b f d = word_ext x (written x s ks (o ∷ fs)) b f
      (λ h. row_other 8 (in_rows 8) (rows_laid 8) x.kids s 0 ks b f (λ e k m. let z = d e in omega arith)) (λ h. facts_other x.facts s o fs more b f d)

  pub written_others : Others s (word_of x) (word_of (written x s ks (o ∷ fs)))
  written_others b f d m = written_other b f (λ e. absurd (d e))

  pub written_entry : (b : ℕ) → word_of (written x s ks (o ∷ fs)) b entry ≡ word_of x b entry
  written_entry b = written_other b entry (λ e. omega arith)

  pub written_kid : Within x s → (i : ℕ) → i < 8 → word_of (written x s ks (o ∷ fs)) s i ≡ get_or ks i 0
  unfolding written kid_of row_put
  written_kid w i h = word_kid (written x s ks (o ∷ fs)) s i h ∙ row_same 8 (in_rows 8) (rows_laid 8) x.kids s 0 ks i i w.kids (omega arith) (omega arith) (omega arith)

  pub written_own : Within x s → word_of (written x s ks (o ∷ fs)) s own ≡ o
  unfolding written
  written_own w = word_fact (written x s ks (o ∷ fs)) s own (omega arith) ∙ facts_own x.facts s o fs more w.facts

  -- value, height, sum, spare, hash, holds, places, mark
  pub written_fact : Within x s → (i : ℕ) → i < 8 → word_of (written x s ks (o ∷ fs)) s (value + i) ≡ get_or fs i 0
  unfolding written
  written_fact w i h = word_fact (written x s ks (o ∷ fs)) s (value + i) (omega arith) ∙ facts_at x.facts s o fs more w.facts i h

  pub written_over : (f v : ℕ) → f ≤ mark → written (put_of x s f v) s ks (o ∷ fs) ≡ written x s ks (o ∷ fs)
  unfolding written put_of
  written_over f v h = ap (nodes (row_put 8 x.kids s ks)) (facts_over x.facts s o fs more f v h)

  -- children that stand there already need not be written
  pub written_kept : ((i : ℕ) → i < 8 → get_or ks i 0 ≡ word_of x s i) → written x s ks (o ∷ fs) ≡ nodes x.kids (facts_put x.facts s (o ∷ fs))
  unfolding written kid_of row_put
  written_kept e =
      ap (λ (m : List ℕ). nodes m (facts_put x.facts s (o ∷ fs)))
      (row_again 8 (in_rows 8) x.kids s 0 ks (λ i p z h. let q : p ≡ i = omega arith in rw q (e i (omega arith) ∙ word_kid x s i (omega arith))))
