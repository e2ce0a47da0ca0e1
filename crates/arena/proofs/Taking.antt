-- The holds of a branch's children taken one after the other: that gets through exactly if there are enough of them, and then leaves what the
-- definition leaves; and what it took can be given back.
use mathlib.Core.Path.{◌≡◌, refl, sym, ap, ◌∙◌, subst}
use mathlib.Core.Logic.{◌≢◌}
use mathlib.Core.Bool.{Bool, true, false, not, true≢false}
use mathlib.Core.List.{List, [], ◌∷◌}
use Prim.Native.Nat.{ℕ, suc, ◌+◌, ◌-◌, ◌^◌, ◌≤◌, ◌<◌}
use native.Mathlib.Decide.{ℕ_discrete, dec_lt}
use native.Mathlib.Numerals.{add-one}
use native.Mathlib.Omega.{arith}
use lib.Dec.{eqb}
use lib.ListN.{length, get_or, drop}
use borrow.Author.Tests.{eq-eqb, ne_eqb, le-leb, lt-ltb, ltb-true, le-ltb, not-true, not-false}
use Rattle.basics.specs.Pick.{pick}
use Rattle.nodes.specs.Tally.{occ, same}
use Rattle.nodes.specs.Words.{Words, Nodes, nodes, own, holds, places, slot, fact_of, fact_put, word_of, put_of}
use Rattle.nodes.proofs.Access.{put_keeps, put_less, put_put, put_slot, put_swap, put_word}
use Rattle.nodes.proofs.Sums.{cases, split, occ_nil, occ_cons, occ_here, same_refl, same_diff}
use Rattle.arena.specs.Calls.{all_live, each, enough, enough_for, unheld, unheld_kid}
use Rattle.arena.specs.Models.{bumped, more_of, placed_by, taken_one, has_one, lasts, taken_by, given_back}
use Rattle.arena.specs.Tables.{Tables, cap, W}
use Rattle.arena.proofs.Branches.{affords, alive}
use Rattle.arena.proofs.Eight.{all_true, drop_at, drop_none, each_on, each_end}
use Rattle.arena.proofs.Fits.{both, live_is}

-- ---- what is left is what the definition leaves

taken_kid : (x : Nodes) (k : ℕ) → nodes x.kids (taken_one x.facts k) ≡ unheld_kid x k
unfolding taken_one unheld_kid put_of word_of
taken_kid x k = cases (ℕ_discrete k 0) (λ z. rw (eq-eqb k 0 z)) (λ z. rw (ne_eqb k 0 z))

pub taken_unheld : (x : Nodes) (ks : List ℕ) → taken_by x ks ≡ unheld x ks
unfolding each
taken_unheld x [] = refl
taken_unheld x (k ∷ ks) = ap (λ (y : Nodes). taken_by y ks) (taken_kid x k) ∙ taken_unheld (unheld_kid x k) ks

-- ---- holds and places are written in any order

taken_bumped : (f : List ℕ) (k y : ℕ) → bumped places (taken_one f k) y ≡ taken_one (bumped places f y) k
unfolding bumped taken_one put_of word_of
taken_bumped f k y = cases (ℕ_discrete k 0)
    (λ z. rw (eq-eqb k 0 z))
    (λ z. cases (ℕ_discrete y 0)
    (λ v. rw (ne_eqb k 0 z, eq-eqb y 0 v))
    (λ v.
    let p = put_keeps (nodes [] f) (slot k) holds (fact_of f (slot k) holds - 1) (slot y) places (omega arith) in
    let q = put_keeps (nodes [] f) (slot y) places (more_of (fact_of f (slot y) places)) (slot k) holds (omega arith) in
    rw (ne_eqb k 0 z, ne_eqb y 0 v, p, q) (put_swap f (slot k) holds (fact_of f (slot k) holds - 1) (slot y) places (more_of (fact_of f (slot y) places)) (omega arith) (omega arith) (omega arith) (omega arith) (λ e z. omega arith))))

module _ {A : Type 0} (g h : A → ℕ → A) (swap : (x : A) (k y : ℕ) → h (g x k) y ≡ g (h x y) k) where
  each_past : (x : A) (k : ℕ) (ks : List ℕ) → each h (g x k) ks ≡ g (each h x ks) k
  unfolding each
  each_past x k [] = refl
  each_past x k (y ∷ ks) = ap (λ (z : A). each h z ks) (swap x k y) ∙ each_past (h x y) k ks

  each_swap : (x : A) (ks ys : List ℕ) → each h (each g x ks) ys ≡ each g (each h x ys) ks
  unfolding each
  each_swap x [] ys = refl
  each_swap x (k ∷ ks) ys = each_swap (g x k) ks ys ∙ ap (λ (z : A). each g z ks) (each_past x k ys)

-- the places may be counted once the holds are taken
pub placed_taken : (x : Nodes) (ks : List ℕ) → placed_by (taken_by x ks) ks ≡ unheld (placed_by x ks) ks
placed_taken x ks = ap (nodes x.kids) (each_swap taken_one (bumped places) taken_bumped x.facts ks ks) ∙ taken_unheld (placed_by x ks) ks

-- ---- it gets through exactly if there are enough

taken_count : (f : List ℕ) (k y : ℕ) → y ≢ 0 → (slot y ≡ slot k → k ≢ 0 → y ≡ k) → fact_of (taken_one f k) (slot y) holds ≡ fact_of f (slot y) holds - same y k
unfolding taken_one put_of word_of
taken_count f k y d o = cases (ℕ_discrete k 0)
    (λ z. let n = same_diff y k (λ e. d (e ∙ z)) in rw (eq-eqb k 0 z) (omega arith))
    (λ z. cases (ℕ_discrete y k)
    (λ (e : y ≡ k). rw (e, ne_eqb k 0 z, same_refl k) (put_less (nodes [] f) (slot k) holds (omega arith) (omega arith)))
    (λ e.
    let n = same_diff y k e in
    let p = put_slot (nodes [] f) (slot k) holds (fact_of f (slot k) holds - 1) (slot y) holds (λ q. e (o q z)) in
    rw (ne_eqb k 0 z) (omega arith)))

has_one_lem : (f : List ℕ) (k : ℕ) → has_one f k ≡ true → k ≢ 0 → 1 ≤ fact_of f (slot k) holds
unfolding has_one
has_one_lem f k e d = ltb-true 0 (fact_of f (slot k) holds) (rw (ne_eqb k 0 d) at e)

one_has : (f : List ℕ) (k : ℕ) → (k ≢ 0 → 1 ≤ fact_of f (slot k) holds) → has_one f k ≡ true
unfolding has_one
one_has f k h = cases (ℕ_discrete k 0) (λ z. rw (eq-eqb k 0 z)) (λ z. rw (ne_eqb k 0 z) (lt-ltb 0 (fact_of f (slot k) holds) (h z)))

-- `o` tells the id of a slot: no two of the ids share one
module _ (o : ℕ → ℕ) where
  abbrev Owned : List ℕ → Type 0
  Owned ks = (y : ℕ) → y ≢ 0 → 1 ≤ occ y ks → o (slot y) ≡ y

  abbrev Enough : List ℕ → List ℕ → Type 0
  Enough f ks = (y : ℕ) → y ≢ 0 → 1 ≤ occ y ks → occ y ks ≤ fact_of f (slot y) holds

  module _ (k : ℕ) (ks : List ℕ) (w : Owned (k ∷ ks)) (f : List ℕ) where
    rest : Owned ks
    rest y d i = w y d (omega (arith, occ_cons y k ks))

    count : (y : ℕ) → y ≢ 0 → 1 ≤ occ y (k ∷ ks) → fact_of (taken_one f k) (slot y) holds ≡ fact_of f (slot y) holds - same y k
    count y d i = taken_count f k y d (λ e z. sym (w y d i) ∙ ap o e ∙ w k z (omega (arith, occ_here k ks)))

    enough_more : has_one f k ≡ true → Enough (taken_one f k) ks → Enough f (k ∷ ks)
    enough_more h e y d i =
        let n = count y d i in
        let c = occ_cons y k ks in
        cases (dec_lt 0 (occ y ks))
        (λ l. let p = e y d l in omega arith)
        (λ l. cases (ℕ_discrete y k)
        (λ (q : y ≡ k). let p = subst (λ (z : ℕ). 1 ≤ fact_of f (slot z) holds) (sym q) (has_one_lem f k h (λ z. d (q ∙ z))) in omega (arith, occ_here y ks, ap (λ (z : ℕ). same y z) q, same_refl y))
        (λ q. absurd (omega (arith, same_diff y k q))))

    enough_less : Enough f (k ∷ ks) → (has_one f k ≡ true) × Enough (taken_one f k) ks
    enough_less e = (
      one_has f k (λ z. let p = e k z (omega (arith, occ_here k ks)) in omega (arith, occ_here k ks)),
      λ y d i. let c = occ_cons y k ks in let n = count y d (omega arith) in let p = e y d (omega arith) in omega arith,
    )

  lasts_enough : (ks f : List ℕ) → Owned ks → lasts f ks ≡ true → Enough f ks
  unfolding lasts
  lasts_enough [] f w e = λ y d i. absurd (omega (arith, occ_nil y))
  lasts_enough (k ∷ ks) f w e =
      let b = both (has_one f k) (lasts (taken_one f k) ks) e in
      enough_more k ks w f b.0 (lasts_enough ks (taken_one f k) (rest k ks w f) b.1)

  enough_lasts : (ks f : List ℕ) → Owned ks → Enough f ks → lasts f ks ≡ true
  unfolding lasts
  enough_lasts [] f w e = refl
  enough_lasts (k ∷ ks) f w e =
      let b = enough_less k ks w f e in
      rw b.0 (enough_lasts ks (taken_one f k) (rest k ks w f) b.1)

enough_true : (U : Words) (ks : List ℕ) → ((y : ℕ) → y ≢ 0 → 1 ≤ occ y ks → occ y ks ≤ U (slot y) holds) → enough U ks ≡ true
unfolding enough_for
enough_true U ks h = all_true (enough_for U ks) ks (λ y i. cases (ℕ_discrete y 0)
    (λ z. rw (eq-eqb y 0 z))
    (λ z. rw (ne_eqb y 0 z) (le-leb (occ y ks) (U (slot y) holds) (h y z i))))

-- a live id is the own word of its slot
pub lasts_law : (t : Tables) (ks : List ℕ) → all_live (cap t) (W t) ks ≡ true → lasts t.nodes.facts ks ≡ enough (W t) ks
unfolding word_of
lasts_law t ks a =
    let f = t.nodes.facts in
    let o : ℕ → ℕ = λ s. W t s own in
    let w : ((y : ℕ) → y ≢ 0 → 1 ≤ occ y ks → o (slot y) ≡ y) = λ y d i. (live_is t y (alive t ks a y d i)).is in
    split (enough (W t) ks)
    (λ e. enough_lasts o ks f w (affords (W t) ks e) ∙ sym e)
    (λ e. split (lasts f ks)
    (λ l. absurd (true≢false (sym (enough_true (W t) ks (lasts_enough o ks f w l)) ∙ e)))
    (λ l. l ∙ sym e))

-- ---- one hold taken, and given back

module _ (f : List ℕ) (k : ℕ) where
  module _ (z : k ≡ 0) where
    pub has_none : true ≡ has_one f k
    unfolding has_one
    has_none = rw (eq-eqb k 0 z)

    pub taken_none : f ≡ taken_one f k
    unfolding taken_one
    taken_none = rw (eq-eqb k 0 z)

    pub given_none : bumped holds f k ≡ f
    unfolding bumped
    given_none = rw (eq-eqb k 0 z)

  module _ (s h : ℕ) (d : k ≡ 0 → ⊥) (es : s ≡ slot k) (eh : h ≡ fact_of f s holds) where
    here : h ≡ fact_of f (slot k) holds
    here = eh ∙ ap (λ (x : ℕ). fact_of f x holds) es

    pub has_lack : h ≡ 0 → false ≡ has_one f k
    unfolding has_one
    has_lack z = let q = here in rw (ne_eqb k 0 d, le-ltb 0 (fact_of f (slot k) holds) (omega arith))

    module _ (n : h ≡ 0 → ⊥) where
      pub has_some : true ≡ has_one f k
      has_some = let q = here in sym (one_has f k (λ z. omega arith))

      module _ (f' g : List ℕ) (eg : g ≡ f) (ef : f' ≡ fact_put g s holds (h - 1)) where
        pub taken_some : f' ≡ taken_one f k
        unfolding taken_one
        taken_some = ef ∙ rw (eg, ne_eqb k 0 d, es, here)

        -- the count does not run over
        pub given_some : h < 2 ^ 32 → bumped holds f' k ≡ f
        unfolding taken_one bumped more_of put_of word_of
        given_some small =
            let q = here in
            let w = more_of (fact_of (fact_put f (slot k) holds (fact_of f (slot k) holds - 1)) (slot k) holds) in
            let l = put_less (nodes [] f) (slot k) holds (omega arith) (omega arith) in
            rw (taken_some, ne_eqb k 0 d)
            (ap (λ (x : Nodes). x.facts) (put_put (nodes [] f) (slot k) holds (fact_of f (slot k) holds - 1) w ∙ put_word (nodes [] f) (slot k) holds w (omega arith)))

-- ---- the pass, and what it took given back

-- the first i of ks are taken of f₀, which left f
pub record Taking (f₀ f ks : List ℕ) (i : ℕ) : Type 0 where
  pub able : lasts f₀ ks ≡ lasts f (drop i ks)
  pub left : each taken_one f₀ ks ≡ each taken_one f (drop i ks)
  pub back : given_back f ks i ≡ f₀

pub taking_none : (f ks : List ℕ) → Taking f f ks 0
unfolding given_back
taking_none f ks = record { able = refl; left = refl; back = refl }

module _ (f₀ f ks : List ℕ) (i : ℕ) (eight : length ks ≡ 8) (t : Taking f₀ f ks i) where
  module _ (r : Bool) (f' : List ℕ) (low : i < 8) (has : r ≡ has_one f (get_or ks i 0)) (taken : f' ≡ pick r (taken_one f (get_or ks i 0)) f) where
    able_at : lasts f₀ ks ≡ pick r (lasts (taken_one f (get_or ks i 0)) (drop (i + 1) ks)) false
    unfolding lasts
    able_at = t.able ∙ ap (lasts f) (drop_at ks i eight low) ∙ rw has

    pub taking_on : pick r (bumped holds f' (get_or ks i 0)) f' ≡ f → not r ≡ false → Taking f₀ f' ks (i + 1)
    unfolding given_back
    taking_on given z =
        let y = not-false r z in
        let e : f' ≡ taken_one f (get_or ks i 0) = rw y at taken in
        let b : bumped holds f' (get_or ks i 0) ≡ f = rw y at given in
        record {
          able = able_at ∙ rw (y, e);
          left = each_on taken_one f₀ f ks i eight t.left f' low e;
          back = rw (add-one i) (ap (λ (g : List ℕ). given_back g ks i) b ∙ t.back);
        }

    module _ (z : not r ≡ true) where
      pub stop_lasts : eqb i 8 ≡ lasts f₀ ks
      stop_lasts = let a : lasts f₀ ks ≡ false = rw (not-true r z) at able_at in ne_eqb i 8 (λ q. omega arith) ∙ sym a

      pub stop_back : pick (eqb i 8) f' (given_back f' ks i) ≡ pick (eqb i 8) (each taken_one f₀ ks) f₀
      stop_back =
          let e : f' ≡ f = rw (not-true r z) at taken in
          rw (ne_eqb i 8 (λ q. omega arith)) (ap (λ (g : List ℕ). given_back g ks i) e ∙ t.back)

  pub end_lasts : 8 ≤ i → true ≡ lasts f₀ ks
  unfolding lasts
  end_lasts high = sym (t.able ∙ ap (lasts f) (drop_none ks i eight high))

  pub end_taken : 8 ≤ i → f ≡ each taken_one f₀ ks
  end_taken high = each_end taken_one f₀ f ks i eight t.left high

module _ (f₀ f ks : List ℕ) (n i : ℕ) (e : given_back f₀ ks n ≡ given_back f ks i) where
  pub back_on : (f' : List ℕ) (j : ℕ) → 0 < i → j ≡ i - 1 → f' ≡ bumped holds f (get_or ks j 0) → given_back f₀ ks n ≡ given_back f' ks j
  unfolding given_back
  back_on f' j l ej ef =
      let q : i ≡ suc j = omega arith in
      e ∙ rw q (ap (λ (g : List ℕ). given_back g ks j) (sym ef))

  pub back_end : i ≤ 0 → f ≡ given_back f₀ ks n
  unfolding given_back
  back_end l = let q : i ≡ 0 = omega arith in sym (e ∙ rw q)

-- all were passed, or what was taken is given back
module _ (f₀ f ks : List ℕ) (n : ℕ) where
  pub pass_all : eqb n 8 ≡ lasts f₀ ks → n ≤ 8 → 8 ≤ n → true ≡ lasts f₀ ks
  pass_all e l h = sym (eq-eqb n 8 (omega arith)) ∙ e

  pub pass_some : eqb n 8 ≡ lasts f₀ ks → n < 8 → false ≡ lasts f₀ ks
  pass_some e h = sym (ne_eqb n 8 (λ q. omega arith)) ∙ e

  module _ (p : pick (eqb n 8) f (given_back f ks n) ≡ pick (eqb n 8) (each taken_one f₀ ks) f₀) where
    pub pass_taken : n ≤ 8 → 8 ≤ n → f ≡ each taken_one f₀ ks
    pass_taken l h = rw (eq-eqb n 8 (omega arith)) at p

    pub pass_back : (f' : List ℕ) → n < 8 → f' ≡ given_back f ks n → f' ≡ f₀
    pass_back f' h ef = ef ∙ (rw (ne_eqb n 8 (λ q. omega arith)) at p)
