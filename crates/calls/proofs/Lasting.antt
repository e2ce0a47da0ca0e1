-- What calls leave that take no hold in all: no node ends; and if they grant none either, live nodes and counts are as they were.
use mathlib.Core.Path.{◌≡◌, refl, sym, ap, ◌∙◌, subst}
use mathlib.Core.Logic.{◌≢◌, ◌⊎◌, inl, inr, ⊎_elim}
use mathlib.Core.Bool.{false}
use Prim.Native.Nat.{ℕ, ◌≤◌, ◌<◌}
use native.Mathlib.Decide.{ℕ_discrete, dec_lt}
use native.Mathlib.Omega.{arith}
use borrow.Author.Tests.{eq-eqb, ne_eqb}
use Rattle.basics.specs.Limits.{kid_words}
use Rattle.ids.specs.Ids.{is_leaf}
use Rattle.nodes.specs.Tally.{Live, tally, live_bit, live_count}
use Rattle.nodes.specs.Values.{value_at, height_at}
use Rattle.nodes.specs.Words.{own, value, height, sum, spare, hash, holds, places, slot, floor}
use Rattle.nodes.proofs.Counts.{kids_same, live_nonzero, tally_same}
use Rattle.nodes.proofs.Freeing.{live_zero}
use Rattle.nodes.proofs.Sums.{cases, split, sum_to_ext_lem}
use Rattle.tree.specs.Tree.{Below, Extends}
use Rattle.tree.proofs.Canon.{live}
use Rattle.tree.proofs.Grow.{below_live, below_earlier, extends_keeps}
use Rattle.find.specs.Content.{hash_for}
use Rattle.arena.specs.Calls.{live_of, counts_of}
use Rattle.arena.specs.Tables.{live_in, Tables, cap, W, LiveSlot, WellFormed}
use Rattle.arena.proofs.Fits.{live_is, sized_fits}
use Rattle.arena.proofs.Ids.{node_leaf, node_branch, value_zero}
use Rattle.arena.proofs.Inv.{wf_counts}
use Rattle.arena.proofs.Searched.{hash_kept}
use Rattle.ledger.specs.Ledger.{holds_on}
use Rattle.ledger.specs.Fates.{Lives, Grew}
use Rattle.ledger.proofs.Effects.{live_true, by_life, holds_live, holds_dead}
use Rattle.ledger.proofs.Found.{lives_slot, slot_own, slot_lives}
use Rattle.ledger.proofs.Stack.{live_counted}
use Rattle.read_cell.proofs.Meaning.{wf_made}
use Rattle.calls.specs.Does.{Does}
use Rattle.calls.specs.Living.{SameLife}
use Rattle.calls.proofs.Compose.{held_lives}
use Rattle.calls.proofs.Living.{lives_below}

-- child words from n on are EMPTY
beyond : {n tallest : ℕ} {t : Tables} → WellFormed n tallest t → (y : ℕ) → Lives t y → (i : ℕ) → n ≤ i → i < kid_words → W t (slot y) i ≡ 0
beyond {t = t} w y l i p q = ⊎_elim (λ f. f.bare i q) (λ f. f.beyond i p q) (w.nodes (slot y) (lives_slot t y l)).kind

-- the sum and the hash that a node keeps follow from its content
module _ {n tallest : ℕ} (m : n ≤ kid_words) {t u : Tables} (wt : WellFormed n tallest t) (wu : WellFormed n tallest u) (s : ℕ) (lt : LiveSlot t s) (lu : LiveSlot u s)
    (self : W u s own ≡ W t s own) (kid : (i : ℕ) → i < kid_words → W u s i ≡ W t s i) where
  same_sum : ((y : ℕ) → Lives t y → value_at (W u) y ≡ value_at (W t) y) → W u s sum ≡ W t s sum
  same_sum worth = split (is_leaf (W t s own))
      (λ f.
      (node_leaf m lu.0 wu.sized.most (wu.nodes s lu) (ap is_leaf self ∙ f)).summed
      ∙ sym (node_leaf m lt.0 wt.sized.most (wt.nodes s lt) f).summed)
      (λ f.
      let b = node_branch m lt.0 wt.sized.most (wt.nodes s lt) f in
      (node_branch m lu.0 wu.sized.most (wu.nodes s lu) (ap is_leaf self ∙ f)).summed
      ∙ sum_to_ext_lem n (λ i. value_at (W u) (W u s i)) (λ i. value_at (W t) (W t s i)) (λ i h. ap (value_at (W u)) (kid i (omega arith)) ∙ cases (ℕ_discrete (W t s i) 0)
      (λ z. ap (value_at (W u)) z ∙ value_zero (W u) ∙ sym (ap (value_at (W t)) z ∙ value_zero (W t)))
      (λ z. worth (W t s i) (b.children i h z)))
      ∙ sym b.summed)

  same_hash : W u s value ≡ W t s value → W u s hash ≡ W t s hash
  unfolding hash_for
  same_hash worth = hash_kept m wu s lu ∙ rw (self, worth, kids_same kid_words (W t) (W u) s kid) (sym (hash_kept m wt s lt))

-- Where every node stays as it is, each has all its words but the counts.
pub extends_grew : {n tallest : ℕ} → n ≤ kid_words → {t u : Tables} → WellFormed n tallest t → WellFormed n tallest u → cap u ≡ cap t → Extends n (cap t) (W t) (W u)
    → Grew t u
unfolding value_at height_at
extends_grew {n} m {t} {u} wt wu e x = record { size = e; stays = λ y l. (later y l, (λ f h. word y l f h)) }
  where
    later : (y : ℕ) → Lives t y → Lives u y
    later y l = subst (λ (c : ℕ). Live c (W u) y) (sym e) (x y l).still

    kid : (y : ℕ) → Lives t y → (i : ℕ) → i < kid_words → W u (slot y) i ≡ W t (slot y) i
    kid y l i h = cases (dec_lt i n)
        (λ k. sym ((x y l).kids i k))
        (λ k. let q : n ≤ i = omega arith in beyond wu y (later y l) i q h ∙ sym (beyond wt y l i q h))

    word : (y : ℕ) → Lives t y → (f : ℕ) → f < holds → W u (slot y) f ≡ W t (slot y) f
    word y l f h =
        let s = x y l in
        let z = ne_eqb y 0 (live_nonzero l) in
        cases (dec_lt f kid_words)
        (λ q. kid y l f q)
        (λ q. cases (ℕ_discrete f own)
        (λ p. rw p (s.still.is ∙ sym l.is))
        (λ v. cases (ℕ_discrete f value)
        (λ p. rw p (sym (rw z at s.value)))
        (λ r. cases (ℕ_discrete f height)
        (λ p. rw p (sym (rw z at s.height)))
        (λ j. cases (ℕ_discrete f sum)
        (λ p. rw p (same_sum m wt wu (slot y) (lives_slot t y l) (lives_slot u y (later y l)) (s.still.is ∙ sym l.is) (kid y l) (λ a v. sym (x a v).value)))
        (λ k. cases (ℕ_discrete f spare)
        (λ p. rw p (wu.spared (slot y) (later y l).low ∙ sym (wt.spared (slot y) l.low)))
        (λ o.
        let p : f ≡ hash = omega arith in
        rw p (same_hash m wt wu (slot y) (lives_slot t y l) (lives_slot u y (later y l)) (s.still.is ∙ sym l.is) (kid y l) (sym (rw z at s.value)))))))))

-- ## No hold is taken

module _ {n tallest : ℕ} (m : n ≤ kid_words) {t u : Tables} {granted times : ℕ → ℕ} (w : WellFormed n tallest t) (d : Does n tallest t u granted (λ y. 0) times) where
  -- Every node stays as it is: each stands at or below one that is held, and that one is spared.
  pub untaken_extends : Extends n (cap t) (W t) (W u)
  untaken_extends y l = let (a, h, q) = (lives_below m w y).0 l in d.keeps a (held_lives t a h) (d.spares a h) y q.1 l

  pub untaken_grew : Grew t u
  untaken_grew = extends_grew m w d.well d.size untaken_extends

  -- What stands below a node that lived lived too.
  lived_below : (a y : ℕ) → Lives t a → y ≢ 0 → Below n (W u) a y → Lives t y
  lived_below a y l z q =
      let made = wf_made m w in
      live (below_live made (inr l) (below_earlier n (cap t) (W t) (W u) made (inr l) (extends_keeps untaken_extends a) q)) z

  -- What lives afterwards lived before, or is at or below a node that is held and did not live before.
  pub untaken_only : (y : ℕ) → Lives u y → Lives t y ⊎ ((a : ℕ) × (Lives t a → ⊥) × (1 ≤ holds_on u a) × Below n (W u) a y)
  untaken_only y l =
      let (a, h, q) = (lives_below m d.well y).0 l in
      by_life t a (λ v. inl (lived_below a y v q.0 q.1)) (λ v. inr (a, v, h, q.1))

-- ## Nor is one granted

-- two arenas in which the same nodes live, with the same words but the counts
module _ {n tallest : ℕ} (m : n ≤ kid_words) {t u : Tables} (wt : WellFormed n tallest t) (wu : WellFormed n tallest u) (g : Grew t u) (b : Grew u t) where
  -- a live slot has all its words but the counts as they were
  live_row : (s f : ℕ) → LiveSlot t s → f < holds → W u s f ≡ W t s f
  live_row s f l h = subst (λ (k : ℕ). W u k f ≡ W t k f) (slot_own m wt s l) ((g.stays (W t s own) (slot_lives m wt s l)).1 f h)

  -- a slot that is live in u is live in t
  back_live : (s : ℕ) → LiveSlot u s → LiveSlot t s
  back_live s l =
      let e = g.size in
      let r : W t s own ≡ W u s own = subst (λ (k : ℕ). W t k own ≡ W u k own) (slot_own m wu s l) ((b.stays (W u s own) (slot_lives m wu s l)).1 own (omega arith)) in
      let low = l.0 in
      let high = l.1 in
      (omega arith, omega arith)

  -- every slot, live or dead, is as live as it was and has the same children
  row : (s : ℕ) → s < cap t → (live_bit (W u s own) ≡ live_bit (W t s own)) × ((i : ℕ) → i < kid_words → W u s i ≡ W t s i)
  row s l = cases (dec_lt (W t s own) floor)
      (λ d. cases (dec_lt (W u s own) floor)
      (λ c. (
        live_zero (W u s own) c ∙ sym (live_zero (W t s own) d),
        (λ i h. (wf_counts m wu).bare s (let e = g.size in omega arith) c i h ∙ sym ((wf_counts m wt).bare s l d i h)),
      ))
      (λ c. absurd (let e = g.size in let k = back_live s (omega arith, omega arith) in let h = k.1 in omega arith)))
      (λ d.
      let k : LiveSlot t s = (l, omega arith) in
      (ap live_bit (live_row s own k (omega arith)), (λ i h. live_row s i k (omega arith))))

  -- the places are the tally, and the tally is over the same children
  same_places : (y : ℕ) → Lives t y → W u (slot y) places ≡ W t (slot y) places
  same_places y l =
      let k = g.stays y l in
      let a : W u (slot y) places ≡ tally kid_words (cap u) (W u) y = wu.tallied (slot y) (lives_slot u y k.0) ∙ ap (tally kid_words (cap u) (W u)) k.0.is in
      let c : W t (slot y) places ≡ tally kid_words (cap t) (W t) y = wt.tallied (slot y) (lives_slot t y l) ∙ ap (tally kid_words (cap t) (W t)) l.is in
      let z : tally kid_words (cap u) (W u) y ≡ tally kid_words (cap t) (W u) y = ap (λ (c : ℕ). tally kid_words c (W u) y) g.size in
      a ∙ z ∙ tally_same kid_words (cap t) (W t) (W u) y (λ s i h j. (row s h).1 i j) ∙ sym c

  same_count : live_in u.arena ≡ live_in t.arena
  unfolding live_count
  same_count =
      let z : live_count (cap u) (W u) ≡ live_count (cap t) (W u) = ap (λ (c : ℕ). live_count c (W u)) g.size in
      live_counted wu ∙ z ∙ sum_to_ext_lem (cap t) (λ s. live_bit (W u s own)) (λ s. live_bit (W t s own)) (λ s l. (row s l).0) ∙ sym (live_counted wt)

  same_words : ((y : ℕ) → holds_on u y ≡ holds_on t y) → (y : ℕ) → Lives t y → (f : ℕ) → f ≤ places → W u (slot y) f ≡ W t (slot y) f
  same_words same y l f k = cases (dec_lt f holds)
      (λ q. (g.stays y l).1 f q)
      (λ q. cases (ℕ_discrete f holds)
      (λ z. rw z (let a = same y in omega (arith, holds_live t y l, holds_live u y (g.stays y l).0)))
      (λ z. let p : f ≡ places = omega arith in rw p (same_places y l)))

module _ {n tallest : ℕ} (m : n ≤ kid_words) {t u : Tables} {times : ℕ → ℕ} (w : WellFormed n tallest t) (d : Does n tallest t u (λ y. 0) (λ y. 0) times) where
  same_holds : (y : ℕ) → holds_on u y ≡ holds_on t y
  same_holds y = let e = d.balance y in omega arith

  grew : Grew t u
  grew = untaken_grew m w d

  back : (y : ℕ) → Lives u y → Lives t y
  back y l = ⊎_elim (λ v. v) (λ (a, dead, h, q). absurd (omega (arith, same_holds a, holds_dead t a dead))) (untaken_only m w d y l)

  -- Live nodes and counts are as they were.
  pub same_life : SameLife t u
  same_life = record {
    size = d.size;
    lives = λ y. ((λ l. (grew.stays y l).0), back y);
    words = same_words m w d.well grew (record { size = sym d.size; stays = λ y l. (back y l, (λ f h. sym ((grew.stays y (back y l)).1 f h))) }) same_holds;
    count = same_count m w d.well grew (record { size = sym d.size; stays = λ y l. (back y l, (λ f h. sym ((grew.stays y (back y l)).1 f h))) });
  }

-- ## What it says

pub life_refl : (t : Tables) → SameLife t t
life_refl t = record { size = refl; lives = λ y. ((λ l. l), (λ l. l)); words = λ y l f k. refl; count = refl }

-- Every id, live or not, has the holds that it had ..
pub life_holds : {t u : Tables} → SameLife t u → (y : ℕ) → holds_on u y ≡ holds_on t y
life_holds {t} {u} s y = by_life t y
    (λ l. omega (arith, holds_live t y l, holds_live u y ((s.lives y).0 l), s.words y l holds (omega arith)))
    (λ d. omega (arith, holds_dead t y d, holds_dead u y (λ l. d ((s.lives y).1 l))))

dead_false : (t : Tables) (y : ℕ) → (Lives t y → ⊥) → live_of (cap t) (W t) y ≡ false
dead_false t y d = split (live_of (cap t) (W t) y) (λ e. absurd (d (live_is t y e))) (λ e. e)

-- .. and the call for counts answers it as before.
pub life_counts : {n tallest : ℕ} {t u : Tables} → WellFormed n tallest t → WellFormed n tallest u → SameLife t u → (y : ℕ) → counts_of u y ≡ counts_of t y
unfolding counts_of
life_counts {t = t} {u = u} wt wu s y = rw (sized_fits wt.sized, sized_fits wu.sized) (cases (ℕ_discrete y 0)
    (λ z. rw (eq-eqb y 0 z))
    (λ z. rw (ne_eqb y 0 z) (by_life t y
    (λ l. rw (live_true t y l, live_true u y ((s.lives y).0 l), s.words y l holds (omega arith), s.words y l places (omega arith)))
    (λ d. rw (dead_false t y d, dead_false u y (λ l. d ((s.lives y).1 l)))))))
