-- Where one node alone is held, what lives is that node and what stands below it, and the arena's number of live nodes is theirs.
use mathlib.Core.Path.{◌≡◌, refl, sym, ap, ◌∙◌, subst}
use mathlib.Core.Logic.{◌≢◌, inr, ⊎_elim, ◌↔◌}
use mathlib.Core.Bool.{true≢false}
use mathlib.Core.List.Memᴰ
use mathlib.Core.List.{List, [], ◌∷◌, Memᴰ}
use Prim.Native.Nat.{ℕ, zero, suc, ◌≤◌, ◌<◌}
use native.Mathlib.Decide.{ℕ_discrete, dec_lt}
use native.Mathlib.Omega.{arith}
use lib.Dec.{ltb}
use lib.ListN.{length}
use borrow.Author.Tests.{lt-ltb, le-ltb}
use Rattle.basics.specs.Limits.{kid_words}
use Rattle.basics.specs.Pick.{pick}
use Rattle.basics.specs.Sums.{sum_to}
use Rattle.ids.specs.Ids.{generation_of}
use Rattle.nodes.specs.Tally.{kids_of, occ, live_count, Under, here, down}
use Rattle.nodes.specs.Words.{Words, own, slot, floor}
use Rattle.nodes.proofs.Counts.{live_nonzero}
use Rattle.nodes.proofs.Freeing.{live_one, live_zero}
use Rattle.nodes.proofs.Sums.{cases, tab_occ}
use Rattle.tree.specs.Tree.{Branch, Below, self, under, child_of}
use Rattle.tree.specs.Lacks.{Once}
use Rattle.tree.proofs.Canon.{live}
use Rattle.tree.proofs.Grow.{below_live}
use Rattle.arena.specs.Calls.{Out, release_of}
use Rattle.arena.specs.Tables.{live_in, Tables, cap, W, WellFormed}
use Rattle.arena.proofs.Fits.{sized_fits}
use Rattle.ledger.specs.Ledger.{holds_on}
use Rattle.ledger.specs.Fates.{Lives}
use Rattle.ledger.proofs.Effects.{live_true, holds_live, on_same, on_diff}
use Rattle.ledger.proofs.Found.{lives_slot, slot_own, slot_lives}
use Rattle.ledger.proofs.Going.{lives_exactly}
use Rattle.ledger.proofs.Ladders.{release_ways}
use Rattle.ledger.proofs.Stack.{live_counted}
use Rattle.read_cell.proofs.Meaning.{wf_made, branch_below, generation_small}
use Rattle.calls.specs.Does.{Held}
use Rattle.calls.specs.Living.{HeldAlone, NodeOf, NodesOf}
use Rattle.calls.proofs.Compose.{held_lives}

-- one level more
below_then : {n : ℕ} {U : Words} {a b : ℕ} → Below n U a b → (i : ℕ) → Branch b → i < n → Below n U a (child_of U b i)
below_then self i k h = under i k h self
below_then (under j l g u) i k h = under j l g (below_then u i k h)

-- at or below EMPTY is EMPTY alone
below_empty : {n : ℕ} {U : Words} {a b : ℕ} → a ≡ 0 → Below n U a b → b ≡ 0
below_empty z self = z
below_empty z (under i k h u) = absurd (k.0 z)

-- the live ids of the slots below k; they are as many as live
ids_to : Words → ℕ → List ℕ
ids_to U zero = []
ids_to U (suc k) = let rest = ids_to U k in pick (ltb (U k own) floor) rest (U k own ∷ rest)

ids_many : (U : Words) (k : ℕ) → length (ids_to U k) ≡ live_count k U
unfolding ids_to live_count sum_to
ids_many U zero = refl
ids_many U (suc k) = cases (dec_lt (U k own) floor)
    (λ h. rw (lt-ltb (U k own) floor h) (omega (arith, ids_many U k, live_zero (U k own) h)))
    (λ h. rw (le-ltb (U k own) floor (omega arith)) (omega (arith, ids_many U k, live_one (U k own) (omega arith))))

-- y is the id in a slot below k
abbrev Stored : Words → ℕ → ℕ → Type 0
Stored U k y = (s : ℕ) × (s < k) × (floor ≤ U s own) × (y ≡ U s own)

ids_from : (U : Words) (k y : ℕ) → Memᴰ y (ids_to U k) → Stored U k y
unfolding ids_to
ids_from U zero y m = absurd (Memᴰ.not-nil m)
ids_from U (suc k) y m = cases (dec_lt (U k own) floor)
    (λ h. let r = ids_from U k y (rw (lt-ltb (U k own) floor h) at m) in (r.0, omega (arith, r.1), r.2, r.3))
    (λ h. ⊎_elim (λ e. (k, omega arith, omega arith, e))
    (λ q. let r = ids_from U k y q in (r.0, omega (arith, r.1), r.2, r.3)) (Memᴰ.cases_cons (rw (le-ltb (U k own) floor (omega arith)) at m)))

ids_have : (U : Words) (k y : ℕ) → Stored U k y → Memᴰ y (ids_to U k)
unfolding ids_to
ids_have U zero y r = absurd (let h = r.1 in omega arith)
ids_have U (suc k) y (s, low, high, e) = cases (ℕ_discrete s k)
    (λ q. let h : floor ≤ U k own = subst (λ (x : ℕ). floor ≤ U x own) q high in rw (le-ltb (U k own) floor h) (Memᴰ.head (e ∙ ap (λ (x : ℕ). U x own) q)))
    (λ q.
    let m = ids_have U k y (s, omega arith, high, e) in
    cases (dec_lt (U k own) floor) (λ h. rw (lt-ltb (U k own) floor h) m) (λ h. rw (le-ltb (U k own) floor (omega arith)) (Memᴰ.tail m)))

ids_once : (U : Words) (k : ℕ) → ((s : ℕ) → s < k → floor ≤ U s own → slot (U s own) ≡ s) → Once (ids_to U k)
unfolding ids_to
ids_once U zero slots = tt
ids_once U (suc k) slots =
    let o = ids_once U k (λ s h. slots s (omega arith)) in
    cases (dec_lt (U k own) floor)
    (λ h. rw (lt-ltb (U k own) floor h) o)
    (λ h. rw (le-ltb (U k own) floor (omega arith)) (
      (λ m.
          let r = ids_from U k (U k own) m in
          let l = r.1 in
          let e : slot (U k own) ≡ slot (U r.0 own) = ap slot r.3 in
          omega (arith, slots k (omega arith) (omega arith), slots r.0 (omega arith) r.2)),
      o,
    ))

module _ {n tallest : ℕ} (m : n ≤ kid_words) {t : Tables} (w : WellFormed n tallest t) where
  -- A release of EMPTY or of an id that someone holds is accepted.
  pub held_released : (a : ℕ) → Held t a → (release_of tallest t a).no ≡ 0
  held_released a h =
      release_ways tallest t a
      (λ f e. absurd (let s = sized_fits w.sized in true≢false (sym s ∙ f)))
      (λ f z e. ap (λ (o : Out). o.no) e)
      (λ f z l e. absurd (⊎_elim z (λ k. true≢false (sym (live_true t a (held_lives t a k)) ∙ l)) h))
      (λ f z l r e. absurd (⊎_elim z (λ k. let s = holds_live t a (held_lives t a k) in omega arith) h))
      (λ f z l r k e. ap (λ (o : Out). o.no) e)

  -- a child of a live node
  child : (b y : ℕ) → Lives t b → y ≢ 0 → 1 ≤ occ y (kids_of kid_words (W t) (slot b)) → (i : ℕ) × (i < n) × Branch b × (child_of (W t) b i ≡ y) × Lives t y
  unfolding kids_of
  child b y l d o =
      let (i, z, low, e) = tab_occ kid_words 0 (W t (slot b)) y o in
      let some : W t (slot b) i ≢ 0 = (λ q. d (sym e ∙ q)) in
      let cap-low = w.sized.most in
      let in_b = l.low in
      let is = l.is in
      ⊎_elim (λ v. absurd (some (v.bare i (omega arith))))
      (λ v. cases (dec_lt i n)
      (λ h. (
        i,
        h,
        (live_nonzero l, omega (arith, v.id, branch_below (W t) (slot b) (generation_of (W t (slot b) own)) (omega arith) (generation_small (W t (slot b) own)))),
        e,
        subst (λ (x : ℕ). Lives t x) e (v.children i h some),
      ))
      (λ h. absurd (some (v.beyond i (omega arith) (omega arith)))))
      (w.nodes (slot b) (lives_slot t b l)).kind

  under_below : (a : ℕ) {y : ℕ} → Lives t a → Under (W t) a y → Below n (W t) a y × Lives t y
  under_below a l here = (self, l)
  under_below a l (down {b = b} {y = y} q d o) =
      let (u, k) = under_below a l q in
      let (i, h, r, e, v) = child b y k d o in
      (subst (λ (x : ℕ). Below n (W t) a x) e (below_then u i r h), v)

  -- A node is live exactly if it is at or below one that someone holds.
  pub lives_below : (y : ℕ) → Lives t y ↔ ((a : ℕ) × (1 ≤ holds_on t a) × NodeOf n t a y)
  lives_below y = (
    (λ l. let (a, v, h, u) = (lives_exactly m w y).0 l in (a, h, (live_nonzero l, (under_below a v u).0))),
    (λ (a, h, q). live (below_live (wf_made m w) (inr (held_lives t a h)) q.1) q.0),
  )

  module _ (a : ℕ) (alone : HeldAlone t a) where
    -- Where a alone is held, the nodes at or below it are those that live ..
    pub alone_lives : (y : ℕ) → Lives t y ↔ NodeOf n t a y
    alone_lives y = (
      (λ l.
          let (b, h, u) = (lives_below y).0 l in
          cases (ℕ_discrete b a) (λ e. subst (λ (x : ℕ). NodeOf n t x y) e u) (λ e. absurd (omega (arith, alone b, on_diff b a e)))),
      (λ (d, u). cases (ℕ_discrete a 0)
          (λ z. absurd (d (below_empty z u)))
          (λ z. (lives_below y).1 (a, omega (arith, alone a, on_same a a z refl), (d, u)))),
    )

    -- .. and the arena's number of live nodes is their number.
    pub alone_counted : NodesOf n t a (live_in t.arena)
    alone_counted = record {
      nodes = ids_to (W t) (cap t);
      many = ids_many (W t) (cap t) ∙ sym (live_counted w);
      these = λ y. (
        (λ q. let (s, low, high, e) = ids_from (W t) (cap t) y q in (alone_lives y).0 (subst (λ (x : ℕ). Lives t x) (sym e) (slot_lives m w s (low, high)))),
        (λ q. let l = (alone_lives y).1 q in let s = lives_slot t y l in ids_have (W t) (cap t) y (slot y, s.0, s.1, sym l.is)),
      );
      once = ids_once (W t) (cap t) (λ s low high. slot_own m w s (low, high));
    }
