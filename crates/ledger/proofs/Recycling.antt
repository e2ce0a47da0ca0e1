-- What a call does to the generation of every slot: a slot whose node ended has the next one, and every other slot keeps its own.
use mathlib.Core.Path.{◌≡◌, refl, sym, ap₂, ◌∙◌, subst}
use mathlib.Core.Logic.{◌≢◌, ◌⊎◌, inl, inr, ⊎_elim}
use mathlib.Core.Bool.{true, false}
use mathlib.Core.List.{List, [], ◌∷◌, ◌++◌}
use Prim.Native.Nat.{ℕ, zero, suc, ◌*◌, ◌^◌, ◌≤◌, ◌<◌}
use native.Mathlib.Decide.{ℕ_discrete}
use native.Mathlib.Omega.{arith}
use lib.Dec.{eqb}
use borrow.Author.Tests.{eq-eqb, ne_eqb, eqb-true}
use Rattle.ids.specs.Ids.{generation_of}
use Rattle.nodes.specs.Tally.{Live, kids_of, occ}
use Rattle.nodes.specs.Words.{Words, own, height, holds, places, slot, floor}
use Rattle.nodes.proofs.Counts.{live_nonzero, total_append}
use Rattle.nodes.proofs.Frame.{frame_low}
use Rattle.nodes.proofs.Sums.{cases, split, occ_here, occ_cons}
use Rattle.arena.specs.Calls.{recycled, less_of, unused_of, each, takes}
use Rattle.arena.specs.Models.{settled}
use Rattle.arena.specs.Node.{next_generation}
use Rattle.arena.specs.Tables.{Tables, cap, W, WellFormed}
use Rattle.arena.proofs.Dropping.{debtor, recycle_others, recycle_own, recycled_cap, recycled_inv, recycled_frame, Dropped, drop_good}
use Rattle.arena.proofs.Fits.{both}
use Rattle.arena.proofs.Ids.{next_gen_le_lem, dead_low}
use Rattle.arena.proofs.Inv.{Inv}
use Rattle.arena.proofs.Releasing.{less_recycled, less_word, less_at, less_kids, takes_empty, takes_left, takes_gone, takes_drop, u_less, u_inv, u_word, u_short}
use Rattle.ledger.specs.Fates.{Lives}
use Rattle.ledger.specs.Stack.{each_goes, goes}

-- each own word is as it was, or it was a live node's and the slot was recycled: the next generation, alone
abbrev pub Recycles : ℕ → Words → Words → Type 0
Recycles c U U' = (b : ℕ) → b < c → (U' b own ≡ U b own) ⊎ ((floor ≤ U b own) × (U' b own ≡ next_generation (generation_of (U b own)) * 2 ^ 32))

dead_after : (U U' : Words) (b : ℕ) → U' b own ≡ next_generation (generation_of (U b own)) * 2 ^ 32 → U' b own < floor
dead_after U U' b e = let p = dead_low (next_generation (generation_of (U b own))) (next_gen_le_lem (generation_of (U b own))) in omega arith

recycles_trans : (c : ℕ) (U U' X : Words) → Recycles c U U' → Recycles c U' X → Recycles c U X
recycles_trans c U U' X p q b l =
    ⊎_elim
    (λ e. ⊎_elim (λ f. inl (f ∙ e)) (λ f. inr (subst (λ (z : ℕ). (floor ≤ z) × (X b own ≡ next_generation (generation_of z) * 2 ^ 32)) e f)) (q b l))
    (λ e. ⊎_elim (λ f. inr (e.0, f ∙ e.1)) (λ f. absurd (let h = dead_after U U' b e.1 in let g = f.0 in omega arith)) (q b l))
    (p b l)

-- ---- one step

recycled_recycles : {t : Tables} (x : ℕ) (debt : List ℕ) → Inv t (x ∷ debt) → x ≢ 0 → Recycles (cap t) (W t) (W (recycled t (slot x)))
recycled_recycles {t} x debt v d b l = cases (ℕ_discrete b (slot x))
    (λ q.
    let live = debtor x debt v d in
    let i = live.is in
    let h = live.high in
    let g : floor ≤ W t (slot x) own = omega arith in
    inr (subst (λ (z : ℕ). (floor ≤ W t z own) × (W (recycled t (slot x)) z own ≡ next_generation (generation_of (W t z own)) * 2 ^ 32)) (sym q) (g, recycle_own x debt v d)))
    (λ q. inl (recycle_others x debt v d b own q (omega arith)))

-- ---- the recursion

pub goes_empty : (k : ℕ) (f : ℕ) (t : Tables) (x : ℕ) → x ≡ 0 → goes (suc k) f t x ≡ []
unfolding goes
goes_empty k f t x e = rw (eq-eqb x 0 e)

goes_left : (k f : ℕ) (t : Tables) (x : ℕ) → unused_of (less_of f t x) x ≡ false → goes (suc k) f t x ≡ []
unfolding goes
goes_left k f t x u = cases (ℕ_discrete x 0) (λ z. rw (eq-eqb x 0 z)) (λ z. rw (ne_eqb x 0 z, u))

goes_gone : (k f : ℕ) (t : Tables) (x : ℕ) → x ≢ 0 → unused_of (less_of f t x) x ≡ true
    → goes (suc k) f t x ≡ slot x ∷ each_goes (takes k places) (goes k places) (recycled (less_of f t x) (slot x)) (kids_of 8 (W (less_of f t x)) (slot x))
unfolding goes
goes_gone k f t x d u = rw (ne_eqb x 0 d, u)

unused_is : (t : Tables) (x : ℕ) → unused_of t x ≡ true → (W t (slot x) holds ≡ 0) × (W t (slot x) places ≡ 0)
unfolding unused_of
unused_is t x e = let b = both (eqb (W t (slot x) holds) 0) (eqb (W t (slot x) places) 0) e in (eqb-true (W t (slot x) holds) 0 b.0, eqb-true (W t (slot x) places) 0 b.1)

took : (k : ℕ) {t : Tables} (x : ℕ) (debt : List ℕ) → Inv t (x ∷ debt) → (x ≢ 0 → W t (slot x) height < k) → Dropped t (takes k places t x) debt
took k {t} x debt v h = subst (λ (u : Tables). Dropped t u debt) (sym (takes_drop k t x)) (drop_good k x debt v h)

-- R t u ss: from t to u the slots ss were recycled, in that order. What holds of nothing done, of a count taken and of a slot recycled, and goes on
-- from each to the next, holds of a release.
module _ (R : Tables → Tables → List ℕ → Type 0)
    (stay : (t : Tables) → R t t [])
    (next : (t u v : Tables) (ss rs : List ℕ) → R t u ss → R u v rs → R t v (ss ++ rs))
    (less : (t : Tables) (x : ℕ) → R t (less_of places t x) [])
    (gone : (t : Tables) (x : ℕ) (debt : List ℕ) → Inv t (x ∷ debt) → x ≢ 0 → R t (recycled t (slot x)) (slot x ∷ [])) where
  abbrev Goes : ℕ → Type 0
  Goes k = (t : Tables) (x : ℕ) (debt : List ℕ) → Inv t (x ∷ debt) → (x ≢ 0 → W t (slot x) height < k) → R t (takes k places t x) (goes k places t x)

  each_goes_lem : (k : ℕ) → Goes k → (ys : List ℕ) (t : Tables) (debt : List ℕ) → Inv t (ys ++ debt) → ((y : ℕ) → y ≢ 0 → 1 ≤ occ y ys → W t (slot y) height < k)
      → R t (each (takes k places) t ys) (each_goes (takes k places) (goes k places) t ys)
  unfolding each each_goes
  each_goes_lem k g [] t debt v h = stay t
  each_goes_lem k g (y ∷ ys) t debt v h =
      let u = takes k places t y in
      let r : Dropped t u (ys ++ debt) = took k y (ys ++ debt) v (λ z. h y z (omega (arith, occ_here y ys))) in
      let low : (z : ℕ) → z ≢ 0 → 1 ≤ occ z ys → W u (slot z) height < k = (λ z d m.
      let w = r.inv.counts.named z d (omega (arith, total_append 8 (cap u) (W u) z ys debt)) in
      frame_low (cap t) (W t) (W u) k z r.frame (subst (λ (c : ℕ). Live c (W u) z) r.size w) (h z d (omega (arith, occ_cons z y ys)))) in
      next t u (each (takes k places) u ys) (goes k places t y) (each_goes (takes k places) (goes k places) u ys)
      (g t y (ys ++ debt) v (λ z. h y z (omega (arith, occ_here y ys)))) (each_goes_lem k g ys u debt r.inv low)

  last_goes : (k : ℕ) → Goes k → (t : Tables) (x : ℕ) (debt : List ℕ) → Inv t (x ∷ debt) → (x ≢ 0 → W t (slot x) height < suc k)
      → x ≢ 0 → W t (slot x) holds ≡ 0 → W t (slot x) places ≤ 1
      → R t (each (takes k places) (recycled t (slot x)) (kids_of 8 (W t) (slot x))) (slot x ∷ each_goes (takes k places) (goes k places) (recycled t (slot x)) (kids_of 8 (W t) (slot x)))
  last_goes k g t x debt v h d u one =
      let live = debtor x debt v d in
      let i = recycled_inv x debt v d one in
      let f = recycled_frame x debt v d u in
      let e = recycled_cap t (slot x) in
      let low : (y : ℕ) → y ≢ 0 → 1 ≤ occ y (kids_of 8 (W t) (slot x)) → W (recycled t (slot x)) (slot y) height < k = (λ y z m.
      let w = i.counts.named y z (omega (arith, total_append 8 (cap (recycled t (slot x))) (W (recycled t (slot x))) y (kids_of 8 (W t) (slot x)) debt)) in
      let p = v.counts.tall (slot x) y live.low z m in
      let q = h d in
      frame_low (cap t) (W t) (W (recycled t (slot x))) k y f (subst (λ (c : ℕ). Live c (W (recycled t (slot x))) y) e w) (omega arith)) in
      next t (recycled t (slot x)) (each (takes k places) (recycled t (slot x)) (kids_of 8 (W t) (slot x))) (slot x ∷ [])
      (each_goes (takes k places) (goes k places) (recycled t (slot x)) (kids_of 8 (W t) (slot x))) (gone t x debt v d) (each_goes_lem k g (kids_of 8 (W t) (slot x)) (recycled t (slot x)) debt i low)

  one_goes : (k : ℕ) → Goes k → Goes (suc k)
  one_goes k g t x debt v h = cases (ℕ_discrete x 0)
      (λ e. to t [] (takes_empty k places t x e) (goes_empty k places t x e) (stay t))
      (λ d. split (unused_of (less_of places t x) x)
      (λ u.
      let b = unused_is (less_of places t x) x u in
      let p = less_word places t x (slot x) holds (omega arith) in
      let q = less_at places t x (omega arith) (omega arith) in
      let b0 = b.0 in
      let b1 = b.1 in
      to (each (takes k places) (recycled t (slot x)) (kids_of 8 (W t) (slot x))) (slot x ∷ each_goes (takes k places) (goes k places) (recycled t (slot x)) (kids_of 8 (W t) (slot x)))
      (takes_gone k places t x d u ∙ ap₂ (λ (z : Tables) (l : List ℕ). each (takes k places) z l) (less_recycled places t x (omega arith) (omega arith)) (less_kids places t x (omega arith)))
      (goes_gone k places t x d u ∙ ap₂ (λ (z : Tables) (l : List ℕ). slot x ∷ each_goes (takes k places) (goes k places) z l) (less_recycled places t x (omega arith) (omega arith)) (less_kids places t x (omega arith)))
      (last_goes k g t x debt v h d (omega arith) (omega arith)))
      (λ u. to (less_of places t x) [] (takes_left k places t x d u) (goes_left k places t x u) (less t x)))
    where
      to : (r : Tables) (ss : List ℕ) → takes (suc k) places t x ≡ r → goes (suc k) places t x ≡ ss → R t r ss → R t (takes (suc k) places t x) (goes (suc k) places t x)
      to r ss e f p = subst (λ (z : Tables). R t z (goes (suc k) places t x)) (sym e) (subst (λ (l : List ℕ). R t r l) (sym f) p)

  all_goes : (k : ℕ) → Goes k
  unfolding takes goes
  all_goes zero t x debt v h = stay t
  all_goes (suc k) t x debt v h = one_goes k (all_goes k) t x debt v h

  -- A release, once the hold is a place that is owed.
  pub release_goes : (n tallest : ℕ) (t : Tables) → n ≤ 8 → WellFormed n tallest t → (id : ℕ) → Lives t id → 1 ≤ W t (slot id) holds
      → R (settled t (slot id)) (takes (suc tallest) holds t id) (goes (suc tallest) holds t id)
  unfolding takes goes
  release_goes n tallest t m w id v held =
      let s = settled t (slot id) in
      let e : less_of places s id ≡ less_of holds t id = u_less m w id v held in
      let d = ne_eqb id 0 (live_nonzero v) in
      let r = all_goes (suc tallest) s id [] (u_inv m w id v held) (λ d. u_short m w id v held) in
      rw d (rw (d, e) at r)

-- ---- a release

settled_cap : (t : Tables) (s : ℕ) → cap (settled t s) ≡ cap t
unfolding settled
settled_cap t s = refl

-- the tables are as large as they were, and each own word is as it was or its slot was recycled
abbrev Recycled : Tables → Tables → List ℕ → Type 0
Recycled t u ss = (cap u ≡ cap t) × Recycles (cap t) (W t) (W u)

less_cap : (f : ℕ) (t : Tables) (x : ℕ) → cap (less_of f t x) ≡ cap t
unfolding less_of
less_cap f t x = refl

pub takes_recycles : {n tallest : ℕ} {t : Tables} → n ≤ 8 → WellFormed n tallest t → (id : ℕ) → Lives t id → 1 ≤ W t (slot id) holds
    → Recycles (cap t) (W t) (W (takes (suc tallest) holds t id))
takes_recycles {n} {tallest} {t} m w id v held =
    let s = settled t (slot id) in
    let r = release_goes Recycled (λ t. (refl, λ b l. inl refl))
    (λ t u v ss rs p q. (q.0 ∙ p.0, recycles_trans (cap t) (W t) (W u) (W v) p.1 (subst (λ (c : ℕ). Recycles c (W u) (W v)) p.0 q.1)))
    (λ t x. (less_cap places t x, λ b l. inl (less_word places t x b own (omega arith))))
    (λ t x debt v d. (recycled_cap t (slot x), recycled_recycles x debt v d)) n tallest t m w id v held in
    recycles_trans (cap t) (W t) (W s) (W (takes (suc tallest) holds t id))
    (λ b l. inl (u_word m w id v held b own (omega arith) (omega arith) (omega arith)))
    (subst (λ (c : ℕ). Recycles c (W s) (W (takes (suc tallest) holds t id))) (settled_cap t (slot id)) r.1)
