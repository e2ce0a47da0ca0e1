-- What follows from what a call does, whichever call or sequence of calls it is: the ledger, old ids, which nodes go, which roots are kept.
use mathlib.Core.Path.{◌≡◌, sym, ap, ◌∙◌, subst}
use mathlib.Core.Logic.{◌⊎◌, inl, inr, ◌↔◌}
use Prim.Native.Nat.{ℕ, ◌+◌, ◌%◌, ◌≤◌, ◌<◌}
use native.Mathlib.Omega.{arith}
use Rattle.basics.specs.Limits.{kid_words}
use Rattle.ids.specs.Ids.{generation_of}
use Rattle.nodes.specs.Tally.{kids_of, occ}
use Rattle.nodes.specs.Words.{Words, own, slot}
use Rattle.nodes.proofs.Counts.{live_nonzero}
use Rattle.tree.specs.Tree.{LiveOr0, Same, self, under, Extends, Keeps}
use Rattle.arena.specs.Calls.{Out, fresh_of, counts_of}
use Rattle.arena.specs.Tables.{Tables, cap, W, LiveSlot, WellFormed}
use Rattle.arena.proofs.Holding.{fresh_well}
use Rattle.ledger.specs.Ledger.{holds_on}
use Rattle.ledger.specs.Fates.{Lives}
use Rattle.ledger.proofs.Balance.{fresh_bare, counts_holds}
use Rattle.ledger.proofs.Effects.{holds_dead}
use Rattle.ledger.proofs.Found.{lives_slot}
use Rattle.ledger.proofs.Generations as generations
use Rattle.ledger.proofs.Generations.{id_same}
use Rattle.ledger.proofs.Going.{unlive_exactly}
use Rattle.ledger.proofs.Ladders.{fresh_ways}
use Rattle.calls.specs.Does.{Does, Stepping, Fresh, fresh, History, Held, Kept}
use Rattle.calls.proofs.Compose.{held_lives, since_does}

pub held_there : (t : Tables) (a : ℕ) → Held t a → LiveOr0 (cap t) (W t) a
held_there t a (inl z) = inl z
held_there t a (inr h) = inr (held_lives t a h)

-- below EMPTY there is nothing
pub empty_keeps : (n c : ℕ) (U U' : Words) (a : ℕ) → a ≡ 0 → Keeps n c U U' a
empty_keeps n c U U' a z b self l = absurd (live_nonzero l z)
empty_keeps n c U U' a z b (under i k h r) l = absurd (k.0 z)

-- ## A call, or any sequence of calls

module _ {n tallest : ℕ} (m : n ≤ kid_words) {t u : Tables} {granted taken times : ℕ → ℕ} (w : WellFormed n tallest t) (d : Does n tallest t u granted taken times) where
  -- A node goes exactly if nobody holds it afterwards, that is, all holds that it had or was granted are taken, and no node that is there afterwards has it
  -- as a child.
  pub gone_exactly : (y : ℕ) → Lives t y
      → (Lives u y → ⊥) ↔ ((holds_on t y + granted y ≡ taken y) × ((b : ℕ) → Lives u b → occ y (kids_of n (W u) (slot b)) ≡ 0))
  gone_exactly y v =
      let r = unlive_exactly m d.well y (live_nonzero v) in
      let e = d.balance y in
      ((λ g. let p = r.0 g in ((let q = p.0 in omega arith), p.1)), (λ q. r.1 ((let p = q.0 in omega arith), q.1)))

  -- ## Old ids

  -- Every slot has the generation that the number of its recyclings gives, counted modulo 32,766.
  pub generation : (s : ℕ) → s < cap t → generation_of (W u s own) ≡ (generation_of (W t s own) + times s) % 32766
  generation s l = d.turns s l ∙ generations.turns (times s) (generation_of (W t s own)) (w.gens s l)

  module _ (y : ℕ) (v : Lives t y) where
    -- the generation of the slot of y, by then
    by_then : (generation_of y ≤ 0x7FFD) × (generation_of (W u (slot y) own) ≡ (generation_of y + times (slot y)) % 32766)
    by_then =
        let g = w.gens (slot y) v.low in
        let e : generation_of (W t (slot y) own) ≡ generation_of y = ap generation_of v.is in
        (omega arith, generation (slot y) v.low ∙ ap (λ (x : ℕ). (x + times (slot y)) % 32766) e)

    -- An id that is live before and afterwards: its slot was recycled a multiple of 32,766 times.
    pub round : Lives u y → times (slot y) % 32766 ≡ 0
    round l =
        let p = by_then in
        let q = p.0 in
        let r = p.1 in
        let e : generation_of (W u (slot y) own) ≡ generation_of y = ap generation_of l.is in
        omega arith

    -- An old id is no longer live after 1 to 32,765 recyclings of its slot.
    pub old_ended : 1 ≤ times (slot y) → times (slot y) ≤ 32765 → Lives u y → ⊥
    old_ended a b l = let r = round l in omega arith

    -- After 32,766 it can match again: if a node with the same children is in the slot then, its id is the same number. (So is a leaf's of another
    -- value: the id does not hold the value.)
    pub matches_again : times (slot y) % 32766 ≡ 0 → (z : ℕ) → Lives u z → slot z ≡ slot y → ((i : ℕ) → i < kid_words → W u (slot y) i ≡ W t (slot y) i) → z ≡ y
    matches_again r z l e same =
        let p = by_then in
        let a = p.0 in
        let b = p.1 in
        let c : generation_of (W t (slot y) own) ≡ generation_of y = ap generation_of v.is in
        let live : LiveSlot u (slot y) = subst (λ (s : ℕ). LiveSlot u s) e (lives_slot u z l) in
        let q : W u (slot y) own ≡ W t (slot y) own = id_same n tallest t u (slot y) m (w.nodes (slot y) (lives_slot t y v)) (d.well.nodes (slot y) live) (omega arith) same in
        sym l.is ∙ ap (λ (s : ℕ). W u s own) e ∙ q ∙ v.is

  -- ## Roots that are kept

  kept_of : (a : ℕ) → Keeps n (cap t) (W t) (W u) a → Kept n tallest t u a
  kept_of a k = record { well = d.well; size = d.size; keeps = k }

  -- A root that is there before and afterwards is kept, if its slot was not recycled 32,766 times or more.
  pub there_kept : (a : ℕ) → LiveOr0 (cap t) (W t) a → LiveOr0 (cap u) (W u) a → times (slot a) ≤ 32765 → Kept n tallest t u a
  there_kept a (inl z) l h = kept_of a (empty_keeps n (cap t) (W t) (W u) a z)
  there_kept a (inr v) (inl z) h = kept_of a (empty_keeps n (cap t) (W t) (W u) a z)
  there_kept a (inr v) (inr l) h = kept_of a (d.keeps a v (let r = round a v l in omega arith))

  -- So is a root that is EMPTY or held afterwards ..
  pub held_kept : (a : ℕ) → LiveOr0 (cap t) (W t) a → Held u a → times (slot a) ≤ 32765 → Kept n tallest t u a
  held_kept a v h = there_kept a v (held_there u a h)

  -- .. and a root that has more holds than are taken, however often slots were recycled.
  pub spared_kept : (a : ℕ) → (a ≡ 0) ⊎ (taken a < holds_on t a) → Kept n tallest t u a
  spared_kept a (inl z) = kept_of a (empty_keeps n (cap t) (W t) (W u) a z)
  spared_kept a (inr h) = kept_of a (d.keeps a (held_lives t a (omega arith)) (d.spares a h))

  -- A node that is there before and afterwards keeps its id, its children, its stored value and its height.
  pub stays : (y : ℕ) → Lives t y → Lives u y → times (slot y) ≤ 32765 → Same n (cap t) (W t) (W u) y
  stays y l k h = (there_kept y (inr l) (inr k) h).keeps y self l

  -- Where no slot was recycled every node stays.
  pub all_kept : ((s : ℕ) → s < cap t → times s ≡ 0) → Extends n (cap t) (W t) (W u)
  all_kept none a l = d.keeps a l (none (slot a) l.low) a self l

-- ## Since a fresh arena

module _ (n tallest : ℕ) (m : n ≤ kid_words) where
  -- A fresh arena is well formed, and nothing in it is held.
  pub fresh_made : {t : Tables} → Fresh t → WellFormed n tallest t × ((y : ℕ) → holds_on t y ≡ 0)
  fresh_made (fresh c k f e z) =
      let w : WellFormed n tallest (fresh_of c k f e).after = fresh_ways c k f e
      (λ r q. fresh_well n tallest c k f e r) (λ r q. absurd (let x : ◌≡◌ {A = ℕ} 1 0 = (sym (ap (λ (o : Out). o.no) q) ∙ z) in omega arith)) in
      (w, (λ y. holds_dead (fresh_of c k f e).after y (fresh_bare c k f e w y)))

  module _ (Step : Stepping) (does : (t u : Tables) (g k j : ℕ → ℕ) → WellFormed n tallest t → Step t u g k j → Does n tallest t u g k j)
      {t : Tables} {granted taken : ℕ → ℕ} (h : History Step t granted taken) where
    -- what all the steps did together
    pub history_does : Does n tallest h.begin t granted taken h.times
    history_does = since_does n tallest m Step does (fresh_made h.bare).0 h.since

    -- They are well formed.
    pub reached_well : WellFormed n tallest t
    reached_well = history_does.well

    -- Holds equal those granted less those returned or used, counted over the calls since the fresh arena: of every id, live or not.
    pub holds_ledger : (y : ℕ) → granted y ≡ taken y + holds_on t y
    holds_ledger y = let z = (fresh_made h.bare).1 y in let b = history_does.balance y in omega arith

    -- An id whose node is gone: all the holds granted on it were returned or used.
    pub gone_settled : (y : ℕ) → (Lives t y → ⊥) → granted y ≡ taken y
    gone_settled y d = let r = holds_ledger y in omega (arith, holds_dead t y d)

    -- So it is what counts answers: the holds granted are those returned or used, and those that counts names.
    pub ledger_counts : (y : ℕ) → granted y ≡ taken y + (counts_of t y).holds
    ledger_counts y = let r = holds_ledger y in omega (arith, counts_holds y reached_well.sized)
