-- After 32,766 recyclings an old id does match again: in an arena of two slots, interning one leaf and releasing it, over and over.
use mathlib.Core.Path.{◌≡◌, refl, sym, ap, ◌∙◌, subst}
use mathlib.Core.Logic.{inr, ⊎_elim}
use mathlib.Core.Bool.{true}
use mathlib.Core.List.{List}
use Prim.Native.Nat.{ℕ, zero, suc, ◌+◌, ◌*◌, ◌≤◌, ◌<◌}
use native.Mathlib.Decide.{dec_lt}
use native.Mathlib.Omega.{arith}
use lib.ListN.{length, get_or, replicate}
use Rattle.basics.specs.Limits.{kid_words, fact_words, slot_cells}
use Rattle.nodes.specs.Tally.{kids_of, live_bit, live_count}
use Rattle.nodes.specs.Words.{own, slot, floor}
use Rattle.nodes.proofs.Counts.{kids_same, live_nonzero, occ_bare}
use Rattle.nodes.proofs.Freeing.{live_zero}
use Rattle.nodes.proofs.Sums.{cases, sum_to_pos_lem}
use Rattle.arena.specs.Calls.{empties, intern_leaf_of, release_of, fresh_of, fit_of}
use Rattle.arena.specs.Tables.{live_in, Tables, cap, W, WellFormed}
use Rattle.arena.proofs.Holding.{fresh_well}
use Rattle.arena.proofs.Rows.{empties_at}
use Rattle.ledger.specs.Ledger.{on, if_accepted, holds_on}
use Rattle.ledger.specs.Fates.{Lives, HasContent, ended}
use Rattle.ledger.specs.Refusals.{LeafWhy, unsized_leaf, nothing, full_leaf, crowded_leaf}
use Rattle.ledger.proofs.Balance.{fresh_bare}
use Rattle.ledger.proofs.Contents.{leaf_interned}
use Rattle.ledger.proofs.Effects.{holds_dead, on_same, accepted}
use Rattle.ledger.proofs.Found.{kid_word, slot_lives, not_ground}
use Rattle.ledger.proofs.Generations.{ended_none, ended_one}
use Rattle.ledger.proofs.Going.{leaf_makes_one, release_makes_none}
use Rattle.ledger.proofs.Refusals.{leaf_refusals}
use Rattle.ledger.proofs.Stack.{live_counted}
use Rattle.calls.specs.Does.{Does, Stepping, Since, now, then}
use Rattle.calls.proofs.Arena.{leaf_does, release_does}
use Rattle.calls.proofs.Compose.{since_does}
use Rattle.calls.proofs.Follows.{gone_exactly, matches_again}
use Rattle.calls.proofs.Living.{held_released}

-- nothing is live
abbrev Bare : Tables → Type 0
Bare t = (y : ℕ) → Lives t y → ⊥

bare_count : {n tallest : ℕ} {t : Tables} → n ≤ kid_words → WellFormed n tallest t → Bare t → live_in t.arena ≡ 0
unfolding live_count
bare_count {t = t} m w none = cases (dec_lt 0 (live_in t.arena))
    (λ h.
    let e = live_counted w in
    let p = sum_to_pos_lem (cap t) (λ s. live_bit (W t s own)) (omega arith) in
    let q = p.2 in
    absurd (cases (dec_lt (W t p.0 own) floor)
    (λ l. omega (arith, live_zero (W t p.0 own) l))
    (λ l. none (W t p.0 own) (slot_lives m w p.0 (p.1, omega arith)))))
    (λ h. omega arith)

-- the leaf z of value 1 is all there is, in slot 1, with one hold
record One (n tallest : ℕ) (t : Tables) (z : ℕ) : Type 0 where
  well : WellFormed n tallest t
  two : cap t ≡ 2
  has : HasContent t z empties 1
  first : slot z ≡ 1
  only : (y : ℕ) → Lives t y → y ≡ z
  once : holds_on t z ≡ 1

abbrev zeros : ℕ → List ℕ
zeros k = replicate k 0

fits_two : fit_of 2 (length (zeros (2 * kid_words))) (length (zeros (2 * fact_words))) (length (zeros (2 * slot_cells))) ≡ true
unfolding fit_of
fits_two = refl

size_two : cap (fresh_of 2 (zeros (2 * kid_words)) (zeros (2 * fact_words)) (zeros (2 * slot_cells))).after ≡ 2
unfolding fresh_of fit_of
size_two = refl

module _ (n tallest : ℕ) (m : n ≤ kid_words) where
  leaf_taken : (t : Tables) → WellFormed n tallest t → cap t ≡ 2 → Bare t → (intern_leaf_of t 1).no ≡ 0
  leaf_taken t w two none = (leaf_refusals m (inr w) 1).accepted.1 never
    where
      never : (k : ℕ) → LeafWhy t 1 k → ⊥
      never k (unsized_leaf u) = u w.sized
      never k (nothing z) = omega arith
      never k (full_leaf y h f) = none y h.live
      never k (crowded_leaf h f) = let c = bare_count m w none in omega arith

  one_leaf_lem : (t : Tables) → WellFormed n tallest t → cap t ≡ 2 → Bare t → One n tallest (intern_leaf_of t 1).after (intern_leaf_of t 1).id
  one_leaf_lem t w two none =
      let ok = leaf_taken t w two none in
      let i = leaf_interned m w 1 ok in
      let u = (intern_leaf_of t 1).after in
      let id = (intern_leaf_of t 1).id in
      let d = leaf_does m w 1 (omega arith) in
      let well : WellFormed n tallest u = d.well in
      let size : cap u ≡ cap t = d.size in
      let v : Lives u id = i.has.live in
      record {
        well = well;
        two = size ∙ two;
        has = i.has;
        first = (let l = v.low in let g = not_ground m well id v in omega arith);
        only = λ y l. ⊎_elim (λ e. e) (λ q. absurd (none y q)) (leaf_makes_one m w 1 y l);
        once =
            omega (
              arith,
              d.balance id,
              accepted (intern_leaf_of t 1) (on id id) ok,
              on_same id id (live_nonzero v) refl,
              holds_dead t id (none id),
            );
      }

  release_taken : (t : Tables) (z : ℕ) → One n tallest t z → (release_of tallest t z).no ≡ 0
  release_taken t z o = held_released m o.well z (inr (let k = o.once in omega arith))

  module _ (t : Tables) (z : ℕ) (o : One n tallest t z) where
    abbrev after : Tables
    after = (release_of tallest t z).after

    freed : Does n tallest t after (λ y. 0) (λ y. if_accepted (release_of tallest t z) (on y z)) (ended t after)
    freed = release_does m o.well z

    after_well : WellFormed n tallest after
    after_well = freed.well

    none_left : holds_on t z + 0 ≡ if_accepted (release_of tallest t z) (on z z)
    none_left = omega (arith, o.once, accepted (release_of tallest t z) (on z z) (release_taken t z o), on_same z z (live_nonzero o.has.live) refl)

    gone : Lives after z → ⊥
    gone = (gone_exactly m o.well freed z o.has.live).1 (
      none_left,
      (λ b l.
          let e : b ≡ z = o.only b ((release_makes_none m o.well z).stays b l).0 in
          let lz : Lives after z = subst (λ (x : ℕ). Lives after x) e l in
          let s = ((release_makes_none m o.well z).stays z lz).1 in
          let k : kids_of kid_words (W after) (slot b) ≡ empties = ap (λ (x : ℕ). kids_of kid_words (W after) (slot x)) e ∙ kids_same kid_words (W t) (W after) (slot z) (λ i j. sym (s i (omega arith))) ∙ o.has.kids in
          occ_bare n (W after) (slot b) z (live_nonzero o.has.live)
          (λ i j. kid_word (W after) (slot b) i (omega arith) ∙ ap (λ (ks : List ℕ). get_or ks i 0) k ∙ empties_at i (omega arith))),
    )

    after_bare : Bare after
    after_bare y l =
        let e : y ≡ z = o.only y ((release_makes_none m o.well z).stays y l).0 in
        gone (subst (λ (x : ℕ). Lives after x) e l)

    after_two : cap after ≡ 2
    after_two = freed.size ∙ o.two

    after_ended : ended t after 1 ≡ 1
    after_ended =
        ended_one t after 1
        (let v = o.has.live in let i = v.is in let h = v.high in subst (λ (s : ℕ). floor ≤ W t s own) o.first (omega arith))
        (cases (dec_lt (W after 1 own) floor) (λ l. l) (λ l.
        let two = after_two in
        absurd (after_bare (W after 1 own) (slot_lives m after_well 1 (omega arith, omega arith)))))

    leaf_ended : ended after (intern_leaf_of after 1).after 1 ≡ 0
    leaf_ended = ended_none after (intern_leaf_of after 1).after 1
        (λ h. let two = after_two in absurd (after_bare (W after 1 own) (slot_lives m after_well 1 (omega arith, h))))

    again : One n tallest (intern_leaf_of after 1).after (intern_leaf_of after 1).id
    again = one_leaf_lem after after_well after_two after_bare

  -- For any kind of steps in which a leaf of value 1 can be interned, and an id released.
  module _ (Step : Stepping) (does : (t u : Tables) (g k j : ℕ → ℕ) → WellFormed n tallest t → Step t u g k j → Does n tallest t u g k j)
      (leaf : (t : Tables) → Step t (intern_leaf_of t 1).after (λ y. if_accepted (intern_leaf_of t 1) (on y (intern_leaf_of t 1).id)) (λ y. 0) (ended t (intern_leaf_of t 1).after))
      (release : (t : Tables) (id : ℕ) → Step t (release_of tallest t id).after (λ y. 0) (λ y. if_accepted (release_of tallest t id) (on y id)) (ended t (release_of tallest t id).after)) where
    -- k rounds
    record Rounds (k : ℕ) (t : Tables) : Type 0 where
      u : Tables
      z : ℕ
      granted : ℕ → ℕ
      taken : ℕ → ℕ
      times : ℕ → ℕ
      since : Since Step t u granted taken times
      one : One n tallest u z
      often : times 1 ≡ k

    rounds : (k : ℕ) (t : Tables) (y : ℕ) → One n tallest t y → Rounds k t
    rounds zero t y o = record { u = t; z = y; granted = λ y. 0; taken = λ y. 0; times = λ s. 0; since = now; one = o; often = refl }
    rounds (suc k) t y o =
        let r = rounds k t y o in
        let a = (release_of tallest r.u r.z).after in
        let b = (intern_leaf_of a 1).after in
        record {
          u = b;
          z = (intern_leaf_of a 1).id;
          granted = λ y. r.granted y + 0 + if_accepted (intern_leaf_of a 1) (on y (intern_leaf_of a 1).id);
          taken = λ y. r.taken y + if_accepted (release_of tallest r.u r.z) (on y r.z) + 0;
          times = λ s. r.times s + ended r.u a s + ended a b s;
          since = then (then r.since (release r.u r.z)) (leaf a);
          one = again r.u r.z r.one;
          often = (let e = r.often in omega (arith, after_ended r.u r.z r.one, leaf_ended r.u r.z r.one));
        }

    -- There are well-formed tables with a live id y, and steps after which the slot of y was recycled 32,766 times and y is live.
    pub can_match_again : (t : Tables) × (u : Tables) × (granted : ℕ → ℕ) × (taken : ℕ → ℕ) × (times : ℕ → ℕ) × (y : ℕ)
        × WellFormed n tallest t × Since Step t u granted taken times × Lives t y × (times (slot y) ≡ 32766) × Lives u y
    can_match_again =
        let t0 = (fresh_of 2 (zeros (2 * kid_words)) (zeros (2 * fact_words)) (zeros (2 * slot_cells))).after in
        let w0 : WellFormed n tallest t0 = fresh_well n tallest 2 (zeros (2 * kid_words)) (zeros (2 * fact_words)) (zeros (2 * slot_cells)) fits_two in
        let o : One n tallest (intern_leaf_of t0 1).after (intern_leaf_of t0 1).id =
        one_leaf_lem t0 w0 size_two (fresh_bare 2 (zeros (2 * kid_words)) (zeros (2 * fact_words)) (zeros (2 * slot_cells)) w0) in
        let t = (intern_leaf_of t0 1).after in
        let y = (intern_leaf_of t0 1).id in
        let r = rounds 32766 t y o in
        let f = o.first in
        let k : r.times (slot y) ≡ 32766 = ap r.times f ∙ r.often in
        let p = r.one in
        let e : r.z ≡ y = matches_again m o.well (since_does n tallest m Step does o.well r.since) y o.has.live (omega arith) r.z p.has.live (p.first ∙ sym f)
        (λ i l. ap (λ (s : ℕ). W r.u s i) (f ∙ sym p.first) ∙ bare_kid r.u r.z p i l ∙ sym (bare_kid t y o i l)) in
        (t, r.u, r.granted, r.taken, r.times, y, o.well, r.since, o.has.live, k, subst (λ (x : ℕ). Lives r.u x) e p.has.live)
      where
        bare_kid : (x : Tables) (z : ℕ) → One n tallest x z → (i : ℕ) → i < kid_words → W x (slot z) i ≡ 0
        bare_kid x z q i l = kid_word (W x) (slot z) i l ∙ ap (λ (ks : List ℕ). get_or ks i 0) q.has.kids ∙ empties_at i l
