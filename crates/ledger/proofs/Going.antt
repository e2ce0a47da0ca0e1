-- Which nodes go in a call and which stay, and what those that stay keep.
use mathlib.Core.Path.{◌≡◌, refl, sym, ap, ◌∙◌, subst}
use mathlib.Core.Logic.{◌≢◌, ◌⊎◌, inr, ⊎_elim, ◌↔◌}
use mathlib.Core.List.{List, []}
use Prim.Native.Nat.{ℕ, suc, ◌+◌, ◌≤◌, ◌<◌}
use native.Mathlib.Decide.{dec_lt}
use native.Mathlib.Omega.{arith}
use lib.ListN.{length}
use Rattle.nodes.specs.Tally.{Live, kids_of, occ, Under}
use Rattle.nodes.specs.Words.{own, holds, slot, floor, word_of}
use Rattle.nodes.proofs.Counts.{Counts, live_same, kid_live, live_own, tally_pos, occ_bare, kids_fewer}
use Rattle.nodes.proofs.Frame.{total_nil, frame_refl, lives_iff}
use Rattle.nodes.proofs.Sums.{cases}
use Rattle.arena.specs.Calls.{Out, held_at, leaf_slot, intern_leaf_of, hold_of, release_of, less_of, branch_slot, intern_branch_of, unheld}
use Rattle.arena.specs.Tables.{Tables, tables_of, cap, W, LiveSlot, WellFormed}
use Rattle.arena.proofs.Fits.{live_is, room_yes}
use Rattle.arena.proofs.Ids.{node_low}
use Rattle.arena.proofs.Inv.{wf_counts}
use Rattle.arena.proofs.Releasing.{Released, release_released}
use Rattle.ledger.specs.Ledger.{on, if_accepted, holds_on}
use Rattle.ledger.specs.Fates.{Lives, Grew}
use Rattle.ledger.proofs.Balance.{leaf_grew, branch_grew, branch_held_grew, leaf_adds, branch_adds, eased_word, less_on, released_kept, released_old}
use Rattle.ledger.proofs.Effects.{grew_refl, was_live, holds_live, holds_dead, on_zero, accepted, unaccepted}
use Rattle.ledger.proofs.Found.{lives_slot}
use Rattle.ledger.proofs.Ladders.{leaf_ways, branch_ways, hold_ways, release_ways}
use Rattle.ledger.proofs.Writes.{held_cap, held_word, held_grew}

-- In well-formed tables an id other than EMPTY is not live exactly if it has no hold and no live node has it as a child.
pub unlive_exactly : {n tallest : ℕ} {t : Tables} → n ≤ 8 → WellFormed n tallest t → (y : ℕ) → y ≢ 0
    → (Lives t y → ⊥) ↔ ((holds_on t y ≡ 0) × ((b : ℕ) → Lives t b → occ y (kids_of n (W t) (slot b)) ≡ 0))
unlive_exactly {n = n} {t = t} m w y d = (
  (λ gone. (
    holds_dead t y gone,
    (λ b l. cases (dec_lt 0 (occ y (kids_of n (W t) (slot b))))
        (λ o. absurd (gone (kid_live c (slot b) y l.low d (let e = fewer (slot b) (lives_slot t b l) in omega arith))))
        (λ o. omega arith)),
  )),
  (λ h v.
      let p = c.placed y v in
      let a = c.alive y v in
      let z = h.0 in
      let k = holds_live t y v in
      let q = tally_pos 8 (cap t) (W t) y (omega (arith, total_nil 8 (cap t) (W t) y)) in
      let b = q.0 in
      cases (dec_lt (W t b own) floor)
      (λ dead. let e = occ_bare 8 (W t) b y d (c.bare b q.1 dead) in let o = q.2 in omega arith)
      (λ live.
      let l : Lives t (W t b own) = live_own 8 (cap t) (W t) [] c b q.1 (omega arith) in
      let s : slot (W t b own) ≡ b = c.ids b q.1 (omega arith) in
      let e : occ y (kids_of n (W t) b) ≡ 0 = subst (λ (x : ℕ). occ y (kids_of n (W t) x) ≡ 0) s (h.1 (W t b own) l) in
      let f = fewer b (q.1, omega arith) in
      let o = q.2 in
      omega arith)),
)
  where
    c : Counts 8 (cap t) (W t) []
    c = wf_counts m w

    -- child words from n on are EMPTY
    fewer : (b : ℕ) → LiveSlot t b → occ y (kids_of 8 (W t) b) ≡ occ y (kids_of n (W t) b)
    fewer b l = kids_fewer n 8 (W t) b y m d (λ i p q. ⊎_elim (λ f. f.bare i q) (λ f. f.beyond i p q) (w.nodes b l).kind)

-- ---- interning and holding end no node

-- Interning a leaf ends no node: each stays, as it was.
pub leaf_ends_none : {n tallest : ℕ} {t : Tables} → n ≤ 8 → WellFormed n tallest t → (v : ℕ) → Grew t (intern_leaf_of t v).after
leaf_ends_none {t = t} m w v =
    leaf_ways (λ o. Grew t o.after) t v (λ k d. grew_refl t) (λ s r. leaf_grew m w (room_yes t.arena r) v) (λ s. held_grew t (leaf_slot t v))

-- Interning a branch ends no node: each stays, as it was.
pub branch_ends_none : {n tallest : ℕ} {t : Tables} → n ≤ 8 → WellFormed n tallest t → (ks : List ℕ) → length ks ≡ 8 → Grew t (intern_branch_of n tallest t ks).after
branch_ends_none {n} {tallest} {t} m w ks e8 =
    branch_ways (λ o. Grew t o.after) n tallest t ks (λ k d. grew_refl t) (λ f s r. branch_grew m w ks e8 f (room_yes t.arena r))
    (λ f s. branch_held_grew m w ks e8 f)

-- Holding ends no node: each stays, as it was. On any tables.
pub hold_ends_none : (t : Tables) (id : ℕ) → Grew t (hold_of t id).after
hold_ends_none t id = hold_ways (λ o. Grew t o.after) t id (λ k d. grew_refl t) (λ z. grew_refl t) (λ z l. held_grew t (slot id))

-- ---- what is new

abbrev New : Tables → ℕ → Out → Type 0
New t y o = Lives o.after y → (y ≡ o.id) ⊎ Lives t y

held_none_new : (t : Tables) (s y : ℕ) → Lives (held_at t s) y → Lives t y
held_none_new t s y l = was_live t (held_at t s) (held_cap t s) y (held_word t s (slot y) own (omega arith)) l

-- Interning a leaf makes no node but the one that it answers.
pub leaf_makes_one : {n tallest : ℕ} {t : Tables} → n ≤ 8 → WellFormed n tallest t → (v y : ℕ) → Lives (intern_leaf_of t v).after y → (y ≡ (intern_leaf_of t v).id) ⊎ Lives t y
leaf_makes_one {t = t} m w v y =
    leaf_ways (New t y) t v (λ k d l. inr l) (λ s r. leaf_adds m w (room_yes t.arena r) v y) (λ s l. inr (held_none_new t (leaf_slot t v) y l))

-- Interning a branch makes no node but the one that it answers.
pub branch_makes_one : {n tallest : ℕ} {t : Tables} → n ≤ 8 → WellFormed n tallest t → (ks : List ℕ) → length ks ≡ 8 → (y : ℕ)
    → Lives (intern_branch_of n tallest t ks).after y → (y ≡ (intern_branch_of n tallest t ks).id) ⊎ Lives t y
branch_makes_one {n} {tallest} {t} m w ks e8 y =
    branch_ways (New t y) n tallest t ks (λ k d l. inr l) (λ f s r. branch_adds m w ks e8 f (room_yes t.arena r) y)
    (λ f s l. inr (
    live_same (cap t) (word_of (unheld t.nodes ks)) (W t) y (sym (eased_word m w ks e8 f (slot y) own (omega arith)))
    (held_none_new (tables_of t.arena (unheld t.nodes ks) t.find) (branch_slot t ks) y l)))

-- Holding makes no node. On any tables.
pub hold_makes_none : (t : Tables) (id y : ℕ) → Lives (hold_of t id).after y → Lives t y
hold_makes_none t id y = hold_ways (λ o. Lives o.after y → Lives t y) t id (λ k d l. l) (λ z l. l) (λ z l. held_none_new t (slot id) y)

-- Releasing makes no node: each that is there afterwards was there before, as it is.
pub release_makes_none : {n tallest : ℕ} {t : Tables} → n ≤ 8 → WellFormed n tallest t → (id : ℕ) → Grew (release_of tallest t id).after t
release_makes_none {tallest = tallest} {t = t} m w id =
    release_ways tallest t id (λ f e. to e (grew_refl t)) (λ f z e. to e (grew_refl t)) (λ f z l e. to e (grew_refl t)) (λ f z l r e. to e (grew_refl t))
    (λ f z l r k e.
    let u = (release_of tallest t id).after in
    let d = release_released id m w k z in
    let v = live_is t id l in
    record { size = sym d.size; stays = λ y a. (released_old id d v r y a, (λ g b. sym (released_kept id d v r y a g b))) })
  where
    to : {o : Out} → release_of tallest t id ≡ o → Grew o.after t → Grew (release_of tallest t id).after t
    to e x = subst (λ (o : Out). Grew o.after t) (sym e) x

-- ---- what a release leaves, said of the tables before it

-- In well-formed tables a node is live exactly if it is held, or stands below one that is.
pub lives_exactly : {n tallest : ℕ} {t : Tables} → n ≤ 8 → WellFormed n tallest t → (y : ℕ) → Lives t y ↔ ((a : ℕ) × Lives t a × (1 ≤ holds_on t a) × Under (W t) a y)
lives_exactly {tallest = tallest} {t = t} m w y =
    let r = lives_iff (cap t) (W t) (W t) (wf_counts m w) (frame_refl (cap t) (W t)) (suc tallest)
    (λ b l h. let p = node_low m l w.sized.most (w.nodes b (l, h)) in omega arith) y in (
      (λ v. let q = r.0 v in (q.0, q.1, (let h = q.2 in omega (arith, holds_live t q.0 q.1)), q.3)),
      (λ q. r.1 (q.0, q.1, (let h = q.2 in omega (arith, holds_live t q.0 q.1)), q.3)),
    )

-- what a release leaves: the nodes at or below one that is still held, once the hold is given back
abbrev Left : Tables → ℕ → ℕ → Out → Type 0
Left t id y o = Lives o.after y ↔ ((a : ℕ) × Lives t a × (if_accepted o (on a id) < holds_on t a) × Under (W t) a y)

unchanged_left : {n tallest : ℕ} {t : Tables} → n ≤ 8 → WellFormed n tallest t → (id y k e : ℕ) → ((a : ℕ) → if_accepted (record { no = k; id = e; after = t }) (on a id) ≡ 0)
    → Left t id y (record { no = k; id = e; after = t })
unchanged_left m w id y k e none =
    let r = lives_exactly m w y in (
      (λ v. let q = r.0 v in (q.0, q.1, (let h = q.2 in let z = none q.0 in omega arith), q.3)),
      (λ q. r.1 (q.0, q.1, (let h = q.2 in let z = none q.0 in omega arith), q.3)),
    )

released_left : {n tallest : ℕ} {t u : Tables} (id : ℕ) → Released n tallest t id u → Lives t id → W t (slot id) holds ≢ 0 → (y : ℕ) → Left t id y (record { no = 0; id = 0; after = u })
released_left {t = t} {u = u} id r v held y =
    let l = r.lives y in (
      (λ s.
          let q = l.0 (subst (λ (c : ℕ). Live c (W u) y) r.size s) in
          (q.0, q.1, (let h = q.2 in omega (arith, left q.0 q.1, holds_live t q.0 q.1)), q.3)),
      (λ q. subst (λ (c : ℕ). Live c (W u) y) (sym r.size) (l.1 (q.0, q.1, (let h = q.2 in omega (arith, left q.0 q.1, holds_live t q.0 q.1)), q.3))),
    )
  where
    left : (a : ℕ) → Lives t a → W (less_of holds t id) (slot a) holds + if_accepted (record { no = 0; id = 0; after = u }) (on a id) ≡ W t (slot a) holds
    left a w = ap (λ (k : ℕ). W (less_of holds t id) (slot a) holds + k) (accepted (record { no = 0; id = 0; after = u }) (on a id) refl) ∙ less_on id r v held a w

-- After a release a node is live exactly if, before it, it was at or below a node on which a hold is left once the one is given back.
pub release_leaves : {n tallest : ℕ} {t : Tables} → n ≤ 8 → WellFormed n tallest t → (id y : ℕ)
    → Lives (release_of tallest t id).after y ↔ ((a : ℕ) × Lives t a × (if_accepted (release_of tallest t id) (on a id) < holds_on t a) × Under (W t) a y)
release_leaves {n} {tallest} {t} m w id y =
    release_ways tallest t id
    (λ f e. to e (unchanged_left m w id y 1 0 (λ a. unaccepted (record { no = 1; id = 0; after = t }) (on a id) (omega arith))))
    (λ f z e. to e (unchanged_left m w id y 0 0 (λ a. accepted (record { no = 0; id = 0; after = t }) (on a id) refl ∙ on_zero a id z)))
    (λ f z l e. to e (unchanged_left m w id y 4 0 (λ a. unaccepted (record { no = 4; id = 0; after = t }) (on a id) (omega arith))))
    (λ f z l r e. to e (unchanged_left m w id y 5 0 (λ a. unaccepted (record { no = 5; id = 0; after = t }) (on a id) (omega arith))))
    (λ f z l r k e. to e (released_left id
    (subst (λ (o : Out). Released n tallest t id o.after) e (release_released id m w k z)) (live_is t id l) r y))
  where
    to : {o : Out} → release_of tallest t id ≡ o → Left t id y o → Left t id y (release_of tallest t id)
    to e x = subst (λ (o : Out). Left t id y o) (sym e) x
