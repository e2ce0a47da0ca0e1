-- A refusal changes nothing; and each number is given exactly if it is the lowest that applies: the law of ladders (crates/basics), once for each call.
use mathlib.Core.Path.{◌≡◌, refl, sym, ap, ◌∙◌, subst}
use mathlib.Core.Logic.{◌≢◌, inl, inr}
use mathlib.Core.Bool.{Bool, true, false, not, true≢false}
use mathlib.Core.List.Memᴰ
use mathlib.Core.List.{List, [], ◌∷◌}
use Prim.Native.Nat.{ℕ, zero, suc, ◌-◌, ◌≤◌, ◌<◌}
use native.Mathlib.Decide.{ℕ_discrete}
use native.Mathlib.Omega.{arith}
use lib.Dec.{eqb, leb}
use lib.ListN.{length, get_or}
use borrow.Author.Tests.{eq-eqb, ne_eqb, eqb-true, eqb-false, leb-true, leb-false, ltb-false, not-true}
use Rattle.basics.specs.Ladder.{ladder, Decides, Listed}
use Rattle.basics.specs.Pick.{pick}
use Rattle.basics.proofs.Ladder.{off, on, tells, denies, via, rung_not, rung_if}
use Rattle.ids.specs.Ids.{invalid}
use Rattle.nodes.specs.Tally.{occ}
use Rattle.nodes.specs.Words.{Words, own, holds, slot}
use Rattle.nodes.proofs.Counts.{live_nonzero}
use Rattle.nodes.proofs.Sums.{cases, split, occ_here, occ_cons}
use Rattle.arena.specs.Calls.{Out, Fair, refused, fits, live_of, full_of, room_of, empties, leaf_slot, intern_leaf_no, intern_leaf_of, all_of, live_or_empty, enough_for, all_live, enough, none_of, branch_slot, intern_branch_no, intern_branch_of, hold_no, hold_of, release_no, release_of, counts_of, fresh, fresh_of}
use Rattle.arena.specs.Node.{height_for}
use Rattle.arena.specs.Tables.{live_in, Tables, tables, cap, W, WellFormed, Sized}
use Rattle.arena.proofs.Branches.{alive, affords, some_kid}
use Rattle.arena.proofs.Fits.{live_is, fits_sized, sized_fits, room_yes}
use Rattle.ledger.specs.Fates.{Lives, HasContent}
use Rattle.ledger.specs.Refusals.{Crowded, Full, HasIds, LeafWhy, BranchWhy, HoldWhy, ReleaseWhy, unsized_leaf, unsized_branch, unsized_held, unsized_released, dead_child, dead_held, dead_released, poor_child, poor_released, nothing, all_empty, tall, full_leaf, full_branch, full_held, crowded_leaf, crowded_branch, CountsWhy, unsized_counts, dead_counted, FreshWhy, unsized_fresh, Exactly}
use Rattle.ledger.proofs.Contents.{one_has, one_of_eight_ids}
use Rattle.ledger.proofs.Effects.{live_true, by_life, holds_live}
use Rattle.ledger.proofs.Exact.{exactly}
use Rattle.ledger.proofs.Found.{slot_own, leaf_found_lem, leaf_missing, branch_found, branch_missing}
use Rattle.ledger.proofs.Ladders.{leaf_no, branch_no, hold_no_lem, release_no_lem, fresh_ways}

-- ---- a refusal changes nothing

leaf_no_more : (t : Tables) (v : ℕ) → (intern_leaf_of t v).no ≢ 0 → intern_leaf_of t v ≡ refused (intern_leaf_no t v) t
unfolding intern_leaf_of
leaf_no_more t v d = rw (ne_eqb (intern_leaf_no t v) 0 (λ z. d (leaf_no t v ∙ z)))

branch_no_more : (n tallest : ℕ) (t : Tables) (ks : List ℕ) → (intern_branch_of n tallest t ks).no ≢ 0 → intern_branch_of n tallest t ks ≡ refused (intern_branch_no n tallest t ks) t
unfolding intern_branch_of
branch_no_more n tallest t ks d = rw (ne_eqb (intern_branch_no n tallest t ks) 0 (λ z. d (branch_no n tallest t ks ∙ z)))

-- A refusal changes nothing lent, and the arena's state stays.
pub leaf_refused : (t : Tables) (v : ℕ) → (intern_leaf_of t v).no ≢ 0 → (intern_leaf_of t v).after ≡ t
leaf_refused t v d = ap (λ (o : Out). o.after) (leaf_no_more t v d)

pub branch_refused : (n tallest : ℕ) (t : Tables) (ks : List ℕ) → (intern_branch_of n tallest t ks).no ≢ 0 → (intern_branch_of n tallest t ks).after ≡ t
branch_refused n tallest t ks d = ap (λ (o : Out). o.after) (branch_no_more n tallest t ks d)

pub hold_refused : (t : Tables) (id : ℕ) → (hold_of t id).no ≢ 0 → (hold_of t id).after ≡ t
unfolding hold_of
hold_refused t id d = rw (ne_eqb (hold_no t id) 0 (λ z. d (hold_no_lem t id ∙ z)))

pub release_refused : (tallest : ℕ) (t : Tables) (id : ℕ) → (release_of tallest t id).no ≢ 0 → (release_of tallest t id).after ≡ t
unfolding release_of
release_refused tallest t id d = rw (ne_eqb (release_no t id) 0 (λ z. d (release_no_lem tallest t id ∙ z)))

-- Interning a leaf, refused: the id is INVALID.
pub leaf_refused_id : (t : Tables) (v : ℕ) → (intern_leaf_of t v).no ≢ 0 → (intern_leaf_of t v).id ≡ invalid
leaf_refused_id t v d = ap (λ (o : Out). o.id) (leaf_no_more t v d)

-- Interning a branch, refused: the id is INVALID.
pub branch_refused_id : (n tallest : ℕ) (t : Tables) (ks : List ℕ) → (intern_branch_of n tallest t ks).no ≢ 0 → (intern_branch_of n tallest t ks).id ≡ invalid
branch_refused_id n tallest t ks d = ap (λ (o : Out). o.id) (branch_no_more n tallest t ks d)

-- A fresh arena, refused: the three lists are as they were.
pub fresh_refused : (c : ℕ) (k f e : List ℕ) → (fresh_of c k f e).no ≢ 0 → (fresh_of c k f e).after ≡ tables (fresh c) k f e
fresh_refused c k f e d = fresh_ways c k f e (λ r q. absurd (d q)) (λ r q. ap (λ (o : Out). o.after) q)

-- ---- what the tests say

not_sized : {t : Tables} → fits t ≡ false → Sized t → ⊥
not_sized f s = true≢false (sym (sized_fits s) ∙ f)

not_lives : (t : Tables) (y : ℕ) → live_of (cap t) (W t) y ≡ false → Lives t y → ⊥
not_lives t y f v = true≢false (sym (live_true t y v) ∙ f)

-- refusal 1
pub unsized : (t : Tables) → Decides (not (fits t)) (Sized t → ⊥)
unsized t = denies (fits t) (not_sized) (λ f n. n (fits_sized t f))

-- EMPTY passes
past_empty : (b : Bool) (y : ℕ) → pick (eqb y 0) true b ≡ false → (y ≢ 0) × (b ≡ false)
past_empty b y e = cases (ℕ_discrete y 0)
    (λ z. absurd (true≢false (rw (eq-eqb y 0 z) at e)))
    (λ z. (z, (rw (ne_eqb y 0 z) at e)))

-- refusal 4
is_there : (t : Tables) (y : ℕ) → live_or_empty (cap t) (W t) y ≡ true → y ≢ 0 → Lives t y
unfolding live_or_empty
is_there t y e d = live_is t y (rw (ne_eqb y 0 d) at e)

pub dead : (t : Tables) (y : ℕ) → Decides (not (live_or_empty (cap t) (W t) y)) ((y ≢ 0) × (Lives t y → ⊥))
unfolding live_or_empty
dead t y = denies (live_or_empty (cap t) (W t) y)
    (λ e. let p = past_empty (live_of (cap t) (W t) y) y e in (p.0, not_lives t y p.1))
    (λ e n. n.1 (is_there t y e n.0))

pub room_no : (t : Tables) → room_of t.arena ≡ false → Crowded t
unfolding room_of
room_no t e = let p = ltb-false 0 (cap t - 1 - live_in t.arena) e in omega arith

-- ---- hold, release and counts, on any tables

-- a test of which EMPTY is spared
past_some : (b : Bool) (y : ℕ) → pick (eqb y 0) false b ≡ true → (y ≢ 0) × (b ≡ true)
past_some b y e = cases (ℕ_discrete y 0)
    (λ z. absurd (true≢false (sym (rw (eq-eqb y 0 z) at e))))
    (λ z. (z, (rw (ne_eqb y 0 z) at e)))

-- 4, and then k
dead_then : (z l b : Bool) (k : ℕ) → pick z 0 (pick l (pick b k 0) 4) ≡ ladder ((not (pick z true l), 4) ∷ (pick z false b, k) ∷ [])
unfolding ladder
dead_then true l b k = refl
dead_then false false b k = refl
dead_then false true true k = refl
dead_then false true false k = refl

module _ (t : Tables) (id : ℕ) where
  abbrev there : Bool
  there = live_or_empty (cap t) (W t) id

  abbrev full : Bool
  full = pick (eqb id 0) false (full_of (W t) (slot id))

  abbrev bare : Bool
  bare = pick (eqb id 0) false (eqb (W t (slot id) holds) 0)

  hold_ladder : (hold_of t id).no ≡ ladder ((not (fits t), 1) ∷ (not there, 4) ∷ (full, 10) ∷ [])
  unfolding hold_no live_or_empty
  hold_ladder = hold_no_lem t id ∙ rung_not (fits t) _ 1 _ (dead_then (eqb id 0) (live_of (cap t) (W t) id) (full_of (W t) (slot id)) 10)

  release_ladder : (tallest : ℕ) → (release_of tallest t id).no ≡ ladder ((not (fits t), 1) ∷ (not there, 4) ∷ (bare, 5) ∷ [])
  unfolding release_no live_or_empty
  release_ladder tallest = release_no_lem tallest t id ∙ rung_not (fits t) _ 1 _ (dead_then (eqb id 0) (live_of (cap t) (W t) id) (eqb (W t (slot id) holds) 0) 5)

  hold_listed : Listed (HoldWhy t id) (1 ∷ 4 ∷ 10 ∷ [])
  hold_listed j (unsized_held u) = Memᴰ.head refl
  hold_listed j (dead_held d l) = Memᴰ.tail (Memᴰ.head refl)
  hold_listed j (full_held l f) = Memᴰ.tail (Memᴰ.tail (Memᴰ.head refl))

  release_listed : Listed (ReleaseWhy t id) (1 ∷ 4 ∷ 5 ∷ [])
  release_listed j (unsized_released u) = Memᴰ.head refl
  release_listed j (dead_released d l) = Memᴰ.tail (Memᴰ.head refl)
  release_listed j (poor_released l f) = Memᴰ.tail (Memᴰ.tail (Memᴰ.head refl))

  counts_listed : Listed (CountsWhy t id) (1 ∷ 4 ∷ [])
  counts_listed j (unsized_counts u) = Memᴰ.head refl
  counts_listed j (dead_counted d l) = Memᴰ.tail (Memᴰ.head refl)

  lives : {A : Type 0} → (id ≢ 0 → (Lives t id → ⊥) → A) → (A → ⊥) → id ≢ 0 → Lives t id
  lives f n z = by_life t id (λ l. l) (λ l. absurd (n (f z l)))

  -- Hold: refusals 1, 4, 10, each given exactly if it is the lowest that applies. On any tables.
  pub hold_refusals : Exactly (HoldWhy t id) (hold_of t id).no
  unfolding full_of
  hold_refusals = exactly (HoldWhy t id) _ (hold_of t id).no hold_ladder (omega arith) hold_listed (
    via (not (fits t)) (unsized t) unsized_held one,
    λ _. (
      via (not there) (dead t id) (λ n. dead_held n.0 n.1) four,
      λ d.
          (tells full (λ e. let p = past_some (full_of (W t) (slot id)) id e in full_held (lives dead_held d p.0) (leb-true 1000000 (W t (slot id) holds) p.1)) ten, λ _. tt),
    ),
  )
    where
      one : HoldWhy t id 1 → Sized t → ⊥
      one (unsized_held u) = u

      four : HoldWhy t id 4 → (id ≢ 0) × (Lives t id → ⊥)
      four (dead_held d l) = (d, l)

      ten : full ≡ false → HoldWhy t id 10 → ⊥
      ten e (full_held l f) = let h = leb-false 1000000 (W t (slot id) holds) (rw (ne_eqb id 0 (live_nonzero l)) at e) in omega arith

  -- Release: refusals 1, 4, 5, each given exactly if it is the lowest that applies. On any tables.
  pub release_refusals : (tallest : ℕ) → Exactly (ReleaseWhy t id) (release_of tallest t id).no
  release_refusals tallest = exactly (ReleaseWhy t id) _ (release_of tallest t id).no (release_ladder tallest) (omega arith) release_listed (
    via (not (fits t)) (unsized t) unsized_released one,
    λ _.
        (via (not there) (dead t id) (λ n. dead_released n.0 n.1) four, λ d. (tells bare (five d) (none d), λ _. tt)),
  )
    where
      one : ReleaseWhy t id 1 → Sized t → ⊥
      one (unsized_released u) = u

      four : ReleaseWhy t id 4 → (id ≢ 0) × (Lives t id → ⊥)
      four (dead_released d l) = (d, l)

      five : (ReleaseWhy t id 4 → ⊥) → bare ≡ true → ReleaseWhy t id 5
      five d e =
          let p = past_some (eqb (W t (slot id) holds) 0) id e in
          let q = eqb-true (W t (slot id) holds) 0 p.1 in
          poor_released p.0 (omega (arith, holds_live t id (lives dead_released d p.0)))

      none : (ReleaseWhy t id 4 → ⊥) → bare ≡ false → ReleaseWhy t id 5 → ⊥
      none d e (poor_released z h) =
          eqb-false (W t (slot id) holds) 0 (rw (ne_eqb id 0 z) at e) (omega (arith, holds_live t id (lives dead_released d z)))

  counts_ladder : (counts_of t id).no ≡ ladder ((not (fits t), 1) ∷ (not there, 4) ∷ [])
  unfolding counts_of live_or_empty ladder
  counts_ladder = split (fits t)
      (λ f. split (eqb id 0) (λ z. rw (f, z)) (λ z. split (live_of (cap t) (W t) id) (λ l. rw (f, z, l)) (λ l. rw (f, z, l))))
      (λ f. rw f)

  -- Counts: refusals 1, 4, each given exactly if it is the lowest that applies. On any tables.
  pub counts_refusals : Exactly (CountsWhy t id) (counts_of t id).no
  counts_refusals = exactly (CountsWhy t id) _ (counts_of t id).no counts_ladder (omega arith) counts_listed (
    via (not (fits t)) (unsized t) unsized_counts one,
    λ _.
        (via (not there) (dead t id) (λ n. dead_counted n.0 n.1) four, λ _. tt),
  )
    where
      one : CountsWhy t id 1 → Sized t → ⊥
      one (unsized_counts u) = u

      four : CountsWhy t id 4 → (id ≢ 0) × (Lives t id → ⊥)
      four (dead_counted d l) = (d, l)

-- Counts, refused: both are 0.
pub counts_refused : (t : Tables) (id : ℕ) → (counts_of t id).no ≢ 0 → ((counts_of t id).holds ≡ 0) × ((counts_of t id).places ≡ 0)
unfolding counts_of
counts_refused t id =
    split (fits t)
    (λ f. cases (ℕ_discrete id 0)
    (λ z. rw (f, eq-eqb id 0 z) (λ d. (refl, refl)))
    (λ z. split (live_of (cap t) (W t) id)
    (λ l. rw (f, ne_eqb id 0 z, l) (λ d. absurd (d refl)))
    (λ l. rw (f, ne_eqb id 0 z, l) (λ d. (refl, refl)))))
    (λ f. rw f (λ d. (refl, refl)))

-- A fresh arena: refusal 1, given exactly if it applies. On any tables.
pub fresh_refusals : (c : ℕ) (k f e : List ℕ) → Exactly (FreshWhy c k f e) (fresh_of c k f e).no
unfolding fresh_of ladder
fresh_refusals c k f e = exactly (FreshWhy c k f e) ((not (fits z), 1) ∷ []) (fresh_of c k f e).no
    (split (fits z) (λ r. rw r) (λ r. rw r)) (omega arith) listed (via (not (fits z)) (unsized z) unsized_fresh one, λ _. tt)
  where
    z : Tables
    z = tables (fresh c) k f e

    one : FreshWhy c k f e 1 → Sized z → ⊥
    one (unsized_fresh u) = u

    listed : Listed (FreshWhy c k f e) (1 ∷ [])
    listed j (unsized_fresh u) = Memᴰ.head refl

-- ---- the node asked for is there, in slot s, and 10 is tested; or it isn't, s is 0, and 11

module _ (t : Tables) (s : ℕ) where
  abbrev ten : Bool
  ten = pick (eqb s 0) false (full_of (W t) s)

  abbrev eleven : Bool
  eleven = pick (eqb s 0) (not (room_of t.arena)) false

  grant : pick (eqb s 0) (pick (room_of t.arena) 0 11) (pick (full_of (W t) s) 10 0) ≡ ladder ((ten, 10) ∷ (eleven, 11) ∷ [])
  unfolding ladder
  grant = go (eqb s 0) (room_of t.arena) (full_of (W t) s)
    where
      go : (z r f : Bool) → pick z (pick r 0 11) (pick f 10 0) ≡ ladder ((pick z false f, 10) ∷ (pick z (not r) false, 11) ∷ [])
      go true true f = refl
      go true false f = refl
      go false r true = refl
      go false r false = refl

  -- P: the content asked for. It is the one node of slot s that has it
  module _ (P : ℕ → Type 0) (found : s ≢ 0 → (y : ℕ) × (slot y ≡ s) × P y × ((x : ℕ) → P x → x ≡ y)) (missing : s ≡ 0 → (y : ℕ) → P y → ⊥) where
    ten_yes : ten ≡ true → (y : ℕ) × P y × Full t y
    unfolding full_of
    ten_yes e =
        let p = past_some (full_of (W t) s) s e in
        let f = found p.0 in
        (f.0, f.2, subst (λ (b : ℕ). 1000000 ≤ W t b holds) (sym f.1) (leb-true 1000000 (W t s holds) p.1))

    ten_no : ten ≡ false → (x : ℕ) → P x → Full t x → ⊥
    unfolding full_of
    ten_no e x p q = cases (ℕ_discrete s 0) (λ z. missing z x p) (λ z.
        let f = found z in
        let h = leb-false 1000000 (W t s holds) (rw (ne_eqb s 0 z) at e) in
        let g = subst (λ (b : ℕ). 1000000 ≤ W t b holds) (ap slot (f.3 x p) ∙ f.1) q in
        omega arith)

    eleven_yes : eleven ≡ true → ((y : ℕ) → P y → ⊥) × Crowded t
    eleven_yes e = cases (ℕ_discrete s 0)
        (λ z. (missing z, room_no t (not-true (room_of t.arena) (rw (eq-eqb s 0 z) at e))))
        (λ z. absurd (true≢false (sym (rw (ne_eqb s 0 z) at e))))

    eleven_no : eleven ≡ false → ((y : ℕ) → P y → ⊥) → Crowded t → ⊥
    eleven_no e n c = cases (ℕ_discrete s 0)
        (λ z. split (room_of t.arena)
        (λ r. let h = room_yes t.arena r in omega arith)
        (λ r. true≢false (rw (eq-eqb s 0 z, r) at e)))
        (λ z. let f = found z in n f.0 f.2)

-- ---- intern leaf

-- tables that fit, of those that a contract speaks of, are well formed
fair_well : {n tallest : ℕ} {t : Tables} → Fair n tallest t → fits t ≡ true → WellFormed n tallest t
fair_well (inl u) f = absurd (true≢false (sym f ∙ u))
fair_well (inr w) f = w

module _ {n tallest : ℕ} {t : Tables} (m : n ≤ 8) (fair : Fair n tallest t) (v : ℕ) where
  abbrev Leaf : ℕ → Type 0
  Leaf = LeafWhy t v

  leaf_ladder : (intern_leaf_of t v).no ≡ ladder ((not (fits t), 1) ∷ (eqb v 0, 6) ∷ (ten t (leaf_slot t v), 10) ∷ (eleven t (leaf_slot t v), 11) ∷ [])
  unfolding intern_leaf_no
  leaf_ladder = leaf_no t v ∙ rung_not (fits t) _ 1 _ (rung_if (eqb v 0) _ 6 _ (grant t (leaf_slot t v)))

  leaf_listed : Listed Leaf (1 ∷ 6 ∷ 10 ∷ 11 ∷ [])
  leaf_listed j (unsized_leaf u) = Memᴰ.head refl
  leaf_listed j (nothing z) = Memᴰ.tail (Memᴰ.head refl)
  leaf_listed j (full_leaf y h f) = Memᴰ.tail (Memᴰ.tail (Memᴰ.head refl))
  leaf_listed j (crowded_leaf h f) = Memᴰ.tail (Memᴰ.tail (Memᴰ.tail (Memᴰ.head refl)))

  leaf_at_lem : WellFormed n tallest t → leaf_slot t v ≢ 0 → (y : ℕ) × (slot y ≡ leaf_slot t v) × HasContent t y empties v × ((x : ℕ) → HasContent t x empties v → x ≡ y)
  leaf_at_lem w s =
      let h = leaf_found_lem m w v s in
      let y = W t (leaf_slot t v) own in
      (y, slot_own m w (leaf_slot t v) h.0, h.1, λ x p. one_has m w x y v empties p h.1)

  -- Intern leaf: refusals 1, 6, 10, 11, each given exactly if it is the lowest that applies.
  pub leaf_refusals : Exactly (LeafWhy t v) (intern_leaf_of t v).no
  leaf_refusals = exactly Leaf _ (intern_leaf_of t v).no leaf_ladder (omega arith) leaf_listed (
    via (not (fits t)) (unsized t) unsized_leaf one,
    λ a. (
      tells (eqb v 0) (λ e. nothing (eqb-true v 0 e)) six,
      λ _. (
        tells (ten t (leaf_slot t v)) (λ e. let r = ten_yes t (leaf_slot t v) Asked (leaf_at_lem (well a)) (none a) e in full_leaf r.0 r.1 r.2) (full a),
        λ _.
            (tells (eleven t (leaf_slot t v)) (λ e. let r = eleven_yes t (leaf_slot t v) Asked (leaf_at_lem (well a)) (none a) e in crowded_leaf r.0 r.1) (crowded a), λ _. tt),
      ),
    ),
  )
    where
      Asked : ℕ → Type 0
      Asked y = HasContent t y empties v

      one : Leaf 1 → Sized t → ⊥
      one (unsized_leaf u) = u

      six : eqb v 0 ≡ false → Leaf 6 → ⊥
      six e (nothing z) = eqb-false v 0 e z

      well : (Leaf 1 → ⊥) → WellFormed n tallest t
      well a = fair_well fair (on (fits t) (unsized t) (λ u. a (unsized_leaf u)))

      none : (Leaf 1 → ⊥) → leaf_slot t v ≡ 0 → (y : ℕ) → Asked y → ⊥
      none a = leaf_missing m (well a) v

      full : (Leaf 1 → ⊥) → ten t (leaf_slot t v) ≡ false → Leaf 10 → ⊥
      full a e (full_leaf y h f) = ten_no t (leaf_slot t v) Asked (leaf_at_lem (well a)) (none a) e y h f

      crowded : (Leaf 1 → ⊥) → eleven t (leaf_slot t v) ≡ false → Leaf 11 → ⊥
      crowded a e (crowded_leaf h f) = eleven_no t (leaf_slot t v) Asked (leaf_at_lem (well a)) (none a) e h f

-- ---- intern branch

-- a test that fails of some fails of one that stands there
some_not : (p : ℕ → Bool) (ks : List ℕ) → all_of p ks ≡ false → (y : ℕ) × (1 ≤ occ y ks) × (p y ≡ false)
unfolding all_of
some_not p [] e = absurd (true≢false e)
some_not p (k ∷ ks) e = split (p k)
    (λ q. let r = some_not p ks (rw q at e) in (r.0, (let o = r.1 in omega (arith, occ_cons r.0 k ks)), r.2))
    (λ q. (k, omega (arith, occ_here k ks), q))

-- refusal 4: one of the ids is neither EMPTY nor live
some_dead : (c : ℕ) (U : Words) (ks : List ℕ) → all_live c U ks ≡ false → (y : ℕ) × (y ≢ 0) × (1 ≤ occ y ks) × (live_of c U y ≡ false)
unfolding live_or_empty
some_dead c U ks e =
    let r = some_not (live_or_empty c U) ks e in
    let p = past_empty (live_of c U r.0) r.0 r.2 in
    (r.0, p.0, r.1, p.1)

-- refusal 5: one of them has fewer holds than places
some_poor : (U : Words) (ks : List ℕ) → enough U ks ≡ false → (y : ℕ) × (y ≢ 0) × (1 ≤ occ y ks) × (U (slot y) holds < occ y ks)
unfolding enough_for
some_poor U ks e =
    let r = some_not (enough_for U ks) ks e in
    let p = past_empty (leb (occ r.0 ks) (U (slot r.0) holds)) r.0 r.2 in
    (r.0, p.0, r.1, leb-false (occ r.0 ks) (U (slot r.0) holds) p.1)

all_empty_lem : (ks : List ℕ) → none_of ks ≡ true → (i : ℕ) → get_or ks i 0 ≡ 0
unfolding none_of all_of
all_empty_lem [] e i = refl
all_empty_lem (k ∷ ks) e zero = cases (ℕ_discrete k 0) (λ z. z) (λ z. absurd (true≢false (sym (rw (ne_eqb k 0 z) at e))))
all_empty_lem (k ∷ ks) e (suc i) = cases (ℕ_discrete k 0) (λ z. all_empty_lem ks (rw (eq-eqb k 0 z) at e) i) (λ z. absurd (true≢false (sym (rw (ne_eqb k 0 z) at e))))

module _ {n tallest : ℕ} {t : Tables} (m : n ≤ 8) (fair : Fair n tallest t) (ks : List ℕ) (e8 : length ks ≡ 8) where
  abbrev Branch : ℕ → Type 0
  Branch = BranchWhy n tallest t ks

  abbrev at : ℕ
  at = branch_slot t ks

  branch_ladder : (intern_branch_of n tallest t ks).no ≡ ladder ((not (fits t), 1) ∷ (not (all_live (cap t) (W t) ks), 4) ∷ (not (enough (W t) ks), 5) ∷ (none_of ks, 7)
      ∷ (not (leb (height_for n (W t) ks) tallest), 8) ∷ (ten t at, 10) ∷ (eleven t at, 11) ∷ [])
  unfolding intern_branch_no
  branch_ladder = branch_no n tallest t ks ∙ rung_not (fits t) _ 1 _ (rung_not (all_live (cap t) (W t) ks) _ 4 _ (rung_not (enough (W t) ks) _ 5 _
      (rung_if (none_of ks) _ 7 _ (rung_not (leb (height_for n (W t) ks) tallest) _ 8 _ (grant t at)))))

  branch_listed : Listed Branch (1 ∷ 4 ∷ 5 ∷ 7 ∷ 8 ∷ 10 ∷ 11 ∷ [])
  branch_listed j (unsized_branch u) = Memᴰ.head refl
  branch_listed j (dead_child y d o l) = Memᴰ.tail (Memᴰ.head refl)
  branch_listed j (poor_child y d h) = Memᴰ.tail (Memᴰ.tail (Memᴰ.head refl))
  branch_listed j (all_empty h) = Memᴰ.tail (Memᴰ.tail (Memᴰ.tail (Memᴰ.head refl)))
  branch_listed j (tall h) = Memᴰ.tail (Memᴰ.tail (Memᴰ.tail (Memᴰ.tail (Memᴰ.head refl))))
  branch_listed j (full_branch y h f) = Memᴰ.tail (Memᴰ.tail (Memᴰ.tail (Memᴰ.tail (Memᴰ.tail (Memᴰ.head refl)))))
  branch_listed j (crowded_branch h f) = Memᴰ.tail (Memᴰ.tail (Memᴰ.tail (Memᴰ.tail (Memᴰ.tail (Memᴰ.tail (Memᴰ.head refl))))))

  kin : all_live (cap t) (W t) ks ≡ true → (y : ℕ) → y ≢ 0 → 1 ≤ occ y ks → Lives t y
  kin a y d o = live_is t y (alive t ks a y d o)

  four : Decides (not (all_live (cap t) (W t) ks)) (Branch 4)
  four = denies (all_live (cap t) (W t) ks) (λ e. let d = some_dead (cap t) (W t) ks e in dead_child d.0 d.1 d.2 (not_lives t d.0 d.3)) never
    where
      never : all_live (cap t) (W t) ks ≡ true → Branch 4 → ⊥
      never a (dead_child y d o l) = l (kin a y d o)

  five : (Branch 4 → ⊥) → Decides (not (enough (W t) ks)) (Branch 5)
  five n4 = denies (enough (W t) ks)
      (λ e. let d = some_poor (W t) ks e in let h = d.3 in poor_child d.0 d.1 (omega (arith, holds_live t d.0 (kin a d.0 d.1 d.2)))) never
    where
      a : all_live (cap t) (W t) ks ≡ true
      a = on (all_live (cap t) (W t) ks) four n4

      never : enough (W t) ks ≡ true → Branch 5 → ⊥
      never b (poor_child y d h) = let o : 1 ≤ occ y ks = omega arith in let p = affords (W t) ks b y d o in omega (arith, holds_live t y (kin a y d o))

  seven : Decides (none_of ks) (Branch 7)
  seven = tells (none_of ks) (λ c. all_empty (λ i l. all_empty_lem ks c i)) never
    where
      never : none_of ks ≡ false → Branch 7 → ⊥
      never c (all_empty h) = let p = some_kid ks c in let l = p.1 in p.2 (h p.0 (omega arith))

  eight : Decides (not (leb (height_for n (W t) ks) tallest)) (Branch 8)
  eight = denies (leb (height_for n (W t) ks) tallest) (λ e. tall (leb-false (height_for n (W t) ks) tallest e)) never
    where
      never : leb (height_for n (W t) ks) tallest ≡ true → Branch 8 → ⊥
      never e (tall h) = let p = leb-true (height_for n (W t) ks) tallest e in omega arith

  abbrev Asked : ℕ → Type 0
  Asked y = HasIds t y ks

  module _ (n1 : Branch 1 → ⊥) (n7 : Branch 7 → ⊥) where
    well : WellFormed n tallest t
    well = fair_well fair (on (fits t) (unsized t) (λ u. n1 (unsized_branch u)))

    branch_at_lem : at ≢ 0 → (y : ℕ) × (slot y ≡ at) × Asked y × ((x : ℕ) → Asked x → x ≡ y)
    branch_at_lem s =
        let c = off (none_of ks) seven n7 in
        let h = branch_found m well ks e8 c s in
        let y = W t at own in
        (y, slot_own m well at h.0, (h.1.live, h.1.kids), λ x p. one_of_eight_ids m well x y ks e8 c p.0 h.1.live p.1 h.1.kids)

    none : at ≡ 0 → (y : ℕ) → Asked y → ⊥
    none s y p = branch_missing m well ks e8 s y p.0 p.1

    full_branch_lem : Decides (ten t at) (Branch 10)
    full_branch_lem = tells (ten t at) (λ e. let r = ten_yes t at Asked branch_at_lem none e in full_branch r.0 r.1 r.2) never
      where
        never : ten t at ≡ false → Branch 10 → ⊥
        never e (full_branch y h f) = ten_no t at Asked branch_at_lem none e y h f

    crowded_branch_lem : Decides (eleven t at) (Branch 11)
    crowded_branch_lem = tells (eleven t at) (λ e. let r = eleven_yes t at Asked branch_at_lem none e in crowded_branch r.0 r.1) never
      where
        never : eleven t at ≡ false → Branch 11 → ⊥
        never e (crowded_branch h f) = eleven_no t at Asked branch_at_lem none e h f

  -- Intern branch: refusals 1, 4, 5, 7, 8, 10, 11, each given exactly if it is the lowest that applies.
  pub branch_refusals : Exactly (BranchWhy n tallest t ks) (intern_branch_of n tallest t ks).no
  branch_refusals = exactly Branch _ (intern_branch_of n tallest t ks).no branch_ladder (omega arith) branch_listed
      (via (not (fits t)) (unsized t) unsized_branch one, λ a. (four, λ b. (five b, λ _. (seven, λ c. (eight, λ _. (full_branch_lem a c, λ _. (crowded_branch_lem a c, λ _. tt)))))))
    where
      one : Branch 1 → Sized t → ⊥
      one (unsized_branch u) = u

-- An id that is neither EMPTY nor live is refused by hold, release, counts and, as a child, by intern branch: refusal 4.
pub dead_refused : (n tallest : ℕ) {t : Tables} (y : ℕ) → Sized t → y ≢ 0 → (Lives t y → ⊥)
    → ((hold_of t y).no ≡ 4) × ((release_of tallest t y).no ≡ 4) × ((counts_of t y).no ≡ 4) × ((ks : List ℕ) → 1 ≤ occ y ks → (intern_branch_of n tallest t ks).no ≡ 4)
unfolding hold_no release_no counts_of intern_branch_no
dead_refused n tallest {t} y z d dead =
    let f = sized_fits z in
    let e = ne_eqb y 0 d in
    let l : live_of (cap t) (W t) y ≡ false = split (live_of (cap t) (W t) y) (λ q. absurd (dead (live_is t y q))) (λ q. q) in (
      hold_no_lem t y ∙ rw (f, e, l),
      release_no_lem tallest t y ∙ rw (f, e, l),
      rw (f, e, l),
      λ ks o.
          branch_no n tallest t ks ∙ split (all_live (cap t) (W t) ks) (λ a. absurd (dead (live_is t y (alive t ks a y d o)))) (λ a. rw (f, a)),
    )
