-- What the tests of the refusals say.
use Prim.Native.Nat.{ℕ, ◌+◌, ◌-◌, ◌*◌, ◌≤◌, ◌<◌}
use native.Mathlib.Omega.{arith}
use mathlib.Core.Path.{◌≡◌, refl, sym, ◌∙◌}
use mathlib.Core.Bool.{Bool, true, false, true≢false}
use lib.Dec.{eqb, leb, ltb}
use lib.ListN.{length}
use borrow.Author.Tests.{leb-true, eqb-true, le-leb, eq-eqb, lt-ltb, ltb-true, ne_eqb, eqb-false}
use Rattle.basics.specs.Pick.{pick}
use Rattle.basics.proofs.Rungs.{pick_no, past_no, past_yes}
use Rattle.nodes.specs.Tally.{Live}
use Rattle.nodes.specs.Words.{own, holds, slot, floor}
use Rattle.nodes.proofs.Sums.{split}
use Rattle.arena.specs.Calls.{fit_of, fits, room_of, live_of, of_id, there_no, full_of, hold_no, release_no}
use Rattle.arena.specs.Tables.{State, live_in, Tables, cap, Sized, W}

pub unlike : false ≡ true → ⊥
unlike e = true≢false (sym e)

pub both : (b x : Bool) → pick b x false ≡ true → (b ≡ true) × (x ≡ true)
both true x e = (refl, e)
both false x e = absurd (unlike e)

fit_all : (c k f e : ℕ) → fit_of c k f e ≡ true → (2 ≤ c) × (c ≤ 65536) × (k ≡ 8 * c) × (f ≡ 11 * c) × (e ≡ 5 * c)
unfolding fit_of
fit_all c k f e h =
    let o = both (leb 2 c) (pick (leb c 65536) (pick (eqb k (8 * c)) (pick (eqb f (11 * c)) (eqb e (5 * c)) false) false) false) h in
    let p = both (leb c 65536) (pick (eqb k (8 * c)) (pick (eqb f (11 * c)) (eqb e (5 * c)) false) false) o.1 in
    let q = both (eqb k (8 * c)) (pick (eqb f (11 * c)) (eqb e (5 * c)) false) p.1 in
    let r = both (eqb f (11 * c)) (eqb e (5 * c)) q.1 in
    (leb-true 2 c o.0, leb-true c 65536 p.0, eqb-true k (8 * c) q.0, eqb-true f (11 * c) r.0, eqb-true e (5 * c) r.1)

pub fits_sized : (t : Tables) → fits t ≡ true → Sized t
fits_sized t e =
    let p = fit_all (cap t) (length t.nodes.kids) (length t.nodes.facts) (length t.find) e in
    record { least = p.0; most = p.1; kids = p.2; facts = p.3; cells = p.4 }

pub sized_fits : {t : Tables} → Sized t → fits t ≡ true
unfolding fit_of
sized_fits {t} s =
    rw (
      le-leb 2 (cap t) s.least,
      le-leb (cap t) 65536 s.most,
      eq-eqb (length t.nodes.kids) (8 * cap t) s.kids,
      eq-eqb (length t.nodes.facts) (11 * cap t) s.facts,
    )
    (eq-eqb (length t.find) (5 * cap t) s.cells)

pub room_yes : (a : State) → room_of a ≡ true → live_in a + 1 < a.capacity
unfolding room_of
room_yes a e = let p = ltb-true 0 (a.capacity - 1 - live_in a) e in omega arith

pub live_is : (t : Tables) (id : ℕ) → live_of (cap t) (W t) id ≡ true → Live (cap t) (W t) id
unfolding live_of
live_is t id e =
    let p = both (ltb (slot id) (cap t)) (pick (leb floor id) (eqb (W t (slot id) own) id) false) e in
    let q = both (leb floor id) (eqb (W t (slot id) own) id) p.1 in
    record { low = ltb-true (slot id) (cap t) p.0; is = eqb-true (W t (slot id) own) id q.1; high = leb-true floor id q.0 }

pub is_live : (t : Tables) (id : ℕ) → Live (cap t) (W t) id → live_of (cap t) (W t) id ≡ true
unfolding live_of
is_live t id v = rw (lt-ltb (slot id) (cap t) v.low, le-leb floor id v.high) (eq-eqb (W t (slot id) own) id v.is)

-- a call that is handed an id: the refusals 1 and 4 come first
pub there_law : {A : Type 0} (t : Tables) (id x : ℕ) (refuse : ℕ → A) (live : A) → x ≡ there_no t id
    → of_id t id refuse live ≡ pick (eqb x 0) (pick (eqb id 0) (refuse 0) live) (refuse x)
unfolding there_no
there_law t id x refuse live e = rw e (split (fits t)
    (λ f. split (eqb id 0) (λ z. rw (f, z)) (λ z. split (live_of (cap t) (W t) id) (λ l. rw (f, z, l)) (λ l. rw (f, z, l))))
    (λ f. rw f))

-- the number 0
module _ (t : Tables) (id : ℕ) where
  fine_live : (x : ℕ) → of_id t id (λ k. k) x ≡ 0 → (id ≡ 0 → ⊥) → (live_of (cap t) (W t) id ≡ true) × (x ≡ 0)
  fine_live x e d =
      let f = (past_yes (fits t) _ 1 0 (λ z. omega arith) e).1 in
      past_yes (live_of (cap t) (W t) id) x 4 0 (λ z. omega arith) (sym (pick_no (eqb id 0) 0 _ (ne_eqb id 0 d)) ∙ f)

  pub hold_live : hold_no t id ≡ 0 → (id ≡ 0 → ⊥) → (live_of (cap t) (W t) id ≡ true) × (full_of (W t) (slot id) ≡ false)
  unfolding hold_no
  hold_live e d =
      let p = fine_live (pick (full_of (W t) (slot id)) 10 0) e d in
      (p.0, (past_no (full_of (W t) (slot id)) 10 0 0 (λ z. omega arith) p.1).0)

  pub release_live : release_no t id ≡ 0 → (id ≡ 0 → ⊥) → (live_of (cap t) (W t) id ≡ true) × (1 ≤ W t (slot id) holds)
  unfolding release_no
  release_live e d =
      let p = fine_live (pick (eqb (W t (slot id) holds) 0) 5 0) e d in
      let z = eqb-false (W t (slot id) holds) 0 (past_no (eqb (W t (slot id) holds) 0) 5 0 0 (λ z. omega arith) p.1).0 in
      (p.0, omega arith)
