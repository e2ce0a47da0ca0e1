-- Two kinds of calls, from which all are made: those that end no node, and those that make none.
use mathlib.Core.Path.{◌≡◌, refl, sym, ap, ◌∙◌, subst}
use mathlib.Core.Logic.{inr}
use Prim.Native.Nat.{ℕ, ◌≤◌, ◌<◌}
use native.Mathlib.Decide.{dec_lt}
use native.Mathlib.Omega.{arith}
use borrow.Author.Tests.{ne_eqb, le-leb, lt-leb, lt-ltb, le-ltb}
use Rattle.basics.specs.Limits.{kid_words}
use Rattle.ids.specs.Ids.{generation_of}
use Rattle.nodes.specs.Tally.{Live}
use Rattle.nodes.specs.Values.{value_at, height_at}
use Rattle.nodes.specs.Words.{own, value, height, slot, floor}
use Rattle.nodes.proofs.Counts.{live_nonzero, live_inj}
use Rattle.nodes.proofs.Sums.{cases}
use Rattle.tree.specs.Tree.{WellMade, Extends}
use Rattle.tree.proofs.Grow.{shrink_keeps}
use Rattle.arena.specs.Tables.{Tables, cap, W, LiveSlot, WellFormed}
use Rattle.ledger.specs.Ledger.{Balanced}
use Rattle.ledger.specs.Fates.{Lives, Grew, turned, ended}
use Rattle.ledger.proofs.Found.{slot_own, slot_lives}
use Rattle.ledger.proofs.Generations.{turned_zero, ended_none, ended_one}
use Rattle.read_cell.proofs.Meaning.{wf_made}
use Rattle.calls.specs.Does.{Does}
use Rattle.calls.proofs.Compose.{held_lives, does_as}

-- what the ledger says of a call that ends no node
pub grew_extends : (n : ℕ) → n ≤ kid_words → {t u : Tables} → Grew t u → Extends n (cap t) (W t) (W u)
unfolding value_at height_at
grew_extends n m {t} {u} g y l =
    let z = ne_eqb y 0 (live_nonzero l) in
    let s = g.stays y l in
    record {
      still = record { low = l.low; is = s.0.is; high = l.high };
      kids = λ i k. sym (s.1 i (omega arith));
      value = rw z (sym (s.1 value (omega arith)));
      height = rw z (sym (s.1 height (omega arith)));
    }

-- a call recycles a slot once, or not
pub ended_small : (t u : Tables) (s : ℕ) → ended t u s ≤ 1
unfolding ended
ended_small t u s = cases (dec_lt (W t s own) floor)
    (λ l. rw (lt-leb floor (W t s own) l) (omega arith))
    (λ l. rw (le-leb floor (W t s own) (omega arith)) (cases (dec_lt (W u s own) floor)
    (λ k. rw (lt-ltb (W u s own) floor k) (omega arith)) (λ k. rw (le-ltb (W u s own) floor (omega arith)) (omega arith))))

module _ {n tallest : ℕ} (m : n ≤ kid_words) {t : Tables} (u : Tables) (w : WellFormed n tallest t) where
  -- ## No node ends

  module _ (grows : Extends n (cap t) (W t) (W u)) where
    -- No slot is recycled: a slot that had a live node has it still.
    pub grown_ends_none : (s : ℕ) → s < cap t → ended t u s ≡ 0
    grown_ends_none s low = ended_none t u s (λ h.
        let live : LiveSlot t s = (low, h) in
        let q = slot_own m w s live in
        let z : W u s own ≡ W t s own = sym (ap (λ (i : ℕ). W u i own) q) ∙ (grows (W t s own) (slot_lives m w s live)).still.is in
        omega arith)

    -- Each stays as it was, and every slot keeps its generation.
    pub grown : (g k : ℕ → ℕ) → WellFormed n tallest u → cap u ≡ cap t → Balanced t u g k
        → ((s : ℕ) → generation_of (W u s own) ≡ generation_of (W t s own)) → Does n tallest t u g k (ended t u)
    grown g k w' size balance gens = does_as n tallest m g k (ended t u) none (λ y. refl) (λ y. refl) (λ s l. sym (grown_ends_none s l))
      where
        none : Does n tallest t u g k (λ s. 0)
        none = record {
          well = w';
          size = size;
          balance = balance;
          turns = λ s l. gens s ∙ sym (turned_zero (generation_of (W t s own)));
          keeps = λ a l z b r p. grows b p;
          spares = λ a h. refl;
        }

  -- ## No node is made

  -- Each that is there afterwards was there before, as it is; the generation of a slot whose node ended is the next.
  pub shrunk : (g k : ℕ → ℕ) → WellFormed n tallest u → Grew u t → Balanced t u g k
      → ((s : ℕ) → s < cap t → generation_of (W u s own) ≡ turned (ended t u s) (generation_of (W t s own))) → Does n tallest t u g k (ended t u)
  shrunk g k w' old balance turns = record {
    well = w';
    size = sym old.size;
    balance = balance;
    turns = turns;
    keeps = λ a l z. shrink_keeps made back a (inr (still a l z));
    spares = λ a h. ended_none t u (slot a) (λ p.
        let l = held_lives u a (let b = balance a in omega arith) in
        let x = l.is in
        let y = l.high in
        omega arith);
  }
    where
      made : WellMade n (cap t) (W u)
      made = subst (λ (c : ℕ). WellMade n c (W u)) (sym old.size) (wf_made m w')

      back : Extends n (cap t) (W u) (W t)
      back = subst (λ (c : ℕ). Extends n c (W u) (W t)) (sym old.size) (grew_extends n m old)

      still : (a : ℕ) → Lives t a → ended t u (slot a) ≡ 0 → Live (cap t) (W u) a
      still a l z = cases (dec_lt (W u (slot a) own) floor)
          (λ d. absurd (let p = l.is in let q = l.high in omega (arith, ended_one t u (slot a) (omega arith) d)))
          (λ d.
          let e = old.size in
          let b = l.low in
          let s : LiveSlot u (slot a) = (omega arith, omega arith) in
          let v = slot_lives m w' (slot a) s in
          let o : W u (slot a) own ≡ a = live_inj (old.stays (W u (slot a) own) v).0 l (slot_own m w' (slot a) s) in
          record { low = b; is = o; high = l.high })
