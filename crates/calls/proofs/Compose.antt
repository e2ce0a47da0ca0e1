-- What calls do composes: nothing at all, one after the other, and so any sequence.
use mathlib.Core.Path.{◌≡◌, refl, sym, ap, ◌∙◌, subst}
use mathlib.Core.Logic.{inr}
use Prim.Native.Nat.{ℕ, ◌+◌, ◌≤◌, ◌<◌}
use native.Mathlib.Omega.{arith}
use Rattle.basics.specs.Limits.{kid_words}
use Rattle.ids.specs.Ids.{generation_of}
use Rattle.nodes.specs.Words.{own, slot}
use Rattle.tree.specs.Tree.{Keeps, self}
use Rattle.tree.proofs.Grow.{keeps_trans}
use Rattle.arena.specs.Tables.{Tables, cap, W, WellFormed}
use Rattle.ledger.specs.Ledger.{holds_on}
use Rattle.ledger.specs.Fates.{Lives, turned}
use Rattle.ledger.proofs.Effects.{by_life, holds_dead}
use Rattle.ledger.proofs.Generations.{turned_zero, turned_add}
use Rattle.read_cell.proofs.Meaning.{wf_made}
use Rattle.calls.specs.Does.{Does, Stepping, Since, now, then}

pub held_lives : (t : Tables) (y : ℕ) → 1 ≤ holds_on t y → Lives t y
held_lives t y h = by_life t y (λ l. l) (λ d. absurd (let z = holds_dead t y d in omega arith))

module _ (n tallest : ℕ) (m : n ≤ kid_words) where
  -- Nothing is done.
  pub does_none : (t : Tables) → WellFormed n tallest t → Does n tallest t t (λ y. 0) (λ y. 0) (λ s. 0)
  does_none t w = record {
    well = w;
    size = refl;
    balance = λ y. refl;
    turns = λ s l. sym (turned_zero (generation_of (W t s own)));
    keeps = λ a l z b u k. record { still = k; kids = λ i h. refl; value = refl; height = refl };
    spares = λ a h. refl;
  }

  -- The same numbers, said otherwise.
  pub does_as : {t u : Tables} {g k j : ℕ → ℕ} (g' k' j' : ℕ → ℕ) → Does n tallest t u g k j
      → ((y : ℕ) → g y ≡ g' y) → ((y : ℕ) → k y ≡ k' y) → ((s : ℕ) → s < cap t → j s ≡ j' s) → Does n tallest t u g' k' j'
  does_as {t} {g} {k} {j} g' k' j' d eg ek ej = record {
    well = d.well;
    size = d.size;
    balance = λ y. let b = d.balance y in let p = eg y in let q = ek y in omega arith;
    turns = λ s l. d.turns s l ∙ ap (λ (i : ℕ). turned i (generation_of (W t s own))) (ej s l);
    keeps = λ a l z. d.keeps a l (ej (slot a) l.low ∙ z);
    spares = λ a h.
        let q = ek a in
        let l = held_lives t a (omega arith) in
        sym (ej (slot a) l.low) ∙ d.spares a (omega arith);
  }

  -- One after the other. The second may take holds that the first granted: c of them, which are neither granted nor taken in all.
  pub does_net : {t u v : Tables} {g k j g' k' j' : ℕ → ℕ} (granted taken c : ℕ → ℕ) → WellFormed n tallest t → Does n tallest t u g k j → Does n tallest u v g' k' j'
      → ((y : ℕ) → (granted y + c y ≡ g y + g' y) × (taken y + c y ≡ k y + k' y) × (c y ≤ g y) × (c y ≤ k' y)) → Does n tallest t v granted taken (λ s. j s + j' s)
  does_net {t} {u} {v} {g} {k} {j} {g'} {k'} {j'} granted taken c w a b net = record {
    well = b.well;
    size = b.size ∙ a.size;
    balance = λ y. let (x, z, p, q) = net y in omega (arith, a.balance y, b.balance y);
    turns = λ s l.
        let e = a.size in
        b.turns s (omega arith) ∙ ap (turned (j' s)) (a.turns s l) ∙ sym (turned_add (j s) (j' s) (generation_of (W t s own)));
    keeps = λ r l z.
        let p = a.keeps r l (omega arith) in
        let live : Lives u r = record { low = (let e = a.size in let h = l.low in omega arith); is = (p r self l).still.is; high = l.high } in
        keeps_trans n (cap t) (W t) (W u) (wf_made m w) (W v) r (inr l) p
        (subst (λ (x : ℕ). Keeps n x (W u) (W v) r) a.size (b.keeps r live (omega arith)));
    spares = λ r h.
        let (x, z, p, q) = net r in
        let e = a.balance r in
        let one = a.spares r (omega arith) in
        let two = b.spares r (omega arith) in
        omega arith;
  }

  -- All adds up.
  pub does_both : {t u v : Tables} {g k j g' k' j' : ℕ → ℕ} → WellFormed n tallest t → Does n tallest t u g k j → Does n tallest u v g' k' j'
      → Does n tallest t v (λ y. g y + g' y) (λ y. k y + k' y) (λ s. j s + j' s)
  does_both {g = g} {k = k} {g' = g'} {k' = k'} w a b =
      does_net (λ y. g y + g' y) (λ y. k y + k' y) (λ y. 0) w a b (λ y. (omega arith, omega arith, omega arith, omega arith))

  -- Any sequence of steps, each of which does what it says.
  pub since_does : (Step : Stepping) → ((t u : Tables) (g k j : ℕ → ℕ) → WellFormed n tallest t → Step t u g k j → Does n tallest t u g k j)
      → {t u : Tables} {g k j : ℕ → ℕ} → WellFormed n tallest t → Since Step t u g k j → Does n tallest t u g k j
  since_does Step does {t} w now = does_none t w
  since_does Step does w (then {u = u} {v = v} {granted = g} {taken = k} {times = j} s c) =
      let d = since_does Step does w s in
      does_both w d (does u v g k j d.well c)

-- Steps of one kind that are steps of another.
pub since_of : (Step More : Stepping) → ((t u : Tables) (g k j : ℕ → ℕ) → Step t u g k j → More t u g k j) → {t u : Tables} {g k j : ℕ → ℕ}
    → Since Step t u g k j → Since More t u g k j
since_of Step More f now = now
since_of Step More f (then {u = u} {v = v} {granted = g} {taken = k} {times = j} s c) = then (since_of Step More f s) (f u v g k j c)
