-- The holds of every node, and what lives on.
use mathlib.Core.Path.{◌≡◌, refl, sym, ap, ◌∙◌}
use mathlib.Core.Logic.{◌≢◌}
use mathlib.Core.Bool.{true, true≢false}
use Prim.Native.Nat.{ℕ, ◌+◌}
use native.Mathlib.Decide.{ℕ_discrete}
use native.Mathlib.Omega.{arith}
use borrow.Author.Tests.{eq-eqb, ne_eqb, lt-ltb, le-leb}
use Rattle.nodes.specs.Tally.{same}
use Rattle.nodes.specs.Words.{own, holds, slot, floor}
use Rattle.nodes.proofs.Sums.{cases, split, same_refl, same_diff}
use Rattle.arena.specs.Calls.{Out, live_of}
use Rattle.arena.specs.Tables.{Tables, cap, W}
use Rattle.arena.proofs.Fits.{live_is}
use Rattle.ledger.specs.Ledger.{on, if_accepted, holds_on}
use Rattle.ledger.specs.Fates.{Lives, Grew}

-- ---- live or not

pub live_true : (t : Tables) (y : ℕ) → Lives t y → live_of (cap t) (W t) y ≡ true
unfolding live_of
live_true t y v = rw (lt-ltb (slot y) (cap t) v.low, le-leb floor y v.high) (eq-eqb (W t (slot y) own) y v.is)

pub by_life : {A : Type 0} (t : Tables) (y : ℕ) → (Lives t y → A) → ((Lives t y → ⊥) → A) → A
by_life t y f g = split (live_of (cap t) (W t) y) (λ e. f (live_is t y e)) (λ e. g (λ v. true≢false (sym (live_true t y v) ∙ e)))

pub holds_live : (t : Tables) (y : ℕ) → Lives t y → holds_on t y ≡ W t (slot y) holds
unfolding holds_on
holds_live t y v = rw (live_true t y v)

pub holds_dead : (t : Tables) (y : ℕ) → (Lives t y → ⊥) → holds_on t y ≡ 0
unfolding holds_on
holds_dead t y d = split (live_of (cap t) (W t) y) (λ e. absurd (d (live_is t y e))) (λ e. rw e)

pub on_zero : (y x : ℕ) → x ≡ 0 → on y x ≡ 0
unfolding on
on_zero y x e = rw (eq-eqb x 0 e)

pub on_same : (y x : ℕ) → x ≢ 0 → y ≡ x → on y x ≡ 1
unfolding on
on_same y x d e = rw (ne_eqb x 0 d) (ap (λ (z : ℕ). same z x) e ∙ same_refl x)

pub on_diff : (y x : ℕ) → y ≢ x → on y x ≡ 0
unfolding on
on_diff y x d = cases (ℕ_discrete x 0) (λ z. rw (eq-eqb x 0 z)) (λ z. rw (ne_eqb x 0 z) (same_diff y x d))

pub accepted : (o : Out) (k : ℕ) → o.no ≡ 0 → if_accepted o k ≡ k
unfolding if_accepted
accepted o k e = rw (eq-eqb o.no 0 e)

pub unaccepted : (o : Out) (k : ℕ) → o.no ≢ 0 → if_accepted o k ≡ 0
unfolding if_accepted
unaccepted o k e = rw (ne_eqb o.no 0 e)

-- ---- what lives on

pub grew_refl : (t : Tables) → Grew t t
grew_refl t = record { size = refl; stays = λ y v. (v, λ f l. refl) }

-- where the own words are as they were
pub still_live : (t u : Tables) → cap u ≡ cap t → (y : ℕ) → W u (slot y) own ≡ W t (slot y) own → Lives t y → Lives u y
still_live t u e y o v = record { low = (let l = v.low in omega arith); is = o ∙ v.is; high = v.high }

pub was_live : (t u : Tables) → cap u ≡ cap t → (y : ℕ) → W u (slot y) own ≡ W t (slot y) own → Lives u y → Lives t y
was_live t u e y o v = record { low = (let l = v.low in omega arith); is = sym o ∙ v.is; high = v.high }

-- only counts are written: g granted and k taken
pub counted_holds : (t u : Tables) → cap u ≡ cap t → (y g k : ℕ) → W u (slot y) own ≡ W t (slot y) own
    → (Lives t y → W u (slot y) holds + k ≡ W t (slot y) holds + g) → ((Lives t y → ⊥) → k ≡ g) → holds_on u y + k ≡ holds_on t y + g
counted_holds t u e y g k o live dead =
    by_life t y
    (λ v. let h = live v in omega (arith, holds_live t y v, holds_live u y (still_live t u e y o v)))
    (λ d. let h = dead d in omega (arith, holds_dead t y d, holds_dead u y (λ v. d (was_live t u e y o v))))
