-- The scan of a definition.
use Prim.Native.Nat.{ℕ, zero, suc, ◌<◌}
use native.Mathlib.Decide.{ℕ_discrete}
use native.Mathlib.Omega.{arith}
use mathlib.Core.Path.{◌≡◌, refl, sym, ◌∙◌}
use mathlib.Core.Logic.{◌≢◌}
use mathlib.Core.Bool.{Bool, true, false}
use Rattle.nodes.proofs.Sums.{cases, split}
use Rattle.arena.specs.Calls.{find_slot}

find_yes : (p : ℕ → Bool) (k : ℕ) → p k ≡ true → find_slot p (suc k) ≡ k
unfolding find_slot
find_yes p k e = rw e

find_no : (p : ℕ → Bool) (k : ℕ) → p k ≡ false → find_slot p (suc k) ≡ find_slot p k
unfolding find_slot
find_no p k e = rw e

find_none : (p : ℕ → Bool) → find_slot p 0 ≡ 0
unfolding find_slot
find_none p = refl

pub find_hit : (p : ℕ → Bool) (k : ℕ) → find_slot p k ≢ 0 → (p (find_slot p k) ≡ true) × (find_slot p k < k)
find_hit p zero h = absurd (h (find_none p))
find_hit p (suc k) h =
    split (p k)
    (λ e. let q = find_yes p k e in rw q (e, omega arith))
    (λ e. let q = find_no p k e in let r = find_hit p k (λ z. h (q ∙ z)) in rw q (r.0, (let l = r.1 in omega arith)))

pub find_miss : (p : ℕ → Bool) (k : ℕ) → find_slot p k ≡ 0 → (s : ℕ) → s < k → s ≢ 0 → p s ≡ false
find_miss p zero h s l d = absurd (omega arith)
find_miss p (suc k) h s l d =
    split (p k)
    (λ e. let q = find_yes p k e in cases (ℕ_discrete s k) (λ z. absurd (d (omega arith))) (λ z. absurd (omega arith)))
    (λ e.
    let q = find_no p k e in
    cases (ℕ_discrete s k) (λ (z : s ≡ k). rw z e) (λ z. find_miss p k (sym q ∙ h) s (omega arith) d))
