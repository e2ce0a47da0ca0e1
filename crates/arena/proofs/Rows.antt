-- The rows that are written: eight EMPTY children, and the facts of a fresh and of a recycled slot but for the own word.
use mathlib.Core.Path.{◌≡◌, refl}
use mathlib.Core.Logic.{◌≢◌}
use mathlib.Core.List.{List, [], ◌∷◌}
use Prim.Native.Nat.{ℕ, zero, suc, ◌<◌}
use native.Mathlib.Omega.{arith}
use lib.ListN.{length, get_or}
use Rattle.nodes.specs.Tally.{occ}
use Rattle.nodes.proofs.Sums.{same_diff}
use Rattle.arena.specs.Calls.{empties}

pub empties_length : length empties ≡ 8
unfolding empties
empties_length = refl

pub empties_at : (i : ℕ) → i < 8 → get_or empties i 0 ≡ 0
unfolding empties
empties_at zero l = refl
empties_at (suc zero) l = refl
empties_at (suc (suc zero)) l = refl
empties_at (suc (suc (suc zero))) l = refl
empties_at (suc (suc (suc (suc zero)))) l = refl
empties_at (suc (suc (suc (suc (suc zero))))) l = refl
empties_at (suc (suc (suc (suc (suc (suc zero)))))) l = refl
empties_at (suc (suc (suc (suc (suc (suc (suc zero))))))) l = refl
empties_at (suc (suc (suc (suc (suc (suc (suc (suc i)))))))) l = absurd (omega arith)

pub empties_none : (y : ℕ) → y ≢ 0 → occ y empties ≡ 0
unfolding empties occ
empties_none y d = omega (arith, same_diff y 0 d)

-- the facts but for the own word
abbrev pub fresh_rest : ℕ → ℕ → ℕ → ℕ → ℕ → ℕ → List ℕ
fresh_rest v up sum k h p = v ∷ up ∷ sum ∷ 0 ∷ k ∷ h ∷ p ∷ 0 ∷ []

abbrev pub dead_rest : ℕ → List ℕ
dead_rest number = 0 ∷ 0 ∷ 0 ∷ 0 ∷ 0 ∷ 0 ∷ 0 ∷ number ∷ []

-- all but the mark
pub dead_zero : (number i : ℕ) → i < 7 → get_or (dead_rest number) i 0 ≡ 0
dead_zero number zero h = refl
dead_zero number (suc zero) h = refl
dead_zero number (suc (suc zero)) h = refl
dead_zero number (suc (suc (suc zero))) h = refl
dead_zero number (suc (suc (suc (suc zero)))) h = refl
dead_zero number (suc (suc (suc (suc (suc zero))))) h = refl
dead_zero number (suc (suc (suc (suc (suc (suc zero)))))) h = refl
dead_zero number (suc (suc (suc (suc (suc (suc (suc i))))))) h = absurd (omega arith)
