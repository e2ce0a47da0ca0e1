-- One step of the loop that takes a cell out.
use Rattle.std.proofs.Common.{arith, ◌≡◌, ℕ, ◌+◌, ◌<◌, ◌≤◌, List, sym, ◌∙◌, length, get_or, set}
use Rattle.find.specs.Cells.{shift}
use Rattle.find.proofs.Steps.{shift_end, shift_empty, shift_move, shift_skip, erase_start, erase_out}

module _ (home : ℕ → ℕ) (u : List ℕ) (t : List ℕ) (i j : ℕ) (e : u ≡ shift home t i j) where
  pub end : length t ≤ j → set t i 0 ≡ u
  end l = sym (e ∙ shift_end home t i j l)

  pub empty : j < length t → get_or t j 0 ≡ 0 → set t i 0 ≡ u
  empty l z = sym (e ∙ shift_empty home t i j l z)

  pub move : (h : ℕ) → j < length t → (get_or t j 0 ≡ 0 → ⊥) → h ≡ home (get_or t j 0) → h ≤ i → u ≡ shift home (set t i (get_or t j 0)) j (j + 1)
  move h l n q k = e ∙ shift_move home t i j l n (omega arith)

  pub skip : (h : ℕ) → j < length t → (get_or t j 0 ≡ 0 → ⊥) → h ≡ home (get_or t j 0) → i < h → u ≡ shift home t i (j + 1)
  skip h l n q k = e ∙ shift_skip home t i j l n (omega arith)

-- where the loop begins, goes on and ends
pub ruleset shifts = (erase_out, erase_start, end, empty, move, skip)
