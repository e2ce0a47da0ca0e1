use Rattle.std.proofs.Common.{◌≡◌, ℕ, List, ap, ◌∙◌, eqb}
use Rattle.find.specs.Cells.{probe, erase, remove}
use Rattle.find_remove.proofs.remove_slot.Goals as goal

removed : (home : ℕ → ℕ) (t u : List ℕ) (s from at : ℕ) → from ≡ home s → at ≡ probe (eqb s) t from → u ≡ erase home t at → u ≡ remove home t s
unfolding remove
removed home t u s from at h p e = e ∙ ap (erase home t) (p ∙ ap (probe (eqb s) t) h)

pub returns : goal.returns
returns c = search removed
