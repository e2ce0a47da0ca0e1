-- the cells of the places so far, no more than there are
use Rattle.std.proofs.Common.{◌≡◌, ℕ, ◌<◌, ◌≤◌}
use Rattle.basics.specs.Limits.{cube_kids}
use Rattle.compare_count.specs.Models.{eight_to}
use Rattle.compare_count.proofs.count_eight.Given as goal

abbrev pub invariant-loop-c : goal.invariant-loop-c
invariant-loop-c g l =
    (l.cells ≤ l.c)
    × ((f h : ℕ → ℕ) → ((c y : ℕ) → c < cube_kids → goal.F-post g l.u c y → y ≡ f c) → ((c y : ℕ) → c < cube_kids → goal.G-post g l.v c y → y ≡ h c) → l.cells ≡ eight_to f h l.c)
