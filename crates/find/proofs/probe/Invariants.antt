use Rattle.std.proofs.Common.{◌≡◌, ℕ, Bool, ◌-◌, length}
use Rattle.find.specs.Cells.{probe}
use Rattle.find.proofs.probe.Given as goal

-- the search from its start ends where one from cell i ends
abbrev pub invariant-loop-i : goal.invariant-loop-i
invariant-loop-i g l = (same : ℕ → Bool) → ((x : ℕ) (b : Bool) → goal.F-post g l.is x b → b ≡ same x) → probe same l.find l.from ≡ probe same l.find l.i

abbrev pub decreases-loop-i : goal.decreases-loop-i
decreases-loop-i g l = length l.find - l.i
