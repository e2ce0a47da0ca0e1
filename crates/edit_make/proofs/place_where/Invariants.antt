use Rattle.std.proofs.Common.{◌≡◌, length}
use Rattle.edit_make.proofs.Steps.{Places}
use Rattle.edit_make.proofs.place_where.Given as goal

-- what is left of the loop gives what the whole gives
abbrev pub invariant-loop-k : goal.invariant-loop-k
invariant-loop-k l = (length l.k-items ≡ 8) × Places l.k-items l.initial.facts l.mask l.k-index l.facts l.bits
