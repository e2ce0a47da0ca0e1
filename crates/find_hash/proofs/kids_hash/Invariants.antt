use Rattle.std.proofs.Common.{◌≡◌, ◌%◌, ◌^◌, get_or}
use Rattle.basics.specs.Sums.{sum_to}
use Rattle.find_hash.specs.Hash.{term}
use Rattle.find_hash.proofs.kids_hash.Given as goal

-- the terms of the children before child i, added up and cut
abbrev pub invariant-loop-i : goal.invariant-loop-i
invariant-loop-i l = l.sum % 2 ^ 32 ≡ sum_to l.i (λ j. term j (get_or l.fn.ks j 0)) % 2 ^ 32
