use Rattle.std.proofs.Common.{◌≡◌}
use Rattle.check_places.specs.Models.{count_to}
use Rattle.check_places.proofs.count_all.Given as goal

-- the child places of the slots below s are counted
abbrev pub invariant-loop-s : goal.invariant-loop-s
invariant-loop-s l = l.facts ≡ count_to l.fn.kids l.fn.facts l.s
