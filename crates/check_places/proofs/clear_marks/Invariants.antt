use Rattle.std.proofs.Common.{◌≡◌}
use Rattle.check_places.specs.Models.{clear_to}
use Rattle.check_places.proofs.clear_marks.Given as goal

-- the counters of the live slots below s are 0 again
abbrev pub invariant-loop-s : goal.invariant-loop-s
invariant-loop-s l = l.facts ≡ clear_to l.fn.facts l.s
