use Rattle.std.proofs.Common.{◌≤◌}
use Rattle.basics.specs.Limits.{deepest}
use Rattle.arena.specs.Calls.{made_of}
use Rattle.edit_make.proofs.Steps.{Makes}
use Rattle.edit_make.proofs.make_up.Given as goal

-- what is left of the way up gives what the whole gives
abbrev pub invariant-loop-l : goal.invariant-loop-l
invariant-loop-l l =
    (l.depth ≤ deepest)
    × Makes l.ids l.depth l.from l.path (made_of l.capacity l.initial.last l.initial.kids l.initial.facts l.initial.find) l.l l.digits (made_of l.capacity l.last l.kids l.facts l.find)
