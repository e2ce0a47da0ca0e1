use Rattle.arena.specs.Calls.{made_of}
use Rattle.bars.proofs.Steps.{Left}
use Rattle.bars.proofs.onward.Given as goal

-- what is left to do comes to the same as the whole
abbrev pub invariant-loop-i : goal.invariant-loop-i
invariant-loop-i l =
    Left l.depth l.y l.z l.value l.x l.more (made_of l.capacity l.initial.last l.initial.kids l.initial.facts l.initial.find) (made_of l.capacity l.last l.kids l.facts l.find) l.i
