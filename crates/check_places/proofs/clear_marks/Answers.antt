use Rattle.check_freed.proofs.Passes.{turn_first, turn_next}
use Rattle.check_places.proofs.clear_marks.Goals as goal

pub loop-s-init : goal.loop-s-init
loop-s-init c = turn_first _ _

pub loop-s-preserved : goal.loop-s-preserved
loop-s-preserved c = turn_next _ _ _ _ _ c.loop-s.invariant c.clear_mark.ensures
