use Rattle.std.proofs.Common.{arith}
use Rattle.find_remove.proofs.Shifts.{end, empty}
use Rattle.find_remove.proofs.erase_at.Goals.{else-loop-j-test, then-loop-j-test+then-x-eq0}
use Rattle.find_remove.proofs.erase_at.Goals as goal

pub returns : goal.returns
returns c =
    elim c.loop-j-test.branch [
      | else-loop-j-test w ↦ end _ _ _ _ _ c.loop-j.invariant.rest (omega (arith, w.loop-j-test.false))
      | then-loop-j-test+then-x-eq0 w ↦ empty _ _ _ _ _ c.loop-j.invariant.rest (omega (arith, w.loop-j-test.true)) w.if-x-eq0.true
    ]
