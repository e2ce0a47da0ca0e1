use native.Mathlib.Omega.{arith}
use Rattle.bars.proofs.Steps.{left_start, left_again, left_stop, left_none}
use Rattle.bars.proofs.onward.Goals as goal

pub loop-i-init : goal.loop-i-init
loop-i-init c = left_start _ _ _ _ _ _ _

pub returns-then-last-ne0 : goal.returns-then-last-ne0
returns-then-last-ne0 c = left_stop _ _ _ _ _ _ _ _ _ c.loop-i.invariant c.if-last-ne0.true

pub loop-i-preserved : goal.loop-i-preserved
loop-i-preserved c =
    left_again _ _ _ _ _ _ _ _ _ c.loop-i.last _ _ _ c.loop-i.invariant c.loop-i-test.true c.if-last-ne0.false (omega (arith, c.ranges.value.fits))
    _ c.cell-position.ensures c.next-last.result _ _ _ c.next-last.ensures

pub returns : goal.returns
returns c = left_none _ _ _ _ _ _ _ _ _ c.loop-i.invariant c.loop-i-test.false
