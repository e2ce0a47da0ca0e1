use Rattle.std.proofs.Common.{rules}
use Rattle.edit_way.proofs.Ways.{fall_none, fall_start, fall_small, fall_on, fall_end}
use Rattle.edit_way.proofs.way_down.Goals as goal

pub returns-then-cell-gt-DEEPEST : goal.returns-then-cell-gt-DEEPEST
returns-then-cell-gt-DEEPEST c = search fall_none

pub loop-left-init : goal.loop-left-init
loop-left-init c = (search rules, search rules, search rules, search fall_start)

pub loop-left-preserved : goal.loop-left-preserved
loop-left-preserved c = (search rules, search rules, search fall_small, search fall_on)

pub returns : goal.returns
returns c = fall_end _ _ _ _ _ _ _ c.loop-left.invariant.3 c.loop-left.invariant.0 c.loop-left-test.false
