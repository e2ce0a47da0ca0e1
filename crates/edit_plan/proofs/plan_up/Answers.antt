use Rattle.std.proofs.Common.{rules}
use Rattle.edit_plan.proofs.Plans.{cell_one, need_one, climb_start, climb_on, climb_stop, climb_end}
use Rattle.edit_plan.proofs.plan_up.Goals as goal

ruleset mine = (cell_one, need_one, climb_start, climb_on, climb_stop, climb_end, rules)

pub loop-l-init : goal.loop-l-init
loop-l-init c = (search rules, search mine, search mine)

pub returns-then-below-ne0 : goal.returns-then-below-ne0
returns-then-below-ne0 c = search mine

pub loop-l-preserved : goal.loop-l-preserved
loop-l-preserved c = (search rules, search mine, search mine)

pub returns : goal.returns
returns c = search mine
