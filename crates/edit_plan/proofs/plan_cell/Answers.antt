use Rattle.edit_plan.proofs.Plans.{cell_nothing, cell_found}
use Rattle.edit_plan.proofs.plan_cell.Goals as goal

pub returns-then-v-eq0 : goal.returns-then-v-eq0
returns-then-v-eq0 c = search cell_nothing

pub returns : goal.returns
returns c = search cell_found
