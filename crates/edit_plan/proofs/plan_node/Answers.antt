use Rattle.edit_plan.proofs.Plans.{node_whole, node_found}
use Rattle.edit_plan.proofs.plan_node.Goals as goal

pub returns-then-is_whole : goal.returns-then-is_whole
returns-then-is_whole c = search node_whole

pub returns : goal.returns
returns c = search node_found
