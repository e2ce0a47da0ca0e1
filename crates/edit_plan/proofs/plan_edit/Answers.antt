use Rattle.edit_plan.proofs.Plans.{edit_deep, edit_same, edit_other}
use Rattle.edit_plan.proofs.plan_edit.Goals as goal

pub returns-then-cell-gt-DEEPEST : goal.returns-then-cell-gt-DEEPEST
returns-then-cell-gt-DEEPEST c = search edit_deep

pub returns-then-value_at-v : goal.returns-then-value_at-v
returns-then-value_at-v c = search edit_same

pub returns : goal.returns
returns c = search edit_other
