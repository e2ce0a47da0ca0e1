use Rattle.compare_list.proofs.Steps.{cell_same, cell_put}
use Rattle.compare_list.proofs.one_cell.Goals as goal

pub returns-then-u-v-clause-laid : goal.returns-then-u-v-clause-laid
returns-then-u-v-clause-laid c = search cell_same

pub returns-clause-laid : goal.returns-clause-laid
returns-clause-laid c = search cell_put
