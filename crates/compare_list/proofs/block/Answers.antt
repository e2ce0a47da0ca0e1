use Rattle.compare_list.proofs.Steps.{block_same, rows_none, rows_step, block_done}
use Rattle.compare_list.proofs.block.Goals as goal

pub returns-then-u-v : goal.returns-then-u-v
returns-then-u-v c = search block_same

pub loop-i-init : goal.loop-i-init
loop-i-init c = search rows_none

pub loop-i-preserved : goal.loop-i-preserved
loop-i-preserved c = search rows_step

pub returns : goal.returns
returns c = search block_done
