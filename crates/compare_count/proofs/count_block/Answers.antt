use Rattle.compare_count.proofs.Steps.{block_same, block_differs}
use Rattle.compare_count.proofs.count_block.Goals as goal

pub returns-then-u-v : goal.returns-then-u-v
returns-then-u-v c = search block_same

pub returns-else-u-v : goal.returns-else-u-v
returns-else-u-v c = search block_differs
