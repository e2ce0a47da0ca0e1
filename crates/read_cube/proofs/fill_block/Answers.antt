use borrow.Author.Rules.{rules}
use Rattle.read_cube.proofs.Fill.{block_none, block_step, block_done}
use Rattle.read_cube.proofs.fill_block.Goals as goal

pub loop-y-init : goal.loop-y-init
loop-y-init c = (search block_none, search rules)

pub loop-y-preserved : goal.loop-y-preserved
loop-y-preserved c = (search block_step, search rules)

pub returns : goal.returns
returns c = search block_done
