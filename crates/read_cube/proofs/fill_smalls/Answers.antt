use borrow.Author.Rules.{rules}
use Rattle.read_cube.proofs.Parts.{parts_none, parts_step}
use Rattle.read_cube.proofs.fill_smalls.Goals as goal

pub loop-c-init : goal.loop-c-init
loop-c-init c = (search parts_none, search rules, search rules)

pub loop-c-preserved : goal.loop-c-preserved
loop-c-preserved c = (search parts_step, search rules, search rules)
