use Rattle.std.proofs.Common.{rules, refl}
use Rattle.edit_make.proofs.Steps.{make_on_lem, make_end}
use Rattle.edit_make.proofs.make_up.Goals as goal

pub loop-l-init : goal.loop-l-init
loop-l-init c = (search rules, refl)

pub loop-l-preserved : goal.loop-l-preserved
loop-l-preserved c = (search rules, search make_on_lem)

pub returns : goal.returns
returns c = search make_end
