use Rattle.std.proofs.Common.{rules}
use Rattle.edit_make.specs.Models.{with_bit}
use Rattle.edit_make.proofs.with_bit.Goals as goal

pub returns : goal.returns
unfolding with_bit
returns c = search rules
