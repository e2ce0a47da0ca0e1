use Rattle.edit_make.proofs.Steps.{shift_passed}
use Rattle.edit_make.proofs.passed.Goals as goal

pub returns : goal.returns
returns c = shift_passed c.args.path c.args.n
