use Rattle.compare_list.proofs.Steps.{size_shift, size_small}
use Rattle.compare_list.proofs.size_of.Goals as goal

pub returns : goal.returns
returns c = (search size_shift, search size_small)
