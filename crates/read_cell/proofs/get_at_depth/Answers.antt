use Rattle.read_cell.proofs.Calls.{look_same}
use Rattle.read_cell.proofs.get_at_depth.Goals as goal

pub returns : goal.returns
returns c = search look_same
