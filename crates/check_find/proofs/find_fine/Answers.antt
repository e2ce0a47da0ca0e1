use Rattle.check_freed.proofs.Ladders.{flags}
use Rattle.check_find.specs.Models.{find_fine}
use Rattle.check_find.proofs.find_fine.Goals as goal

pub returns-then-cells_fine : goal.returns-then-cells_fine
unfolding find_fine
returns-then-cells_fine c = search flags depth 16

pub returns-else-cells_fine : goal.returns-else-cells_fine
unfolding find_fine
returns-else-cells_fine c = search flags depth 16
