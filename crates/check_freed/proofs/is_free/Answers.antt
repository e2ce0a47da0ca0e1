use Rattle.check_freed.proofs.Ladders.{ladder}
use Rattle.check_freed.specs.Models.{is_free}
use Rattle.nodes.specs.Words.{floor}
use Rattle.check_freed.proofs.is_free.Goals as goal

pub returns-then-is_given : goal.returns-then-is_given
unfolding is_free floor
returns-then-is_given c = search ladder depth 16

pub returns-else-is_given : goal.returns-else-is_given
unfolding is_free
returns-else-is_given c = search ladder depth 16
