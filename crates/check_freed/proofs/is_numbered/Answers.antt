use Rattle.check_freed.proofs.Ladders.{ladder}
use Rattle.check_freed.specs.Models.{numbered_by}
use Rattle.check_freed.proofs.is_numbered.Goals as goal

pub returns-then-is_free : goal.returns-then-is_free
unfolding numbered_by
returns-then-is_free c = search ladder depth 16

pub returns-else-is_free : goal.returns-else-is_free
unfolding numbered_by
returns-else-is_free c = search ladder depth 16
