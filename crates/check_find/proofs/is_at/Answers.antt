use Rattle.check_freed.proofs.Ladders.{ladder}
use Rattle.check_find.specs.Models.{named_at}
use Rattle.check_find.proofs.is_at.Goals as goal

pub returns-then-lives : goal.returns-then-lives
unfolding named_at
returns-then-lives c = search ladder depth 16

pub returns-else-lives : goal.returns-else-lives
unfolding named_at
returns-else-lives c = search ladder depth 16
