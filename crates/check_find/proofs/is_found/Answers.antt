use Rattle.check_freed.proofs.Ladders.{ladder}
use Rattle.check_find.specs.Models.{found_at}
use Rattle.check_find.proofs.is_found.Goals as goal

pub returns-then-not-lives : goal.returns-then-not-lives
unfolding found_at
returns-then-not-lives c = search ladder depth 16

pub returns-else-not-lives : goal.returns-else-not-lives
unfolding found_at
returns-else-not-lives c = search ladder depth 16
