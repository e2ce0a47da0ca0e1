use borrow.Author.Tests.{le-ltb}
use Rattle.check_freed.proofs.Ladders.{numbers}
use Rattle.check_find.specs.Models.{live_at}
use Rattle.nodes.specs.Words.{floor}
use Rattle.check_find.proofs.lives.Goals as goal

pub returns-then-s-capacity : goal.returns-then-s-capacity
unfolding live_at floor
returns-then-s-capacity c = search numbers depth 16

pub returns-else-s-capacity : goal.returns-else-s-capacity
unfolding live_at floor
returns-else-s-capacity c = search (numbers, le-ltb) depth 16
