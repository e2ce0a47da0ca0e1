use borrow.Author.Tests.{lt-ltb}
use Rattle.check_freed.proofs.Ladders.{numbers}
use Rattle.check_places.specs.Models.{agree_at}
use Rattle.nodes.specs.Words.{floor}
use Rattle.check_places.proofs.agrees.Goals as goal

pub returns-then-own-lt-FLOOR : goal.returns-then-own-lt-FLOOR
unfolding agree_at floor
returns-then-own-lt-FLOOR c = search (numbers, lt-ltb) depth 16

pub returns-else-own-lt-FLOOR : goal.returns-else-own-lt-FLOOR
unfolding agree_at floor
returns-else-own-lt-FLOOR c = search numbers depth 16
