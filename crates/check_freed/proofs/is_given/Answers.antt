use Rattle.std.proofs.Common.{refl}
use borrow.Author.Tests.{eq-eqb}
use Rattle.check_freed.proofs.Ladders.{numbers}
use Rattle.check_freed.specs.Models.{is_given}
use Rattle.check_freed.proofs.is_given.Goals as goal

pub returns-then-s-ne0 : goal.returns-then-s-ne0
unfolding is_given
returns-then-s-ne0 c = search numbers depth 16

pub returns-else-s-ne0 : goal.returns-else-s-ne0
unfolding is_given
returns-else-s-ne0 c = rw (eq-eqb c.args.s 0 c.if-s-ne0.false) refl
