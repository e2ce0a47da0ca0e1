use Rattle.std.proofs.Common.{◌∙◌}
use borrow.Author.Tests.{eq-eqb, ne_eqb}
use Rattle.edit_make.specs.Models.{seven_placed}
use Rattle.edit_make.proofs.place_seven.Goals as goal

pub returns-then-id : goal.returns-then-id
unfolding seven_placed
returns-then-id c = rw (eq-eqb c.args.id 0 c.if-id.true)

pub returns : goal.returns
unfolding seven_placed
returns c = rw (ne_eqb c.args.id 0 c.if-id.false) (c.put_fact.ensures ∙ rw (c.fact-p.ensures, c.slot_of-s.ensures))
