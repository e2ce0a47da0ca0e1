use Rattle.std.proofs.Common.{sym, ◌∙◌}
use Rattle.edit_make.specs.Models.{sum_over}
use Rattle.edit_make.proofs.sum_over.Goals as goal

pub returns-then-is_end : goal.returns-then-is_end
unfolding sum_over
returns-then-is_end c = rw (sym c.is_end.ensures ∙ c.if-is_end.true, c.value_at.ensures)

pub returns : goal.returns
unfolding sum_over
returns c = rw (sym c.is_end.ensures ∙ c.if-is_end.false) (c.fact.ensures ∙ rw c.slot_of.ensures)
