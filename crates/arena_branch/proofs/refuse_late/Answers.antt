use Rattle.std.proofs.Common.{sym, ◌∙◌}
use Rattle.arena_branch.proofs.refuse_late.Goals as goal

pub returns-then-all_enough : goal.returns-then-all_enough
returns-then-all_enough c = λ k f e. let q = sym c.all_enough.ensures ∙ c.if-all_enough.true in rw q (c.refuse.ensures k f e)

pub returns-else-all_enough : goal.returns-else-all_enough
returns-else-all_enough c = λ k f e. let q = sym c.all_enough.ensures ∙ c.if-all_enough.false in rw q (c.refuse-else-all_enough.ensures k f e)
