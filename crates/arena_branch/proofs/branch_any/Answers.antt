use Rattle.std.proofs.Common.{sym, ◌∙◌}
use Rattle.arena.specs.Models.{intern_branch_by}
use Rattle.arena_branch.proofs.branch_any.Goals as goal

pub returns-then-not-fit : goal.returns-then-not-fit
unfolding intern_branch_by
returns-then-not-fit c = let q = sym c.fit.ensures ∙ c.if-not-fit.true in rw q (c.refuse.ensures _ _ _)

pub returns-then-all_empty : goal.returns-then-all_empty
unfolding intern_branch_by
returns-then-all_empty c =
    let q = sym c.fit.ensures ∙ c.if-not-fit.false in
    let z = sym c.all_empty.ensures ∙ c.if-all_empty.true in
    rw (q, z) (c.refuse-then-all_empty.ensures _ _ _)

pub returns : goal.returns
unfolding intern_branch_by
returns c =
    let q = sym c.fit.ensures ∙ c.if-not-fit.false in
    let z = sym c.all_empty.ensures ∙ c.if-all_empty.false in
    rw (q, z) c.branch-a.ensures
