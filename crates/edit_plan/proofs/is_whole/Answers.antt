use Rattle.std.proofs.Common.{rules, tests, eqb, sym, ◌∙◌}
use Rattle.std.proofs.lemmas.Iterator.{YieldsList-from_slice}
use Rattle.std.proofs.lemmas.Iterator.Search.{all_from_yields_List}
use Rattle.arena.proofs.Eight.{all_of_list}
use Rattle.edit_plan.specs.Models.{whole_of}
use Rattle.edit_plan.proofs.is_whole.Goals as goal

pub returns-then-is_end : goal.returns-then-is_end
unfolding whole_of
returns-then-is_end c =
    let ks = c.args.ks in
    rw (sym c.is_end.ensures ∙ c.if-is_end.true)
    (all_from_yields_List (eqb c.args.s) _ _ c.all.result c.all.ensures.ran (YieldsList-from_slice ks cc) (λ x b q k. search (rules, tests)) ∙ all_of_list _ ks)

pub returns-else-is_end : goal.returns-else-is_end
unfolding whole_of
returns-else-is_end c = rw (sym c.is_end.ensures ∙ c.if-is_end.false) c.if-is_end.false
