use Rattle.std.proofs.Common.{rules, tests, eqb, ◌∙◌}
use Rattle.std.proofs.lemmas.Iterator.{YieldsList-from_slice}
use Rattle.std.proofs.lemmas.Iterator.Search.{all_from_yields_List}
use Rattle.arena.specs.Calls.{none_of}
use Rattle.arena.proofs.Eight.{all_of_list}
use Rattle.arena.proofs.all_empty.Goals as goal

pub returns : goal.returns
unfolding none_of
returns c =
    let ids = c.args.ids in
    all_from_yields_List (λ k. eqb k 0) _ _ c.all.result c.all.ensures.ran (YieldsList-from_slice ids cc) (λ x b q k. search (rules, tests)) ∙ all_of_list _ ids
