use Rattle.std.proofs.Common.{rules, ◌∙◌}
use Rattle.std.proofs.lemmas.Iterator.{YieldsList-from_slice}
use Rattle.std.proofs.lemmas.Iterator.Search.{all_from_yields_List}
use Rattle.nodes.specs.Words.{fact_of}
use Rattle.arena.specs.Calls.{live_or_empty}
use Rattle.arena.proofs.Eight.{all_of_list}
use Rattle.arena.proofs.all_live.Goals as goal

pub returns : goal.returns
returns c =
    let p = live_or_empty c.args.capacity (fact_of c.args.facts.now) in
    all_from_yields_List p _ _ c.all.result c.all.ensures.ran (YieldsList-from_slice c.args.ks cc) (λ x b q k. search rules) ∙ all_of_list _ c.args.ks
