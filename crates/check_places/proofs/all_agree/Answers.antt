use Rattle.std.proofs.Common.{rules, tests, refl, ◌∙◌, ◌-◌}
use Rattle.std.proofs.lemmas.Iterator.{YieldsList-from_range}
use Rattle.std.proofs.lemmas.Iterator.Search.{all_from_yields_List}
use Rattle.check_places.specs.Models.{agree_at}
use Rattle.check_freed.proofs.Passes.{all_range}
use Rattle.check_places.proofs.all_agree.Goals as goal

pub returns : goal.returns
returns c =
    let n = c.args.c in
    all_from_yields_List (agree_at c.args.facts.now) _ _ c.all.result c.all.ensures.ran (YieldsList-from_range 0 n (n - 0) refl refl) (λ x b q k. search (rules, tests)) ∙ all_range _ 0 n
