use Rattle.std.proofs.Common.{rules, tests, refl, ◌∙◌, ◌-◌}
use Rattle.std.proofs.lemmas.Iterator.{YieldsList-from_range}
use Rattle.std.proofs.lemmas.Iterator.Search.{all_from_yields_List}
use Rattle.check_freed.specs.Models.{entry_fine}
use Rattle.check_freed.proofs.Passes.{all_range}
use Rattle.check_freed.proofs.entries_fine.Goals as goal

pub returns : goal.returns
unfolding entry_fine
returns c =
    let freed = c.args.freed in
    all_from_yields_List (entry_fine c.args.facts.now c.args.next) _ _ c.all.result c.all.ensures.ran (YieldsList-from_range 0 freed (freed - 0) refl refl) (λ x b q k. search (rules, tests))
    ∙ all_range _ 0 freed
