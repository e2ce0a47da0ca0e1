use Rattle.std.proofs.Common.{rules, tests, refl, ◌∙◌, ◌-◌, length}
use Rattle.std.proofs.lemmas.Iterator.{YieldsList-from_range}
use Rattle.std.proofs.lemmas.Iterator.Search.{all_from_yields_List}
use Rattle.check_find.specs.Models.{cell_fine}
use Rattle.check_freed.proofs.Passes.{all_range}
use Rattle.check_find.proofs.cells_fine.Goals as goal

pub returns : goal.returns
returns c =
    let n = length c.args.seen.now.find.now in
    all_from_yields_List (cell_fine c.args.seen.now.kids.now c.args.seen.now.facts.now c.args.seen.now.find.now c.args.seen.now.capacity) _ _ c.all.result c.all.ensures.ran (YieldsList-from_range 0 n (n - 0) refl refl) (λ x b q k. search (rules, tests))
    ∙ all_range _ 0 n
