use Rattle.std.proofs.Common.{refl, rules, ◌∙◌}
use Rattle.std.proofs.lemmas.Iterator.{YieldsList-from_range}
use Rattle.std.proofs.lemmas.Iterator.Search.{all_from_yields_List}
use Rattle.check_arena.specs.Models.{slot_fine}
use Rattle.check_freed.proofs.Passes.{all_range}
use Rattle.check_arena.proofs.slots_fine.Goals as goal

pub returns : goal.returns
returns c =
    let p = slot_fine c.args.seen.now.kids.now c.args.seen.now.facts.now c.args.seen.now.capacity c.args.next in
    all_from_yields_List p _ _ c.all.result c.all.ensures.ran (YieldsList-from_range 0 c.args.seen.now.capacity _ (cc) refl) (λ x b q k. search rules) ∙ all_range p 0 c.args.seen.now.capacity
