use Rattle.std.proofs.Common.{rules, tests, arith, ◌∙◌, leb}
use Rattle.std.specs.List.{range_with_len}
use Rattle.std.proofs.lemmas.List.Sums.{length-filter}
use Rattle.std.proofs.lemmas.Iterator.{YieldsList-from_range}
use Rattle.std.proofs.lemmas.Iterator.Consumers.{YieldsList-from_filter, count_from_yields_List}
use Rattle.nodes.specs.Words.{own, fact_of, floor}
use Rattle.nodes.specs.Tally.{live_bit, live_count}
use Rattle.check_freed.proofs.Passes.{count_range}
use Rattle.check_freed.proofs.count_live.Goals as goal

pub returns : goal.returns
unfolding live_count live_bit floor
returns c =
    let n = c.args.c in
    count_from_yields_List c.filter.result _ c.count.ensures.ran
    (YieldsList-from_filter _ (λ s. leb floor (fact_of c.args.facts.now s own)) (YieldsList-from_range 0 n n c.filter.ensures.source (omega arith)) c.filter.ensures.closure (λ x r q k. search (rules, tests)))
    ∙ length-filter _ (range_with_len 0 n) ∙ count_range _ n
