use Rattle.std.proofs.Common.{rules, false, refl, ◌∙◌}
use Rattle.compare_pairs.proofs.Places.{branch_place, end_place, other_branch}
use Rattle.compare_count.proofs.Steps.{eight_places}
use Rattle.compare_count.proofs.count_cells.Goals as goal

pub returns-then-is_end : goal.returns-then-is_end
returns-then-is_end c =
    let k = c.args.seen.now.kids.now in
    let f = c.args.seen.now.facts.now in
    let z = c.if-is_end.true in
    c.count_eight.ensures _ _
    (λ i y l q. search rules ∙ end_place k f _ _ c.is_end.ensures i _ z c.value-u.ensures)
    (λ i y l q. branch_place k f _ false (other_branch k f _ _ c.is_end.ensures _ z c.requires) _ _ i y refl c.children-row.ensures c.slot_of.ensures l (search rules))
    ∙ eight_places _ _ _

pub returns-then-is_end-2 : goal.returns-then-is_end-2
returns-then-is_end-2 c =
    let k = c.args.seen.now.kids.now in
    let f = c.args.seen.now.facts.now in
    c.count_eight-then-is_end-2.ensures _ _
    (λ i y l q. branch_place k f _ _ c.is_end.ensures _ _ i y c.if-is_end.false c.children-row-then-is_end-2.ensures c.slot_of-then-is_end-2.ensures l (search rules))
    (λ i y l q. search rules ∙ end_place k f _ _ c.is_end-2.ensures i _ c.if-is_end-2.true c.value-v.ensures)
    ∙ eight_places _ _ _

pub returns : goal.returns
returns c =
    let k = c.args.seen.now.kids.now in
    let f = c.args.seen.now.facts.now in
    c.count_eight-2.ensures _ _
    (λ i y l q. branch_place k f _ _ c.is_end.ensures _ _ i y c.if-is_end.false c.children-lefts.ensures c.slot_of-2.ensures l (search rules))
    (λ i y l q. branch_place k f _ _ c.is_end-2.ensures _ _ i y c.if-is_end-2.false c.children-rights.ensures c.slot_of-3.ensures l (search rules))
    ∙ eight_places _ _ _
