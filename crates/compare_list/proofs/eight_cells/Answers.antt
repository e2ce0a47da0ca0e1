use Rattle.std.proofs.Common.{rules, false, refl, ◌∙◌}
use Rattle.compare_pairs.proofs.Places.{branch_place, end_place, other_branch}
use Rattle.compare_list.proofs.Steps.{eight_places}
use Rattle.compare_list.proofs.eight_cells.Goals as goal

pub returns-then-is_end-clause-laid : goal.returns-then-is_end-clause-laid
returns-then-is_end-clause-laid c =
    let k = c.args.seen.now.kids.now in
    let f = c.args.seen.now.facts.now in
    let z = c.if-is_end.true in
    eight_places _ _ _ _ _ _ _ _ _ _ _ _
    (c.put_eight.ensures.laid _ _
    (λ i y l q. search rules ∙ end_place k f _ _ c.is_end.ensures i _ z c.value-u.ensures)
    (λ i y l q. branch_place k f _ false (other_branch k f _ _ c.is_end.ensures _ z c.requires.b_value.0) _ _ i y refl c.children-row.ensures c.slot_of.ensures l (search rules)))

pub returns-then-is_end-2-clause-laid : goal.returns-then-is_end-2-clause-laid
returns-then-is_end-2-clause-laid c =
    let k = c.args.seen.now.kids.now in
    let f = c.args.seen.now.facts.now in
    eight_places _ _ _ _ _ _ _ _ _ _ _ _
    (c.put_eight-then-is_end-2.ensures.laid _ _
    (λ i y l q. branch_place k f _ _ c.is_end.ensures _ _ i y c.if-is_end.false c.children-row-then-is_end-2.ensures c.slot_of-then-is_end-2.ensures l (search rules))
    (λ i y l q. search rules ∙ end_place k f _ _ c.is_end-2.ensures i _ c.if-is_end-2.true c.value-v.ensures))

pub returns-clause-laid : goal.returns-clause-laid
returns-clause-laid c =
    let k = c.args.seen.now.kids.now in
    let f = c.args.seen.now.facts.now in
    eight_places _ _ _ _ _ _ _ _ _ _ _ _
    (c.put_eight-2.ensures.laid _ _
    (λ i y l q. branch_place k f _ _ c.is_end.ensures _ _ i y c.if-is_end.false c.children-us.ensures c.slot_of-2.ensures l (search rules))
    (λ i y l q. branch_place k f _ _ c.is_end-2.ensures _ _ i y c.if-is_end-2.false c.children-vs.ensures c.slot_of-3.ensures l (search rules)))
