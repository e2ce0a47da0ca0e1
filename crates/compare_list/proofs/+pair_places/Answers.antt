use borrow.Author.Rules.{rules}
use native.Mathlib.Omega.{arith}
use Rattle.compare_list.proofs.Steps.{pair_same, pair_block, pair_places, pair_cells, few, places_none, places_step, eighth, level_left, on_falls}
use Rattle.compare_list.proofs.+pair_places.Goals as goal

pub pair-returns-then-a-b-clause-laid : goal.pair-returns-then-a-b-clause-laid
pair-returns-then-a-b-clause-laid t c = search pair_same

pub pair-returns-then-left-eq1-clause-laid : goal.pair-returns-then-left-eq1-clause-laid
pair-returns-then-left-eq1-clause-laid t c = search pair_cells

pub pair-returns-then-left-eq1-clause-at_bound : goal.pair-returns-then-left-eq1-clause-at_bound
pair-returns-then-left-eq1-clause-at_bound t c =
    few c.args.seen.now.kids.now c.args.seen.now.facts.now c.args.left c.args.base c.args.a c.args.b _ _ _ _ c.args.list.now.codes.now c.args.list.now.lefts.now c.args.list.now.rights.now c.eight_cells.new.list.codes.now
    c.eight_cells.new.list.lefts.now c.eight_cells.new.list.rights.now c.requires.size_value.0 (search pair_cells)

pub pair-returns-then-goes_on-clause-laid : goal.pair-returns-then-goes_on-clause-laid
pair-returns-then-goes_on-clause-laid t c = search pair_places

pub pair-returns-then-goes_on-clause-at_bound : goal.pair-returns-then-goes_on-clause-at_bound
pair-returns-then-goes_on-clause-at_bound t c =
    few c.args.seen.now.kids.now c.args.seen.now.facts.now c.args.left c.args.base c.args.a c.args.b _ _ _ _ c.args.list.now.codes.now c.args.list.now.lefts.now c.args.list.now.rights.now c.places.new.list.codes.now
    c.places.new.list.lefts.now c.places.new.list.rights.now c.requires.size_value.0 (search pair_places)

pub pair-returns-clause-laid : goal.pair-returns-clause-laid
pair-returns-clause-laid t c = search pair_block

pub pair-returns-clause-at_bound : goal.pair-returns-clause-at_bound
pair-returns-clause-at_bound t c =
    few c.args.seen.now.kids.now c.args.seen.now.facts.now c.args.left c.args.base c.args.a c.args.b _ _ _ _ c.args.list.now.codes.now c.args.list.now.lefts.now c.args.list.now.rights.now c.block.new.list.codes.now
    c.block.new.list.lefts.now c.block.new.list.rights.now c.requires.size_value.0 (search pair_block)

pub pair-overflow_sub-left : goal.pair-overflow_sub-left
pair-overflow_sub-left t c = search level_left

pub pair-places-requires : goal.pair-places-requires
pair-places-requires t c = (search on_falls, (search eighth, search rules, search rules))

pub places-loop-c-init : goal.places-loop-c-init
places-loop-c-init t c = (search rules, search rules, search places_none, search rules)

pub places-loop-c-preserved : goal.places-loop-c-preserved
places-loop-c-preserved t c = (omega arith, omega arith, search places_step, search rules)
