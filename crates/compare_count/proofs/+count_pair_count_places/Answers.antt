use borrow.Author.Rules.{rules}
use Rattle.compare_count.proofs.Steps.{one_left, pair_same, pair_block, pair_places, pair_cells, level_left, places_low, places_falls, places_none, places_step, cells_few, cells_fit}
use Rattle.compare_count.proofs.+count_pair_count_places.Goals as goal

pub count_pair-returns-then-a-b : goal.count_pair-returns-then-a-b
count_pair-returns-then-a-b t c = search pair_same

pub count_pair-count_cells-requires : goal.count_pair-count_cells-requires
count_pair-count_cells-requires t c = search one_left

pub count_pair-returns-then-left-eq1 : goal.count_pair-returns-then-left-eq1
count_pair-returns-then-left-eq1 t c = search pair_cells

pub count_pair-overflow_sub-left : goal.count_pair-overflow_sub-left
count_pair-overflow_sub-left t c = search level_left

pub count_pair-count_places-requires : goal.count_pair-count_places-requires
count_pair-count_places-requires t c = (search places_falls, search places_low)

pub count_pair-returns-then-goes_on : goal.count_pair-returns-then-goes_on
count_pair-returns-then-goes_on t c = search pair_places

pub count_pair-returns : goal.count_pair-returns
count_pair-returns t c = search pair_block

pub count_places-loop-c-init : goal.count_places-loop-c-init
count_places-loop-c-init t c = (search rules, search places_none)

pub count_places-overflow_add-cells : goal.count_places-overflow_add-cells
count_places-overflow_add-cells t c = search (rules, cells_fit)

pub count_places-loop-c-preserved : goal.count_places-loop-c-preserved
count_places-loop-c-preserved t c = (search cells_few, search places_step)
