use borrow.Author.Rules.{rules}
use Rattle.read_cube.proofs.Parts.{parts_none, parts_step, parts_done, cell_done, none_done, end_done, half_pow, cells_done, smalls_done, parts_fits}
use Rattle.read_cube.proofs.+fill_octant_fill_octants.Goals as goal

pub fill_octant-returns-then-left-eq0 : goal.fill_octant-returns-then-left-eq0
fill_octant-returns-then-left-eq0 t c = search cell_done

pub fill_octant-returns-then-id : goal.fill_octant-returns-then-id
fill_octant-returns-then-id t c = search none_done

pub fill_octant-returns-then-id-ge-LOWEST_LEAF : goal.fill_octant-returns-then-id-ge-LOWEST_LEAF
fill_octant-returns-then-id-ge-LOWEST_LEAF t c = search end_done

pub fill_octant-returns-then-left-eq1 : goal.fill_octant-returns-then-left-eq1
fill_octant-returns-then-left-eq1 t c = search cells_done

pub fill_octant-returns-then-left-eq2 : goal.fill_octant-returns-then-left-eq2
fill_octant-returns-then-left-eq2 t c = search smalls_done

pub fill_octant-fill_octants-requires : goal.fill_octant-fill_octants-requires
fill_octant-fill_octants-requires t c = (search rules, ((search half_pow, search rules, search rules, search rules), search parts_fits))

pub fill_octant-returns : goal.fill_octant-returns
fill_octant-returns t c = search parts_done

pub fill_octants-loop-c-init : goal.fill_octants-loop-c-init
fill_octants-loop-c-init t c = (search parts_none, search rules, search rules)

pub fill_octants-loop-c-preserved : goal.fill_octants-loop-c-preserved
fill_octants-loop-c-preserved t c = (search parts_step, search rules, search rules)
