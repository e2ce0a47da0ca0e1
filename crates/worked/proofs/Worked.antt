-- Every line of document 01's table is what the definitions give.
use Rattle.basics.specs.Sums.{sum_to}
use Rattle.ids.specs.Ids.{new_leaf, new_branch, packing_no, pack}
use Rattle.paths.specs.Paths.{path_of, interleave, low10}
use Rattle.worked.specs.Worked.{AllSay, table}

pub worked : AllSay table
unfolding path_of interleave low10 new_leaf new_branch packing_no pack sum_to
worked = search tt depth 30
