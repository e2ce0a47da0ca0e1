use Rattle.read_cube.proofs.Calls.{from_leaf, from_parts}
use Rattle.read_cube.proofs.fill_cube.Goals as goal

pub returns-then-id-ge-LOWEST_LEAF : goal.returns-then-id-ge-LOWEST_LEAF
returns-then-id-ge-LOWEST_LEAF c = search from_leaf

pub returns : goal.returns
returns c = search from_parts
