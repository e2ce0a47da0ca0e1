-- invariant: the first y planes are filled
use mathlib.Core.Path.{◌≡◌}
use lib.ListN.{length}
use Rattle.read_cube.proofs.Fill.{block_to}
use Rattle.read_cube.proofs.fill_block.Given as goal

abbrev pub invariant-loop-y : goal.invariant-loop-y
invariant-loop-y l = (l.cube ≡ block_to l.row l.plane l.at l.n l.n l.v l.y l.initial.cube) × (length l.cube ≡ length l.initial.cube)
