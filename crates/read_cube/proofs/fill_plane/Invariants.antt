-- invariant: the first z rows are filled
use mathlib.Core.Path.{◌≡◌}
use lib.ListN.{length}
use Rattle.read_cube.proofs.Fill.{plane_to}
use Rattle.read_cube.proofs.fill_plane.Given as goal

abbrev pub invariant-loop-z : goal.invariant-loop-z
invariant-loop-z l = (l.cube ≡ plane_to l.row l.at l.n l.v l.z l.initial.cube) × (length l.cube ≡ length l.initial.cube)
