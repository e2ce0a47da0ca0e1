use native.Mathlib.Omega.{arith}
use Rattle.read_cube.proofs.Calls.{side_shift, side_small}
use Rattle.read_cube.proofs.side_of.Goals as goal

pub returns : goal.returns
returns c = (side_shift _ c.requires, omega (arith, side_shift _ c.requires, side_small _ c.requires))
