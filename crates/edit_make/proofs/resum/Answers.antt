use native.Mathlib.Omega.{arith}
use Rattle.edit_make.specs.Models.{resum}
use Rattle.edit_make.proofs.resum.Goals as goal

pub returns : goal.returns
unfolding resum
returns c = omega (arith, c.ranges.x.fits)
