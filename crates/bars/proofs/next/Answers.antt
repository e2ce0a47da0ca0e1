use native.Mathlib.Omega.{arith}
use Rattle.bars.proofs.Steps.{next_law}
use Rattle.bars.proofs.next.Goals as goal

pub returns : goal.returns
returns c =
    next_law c.args.a _ _ _ _ _ _ _ (omega (arith, c.ranges.value.fits)) c.set_voxel-answer.result _ _ _ c.set_voxel-answer.ensures
    c.release-released.result _ _ _ c.release-released.ensures
