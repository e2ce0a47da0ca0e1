use native.Mathlib.Omega.{arith}
use Rattle.arena.specs.Calls.{made_of}
use Rattle.bars.proofs.Steps.{bar_law}
use Rattle.bars.proofs.set_bar.Goals as goal

pub returns : goal.returns
returns c =
    bar_law c.args.arena _ _ _ _ _ _ _ _ _ _ (omega (arith, c.ranges.value.fits)) _ c.cell-position.ensures c.set_voxel-first.result _ _ _ c.set_voxel-first.ensures
    (made_of c.args.arena.capacity c.onward.result _ _ _) c.onward.ensures
