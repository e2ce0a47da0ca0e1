use borrow.Author.Rules.{rules}
use Rattle.read_cube.proofs.Fill.{plane_none, plane_step, plane_done}
use Rattle.read_cube.proofs.fill_plane.Goals as goal

pub loop-z-init : goal.loop-z-init
loop-z-init c = (search plane_none, search rules)

pub loop-z-preserved : goal.loop-z-preserved
loop-z-preserved c = (search plane_step, search rules)

pub returns : goal.returns
returns c = search plane_done
