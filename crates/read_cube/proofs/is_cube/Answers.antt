use Rattle.read_cube.proofs.Calls.{cube_test}
use Rattle.read_cube.proofs.is_cube.Goals as goal

pub returns : goal.returns
returns c = cube_test c.args.d c.args.n c.requires
