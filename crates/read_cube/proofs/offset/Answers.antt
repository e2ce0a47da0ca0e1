use borrow.Author.Rules.{rules}
use Rattle.read_cube.proofs.Fill.{offset_sum}
use Rattle.read_cube.proofs.offset.Goals as goal

pub returns : goal.returns
returns c = (search offset_sum, search rules)
