use Rattle.metres.specs.Record.{said}
use Rattle.metres.proofs.Parsing.{finite_second}
use Rattle.metres.proofs.Order.{finite_no_nan}
use Rattle.metres.proofs.Words.say.Goals as goal

pub float_from_bits-result : goal.float_from_bits-result
float_from_bits-result c = finite_no_nan _ (finite_second c.args.self.now.x c.args.self.now.y c.args.self.now.z c.args.self.now.second c.requires)

pub returns-in-Pause : goal.returns-in-Pause
unfolding said
returns-in-Pause c = rw c.in-Pause.is

pub returns-in-Shot : goal.returns-in-Shot
unfolding said
returns-in-Shot c = rw (c.in-Shot.is, c.point_of-point.ensures)

pub returns-in-Bar : goal.returns-in-Bar
unfolding said
returns-in-Bar c = rw (c.in-Bar.is, c.point_of-point.ensures)
