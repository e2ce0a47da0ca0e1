use Rattle.metres.proofs.Order.{finite_no_nan}
use Rattle.metres.proofs.point_of.Goals as goal

pub float_from_bits-result : goal.float_from_bits-result
float_from_bits-result c = finite_no_nan _ c.requires.0

pub float_from_bits-result-2 : goal.float_from_bits-result-2
float_from_bits-result-2 c = finite_no_nan _ c.requires.1

pub float_from_bits-result-3 : goal.float_from_bits-result-3
float_from_bits-result-3 c = finite_no_nan _ c.requires.2
