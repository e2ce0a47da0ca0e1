use Rattle.metres.proofs.Product.{power_is, power_no_nan}
use Rattle.metres.proofs.power.Goals as goal

pub float_from_bits-result : goal.float_from_bits-result
float_from_bits-result c = power_no_nan _ c.requires

-- the seven patterns are those of 1 to 64
pub returns : goal.returns
returns c = power_is _ c.requires
