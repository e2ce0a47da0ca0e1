use Rattle.metres.proofs.Order.{below_lem}
use Rattle.metres.proofs.below.Goals as goal

pub returns : goal.returns
returns c = rw (c.f64_from_bits_with_nan.ensures, c.f64_from_bits_with_nan-2.ensures) (below_lem _ _)
