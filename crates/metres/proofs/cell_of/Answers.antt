use Rattle.std.proofs.Common.{rules, sym}
use Rattle.metres.proofs.Product.{nan_outside, product_number, product_placed}
use Rattle.metres.proofs.cell_of.Goals as goal

pub returns-then-is_nan : goal.returns-then-is_nan
returns-then-is_nan c = nan_outside _ _ _ c.requires.d_bound (sym c.if-is_nan.ensures.value)

pub float_to_bits-x : goal.float_to_bits-x
float_to_bits-x c = product_number c.args.x c.args.k c.args.d _ c.power.ensures (sym c.if-is_nan.ensures.value)

pub returns : goal.returns
returns c = product_placed _ _ _ _ c.power.ensures (sym c.if-is_nan.ensures.value) _ c.requires.d_bound (search rules) c.whole.ensures
