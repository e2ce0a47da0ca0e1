use Rattle.std.proofs.Common.{rules, arith}
use Rattle.ids_text.proofs.Texts.{digits_none, rest_none, digits_more, rest_more, digits_all}
use Rattle.ids_text.proofs.put_hex.Goals as goal

pub loop-place-init : goal.loop-place-init
loop-place-init c = (omega arith, omega arith, rest_none c.args.bytes c.args.at c.args.n c.args.v, digits_none c.args.bytes c.args.at c.args.n c.args.v)

pub loop-place-preserved : goal.loop-place-preserved
loop-place-preserved c = (search rules, search rules, search rest_more, search digits_more)

pub returns : goal.returns
returns c = search digits_all
