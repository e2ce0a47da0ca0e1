use Rattle.std.proofs.Common.{arith}
use Rattle.lines.proofs.Pieces.{wrote_text, wrote_number}
use Rattle.listing.proofs.Puts.{short_none, short_is}
use Rattle.listing.proofs.put_short.Goals as goal

pub returns-then-cut-eq0 : goal.returns-then-cut-eq0
returns-then-cut-eq0 c = short_none _ _ (omega arith)

pub returns : goal.returns
returns c = short_is _ c.if-cut-eq0.false (wrote_text c.put_text-word.ensures) (wrote_number c.put_number-number.ensures) c.put_number-number.ensures.2
