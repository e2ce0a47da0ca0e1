use Rattle.std.proofs.Common.{arith}
use Rattle.lines.proofs.Pieces.{wrote_text, wrote_number}
use Rattle.month_listing.proofs.Lines.{short_none, short_is}
use Rattle.month_listing.proofs.side_short.Goals as goal

pub returns-then-cut-eq0 : goal.returns-then-cut-eq0
returns-then-cut-eq0 c = short_none _ _ _ (omega arith)

pub returns : goal.returns
returns c = short_is _ _ c.if-cut-eq0.false (wrote_number c.put_side-a.ensures) (wrote_text c.put_text-b.ensures) (wrote_number c.put_number-c.ensures)
