use Rattle.std.proofs.Common.{arith}
use Rattle.lines.proofs.Pieces.{wrote_number}
use Rattle.month_listing.proofs.Lines.{refusal_none, refusal_is}
use Rattle.month_listing.proofs.put_refusal.Goals as goal

pub returns-then-no-eq0 : goal.returns-then-no-eq0
returns-then-no-eq0 c = refusal_none _ _ (omega arith)

pub returns : goal.returns
returns c = refusal_is _ c.if-no-eq0.false (wrote_number c.put_numbered.ensures) c.put_numbered.ensures.2
