use Rattle.std.proofs.Common.{arith}
use Rattle.lines.proofs.Pieces.{wrote_number}
use Rattle.month_listing.proofs.Lines.{refused_none, refused_is}
use Rattle.month_listing.proofs.put_refused.Goals as goal

pub returns-then-no-eq0 : goal.returns-then-no-eq0
returns-then-no-eq0 c = refused_none _ _ _ _ (omega arith)

pub returns : goal.returns
returns c =
    refused_is _ _ _ c.if-no-eq0.false (wrote_number c.put_side-a.ensures) c.put_side-a.ensures.2 (wrote_number c.put_number-b.ensures) c.put_number-b.ensures.2
    (wrote_number c.put_number-c.ensures) c.put_number-c.ensures.2
