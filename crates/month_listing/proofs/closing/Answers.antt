use Rattle.std.proofs.Common.{ap}
use Rattle.lines.proofs.Pieces.{wrote_as, wrote_number}
use Rattle.month_listing.specs.Months.{numbered}
use Rattle.month_listing.proofs.Lines.{closing_is}
use Rattle.month_listing.proofs.closing.Goals as goal

pub returns : goal.returns
returns c =
    closing_is _ _ _ _ (wrote_number c.put_refusal-a.ensures) (wrote_number c.put_numbered.ensures) (wrote_number c.put_numbered-2.ensures)
    (wrote_as (wrote_number c.put_numbered-3.ensures) (ap (numbered "live ") c.live.ensures))
