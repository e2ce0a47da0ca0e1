use Rattle.lines.proofs.Pieces.{wrote_text, wrote_number}
use Rattle.month_listing.proofs.Lines.{numbered_is}
use Rattle.month_listing.proofs.put_numbered.Goals as goal

pub returns : goal.returns
returns c = numbered_is (wrote_text c.put_text-a.ensures) (wrote_number c.put_number-b.ensures) c.put_number-b.ensures.2
