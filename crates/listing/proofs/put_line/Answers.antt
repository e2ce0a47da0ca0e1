use Rattle.lines.proofs.Pieces.{wrote_number}
use Rattle.listing.proofs.Puts.{line_is}
use Rattle.listing.proofs.put_line.Goals as goal

pub returns : goal.returns
returns c =
    let number = c.put_number-a.ensures in
    let refusal = c.put_number-b.ensures in
    let root = c.put_id-c.ensures in
    line_is _ _ _ (wrote_number number) number.2 (wrote_number refusal) refusal.2 (wrote_number root) root.2
