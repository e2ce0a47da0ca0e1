use Rattle.std.proofs.Common.{length, ap, ◌∙◌, arith}
use Rattle.lines.proofs.Pieces.{wrote_text}
use Rattle.listing.proofs.Puts.{id_is}
use Rattle.listing.proofs.put_id.Goals as goal

-- the text has at most 41 bytes
pub overflow_add-at : goal.overflow_add-at
overflow_add-at c = omega (arith, c.put_text-a.ensures.1 ∙ ap length c.text_of-text.ensures.2, c.text_of-text.ensures.0, c.text_of-text.ensures.1)

pub overflow_add-result : goal.overflow_add-result
overflow_add-result c =
    omega (arith, c.put_text-a.ensures.1 ∙ ap length c.text_of-text.ensures.2, c.text_of-text.ensures.0, c.text_of-text.ensures.1, c.put_text-b.ensures.1)

pub returns : goal.returns
returns c =
    let text = c.text_of-text in
    id_is text.ensures.2 (omega (arith, text.ensures.0, text.ensures.1)) (wrote_text c.put_text-a.ensures) (wrote_text c.put_text-b.ensures)
