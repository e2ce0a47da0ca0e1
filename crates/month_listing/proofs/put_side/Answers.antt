use Rattle.std.proofs.Common.{◌≡◌, rules}
use Rattle.month_listing.specs.declared.Side.TheVariants.{Left, Right}
use Rattle.month_listing.specs.Months.{side_word}
use Rattle.lines.proofs.Pieces.{wrote_text}
use Rattle.month_listing.proofs.Lines.{word_is}
use Rattle.month_listing.proofs.put_side.Goals as goal

pub returns-in-Left : goal.returns-in-Left
unfolding side_word
returns-in-Left c = let left : c.args.side ≡ Left = search rules in word_is left (wrote_text c.put_text.ensures)

pub returns-in-Right : goal.returns-in-Right
unfolding side_word
returns-in-Right c = let right : c.args.side ≡ Right = search rules in word_is right (wrote_text c.put_text-in-Right.ensures)
