use Rattle.std.proofs.Common.{ℕ, [], ◌∷◌, ◌++◌, ap}
use Rattle.lines.specs.Lines.{decimal, newline}
use Rattle.lines.proofs.Pieces.{wrote_as, wrote_text, wrote_number}
use Rattle.listing.proofs.Puts.{ending_is}
use Rattle.listing.proofs.ending.Goals as goal

pub returns : goal.returns
returns c =
    ending_is _ _ (wrote_number c.put_short-short.ensures) (wrote_text c.put_text-word.ensures)
    (wrote_as (wrote_number c.put_number-live.ensures) (ap (λ (n : ℕ). decimal n ++ (newline ∷ [])) c.live.ensures))
