use Rattle.std.proofs.Common.{◌∙◌}
use Rattle.metres.proofs.Parsing.{wrong_length_lem, whole_record}
use Rattle.metres.proofs.parse.Goals as goal

pub returns-then-bytes-ne-RECORD_BYTES : goal.returns-then-bytes-ne-RECORD_BYTES
returns-then-bytes-ne-RECORD_BYTES c = wrong_length_lem _ c.if-bytes-ne-RECORD_BYTES.true

pub returns : goal.returns
returns c =
    c.judge.ensures
    ∙ rw (c.read32.ensures, c.read16.ensures, c.read16-2.ensures, c.read64.ensures, c.read64-2.ensures, c.read64-3.ensures, c.read64-4.ensures)
    (whole_record _ c.if-bytes-ne-RECORD_BYTES.false)
