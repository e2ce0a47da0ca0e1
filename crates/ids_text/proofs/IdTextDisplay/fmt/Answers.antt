use Rattle.std.proofs.Common.{◌∙◌, subst, List, ℕ}
use Rattle.std.specs.Fmt.{HasWritten}
use Rattle.ids_text.proofs.Showing.{shown_text, shown_none}
use Rattle.ids_text.proofs.IdTextDisplay.fmt.Goals as goal

pub returns-in-Ok-clause-writes : goal.returns-in-Ok-clause-writes
returns-in-Ok-clause-writes g c = λ plain ok.
    subst (λ (s : List ℕ). HasWritten {W = g.row.W.Denot} g.W.Write.write_str_gives c.args.f.now s c.write_str.new.self)
    (c.in-Ok.ensures.cases.0 ∙ shown_text c.args.self.now _ c.as_bytes.ensures c.in-Ok.ensures.cases.1) (c.write_str.ensures.writes plain ok)

pub returns-in-Err-clause-writes : goal.returns-in-Err-clause-writes
returns-in-Err-clause-writes g c = λ plain ok.
    subst (λ (s : List ℕ). HasWritten {W = g.row.W.Denot} g.W.Write.write_str_gives c.args.f.now s c.write_str-in-Err.new.self)
    (shown_none c.args.self.now _ c.as_bytes.ensures c.in-Err.ensures.cases.0) (c.write_str-in-Err.ensures.writes plain ok)
