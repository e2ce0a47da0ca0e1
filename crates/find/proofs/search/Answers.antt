use Rattle.std.proofs.Common.{rules, ◌∙◌, sym}
use Rattle.find.proofs.Steps.{kids_start}
use Rattle.find.proofs.search.Goals as goal

pub returns : goal.returns
returns c = (c.probe.ensures.cell _ (λ x b q. search rules) ∙ sym (kids_start _ _ _ _ _ _ c.home_in.ensures), c.probe.ensures.slot)
