-- Entered, and then the run goes on and the line is written.
use Rattle.listing.proofs.Steps.{lined_is, one_is}
use Rattle.listing.proofs.one.Goals as goal

pub returns : goal.returns
returns g c =
    let line = c.put-len.ensures in (
      line.2,
      one_is (g.K.Kind.records c.args.kind.now) c.args.run _ _ _ _ _ c.enter-made.result _ _ _ c.enter-made.ensures
          (record { run = c.step_to-step.result.run; len = c.put-len.result }) _ _ _ _ (λ fair. lined_is _ _ _ _ _ _ _ _ _ (c.step_to-step.ensures fair) line.0 line.1),
    )
