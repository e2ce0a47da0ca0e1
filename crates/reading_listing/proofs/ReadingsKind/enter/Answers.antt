use Rattle.std.proofs.Common.{arith}
use Rattle.listing.proofs.Steps.{entered_is}
use Rattle.reading_listing.proofs.Records.{readings_enter}
use Rattle.reading_listing.proofs.ReadingsKind.enter.Goals as goal

pub returns : goal.returns
returns c = entered_is (readings_enter _) _ c.args.root.0 c.args.bytes.now (λ i. omega (arith, c.type_inv.bytes i)) _ c.enter_reading.ensures
