use Rattle.std.proofs.Common.{arith}
use Rattle.listing.proofs.Steps.{entered_is}
use Rattle.edit_listing.proofs.Records.{edits_enter}
use Rattle.edit_listing.proofs.EditsKind.enter.Goals as goal

pub returns : goal.returns
returns c = entered_is edits_enter _ c.args.root.0 c.args.bytes.now (λ i. omega (arith, c.type_inv.bytes i)) _ c.edit_record.ensures
