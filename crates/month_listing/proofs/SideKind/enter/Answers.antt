use Rattle.std.proofs.Common.{arith}
use Rattle.listing.proofs.Steps.{entered_is}
use Rattle.month_listing.proofs.Records.{sided_enter}
use Rattle.month_listing.proofs.SideKind.enter.Goals as goal

pub returns : goal.returns
returns c = entered_is (sided_enter c.args.self.now) _ c.args.root.0 c.args.bytes.now (λ i. omega (arith, c.type_inv.bytes i)) _ c.edit_record.ensures
