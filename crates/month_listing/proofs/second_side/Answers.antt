use Rattle.std.proofs.Common.{refl}
use Rattle.month_listing.specs.Months.{second_side}
use Rattle.month_listing.proofs.second_side.Goals as goal

pub returns : goal.returns
unfolding second_side
returns c = λ k f e. refl
