-- The records of a side: they are those of `edits`, with other lines.
use mathlib.Core.Path.{◌≡◌, refl, ap}
use mathlib.Core.List.{List}
use Prim.Native.Nat.{ℕ, zero, suc}
use Rattle.listing.specs.Listing.{State, state_at, step_to, answer_to, record_in}
use Rattle.listing.specs.Holding.{Enters}
use Rattle.edit_listing.specs.Listing.{record_width, edits}
use Rattle.edit_listing.proofs.Records.{edits_enter}
use Rattle.month_listing.specs.declared.Side.{Side}
use Rattle.month_listing.specs.Months.{sided}
use Rattle.month_listing.proofs.Lines.{refused_short}

pub sided_enter : (side : Side) → Enters (sided side)
sided_enter side = record { unfit = edits_enter.unfit; grants = edits_enter.grants; short = λ number refusal root. refused_short side number refusal }

-- and lead to the same states
pub sided_state : (side : Side) (s : State) (b : List ℕ) (n : ℕ) → state_at (sided side) s b n ≡ state_at edits s b n
unfolding state_at answer_to
sided_state side s b zero = refl
sided_state side s b (suc n) = ap (λ (t : State). step_to t.root t.count (answer_to edits t (record_in record_width b n))) (sided_state side s b n)
