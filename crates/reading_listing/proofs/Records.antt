-- The records of readings: each grants its answer and nothing else.
use mathlib.Core.Path.{sym}
use Prim.Native.Nat.{ℕ}
use native.Mathlib.Omega.{arith}
use Rattle.readings.proofs.Does.{enter_does}
use Rattle.readings.proofs.Law.{enter_unsized}
use Rattle.calls.proofs.Follows.{spared_kept}
use Rattle.listing.specs.Holding.{Enters}
use Rattle.listing.proofs.Puts.{line_short}
use Rattle.reading_listing.specs.Listing.{survey_depth, readings}

pub readings_enter : (k : ℕ) → Enters (readings k)
readings_enter k = record {
  unfit = λ t root r f. sym (enter_unsized t root survey_depth k r f);
  grants = λ t root r b w. let d = enter_does root survey_depth k r b w in record { well = d.well; balance = d.balance; keeps = λ a. spared_kept (omega arith) w d a };
  short = line_short;
}
