use Rattle.std.proofs.Common.{rules}
use native.Mathlib.Omega.{arith}
use Rattle.metres.proofs.Laws.{whole_negative, whole_minus_zero, whole_low, whole_far, whole_fits, whole_near}
use Rattle.metres.proofs.whole.Goals as goal

pub returns-then-bits-gt9223372036854775808 : goal.returns-then-bits-gt9223372036854775808
returns-then-bits-gt9223372036854775808 c = whole_negative _ _ (omega arith) (omega arith)

pub returns-then-bits-ge9223372036854775808 : goal.returns-then-bits-ge9223372036854775808
returns-then-bits-ge9223372036854775808 c = search (rules, whole_minus_zero)

pub returns-then-e-lt1023 : goal.returns-then-e-lt1023
returns-then-e-lt1023 c = search (rules, whole_low)

pub returns-then-d-e : goal.returns-then-d-e
returns-then-d-e c = whole_far _ _ (omega arith) (omega arith)

pub overflow_cast-result : goal.overflow_cast-result
overflow_cast-result c = search (rules, whole_fits)

pub returns : goal.returns
returns c = search (rules, whole_near)
