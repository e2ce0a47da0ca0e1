use Rattle.lines.proofs.Digits.{digits_none, digits_low, digits_high}
use Rattle.lines.proofs.+put_digits.Goals as goal

pub returns-then-left-eq0 : goal.returns-then-left-eq0
returns-then-left-eq0 t c = digits_none _ _ _ _ c.if-left-eq0.true

pub returns-then-n-lt10 : goal.returns-then-n-lt10
returns-then-n-lt10 t c = digits_low _ _ _ _ _ c.if-left-eq0.false c.if-n-lt10.true c.put.ensures

pub returns : goal.returns
returns t c = digits_high _ _ _ _ _ _ _ c.if-left-eq0.false c.if-n-lt10.false c.put_digits-front.ensures c.put-2.ensures
