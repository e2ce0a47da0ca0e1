use Rattle.readings.proofs.Law.{pause_held, pause_refused}
use Rattle.readings.proofs.hold_root.Goals as goal

pub returns-then-held-eq0 : goal.returns-then-held-eq0
returns-then-held-eq0 c = pause_held _ _ _ _ c.hold-held.ensures c.if-held-eq0.true

pub returns-else-held-eq0 : goal.returns-else-held-eq0
returns-else-held-eq0 c = pause_refused _ _ _ _ c.hold-held.ensures c.if-held-eq0.false
