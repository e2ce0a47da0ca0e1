use Rattle.std.proofs.Common.{Ok}
use mathlib.Core.Path.{ap}
use Rattle.readings.proofs.Law.{act_pause, act_cells, rising}
use Rattle.readings.proofs.act.Goals as goal

pub returns-in-None : goal.returns-in-None
returns-in-None c fair = act_pause _ _ _ _ (ap Ok c.in-None.is) _ c.hold_root.ensures

pub overflow_sub-cells : goal.overflow_sub-cells
overflow_sub-cells c = rising _ c.requires _ (ap Ok c.in-Some.is)

pub returns-in-Some : goal.returns-in-Some
returns-in-Some c fair = act_cells _ _ _ _ _ (ap Ok c.in-Some.is) _ c.set_bar.ensures fair
