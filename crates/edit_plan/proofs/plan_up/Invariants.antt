use Rattle.std.proofs.Common.{◌≤◌}
use Rattle.basics.specs.Limits.{deepest}
use Rattle.arena.specs.Seen.{seen_in}
use Rattle.edit_plan.specs.Models.{cell_plan}
use Rattle.edit_plan.proofs.Plans.{Climbs}
use Rattle.edit_plan.proofs.plan_up.Given as goal

-- what is left of the way up gives what the whole gives
abbrev pub invariant-loop-l : goal.invariant-loop-l
invariant-loop-l l =
    let t = seen_in l.seen in (l.depth ≤ deepest) × (l.below.new ≤ 1) × Climbs t l.ids l.depth l.path (cell_plan t l.v) l.l l.digits l.below
