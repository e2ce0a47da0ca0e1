use Rattle.compare.specs.Models.{roots_by}
use Rattle.compare.proofs.Calls.{climb, height_low, height_high}
use Rattle.compare.proofs.may_enter.Goals as goal
use Rattle.compare.proofs.may_enter.Goals.{then-not-is_live_or_empty-via-then-not-is_live_or_empty, then-not-is_live_or_empty-via-else-not-is_live_or_empty+then-not-is_live_or_empty-2, then-depth-height_at-via-then-depth-height_at, then-depth-height_at-via-else-depth-height_at+then-depth-height_at-2}

ruleset mine = (climb, height_low, height_high)

pub returns-then-not-is_live_or_empty : goal.returns-then-not-is_live_or_empty
unfolding roots_by
returns-then-not-is_live_or_empty c =
    elim c.then-not-is_live_or_empty.branch [
      | then-not-is_live_or_empty-via-then-not-is_live_or_empty w ↦ search mine depth 16
      | then-not-is_live_or_empty-via-else-not-is_live_or_empty+then-not-is_live_or_empty-2 w ↦ search mine depth 16
    ]

pub returns-then-depth-height_at : goal.returns-then-depth-height_at
unfolding roots_by
returns-then-depth-height_at c =
    elim c.then-depth-height_at.branch [
      | then-depth-height_at-via-then-depth-height_at w ↦ search mine depth 16
      | then-depth-height_at-via-else-depth-height_at+then-depth-height_at-2 w ↦ search mine depth 16
    ]

pub returns : goal.returns
unfolding roots_by
returns c = search mine depth 16
