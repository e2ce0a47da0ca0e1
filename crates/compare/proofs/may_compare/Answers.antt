use Rattle.compare.specs.Models.{first_no}
use Rattle.compare.proofs.Calls.{climb, roots_facts}
use Rattle.compare.proofs.may_compare.Goals as goal
use Rattle.compare.proofs.may_compare.Goals.{then-not-fit-via-then-not-fit, then-not-fit-via-else-not-fit+then-l-c, then-not-fit-via-else-not-fit+else-l-c+then-r-c}

ruleset mine = (climb, roots_facts)

pub returns-then-not-fit : goal.returns-then-not-fit
unfolding first_no
returns-then-not-fit c =
    elim c.then-not-fit.branch [
      | then-not-fit-via-then-not-fit w ↦ search mine depth 16
      | then-not-fit-via-else-not-fit+then-l-c w ↦ search mine depth 16
      | then-not-fit-via-else-not-fit+else-l-c+then-r-c w ↦ search mine depth 16
    ]

pub returns-then-depth-gt-DEEPEST : goal.returns-then-depth-gt-DEEPEST
unfolding first_no
returns-then-depth-gt-DEEPEST c = search mine depth 16

pub returns : goal.returns
unfolding first_no
returns c = search mine depth 16
