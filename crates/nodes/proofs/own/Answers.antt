use Rattle.std.proofs.Common.{rules}
use Rattle.nodes.proofs.Answers.{own_read, outside}
use Rattle.nodes.proofs.own.Goals.{else-s-lt-ROWS-via-then-s-lt-ROWS+else-s-facts, else-s-lt-ROWS-via-else-s-lt-ROWS}
use Rattle.nodes.proofs.own.Goals as goal

pub returns-then-s-facts : goal.returns-then-s-facts
returns-then-s-facts c = search (own_read, rules)

pub returns : goal.returns
returns c =
    elim c.else-s-lt-ROWS.branch [
      | else-s-lt-ROWS-via-then-s-lt-ROWS+else-s-facts w ↦ search (outside, rules)
      | else-s-lt-ROWS-via-else-s-lt-ROWS w ↦ search (outside, rules)
    ]
