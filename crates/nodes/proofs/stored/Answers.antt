use Rattle.std.proofs.Common.{rules}
use Rattle.nodes.proofs.Answers.{stored_read, stored_short, stored_large}
use Rattle.nodes.proofs.stored.Goals.{else-s-lt-ROWS-via-then-s-lt-ROWS+else-s-facts, else-s-lt-ROWS-via-else-s-lt-ROWS}
use Rattle.nodes.proofs.stored.Goals as goal

pub returns-then-s-facts : goal.returns-then-s-facts
returns-then-s-facts c = search (stored_read, rules)

pub returns : goal.returns
returns c =
    elim c.else-s-lt-ROWS.branch [
      | else-s-lt-ROWS-via-then-s-lt-ROWS+else-s-facts w ↦ search (stored_short, rules)
      | else-s-lt-ROWS-via-else-s-lt-ROWS w ↦ search (stored_large, rules)
    ]
