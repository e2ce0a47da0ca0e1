use Rattle.std.proofs.Common.{rules}
use Rattle.nodes_write.proofs.Rows.{facts_write, facts_short, facts_large}
use Rattle.nodes_write.proofs.put_facts.Goals.{else-s-lt-ROWS-via-then-s-lt-ROWS+else-s-n, else-s-lt-ROWS-via-else-s-lt-ROWS}
use Rattle.nodes_write.proofs.put_facts.Goals as goal

pub returns-then-s-n : goal.returns-then-s-n
returns-then-s-n c = search (facts_write, rules)

pub returns-else-s-lt-ROWS : goal.returns-else-s-lt-ROWS
returns-else-s-lt-ROWS c =
    elim c.else-s-lt-ROWS.branch [
      | else-s-lt-ROWS-via-then-s-lt-ROWS+else-s-n w ↦ search (facts_short, rules)
      | else-s-lt-ROWS-via-else-s-lt-ROWS w ↦ search (facts_large, rules)
    ]
