use Rattle.std.proofs.Common.{rules}
use Rattle.nodes_write.proofs.Rows.{kids_write, kids_short, kids_large}
use Rattle.nodes_write.proofs.put_children.Goals.{else-s-lt-ROWS-via-then-s-lt-ROWS+else-s-kids, else-s-lt-ROWS-via-else-s-lt-ROWS}
use Rattle.nodes_write.proofs.put_children.Goals as goal

pub returns-then-s-kids : goal.returns-then-s-kids
returns-then-s-kids c = search (kids_write, rules)

pub returns-else-s-lt-ROWS : goal.returns-else-s-lt-ROWS
returns-else-s-lt-ROWS c =
    elim c.else-s-lt-ROWS.branch [
      | else-s-lt-ROWS-via-then-s-lt-ROWS+else-s-kids w ↦ search (kids_short, rules)
      | else-s-lt-ROWS-via-else-s-lt-ROWS w ↦ search (kids_large, rules)
    ]
