use Rattle.std.proofs.Common.{rules}
use Rattle.nodes_write.proofs.Rows.{hash_write, before_write, after_write, fact_short, fact_large, fact_past, fact_low}
use Rattle.nodes_write.proofs.put_fact.Goals.{then-f-lt-VALUE-via-then-f-lt-VALUE, then-f-lt-VALUE-via-else-f-lt-VALUE+then-f-gt-ENTRY, then-f-lt-VALUE-via-else-f-lt-VALUE+else-f-gt-ENTRY+then-s-ge-ROWS, then-f-lt-VALUE-via-else-f-lt-VALUE+else-f-gt-ENTRY+else-s-ge-ROWS+then-n-s}
use Rattle.nodes_write.proofs.put_fact.Goals as goal

pub returns-then-f-lt-VALUE : goal.returns-then-f-lt-VALUE
returns-then-f-lt-VALUE c =
    elim c.then-f-lt-VALUE.branch [
      | then-f-lt-VALUE-via-then-f-lt-VALUE w ↦ search (fact_low, rules)
      | then-f-lt-VALUE-via-else-f-lt-VALUE+then-f-gt-ENTRY w ↦ search (fact_past, rules)
      | then-f-lt-VALUE-via-else-f-lt-VALUE+else-f-gt-ENTRY+then-s-ge-ROWS w ↦ search (fact_large, rules)
      | then-f-lt-VALUE-via-else-f-lt-VALUE+else-f-gt-ENTRY+else-s-ge-ROWS+then-n-s w ↦ search (fact_short, rules)
    ]

pub returns-then-f-eq-HASH : goal.returns-then-f-eq-HASH
returns-then-f-eq-HASH c = search (hash_write, rules)

pub returns-then-f-lt-HASH : goal.returns-then-f-lt-HASH
returns-then-f-lt-HASH c = search (before_write, rules)

pub returns-else-f-lt-HASH : goal.returns-else-f-lt-HASH
returns-else-f-lt-HASH c = search (after_write, rules)
