use Rattle.std.proofs.Common.{rules}
use Rattle.basics.proofs.Puts.{puts_end, length_end}
use Rattle.lines.proofs.put_number.Goals as goal

pub returns : goal.returns
returns c = (search (rules, puts_end), search (rules, length_end), search rules)
