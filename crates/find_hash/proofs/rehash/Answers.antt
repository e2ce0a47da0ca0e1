use Rattle.find_hash.proofs.Hashes.{change_code}
use Rattle.find_hash.proofs.rehash.Goals as goal

pub returns : goal.returns
returns c = rw c.from.ensures (change_code _ _ _ _ _ _ c.term.ensures c.term-2.ensures)
