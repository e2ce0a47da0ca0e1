use Rattle.find_hash.proofs.Hashes.{leaf_code}
use Rattle.find_hash.proofs.leaf_hash.Goals as goal

pub returns : goal.returns
returns c = rw c.from.ensures (leaf_code c.args.v)
