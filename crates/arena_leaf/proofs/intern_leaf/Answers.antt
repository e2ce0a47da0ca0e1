use Rattle.arena.proofs.Leaves.{leaf_law}
use Rattle.arena_leaf.proofs.intern_leaf.Goals as goal

pub returns : goal.returns
returns c = search leaf_law
