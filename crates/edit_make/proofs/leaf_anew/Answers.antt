use Rattle.arena.specs.Tables.{state_of}
use Rattle.edit_make.proofs.Steps.{leaf_done}
use Rattle.edit_make.proofs.leaf_anew.Goals as goal

pub returns : goal.returns
returns c = leaf_done (state_of c.args.a) _ _ _ _ _ _ _ _ _ c.leaf_hash-k.ensures c.place_for-at.ensures (c.fresh_leaf.ensures c.args.kids.now)
