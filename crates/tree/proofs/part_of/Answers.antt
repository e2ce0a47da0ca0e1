use Rattle.nodes.specs.Words.{slot}
use Rattle.tree.proofs.Ends.{part_end, part_kid}
use Rattle.tree.proofs.part_of.Goals as goal

pub returns-then-is_end : goal.returns-then-is_end
returns-then-is_end c = search part_end

pub returns : goal.returns
unfolding slot
returns c = part_kid _ _ _ _ c.is_end.ensures _ _ c.if-is_end.false c.index.ensures c.kid.ensures
