use Rattle.std.proofs.Common.{rules, refl}
use Rattle.arena.proofs.Eight.{each_on, each_end}
use Rattle.arena.proofs.bump_all.Goals as goal

pub loop-id-init : goal.loop-id-init
loop-id-init c = (search rules, refl)

pub loop-id-preserved : goal.loop-id-preserved
loop-id-preserved c = (c.loop-id.invariant.0, search each_on)

pub returns : goal.returns
returns c = search each_end
