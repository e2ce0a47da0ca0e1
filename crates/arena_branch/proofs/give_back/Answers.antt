use Rattle.std.proofs.Common.{refl, rules}
use Rattle.arena.proofs.Taking.{back_on, back_end}
use Rattle.arena_branch.proofs.give_back.Goals as goal

pub loop-i-preserved : goal.loop-i-preserved
loop-i-preserved c = back_on c.args.facts.now c.loop-i.facts c.args.ks c.args.n c.loop-i.i c.loop-i.invariant _ _ (search rules) refl (search rules)

pub returns : goal.returns
returns c = back_end c.args.facts.now c.loop-i.facts c.args.ks c.args.n c.loop-i.i c.loop-i.invariant (search rules)
