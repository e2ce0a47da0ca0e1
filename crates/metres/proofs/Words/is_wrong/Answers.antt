use Rattle.std.proofs.Common.{rules}
use Rattle.metres.specs.Record.{wrong}
use Rattle.metres.proofs.Words.is_wrong.Goals as goal

pub returns-after-self-eq0-4 : goal.returns-after-self-eq0-4
unfolding wrong
returns-after-self-eq0-4 c = rw c.in-Pause.is (search rules)

pub returns-in-Shot : goal.returns-in-Shot
unfolding wrong
returns-in-Shot c = rw c.in-Shot.is

pub returns-in-Bar : goal.returns-in-Bar
unfolding wrong
returns-in-Bar c = rw c.in-Bar.is c.below.ensures
