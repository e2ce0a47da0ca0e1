use Rattle.std.proofs.Common.{◌∙◌}
use Rattle.metres.specs.Record.{struct_of}
use Rattle.metres.proofs.ReadingFieldsFromReading.from.Goals as goal

pub returns-in-Point : goal.returns-in-Point
unfolding struct_of
returns-in-Point c = rw c.in-Point.is

pub returns-in-Bar : goal.returns-in-Bar
unfolding struct_of
returns-in-Bar c = rw c.in-Bar.is

pub returns-in-Pause : goal.returns-in-Pause
unfolding struct_of
returns-in-Pause c = c.no_reading.ensures ∙ rw c.in-Pause.is
