use Rattle.std.proofs.Common.{◌≡◌, take}
use Rattle.basics.specs.Puts.{puts_from}
use Rattle.lines.proofs.put_text.Given as goal

-- the first i bytes of the text are written
abbrev pub invariant-loop-i : goal.invariant-loop-i
invariant-loop-i l = l.out ≡ puts_from l.fn.out l.at (take l.i l.text)
