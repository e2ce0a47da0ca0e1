-- `sum` has the first n bits of the axis
use Rattle.std.proofs.Common.{◌≡◌}
use Rattle.paths.specs.Paths.{gather}
use Rattle.paths.proofs.gather.Given as goal

abbrev pub invariant-loop-n : goal.invariant-loop-n
invariant-loop-n l = l.sum ≡ gather l.n l.axis l.code
