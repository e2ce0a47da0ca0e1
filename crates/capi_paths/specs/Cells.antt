-- A cell from its three coordinates.
use Rattle.std.specs.Prelude.{ℤ}
use Rattle.paths.specs.declared.IVec3.{IVec3}

abbrev pub position_at : ℤ → ℤ → ℤ → IVec3
position_at x y z = record { x = x; y = y; z = z }
