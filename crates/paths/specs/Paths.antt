-- Paths and child numbers, as plain bit interleaving.
use Rattle.std.specs.Prelude.{ℕ, zero, suc, ◌+◌, ◌-◌, ◌*◌, ◌%◌, ◌^◌, Bool, false, ℤ, pos, negsuc, Result}
use Rattle.std.specs.declared.result.Result.TheVariants.{Ok, Err}
use lib.Dec.{leb, ltb}
use Rattle.basics.specs.Limits.{deepest}
use Rattle.basics.specs.Pick.{pick}
use Rattle.basics.specs.Bits.{bit}
use Rattle.basics.specs.Refusals.{number}
use Rattle.basics.specs.declared.Refusal.{Refusal}
use Rattle.paths.specs.declared.IVec3.{IVec3}
use Rattle.paths.specs.declared.Cell.{Cell}

-- ## The path of a cell

-- The low 10 bits of a coordinate. A negative one is -1 - n: its bits are those of n, each turned over.
unfoldable pub low10 : ℤ → ℕ
low10 (pos n) = n % 2 ^ 10
low10 (negsuc n) = 2 ^ 10 - 1 - n % 2 ^ 10

-- Bit n of x stands at 3n, of y at 3n+1, of z at 3n+2, for every n below k.
unfoldable pub interleave : ℕ → ℕ → ℕ → ℕ → ℕ
interleave zero x y z = 0
interleave (suc n) x y z =
    interleave n x y z + bit n x * 2 ^ (3 * n) + bit n y * 2 ^ (3 * n + 1) + bit n z * 2 ^ (3 * n + 2)

unfoldable pub path_of : IVec3 → ℕ
path_of p = interleave 10 (low10 p.x) (low10 p.y) (low10 p.z)

-- ## The inverse: codes below 2^30, refusal 3

-- The number whose bit n is bit 3n + axis of the code, for every n below k. The axes: x 0, y 1, z 2.
unfoldable pub gather : ℕ → ℕ → ℕ → ℕ
gather zero axis code = 0
gather (suc n) axis code = gather n axis code + bit (3 * n + axis) code * 2 ^ n

abbrev pub place : ℕ → ℕ → ℕ → IVec3
place x y z = record { x = pos x; y = pos y; z = pos z }

-- The cell of a path and 0, or 0, 0, 0 and the number of the refusal.
pub record Decoded : Type 0 where
  pub no : ℕ
  pub position : IVec3

-- what the code answers, so written
abbrev pub decoded : Result IVec3 Refusal → Decoded
decoded (Ok p) = record { no = 0; position = p }
decoded (Err refusal) = record { no = number refusal; position = place 0 0 0 }

unfoldable pub decoded_of : ℕ → Decoded
decoded_of code =
    pick (ltb code (2 ^ 30))
    (record { no = 0; position = place (gather 10 0 code) (gather 10 1 code) (gather 10 2 code) })
    (record { no = 3; position = place 0 0 0 })

-- ## The child number at level k of depth d: refusals 2 and 3

-- A coordinate is neither below 0 nor at least 2^d.
unfoldable pub inside : ℕ → ℤ → Bool
inside d (pos n) = ltb n (2 ^ d)
inside d (negsuc n) = false

-- Of three numbers, bit b of x, plus twice that of y, plus four times that of z.
unfoldable pub octant : ℕ → ℕ → ℕ → ℕ → ℕ
octant b x y z = bit b x + 2 * bit b y + 4 * bit b z

-- A coordinate that is inside, as a number.
unfoldable pub whole : ℤ → ℕ
whole (pos n) = n
whole (negsuc n) = 0

-- A coordinate as a number; one below 0 becomes 2^32 - 1, which no cube has.
unfoldable pub coord_of : ℤ → ℕ
coord_of (pos n) = n
coord_of (negsuc n) = 2 ^ 32 - 1

-- The cell (x, y, z) of the cube of depth d, and the one at a position.
abbrev pub cell_from : ℕ → ℕ → ℕ → ℕ → Cell
cell_from d x y z = record { x = x; y = y; z = z; depth = d }

abbrev pub to_cell : IVec3 → ℕ → Cell
to_cell p d = cell_from d (coord_of p.x) (coord_of p.y) (coord_of p.z)

-- the lowest number that applies
unfoldable pub child_no : IVec3 → ℕ → ℕ → ℕ
child_no p k d =
    pick (leb d deepest)
    (pick (ltb k d) (pick (inside d p.x) (pick (inside d p.y) (pick (inside d p.z) 0 3) 3) 3) 2)
    2

-- Child at level k of depth d: bit d-1-k of x, plus twice that of y, plus four times that of z.
unfoldable pub child_at : IVec3 → ℕ → ℕ → ℕ
child_at p k d = octant (d - 1 - k) (whole p.x) (whole p.y) (whole p.z)

-- The number of a child and 0, or 0 and the number of the refusal.
pub record ChildIndex : Type 0 where
  pub no : ℕ
  pub index : ℕ

-- what the code answers, so written
abbrev pub child_index : Result ℕ Refusal → ChildIndex
child_index (Ok i) = record { no = 0; index = i }
child_index (Err refusal) = record { no = number refusal; index = 0 }

unfoldable pub child_index_of : IVec3 → ℕ → ℕ → ChildIndex
child_index_of p k d =
    pick (lib.Dec.eqb (child_no p k d) 0) (record { no = 0; index = child_at p k d }) (record { no = child_no p k d; index = 0 })

-- Of three things, that of an axis: x 0, y 1, z 2.
abbrev pub axis : {A : Type 0} → ℕ → A → A → A → A
axis zero x y z = x
axis (suc zero) x y z = y
axis (suc (suc a)) x y z = z
