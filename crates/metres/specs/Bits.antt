-- An f64 by its 64 bits, and the cell that a coordinate lies in: plain arithmetic on the bits.
use Rattle.std.specs.Prelude.{Option, ℕ, zero, suc, ◌+◌, ◌*◌, ◌/◌, ◌%◌, ◌^◌, Bool, true, false, not, ◌&&◌, ◌||◌, leb, ltb, eqb}
use Rattle.std.specs.declared.option.Option.TheVariants.{Some, None}
use Rattle.basics.specs.Pick.{pick}

-- ## The number

-- the sign is bit 63, the exponent's field bits 52 to 62, the fraction's field bits 0 to 51
abbrev pub negative : ℕ → Bool
negative b = leb (2 ^ 63) b

abbrev pub exponent : ℕ → ℕ
exponent b = b % 2 ^ 63 / 2 ^ 52

abbrev pub fraction : ℕ → ℕ
fraction b = b % 2 ^ 52

-- a NaN; neither a NaN nor an infinity
abbrev pub nan : ℕ → Bool
nan b = eqb (exponent b) 2047 && not (eqb (fraction b) 0)

abbrev pub finite : ℕ → Bool
finite b = not (eqb (exponent b) 2047)

-- The size of a number in units of 2 ^ -1074, the smallest f64 above zero, by its two fields. An exponent's field above 0 says that a 1 leads the
-- fraction, and that the two count 2 ^ (the field - 1) units; at 0 there is no leading 1, and the fraction counts 1 unit.
unfoldable pub size : ℕ → ℕ → ℕ
size zero t = t
size (suc j) t = (2 ^ 52 + t) * 2 ^ j

abbrev pub units : ℕ → ℕ
units b = size (exponent b) (fraction b)

-- n units, negative where s is true, are below m units, negative where t is true; minus zero is not below zero
unfoldable pub less : Bool → ℕ → Bool → ℕ → Bool
less true n true m = ltb m n
less true n false m = ltb 0 (n + m)
less false n true m = false
less false n false m = ltb n m

-- The number with the bits w is below that with the bits x. A NaN is neither below nor above anything; an infinity's fields say more units than
-- those of any number.
unfoldable pub below_bits : ℕ → ℕ → Bool
below_bits w x = not (nan w) && not (nan x) && less (negative w) (units w) (negative x) (units x)

-- ## The cell

-- n units as a whole number, rounded down
abbrev pub floor_of : ℕ → ℕ
floor_of n = n / 2 ^ 1074

-- n units, negative where s is true, have no cell from 0 to 2 ^ d - 1: they are below zero, or rounded down they are 2 ^ d or more
abbrev pub no_cell : Bool → ℕ → ℕ → Bool
no_cell s n d = s && not (eqb n 0) || leb (2 ^ d) (floor_of n)

unfoldable pub placed : Bool → ℕ → ℕ → Option ℕ
placed s n d = pick (no_cell s n d) None (Some (floor_of n))

-- With an edge of 2 ^ -k metres: the coordinate with the bits b has no cell, the number of its cell, and both in one.
abbrev pub missed : ℕ → ℕ → ℕ → Bool
missed b k d = no_cell (negative b) (units b * 2 ^ k) d

abbrev pub cell_number : ℕ → ℕ → ℕ
cell_number b k = floor_of (units b * 2 ^ k)

abbrev pub cell_of : ℕ → ℕ → ℕ → Option ℕ
cell_of b k d = placed (negative b) (units b * 2 ^ k) d
