-- The bits of a number.
use Rattle.std.specs.Prelude.{ℕ, ◌/◌, ◌%◌, ◌^◌}

-- the field of `width` bits from bit `at` on
abbrev pub field : ℕ → ℕ → ℕ → ℕ
field at width v = v / 2 ^ at % 2 ^ width

-- bit n
abbrev pub bit : ℕ → ℕ → ℕ
bit n v = field n 1 v
