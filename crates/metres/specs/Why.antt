-- What each number of a record says: given exactly if.
use Rattle.std.specs.Prelude.{◌≡◌, ◌≢◌, Bool, true, ◌||◌, List, [], ◌∷◌, ℕ, ◌+◌, ◌*◌, ◌^◌, ◌≤◌, ◌<◌, ltb, length}
use Rattle.basics.specs.Limits.{deepest, finest_edge, largest_value}
use Rattle.metres.specs.Bits.{exponent, units, below_bits}
use Rattle.metres.specs.Record.{record_bytes, kind_in, value_in, spare_in, x_in, y_in, z_in, second_in, last_in, malformed, unending, outside}

-- 13: a record not 40 bytes long, unknown kind, spare bits or bytes or a pause's value not zero, second x below first
pub data Malformed (l : List ℕ) : Type 0 where
  wrong_length : length l ≢ record_bytes → Malformed l
  unknown_kind : 2 < kind_in l → Malformed l
  spare_bytes : spare_in l ≢ 0 → Malformed l
  pause_value : kind_in l ≡ 0 → value_in l ≢ 0 → Malformed l
  pause_x : kind_in l ≡ 0 → x_in l ≢ 0 → Malformed l
  pause_y : kind_in l ≡ 0 → y_in l ≢ 0 → Malformed l
  pause_z : kind_in l ≡ 0 → z_in l ≢ 0 → Malformed l
  pause_second : kind_in l ≡ 0 → second_in l ≢ 0 → Malformed l
  shot_second : kind_in l ≡ 1 → second_in l ≢ 0 → Malformed l
  bar_falls : kind_in l ≡ 2 → below_bits (second_in l) (x_in l) ≡ true → Malformed l

-- the bits are those of a NaN or an infinity
abbrev pub Endless : ℕ → Type 0
Endless b = exponent b ≡ 2047

-- 14: a number that the record uses is a NaN or infinite
pub data Unending (l : List ℕ) : Type 0 where
  endless_x : kind_in l ≢ 0 → Endless (x_in l) → Unending l
  endless_y : kind_in l ≢ 0 → Endless (y_in l) → Unending l
  endless_z : kind_in l ≢ 0 → Endless (z_in l) → Unending l
  endless_second : kind_in l ≡ 2 → Endless (second_in l) → Unending l

-- the number with the bits b is below zero, or 2 ^ k times it is 2 ^ d or more
pub data Off (b k d : ℕ) : Type 0 where
  below_zero : 2 ^ 63 ≤ b → 0 < units b → Off b k d
  too_far : 2 ^ d * 2 ^ 1074 ≤ units b * 2 ^ k → Off b k d

-- 3: a coordinate that the record uses is
pub data Beyond (l : List ℕ) (k d : ℕ) : Type 0 where
  beyond_x : kind_in l ≢ 0 → Off (x_in l) k d → Beyond l k d
  beyond_y : kind_in l ≢ 0 → Off (y_in l) k d → Beyond l k d
  beyond_z : kind_in l ≢ 0 → Off (z_in l) k d → Beyond l k d
  beyond_second : kind_in l ≡ 2 → Off (second_in l) k d → Beyond l k d

-- a number applies to a record, with an edge of 2 ^ -k metres and the depth d
pub data RecordWhy (l : List ℕ) (k d : ℕ) : ℕ → Type 0 where
  deep_record : deepest < d → RecordWhy l k d 2
  fine_record : finest_edge < k → RecordWhy l k d 2
  malformed_record : Malformed l → RecordWhy l k d 13
  unending_record : Unending l → RecordWhy l k d 14
  beyond_record : Beyond l k d → RecordWhy l k d 3

-- the number of what a record asks for as a ladder: each test with its number, in the order of the tests
abbrev pub record_rungs : List ℕ → ℕ → ℕ → List (Bool × ℕ)
record_rungs l k d = (ltb deepest d || ltb finest_edge k, 2) ∷ (malformed l, 13) ∷ (unending l, 14) ∷ (outside l k d, 3) ∷ []

-- ## The cells

-- c is 2 ^ k times the number with the bits b, rounded down, and one of the 2 ^ d cells
pub record Floor (b k d c : ℕ) : Type 0 where
  pub reached : c * 2 ^ 1074 ≤ units b * 2 ^ k
  pub passed : units b * 2 ^ k < (c + 1) * 2 ^ 1074
  pub risen : 2 ^ 63 ≤ b → units b ≡ 0
  pub inside : c < 2 ^ d

-- the cells that a record asks for are those of its coordinates, and the last x is not below the first
pub record Aimed (l : List ℕ) (k d first last y z value : ℕ) : Type 0 where
  pub first_floor : Floor (x_in l) k d first
  pub last_floor : Floor (last_in l) k d last
  pub y_floor : Floor (y_in l) k d y
  pub z_floor : Floor (z_in l) k d z
  pub rises : first ≤ last
  pub value_is : value ≡ value_in l
  pub value_small : value ≤ largest_value
