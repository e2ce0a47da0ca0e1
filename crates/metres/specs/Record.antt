-- What a record in metres says, and the cells that it asks for, over its bytes alone.
use Rattle.std.specs.Prelude.{Bool, true, not, ◌&&◌, ◌||◌, List, Option, Result, ℕ, length, ltb, eqb, Float}
use Rattle.std.specs.Float.{binary64}
use Rattle.std.specs.Float.Ieee.{of_bits, to_bits}
use Rattle.std.specs.declared.option.Option.TheVariants.{Some, None}
use Rattle.std.specs.declared.result.Result.TheVariants.{Ok, Err}
use Rattle.basics.specs.Bytes.{word16, word32, word64}
use Rattle.basics.specs.Limits.{deepest, finest_edge}
use Rattle.basics.specs.Pick.{pick}
use Rattle.basics.specs.Refusals.{number}
use Rattle.basics.specs.declared.Refusal.{Refusal}
use Rattle.basics.specs.declared.Refusal.TheVariants.{Depth, Position, Record, NotFinite}
use Rattle.metres.specs.Bits.{finite, below_bits, missed, cell_number}
use Rattle.metres.specs.declared.Cells.{Cells}
use Rattle.metres.specs.declared.Metres.{Metres}
use Rattle.metres.specs.declared.Reading.{Reading}
use Rattle.metres.specs.declared.Reading.TheVariants.{Point, Bar, Pause}
use Rattle.metres.specs.declared.ReadingFields.{ReadingFields}

-- ## The record

-- a record has 40 bytes: the kind (0 pause, 1 shot, 2 bar), the value, two spare bytes, and the bits of x, y, z and the second x
abbrev pub record_bytes : ℕ
record_bytes = 40

abbrev pub kind_in : List ℕ → ℕ
kind_in l = word32 l 0

abbrev pub value_in : List ℕ → ℕ
value_in l = word16 l 4

abbrev pub spare_in : List ℕ → ℕ
spare_in l = word16 l 6

abbrev pub x_in : List ℕ → ℕ
x_in l = word64 l 8

abbrev pub y_in : List ℕ → ℕ
y_in l = word64 l 16

abbrev pub z_in : List ℕ → ℕ
z_in l = word64 l 24

abbrev pub second_in : List ℕ → ℕ
second_in l = word64 l 32

-- ## Refusals 13 and 14

-- By its kind: a pause with a value or a number that is not all zero bits, a shot with a second x that is not, a bar whose second x is below its
-- first; any other kind.
unfoldable pub wrong : ℕ → ℕ → ℕ → ℕ → ℕ → ℕ → Bool
wrong kind v x y z second =
    pick (eqb kind 0) (not (eqb v 0 && eqb x 0 && eqb y 0 && eqb z 0 && eqb second 0))
    (pick (eqb kind 1) (not (eqb second 0))
    (pick (eqb kind 2) (below_bits second x) true))

-- 13: not 40 bytes long, spare bytes not zero, or wrong by its kind
unfoldable pub malformed : List ℕ → Bool
malformed l = not (eqb (length l) record_bytes) || not (eqb (spare_in l) 0) || wrong (kind_in l) (value_in l) (x_in l) (y_in l) (z_in l) (second_in l)

-- all four numbers are finite; 14: one of them is a NaN or infinite
abbrev pub all_finite : ℕ → ℕ → ℕ → ℕ → Bool
all_finite x y z second = finite x && finite y && finite z && finite second

unfoldable pub unending : List ℕ → Bool
unending l = not (all_finite (x_in l) (y_in l) (z_in l) (second_in l))

-- ## What a record says

-- the point whose coordinates have these bits
abbrev pub point_at : ℕ → ℕ → ℕ → Metres
point_at x y z = record { x = of_bits binary64 x; y = of_bits binary64 y; z = of_bits binary64 z }

unfoldable pub said : ℕ → ℕ → ℕ → ℕ → ℕ → ℕ → Reading
said kind v x y z second = pick (eqb kind 0) Pause (pick (eqb kind 1) (Point (point_at x y z) v) (Bar (point_at x y z) (of_bits binary64 second) v))

unfoldable pub reading_of : List ℕ → Result Reading Refusal
reading_of l =
    pick (malformed l) (Err Record)
    (pick (unending l) (Err NotFinite)
    (Ok (said (kind_in l) (value_in l) (x_in l) (y_in l) (z_in l) (second_in l))))

-- ## The same in numbers: the refusal, or 0 and the record's own words

pub record Fields : Type 0 where
  pub no : ℕ
  pub kind : ℕ
  pub value : ℕ
  pub x : ℕ
  pub y : ℕ
  pub z : ℕ
  pub second : ℕ

abbrev pub fields_at : ℕ → ℕ → ℕ → ℕ → ℕ → ℕ → ℕ → Fields
fields_at n k v x y z w = record { no = n; kind = k; value = v; x = x; y = y; z = z; second = w }

unfoldable pub fields_in : List ℕ → Fields
fields_in l =
    pick (malformed l) (fields_at 13 0 0 0 0 0 0)
    (pick (unending l) (fields_at 14 0 0 0 0 0 0)
    (fields_at 0 (kind_in l) (value_in l) (x_in l) (y_in l) (z_in l) (second_in l)))

-- those of a reading: each f64 by its bits, and zeros for what it has not
unfoldable pub fields_of : Result Reading Refusal → Fields
fields_of (Ok (Point p v)) = fields_at 0 1 v (to_bits binary64 p.x) (to_bits binary64 p.y) (to_bits binary64 p.z) 0
fields_of (Ok (Bar p second v)) = fields_at 0 2 v (to_bits binary64 p.x) (to_bits binary64 p.y) (to_bits binary64 p.z) (to_bits binary64 second)
fields_of (Ok Pause) = fields_at 0 0 0 0 0 0 0
fields_of (Err refusal) = fields_at (number refusal) 0 0 0 0 0 0

-- the struct that has each f64 as itself, and its fields
abbrev pub struct_at : ℕ → ℕ → ℕ → Float → Float → Float → Float → ReadingFields
struct_at n k v x y z w = record { no = n; kind = k; value = v; x = x; y = y; z = z; second = w }

abbrev pub fields_by : ReadingFields → Fields
fields_by r = fields_at r.no r.kind r.value (to_bits binary64 r.x) (to_bits binary64 r.y) (to_bits binary64 r.z) (to_bits binary64 r.second)

-- zero, with all bits zero
abbrev pub zero64 : Float
zero64 = of_bits binary64 0

unfoldable pub struct_of : Result Reading Refusal → ReadingFields
struct_of (Ok (Point p v)) = struct_at 0 1 v p.x p.y p.z zero64
struct_of (Ok (Bar p second v)) = struct_at 0 2 v p.x p.y p.z second
struct_of (Ok Pause) = struct_at 0 0 0 zero64 zero64 zero64 zero64
struct_of (Err refusal) = struct_at (number refusal) 0 0 zero64 zero64 zero64 zero64

-- ## What a record asks for, in a cube of side 2 ^ d with an edge of 2 ^ -k metres

-- the last x: a bar's second, a shot's only one
abbrev pub last_in : List ℕ → ℕ
last_in l = pick (eqb (kind_in l) 2) (second_in l) (x_in l)

-- 3: it is a shot or a bar, and one of its coordinates has no cell
unfoldable pub outside : List ℕ → ℕ → ℕ → Bool
outside l k d = not (eqb (kind_in l) 0) && (missed (x_in l) k d || missed (last_in l) k d || missed (y_in l) k d || missed (z_in l) k d)

-- the cells from the first x to the last at y and z, with their value
abbrev pub cells_at : ℕ → ℕ → ℕ → ℕ → ℕ → Cells
cells_at first last y z v = record { first = first; last = last; y = y; z = z; value = v }

-- refusals 2, 13, 14 and 3, in this order; then a pause asks for nothing, a shot or a bar for the cells from its first x to its last, at y and z
unfoldable pub aim_of : List ℕ → ℕ → ℕ → Result (Option Cells) Refusal
aim_of l k d =
    pick (ltb deepest d || ltb finest_edge k) (Err Depth)
    (pick (malformed l) (Err Record)
    (pick (unending l) (Err NotFinite)
    (pick (outside l k d) (Err Position)
    (pick (eqb (kind_in l) 0) (Ok None)
    (Ok (Some (cells_at (cell_number (x_in l) k) (cell_number (last_in l) k) (cell_number (y_in l) k) (cell_number (z_in l) k) (value_in l))))))))
