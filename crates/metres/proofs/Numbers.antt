-- A reading as numbers.
use mathlib.Core.Path.{◌≡◌, refl}
use lib.Ieee.{binary64, of_bits, to_bits}
use Rattle.metres.specs.Record.{fields_by, fields_of, struct_of}
use Rattle.std.specs.declared.result.Result.{Result}
use Rattle.std.specs.declared.result.Result.TheVariants.{Ok, Err}
use Rattle.basics.specs.declared.Refusal.{Refusal}
use Rattle.metres.specs.declared.Reading.{Reading}
use Rattle.metres.specs.declared.Reading.TheVariants.{Point, Bar, Pause}

zero_bits : to_bits binary64 (of_bits binary64 0) ≡ 0
unfolding to_bits of_bits
zero_bits = refl

-- The struct of a reading has its fields.
pub struct_fields : (r : Result Reading Refusal) → fields_by (struct_of r) ≡ fields_of r
unfolding struct_of fields_of
struct_fields (Ok (Point p v)) = rw zero_bits
struct_fields (Ok (Bar p second v)) = refl
struct_fields (Ok Pause) = rw zero_bits
struct_fields (Err refusal) = rw zero_bits
