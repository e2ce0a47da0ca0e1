-- The code's way to spread a number: four stages of a shift and a mask. No reader has to believe it: crates/paths/proofs/Masks.antt.
use Rattle.std.specs.Prelude.{ℕ, ◌*◌, ◌%◌, ◌^◌, List, [], ◌∷◌}
use Rattle.std.specs.Int.Bits.{bit_and, bit_or}

-- One stage, at 32 bits: the number or itself shifted, under a mask.
pub record Stage : Type 0 where
  pub shift : ℕ
  pub mask : ℕ

abbrev pub stage : Stage → ℕ → ℕ
stage s v = bit_and (bit_or v (v * 2 ^ s.shift % 2 ^ 32)) s.mask

-- Stages, the last one first.
abbrev pub run : List Stage → ℕ → ℕ
run [] x = x
run (s ∷ ss) x = stage s (run ss x)

-- The constants of src/lib.rt, the last stage first.
abbrev pub last : Stage
last = record { shift = 2; mask = 0x9249249 }

abbrev pub earlier : List Stage
earlier = record { shift = 4; mask = 0x30C30C3 } ∷ record { shift = 8; mask = 0x300F00F } ∷ record { shift = 16; mask = 0x30000FF } ∷ []

abbrev pub stages : List Stage
stages = last ∷ earlier
