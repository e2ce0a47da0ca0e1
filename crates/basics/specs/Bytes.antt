-- Bytes, and the numbers that stand in them, low byte first.
use Rattle.std.specs.Prelude.{List, ℕ, ◌+◌, ◌*◌, ◌<◌, get_or}

abbrev pub Bytes : List ℕ → Type 0
Bytes l = (i : ℕ) → get_or l i 0 < 256

-- the numbers of 16, 32 and 64 bits at a place
abbrev pub word16 : List ℕ → ℕ → ℕ
word16 l i = get_or l i 0 + 256 * get_or l (i + 1) 0

abbrev pub word32 : List ℕ → ℕ → ℕ
word32 l i = word16 l i + 65536 * word16 l (i + 2)

abbrev pub word64 : List ℕ → ℕ → ℕ
word64 l i = word32 l i + 4294967296 * word32 l (i + 4)
