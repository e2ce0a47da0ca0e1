-- What lines are made of: numbers in decimal, a space, the end of a line.
use Rattle.std.specs.Prelude.{List, [], ◌∷◌, ◌++◌, ℕ, zero, suc, ◌+◌, ◌/◌, ◌%◌, ltb}
use Rattle.basics.specs.Pick.{pick}

-- the last k digits of n or fewer, with no leading 0: the digit 0 is 48
unfoldable pub digits_of : ℕ → ℕ → List ℕ
digits_of zero n = []
digits_of (suc k) n = let front = digits_of k (n / 10) in pick (ltb n 10) ((48 + n) ∷ []) (front ++ ((48 + n % 10) ∷ []))

-- a number in decimal: below 2^64 it has no more than 20 digits
abbrev pub decimal : ℕ → List ℕ
decimal n = digits_of 20 n

-- a space and the end of a line
abbrev pub space : ℕ
space = 32

abbrev pub newline : ℕ
newline = 10
