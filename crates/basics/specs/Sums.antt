-- Sums and averages of k numbers f 0, f 1, .., f (k-1).
use Rattle.std.specs.Prelude.{ℕ, zero, suc, ◌+◌, ◌/◌}

unfoldable pub sum_to : ℕ → (ℕ → ℕ) → ℕ
sum_to zero f = 0
sum_to (suc k) f = sum_to k f + f k

-- the sum divided by their number, rounded down
abbrev pub average : ℕ → (ℕ → ℕ) → ℕ
average k f = sum_to k f / k
