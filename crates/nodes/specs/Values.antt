-- What an id has: its stored value and its height.
use Rattle.std.specs.Prelude.{ℕ, zero, suc, max, eqb}
use Rattle.basics.specs.Pick.{pick}
use Rattle.nodes.specs.Words.{Words, value, height, slot}

-- EMPTY has value 0 and height 0
unfoldable pub value_at : Words → ℕ → ℕ
value_at W y = pick (eqb y 0) 0 (W (slot y) value)

unfoldable pub height_at : Words → ℕ → ℕ
height_at W y = pick (eqb y 0) 0 (W (slot y) height)

-- the largest of f 0, .., f (k-1)
unfoldable pub max_to : ℕ → (ℕ → ℕ) → ℕ
max_to zero f = 0
max_to (suc k) f = max (max_to k f) (f k)
