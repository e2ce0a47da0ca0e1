-- How many cells there are: 8^d.
use Prim.Native.Nat.{ℕ, suc, ◌*◌, ◌^◌, ◌≤◌, ◌<◌}
use native.Mathlib.Nat.{pow-succ', pow-le-pow_right}
use native.Mathlib.Omega.{arith}
use Rattle.basics.specs.Limits.{deepest}

-- no more than the deepest cube has
pub cells_most : (d : ℕ) → d ≤ deepest → 8 ^ d ≤ 8 ^ deepest
cells_most d h = let e : 0 < 8 = omega arith in pow-le-pow_right e h

-- eight places one level below it have no more either
pub places_most : (d : ℕ) → d < deepest → 8 * 8 ^ d ≤ 8 ^ deepest
places_most d h = rw (← pow-succ' 8 d) (cells_most (suc d) h)
