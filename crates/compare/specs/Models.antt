-- What the private functions do, step by step. Nobody has to believe these: the laws carry them to Compare.
use Rattle.std.specs.Prelude.{ℕ, leb, eqb}
use Rattle.basics.specs.Limits.{deepest}
use Rattle.basics.specs.Pick.{pick}
use Rattle.nodes.specs.Words.{Words}
use Rattle.nodes.specs.Values.{height_at}
use Rattle.arena.specs.Tables.{Tables, cap, W}
use Rattle.arena.specs.Calls.{fits, live_or_empty}

-- refusals 4 and 8
unfoldable pub roots_by : ℕ → Words → ℕ → ℕ → ℕ → ℕ
roots_by m U a b d =
    pick (live_or_empty m U a) (pick (live_or_empty m U b) (pick (leb (height_at U a) d) (pick (leb (height_at U b) d) 0 8) 8) 4) 4

-- refusals 1, 2, 4 and 8
unfoldable pub first_no : Tables → ℕ → ℕ → ℕ → ℕ → ℕ → ℕ → ℕ
first_no t a b d c l r = pick (fits t) (pick (eqb l c) (pick (eqb r c) (pick (leb d deepest) (roots_by (cap t) (W t) a b d) 2) 1) 1) 1
