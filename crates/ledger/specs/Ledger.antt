-- The holds on a node, and how many a call grants or takes.
use Rattle.std.specs.Prelude.{◌≡◌, ℕ, ◌+◌, eqb}
use Rattle.basics.specs.Pick.{pick}
use Rattle.nodes.specs.Tally.{same}
use Rattle.nodes.specs.Words.{holds, slot}
use Rattle.arena.specs.Tables.{Tables, cap, W}
use Rattle.arena.specs.Calls.{Out, live_of}

-- 1 if x is the node y, else 0; EMPTY is no node
unfoldable pub on : ℕ → ℕ → ℕ
on y x = pick (eqb x 0) 0 (same y x)

-- so many if the call was accepted, none by a refusal
unfoldable pub if_accepted : Out → ℕ → ℕ
if_accepted o k = pick (eqb o.no 0) k 0

-- the holds on y now: none unless it is live
unfoldable pub holds_on : Tables → ℕ → ℕ
holds_on t y = pick (live_of (cap t) (W t) y) (W t (slot y) holds) 0

-- from t to u, with so many holds granted and taken: the holds afterwards and those taken are the holds before and those granted, of every id, live or not
abbrev pub Balanced : Tables → Tables → (ℕ → ℕ) → (ℕ → ℕ) → Type 0
Balanced t u granted taken = (y : ℕ) → holds_on u y + taken y ≡ holds_on t y + granted y
