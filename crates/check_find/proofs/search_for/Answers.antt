use mathlib.Core.Path.{◌≡◌}
use mathlib.Core.List.{List}
use Prim.Native.Nat.{ℕ}
use lib.ListN.{get_or}
use Rattle.check_find.proofs.Searching.{seat_leaf, seat_kids}
use Rattle.check_find.proofs.search_for.Goals as goal

there : (e : List ℕ) (p q w : ℕ) → w ≡ get_or e p 0 → p ≡ q → w ≡ get_or e q 0
there e p q w h d = rw (h, d)

pub returns-then-is_leaf : goal.returns-then-is_leaf
returns-then-is_leaf c = (search seat_leaf, search (there, seat_leaf))

pub returns : goal.returns
returns c = (search seat_kids, search (there, seat_kids))
