-- What the functions here answer, of any tables: mirrors of the code. No reader has to believe them: the public contract of the arena check cites
-- `WellFormed`. `k`, `f` and `e` are the lists of the tables kids, facts and find, c is the capacity.
use Rattle.std.specs.Prelude.{Bool, true, false, List, ℕ, eqb, leb, ltb, length}
use Rattle.basics.specs.Pick.{pick}
use Rattle.nodes.specs.Words.{own, nodes, fact_of, word_of, floor}
use Rattle.find.specs.Cells.{cell, seat}
use Rattle.check_freed.specs.Models.{all_in}

unfoldable pub live_at : List ℕ → ℕ → ℕ → Bool
live_at f c s = pick (ltb s c) (leb floor (fact_of f s own)) false

-- slot s is live, and the search for its content ends at cell p
unfoldable pub named_at : List ℕ → List ℕ → List ℕ → ℕ → ℕ → ℕ → Bool
named_at k f e c s p = pick (live_at f c s) (eqb (seat e c (word_of (nodes k f)) s) p) false

-- cell p is empty, or where the search for the live slot that it names ends
unfoldable pub cell_fine : List ℕ → List ℕ → List ℕ → ℕ → ℕ → Bool
cell_fine k f e c p = pick (eqb (cell e p) 0) true (named_at k f e c (cell e p) p)

-- slot s is not live, or the search for its content ends at it
unfoldable pub found_at : List ℕ → List ℕ → List ℕ → ℕ → ℕ → Bool
found_at k f e c s = pick (live_at f c s) (eqb (cell e (seat e c (word_of (nodes k f)) s)) s) true

unfoldable pub find_fine : ℕ → List ℕ → List ℕ → List ℕ → Bool
find_fine c k f e = pick (all_in 0 (length e) (cell_fine k f e c)) (all_in 0 c (found_at k f e c)) false
