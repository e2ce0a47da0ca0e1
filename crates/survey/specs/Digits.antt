-- What the argument K says: a number in digits, and nothing else.
use Rattle.std.specs.Prelude.{Bool, true, false, ◌&&◌, List, [], ◌∷◌, ℕ, suc, ◌+◌, ◌-◌, ◌*◌, min, eqb, leb, length, Option, Some, None}
use Rattle.basics.specs.Limits.{finest_edge}
use Rattle.basics.specs.Pick.{pick}

-- a digit: 0 is 48, and 9 is 57
abbrev pub digit : ℕ → Bool
digit c = leb 48 c && leb c 57

unfoldable pub all_digits : List ℕ → Bool
all_digits [] = true
all_digits (c ∷ s) = pick (digit c) (all_digits s) false

-- the number that n and the digits s after it say
unfoldable pub number_from : ℕ → List ℕ → ℕ
number_from n [] = n
number_from n (c ∷ s) = number_from (10 * n + (c - 48)) s

-- stands for every edge that is too fine
abbrev pub too_fine : ℕ
too_fine = suc finest_edge

unfoldable pub edge_after : ℕ → List ℕ → Option ℕ
edge_after n s = pick (all_digits s) (Some (min too_fine (number_from n s))) None

-- the number that a text says; an empty one says none
unfoldable pub edge_of : List ℕ → Option ℕ
edge_of s = pick (eqb (length s) 0) None (edge_after 0 s)
