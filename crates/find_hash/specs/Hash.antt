-- The hash of a node's content, which its slot keeps, below 2^32, and the home that it gives the node. No answer depends on either. Where the hash of a branch is added up, the sum
-- runs over at 2^64 before it is cut.
use Rattle.std.specs.Prelude.{ℕ, ◌+◌, ◌-◌, ◌*◌, ◌/◌, ◌%◌, ◌^◌, List, [], ◌∷◌, nat_le, slice_index}
use Rattle.basics.specs.Limits.{most_slots, slot_homes, kid_words}
use Rattle.basics.specs.Pick.{pick}
use Rattle.basics.specs.Sums.{sum_to}

-- ## The hash

-- the factor of child i
unfoldable pub factor : ℕ → ℕ
factor i = slice_index (0x9E3779B1 ∷ 0x85EBCA77 ∷ 0xC2B2AE3D ∷ 0x27D4EB2F ∷ 0x165667B1 ∷ 0xD6E8FEB9 ∷ 0xA136AAAD ∷ 0x7FEB352D ∷ []) i

-- what child i brings, the id k
unfoldable pub term : ℕ → ℕ → ℕ
term i k = k % 2 ^ 32 * factor i

-- of a branch: the children's terms
unfoldable pub kids_hash : List ℕ → ℕ
kids_hash ks = sum_to kid_words (λ i. term i (slice_index ks i)) % 2 ^ 32

-- the hash h after child i, the id x, became y: the new term more, the old one less
unfoldable pub rekids_hash : ℕ → ℕ → ℕ → ℕ → ℕ
rekids_hash h i x y = (h + (term i y + (2 ^ 64 - term i x))) % 2 ^ 32

-- of a leaf
unfoldable pub leaf_hash : ℕ → ℕ
leaf_hash v = v * 0x9E3779B1 % 2 ^ 32

-- of a branch whose children are one and the same id
unfoldable pub even_hash : ℕ → ℕ
even_hash k = k % 2 ^ 32 * 0x1D0C23D8 % 2 ^ 32

-- ## Homes: the first cell to look at, one of four times as many as there are slots. The hash's part of 2^32 is the home's part of 4 cap

unfoldable pub home_in : ℕ → ℕ → ℕ
home_in cap h = pick (nat_le cap most_slots) (h % 2 ^ 32 * (slot_homes * cap) / 2 ^ 32) 0
