-- Document 01's table of worked examples: what the definitions give, beside what the paper says.
use Rattle.std.specs.Prelude.{ℕ, ◌≡◌, List, [], ◌∷◌, pos, negsuc, get_or}
use Rattle.basics.specs.Sums.{average}
use Rattle.ids.specs.Ids.{new_leaf, new_branch}
use Rattle.paths.specs.Paths.{path_of, place}

pub record Entry : Type 0 where
  pub is : ℕ
  pub says : ℕ

infix 5 ◌says◌
-- What is given, and what the paper says that it is.
abbrev pub ◌says◌ : ℕ → ℕ → Entry
n says m = record { is = n; says = m }

-- Every entry of the list is what the paper says.
abbrev pub AllSay : List Entry → Type 0
AllSay [] = Unit
AllSay (e ∷ es) = (e.is ≡ e.says) × AllSay es

abbrev pub table : List Entry
table =
    (path_of (place 0 0 0) says 0)  -- W1
    ∷ (path_of (place 1 0 0) says 1)  -- W2
    ∷ (path_of (place 0 1 0) says 2)  -- W3
    ∷ (path_of (place 0 0 1) says 4)  -- W4
    ∷ (path_of (place 3 0 0) says 9)  -- W5
    ∷ (path_of (place 7 7 7) says 511)  -- W6
    ∷ (path_of (place 1023 1023 1023) says 1073741823)  -- W7
    ∷ (path_of (place 1024 0 0) says 0)  -- W8
    ∷ (path_of (record { x = negsuc 0; y = pos 0; z = pos 0 }) says 153391689)  -- W9
    ∷ (new_leaf 1 0 says 0x8000000000000001)  -- W10
    ∷ (new_branch 2 0 1 1 says 0x0080800000000002)  -- W11
    ∷ (average 8 (λ i. get_or (1 ∷ 0 ∷ 0 ∷ 0 ∷ 0 ∷ 0 ∷ 0 ∷ 0 ∷ []) i 0) says 0)  -- W12
    ∷ []
