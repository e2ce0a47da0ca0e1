-- A node's content: the value of a leaf, the eight child ids of a branch. It is compared, and its home. Hash equality is never enough: where the kept hash is the one
-- looked for, contents are compared. No answer depends on the hash.
use Rattle.std.specs.Prelude.{Bool, true, false, List, [], ◌∷◌, ℕ, ◌+◌, eqb}
use Rattle.basics.specs.Limits.{kid_words}
use Rattle.basics.specs.Pick.{pick}
use Rattle.ids.specs.Ids.{is_leaf}
use Rattle.find_hash.specs.Hash.{leaf_hash, kids_hash, home_in}
use Rattle.nodes.specs.Words.{Words, own, value, hash}
use Rattle.nodes.specs.Tally.{kids_of}

-- ## Compared

-- do the words of slot s from i on begin with ks?
unfoldable pub agree : Words → ℕ → ℕ → List ℕ → Bool
agree W s i [] = true
agree W s i (k ∷ ks) = pick (eqb (W s i) k) (agree W s (i + 1) ks) false

-- has slot s the hash h and a leaf of the value v?
unfoldable pub leaf_is : Words → ℕ → ℕ → ℕ → Bool
leaf_is W h v s = pick (eqb (W s hash) h) (pick (is_leaf (W s own)) (eqb (W s value) v) false) false

-- has slot s the hash h and the children ks?
unfoldable pub kids_are : Words → ℕ → List ℕ → ℕ → Bool
kids_are W h ks s = pick (eqb (W s hash) h) (agree W s 0 ks) false

-- ## The hash of a content, and the home: the first cell to look at

-- the hash of the content of slot s
unfoldable pub hash_for : Words → ℕ → ℕ
hash_for W s = pick (is_leaf (W s own)) (leaf_hash (W s value)) (kids_hash (kids_of kid_words W s))

-- the home of the node in slot s, by the hash that it keeps
unfoldable pub home_at : ℕ → Words → ℕ → ℕ
home_at cap W s = home_in cap (W s hash)
