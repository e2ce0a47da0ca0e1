-- The rules of a live node. `W s f` is the word f of the slot s.
use Rattle.std.specs.Prelude.{◌≡◌, ◌≢◌, ◌⊎◌, Bool, not, List, [], ◌∷◌, ℕ, suc, ◌+◌, ◌*◌, ◌≤◌, ◌<◌, eqb, ltb, get_or}
use Rattle.basics.specs.Limits.{kid_words, largest_value, most_holds, last_generation}
use Rattle.basics.specs.Pick.{pick}
use Rattle.basics.specs.Sums.{sum_to, average}
use Rattle.ids.specs.Ids.{is_leaf, generation_of, pack}
use Rattle.nodes.specs.Tally.{one_if, kids_of, Live}
use Rattle.nodes.specs.Values.{value_at, height_at, max_to}
use Rattle.nodes.specs.Words.{Words, own, value, height, sum, hash, holds}
use Rattle.find_hash.specs.Hash.{leaf_hash, kids_hash}

-- ## Ids

-- a byte with a bit for each of the eight ids, the first the lowest
unfoldable pub bits_of : (ℕ → Bool) → List ℕ → ℕ
bits_of p [] = 0
bits_of p (k ∷ ks) = one_if (p k) + 2 * bits_of p ks

-- mask bit i is 1 exactly if child i isn't EMPTY
unfoldable pub kid_mask : List ℕ → ℕ
kid_mask ks = bits_of (λ k. not (eqb k 0)) ks

-- types bit i exactly if child i is a leaf
unfoldable pub kid_types : List ℕ → ℕ
kid_types ks = bits_of is_leaf ks

-- the id of a leaf in slot s, of generation g: types and mask 0
unfoldable pub leaf_id : ℕ → ℕ → ℕ
leaf_id s g = pack 1 0 0 g s

-- the id of a branch with the children ks
unfoldable pub branch_id : List ℕ → ℕ → ℕ → ℕ
branch_id ks s g = pack 0 (kid_types ks) (kid_mask ks) g s

-- one higher, or 0 where that would reach 0x7FFE
unfoldable pub next_generation : ℕ → ℕ
next_generation g = pick (ltb g last_generation) (g + 1) 0

-- the sum of the stored values of the n children ks, the stored value and the height of a branch that has them
unfoldable pub sum_for : ℕ → Words → List ℕ → ℕ
sum_for n W ks = sum_to n (λ i. value_at W (get_or ks i 0))

unfoldable pub value_for : ℕ → Words → List ℕ → ℕ
value_for n W ks = average n (λ i. value_at W (get_or ks i 0))

unfoldable pub height_for : ℕ → Words → List ℕ → ℕ
height_for n W ks = suc (max_to n (λ i. height_at W (get_or ks i 0)))

-- ## The rules of a live node, in slot s. A branch has n children, 8 or 4; the child words from n on are EMPTY

-- a leaf has a value other than 0, and no children; height 0. Beside these it keeps the sum 0 and the hash of its value
pub record LeafNode (W : Words) (s : ℕ) : Type 0 where
  pub id : W s own ≡ leaf_id s (generation_of (W s own))
  pub some : 1 ≤ W s value
  pub bare : (i : ℕ) → i < kid_words → W s i ≡ 0
  pub flat : W s height ≡ 0
  pub summed : W s sum ≡ 0
  pub hashed : W s hash ≡ leaf_hash (W s value)

-- a branch has n child ids, not all EMPTY; its stored value is the sum of the children's stored values divided by n, rounded down;
-- its height is one more than its tallest child's, at most the tallest allowed; its children are live or EMPTY. Beside these it keeps that sum, and the
-- hash of its children
pub record BranchNode (n tallest cap : ℕ) (W : Words) (s : ℕ) : Type 0 where
  pub id : W s own ≡ branch_id (kids_of kid_words W s) s (generation_of (W s own))
  pub children : (i : ℕ) → i < n → W s i ≢ 0 → Live cap W (W s i)
  pub some : (i : ℕ) × (i < n) × (W s i ≢ 0)
  pub beyond : (i : ℕ) → n ≤ i → i < kid_words → W s i ≡ 0
  pub averaged : W s value ≡ average n (λ i. value_at W (W s i))
  pub tall : W s height ≡ suc (max_to n (λ i. height_at W (W s i)))
  pub low : W s height ≤ tallest
  pub summed : W s sum ≡ sum_to n (λ i. value_at W (W s i))
  pub hashed : W s hash ≡ kids_hash (kids_of kid_words W s)

pub record Node (n tallest cap : ℕ) (W : Words) (s : ℕ) : Type 0 where
  pub kind : LeafNode W s ⊎ BranchNode n tallest cap W s
  -- values 0 to 65,535. (A branch's follows from its children's; said here so that no induction is needed)
  pub small : W s value ≤ largest_value
  -- at most 1,000,000 holds
  pub few : W s holds ≤ most_holds
