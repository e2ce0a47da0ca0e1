-- What each number says: given exactly if. The lowest number that applies is given.
use Rattle.std.specs.Prelude.{◌≡◌, ◌≢◌, ◌↔◌, List, ℕ, ◌≤◌, ◌<◌, get_or}
use Rattle.basics.specs.Limits.{kid_words, most_holds}
use Rattle.nodes.specs.Tally.{kids_of, occ}
use Rattle.nodes.specs.Words.{holds, slot}
use Rattle.arena.specs.Calls.{empties, free_slots, fresh}
use Rattle.arena.specs.Node.{height_for}
use Rattle.arena.specs.Tables.{Tables, tables, W, Sized}
use Rattle.ledger.specs.Ledger.{holds_on}
use Rattle.ledger.specs.Fates.{Lives, HasContent}

-- no free slot
abbrev pub Crowded : Tables → Type 0
Crowded t = free_slots t.arena ≡ 0

-- the node y already has 1,000,000 holds
abbrev pub Full : Tables → ℕ → Type 0
Full t y = most_holds ≤ W t (slot y) holds

-- the node y is there, with the eight children ks
abbrev pub HasIds : Tables → ℕ → List ℕ → Type 0
HasIds t y ks = Lives t y × (kids_of kid_words (W t) (slot y) ≡ ks)

-- 1: capacity out of range, or a table's length isn't the one fixed for that capacity
-- 4: an id is neither EMPTY nor live
-- 5: fewer holds than the call would take: one for each place of a child, one to release
-- 6: interning a leaf of value 0
-- 7: eight EMPTY children
-- 8: new branch taller than allowed
-- 10: the caller would be granted a hold on a node that already has 1,000,000
-- 11: more nodes of the result not yet live than free slots: the one asked for is not there, and there is no free slot

-- a number applies to interning a leaf of the value v
pub data LeafWhy (t : Tables) (v : ℕ) : ℕ → Type 0 where
  unsized_leaf : (Sized t → ⊥) → LeafWhy t v 1
  nothing : v ≡ 0 → LeafWhy t v 6
  full_leaf : (y : ℕ) → HasContent t y empties v → Full t y → LeafWhy t v 10
  crowded_leaf : ((y : ℕ) → HasContent t y empties v → ⊥) → Crowded t → LeafWhy t v 11

-- a number applies to interning a branch of the ids ks
pub data BranchWhy (n tallest : ℕ) (t : Tables) (ks : List ℕ) : ℕ → Type 0 where
  unsized_branch : (Sized t → ⊥) → BranchWhy n tallest t ks 1
  dead_child : (y : ℕ) → y ≢ 0 → 1 ≤ occ y ks → (Lives t y → ⊥) → BranchWhy n tallest t ks 4
  poor_child : (y : ℕ) → y ≢ 0 → holds_on t y < occ y ks → BranchWhy n tallest t ks 5
  all_empty : ((i : ℕ) → i < kid_words → get_or ks i 0 ≡ 0) → BranchWhy n tallest t ks 7
  tall : tallest < height_for n (W t) ks → BranchWhy n tallest t ks 8
  full_branch : (y : ℕ) → HasIds t y ks → Full t y → BranchWhy n tallest t ks 10
  crowded_branch : ((y : ℕ) → HasIds t y ks → ⊥) → Crowded t → BranchWhy n tallest t ks 11

-- a number applies to a hold of id
pub data HoldWhy (t : Tables) (id : ℕ) : ℕ → Type 0 where
  unsized_held : (Sized t → ⊥) → HoldWhy t id 1
  dead_held : id ≢ 0 → (Lives t id → ⊥) → HoldWhy t id 4
  full_held : Lives t id → Full t id → HoldWhy t id 10

-- a number applies to a release of id
pub data ReleaseWhy (t : Tables) (id : ℕ) : ℕ → Type 0 where
  unsized_released : (Sized t → ⊥) → ReleaseWhy t id 1
  dead_released : id ≢ 0 → (Lives t id → ⊥) → ReleaseWhy t id 4
  poor_released : id ≢ 0 → holds_on t id < 1 → ReleaseWhy t id 5

-- a number applies to asking for the counts of id
pub data CountsWhy (t : Tables) (id : ℕ) : ℕ → Type 0 where
  unsized_counts : (Sized t → ⊥) → CountsWhy t id 1
  dead_counted : id ≢ 0 → (Lives t id → ⊥) → CountsWhy t id 4

-- a number applies to making a fresh arena over the lists k, f and e
pub data FreshWhy (c : ℕ) (k f e : List ℕ) : ℕ → Type 0 where
  unsized_fresh : (Sized (tables (fresh c) k f e) → ⊥) → FreshWhy c k f e 1

-- k applies, and no number below it
pub record Lowest (applies : ℕ → Type 0) (k : ℕ) : Type 0 where
  pub this : applies k
  pub lower : (j : ℕ) → j < k → applies j → ⊥

-- a call's number x is each refusal exactly if that is the lowest that applies, and 0, accepted, exactly if none does
pub record Exactly (applies : ℕ → Type 0) (x : ℕ) : Type 0 where
  pub refused : (k : ℕ) → 1 ≤ k → (x ≡ k) ↔ Lowest applies k
  pub accepted : (x ≡ 0) ↔ ((k : ℕ) → applies k → ⊥)
