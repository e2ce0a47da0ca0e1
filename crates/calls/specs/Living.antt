-- What lives: a node that alone is held and what stands below it; and that live nodes and counts are as before.
use Rattle.std.specs.Prelude.{◌≡◌, ◌≢◌, ◌↔◌, ℕ, ◌≤◌, length}
use mathlib.Core.List.{List, Memᴰ}
use Rattle.nodes.specs.Words.{places, slot}
use Rattle.tree.specs.Tree.{EMPTY, Below}
use Rattle.tree.specs.Lacks.{Once}
use Rattle.arena.specs.Tables.{live_in, Tables, cap, W}
use Rattle.ledger.specs.Ledger.{on, holds_on}
use Rattle.ledger.specs.Fates.{Lives}

-- a has one hold (none if it is EMPTY), and no other node has any
abbrev pub HeldAlone : Tables → ℕ → Type 0
HeldAlone t a = (y : ℕ) → holds_on t y ≡ on y a

-- y is a node at or below a; EMPTY is none
abbrev pub NodeOf : ℕ → Tables → ℕ → ℕ → Type 0
NodeOf n t a y = (y ≢ EMPTY) × Below n (W t) a y

-- k nodes stand at or below a: a list has each of them once, and no other
pub record NodesOf (n : ℕ) (t : Tables) (a k : ℕ) : Type 0 where
  pub nodes : List ℕ
  pub many : length nodes ≡ k
  pub these : (y : ℕ) → Memᴰ y nodes ↔ NodeOf n t a y
  pub once : Once nodes

-- Live nodes and counts in u are as in t. The same ids live, as many, each with the eight children, the stored value, the height, the sum, the hash, the holds and
-- the places that it had. What else the tables have may differ: generations of dead slots, the freed slots and their order, the highest slot given out, the finding table.
pub record SameLife (t u : Tables) : Type 0 where
  pub size : cap u ≡ cap t
  pub lives : (y : ℕ) → Lives t y ↔ Lives u y
  pub words : (y : ℕ) → Lives t y → (f : ℕ) → f ≤ places → W u (slot y) f ≡ W t (slot y) f
  pub count : live_in u.arena ≡ live_in t.arena
