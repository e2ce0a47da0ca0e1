-- The freed slots, the last one freed first; and which slots a release recycles, in order.
use Rattle.std.specs.Prelude.{◌≡◌, List, [], ◌∷◌, ◌++◌, ℕ, zero, suc, ◌+◌, ◌-◌, ◌≤◌, eqb, length, drop}
use Rattle.basics.specs.Limits.{kid_words}
use Rattle.basics.specs.Pick.{pick}
use Rattle.nodes.specs.Tally.{Freed, kids_of}
use Rattle.nodes.specs.Words.{holds, places, slot}
use Rattle.arena.specs.Calls.{Out, recycled, less_of, unused_of, takes, release_no}
use Rattle.arena.specs.Tables.{live_in, Tables, cap, W, freed_of}

-- fs are the slots that were given out and are not live, each once, the last one freed first: the entries of their stack from the top down
pub record Stack (t : Tables) (fs : List ℕ) : Type 0 where
  pub well : Freed (cap t) (W t) t.arena.next t.arena.freed
  pub slots : freed_of t ≡ fs

-- ss put on top, one after the other
abbrev pub pushed : List ℕ → List ℕ → List ℕ
pushed [] fs = fs
pushed (s ∷ ss) fs = pushed ss (s ∷ fs)

-- the top one taken off
abbrev pub popped : List ℕ → List ℕ
popped [] = []
popped (s ∷ fs) = fs

-- the last one freed, else the lowest never used
abbrev pub last_freed : List ℕ → ℕ → ℕ
last_freed [] next = next
last_freed (s ∷ fs) next = s

-- those left of fs once each node that was made from t to u has taken the top one
abbrev pub left_of : Tables → Tables → List ℕ → List ℕ
left_of t u fs = drop (live_in u.arena - live_in t.arena) fs

-- the slot of a node that is made after k others: of those left the last one freed, else the lowest never used by then
abbrev pub slot_after : ℕ → List ℕ → ℕ → ℕ
slot_after k fs next = last_freed (drop k fs) (next + (k - length fs))

-- What a call that ends no node does to the freed slots fs: each node that it makes takes the last one freed, else the lowest never used. If it makes any,
-- its answer is the last of them.
pub record Draws (t : Tables) (fs : List ℕ) (o : Out) : Type 0 where
  pub grows : live_in t.arena ≤ live_in o.after.arena
  pub left : Stack o.after (left_of t o.after fs)
  pub given : (k : ℕ) → live_in o.after.arena ≡ live_in t.arena + suc k → slot o.id ≡ slot_after k fs t.arena.next

-- what h says of each, one after the other, where g is what becomes of the tables
unfoldable pub each_goes : (Tables → ℕ → Tables) → (Tables → ℕ → List ℕ) → Tables → List ℕ → List ℕ
each_goes g h t [] = []
each_goes g h t (y ∷ ys) = h t y ++ each_goes g h (g t y) ys

-- the slots that `takes` recycles, in order: the node's own, and then its children's in octant order, each completely before the next
unfoldable pub goes : ℕ → ℕ → Tables → ℕ → List ℕ
goes zero f t id = []
goes (suc k) f t id =
    let less = less_of f t id in
    let gone = slot id ∷ each_goes (takes k places) (goes k places) (recycled less (slot id)) (kids_of kid_words (W less) (slot id)) in
    let some = pick (unused_of less id) gone [] in
    pick (eqb id 0) [] some

-- the slots that a release of id recycles, in order, in an arena whose nodes are at most so tall
unfoldable pub recycled_by : ℕ → Tables → ℕ → List ℕ
recycled_by tallest t id = pick (eqb (release_no t id) 0) (goes (suc tallest) holds t id) []
