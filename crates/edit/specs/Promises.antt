-- What an edit does, and when it is refused by 11: for any number n of children, heights up to `tallest`, and a cell as the list of its child numbers from
-- the root down. The theorems are in proofs/.
use Rattle.std.specs.Prelude.{◌≡◌, ◌≢◌, ◌⊎◌, List, ℕ, ◌+◌, ◌^◌, ◌≤◌, ◌<◌, length, set}
use Rattle.basics.specs.Limits.{deepest, deepest_cube, cube_kids, kid_words}
use Rattle.nodes.specs.Words.{Words, holds, slot}
use Rattle.nodes.specs.Tally.{Live}
use Rattle.tree.specs.Tree.{LiveOr0, Root, Below, WellMade, Cell, Extends}
use Rattle.tree.specs.Anew.{Answer}
use Rattle.tree.specs.Edits.{Edited}
use Rattle.tree.specs.Lacks.{Lacks, Newly}
use Rattle.tree.specs.Cells.{At, Apart}
use Rattle.arena.specs.Tables.{live_in, Tables, cap, W, WellFormed}
use Rattle.calls.specs.Cells.{spot, stands_at, Answers, Alike}
use Rattle.read_cell.specs.Calls.{expand_of}
use Rattle.edit.specs.Edit.{edit_of}

-- ## An edit of a cell

-- What an edit of a cell is asked of: nodes with n children, two or more, in well-formed tables; a root that is EMPTY or live; a cell of depth d, at most
-- `tallest`.
pub record Posed (n tallest : ℕ) (t : Tables) (root d : ℕ) (cell : List ℕ) : Type 0 where
  pub words : n ≤ kid_words
  pub several : 1 < n
  pub well : WellFormed n tallest t
  pub there : LiveOr0 (cap t) (W t) root
  pub deep : d ≤ tallest
  pub cell_is : Cell n d cell

-- What the call does to the counts and to the nodes that live: one hold on the answer (none on EMPTY) and no other; what lives was live, or is a node
-- of the answer; there are `new` nodes more, and these are the nodes of the answer that were not live.
pub record Effect (n : ℕ) (t u : Tables) (r : ℕ) : Type 0 where
  pub granted_one : r ≢ 0 → W u (slot r) holds ≡ W t (slot r) holds + 1
  pub no_other : (s : ℕ) → s < cap t → (r ≡ 0) ⊎ (s ≢ slot r) → W u s holds ≡ W t s holds
  pub only : (y : ℕ) → Live (cap t) (W u) y → Live (cap t) (W t) y ⊎ Below n (W u) r y
  pub new : ℕ
  pub count : live_in u.arena ≡ live_in t.arena + new
  pub lacked : (new ≡ 0) ⊎ Lacks n (cap t) (W t) (W u) r new

-- From t to u with the answer r: it is the old root if the cell has the value already, else the root with the nodes on the path made anew; the root's
-- cell has the value, all other cells are as they were; the tables are well formed, of the same size.
pub record Right (n tallest : ℕ) (t : Tables) (root d : ℕ) (cell : List ℕ) (v : ℕ) (u : Tables) (r : ℕ) : Type 0 where
  pub well : WellFormed n tallest u
  pub size : cap u ≡ cap t
  pub answer : Answer n (cap t) (W t) (W u) root cell v r
  pub edited : Edited n (cap t) d (W t) root cell v (W u) r
  pub effect : Effect n t u r

-- ## Refusal 11

-- The result r of the edit, in an arena imagined with c slots, as many as it takes: its words W' are well made, every node that lives in t is there as it
-- was, and r is the answer of the edit (the old root if the cell has the value, else the root with the cell made anew).
pub record Imagined (n : ℕ) (t : Tables) (root : ℕ) (cell : List ℕ) (v c : ℕ) (W' : Words) (r : ℕ) : Type 0 where
  pub size : cap t ≤ c
  pub made : WellMade n c W'
  pub grows : Extends n c (W t) W'
  pub answer : Answer n c (W t) W' root cell v r

-- k nodes of the result are not live in t
pub record Missing (n : ℕ) (t : Tables) (root : ℕ) (cell : List ℕ) (v k : ℕ) : Type 0 where
  pub slots : ℕ
  pub words : Words
  pub result : ℕ
  pub imagined : Imagined n t root cell v slots words result
  pub newly : Newly n slots (W t) words result k

-- ## An edit of a cube

-- the tables and the id after it
abbrev pub then : {d : ℕ} → Tables → ℕ → At d → ℕ → Tables
then {d} t a c v = (edit_of t a d (spot c) v).after

abbrev pub gives : {d : ℕ} → Tables → ℕ → At d → ℕ → ℕ
gives {d} t a c v = (edit_of t a d (spot c) v).id

-- The answer reads v at the cell and the old values at all others, and expansion writes that cube; it is a root again, tidy if the old one was; and
-- every root that lived reads as before at every cell and depth.
pub record Reads {d : ℕ} (t : Tables) (a : ℕ) (c : At d) (v : ℕ) (u : Tables) (r : ℕ) : Type 0 where
  pub at : Answers u r c v
  pub elsewhere : (s : At d) → Apart s c → Alike u r t a s
  pub cube : d ≤ deepest_cube → (l m : List ℕ) → length l ≡ 8 ^ d → length m ≡ 8 ^ d → (expand_of u r d l).cube ≡ set (expand_of t a d m).cube (stands_at c) v
  pub root : Root cube_kids (cap t) d (W t) a → Root cube_kids (cap u) d (W u) r
  pub others : (b : ℕ) → LiveOr0 (cap t) (W t) b → (e : ℕ) → e ≤ deepest → (s : At e) → Alike u b t b s
