-- What a caller may rely on, over cells and lookup.
use Rattle.std.specs.Prelude.{◌≡◌, ◌≢◌, List, ℕ, ◌≤◌, ◌<◌, length, get_or}
use Rattle.paths.specs.Paths.{path_of}
use Rattle.tree.specs.Cells.{At}
use Rattle.arena.specs.Tables.{Tables}
use Rattle.read_cell.specs.Calls.{look_of}
use Rattle.calls.specs.Cells.{spot}
use Rattle.compare.specs.Compare.{Outcome, outcome}

-- what lookup answers for the cell s of the root a
abbrev pub shows : {d : ℕ} → Tables → ℕ → At d → ℕ
shows {d} t a s = (look_of t a d (spot s)).value

-- the cell s is at place i of the list: its path code, and what lookup answers on both sides, which differ
pub record Listed {d : ℕ} (t : Tables) (a b : ℕ) (o : Outcome) (s : At d) (i : ℕ) : Type 0 where
  pub within : i < o.count
  pub code : get_or o.codes i 0 ≡ path_of (spot s)
  pub left : get_or o.lefts i 0 ≡ shows t a s
  pub right : get_or o.rights i 0 ≡ shows t b s
  pub apart : shows t a s ≢ shows t b s

-- An accepted comparison of a and b at depth d with the list's parts c, l and r: each place below the count has a differing cell, each differing cell has a place,
-- codes rise, and places past the last are as they were. (So each differing cell is listed once, and the count is their number.)
pub record Compares (d : ℕ) (t : Tables) (a b : ℕ) (c l r : List ℕ) (o : Outcome) : Type 0 where
  pub accepted : o.no ≡ 0
  pub cells : (i : ℕ) → i < o.count → (s : At d) × Listed t a b o s i
  pub places : (s : At d) → shows t a s ≢ shows t b s → (i : ℕ) × Listed t a b o s i
  pub rising : (i j : ℕ) → i < j → j < o.count → get_or o.codes i 0 < get_or o.codes j 0
  pub rest : (i : ℕ) → o.count ≤ i → (get_or o.codes i 0 ≡ get_or c i 0) × (get_or o.lefts i 0 ≡ get_or l i 0) × (get_or o.rights i 0 ≡ get_or r i 0)
  pub sizes : (length o.codes ≡ length c) × (length o.lefts ≡ length l) × (length o.rights ≡ length r)

-- an answer with its sides exchanged
abbrev pub exchanged : Outcome → Outcome
exchanged o = outcome o.no o.count o.opened o.codes o.rights o.lefts
