-- The cells of a cube: where each stands, what lookup answers there, and what expansion writes.
use Rattle.std.specs.Prelude.{◌≡◌, List, ℕ, ◌+◌, ◌*◌, ◌^◌, length, get_or}
use Rattle.paths.specs.declared.IVec3.{IVec3}
use Rattle.paths.specs.Paths.{place}
use Rattle.tree.specs.Cells.{At}
use Rattle.arena.specs.Tables.{Tables}
use Rattle.read_cell.specs.Calls.{look_of, expand_of}

-- where a cell stands
abbrev pub spot : {d : ℕ} → At d → IVec3
spot c = place c.x c.y c.z

-- Lookup below a, at the cell c, is accepted and answers v.
pub record Answers {d : ℕ} (t : Tables) (a : ℕ) (c : At d) (v : ℕ) : Type 0 where
  pub accepted : (look_of t a d (spot c)).no ≡ 0
  pub value : (look_of t a d (spot c)).value ≡ v

-- Lookup below b in the tables u answers at the cell c as lookup below a in t does: the same number and the same value.
pub record Alike {d : ℕ} (u : Tables) (b : ℕ) (t : Tables) (a : ℕ) (c : At d) : Type 0 where
  pub number : (look_of u b d (spot c)).no ≡ (look_of t a d (spot c)).no
  pub value : (look_of u b d (spot c)).value ≡ (look_of t a d (spot c)).value

-- where the cell stands in the list that expansion writes
abbrev pub stands_at : {d : ℕ} → At d → ℕ
stands_at {d} c = c.y * 4 ^ d + c.z * 2 ^ d + c.x

-- Expansion of a into a lent list l is accepted, and what it writes are F's numbers, cell for cell.
pub record Expands (d : ℕ) (t : Tables) (a : ℕ) (l : List ℕ) (F : At d → ℕ) : Type 0 where
  pub accepted : (expand_of t a d l).no ≡ 0
  pub size : length (expand_of t a d l).cube ≡ 8 ^ d
  pub cells : (c : At d) → get_or (expand_of t a d l).cube (stands_at c) 0 ≡ F c
