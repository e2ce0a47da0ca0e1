-- What each private function does, step by step. Nobody has to believe these: the laws carry them to Reading and Calls.
use Rattle.std.specs.Prelude.{ℕ, ◌%◌, ◌^◌, leb, ltb, eqb}
use Rattle.basics.specs.Limits.{deepest}
use Rattle.basics.specs.Pick.{pick}
use Rattle.nodes.specs.Words.{Words}
use Rattle.nodes.specs.Values.{value_at}
use Rattle.paths.specs.declared.Cell.{Cell}
use Rattle.arena.specs.Tables.{Tables, cap, W}
use Rattle.arena.specs.Calls.{fits, live_or_empty}
use Rattle.read_cell.specs.declared.Looked.{Looked}
use Rattle.read_cell.specs.Reading.{read_at}
use Rattle.read_cell.specs.Calls.{looked}

-- the value of an id, in 16 bits
unfoldable pub val : Words → ℕ → ℕ
val W a = value_at W a % 2 ^ 16

-- ## Lookup of a cell

-- refusal 3 where a coordinate is not below 2^d, else u
abbrev pub within : Cell → ℕ → ℕ
within c u = pick (ltb c.x (2 ^ c.depth)) (pick (ltb c.y (2 ^ c.depth)) (pick (ltb c.z (2 ^ c.depth)) u 3) 3) 3

unfoldable pub look_no_at : Tables → ℕ → Cell → ℕ
look_no_at t id c = pick (fits t) (pick (leb c.depth deepest) (within c (pick (live_or_empty (cap t) (W t) id) 0 4)) 2) 1

unfoldable pub look_at : Tables → ℕ → Cell → Looked
look_at t id c =
    pick (eqb (look_no_at t id c) 0) (looked 0 (read_at (W t) c.depth id c.x c.y c.z)) (looked (look_no_at t id c) 0)
