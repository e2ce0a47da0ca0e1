-- An arena lent to be read, as a contract names it: its tables as one value.
use Rattle.std.specs.Prelude.{◌≡◌, List, ℕ}
use Rattle.arena.specs.Tables.{Tables, tables, state_in}
use Rattle.arena.specs.declared.Arena.{Arena}
use Rattle.arena.specs.declared.Seen.{Seen}

abbrev pub seen_in : Seen → Tables
seen_in t = tables (state_in t.capacity t.slots) t.kids.now t.facts.now t.find.now

-- what is seen is the arena of this state with these tables
abbrev pub Shows : Seen → Arena → List ℕ → List ℕ → List ℕ → Type 0
Shows s a k f e = (s.capacity ≡ a.capacity) × (s.slots ≡ a.slots) × (s.kids.now ≡ k) × (s.facts.now ≡ f) × (s.find.now ≡ e)
