-- An arena: its state and the lists of the three lent tables; well formed.
use Rattle.std.specs.Prelude.{◌≡◌, ◌≢◌, List, ℕ, ◌+◌, ◌-◌, ◌*◌, ◌/◌, ◌%◌, ◌^◌, ◌≤◌, ◌<◌, length}
use Rattle.basics.specs.Limits.{kid_words, fact_words, slot_cells, least_slots, most_slots, last_generation}
use Rattle.ids.specs.Ids.{generation_of}
use Rattle.nodes.specs.Tally.{tally, Free, Freed, freed_list}
use Rattle.nodes.specs.Words.{Nodes, Words, word_of, own, value, spare, holds, places, mark, floor, nodes as nodes_of}
use Rattle.find.specs.Cells.{Finds}
use Rattle.find.specs.Content.{home_at}
use Rattle.arena.specs.Node.{Node}
use Rattle.arena.specs.declared.Arena.{Arena}

-- ## The state

-- how many slots there are, the lowest never given out, and how many are freed
pub record State : Type 0 where
  pub capacity : ℕ
  pub next : ℕ
  pub freed : ℕ

-- how many live: those given out, slot 0 and the freed aside
unfoldable pub live_in : State → ℕ
live_in a = a.next - 1 - a.freed

-- a caller has both numbers in one word of 64 bits: the lowest slot never given out in its low half, how many are freed in its high half
unfoldable pub next_in : ℕ → ℕ
next_in slots = slots % 2 ^ 32

unfoldable pub freed_in : ℕ → ℕ
freed_in slots = slots / 2 ^ 32

abbrev pub state_in : ℕ → ℕ → State
state_in c slots = record { capacity = c; next = next_in slots; freed = freed_in slots }

abbrev pub state_of : Arena → State
state_of a = state_in a.capacity a.slots

-- ## The tables

pub record Tables : Type 0 where
  pub arena : State
  pub nodes : Nodes
  pub find : List ℕ

abbrev pub tables_of : State → Nodes → List ℕ → Tables
tables_of a x e = record { arena = a; nodes = x; find = e }

-- the state beside the lists of the tables kids, facts and find
abbrev pub tables : State → List ℕ → List ℕ → List ℕ → Tables
tables a k f e = tables_of a (nodes_of k f) e

abbrev pub cap : Tables → ℕ
cap t = t.arena.capacity

-- the word f of the slot s
abbrev pub W : Tables → Words
W t = word_of t.nodes

-- the slot s has a live node
abbrev pub LiveSlot : Tables → ℕ → Type 0
LiveSlot t s = (s < cap t) × (floor ≤ W t s own)

-- the freed slots, the last one freed in front
abbrev pub freed_of : Tables → List ℕ
freed_of t = freed_list (W t) t.arena.freed

-- capacity 2 to 65,536 slots, and each table's length is the one fixed for it: 8 and 11 words and 5 cells a slot
pub record Sized (t : Tables) : Type 0 where
  pub least : least_slots ≤ cap t
  pub most : cap t ≤ most_slots
  pub kids : length t.nodes.kids ≡ kid_words * cap t
  pub facts : length t.nodes.facts ≡ fact_words * cap t
  pub cells : length t.find ≡ slot_cells * cap t

-- a slot that is not live is cleared: value 0, children EMPTY, both counts 0 (and height, sum, spare and hash 0); its own word is a generation alone
pub record Cleared (W : Words) (s : ℕ) : Type 0 where
  pub words : (f : ℕ) → f ≤ mark → f ≢ own → f ≢ mark → W s f ≡ 0
  pub seal : W s own % 2 ^ 32 ≡ 0

pub record WellFormed (n tallest : ℕ) (t : Tables) : Type 0 where
  pub sized : Sized t
  -- every slot from 1 up to the highest given out is live or freed, once: on the stack of the freed slots each slot of 1 .. next-1 that is not live stands
  -- once, and no other. Slot 0 and slots never given out are dead with generation 0
  pub stack : Freed (cap t) (W t) t.arena.next t.arena.freed
  -- live nodes meet the rules on content, stored value, height and id, with at most 1,000,000 holds; their children are live or EMPTY
  pub nodes : (s : ℕ) → LiveSlot t s → Node n tallest (cap t) (W t) s
  -- no two have equal content
  pub distinct : (s b : ℕ) → LiveSlot t s → LiveSlot t b → ((i : ℕ) → i < kid_words → W t s i ≡ W t b i) → W t s value ≡ W t b value → s ≡ b
  -- places equal the true tally
  pub tallied : (s : ℕ) → LiveSlot t s → W t s places ≡ tally kid_words (cap t) (W t) (W t s own)
  -- holds plus places is at least 1
  pub used : (s : ℕ) → LiveSlot t s → 1 ≤ W t s holds + W t s places
  -- the search finds every live node, and the finding table names live slots only, each once
  pub finds : Finds (home_at (cap t) (W t)) (LiveSlot t) t.find
  -- freed slots are cleared; so are slot 0 and slots never given out
  pub cleared : (s : ℕ) → s < cap t → W t s own < floor → Cleared (W t) s
  -- only freed slots have a number on the stack, and the spare word is 0
  pub marked : (s : ℕ) → s < cap t → 1 ≤ W t s mark → Free (W t) t.arena.next s
  pub spared : (s : ℕ) → s < cap t → W t s spare ≡ 0
  -- no generation is above 0x7FFD
  pub gens : (s : ℕ) → s < cap t → generation_of (W t s own) ≤ last_generation
