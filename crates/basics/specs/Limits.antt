-- The limits of documents 01 and 02, each said once. The code's are the constants of src/lib.rt.
use Rattle.std.specs.Prelude.{ℕ}

-- the deepest tree: no depth, and no node's height, is above it
abbrev pub deepest : ℕ
deepest = 6

-- the deepest cube that is expanded
abbrev pub deepest_cube : ℕ
deepest_cube = 6

-- the finest edge of a cell: 2 ^ -k metres, where k is not above it
abbrev pub finest_edge : ℕ
finest_edge = 6

-- the children of a node in a cube
abbrev pub cube_kids : ℕ
cube_kids = 8

-- the words of a slot in the tables kids and facts, and its cells in the table find
abbrev pub kid_words : ℕ
kid_words = 8

abbrev pub fact_words : ℕ
fact_words = 11

-- of a slot's words in facts so many stand in its row: all but the hash
abbrev pub row_words : ℕ
row_words = 10

abbrev pub slot_cells : ℕ
slot_cells = 5

-- of a slot's cells in find so many are homes, cells where a search can begin
abbrev pub slot_homes : ℕ
slot_homes = 4

-- the capacity of an arena
abbrev pub least_slots : ℕ
least_slots = 2

abbrev pub most_slots : ℕ
most_slots = 65536

-- values are 0 to this
abbrev pub largest_value : ℕ
largest_value = 65535

-- callers' holds on one node
abbrev pub most_holds : ℕ
most_holds = 1000000

-- the generation after which a slot's next is 0, and the last that packing accepts
abbrev pub last_generation : ℕ
last_generation = 0x7FFD

abbrev pub last_packed : ℕ
last_packed = 0x7FFE
