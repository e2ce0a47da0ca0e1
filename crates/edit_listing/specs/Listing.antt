-- The listing of edits: what records of eight bytes come to.
use Rattle.std.specs.Prelude.{List, ℕ, ◌/◌, ◌%◌, length}
use Rattle.basics.specs.Bytes.{word16}
use Rattle.paths.specs.declared.IVec3.{IVec3}
use Rattle.paths.specs.Paths.{place}
use Rattle.arena.specs.Tables.{Tables}
use Rattle.arena.specs.Calls.{Out}
use Rattle.edit.specs.Edit.{edit_of}
use Rattle.listing.specs.Listing.{State, Records, line_of, listing_at}

-- a record has so many bytes
abbrev pub record_width : ℕ
record_width = 8

-- a record r: x, y and z, and the value
unfoldable pub cell_in : List ℕ → IVec3
cell_in r = place (word16 r 0) (word16 r 2) (word16 r 4)

unfoldable pub value_in : List ℕ → ℕ
value_in r = word16 r 6

-- the depth of the cell that a record names
abbrev pub record_depth : ℕ
record_depth = 6

-- what a record comes to: the edit of that cell
unfoldable pub edit_in : Tables → ℕ → List ℕ → Out
edit_in t root r = edit_of t root record_depth (cell_in r) (value_in r)

abbrev pub edits : Records
edits = record { width = record_width; enter = edit_in; line = line_of }

-- the whole records among so many bytes, and the bytes of a cut last one
abbrev pub whole_in : ℕ → ℕ
whole_in n = n / record_width

abbrev pub cut_of : ℕ → ℕ
cut_of n = n % record_width

-- the listing of all the bytes b of an input
unfoldable pub listing_of : State → List ℕ → List ℕ
listing_of s b = listing_at edits s b (whole_in (length b)) (cut_of (length b))
