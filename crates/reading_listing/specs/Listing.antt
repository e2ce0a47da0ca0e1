-- The listing of readings: what records of forty bytes come to, with an edge of 2^-k metres.
use Rattle.std.specs.Prelude.{List, ℕ, ◌+◌, ◌-◌, ◌/◌, length}
use Rattle.metres.specs.Record.{record_bytes}
use Rattle.readings.specs.Enter.{enter_of}
use Rattle.listing.specs.Listing.{State, Records, line_of, listing_at}

-- the depth of the cells in which readings are entered
abbrev pub survey_depth : ℕ
survey_depth = 6

-- what a record comes to: the reading entered
abbrev pub readings : ℕ → Records
readings k = record { width = record_bytes; enter = λ t root r. enter_of t root survey_depth k r; line = line_of }

-- the records among so many bytes, a cut last one too: it is entered like any other, and so refused
abbrev pub all_in : ℕ → ℕ
all_in n = (n + (record_bytes - 1)) / record_bytes

-- the listing of all the bytes b of an input
unfoldable pub listing_of : ℕ → State → List ℕ → List ℕ
listing_of k s b = listing_at (readings k) s b (all_in (length b)) 0
