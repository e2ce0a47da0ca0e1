-- The calls of the listings of edit records, of readings and of two months with what they are handed, what each answers and leaves, and its contract as the source has it.
use Rattle.std.specs.Prelude.{◌≡◌, List, ℕ, ◌-◌, length}
use Rattle.basics.specs.Limits.{deepest, cube_kids}
use Rattle.basics.specs.Puts.{puts_from}
use Rattle.arena.specs.Calls.{Fair}
use Rattle.arena.specs.Tables.{live_in, state_of as arena_of}
use Rattle.listing.specs.declared.Run.{Run}
use Rattle.listing.specs.declared.Ran.{Ran}
use Rattle.listing.specs.declared.Step.{Step}
use Rattle.listing.specs.Listing.{Stepped, Told, state_of, start_of, taken_of, told_of, ending_of}
use Rattle.edit_listing.specs.Listing.{whole_in, edits}
use Rattle.reading_listing.specs.Listing.{all_in, readings}
use Rattle.compare.specs.declared.Compared.{Compared}
use Rattle.month_listing.specs.declared.Cells.{Cells}
use Rattle.month_listing.specs.declared.Side.{Side}
use Rattle.month_listing.specs.Months.{sided, short_line, second_side, cell_lines, cells_taken, closing_of}

-- A call: the run that it is handed, and the lists that are lent: the tables k, f and e, the bytes, a list's parts c, l and r, and the room o for what it writes.
pub data Listing : Type 0 where
  start : (capacity : ℕ) (k f e : List ℕ) → Listing
  records : Run → (k f e bytes o : List ℕ) → Listing
  reading_records : Run → (k f e : List ℕ) (edge : ℕ) (bytes o : List ℕ) → Listing
  ending : Run → (cut : ℕ) (o : List ℕ) → Listing
  side_records : Side → Run → (k f e bytes o : List ℕ) → Listing
  side_short : Side → (cut : ℕ) (o : List ℕ) → Listing
  second : Run → Listing
  cells : (c l r : List ℕ) (from count : ℕ) (o : List ℕ) → Listing
  closing : Compared → Run → (o : List ℕ) → Listing

-- what it answers, and what it can write of what is lent
abbrev pub ListingSaid : Listing → Type 0
ListingSaid (start c k f e) = Step × List ℕ × List ℕ × List ℕ
ListingSaid (records r k f e b o) = Ran × List ℕ × List ℕ × List ℕ × List ℕ
ListingSaid (reading_records r k f e i b o) = Ran × List ℕ × List ℕ × List ℕ × List ℕ
ListingSaid (ending r cut o) = ℕ × List ℕ
ListingSaid (side_records d r k f e b o) = Ran × List ℕ × List ℕ × List ℕ × List ℕ
ListingSaid (side_short d cut o) = ℕ × List ℕ
ListingSaid (second r) = Run
ListingSaid (cells c l r i n o) = Cells × List ℕ
ListingSaid (closing x r o) = ℕ × List ℕ

-- as one record
abbrev pub stepped_of : Step × List ℕ × List ℕ × List ℕ → Stepped
stepped_of a = record { state = state_of a.0.run a.1 a.2 a.3; no = a.0.no }

abbrev pub ran_of : Ran × List ℕ × List ℕ × List ℕ × List ℕ → Told
ran_of a = record { state = state_of a.0.run a.1 a.2 a.3; records = a.0.records; len = a.0.len; out = a.4 }

-- its contract
abbrev pub ListingMeets : (q : Listing) → ListingSaid q → Type 0
ListingMeets (start c k f e) a = stepped_of a ≡ start_of c k f e
ListingMeets (records r k f e b o) a =
    (a.0.records ≡ taken_of (whole_in (length b)) (length o)) × (Fair cube_kids deepest (state_of r k f e).tables → ran_of a ≡ told_of edits (state_of r k f e) b o a.0.records)
ListingMeets (reading_records r k f e i b o) a =
    (a.0.records ≡ taken_of (all_in (length b)) (length o)) × (Fair cube_kids deepest (state_of r k f e).tables → ran_of a ≡ told_of (readings i) (state_of r k f e) b o a.0.records)
ListingMeets (ending r cut o) a = (a.1 ≡ puts_from o 0 (ending_of cut (live_in (arena_of r.arena)))) × (a.0 ≡ length (ending_of cut (live_in (arena_of r.arena))))
ListingMeets (side_records d r k f e b o) a =
    (a.0.records ≡ taken_of (whole_in (length b)) (length o)) × (Fair cube_kids deepest (state_of r k f e).tables → ran_of a ≡ told_of (sided d) (state_of r k f e) b o a.0.records)
ListingMeets (side_short d cut o) a = (a.1 ≡ puts_from o 0 (short_line d cut)) × (a.0 ≡ length (short_line d cut))
ListingMeets (second r) a = (k f e : List ℕ) → state_of a k f e ≡ second_side (state_of r k f e)
ListingMeets (cells c l r i n o) a =
    (a.0.cells ≡ cells_taken (n - i) (length o)) × (a.1 ≡ puts_from o 0 (cell_lines c l r i a.0.cells)) × (a.0.len ≡ length (cell_lines c l r i a.0.cells))
ListingMeets (closing x r o) a =
    (a.1 ≡ puts_from o 0 (closing_of x.no x.count x.opened (live_in (arena_of r.arena)))) × (a.0 ≡ length (closing_of x.no x.count x.opened (live_in (arena_of r.arena))))

-- on which tables it speaks
abbrev pub ListingSpeaks : Listing → Type 0
ListingSpeaks (start c k f e) = Unit {0}
ListingSpeaks (records r k f e b o) = Fair cube_kids deepest (state_of r k f e).tables
ListingSpeaks (reading_records r k f e i b o) = Fair cube_kids deepest (state_of r k f e).tables
ListingSpeaks (ending r cut o) = Unit {0}
ListingSpeaks (side_records d r k f e b o) = Fair cube_kids deepest (state_of r k f e).tables
ListingSpeaks (side_short d cut o) = Unit {0}
ListingSpeaks (second r) = Unit {0}
ListingSpeaks (cells c l r i n o) = Unit {0}
ListingSpeaks (closing x r o) = Unit {0}
