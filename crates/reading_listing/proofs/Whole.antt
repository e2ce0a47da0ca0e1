-- The whole run over readings.
use mathlib.Core.Path.{◌≡◌, ap, ◌∙◌}
use mathlib.Core.Bool.{true}
use mathlib.Core.List.{List, ◌++◌}
use Prim.Native.Nat.{ℕ, ◌+◌}
use native.Mathlib.Omega.{arith}
use lib.ListN.{length, length-append}
use Rattle.basics.specs.Limits.{deepest, cube_kids}
use Rattle.metres.specs.Record.{record_bytes}
use Rattle.arena.specs.Tables.{WellFormed}
use Rattle.arena.specs.Calls.{fit_of}
use Rattle.basics.specs.Bytes.{Bytes}
use Rattle.listing.specs.Listing.{State, record_in, state_at, start_of, listing_at, Entered}
use Rattle.listing.specs.Holding.{OldReleased, HoldsRoot}
use Rattle.listing.proofs.Whole.{start_well, records_well, entered_well, entered_stands, entered_listing}
use Rattle.listing.proofs.Holding.{run_holds_root, run_releases}
use Rattle.reading_listing.specs.Listing.{readings, all_in, listing_of}
use Rattle.reading_listing.proofs.Records.{readings_enter}

-- the last block, which may end in a cut record, and the end: together with the lines so far they are the listing of all the bytes
pub readings_listing : (k : ℕ) {s t : State} {b lines : List ℕ} → Entered (readings k) s b t lines → (x : List ℕ) → lines ++ listing_of k t x ≡ listing_of k s (b ++ x)
unfolding listing_of
readings_listing k {s} {b} r x =
    let h = entered_stands r in
    let w = length-append b x in
    let d : h.many + all_in (length x) ≡ all_in (length (b ++ x)) = omega (arith, h.whole) in
    entered_listing r x (all_in (length x)) 0 ∙ ap (λ (i : ℕ). listing_at (readings k) s (b ++ x) i 0) d

-- from a fresh arena, over any blocks of whole records and n records into the next block
module _ (k c : ℕ) (kids f e : List ℕ) (fit : fit_of c (length kids) (length f) (length e) ≡ true)
    {b lines : List ℕ} {t : State} (r : Entered (readings k) (start_of c kids f e).state b t lines) (bytes : Bytes b) (x : List ℕ) (next : Bytes x) (n : ℕ) where
  -- the tables are well formed, so that the contracts determine the run
  pub readings_well : WellFormed cube_kids deepest (state_at (readings k) t x n).tables
  readings_well = records_well (readings_enter k) t x next (entered_well (readings_enter k) r bytes (start_well c kids f e fit)) n

  -- no hold has leaked, and `live` is the number of the root's nodes: after accepted records and refused ones, bars among them
  pub readings_hold_root : HoldsRoot (state_at (readings k) t x n)
  readings_hold_root = run_holds_root (readings_enter k) c kids f e fit r bytes x next n

  -- if record n is accepted, so is the release of the old root
  pub readings_release : OldReleased (readings k) (state_at (readings k) t x n) (record_in record_bytes x n)
  readings_release = run_releases (readings_enter k) c kids f e fit r bytes x next n
