-- The whole run over edit records.
use mathlib.Core.Path.{◌≡◌, ap₂, ◌∙◌}
use mathlib.Core.Bool.{true}
use mathlib.Core.List.{List, ◌++◌}
use Prim.Native.Nat.{ℕ, ◌+◌}
use native.Mathlib.Omega.{arith}
use lib.ListN.{length, length-append}
use Rattle.arena.specs.Calls.{fit_of}
use Rattle.basics.specs.Bytes.{Bytes}
use Rattle.listing.specs.Listing.{State, record_in, state_at, start_of, listing_at, Entered}
use Rattle.listing.specs.Holding.{OldReleased, HoldsRoot}
use Rattle.listing.proofs.Whole.{entered_stands, entered_listing}
use Rattle.listing.proofs.Holding.{run_holds_root, run_releases}
use Rattle.edit_listing.specs.Listing.{record_width, edits, whole_in, cut_of, listing_of}
use Rattle.edit_listing.proofs.Records.{edits_enter}

-- the last block, whole or not, and the end: together with the lines so far they are the listing of all the bytes
pub edits_listing : {s t : State} {b lines : List ℕ} → Entered edits s b t lines → (x : List ℕ)
    → lines ++ listing_at edits t x (whole_in (length x)) (cut_of (length x)) ≡ listing_of s (b ++ x)
unfolding listing_of
edits_listing {s} {b} r x =
    let h = entered_stands r in
    let w = length-append b x in
    let d : h.many + whole_in (length x) ≡ whole_in (length (b ++ x)) = omega (arith, h.whole) in
    let c : cut_of (length x) ≡ cut_of (length (b ++ x)) = omega (arith, h.whole) in
    entered_listing r x (whole_in (length x)) (cut_of (length x)) ∙ ap₂ (λ (i k : ℕ). listing_at edits s (b ++ x) i k) d c

-- from a fresh arena, over any blocks of whole records and n records into the next block
module _ (c : ℕ) (k f e : List ℕ) (fit : fit_of c (length k) (length f) (length e) ≡ true)
    {b lines : List ℕ} {t : State} (r : Entered edits (start_of c k f e).state b t lines) (bytes : Bytes b) (x : List ℕ) (next : Bytes x) (n : ℕ) where
  -- no hold has leaked
  pub edits_hold_root : HoldsRoot (state_at edits t x n)
  edits_hold_root = run_holds_root edits_enter c k f e fit r bytes x next n

  -- if record n is accepted, so is the release of the old root
  pub edits_release : OldReleased edits (state_at edits t x n) (record_in record_width x n)
  edits_release = run_releases edits_enter c k f e fit r bytes x next n
