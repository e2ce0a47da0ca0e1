-- The contract of each call of the listings determines its answer and what it leaves.
use mathlib.Core.Path.{◌≡◌, sym, ap, ap₂, ◌∙◌}
use mathlib.Core.List.{List, []}
use Prim.Native.Nat.{ℕ}
use lib.ListN.{length}
use Rattle.basics.specs.Puts.{puts_from}
use Rattle.listing.specs.declared.Run.{Run}
use Rattle.listing.specs.declared.Ran.{Ran}
use Rattle.listing.specs.declared.Step.{Step}
use Rattle.listing.specs.Listing.{State, Stepped, Told, state_of, told_of}
use Rattle.edit_listing.specs.Listing.{edits}
use Rattle.reading_listing.specs.Listing.{readings}
use Rattle.month_listing.specs.declared.Cells.{Cells}
use Rattle.month_listing.specs.Months.{sided, cell_lines}
use Rattle.unique.specs.Listing.{Listing, start, records, reading_records, ending, side_records, side_short, second, cells, closing, ListingSaid, ListingMeets, ListingSpeaks, stepped_of, ran_of}
use Rattle.unique.proofs.One.{one, slots_back, slots_back_lem}

-- a run out of its state
abbrev run_back : State → Run
run_back s = record { arena = record { capacity = s.tables.arena.capacity; slots = slots_back s.tables.arena }; root = record { 0 = s.root }; count = s.count }

run_back_lem : (r : Run) (k f e : List ℕ) → run_back (state_of r k f e) ≡ r
run_back_lem r k f e =
    ap (λ (w : ℕ). record { arena = record { capacity = r.arena.capacity; slots = w }; root = r.root; count = r.count }) (slots_back_lem r.arena.capacity r.arena.slots)

stepped_one : {o : Stepped} (a b : Step × List ℕ × List ℕ × List ℕ) → stepped_of a ≡ o → stepped_of b ≡ o → a ≡ b
stepped_one = one stepped_of
    (λ o. (record { run = run_back o.state; no = o.no }, o.state.tables.nodes.kids, o.state.tables.nodes.facts, o.state.tables.find))
    (λ a. ap (λ (r : Run). (record { run = r; no = a.0.no }, a.1, a.2, a.3)) (run_back_lem a.0.run a.1 a.2 a.3))

ran_one : {o : Told} (a b : Ran × List ℕ × List ℕ × List ℕ × List ℕ) → ran_of a ≡ o → ran_of b ≡ o → a ≡ b
ran_one = one ran_of
    (λ o. (
      record { run = run_back o.state; records = o.records; len = o.len },
      o.state.tables.nodes.kids,
      o.state.tables.nodes.facts,
      o.state.tables.find,
      o.out,
    ))
    (λ a. ap (λ (r : Run). (record { run = r; records = a.0.records; len = a.0.len }, a.1, a.2, a.3, a.4)) (run_back_lem a.0.run a.1 a.2 a.3))

run_one : {o : State} (a b : Run) → state_of a [] [] [] ≡ o → state_of b [] [] [] ≡ o → a ≡ b
run_one = one (λ r. state_of r [] [] []) run_back (λ a. run_back_lem a [] [] [])

pub listing_determined : (q : Listing) → ListingSpeaks q → (a b : ListingSaid q) → ListingMeets q a → ListingMeets q b → a ≡ b
listing_determined (start c k f e) s a b p q = stepped_one a b p q
listing_determined (records r k f e x o) s a b p q =
    ran_one a b (p.1 s) (q.1 s ∙ ap (told_of edits (state_of r k f e) x o) (q.0 ∙ sym p.0))
listing_determined (reading_records r k f e i x o) s a b p q =
    ran_one a b (p.1 s) (q.1 s ∙ ap (told_of (readings i) (state_of r k f e) x o) (q.0 ∙ sym p.0))
listing_determined (ending r cut o) s a b p q = ap₂ (λ (n : ℕ) (l : List ℕ). (n, l)) (p.1 ∙ sym q.1) (p.0 ∙ sym q.0)
listing_determined (side_records d r k f e x o) s a b p q =
    ran_one a b (p.1 s) (q.1 s ∙ ap (told_of (sided d) (state_of r k f e) x o) (q.0 ∙ sym p.0))
listing_determined (side_short d cut o) s a b p q = ap₂ (λ (n : ℕ) (l : List ℕ). (n, l)) (p.1 ∙ sym q.1) (p.0 ∙ sym q.0)
listing_determined (second r) s a b p q = run_one a b (p [] [] []) (q [] [] [])
listing_determined (cells c l r i n o) s a b p q =
    let e = p.0 ∙ sym q.0 in
    ap₂ (λ (x : Cells) (m : List ℕ). (x, m))
    (ap₂ (λ (x y : ℕ). record { cells = x; len = y }) e (p.2 ∙ ap (λ (m : ℕ). length (cell_lines c l r i m)) e ∙ sym q.2))
    (p.1 ∙ ap (λ (m : ℕ). puts_from o 0 (cell_lines c l r i m)) e ∙ sym q.1)
listing_determined (closing x r o) s a b p q = ap₂ (λ (n : ℕ) (l : List ℕ). (n, l)) (p.1 ∙ sym q.1) (p.0 ∙ sym q.0)
