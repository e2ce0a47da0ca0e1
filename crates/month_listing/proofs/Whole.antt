-- The whole run: however the two files and the list of differing cells come in blocks, what is printed is what `months_of` says of all their bytes.
use mathlib.Core.Path.{◌≡◌, refl, sym, ap, ap₂, ◌∙◌}
use mathlib.Core.List.{List, ◌++◌, append_assoc, append-nil}
use Prim.Native.Nat.{ℕ, zero, suc, ◌+◌}
use native.Mathlib.Omega.{arith}
use lib.ListN.{length, get_or, length-append}
use Rattle.arena.specs.Tables.{live_in}
use Rattle.listing.specs.Listing.{State, state_at, lines_at, start_of, Entered}
use Rattle.listing.proofs.Whole.{entered_stands, entered_state, entered_lines}
use Rattle.edit_listing.specs.Listing.{record_depth, whole_in, cut_of}
use Rattle.compare.specs.Compare.{Outcome, compare_of}
use Rattle.month_listing.specs.declared.Side.{Side}
use Rattle.month_listing.specs.declared.Side.TheVariants.{Left, Right}
use Rattle.month_listing.specs.Months.{sided, short_line, side_lines, side_end, second_side, cell_line, cell_lines, closing_of, outcome_lines, comparison_of, months_of, Printed, begun, block}
use Rattle.month_listing.proofs.Records.{sided_state}

-- ---- a side

module _ (side : Side) {s t : State} {b lines : List ℕ} (r : Entered (sided side) s b t lines) (x : List ℕ) where
  whole : (entered_stands r).many + whole_in (length x) ≡ whole_in (length (b ++ x))
  whole = omega (arith, length-append b x, (entered_stands r).whole)

  cut : cut_of (length x) ≡ cut_of (length (b ++ x))
  cut = omega (arith, length-append b x, (entered_stands r).whole)

  -- the last block, whole or not: with the lines so far its lines are those of all the bytes, and it leads where they lead
  pub side_lines_lem : lines ++ side_lines side t x ≡ side_lines side s (b ++ x)
  unfolding side_lines
  side_lines_lem =
      sym (append_assoc lines (lines_at (sided side) t x (whole_in (length x))) (short_line side (cut_of (length x))))
      ∙ ap₂ (λ (l : List ℕ) (k : ℕ). l ++ short_line side k) (entered_lines r x (whole_in (length x)) ∙ ap (lines_at (sided side) s (b ++ x)) whole) cut

  pub side_end_lem : side_end t x ≡ side_end s (b ++ x)
  side_end_lem =
      sym (sided_state side t x (whole_in (length x)))
      ∙ entered_state r x (whole_in (length x))
      ∙ ap (state_at (sided side) s (b ++ x)) whole
      ∙ sided_state side s (b ++ x) (whole_in (length (b ++ x)))

-- ---- the cells

cells_after : (c l r : List ℕ) (m n : ℕ) → cell_lines c l r 0 (m + n) ≡ cell_lines c l r 0 m ++ cell_lines c l r m n
unfolding cell_lines
cells_after c l r m zero = let e : m + 0 ≡ m = omega arith in ap (cell_lines c l r 0) e ∙ sym (append-nil (cell_lines c l r 0 m))
cells_after c l r m (suc n) =
    let e : m + suc n ≡ suc (m + n) = omega arith in
    let z : 0 + (m + n) ≡ m + n = omega arith in
    let line : ℕ → List ℕ = λ i. cell_line (get_or c i 0) (get_or l i 0) (get_or r i 0) in
    ap (cell_lines c l r 0) e
    ∙ ap₂ (λ (k : List ℕ) (i : ℕ). k ++ line i) (cells_after c l r m n) z
    ∙ append_assoc (cell_lines c l r 0 m) (cell_lines c l r m n) (line (m + n))

pub printed_cells : {c l r : List ℕ} {n : ℕ} {lines : List ℕ} → Printed c l r n lines → lines ≡ cell_lines c l r 0 n
unfolding cell_lines
printed_cells begun = refl
printed_cells {c} {l} {r} (block {m} p n) = ap (λ (k : List ℕ). k ++ cell_lines c l r m n) (printed_cells p) ∙ sym (cells_after c l r m n)

-- ---- all of it

-- from a fresh arena: blocks of whole records and the last block of each file
module _ (capacity : ℕ) (k f e : List ℕ) {t : State} {a left : List ℕ} (first : Entered (sided Left) (start_of capacity k f e).state a t left) (x : List ℕ)
    {u : State} {b right : List ℕ} (second : Entered (sided Right) (second_side (side_end t x)) b u right) (y : List ℕ) (c l r : List ℕ) where
  abbrev s : State
  s = (start_of capacity k f e).state

  -- the comparison at the end is that of the two files ..
  pub months_compared : compare_of (side_end u y).tables (side_end t x).root (side_end u y).root record_depth c l r ≡ comparison_of s (a ++ x) (b ++ y) c l r
  unfolding comparison_of
  months_compared =
      ap (λ (v : State). compare_of v.tables (side_end t x).root v.root record_depth c l r) (side_end_lem Right second y)
      ∙ ap (λ (v : State). let w = side_end (second_side v) (b ++ y) in compare_of w.tables v.root w.root record_depth c l r) (side_end_lem Left first x)

  -- .. and the lines of the blocks, one after the other, are all that `months_of` says
  pub months_printed : (o : Outcome) → o ≡ compare_of (side_end u y).tables (side_end t x).root (side_end u y).root record_depth c l r
      → {cells : List ℕ} → Printed o.codes o.lefts o.rights o.count cells
      → ((left ++ side_lines Left t x) ++ (right ++ side_lines Right u y)) ++ (cells ++ closing_of o.no o.count o.opened (live_in (side_end u y).tables.arena))
      ≡ months_of capacity k f e (a ++ x) (b ++ y) c l r
  unfolding months_of outcome_lines
  months_printed o same {cells} p =
      let live : State → ℕ = λ v. live_in v.tables.arena in
      let sides : (left ++ side_lines Left t x) ++ (right ++ side_lines Right u y) ≡ side_lines Left s (a ++ x) ++ side_lines Right (second_side (side_end s (a ++ x))) (b ++ y) =
      ap₂ (λ (p q : List ℕ). p ++ q) (side_lines_lem Left first x) (side_lines_lem Right second y)
      ∙ ap (λ (v : State). side_lines Left s (a ++ x) ++ side_lines Right (second_side v) (b ++ y)) (side_end_lem Left first x) in
      let end : side_end u y ≡ side_end (second_side (side_end s (a ++ x))) (b ++ y) = side_end_lem Right second y ∙ ap (λ (v : State). side_end (second_side v) (b ++ y)) (side_end_lem Left first x) in
      let outcome : cells ++ closing_of o.no o.count o.opened (live (side_end u y)) ≡ outcome_lines o (live (side_end u y)) =
      ap (λ (q : List ℕ). q ++ closing_of o.no o.count o.opened (live (side_end u y))) (printed_cells p) in
      ap₂ (λ (p q : List ℕ). p ++ q) sides (outcome ∙ ap₂ (λ (q : Outcome) (v : State). outcome_lines q (live v)) (same ∙ months_compared) end)
