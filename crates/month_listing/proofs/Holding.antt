-- The run from a fresh arena: every state is well formed, so that the calls' contracts determine all of it; both roots are held; and the comparison is refused exactly if
-- more cells differ than the list holds, with 15.
use mathlib.Core.Path.{◌≡◌, refl, sym, ap, ◌∙◌}
use mathlib.Core.Logic.{◌⊎◌, inl, inr, ⊎_elim}
use mathlib.Core.Bool.{Bool, true}
use mathlib.Core.List.{List}
use Prim.Native.Nat.{ℕ, ◌≤◌, ◌<◌}
use native.Mathlib.Decide.{ℕ_discrete, dec_le}
use native.Mathlib.Omega.{arith}
use lib.Dec.{leb}
use lib.ListN.{length}
use borrow.Author.Tests.{le-leb, lt-leb}
use Rattle.basics.specs.Bytes.{Bytes}
use Rattle.basics.specs.Limits.{deepest, cube_kids, kid_words}
use Rattle.basics.specs.Pick.{pick}
use Rattle.nodes.specs.Words.{slot}
use Rattle.nodes.specs.Values.{height_at}
use Rattle.nodes.proofs.Counts.{live_nonzero}
use Rattle.nodes.proofs.Sums.{cases}
use Rattle.tree.specs.Tree.{LiveOr0}
use Rattle.arena.specs.Tables.{Tables, cap, W, WellFormed}
use Rattle.arena.specs.Calls.{fit_of}
use Rattle.arena.proofs.Fits.{sized_fits}
use Rattle.arena.proofs.Ids.{height_node, height_zero, node_low}
use Rattle.ledger.specs.Ledger.{on}
use Rattle.ledger.proofs.Effects.{on_zero, on_same}
use Rattle.ledger.proofs.Found.{lives_slot}
use Rattle.read_cell.proofs.Laws.{live_there}
use Rattle.calls.specs.Does.{Held}
use Rattle.calls.proofs.Follows.{held_there}
use Rattle.listing.specs.Listing.{State, state_at, start_of}
use Rattle.listing.specs.Holding.{HeldBeside}
use Rattle.listing.proofs.Whole.{start_well, records_well}
use Rattle.listing.proofs.Holding.{nobody, start_beside, records_beside, records_keep}
use Rattle.edit_listing.specs.Listing.{record_depth, edits, whole_in}
use Rattle.edit_listing.proofs.Records.{edits_enter}
use Rattle.compare.specs.Compare.{cells_of, compare_no}
use Rattle.compare.proofs.Theorems.{Passed, accepted_exactly, fifteen_exactly, number_is}
use Rattle.month_listing.specs.Months.{side_end, second_side, comparison_of}
use Rattle.month_listing.specs.Promises.{BothHeld}

m8 : cube_kids ≤ kid_words
m8 = omega arith

-- ---- the comparison of two held roots

-- a held root is no taller than any
held_low : {t : Tables} → WellFormed cube_kids deepest t → (a : ℕ) → LiveOr0 (cap t) (W t) a → height_at (W t) a ≤ deepest
held_low {t} w a (inl z) = rw z (omega (arith, height_zero (W t)))
held_low {t} w a (inr l) =
    let s = lives_slot t a l in
    omega (arith, height_node (W t) a (live_nonzero l), node_low m8 s.0 w.sized.most (w.nodes (slot a) s))

-- such a comparison has room for its cells or is refused with 15
room_or_15 : {t : Tables} → WellFormed cube_kids deepest t → (a b : ℕ) → Held t a → Held t b → (c l r : ℕ) → l ≡ c → r ≡ c
    → compare_no t a b record_depth c l r ≡ pick (leb (length (cells_of t a b record_depth)) c) 0 15
room_or_15 {t} w a b ha hb c l r el er =
    let many = length (cells_of t a b record_depth) in
    let there_a = held_there t a ha in
    let there_b = held_there t b hb in
    let passed : Passed t a b record_depth c l r = record {
      fit = sized_fits w.sized;
      lefts = el;
      rights = er;
      deep = omega arith;
      there_a = live_there t a there_a;
      there_b = live_there t b there_b;
      low_a = held_low w a there_a;
      low_b = held_low w b there_b;
    } in
    cases (dec_le many c)
    (λ h. (accepted_exactly t a b record_depth c l r).1 (passed, h) ∙ ap (λ (q : Bool). pick q 0 15) (sym (le-leb many c h)))
    (λ h.
    let high : c < many = omega arith in
    (fifteen_exactly t a b record_depth c l r).1 (passed, high) ∙ ap (λ (q : Bool). pick q 0 15) (sym (lt-leb many c high)))

-- ---- from a fresh arena

-- one hold on a root is one on it, unless it is EMPTY
held_or_empty : (a : ℕ) → (a ≡ 0) ⊎ (1 ≤ on a a)
held_or_empty a = cases (ℕ_discrete a 0) (λ z. inl z) (λ z. inr (omega (arith, on_same a a z refl)))

module _ (capacity : ℕ) (k f e : List ℕ) (fit : fit_of capacity (length k) (length f) (length e) ≡ true) (a b : List ℕ) (left : Bytes a) (right : Bytes b) where
  abbrev begin : State
  begin = (start_of capacity k f e).state

  abbrev between : State
  between = side_end begin a

  -- in the first file the tables are well formed
  pub left_well : (n : ℕ) → WellFormed cube_kids deepest (state_at edits begin a n).tables
  left_well n = records_well edits_enter begin a left (start_well capacity k f e fit) n

  left_beside : HeldBeside nobody between
  left_beside = records_beside edits_enter begin (start_well capacity k f e fit) nobody (start_beside capacity k f e fit) a left (whole_in (length a))

  right_beside : HeldBeside (λ (y : ℕ). on y between.root) (second_side between)
  unfolding second_side
  right_beside y = omega (arith, left_beside y, on_zero y 0 refl)

  -- after n records of the second one both roots are held, and the first one is as it was
  pub right_held : (n : ℕ) → BothHeld between (state_at edits (second_side between) b n)
  unfolding second_side
  right_held n =
      let w = left_well (whole_in (length a)) in
      let mine : ℕ → ℕ = λ y. on y between.root in
      record {
        well = records_well edits_enter (second_side between) b right w n;
        held = records_beside edits_enter (second_side between) w mine right_beside b right n;
        kept = records_keep edits_enter (second_side between) w mine right_beside b right between.root (held_or_empty between.root) n;
      }

  -- The comparison is refused exactly if more cells differ than the list holds, and then with 15.
  pub months_refusal : (c l r : List ℕ) → length l ≡ length c → length r ≡ length c
      → (comparison_of begin a b c l r).no
      ≡ pick (leb (length (cells_of (side_end (second_side between) b).tables between.root (side_end (second_side between) b).root record_depth)) (length c)) 0 15
  unfolding comparison_of
  months_refusal c l r el er =
      let end = side_end (second_side between) b in
      let both = right_held (whole_in (length b)) in
      number_is end.tables between.root end.root record_depth c l r
      ∙ room_or_15 both.well between.root end.root
      (⊎_elim (λ z. inl z) (λ h. inr (omega (arith, both.held between.root))) (held_or_empty between.root))
      (⊎_elim (λ z. inl z) (λ h. inr (omega (arith, both.held end.root))) (held_or_empty end.root))
      (length c) (length l) (length r) el er
