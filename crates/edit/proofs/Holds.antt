-- The holds in an edit: one on the answer if it was accepted, none on EMPTY, and no other.
use mathlib.Core.Path.{◌≡◌, sym, ap, ◌∙◌, subst}
use mathlib.Core.Logic.{◌≢◌, ◌⊎◌, inl, inr}
use mathlib.Core.List.{List}
use Prim.Native.Nat.{ℕ, ◌+◌, ◌≤◌, ◌<◌}
use native.Mathlib.Decide.{ℕ_discrete, dec_lt}
use native.Mathlib.Omega.{arith}
use Rattle.basics.specs.Limits.{deepest, cube_kids, kid_words, largest_value}
use Rattle.nodes.specs.Tally.{Live}
use Rattle.nodes.specs.Words.{own, holds, slot, floor}
use Rattle.nodes.proofs.Counts.{live_nonzero, live_inj}
use Rattle.nodes.proofs.Sums.{cases}
use Rattle.paths.specs.declared.IVec3.{IVec3}
use Rattle.tree.specs.Tree.{LiveOr0}
use Rattle.arena.specs.Tables.{Tables, cap, W, LiveSlot, WellFormed}
use Rattle.arena.specs.Calls.{Out, refused}
use Rattle.ledger.specs.Ledger.{on, if_accepted, holds_on}
use Rattle.ledger.specs.Fates.{Lives}
use Rattle.ledger.proofs.Effects.{by_life, holds_live, holds_dead, on_zero, on_same, on_diff, accepted, unaccepted}
use Rattle.ledger.proofs.Found.{slot_own, slot_lives}
use Rattle.edit.specs.Edit.{cell_no, edit_cell, edit_of}
use Rattle.edit.specs.Promises.{Posed, Right}
use Rattle.edit.proofs.Edits.{cell_right, cell_refused, cell_number_lem, by_cell}

module _ {n tallest : ℕ} (m : n ≤ kid_words) {t u : Tables} {r root d : ℕ} {cell : List ℕ} {v : ℕ} (w : WellFormed n tallest t) (e : Right n tallest t root d cell v u r) where
  there : LiveOr0 (cap u) (W u) r
  there = subst (λ (k : ℕ). LiveOr0 k (W u) r) (sym e.size) e.edited.there

  -- what was live is live
  later : (y : ℕ) → Lives t y → Lives u y
  later y l = subst (λ (k : ℕ). Live k (W u) y) (sym e.size) (e.edited.grows y l).still

  -- a node that is new had no hold in its slot
  none_before : (y : ℕ) → Lives u y → (Lives t y → ⊥) → W t (slot y) holds ≡ 0
  none_before y l d =
      let z = e.size in
      let low = l.low in
      let in-t : slot y < cap t = omega arith in
      cases (dec_lt (W t (slot y) own) floor)
      (λ q. (w.cleared (slot y) in-t q).words holds (omega arith) (omega arith) (omega arith))
      (λ q.
      let s : LiveSlot t (slot y) = (in-t, omega arith) in
      let x = slot_lives m w (slot y) s in
      let same : W t (slot y) own ≡ y = live_inj (later (W t (slot y) own) x) l (slot_own m w (slot y) s) in
      absurd (d (subst (λ (k : ℕ). Lives t k) same x)))

  apart : LiveOr0 (cap u) (W u) r → (y : ℕ) → Lives u y → y ≢ r → (r ≡ 0) ⊎ (slot y ≢ slot r)
  apart (inl z) y l q = inl z
  apart (inr m) y l q = inr (λ k. q (live_inj l m k))

  word : (y : ℕ) → Lives u y → W u (slot y) holds ≡ W t (slot y) holds + on y r
  word y l = cases (ℕ_discrete y r)
      (λ q.
      let k : r ≢ 0 = (λ z. live_nonzero l (q ∙ z)) in
      let one : W u (slot y) holds ≡ W t (slot y) holds + 1 = subst (λ (x : ℕ). W u (slot x) holds ≡ W t (slot x) holds + 1) (sym q) (e.effect.granted_one k) in
      omega (arith, on_same y r k q))
      (λ q.
      let z = e.size in
      let low = l.low in
      omega (arith, on_diff y r q, e.effect.no_other (slot y) (omega arith) (apart there y l q)))

  absent : LiveOr0 (cap u) (W u) r → (y : ℕ) → (Lives u y → ⊥) → on y r ≡ 0
  absent (inl z) y d = on_zero y r z
  absent (inr m) y d = on_diff y r (λ q. d (subst (λ (x : ℕ). Lives u x) (sym q) m))

  right_balance : (y : ℕ) → holds_on u y ≡ holds_on t y + on y r
  right_balance y =
      by_life u y
      (λ l. by_life t y
      (λ k. omega (arith, holds_live u y l, holds_live t y k, word y l))
      (λ k. omega (arith, holds_live u y l, holds_dead t y k, none_before y l k, word y l)))
      (λ d. omega (arith, holds_dead u y d, holds_dead t y (λ l. d (later y l)), absent there y d))

module _ {n tallest : ℕ} {t : Tables} {root d : ℕ} {cell : List ℕ} {v : ℕ} (q : Posed n tallest t root d cell) (high : v ≤ largest_value) where
  pub cell_balance : (y : ℕ)
      → holds_on (edit_cell n t root d cell v).after y ≡ holds_on t y + if_accepted (edit_cell n t root d cell v) (on y (edit_cell n t root d cell v).id)
  cell_balance y =
      let o = edit_cell n t root d cell v in
      let k = cell_number_lem n t root d cell v in
      cases (ℕ_discrete (cell_no n t root d cell v) 0)
      (λ z. omega (arith, right_balance q.words q.well (cell_right q high z) y, accepted o (on y o.id) (k ∙ z)))
      (λ z.
      let same : holds_on o.after y ≡ holds_on t y = ap (λ (x : Out). holds_on x.after y) (cell_refused n t root d cell v z) in
      omega (arith, unaccepted o (on y o.id) (λ i. z (sym k ∙ i))))

pub edit_balance : {t : Tables} → WellFormed cube_kids deepest t → (b e : ℕ) (p : IVec3) (v : ℕ) → v ≤ largest_value → (y : ℕ)
    → holds_on (edit_of t b e p v).after y ≡ holds_on t y + if_accepted (edit_of t b e p v) (on y (edit_of t b e p v).id)
edit_balance {t} w b e p v h y =
    by_cell t b e p v w (λ o. holds_on o.after y ≡ holds_on t y + if_accepted o (on y o.id))
    (λ k z. omega (arith, unaccepted (refused k t) (on y (refused k t).id) z))
    (λ q. cell_balance q h y)
