-- An edit takes the slots of the nodes that it makes off the freed ones, the last one freed first, and where none is left the lowest never used.
use mathlib.Core.Path.{◌≡◌, refl, sym, ap, ◌∙◌, subst}
use mathlib.Core.List.{List}
use Prim.Native.Nat.{ℕ, suc, ◌+◌, ◌-◌, ◌≤◌, ◌<◌}
use native.Mathlib.Decide.{ℕ_discrete}
use native.Mathlib.Omega.{arith}
use lib.ListN.{drop}
use Rattle.basics.specs.Limits.{deepest, cube_kids, kid_words, largest_value, most_holds}
use Rattle.nodes.specs.Values.{height_at}
use Rattle.nodes.specs.Words.{own, mark, entry, slot}
use Rattle.nodes.proofs.Sums.{cases}
use Rattle.paths.specs.declared.IVec3.{IVec3}
use Rattle.tree.specs.Tree.{LiveOr0, Cell}
use Rattle.tree.specs.Lacks.{Need, have, lack}
use Rattle.tree.proofs.Room.{plan_some}
use Rattle.arena.specs.Calls.{Out, said, refused}
use Rattle.arena.specs.Tables.{live_in, Tables, cap, W, WellFormed}
use Rattle.ledger.specs.Stack.{Stack, last_freed, slot_after, Draws}
use Rattle.ledger.proofs.Stack.{same_stack, fresh_takes, popped_drop, next_after, draws_none, draws_more}
use Rattle.edit.specs.Edit.{plan_of, result_of, owed, make_of, grant_no, granted, answer_of, cell_no, edit_cell, edit_of}
use Rattle.edit.specs.Promises.{Posed}
use Rattle.edit.proofs.Edits.{granted_word, granted_arena, granted_live, grant_room, cell_past, result_plan, cell_accepted, cell_refused, lack_done, by_cell}
use Rattle.edit.proofs.Growing.{owed_word, owed_arena}
use Rattle.edit.proofs.Planning.{plan_is}
use Rattle.edit.proofs.Upward.{make_brings}

-- ## The making

-- k nodes made from t on, each in the last slot freed, else the lowest never used
abbrev Drawn : Tables → List ℕ → ℕ → Out → Type 0
Drawn t fs k o = (slot o.id ≡ slot_after (k - 1) fs t.arena.next) × Stack o.after (drop k fs)

-- Each node that is made, leaf first and upward, takes the last slot freed that is left, else the lowest never used by then.
pub make_draws : {n tallest : ℕ} {t : Tables} → n ≤ kid_words → 1 < n → WellFormed n tallest t → (x : ℕ) → x ≤ largest_value → (fs : List ℕ) → Stack t fs
    → {d : ℕ} {p : List ℕ} (a k h q : ℕ) → LiveOr0 (cap t) (W t) a → height_at (W t) a ≤ d → d ≤ tallest → Cell n d p
    → plan_of n t x p a ≡ lack k → live_in t.arena + k < cap t → h ≤ most_holds → 1 ≤ h + q
    → (slot (make_of n t x p a h q).id ≡ slot_after (k - 1) fs t.arena.next) × Stack (make_of n t x p a h q).after (drop k fs)
make_draws {t = t} m two w x fits_16 fs s =
    make_brings m two w x fits_16 (λ k u. Stack u (drop k fs)) (Drawn t fs) s
    (λ j u y. same_stack u (owed u y) (drop j fs) (owed_arena u y) (λ b. owed_word u y b own (omega arith)) (λ b. owed_word u y b mark (omega arith)) (λ i. owed_word u y i entry (omega arith)))
    (λ j v o ks y h q z e room f.
    let r = fresh_takes room f (drop j fs) z in
    let next = next_after t v fs j e s z in
    let one : j ≡ suc j - 1 = omega arith in (
      r.0 ∙ ap (last_freed (drop j fs)) next ∙ ap (λ (i : ℕ). slot_after i fs t.arena.next) one,
      subst (λ (i : List ℕ). Stack o.after i) (popped_drop j fs) r.1,
    ))
    (λ j o r. r.1)

-- ## The edit

module _ {n tallest : ℕ} {t : Tables} {root d : ℕ} {cell : List ℕ} {v : ℕ} (q : Posed n tallest t root d cell) (high : v ≤ largest_value)
    (fs : List ℕ) (s : Stack t fs) where
  abbrev new : Out
  new = make_of n t v cell root 1 0

  answer_draws : (r : Need) → ((k : ℕ) → r ≡ lack k → Draws t fs new) → Draws t fs (answer_of t r new)
  unfolding answer_of
  answer_draws (have r) h =
      draws_none t fs (said 0 r (granted t r)) (granted_live t r)
      (same_stack t (granted t r) fs (granted_arena t r) (λ b. granted_word t r b own (omega arith)) (λ b. granted_word t r b mark (omega arith)) (λ i. granted_word t r i entry (omega arith)) s)
  answer_draws (lack k) h = h k refl

  made_draws : height_at (W t) root ≤ d → (k : ℕ) → plan_of n t v cell root ≡ lack k → grant_no t (lack k) ≡ 0 → Draws t fs new
  made_draws low k pl g =
      let some = plan_some (rw pl at (plan_is q.words (omega arith) q.well v root q.there low q.cell_is)) in
      let free = grant_room t k g in
      let lives = (lack_done q high low k pl g).grown.lives in
      let r = make_draws q.words q.several q.well v high fs s root k 1 0 q.there low q.deep q.cell_is pl (omega arith) (omega arith) (omega arith) in
      let all : k ≡ suc (k - 1) = omega arith in
      draws_more t fs new (k - 1) (omega arith) r.0 (subst (λ (i : ℕ). Stack new.after (drop i fs)) all r.1)

  accepted_draws : cell_no n t root d cell v ≡ 0 → Draws t fs (answer_of t (result_of n t v cell root) new)
  accepted_draws e =
      let past = cell_past n t root d cell v e in
      answer_draws (result_of n t v cell root)
      (λ k z. made_draws past.0 k (result_plan n t root d cell v k z) (subst (λ (r : Need). grant_no t r ≡ 0) z past.1))

  -- An edit, accepted or refused: each node that it makes takes the last slot freed, else the lowest never used.
  pub cell_draws : Draws t fs (edit_cell n t root d cell v)
  cell_draws = cases (ℕ_discrete (cell_no n t root d cell v) 0)
      (λ e. subst (Draws t fs) (sym (cell_accepted n t root d cell v e)) (accepted_draws e))
      (λ e. subst (Draws t fs) (sym (cell_refused n t root d cell v e)) (draws_none t fs (refused (cell_no n t root d cell v) t) refl s))

pub edit_draws : {t : Tables} → WellFormed cube_kids deepest t → (fs : List ℕ) → Stack t fs → (root d : ℕ) (p : IVec3) (v : ℕ) → v ≤ largest_value
    → Draws t fs (edit_of t root d p v)
edit_draws {t} w fs s root d p v h =
    by_cell t root d p v w (Draws t fs) (λ k z. draws_none t fs (refused k t) refl s) (λ q. cell_draws q h fs s)
