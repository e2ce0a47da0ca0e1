-- An edit keeps the generation of every slot.
use mathlib.Core.Path.{◌≡◌, refl, ap, ◌∙◌, subst}
use mathlib.Core.List.{List}
use Prim.Native.Nat.{ℕ, ◌+◌, ◌≤◌, ◌<◌}
use native.Mathlib.Decide.{ℕ_discrete}
use native.Mathlib.Omega.{arith}
use borrow.Author.Tests.{eq-eqb, ne_eqb}
use Rattle.basics.specs.Limits.{deepest, cube_kids, kid_words, largest_value, most_holds}
use Rattle.ids.specs.Ids.{generation_of}
use Rattle.nodes.specs.Values.{height_at}
use Rattle.nodes.specs.Words.{own}
use Rattle.nodes.proofs.Sums.{cases}
use Rattle.paths.specs.declared.IVec3.{IVec3}
use Rattle.tree.specs.Tree.{LiveOr0, Cell}
use Rattle.tree.specs.Lacks.{Need, have, lack}
use Rattle.tree.proofs.Room.{plan_some}
use Rattle.arena.specs.Calls.{Out}
use Rattle.arena.specs.Tables.{live_in, Tables, cap, W, WellFormed}
use Rattle.arena.proofs.Fresh.{fresh_gens}
use Rattle.edit.specs.Edit.{plan_of, result_of, make_of, grant_no, granted, answer_of, cell_no, edit_cell, edit_of}
use Rattle.edit.specs.Promises.{Posed}
use Rattle.edit.proofs.Edits.{granted_word, grant_room, cell_past, result_plan, by_cell}
use Rattle.edit.proofs.Growing.{owed_word}
use Rattle.edit.proofs.Planning.{plan_is}
use Rattle.edit.proofs.Upward.{make_brings}

-- every slot has the generation that it had
abbrev Gens-kept : Tables → Tables → Type 0
Gens-kept t u = (b : ℕ) → generation_of (W u b own) ≡ generation_of (W t b own)

-- ## The making

make_gens : {n tallest : ℕ} {t : Tables} → n ≤ kid_words → 1 < n → WellFormed n tallest t → (x : ℕ) → x ≤ largest_value → {d : ℕ} {p : List ℕ} (a k h q : ℕ)
    → LiveOr0 (cap t) (W t) a → height_at (W t) a ≤ d → d ≤ tallest → Cell n d p
    → plan_of n t x p a ≡ lack k → live_in t.arena + k < cap t → h ≤ most_holds → 1 ≤ h + q → Gens-kept t (make_of n t x p a h q).after
make_gens {t = t} m two w x fits_16 =
    make_brings m two w x fits_16 (λ k u. Gens-kept t u) (λ k o. Gens-kept t o.after) (λ b. refl)
    (λ j u s z b. ap generation_of (owed_word u s b own (omega arith)) ∙ z b) (λ j v o ks y h q z e room f b. fresh_gens f b ∙ z b) (λ j o z. z)

-- ## The edit

granted_gens : (t : Tables) (r : ℕ) → Gens-kept t (granted t r)
granted_gens t r b = ap generation_of (granted_word t r b own (omega arith))

module _ {n tallest : ℕ} {t : Tables} {root d : ℕ} {cell : List ℕ} {v : ℕ} (q : Posed n tallest t root d cell) (high : v ≤ largest_value) where
  abbrev new : Out
  new = make_of n t v cell root 1 0

  answer_gens : (r : Need) → ((k : ℕ) → r ≡ lack k → Gens-kept t new.after) → Gens-kept t (answer_of t r new).after
  unfolding answer_of
  answer_gens (have r) h = granted_gens t r
  answer_gens (lack k) h = h k refl

  accepted_gens : cell_no n t root d cell v ≡ 0 → Gens-kept t (answer_of t (result_of n t v cell root) new).after
  accepted_gens e =
      let past = cell_past n t root d cell v e in
      answer_gens (result_of n t v cell root) (λ k z.
      let pl = result_plan n t root d cell v k z in
      let one = plan_some (rw pl at (plan_is q.words (omega arith) q.well v root q.there past.0 q.cell_is)) in
      let free = grant_room t k (subst (λ (r : Need). grant_no t r ≡ 0) z past.1) in
      make_gens q.words q.several q.well v high root k 1 0 q.there past.0 q.deep q.cell_is pl (omega arith) (omega arith) (omega arith))

  -- An edit, accepted or refused, leaves the generation of every slot: a node that it makes has the one that its slot had.
  pub cell_gens : (b : ℕ) → generation_of (W (edit_cell n t root d cell v).after b own) ≡ generation_of (W t b own)
  unfolding edit_cell
  cell_gens b = cases (ℕ_discrete (cell_no n t root d cell v) 0)
      (λ e. rw (eq-eqb (cell_no n t root d cell v) 0 e) (accepted_gens e b))
      (λ e. rw (ne_eqb (cell_no n t root d cell v) 0 e))

pub edit_gens : {t : Tables} → WellFormed cube_kids deepest t → (root d : ℕ) (p : IVec3) (v : ℕ) → v ≤ largest_value
    → (b : ℕ) → generation_of (W (edit_of t root d p v).after b own) ≡ generation_of (W t b own)
edit_gens {t} w root d p v h b =
    by_cell t root d p v w (λ o. generation_of (W o.after b own) ≡ generation_of (W t b own)) (λ k z. refl) (λ q. cell_gens q h b)
