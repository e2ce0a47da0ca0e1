use mathlib.Core.Path.{◌≡◌, refl, ◌∙◌}
use mathlib.Core.List.{List}
use Prim.Native.Nat.{ℕ, ◌≤◌, ◌<◌}
use native.Mathlib.Omega.{arith}
use borrow.Author.Tests.{le-leb, lt-leb}
use Rattle.std.proofs.lemmas.Result.{err_from_is_err_and}
use Rattle.basics.proofs.Rungs.{eq_via, ne_via}
use Rattle.basics.proofs.Refusals.{number_some}
use Rattle.nodes.specs.Words.{fact_of, word_of, nodes}
use Rattle.nodes.specs.Values.{height_at}
use Rattle.paths.specs.declared.Cell.{Cell}
use Rattle.arena.specs.Tables.{State, tables}
use Rattle.read_cell.specs.Models.{look_no_at}
use Rattle.edit.specs.Models.{edit_no_at}
use Rattle.edit.proofs.may_edit.Goals as goal

height_facts : (k f : List ℕ) (id : ℕ) → height_at (fact_of f) id ≡ height_at (word_of (nodes k f)) id
unfolding height_at word_of
height_facts k f id = refl

module _ (a : State) (k f e : List ℕ) (root : ℕ) (c : Cell) where
  refused : (o : ℕ) → o ≡ look_no_at (tables a k f e) root c → 0 < o → o ≡ edit_no_at (tables a k f e) root c
  unfolding edit_no_at
  refused o eo n = rw (ne_via o (look_no_at (tables a k f e) root c) 0 eo (λ z. omega arith)) eo

  low : (h : ℕ) → 0 ≡ look_no_at (tables a k f e) root c → h ≡ height_at (fact_of f) root → h ≤ c.depth → 0 ≡ edit_no_at (tables a k f e) root c
  unfolding edit_no_at
  low h eo eh l =
      let q = eh ∙ height_facts k f root in
      rw (eq_via 0 (look_no_at (tables a k f e) root c) 0 eo refl, le-leb (height_at (word_of (nodes k f)) root) c.depth (omega arith))

  tall : (h : ℕ) → 0 ≡ look_no_at (tables a k f e) root c → h ≡ height_at (fact_of f) root → c.depth < h → 8 ≡ edit_no_at (tables a k f e) root c
  unfolding edit_no_at
  tall h eo eh l =
      let q = eh ∙ height_facts k f root in
      rw (eq_via 0 (look_no_at (tables a k f e) root c) 0 eo refl, lt-leb (height_at (word_of (nodes k f)) root) c.depth (omega arith))

pub returns-in_err-may_look : goal.returns-in_err-may_look
returns-in_err-may_look c =
    let p = err_from_is_err_and c.from_residual.result c.from_residual.ensures.1 in
    rw (p.1, p.2) (refused _ _ _ _ _ _ _ c.in_err-may_look.ensures (number_some c.in_err-may_look.field-0.0))

pub returns-then-height_at-cell : goal.returns-then-height_at-cell
returns-then-height_at-cell c = low _ _ _ _ _ _ c.height_at.result c.in_ok-may_look.ensures c.height_at.ensures c.if-height_at-cell.true

pub returns : goal.returns
returns c = tall _ _ _ _ _ _ c.height_at.result c.in_ok-may_look.ensures c.height_at.ensures c.if-height_at-cell.false
