use mathlib.Core.Path.{◌≡◌, ap, refl, ◌∙◌}
use native.Mathlib.Omega.{arith}
use mathlib.Core.List.{List}
use Prim.Native.Nat.{ℕ}
use Rattle.basics.proofs.Rungs.{eq_via, ne_via}
use Rattle.nodes.specs.Words.{kid_of, word_of, nodes}
use Rattle.paths.specs.declared.Cell.{Cell}
use Rattle.arena.specs.Calls.{Out, refused}
use Rattle.arena.specs.Lent.{before}
use Rattle.arena.specs.Seen.{Shows, seen_in}
use Rattle.arena.specs.Tables.{State, tables, state_of}
use Rattle.arena.specs.declared.Arena.{Arena}
use Rattle.arena.specs.declared.Seen.{Seen}
use Rattle.arena.proofs.Seeing.{seen_before}
use Rattle.edit_way.specs.Models.{way_of}
use Rattle.edit_way.specs.declared.Way.{Way}
use Rattle.edit_way.proofs.Ways.{way_words}
use Rattle.edit_plan.specs.Models.{plan_on}
use Rattle.edit_plan.specs.declared.Plan.{Plan}
use Rattle.edit.specs.Models.{edit_no_at, edit_past, edit_by}
use Rattle.basics.proofs.Refusals.{number_some}
use Rattle.edit.proofs.edit_cell.Goals as goal

module _ (a : State) (k f e : List ℕ) (root v : ℕ) (c : Cell) (o : ℕ) (eo : o ≡ edit_no_at (tables a k f e) root c) where
  no_edit : (o ≡ 0 → ⊥) → refused o (tables a k f e) ≡ edit_by (tables a k f e) root c v
  unfolding edit_by
  no_edit n = rw (ne_via o (edit_no_at (tables a k f e) root c) 0 eo n) (ap (λ (i : ℕ). refused i (tables a k f e)) eo)

  past : (w : Way) (b : Plan) (r : Out) → o ≡ 0 → w ≡ way_of (kid_of k) c root → b ≡ plan_on (tables a k f e) v c root w → r ≡ edit_past (tables a k f e) v w c.depth b
      → r ≡ edit_by (tables a k f e) root c v
  unfolding edit_by
  past w b r n ew eb er =
      let q : w ≡ way_of (word_of (nodes k f)) c root = ew ∙ way_words k f c root in
      rw (eq_via o (edit_no_at (tables a k f e) root c) 0 eo n)
      (er ∙ ap (edit_past (tables a k f e) v w c.depth) eb ∙ ap (λ (y : Way). edit_past (tables a k f e) v y c.depth (plan_on (tables a k f e) v c root y)) q)

-- what was told of what is seen, told of what is lent
lent : (s : Seen) (a : Arena) (k f e : List ℕ) (root o : ℕ) (c : Cell) → Shows s a k f e → o ≡ edit_no_at (seen_in s) root c → o ≡ edit_no_at (before a k f e) root c
lent s a k f e root o c h q = q ∙ ap (λ t. edit_no_at t root c) (seen_before s a k f e h)

pub returns-in-Err : goal.returns-in-Err
returns-in-Err c =
    no_edit _ _ _ _ _ c.args.v _ c.from.result (lent c.seen.result _ _ _ _ _ _ _ c.seen.ensures (c.from.ensures ∙ c.in-Err.ensures))
    (λ e. omega (arith, number_some c.in-Err.refusal, c.from.ensures))

pub returns-in-Ok : goal.returns-in-Ok
returns-in-Ok c =
    let s = c.seen-in-Ok.ensures in
    past (state_of c.args.a) c.args.kids.now c.args.facts.now c.args.find.now _ c.args.v _ 0 (lent c.seen.result _ _ _ _ _ _ _ c.seen.ensures c.in-Ok.ensures) c.way_down-w.result c.plan_edit-p.result _ refl
    c.way_down-w.ensures (rw (s.0, s.1, s.2, s.3, s.4) at c.plan_edit-p.ensures) c.edit_planned.ensures
