use Rattle.std.proofs.Common.{rules, ◌≡◌, ◌∙◌, sym, Ok, Err}
use mathlib.Core.Path.{ap}
use mathlib.Core.Logic.{⊎_elim}
use native.Mathlib.Omega.{arith}
use Rattle.metres.specs.Models.{wanted}
use Rattle.metres.proofs.Aiming.{aim_deep, aim_fine, aim_refused, aim_pause, aim_point, aim_bar}
use Rattle.metres.proofs.aim_of.Goals.{in-Point, in-Bar}
use Rattle.metres.proofs.aim_of.Goals as goal

pub returns-then-depth-gt-DEEPEST : goal.returns-then-depth-gt-DEEPEST
returns-then-depth-gt-DEEPEST c = ⊎_elim (λ h. aim_deep _ _ _ h) (λ h. aim_fine _ _ _ h.0 h.1) c.then-depth-gt-DEEPEST.either

pub returns-in_err-parse : goal.returns-in_err-parse
returns-in_err-parse c =
    let e : c.from_residual.result ≡ Err c.in_err-parse.field-0.0 = search rules in
    e ∙ aim_refused _ _ _ c.parse.result (omega arith) (omega arith) c.type_inv.bytes c.parse.ensures _ c.in_err-parse.was

pub returns-in-Pause : goal.returns-in-Pause
returns-in-Pause c = aim_pause _ _ _ c.parse.result (omega arith) (omega arith) c.type_inv.bytes c.parse.ensures (c.in_ok-parse.was ∙ ap Ok c.in-Pause.is)

pub returns-in-Some : goal.returns-in-Some
returns-in-Some c = ap wanted (sym c.in-Some.is) ∙ elim c.match-branch-2.branch [
  | in-Point w ↦ aim_point _ _ _ c.parse.result (omega arith) (omega arith) c.type_inv.bytes c.parse.ensures _ _ _ (c.in_ok-parse.was ∙ ap Ok w.in-Point.is)
      (w.cells-is ∙ w.cells_of-cells.ensures)
  | in-Bar w ↦ aim_bar _ _ _ c.parse.result (omega arith) (omega arith) c.type_inv.bytes c.parse.ensures _ _ _ _ (c.in_ok-parse.was ∙ ap Ok w.in-Bar.is)
      (w.cells-is ∙ w.cells_of-cells-in-Bar.ensures)
]

pub returns-in-None : goal.returns-in-None
returns-in-None c = ap wanted (sym c.in-None.is) ∙ elim c.match-branch-2.branch [
  | in-Point w ↦ aim_point _ _ _ c.parse.result (omega arith) (omega arith) c.type_inv.bytes c.parse.ensures _ _ _ (c.in_ok-parse.was ∙ ap Ok w.in-Point.is)
      (w.cells-is ∙ w.cells_of-cells.ensures)
  | in-Bar w ↦ aim_bar _ _ _ c.parse.result (omega arith) (omega arith) c.type_inv.bytes c.parse.ensures _ _ _ _ (c.in_ok-parse.was ∙ ap Ok w.in-Bar.is)
      (w.cells-is ∙ w.cells_of-cells-in-Bar.ensures)
]
