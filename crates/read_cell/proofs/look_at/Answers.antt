use mathlib.Core.Path.{refl}
use native.Mathlib.Omega.{arith}
use Rattle.std.proofs.lemmas.Result.{err_from_is_err_and}
use Rattle.basics.proofs.Refusals.{number_some}
use Rattle.read_cell.proofs.Calls.{look_refused, look_done}
use Rattle.read_cell.proofs.look_at.Goals as goal

pub returns-in_err-may_look : goal.returns-in_err-may_look
returns-in_err-may_look c =
    let p = err_from_is_err_and c.from_residual.result c.from_residual.ensures.1 in
    let q = number_some c.in_err-may_look.field-0.0 in
    rw (p.1, p.2) (look_refused _ _ _ _ _ _ _ c.in_err-may_look.ensures (λ z. omega arith))

pub returns : goal.returns
returns c = look_done _ _ _ _ _ _ 0 _ c.descend-end.result c.in_ok-may_look.ensures refl c.descend-end.ensures c.value_once.ensures
