use mathlib.Core.Path.{refl}
use native.Mathlib.Omega.{arith}
use Rattle.std.proofs.lemmas.Result.{err_from_is_err_and}
use Rattle.basics.proofs.Refusals.{number_some}
use Rattle.read_cube.proofs.Calls.{expand_deep, expand_fits, expand_refused, expand_done}
use Rattle.read_cube.proofs.to_vec.Goals as goal

pub returns-in_err-may_expand : goal.returns-in_err-may_expand
returns-in_err-may_expand c =
    let p = err_from_is_err_and c.from_residual.result c.from_residual.ensures.1 in
    let q = number_some c.in_err-may_expand.field-0.0 in
    rw (p.1, p.2) (expand_refused _ _ _ _ _ _ _ _ c.in_err-may_expand.ensures c.args.cube.now refl (λ z. omega arith))

pub side_of-requires : goal.side_of-requires
side_of-requires c = expand_deep _ _ _ _ _ _ _ 0 c.in_ok-may_expand.ensures refl

pub fill_cube-requires-clause-s_bound : goal.fill_cube-requires-clause-s_bound
fill_cube-requires-clause-s_bound c = expand_fits _ _ _ _ _ _ _ 0 c.in_ok-may_expand.ensures c.side_of.result refl c.side_of.ensures.0

pub returns : goal.returns
returns c =
    expand_done _ _ _ _ _ _ _ 0 c.in_ok-may_expand.ensures c.args.cube.now c.fill_cube.new.cube c.side_of.result refl refl c.side_of.ensures.0 c.fill_cube.ensures
