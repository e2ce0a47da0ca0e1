use mathlib.Core.Path.{refl}
use native.Mathlib.Omega.{arith}
use Rattle.std.proofs.lemmas.Result.{err_from_is_err_and}
use Rattle.basics.proofs.Refusals.{number_some}
use Rattle.compare.proofs.Calls.{deep_enough, call_refused, call_fifteen, call_listed}
use Rattle.compare.proofs.compare.Goals as goal

pub returns-in_err-may_compare : goal.returns-in_err-may_compare
returns-in_err-may_compare c =
    let p = err_from_is_err_and c.from_residual.result c.from_residual.ensures.1 in
    rw (p.1, p.2)
    (call_refused _ _ _ _ _ _ _ _ c.args.codes.now c.args.lefts.now c.args.rights.now c.in_err-may_compare.ensures
    (λ e. omega (arith, number_some c.in_err-may_compare.field-0.0)))

pub has_room-requires : goal.has_room-requires
has_room-requires c = deep_enough _ _ _ _ _ _ _ _ c.in_ok-may_compare.ensures refl

pub returns-then-not-has_room : goal.returns-then-not-has_room
returns-then-not-has_room c =
    call_fifteen _ _ _ _ _ _ _ _ c.args.codes.now c.args.lefts.now c.args.rights.now c.in_ok-may_compare.ensures _ c.has_room.ensures refl
    c.if-not-has_room.true

pub returns : goal.returns
returns c =
    call_listed _ _ _ _ _ _ _ _ c.args.codes.now c.args.lefts.now c.args.rights.now c.in_ok-may_compare.ensures _ c.has_room.ensures refl c.write_differing.result
    c.write_differing.new.codes c.write_differing.new.lefts c.write_differing.new.rights c.write_differing.ensures c.if-not-has_room.false
