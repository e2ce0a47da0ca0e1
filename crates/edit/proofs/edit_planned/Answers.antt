use Rattle.std.proofs.Common.{◌≡◌, ℕ, ap, sym, ◌∙◌}
use native.Mathlib.Omega.{arith}
use borrow.Author.Tests.{eq-eqb, ne_eqb}
use Rattle.basics.specs.Refusals.{number}
use Rattle.basics.proofs.Refusals.{number_some}
use Rattle.arena.specs.Calls.{refused}
use Rattle.arena.specs.Lent.{before}
use Rattle.edit.specs.Models.{grant_by, edit_past}
use Rattle.edit.proofs.edit_planned.Goals as goal

pub returns-in-Ok : goal.returns-in-Ok
unfolding edit_past
returns-in-Ok c =
    let t = before c.args.a c.args.kids.now c.args.facts.now c.args.find.now in
    let s = c.seen.ensures in
    let granted : 0 ≡ grant_by t c.args.p = rw (c.in-Ok.is, s.0, s.1, s.2, s.3, s.4) at c.may_grant.ensures in
    rw (eq-eqb (grant_by t c.args.p) 0 (sym granted)) c.hold_or_make.ensures

pub returns-in-Err : goal.returns-in-Err
unfolding edit_past
returns-in-Err c =
    let t = before c.args.a c.args.kids.now c.args.facts.now c.args.find.now in
    let s = c.seen.ensures in
    let no : number c.in-Err.refusal ≡ grant_by t c.args.p = rw (c.in-Err.is, s.0, s.1, s.2, s.3, s.4) at c.may_grant.ensures in
    rw (ne_eqb (grant_by t c.args.p) 0 (λ z. omega (arith, number_some c.in-Err.refusal))) (ap (λ (x : ℕ). refused x t) (c.from.ensures ∙ no))
