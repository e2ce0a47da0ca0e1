use Rattle.std.proofs.Common.{ℕ, ◌≢◌, ◌%◌, ◌^◌, List, arith, refl, sym, ap, ◌∙◌}
use Rattle.basics.specs.Refusals.{number}
use Rattle.basics.proofs.Refusals.{number_some}
use Rattle.nodes.specs.Words.{nodes, word_of}
use Rattle.arena.specs.Calls.{refused}
use Rattle.arena.specs.Models.{branch_new_by}
use Rattle.arena.specs.Tables.{state_of, tables}
use Rattle.arena_branch.proofs.Steps.{dead, few, late, lives_all, low, new, tall}
use Rattle.arena_branch.proofs.branch_miss.Goals as goal

pub returns-then-not-all_live : goal.returns-then-not-all_live
returns-then-not-all_live c =
    let k = c.args.kids.now in
    let f = c.args.facts.now in
    let e = c.args.find.now in
    c.refuse.ensures k f e ∙ dead (state_of c.args.a) k f e c.args.ks 0 c.args.at refl (sym c.all_live.ensures ∙ c.if-not-all_live.true)

pub returns-in-Err : goal.returns-in-Err
returns-in-Err c =
    let a = state_of c.args.a in
    let k = c.args.kids.now in
    let f = c.args.facts.now in
    let e = c.args.find.now in
    let ks = c.args.ks in
    let at = c.args.at in
    let lives = lives_all a k f e ks 0 at refl (sym c.all_live.ensures ∙ c.if-not-all_live.false) in
    let n = c.in-Err.ensures (word_of (nodes k f)) ∙ tall a k f e ks 0 at _ c.sums_of-sums.ensures.2 in
    let some : number c.in-Err.late ≢ 0 = λ z. omega (arith, number_some c.in-Err.late) in
    c.refuse_late.ensures k f e ∙ late a k f e ks 0 at lives _ n some

pub returns-then-not-take_holds : goal.returns-then-not-take_holds
returns-then-not-take_holds c =
    let a = state_of c.args.a in
    let k = c.args.kids.now in
    let f = c.args.facts.now in
    let e = c.args.find.now in
    let ks = c.args.ks in
    let at = c.args.at in
    let lives = lives_all a k f e ks 0 at refl (sym c.all_live.ensures ∙ c.if-not-all_live.false) in
    let none = sym (c.in_default.ensures (word_of (nodes k f)) ∙ tall a k f e ks 0 at _ c.sums_of-sums.ensures.2) in
    let took = c.if-not-take_holds.ensures in
    c.refuse-then-not-take_holds.ensures k _ e ∙ ap (λ (g : List ℕ). refused 5 (tables a k g e)) took.1 ∙ few a k f e ks 0 at lives none (sym took.0)

pub branch_new-requires : goal.branch_new-requires
branch_new-requires c =
    let U = word_of (nodes c.args.kids.now c.args.facts.now) in
    (low (state_of c.args.a) U _ (sym (c.in_default.ensures U)), c.requires)

pub returns : goal.returns
returns c =
    let a = state_of c.args.a in
    let k = c.args.kids.now in
    let f = c.args.facts.now in
    let e = c.args.find.now in
    let ks = c.args.ks in
    let at = c.args.at in
    let lives = lives_all a k f e ks 0 at refl (sym c.all_live.ensures ∙ c.if-not-all_live.false) in
    let sums = c.sums_of-sums.ensures in
    let none = sym (c.in_default.ensures (word_of (nodes k f)) ∙ tall a k f e ks 0 at _ sums.2) in
    let took = c.if-not-take_holds.ensures in
    c.branch_new.ensures ∙ (λ i. branch_new_by (tables a k (took.1 i) e) ks (sums.1 i) (sums.2 i) (sums.0 i % 2 ^ 32) at) ∙ new a k f e ks 0 at lives none refl (sym took.0)
