use Rattle.std.proofs.Common.{ℕ, ◌≤◌, ◌<◌, List, arith, sym, ap, ◌∙◌}
use Rattle.nodes.specs.Words.{fact_of, holds}
use Rattle.arena.specs.Calls.{refused}
use Rattle.arena.specs.Models.{hit_by}
use Rattle.arena.specs.Tables.{state_of, tables}
use Rattle.arena_branch.proofs.Steps.{few, fewer, full, late, lives_there, there}
use Rattle.arena_branch.proofs.branch_hit.Goals as goal

pub returns-then-fact-ge-MOST_HOLDS : goal.returns-then-fact-ge-MOST_HOLDS
returns-then-fact-ge-MOST_HOLDS c = λ k e at.
    let a = state_of c.args.a in
    let f = c.args.facts.now in
    let ks = c.args.ks in
    let s = c.args.s in
    let most : 1000000 ≤ fact_of f s holds = omega arith in
    c.refuse_late.ensures k f e ∙ late a k f e ks s at (lives_there a k f e ks s at c.requires) 10 (full a k f e ks s at c.requires most) (λ z. omega arith)

pub returns-then-not-take_holds : goal.returns-then-not-take_holds
returns-then-not-take_holds c = λ k e at.
    let a = state_of c.args.a in
    let f = c.args.facts.now in
    let ks = c.args.ks in
    let s = c.args.s in
    let less : fact_of f s holds < 1000000 = omega arith in
    let took = c.if-not-take_holds.ensures in
    c.refuse.ensures k _ e ∙ ap (λ (g : List ℕ). refused 5 (tables a k g e)) took.1 ∙ few a k f e ks s at (lives_there a k f e ks s at c.requires) (fewer a k f e ks s at c.requires less) (sym took.0)

pub returns : goal.returns
returns c = λ k e at.
    let a = state_of c.args.a in
    let f = c.args.facts.now in
    let ks = c.args.ks in
    let s = c.args.s in
    let less : fact_of f s holds < 1000000 = omega arith in
    let took = c.if-not-take_holds.ensures in
    c.hit.ensures k e ∙ ap (λ (g : List ℕ). hit_by (tables a k g e) s) took.1 ∙ there a k f e ks s at (lives_there a k f e ks s at c.requires) (fewer a k f e ks s at c.requires less) c.requires (sym took.0)
