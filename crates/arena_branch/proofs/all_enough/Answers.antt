use Rattle.std.proofs.Common.{◌≡◌, length, not, ap, rules}
use Rattle.nodes.specs.Words.{fact_of}
use Rattle.arena.specs.Calls.{enough_for}
use Rattle.arena.proofs.Eight.{all_step, all_stop, all_last}
use Rattle.arena_branch.proofs.all_enough.Goals as goal

pub returns-then-not-enough_for : goal.returns-then-not-enough_for
returns-then-not-enough_for c =
    let ks = c.args.ks in
    let eight : length ks ≡ 8 = search rules in
    all_stop (enough_for (fact_of c.args.facts.now) ks) ks _ eight c.loop-k.invariant c.enough_for.result c.enough_for.ensures (ap not c.if-not-enough_for.true) (search rules)

pub loop-k-preserved : goal.loop-k-preserved
loop-k-preserved c =
    let ks = c.args.ks in
    let eight : length ks ≡ 8 = search rules in
    all_step (enough_for (fact_of c.args.facts.now) ks) ks _ eight c.loop-k.invariant c.enough_for.result c.enough_for.ensures (ap not c.if-not-enough_for.false) (search rules)

pub returns : goal.returns
returns c =
    let ks = c.args.ks in
    let eight : length ks ≡ 8 = search rules in
    all_last (enough_for (fact_of c.args.facts.now) ks) ks _ eight c.loop-k.invariant (search rules)
