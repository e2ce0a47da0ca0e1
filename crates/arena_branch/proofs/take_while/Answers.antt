use Rattle.std.proofs.Common.{◌≡◌, length, not, ap, rules}
use Rattle.arena.proofs.Taking.{taking_none, taking_on, stop_lasts, stop_back, end_lasts, end_taken}
use Rattle.arena_branch.proofs.take_while.Goals as goal

pub loop-i-init : goal.loop-i-init
loop-i-init c = taking_none _ _

pub returns-then-not-take_hold : goal.returns-then-not-take_hold
returns-then-not-take_hold c =
    let eight : length c.args.ks ≡ 8 = search rules in
    let took = c.take_hold.ensures in
    let few = ap not c.if-not-take_hold.true in
    let t = c.loop-i.invariant in (
      search rules,
      stop_lasts c.args.facts.now _ c.args.ks _ eight t c.take_hold.result _ c.loop-i-test.true took.0 took.1 few,
      stop_back c.args.facts.now _ c.args.ks _ eight t c.take_hold.result _ c.loop-i-test.true took.0 took.1 few,
    )

pub loop-i-preserved : goal.loop-i-preserved
loop-i-preserved c =
    let eight : length c.args.ks ≡ 8 = search rules in
    let took = c.take_hold.ensures in
    taking_on c.args.facts.now _ c.args.ks _ eight c.loop-i.invariant c.take_hold.result _ c.loop-i-test.true took.0 took.1 took.2 (ap not c.if-not-take_hold.false)

pub returns : goal.returns
returns c =
    let eight : length c.args.ks ≡ 8 = search rules in
    let t = c.loop-i.invariant in
    (search rules, end_lasts c.args.facts.now _ c.args.ks _ eight t c.loop-i-test.false, end_taken c.args.facts.now _ c.args.ks _ eight t c.loop-i-test.false)
