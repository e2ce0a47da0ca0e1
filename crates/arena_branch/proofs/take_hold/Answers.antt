use Rattle.std.proofs.Common.{◌≡◌, rules}
use Rattle.arena.proofs.Taking.{has_none, taken_none, given_none, has_lack, has_some, taken_some, given_some}
use Rattle.arena_branch.proofs.take_hold.Goals as goal

pub returns-then-is_empty : goal.returns-then-is_empty
returns-then-is_empty c =
    let f = c.args.facts.now in
    let z : c.args.k ≡ 0 = search rules in
    (has_none f c.args.k z, taken_none f c.args.k z, given_none f c.args.k z)

pub returns-then-h-eq0 : goal.returns-then-h-eq0
returns-then-h-eq0 c = (search (has_lack, rules), search rules, search rules)

pub returns : goal.returns
returns c = (search (has_some, rules), search (taken_some, rules), search (given_some, rules))
