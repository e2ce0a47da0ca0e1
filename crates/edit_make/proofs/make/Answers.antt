use Rattle.std.proofs.Common.{ℕ, ◌∙◌, ap}
use borrow.Author.Tests.{le-leb, lt-leb}
use Rattle.basics.specs.Limits.{deepest}
use Rattle.arena.specs.Calls.{refused}
use Rattle.arena.specs.Lent.{before}
use Rattle.edit_make.specs.Models.{make_on}
use Rattle.edit_make.proofs.make.Goals as goal

pub returns-then-depth-gt-DEEPEST : goal.returns-then-depth-gt-DEEPEST
unfolding make_on
returns-then-depth-gt-DEEPEST c =
    let t = before c.args.a c.args.kids.now c.args.facts.now c.args.find.now in
    rw (lt-leb c.args.depth deepest c.if-depth-gt-DEEPEST.true) (ap (λ (no : ℕ). refused no t) c.from.ensures)

pub returns : goal.returns
unfolding make_on
returns c =
    rw (le-leb c.args.depth deepest c.if-depth-gt-DEEPEST.false)
    (c.make_up.ensures ∙ rw (c.passed-digits.ensures, c.lowest_level-from.ensures.0, c.make_lowest-low.ensures))
