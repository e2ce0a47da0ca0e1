-- the cells so far
use Rattle.std.proofs.Common.{◌≡◌, ℕ, ◌+◌, ◌<◌, ◌≤◌}
use Rattle.basics.specs.Limits.{cube_kids}
use Rattle.compare_list.specs.Lists.{Same}
use Rattle.compare_list.specs.Models.{Laid, eight_to}
use Rattle.compare_list.proofs.put_eight.Given as goal

abbrev pub invariant-loop-c : goal.invariant-loop-c
invariant-loop-c g l =
    (l.to ≤ l.base + l.c)
    × ((f h : ℕ → ℕ) → ((c y : ℕ) → c < cube_kids → goal.F-post g l.u c y → y ≡ f c) → ((c y : ℕ) → c < cube_kids → goal.G-post g l.v c y → y ≡ h c)
    → Laid l.at (eight_to l.base f h l.c) 0 l.to 0 l.initial.list.codes.now l.initial.list.lefts.now l.initial.list.rights.now l.list.codes.now l.list.lefts.now l.list.rights.now)
    × Same l.initial.list l.list
