use Rattle.std.proofs.Common.{◌≡◌, ℕ, List, Bool}
use borrow.Author.Tests.{eq-eqb}
use Rattle.check_freed.proofs.Ladders.{ladder}
use Rattle.check_find.specs.Models.{cell_fine, named_at}
use Rattle.check_find.proofs.cell_fine.Goals as goal

moved : (k f e : List ℕ) (c x s p : ℕ) (t : Bool) → s ≡ x → t ≡ named_at k f e c s p → t ≡ named_at k f e c x p
moved k f e c x s p t q d = rw (d, q)

pub returns-then-s-eq0 : goal.returns-then-s-eq0
unfolding cell_fine
returns-then-s-eq0 c = search (ladder, eq-eqb) depth 12

pub returns-else-s-eq0 : goal.returns-else-s-eq0
unfolding cell_fine
returns-else-s-eq0 c = search (ladder, moved) depth 12
