use Rattle.arena.proofs.Releasing.{release_law}
use Rattle.arena_release.proofs.release.Goals as goal

pub returns-in-Ok : goal.returns-in-Ok
returns-in-Ok c = rw c.done.ensures (λ n tallest m l f. release_law _ _ _ c.in-Ok.ensures m l f)

pub returns-in-Err : goal.returns-in-Err
returns-in-Err c = rw c.refused.ensures (λ n tallest m l f. release_law _ _ _ c.in-Err.ensures m l f)
