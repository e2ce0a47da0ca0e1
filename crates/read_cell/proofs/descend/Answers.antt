use borrow.Author.Rules.{rules}
use native.Mathlib.Omega.{arith}
use Rattle.read_cell.proofs.Walk.{walk_start, walk_end}
use Rattle.read_cell.proofs.descend.Goals as goal

pub loop-level-init : goal.loop-level-init
loop-level-init c = (search rules, search walk_start)

pub returns : goal.returns
returns c =
    let l = c.loop-level in walk_end _ _ _ l.level l.at.0 l.invariant.1 l.invariant.0 (omega arith) (omega arith)
