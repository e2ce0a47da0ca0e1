use Rattle.read_cell.specs.Models.{look_no_at}
use Rattle.read_cell.proofs.Calls.{climb}
use Rattle.read_cell.proofs.may_look.Goals as goal

pub returns-then-not-fit : goal.returns-then-not-fit
unfolding look_no_at
returns-then-not-fit c = search climb depth 16

pub returns-then-cell-gt-DEEPEST : goal.returns-then-cell-gt-DEEPEST
unfolding look_no_at
returns-then-cell-gt-DEEPEST c = search climb depth 16

pub returns-then-not-is_inside : goal.returns-then-not-is_inside
unfolding look_no_at
returns-then-not-is_inside c = search climb depth 16

pub returns-then-not-is_live_or_empty : goal.returns-then-not-is_live_or_empty
unfolding look_no_at
returns-then-not-is_live_or_empty c = search climb depth 16

pub returns : goal.returns
unfolding look_no_at
returns c = search climb depth 16
