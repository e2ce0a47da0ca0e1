use Rattle.read_cell.specs.Calls.{expand_no}
use Rattle.read_cell.proofs.Calls.{climb}
use Rattle.read_cube.proofs.may_expand.Goals as goal

pub returns-then-not-fit : goal.returns-then-not-fit
unfolding expand_no
returns-then-not-fit c = search climb depth 16

pub returns-then-depth-gt-DEEPEST_CUBE : goal.returns-then-depth-gt-DEEPEST_CUBE
unfolding expand_no
returns-then-depth-gt-DEEPEST_CUBE c = search climb depth 16

pub returns-then-not-is_live_or_empty : goal.returns-then-not-is_live_or_empty
unfolding expand_no
returns-then-not-is_live_or_empty c = search climb depth 16

pub returns-then-not-is_cube : goal.returns-then-not-is_cube
unfolding expand_no
returns-then-not-is_cube c = search climb depth 16

pub returns : goal.returns
unfolding expand_no
returns c = search climb depth 16
