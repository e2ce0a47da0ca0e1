use Rattle.compare_count.proofs.Steps.{counted, too_deep}
use Rattle.compare_count.proofs.count_differing.Goals as goal

pub returns-then-depth-gt-DEEPEST : goal.returns-then-depth-gt-DEEPEST
returns-then-depth-gt-DEEPEST c = search too_deep

pub returns : goal.returns
returns c = search counted
