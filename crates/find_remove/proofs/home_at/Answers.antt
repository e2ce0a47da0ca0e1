use Rattle.std.proofs.Common.{ap, ◌∙◌}
use Rattle.find_hash.specs.Hash.{home_in}
use Rattle.find.specs.Content.{home_at}
use Rattle.find_remove.proofs.home_at.Goals as goal

pub returns : goal.returns
unfolding home_at
returns c = c.home_in.ensures ∙ ap (home_in c.args.capacity) c.fact.ensures
