use Rattle.basics.proofs.Rungs.{rungs}
use Rattle.compare_list.specs.List.{written_of}
use Rattle.compare_list.proofs.write_differing.Goals as goal

pub returns-then-lefts-codes : goal.returns-then-lefts-codes
unfolding written_of
returns-then-lefts-codes c = search rungs

pub returns : goal.returns
unfolding written_of
returns c = search rungs
