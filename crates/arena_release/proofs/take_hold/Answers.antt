use Rattle.arena_release.proofs.Dropping.{hold_stays, hold_goes}
use Rattle.arena_release.proofs.take_hold.Goals as goal

pub returns-then-take_place_unless_last : goal.returns-then-take_place_unless_last
returns-then-take_place_unless_last c = search hold_goes

pub returns : goal.returns
returns c = search hold_stays
