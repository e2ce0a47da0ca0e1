use Rattle.std.proofs.Common.{◌≡◌, ℕ, List}
use Rattle.nodes.specs.Words.{kid_of, mark}
use Rattle.nodes.specs.Tally.{kids_of}
use Rattle.arena.specs.Calls.{each}
use Rattle.arena.specs.Models.{bumped}
use Rattle.check_freed.proofs.Passes.{turn_first, turn_next}
use Rattle.check_places.specs.Models.{kids_bumped}
use Rattle.check_places.proofs.count_all.Goals as goal

turn : (k l m ks : List ℕ) (s : ℕ) → ks ≡ kids_of 8 (kid_of k) s → m ≡ each (bumped mark) l ks → m ≡ kids_bumped k l s
unfolding kids_bumped
turn k l m ks s q d = rw (d, q)

pub loop-s-init : goal.loop-s-init
loop-s-init c = turn_first _ _

pub loop-s-preserved : goal.loop-s-preserved
loop-s-preserved c = turn_next _ _ _ _ _ c.loop-s.invariant (turn _ _ _ _ _ c.children.ensures c.bump_all.ensures)
