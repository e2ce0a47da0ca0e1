use Rattle.arena.proofs.Eight.{each_end}
use Rattle.arena_release.proofs.Dropping.{again_last, again_taken, slot_all, slot_leaf, slot_none}
use Rattle.arena_release.proofs.+drop_all_drop_slot.Goals as goal
use Rattle.arena_release.proofs.+drop_all_drop_slot.Goals.{drop_all-then-take_place_unless_last, drop_all-else-take_place_unless_last}

pub drop_all-loop-id-preserved : goal.drop_all-loop-id-preserved
drop_all-loop-id-preserved t c =
    let i = c.loop-id.invariant in (
      i.0,
      elim c.if-take_place_unless_last.branch [
        | drop_all-then-take_place_unless_last w ↦ rw (w.kids-is, w.facts-is, w.find-is, w.gone-is) (search again_last)
        | drop_all-else-take_place_unless_last w ↦ rw (w.kids-is, w.facts-is, w.find-is, w.gone-is) (search again_taken)
      ],
    )

pub drop_all-returns : goal.drop_all-returns
drop_all-returns t c = search each_end

pub drop_slot-returns-then-up-eq0 : goal.drop_slot-returns-then-up-eq0
drop_slot-returns-then-up-eq0 t c = search slot_leaf

pub drop_slot-returns-then-levels-eq0 : goal.drop_slot-returns-then-levels-eq0
drop_slot-returns-then-levels-eq0 t c = search slot_none

pub drop_slot-returns : goal.drop_slot-returns
drop_slot-returns t c = search slot_all
