use Rattle.std.proofs.Common.{◌≡◌, ◌+◌, ◌*◌, length, drop}
use Rattle.arena.specs.Calls.{each}
use Rattle.arena.specs.Models.{gone_by, drop_place}
use Rattle.arena.specs.Tables.{state_in, tables}
use Rattle.arena_release.proofs.+drop_all_drop_slot.Given as goal

-- twice the levels, and one more between
abbrev pub decreases-drop_all : goal.decreases-drop_all
decreases-drop_all l = 2 * l.levels + 1

abbrev pub decreases-drop_slot : goal.decreases-drop_slot
decreases-drop_slot l = 2 * l.levels

-- the ids from the next one on, dropped from the tables as they are, leave what all eight, dropped from the tables as they were, leave
abbrev pub invariant-drop_all-loop-id : goal.invariant-drop_all-loop-id
invariant-drop_all-loop-id l =
    (length l.fn.ids ≡ 8)
    × (each (drop_place gone_by (l.levels + 1)) (tables (state_in l.capacity l.slots) l.fn.kids l.fn.facts l.fn.find) l.fn.ids
    ≡ each (drop_place gone_by (l.levels + 1)) (tables (state_in l.capacity l.gone) l.kids l.facts l.find) (drop l.id-index l.fn.ids))
