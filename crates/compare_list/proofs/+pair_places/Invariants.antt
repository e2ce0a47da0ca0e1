use Prim.Native.Nat.{◌+◌, ◌*◌, ◌≤◌}
use Rattle.arena.specs.Seen.{seen_in}
use Rattle.arena.specs.Tables.{W}
use Rattle.compare_list.specs.Lists.{Same}
use Rattle.compare_list.specs.Models.{Laid, places_to, opened_to}
use Rattle.compare_list.proofs.+pair_places.Given as goal

-- twice the levels left, and one more between
abbrev pub decreases-pair : goal.decreases-pair
decreases-pair l = 2 * l.left

abbrev pub decreases-places : goal.decreases-places
decreases-places l = 2 * l.left + 1

-- the places so far
abbrev pub invariant-places-loop-c : goal.invariant-places-loop-c
invariant-places-loop-c l =
    (l.to ≤ l.base + l.c * l.size) × (l.opened ≤ 1 + l.c * l.size)
    × Laid l.at (places_to (W (seen_in l.seen)) l.left l.base l.a l.b l.c) (opened_to (W (seen_in l.seen)) l.left l.a l.b l.c) l.to l.opened l.initial.list.codes.now l.initial.list.lefts.now l.initial.list.rights.now l.list.codes.now l.list.lefts.now l.list.rights.now
    × Same l.initial.list l.list
