-- so far the first c places, each with at most 8^left cells
use Prim.Native.Nat.{◌+◌, ◌*◌, ◌^◌, ◌≤◌}
use mathlib.Core.Path.{◌≡◌}
use Rattle.arena.specs.Seen.{seen_in}
use Rattle.arena.specs.Tables.{W}
use Rattle.compare_count.specs.Models.{places_count}
use Rattle.compare_count.proofs.+count_pair_count_places.Given as goal

-- twice the levels left, and one more between
abbrev pub decreases-count_pair : goal.decreases-count_pair
decreases-count_pair l = 2 * l.left

abbrev pub decreases-count_places : goal.decreases-count_places
decreases-count_places l = 2 * l.left + 1

abbrev pub invariant-count_places-loop-c : goal.invariant-count_places-loop-c
invariant-count_places-loop-c l = (l.cells ≤ l.c * 8 ^ l.left) × (l.cells ≡ places_count (W (seen_in l.seen)) l.left l.a l.b l.c)
