-- invariant: the first c parts are filled
use Prim.Native.Nat.{◌+◌, ◌*◌}
use mathlib.Core.Path.{◌≡◌}
use lib.ListN.{length}
use Rattle.nodes.specs.Words.{nodes, word_of, slot}
use Rattle.read_cube.specs.Models.{parts_to}
use Rattle.read_cube.proofs.+fill_octant_fill_octants.Given as goal

-- twice the levels left, and one more between
abbrev pub decreases-fill_octant : goal.decreases-fill_octant
decreases-fill_octant l = 2 * l.left

abbrev pub decreases-fill_octants : goal.decreases-fill_octants
decreases-fill_octants l = 2 * l.left + 1

abbrev pub invariant-fill_octants-loop-c : goal.invariant-fill_octants-loop-c
invariant-fill_octants-loop-c l =
    (l.cube ≡ parts_to (word_of (nodes l.seen.kids.now l.seen.facts.now)) 8 l.row l.plane l.left l.h l.fn.id l.at l.c l.initial.cube) × (length l.cube ≡ length l.initial.cube) × (l.s ≡ slot l.fn.id)
