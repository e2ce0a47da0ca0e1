-- invariant: the first c parts are filled
use mathlib.Core.Path.{◌≡◌}
use lib.ListN.{length}
use Rattle.nodes.specs.Words.{nodes, word_of, slot}
use Rattle.read_cube.specs.Models.{parts_to}
use Rattle.read_cube.proofs.fill_smalls.Given as goal

abbrev pub invariant-loop-c : goal.invariant-loop-c
invariant-loop-c l =
    (l.cube ≡ parts_to (word_of (nodes l.kids l.facts)) 8 l.row l.plane 1 2 l.fn.id l.at l.c l.initial.cube) × (length l.cube ≡ length l.initial.cube) × (l.s ≡ slot l.fn.id)
