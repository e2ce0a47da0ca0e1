use Rattle.std.proofs.Common.{◌≡◌, ◌<◌, length}
use Rattle.nodes.specs.Words.{fact_of}
use Rattle.find.specs.Cells.{shift, erase}
use Rattle.find.specs.Content.{home_at}
use Rattle.find_remove.proofs.erase_at.Given as goal

-- taking the cell out leaves what moving the entries from j on down into the hole leaves
abbrev pub invariant-loop-j : goal.invariant-loop-j
invariant-loop-j l = record {
  above : l.hole < l.j;
  inside : l.hole < length l.find;
  rest : erase (home_at l.fn.capacity (fact_of l.fn.facts)) l.fn.find l.fn.at ≡ shift (home_at l.fn.capacity (fact_of l.fn.facts)) l.find l.hole l.j;
}
