-- The bytes so far are digits and say k.
use Rattle.std.proofs.Common.{◌≡◌, ◌≤◌, drop}
use Rattle.survey.specs.Digits.{too_fine, edge_after, edge_of}
use Rattle.survey.proofs.edge_of.Given as goal

abbrev pub invariant-loop-byte : goal.invariant-loop-byte
invariant-loop-byte l = record {
  capped : l.k ≤ too_fine;
  said : edge_after l.k (drop l.byte-index l.text) ≡ edge_of l.text;
}
