-- The first i records are entered and their lines written, and there is room for the rest.
use Rattle.listing.proofs.Blocks.{Loop}
use Rattle.listing.proofs.list_records.Given as goal

abbrev pub invariant-loop-i : goal.invariant-loop-i
invariant-loop-i g l =
    Loop (g.K.Kind.records l.fn.kind) l.fn.count l.fn.run l.fn.kids l.fn.facts l.fn.find l.fn.bytes l.fn.out l.records l.run l.kids l.facts l.find l.out l.i l.len
