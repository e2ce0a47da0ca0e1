use Rattle.std.proofs.Common.{◌≡◌, length, drop}
use Rattle.arena.specs.Calls.{each}
use Rattle.arena.specs.Models.{bumped}
use Rattle.arena.proofs.bump_all.Given as goal

-- those from number i on, counted onto what is there now, come to all eight counted onto what was there
abbrev pub invariant-loop-id : goal.invariant-loop-id
invariant-loop-id l = (length l.fn.ids ≡ 8) × (each (bumped l.f) l.fn.facts l.fn.ids ≡ each (bumped l.f) l.facts (drop l.id-index l.fn.ids))
