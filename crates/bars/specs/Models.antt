-- What the private functions come to. No reader has to believe them: the public contract cites `Bars`.
use Rattle.std.specs.Prelude.{ℕ, eqb}
use Rattle.basics.specs.Limits.{deepest}
use Rattle.basics.specs.Pick.{pick}
use Rattle.paths.specs.declared.IVec3.{IVec3}
use Rattle.arena.specs.Tables.{Tables}
use Rattle.arena.specs.Calls.{Out, said, release_of}
use Rattle.edit.specs.Edit.{edit_of}
use Rattle.bars.specs.Bars.{pass_of}

-- the passing root edited, and then released
unfoldable pub next_of : Tables → ℕ → ℕ → IVec3 → ℕ → Out
next_of t r d p v = let o = edit_of t r d p v in said o.no o.id (release_of deepest o.after r).after

-- from an answer on: k cells more if it was accepted
unfoldable pub on_of : ℕ → ℕ → ℕ → ℕ → Out → ℕ → ℕ → Out
on_of d y z v o x k = pick (eqb o.no 0) (pass_of d y z v o.after o.id x k) o
