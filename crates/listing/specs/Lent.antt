-- The lent tables kids, facts and find, and the bytes lent for the lines, as a contract names them: before the call with the run or the answer that it is
-- handed, after it with what it answers.
use Rattle.std.specs.Prelude.{List, ℕ}
use Rattle.arena.specs.Calls.{Out, made_of}
use Rattle.arena.specs.declared.Made.{Made}
use Rattle.listing.specs.declared.Run.{Run}
use Rattle.listing.specs.declared.Ran.{Ran}
use Rattle.listing.specs.declared.Step.{Step}
use Rattle.listing.specs.declared.Lined.{Lined}
use Rattle.listing.specs.Listing.{State, state_of, Stepped, Progress, Told}

abbrev pub before : Run → List ℕ → List ℕ → List ℕ → State
before r k f e = state_of r k f e

abbrev pub after : Run → List ℕ → List ℕ → List ℕ → State
after r k f e = state_of r k f e

-- the answer to a record of the run, which the call is handed
abbrev pub handed : Run → Made → List ℕ → List ℕ → List ℕ → Out
handed r m k f e = made_of r.arena.capacity m k f e

-- what the start, one record and a block answered and left
abbrev pub stepped : Step → List ℕ → List ℕ → List ℕ → Stepped
stepped r k f e = record { state = after r.run k f e; no = r.no }

abbrev pub lined : Lined → List ℕ → List ℕ → List ℕ → List ℕ → Progress
lined r k f e o = record { state = after r.run k f e; len = r.len; out = o }

abbrev pub told : Ran → List ℕ → List ℕ → List ℕ → List ℕ → Told
told r k f e o = record { state = after r.run k f e; records = r.records; len = r.len; out = o }
