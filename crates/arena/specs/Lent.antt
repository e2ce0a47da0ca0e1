-- The lent tables kids, facts and find, as a contract names them: before the call with the state that it is handed, after it with the state that it answers.
use Rattle.std.specs.Prelude.{List, ℕ}
use Rattle.arena.specs.Tables.{State, Tables, tables, state_of}
use Rattle.arena.specs.Calls.{Out, made_of, answered_of}
use Rattle.arena.specs.declared.Answer.{Answer}
use Rattle.arena.specs.declared.Arena.{Arena}
use Rattle.arena.specs.declared.Made.{Made}

abbrev pub before_in : State → List ℕ → List ℕ → List ℕ → Tables
before_in a k f e = tables a k f e

abbrev pub after_in : State → List ℕ → List ℕ → List ℕ → Tables
after_in a k f e = tables a k f e

abbrev pub before : Arena → List ℕ → List ℕ → List ℕ → Tables
before a k f e = before_in (state_of a) k f e

-- what a call that was handed the arena a answered and left: one that answers an id, and one that answers none
abbrev pub made : Arena → Made → List ℕ → List ℕ → List ℕ → Out
made a r k f e = made_of a.capacity r k f e

abbrev pub answered : Arena → Answer → List ℕ → List ℕ → List ℕ → Out
answered a r k f e = answered_of a.capacity r k f e
