-- What the private functions leave, of any tables: mirrors of the code, beside those in the crate arena's specs/Models.antt. No reader has to
-- believe them.
use Rattle.std.specs.Prelude.{Bool, true, false, List, ℕ, Result, ◌-◌, eqb}
use Rattle.std.specs.declared.result.Result.TheVariants.{Ok, Err}
use Rattle.basics.specs.Pick.{pick}
use Rattle.basics.specs.declared.Refusal.{Refusal}
use Rattle.nodes.specs.Words.{places, fact_of, fact_put, slot}
use Rattle.arena.specs.Models.{stays_of, gone_by, drop_place}
use Rattle.arena.specs.Tables.{Tables}

-- what `take_place_unless_last` answers, and the facts that it leaves
pub record Took : Type 0 where
  pub last : Bool
  pub facts : List ℕ

abbrev pub took : Bool → List ℕ → Took
took r f = record { last = r; facts = f }

-- one place taken from the node of id, if it stays; EMPTY has none
unfoldable pub take_of : List ℕ → ℕ → Took
take_of f id =
    pick (eqb id 0) (took false f)
    (pick (stays_of (fact_of f) (slot id)) (took false (fact_put f (slot id) places (fact_of f (slot id) places - 1))) (took true f))

-- slot s recycled, and its children dropped in turn, k levels down at most
abbrev pub drop_slot : ℕ → Tables → ℕ → Tables
drop_slot k t s = gone_by (drop_place gone_by k) t s

-- `slots` after a call that refuses, or answers what they are then
abbrev pub slots_after : ℕ → Result ℕ Refusal → ℕ
slots_after slots (Ok x) = x
slots_after slots (Err refusal) = slots
