-- What the private functions answer and leave, of any tables: mirrors of the code. No reader has to believe them.
use Rattle.std.specs.Prelude.{ℕ, eqb, leb}
use Rattle.basics.specs.Pick.{pick}
use Rattle.nodes.specs.Words.{holds, slot}
use Rattle.nodes.specs.Values.{height_at}
use Rattle.paths.specs.declared.Cell.{Cell}
use Rattle.arena.specs.Tables.{Tables, tables, W}
use Rattle.arena.specs.Calls.{Out, said, refused, full_of, free_slots}
use Rattle.arena.specs.Models.{bumped}
use Rattle.read_cell.specs.Models.{look_no_at}
use Rattle.edit_way.specs.Models.{way_of}
use Rattle.edit_way.specs.declared.Way.{Way}
use Rattle.edit_plan.specs.Models.{plan_on}
use Rattle.edit_plan.specs.declared.Plan.{Plan}
use Rattle.edit_make.specs.Models.{make_on}

-- refusals 10 and 11
unfoldable pub grant_by : Tables → Plan → ℕ
grant_by t b =
    pick (eqb b.new 0) (pick (eqb b.id 0) 0 (pick (full_of (W t) (slot b.id)) 10 0))
    (pick (leb b.new (free_slots t.arena)) 0 11)

-- refusals 1, 2, 3, 4 and 8
unfoldable pub edit_no_at : Tables → ℕ → Cell → ℕ
edit_no_at t root c =
    pick (eqb (look_no_at t root c) 0) (pick (leb (height_at (W t) root) c.depth) 0 8) (look_no_at t root c)

-- a result that is there gets a hold; else it is made along the way
unfoldable pub answer_by : Tables → ℕ → Way → ℕ → Plan → Out
answer_by t v w d b =
    pick (eqb b.new 0) (said 0 b.id (tables t.arena t.nodes.kids (bumped holds t.nodes.facts b.id) t.find)) (make_on t v w d b)

-- once the refusals before 10 are past
unfoldable pub edit_past : Tables → ℕ → Way → ℕ → Plan → Out
edit_past t v w d b = pick (eqb (grant_by t b) 0) (answer_by t v w d b) (refused (grant_by t b) t)

unfoldable pub edit_by : Tables → ℕ → Cell → ℕ → Out
edit_by t root c v =
    let w = way_of (W t) c root in pick (eqb (edit_no_at t root c) 0) (edit_past t v w c.depth (plan_on t v c root w)) (refused (edit_no_at t root c) t)
