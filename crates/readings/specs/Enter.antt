-- A reading entered: what the call answers and leaves. What a record asks for, with refusals 2, 13, 14 and 3, is said of its bytes alone in the crate metres,
-- and what a bar of edits comes to in the crate bars; a shot is a bar of one cell, which is the edit.
use Rattle.std.specs.Prelude.{Option, Result, List, ℕ, ◌-◌, eqb}
use Rattle.basics.specs.Pick.{pick}
use Rattle.metres.specs.Record.{aim_of}
use Rattle.std.specs.declared.option.Option.TheVariants.{Some, None}
use Rattle.std.specs.declared.result.Result.TheVariants.{Ok, Err}
use Rattle.basics.specs.declared.Refusal.{Refusal}
use Rattle.basics.specs.Refusals.{number}
use Rattle.metres.specs.declared.Cells.{Cells}
use Rattle.arena.specs.Tables.{Tables}
use Rattle.arena.specs.Calls.{Out, said, refused, fits, hold_no, hold_of}
use Rattle.bars.specs.Bars.{bar_of, bar_ends}

-- a pause changes nothing: its answer is the old root with one new hold. Refusals 1, 4 and 10, as of a hold
unfoldable pub pause_of : Tables → ℕ → Out
pause_of t root = pick (eqb (hold_no t root) 0) (said 0 root (hold_of t root).after) (refused (hold_no t root) t)

-- what a record asks for, done: nothing, the cells from the first x to the last at y and z edited to the value, or a refusal
unfoldable pub asked_of : Tables → ℕ → ℕ → Result (Option Cells) Refusal → Out
asked_of t root d (Ok None) = pause_of t root
asked_of t root d (Ok (Some cells)) = bar_of t root d cells.y cells.z cells.first (cells.last - cells.first) cells.value
asked_of t root d (Err refusal) = refused (number refusal) t

-- the record of the bytes l entered below the root, at depth d, with an edge of 2^-k metres: refusal 1, then those of the record, then those of the root and
-- of the edits
unfoldable pub enter_of : Tables → ℕ → ℕ → ℕ → List ℕ → Out
enter_of t root d k l = pick (fits t) (asked_of t root d (aim_of l k d)) (refused 1 t)

-- ## How often it recycles the slot s: as often as its bar does

unfoldable pub asked_ends : Tables → ℕ → ℕ → Result (Option Cells) Refusal → ℕ → ℕ
asked_ends t root d (Ok None) s = 0
asked_ends t root d (Ok (Some cells)) s = bar_ends t root d cells.y cells.z cells.first (cells.last - cells.first) cells.value s
asked_ends t root d (Err refusal) s = 0

unfoldable pub enter_ends : Tables → ℕ → ℕ → ℕ → List ℕ → ℕ → ℕ
enter_ends t root d k l s = pick (fits t) (asked_ends t root d (aim_of l k d) s) 0
