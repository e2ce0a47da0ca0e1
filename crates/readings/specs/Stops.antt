-- Where a bar stops: at the first of its cells whose edit is refused.
use Rattle.std.specs.Prelude.{◌≡◌, ℕ, zero, suc, ◌+◌, ◌≤◌}
use Rattle.paths.specs.Paths.{place}
use Rattle.arena.specs.Tables.{Tables}
use Rattle.arena.specs.Calls.{Out, said}
use Rattle.edit.specs.Edit.{edit_of}
use Rattle.bars.specs.Bars.{bar_of}

-- from what the cell number j of a bar is edited, counted from 0: the caller's tables and root at first, and then what the cells before it came to
unfoldable pub reached_of : Tables → ℕ → ℕ → ℕ → ℕ → ℕ → ℕ → ℕ → Out
reached_of t root d y z x zero v = said 0 root t
reached_of t root d y z x (suc j) v = bar_of t root d y z x j v

-- one of the cells from x to x + k is the first whose edit is refused, with the number n
pub record Stops (t : Tables) (root d y z x k v n : ℕ) : Type 0 where
  pub cell : ℕ
  pub within : cell ≤ k
  pub so_far : (reached_of t root d y z x cell v).no ≡ 0
  pub number : (edit_of (reached_of t root d y z x cell v).after (reached_of t root d y z x cell v).id d (place (x + cell) y z) v).no ≡ n
