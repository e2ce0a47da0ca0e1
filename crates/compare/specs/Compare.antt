-- What comparison answers and leaves: request 8 of document 02.
use Rattle.std.specs.Prelude.{List, map, ℕ, leb, eqb, length, Result}
use Rattle.std.specs.declared.result.Result.TheVariants.{Ok, Err}
use Rattle.basics.specs.Limits.{deepest, cube_kids}
use Rattle.basics.specs.Pick.{pick}
use Rattle.basics.specs.Refusals.{number}
use Rattle.basics.specs.declared.Refusal.{Refusal}
use Rattle.nodes.specs.Values.{height_at}
use Rattle.arena.specs.Tables.{Tables, cap, W}
use Rattle.arena.specs.Calls.{fits, live_or_empty}
use Rattle.basics.specs.Puts.{puts_from}
use Rattle.compare_pairs.specs.Differing.{Differs, differing, opened}
use Rattle.compare_list.specs.declared.Found.{Found}
use Rattle.compare.specs.declared.Compared.{Compared}

-- number, how many cells differ, how many pairs were opened, and the three parts of the lent list afterwards
pub record Outcome : Type 0 where
  pub no : ℕ
  pub count : ℕ
  pub opened : ℕ
  pub codes : List ℕ
  pub lefts : List ℕ
  pub rights : List ℕ

abbrev pub outcome : ℕ → ℕ → ℕ → List ℕ → List ℕ → List ℕ → Outcome
outcome k m o c l r = record { no = k; count = m; opened = o; codes = c; lefts = l; rights = r }

-- what the code answers, as C has it
abbrev pub answered : Result Found Refusal → Compared
answered (Ok found) = record { no = 0; count = found.cells; opened = found.opened }
answered (Err refusal) = record { no = number refusal; count = 0; opened = 0 }

-- what a call answered, and the parts as it left them
abbrev pub compared : Compared → List ℕ → List ℕ → List ℕ → Outcome
compared x c l r = outcome x.no x.count x.opened c l r

-- the cells of a cube of depth d in which the roots a and b differ, in rising path code; and the pairs opened
abbrev pub cells_of : Tables → ℕ → ℕ → ℕ → List Differs
cells_of t a b d = differing cube_kids (W t) d a b

abbrev pub opened_of : Tables → ℕ → ℕ → ℕ → ℕ
opened_of t a b d = opened cube_kids (W t) d a b

-- refusals 4 and 8, and then `k`: each root is EMPTY or live, and neither is taller than d
unfoldable pub roots_no : Tables → ℕ → ℕ → ℕ → ℕ → ℕ
roots_no t a b d k =
    pick (live_or_empty (cap t) (W t) a)
    (pick (live_or_empty (cap t) (W t) b) (pick (leb (height_at (W t) a) d) (pick (leb (height_at (W t) b) d) k 8) 8) 4)
    4

-- Refusals 1, 2, 4, 8 and 15, the lowest that applies. The list's parts are c, l and r long: 1 where they differ in length, 15 if more cells differ than it holds.
unfoldable pub compare_no : Tables → ℕ → ℕ → ℕ → ℕ → ℕ → ℕ → ℕ
compare_no t a b d c l r =
    pick (fits t)
    (pick (eqb l c) (pick (eqb r c) (pick (leb d deepest) (roots_no t a b d (pick (leb (length (cells_of t a b d)) c) 0 15)) 2) 1) 1)
    1

-- the cells ds at the start of the list: path codes, left values, right values. Places past the last stay as they were
unfoldable pub listed : List Differs → ℕ → List ℕ → List ℕ → List ℕ → Outcome
listed ds o c l r =
    outcome 0 (length ds) o (puts_from c 0 (map (λ e. e.code) ds)) (puts_from l 0 (map (λ e. e.left) ds)) (puts_from r 0 (map (λ e. e.right) ds))

-- the differing cells listed; or the refusal, with count and opened 0 and the list as it was lent
unfoldable pub compare_of : Tables → ℕ → ℕ → ℕ → List ℕ → List ℕ → List ℕ → Outcome
compare_of t a b d c l r =
    let no = compare_no t a b d (length c) (length l) (length r) in
    pick (eqb no 0) (listed (cells_of t a b d) (opened_of t a b d) c l r) (outcome no 0 0 c l r)
