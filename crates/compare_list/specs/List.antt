-- The list of the differing cells, as it is written.
use Rattle.std.specs.Prelude.{List, map, ℕ, leb, eqb, length}
use Rattle.basics.specs.Limits.{deepest, cube_kids}
use Rattle.basics.specs.Pick.{pick}
use Rattle.basics.specs.Puts.{puts_from}
use Rattle.nodes.specs.Words.{Words}
use Rattle.compare_pairs.specs.Differing.{Differs, differing, opened}
use Rattle.compare_list.specs.declared.Found.{Found}

-- how many cells differ, how many pairs were opened, and the three parts of the lent list afterwards
pub record Written : Type 0 where
  pub count : ℕ
  pub opened : ℕ
  pub codes : List ℕ
  pub lefts : List ℕ
  pub rights : List ℕ

abbrev pub written : ℕ → ℕ → List ℕ → List ℕ → List ℕ → Written
written m o c l r = record { count = m; opened = o; codes = c; lefts = l; rights = r }

-- what a call answered, and the parts as it left them
abbrev pub wrote : Found → List ℕ → List ℕ → List ℕ → Written
wrote x c l r = written x.cells x.opened c l r

-- the cells ds at the start of the list: codes, left values, right values. Places past the last stay as they were
unfoldable pub cells_written : List Differs → ℕ → List ℕ → List ℕ → List ℕ → Written
cells_written ds o c l r =
    written (length ds) o (puts_from c 0 (map (λ e. e.code) ds)) (puts_from l 0 (map (λ e. e.left) ds)) (puts_from r 0 (map (λ e. e.right) ds))

-- the differing cells of a and b at depth d, written; nothing where the parts differ in length or the depth is above 6
unfoldable pub written_of : Words → ℕ → ℕ → ℕ → List ℕ → List ℕ → List ℕ → Written
written_of W a b d c l r =
    pick (eqb (length l) (length c))
    (pick (eqb (length r) (length c))
    (pick (leb d deepest) (cells_written (differing cube_kids W d a b) (opened cube_kids W d a b) c l r) (written 0 0 c l r))
    (written 0 0 c l r))
    (written 0 0 c l r)
