-- What each private function does, step by step. Nobody has to believe these: the laws carry them to the specs of crate read_cell.
use Rattle.std.specs.Prelude.{ℕ, zero, suc, ◌+◌, ◌*◌, ◌/◌, ◌%◌, ◌^◌, List, leb, eqb, length, get_or, set}
use Rattle.basics.specs.Limits.{cube_kids}
use Rattle.basics.specs.Pick.{pick}
use Rattle.nodes.specs.Words.{Words}
use Rattle.tree.specs.Tree.{child_of}
use Rattle.ids.specs.Ids.{is_end}
use Rattle.read_cell.specs.Models.{val}

-- On the list of the cube: cells lie side by side in a row, rows `row` apart, planes `plane` apart

-- f 0, then f 1, .., then f (n - 1)
unfoldable pub times : (ℕ → List ℕ → List ℕ) → ℕ → List ℕ → List ℕ
times f zero l = l
times f (suc i) l = f i (times f i l)

-- n cells from `at`
unfoldable pub fill_row : ℕ → ℕ → ℕ → List ℕ → List ℕ
fill_row at n u l = times (λ x m. set m (at + x) u) n l

-- w rows of n
unfoldable pub fill_plane : ℕ → ℕ → ℕ → ℕ → ℕ → List ℕ → List ℕ
fill_plane row at n w u l = times (λ z m. fill_row (at + z * row) n u m) w l

-- n planes of w rows of n
unfoldable pub fill_block : ℕ → ℕ → ℕ → ℕ → ℕ → ℕ → List ℕ → List ℕ
fill_block row plane at n w u l = times (λ y m. fill_plane row (at + y * plane) n w u m) n l

-- the rows in each plane of a block: as many as its side in a cube, one in a sheet
unfoldable pub thick : ℕ → ℕ → ℕ
thick n side = pick (eqb n cube_kids) side 1

-- how far part c of side h lies from the corner
unfoldable pub offset : ℕ → ℕ → ℕ → ℕ → ℕ
offset row plane h c = c % 2 * h + c / 2 % 2 * (h * plane) + c / 4 * (h * row)

-- the n parts in turn, one level lower, of cells that are 0: EMPTY leaves them so
unfoldable pub grow : Words → ℕ → ℕ → ℕ → ℕ → ℕ → ℕ → ℕ → List ℕ → List ℕ
grow W n row plane zero side a at l = set l at (val W a)
grow W n row plane (suc k) side a at l =
    pick (eqb a 0) l
    (pick (is_end a) (fill_block row plane at side (thick n side) (val W a) l)
    (times (λ c m. grow W n row plane k (side / 2) (child_of W a c) (at + offset row plane (side / 2) c) m) n l))

-- the first c parts of a branch, h their side and k the levels below them
abbrev pub parts_to : Words → ℕ → ℕ → ℕ → ℕ → ℕ → ℕ → ℕ → ℕ → List ℕ → List ℕ
parts_to W n row plane k h a at c l = times (λ i m. grow W n row plane k h (child_of W a i) (at + offset row plane h i) m) c l

-- the values of a and b, side by side
unfoldable pub pair_of : Words → ℕ → ℕ → ℕ → List ℕ → List ℕ
pair_of W a b at l = set (set l at (val W a)) (at + 1) (val W b)

-- the values of the eight ids r, as parts that are single cells
unfoldable pub eight_of : Words → List ℕ → ℕ → ℕ → ℕ → List ℕ → List ℕ
eight_of W r row plane at l =
    pair_of W (get_or r 6 0) (get_or r 7 0) (at + plane + row) (pair_of W (get_or r 4 0) (get_or r 5 0) (at + row)
    (pair_of W (get_or r 2 0) (get_or r 3 0) (at + plane) (pair_of W (get_or r 0 0) (get_or r 1 0) at l)))

-- the whole cube of side s: one value where the root is a leaf, else 0 and then its octants
unfoldable pub cube_from : Words → ℕ → ℕ → ℕ → List ℕ → List ℕ
cube_from W s d a l =
    pick (leb (2 ^ 63) a) (fill_row 0 (length l) (val W a) l) (grow W cube_kids s (s * s) d s a 0 (fill_row 0 (length l) 0 l))
