-- Cells by coordinates, and the paths that lead to them.
use Rattle.std.specs.Prelude.{◌≡◌, List, [], ◌∷◌, ℕ, zero, suc, ◌+◌, ◌*◌, ◌^◌, ◌<◌}
use Rattle.basics.specs.Bits.{bit}
use Rattle.paths.specs.declared.Cell.{Cell}
use Rattle.paths.specs.Paths.{octant}

-- the child number at bit b in a flat sheet, as `octant` in a cube
unfoldable pub quadrant : ℕ → ℕ → ℕ → ℕ
quadrant b x y = bit b x + 2 * bit b y

-- the path f (d - 1), f (d - 2), .., f 0 from the root down: level k takes the child number of bit d - 1 - k
unfoldable pub path_by : (ℕ → ℕ) → ℕ → List ℕ
path_by f zero = []
path_by f (suc d) = f d ∷ path_by f d

-- the path of the cell (x, y, z) at depth d, and of (x, y) in a sheet
abbrev pub cube_path : ℕ → ℕ → ℕ → ℕ → List ℕ
cube_path d x y z = path_by (λ b. octant b x y z) d

abbrev pub sheet_path : ℕ → ℕ → ℕ → List ℕ
sheet_path d x y = path_by (λ b. quadrant b x y) d

-- the path of a cell as the code has it
abbrev pub path_to : Cell → List ℕ
path_to c = cube_path c.depth c.x c.y c.z

-- ## The cells of a cube

-- a cell of a cube of depth d
pub record At (d : ℕ) : Type 0 where
  pub x : ℕ
  pub y : ℕ
  pub z : ℕ
  pub in_x : x < 2 ^ d
  pub in_y : y < 2 ^ d
  pub in_z : z < 2 ^ d

abbrev pub way : {d : ℕ} → At d → List ℕ
way {d} c = cube_path d c.x c.y c.z

-- two cells differ in a coordinate
abbrev pub Apart : {d : ℕ} → At d → At d → Type 0
Apart c e = ¬ ((c.x ≡ e.x) × (c.y ≡ e.y) × (c.z ≡ e.z))
