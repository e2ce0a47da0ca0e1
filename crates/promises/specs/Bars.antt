-- Bars among the calls: a bar is a run of calls, and it paints a run of cells of its root's plain cube.
use Rattle.std.specs.Prelude.{Bool, false, List, [], ◌∷◌, ℕ, zero, suc, ◌+◌, ◌^◌, ◌≤◌, ◌<◌, eqb, leb}
use Rattle.std.proofs.Common.{arith}
use Rattle.basics.specs.Pick.{pick}
use Rattle.tree.specs.Cells.{At}
use Rattle.arena.specs.Tables.{Tables}
use Rattle.calls.specs.Does.{Since}
use Rattle.promises.specs.Promises.{Cube, Step}
use Rattle.promises.specs.Runs.{Change}

-- u is what calls since t leave, accepted or refused
abbrev pub After : Tables → Tables → Type 0
After t u = (granted : ℕ → ℕ) × (taken : ℕ → ℕ) × (times : ℕ → ℕ) × Since Step t u granted taken times

-- the cell lies on the bar from a to b at y and z
unfoldable pub on_bar : {d : ℕ} → ℕ → ℕ → ℕ → ℕ → At d → Bool
on_bar y z a b s = pick (eqb s.y y) (pick (eqb s.z z) (pick (leb a s.x) (leb s.x b) false) false) false

-- the cube with the cells from a to b at y and z changed to v
unfoldable pub painted : {d : ℕ} → Cube d → ℕ → ℕ → ℕ → ℕ → ℕ → Cube d
painted F y z a b v s = pick (on_bar y z a b s) v (F s)

-- ## The changes that a bar enters

-- the first of n + 1 cells from x on lies inside, and so do the others
pub inside_first : (d n x : ℕ) → x + suc n ≤ 2 ^ d → x < 2 ^ d
inside_first d n x h = omega arith

pub inside_rest : (d n x : ℕ) → x + suc n ≤ 2 ^ d → suc x + n ≤ 2 ^ d
inside_rest d n x h = omega arith

-- the value v for the cell at x
abbrev pub bar_change : (d x y z v : ℕ) → x < 2 ^ d → y < 2 ^ d → z < 2 ^ d → Change d
bar_change d x y z v hx hy hz = record { cell = record { x = x; y = y; z = z; in_x = hx; in_y = hy; in_z = hz }; value = v }

-- the value v for each of the n cells from x on at y and z, which lie inside
unfoldable pub bar_changes : (d y z v : ℕ) → y < 2 ^ d → z < 2 ^ d → (n x : ℕ) → x + n ≤ 2 ^ d → List (Change d)
bar_changes d y z v hy hz zero x h = []
bar_changes d y z v hy hz (suc n) x h = bar_change d x y z v (inside_first d n x h) hy hz ∷ bar_changes d y z v hy hz n (suc x) (inside_rest d n x h)
