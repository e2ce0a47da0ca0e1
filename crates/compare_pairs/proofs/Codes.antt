-- Cells and path codes: every code below n^d is a cell's, and every cell has one.
use mathlib.Core.Path.{◌≡◌, ◌∙◌, ap}
use mathlib.Core.List.{List, ◌∷◌}
use Prim.Native.Nat.{ℕ, zero, suc, ◌+◌, ◌*◌, ◌/◌, ◌%◌, ◌^◌, ◌<◌}
use native.Mathlib.Nat.{pow-succ', pow-zero, mul-le-mul_right, mul-zero, mod-lt, div-lt_iff_lt-mul}
use native.Mathlib.Decide.{ℕ_discrete}
use native.Mathlib.Omega.{arith}
use Rattle.nodes.proofs.Sums.{cases}
use Rattle.tree.specs.Tree.{Cell, here, down}
use Rattle.compare_pairs.specs.Differing.{cell_of}
use Rattle.compare_pairs.proofs.Differing.{cell_end, cell_down}

-- the code of a cell
pub record Coded (n d : ℕ) (p : List ℕ) : Type 0 where
  pub code : ℕ
  pub small : code < n ^ d
  pub cell : cell_of n d code ≡ p

-- the code of a cell below place i
pub code_lt : (n k i j : ℕ) → i < n → j < n ^ k → i * n ^ k + j < n ^ suc k
code_lt n k i j h l = rw (pow-succ' n k) (omega (arith, mul-le-mul_right (n ^ k) h))

coded_down : (n d i : ℕ) (p : List ℕ) → i < n → Coded n d p → Coded n (suc d) (i ∷ p)
coded_down n d i p h t =
    record {
      code = i * n ^ d + t.code;
      small = code_lt n d i t.code h t.small;
      cell = cell_down n d i t.code t.small ∙ ap (λ (q : List ℕ). i ∷ q) t.cell;
    }

pub coded : {n d : ℕ} {p : List ℕ} → Cell n d p → Coded n d p
coded {n} here = record { code = 0; small = omega (arith, pow-zero n); cell = cell_end n 0 }
coded {n} (down {d = d} {c = i} {p = p} h t) = coded_down n d i p h (coded t)

-- ---- and a code below n^d is a cell's

place_lt : (n w c : ℕ) → c < n * w → (c / w < n) × (c % w < w)
place_lt n w c h =
    let p : 0 < w = cases (ℕ_discrete w 0) (λ e. absurd (omega (arith, ap (λ (i : ℕ). n * i) e, mul-zero n))) (λ e. omega arith) in
    ((div-lt_iff_lt-mul p).1 h, mod-lt c p)

pub code_cell : (n d c : ℕ) → c < n ^ d → Cell n d (cell_of n d c)
unfolding cell_of
code_cell n zero c h = here
code_cell n (suc d) c h =
    let (i, j) = place_lt n (n ^ d) c (rw (pow-succ' n d) at h) in
    down i (code_cell n d (c % n ^ d) j)
