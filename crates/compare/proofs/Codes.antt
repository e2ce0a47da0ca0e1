-- The path code of 01 is the code of its cell: the digits of the one are the path of the other.
use mathlib.Core.Path.{◌≡◌, ◌∙◌, refl, sym, ap}
use mathlib.Core.List.{List, ◌∷◌}
use Prim.Native.Nat.{ℕ, zero, suc, ◌+◌, ◌*◌, ◌-◌, ◌^◌, ◌≤◌, ◌<◌}
use native.Mathlib.Nat.{pow-succ', mod-eq_of_lt, lt_of_lt_of_le}
use native.Mathlib.Omega.{arith}
use lib.Pow.{pow-add, pow_mono}
use Rattle.basics.specs.Bits.{bit}
use Rattle.paths.specs.Paths.{interleave, low10, path_of, octant, gather}
use Rattle.paths.proofs.Bits.{bit_past}
use Rattle.paths.proofs.Laws.{path_lt, path_gather, gather_lt}
use Rattle.tree.specs.Cells.{path_by, cube_path, At, way}
use Rattle.tree.proofs.CellLaws.{cube_one}
use Rattle.calls.specs.Cells.{spot}
use Rattle.compare_pairs.specs.Differing.{cell_of}
use Rattle.compare_pairs.proofs.Differing.{cell_end, cell_down}

eights : (d : ℕ) → 8 ^ d ≡ 2 ^ (3 * d)
eights zero = refl
eights (suc d) =
    let e : 3 * suc d ≡ 3 + 3 * d = omega arith in
    let p : 2 ^ (3 + 3 * d) ≡ 2 ^ 3 * 2 ^ (3 * d) = pow-add 2 3 (3 * d) in
    rw (pow-succ' 8 d, e) (omega (arith, eights d))

code_lt : (d x y z : ℕ) → interleave d x y z < 8 ^ d
code_lt d x y z = rw (eights d) (path_lt d x y z)

-- the highest digit is the first child number
code_up : (d x y z : ℕ) → interleave (suc d) x y z ≡ octant d x y z * 8 ^ d + interleave d x y z
unfolding interleave octant
code_up d x y z =
    let p : 2 ^ (3 * d + 1) ≡ 2 ^ (3 * d) * 2 ^ 1 = pow-add 2 (3 * d) 1 in
    let q : 2 ^ (3 * d + 2) ≡ 2 ^ (3 * d) * 2 ^ 2 = pow-add 2 (3 * d) 2 in
    rw (eights d, p, q) (omega arith)

code_cell : (d x y z : ℕ) → cell_of 8 d (interleave d x y z) ≡ cube_path d x y z
unfolding path_by
code_cell zero x y z = cell_end 8 (interleave 0 x y z)
code_cell (suc d) x y z =
    ap (cell_of 8 (suc d)) (code_up d x y z) ∙ cell_down 8 d (octant d x y z) (interleave d x y z) (code_lt d x y z)
    ∙ ap (λ (p : List ℕ). octant d x y z ∷ p) (code_cell d x y z)

-- bits from d on are 0
more_bits : (d e x y z : ℕ) → x < 2 ^ d → y < 2 ^ d → z < 2 ^ d → interleave (e + d) x y z ≡ interleave d x y z
unfolding interleave
more_bits d zero x y z hx hy hz = let q : 0 + d ≡ d = omega arith in ap (λ (k : ℕ). interleave k x y z) q
more_bits d (suc e) x y z hx hy hz =
    let q : suc e + d ≡ suc (e + d) = omega arith in
    let ex : bit (e + d) x ≡ 0 = bit_past d (e + d) x hx (omega arith) in
    let ey : bit (e + d) y ≡ 0 = bit_past d (e + d) y hy (omega arith) in
    let ez : bit (e + d) z ≡ 0 = bit_past d (e + d) z hz (omega arith) in
    ap (λ (k : ℕ). interleave k x y z) q ∙ rw (ex, ey, ez) (omega (arith, more_bits d e x y z hx hy hz))

module _ {d : ℕ} (h : d ≤ 10) where
  path_is : (s : At d) → path_of (spot s) ≡ interleave d s.x s.y s.z
  unfolding path_of low10
  path_is s =
      let k : 2 ^ d ≤ 2 ^ 10 = pow_mono h in
      let q : 10 ≡ (10 - d) + d = omega arith in
      rw (mod-eq_of_lt (lt_of_lt_of_le s.in_x k), mod-eq_of_lt (lt_of_lt_of_le s.in_y k), mod-eq_of_lt (lt_of_lt_of_le s.in_z k))
      (ap (λ (i : ℕ). interleave i s.x s.y s.z) q ∙ more_bits d (10 - d) s.x s.y s.z s.in_x s.in_y s.in_z)

  pub path_small : (s : At d) → path_of (spot s) < 8 ^ d
  path_small s = rw (path_is s) (code_lt d s.x s.y s.z)

  -- the cell of a path code is the cell that has it
  pub path_cell : (s : At d) → cell_of 8 d (path_of (spot s)) ≡ way s
  path_cell s = ap (cell_of 8 d) (path_is s) ∙ code_cell d s.x s.y s.z

  -- every code below 8^d is the path code of a cell
  pub coded_cell : (c : ℕ) → c < 8 ^ d → (s : At d) × (path_of (spot s) ≡ c)
  coded_cell c l =
      let s : At d =
      record {
        x = gather d 0 c;
        y = gather d 1 c;
        z = gather d 2 c;
        in_x = gather_lt d 0 c;
        in_y = gather_lt d 1 c;
        in_z = gather_lt d 2 c;
      } in
      (s, path_is s ∙ path_gather d c (rw (eights d) at l))

  -- cells of one path code are one
  pub code_one : (s c : At d) → path_of (spot s) ≡ path_of (spot c) → (s.x ≡ c.x) × (s.y ≡ c.y) × (s.z ≡ c.z)
  code_one s c e =
      cube_one d s.in_x s.in_y s.in_z c.in_x c.in_y c.in_z (sym (path_cell s) ∙ ap (cell_of 8 d) e ∙ path_cell c)
