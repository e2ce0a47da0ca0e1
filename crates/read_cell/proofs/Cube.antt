-- The cube's list by its cells.
use Prim.Native.Nat.{ℕ, zero, suc, ◌+◌, ◌*◌, ◌/◌, ◌%◌, ◌^◌, ◌≤◌, ◌<◌}
use native.Mathlib.Nat.{mul-le-mul_right, div-add-mod', mod-lt, div-lt_iff_lt-mul, pow-suc, pow-succ', div-div-eq-div-mul}
use native.Mathlib.Omega.{arith}
use mathlib.Core.Path.{◌≡◌, ◌∙◌, refl, sym, ap, subst}
use mathlib.Core.List.{List}
use lib.Pow.{pow_pos, pow-add, shl_exact}
use lib.Arith.{digits_div, digits_mod}
use lib.ListN.{length, get_or}
use lib.Seq.{ext_get_or}
use Rattle.nodes.specs.Words.{Words}
use Rattle.nodes.proofs.Sums.{tab_from_length_lem, tab_at}
use Rattle.read_cell.specs.Reading.{read_at, cube_of}

-- ---- where cell (x, y, z) stands: s cells a row, t rows a plane (t is s for a cube, 1 for a sheet)

abbrev pub addr : ℕ → ℕ → ℕ → ℕ → ℕ → ℕ
addr s t x y z = y * (t * s) + z * s + x

pub addr_lt : (s t x y z : ℕ) → x < s → y < s → z < t → addr s t x y z < s * t * s
addr_lt s t x y z hx hy hz =
    let a : suc z * s ≤ t * s = mul-le-mul_right s hz in
    let b : suc y * (t * s) ≤ s * (t * s) = mul-le-mul_right (t * s) hy in
    omega arith

-- x, z and y are the digits of the address
addr_row : (s t x y z : ℕ) → addr s t x y z ≡ (y * t + z) * s + x
addr_row s t x y z = omega arith

pub addr_x : (s t x y z : ℕ) → x < s → addr s t x y z % s ≡ x
addr_x s t x y z h = rw (addr_row s t x y z) (digits_mod (y * t + z) h)

pub addr_z : (s t x y z : ℕ) → x < s → z < t → addr s t x y z / s % t ≡ z
addr_z s t x y z h k = rw (addr_row s t x y z, digits_div (y * t + z) h) (digits_mod y k)

pub addr_yz : (s t x y z : ℕ) → x < s → z < t → addr s t x y z / s / t ≡ y
addr_yz s t x y z h k = rw (addr_row s t x y z, digits_div (y * t + z) h) (digits_div y k)

pub record SameCell (x y z x' y' z' : ℕ) : Type 0 where
  pub ex : x ≡ x'
  pub ey : y ≡ y'
  pub ez : z ≡ z'

pub addr_one : (s t x y z x' y' z' : ℕ) → x < s → z < t → x' < s → z' < t → addr s t x y z ≡ addr s t x' y' z' → SameCell x y z x' y' z'
addr_one s t x y z x' y' z' h k h' k' e =
    record {
      ex = sym (addr_x s t x y z h) ∙ ap (λ (i : ℕ). i % s) e ∙ addr_x s t x' y' z' h';
      ey = sym (addr_yz s t x y z h k) ∙ ap (λ (i : ℕ). i / s / t) e ∙ addr_yz s t x' y' z' h' k';
      ez = sym (addr_z s t x y z h k) ∙ ap (λ (i : ℕ). i / s % t) e ∙ addr_z s t x' y' z' h' k';
    }

-- ---- powers

pub pow_four : (d : ℕ) → 4 ^ d ≡ 2 ^ d * 2 ^ d
pow_four zero = refl
pow_four (suc d) =
    let e : 4 * 4 ^ d ≡ 4 * (2 ^ d * 2 ^ d) = ap (λ (n : ℕ). 4 * n) (pow_four d) in
    let s : 2 * 2 ^ d * (2 * 2 ^ d) ≡ 4 * (2 ^ d * 2 ^ d) = omega arith in
    rw (pow-succ' 4 d, pow-succ' 2 d) (e ∙ sym s)

pub pow_eight : (d : ℕ) → 8 ^ d ≡ 2 ^ d * 2 ^ d * 2 ^ d
pow_eight zero = refl
pow_eight (suc d) =
    let e : 8 * 8 ^ d ≡ 8 * (2 ^ d * 2 ^ d * 2 ^ d) = ap (λ (n : ℕ). 8 * n) (pow_eight d) in
    let s : 2 * 2 ^ d * (2 * 2 ^ d) * (2 * 2 ^ d) ≡ 8 * (2 ^ d * 2 ^ d * 2 ^ d) = omega arith in
    rw (pow-succ' 8 d, pow-succ' 2 d) (e ∙ sym s)

-- 8^d by a shift
eights : (d : ℕ) → 2 ^ (3 * d) ≡ 8 ^ d
eights zero = refl
eights (suc d) =
    let e : 3 * suc d ≡ 3 * d + 3 = omega arith in
    ap (λ (i : ℕ). 2 ^ i) e ∙ pow-add 2 (3 * d) 3 ∙ ap (λ (i : ℕ). i * 8) (eights d) ∙ sym (pow-suc 8 d)

-- .. in words of w bits
pub cells_shift : (w d : ℕ) → 3 * d < w → 1 * 2 ^ (3 * d) % 2 ^ w ≡ 8 ^ d
cells_shift w d h = shl_exact 1 (3 * d) w (omega arith) (omega arith) ∙ omega (arith, eights d)

-- ---- an index of the list is the address of one cell

module _ (s i : ℕ) (pos : 0 < s) (h : i < s * s * s) where
  index_y : i / (s * s) < s
  index_y =
      let q : i / s / s < s = (div-lt_iff_lt-mul pos).1 ((div-lt_iff_lt-mul pos).1 h) in
      rw (← div-div-eq-div-mul i s s) q

  index_addr : addr s s (i % s) (i / (s * s)) (i / s % s) ≡ i
  index_addr =
      let e : i / s * s + i % s ≡ i = div-add-mod' i s in
      let k : i / s / s * s + i / s % s ≡ i / s = div-add-mod' (i / s) s in
      let m : (i / s / s * s + i / s % s) * s ≡ i / s * s = ap (λ (n : ℕ). n * s) k in
      rw (← div-div-eq-div-mul i s s) (omega arith)

-- ---- the cube

module _ (W : Words) (d id : ℕ) where
  pub cube_length : length (cube_of W d id) ≡ 8 ^ d
  unfolding cube_of
  cube_length = tab_from_length_lem (8 ^ d) 0 _

  cell_as : {x y z x' y' z' : ℕ} → x ≡ x' → y ≡ y' → z ≡ z' → read_at W d id x y z ≡ read_at W d id x' y' z'
  cell_as {x} {y} {z} {x'} {y'} ex ey ez =
      ap (λ (i : ℕ). read_at W d id i y z) ex ∙ ap (λ (i : ℕ). read_at W d id x' i z) ey ∙ ap (λ (i : ℕ). read_at W d id x' y' i) ez

  -- the cell (x, y, z) of expansion is what lookup reads there
  pub cube_cell : (x y z : ℕ) → x < 2 ^ d → y < 2 ^ d → z < 2 ^ d → get_or (cube_of W d id) (y * 4 ^ d + z * 2 ^ d + x) 0 ≡ read_at W d id x y z
  unfolding cube_of
  cube_cell x y z hx hy hz =
      let s = 2 ^ d in
      let lt : addr s s x y z < 8 ^ d = rw (pow_eight d) (addr_lt s s x y z hx hy hz) in
      let ex : addr s s x y z % s ≡ x = addr_x s s x y z hx in
      let ey : addr s s x y z / (s * s) ≡ y = rw (← div-div-eq-div-mul (addr s s x y z) s s) (addr_yz s s x y z hx hz) in
      let ez : addr s s x y z / s % s ≡ z = addr_z s s x y z hx hz in
      let e0 : 0 + addr s s x y z ≡ addr s s x y z = omega arith in
      rw (pow_four d) (tab_at (8 ^ d) 0 _ (addr s s x y z) lt ∙ cell_as (ap (λ (i : ℕ). i % s) e0 ∙ ex) (ap (λ (i : ℕ). i / (s * s)) e0 ∙ ey) (ap (λ (i : ℕ). i / s % s) e0 ∙ ez))

  -- a list of the right length with those cells is the cube
  pub cube_one : (l : List ℕ) → length l ≡ 8 ^ d
      → ((x y z : ℕ) → x < 2 ^ d → y < 2 ^ d → z < 2 ^ d → get_or l (y * 4 ^ d + z * 2 ^ d + x) 0 ≡ read_at W d id x y z)
      → l ≡ cube_of W d id
  cube_one l e h =
      ext_get_or 0 l (cube_of W d id) (e ∙ sym cube_length)
      (λ i k. at i (rw (pow_eight d) at (subst (λ (n : ℕ). i < n) e k)))
    where
      at : (i : ℕ) → i < 2 ^ d * 2 ^ d * 2 ^ d → get_or l i 0 ≡ get_or (cube_of W d id) i 0
      at i k =
          let s = 2 ^ d in
          let x = i % s in
          let y = i / (s * s) in
          let z = i / s % s in
          let lx : x < s = mod-lt i (pow_pos d) in
          let ly : y < s = index_y s i (pow_pos d) k in
          let lz : z < s = mod-lt (i / s) (pow_pos d) in
          let q : y * 4 ^ d + z * 2 ^ d + x ≡ i = rw (pow_four d) (index_addr s i (pow_pos d) k) in
          subst (λ (j : ℕ). get_or l j 0 ≡ get_or (cube_of W d id) j 0) q (h x y z lx ly lz ∙ sym (cube_cell x y z lx ly lz))
