-- Coordinates and paths: distinct cells have distinct paths, and every path is a cell's.
use mathlib.Core.Path.{◌≡◌, refl, sym, ap, ◌∙◌}
use mathlib.Core.Logic.{◌⊎◌, inl, inr}
use mathlib.Core.List.{List, ◌∷◌}
use Prim.Native.Nat.{ℕ, zero, suc, ◌+◌, ◌*◌, ◌-◌, ◌/◌, ◌%◌, ◌^◌, ◌≤◌, ◌<◌}
use native.Mathlib.Nat.{pow-succ', div-div-eq-div-mul, div-one, le-suc_iff, suc_inj}
use native.Mathlib.Decide.{ℕ_discrete}
use native.Mathlib.Omega.{arith}
use lib.ListN.{get_or}
use Rattle.tree.specs.Tree.{Cell, here, down}
use Rattle.tree.specs.Anew.{replace}
use Rattle.tree.proofs.Making.{replace_same, replace_other}
use Rattle.basics.specs.Bits.{bit}
use Rattle.tree.specs.Cells.{quadrant, path_by, cube_path, sheet_path}
use Rattle.paths.specs.Paths.{octant}

-- ## Bits

bit_suc : (b x : ℕ) → bit (suc b) x ≡ bit b (x / 2)
bit_suc b x = rw (pow-succ' 2 b, ← div-div-eq-div-mul x 2 (2 ^ b))

bit_zero : (x : ℕ) → bit 0 x ≡ x % 2
bit_zero x = rw (div-one x)

pub bit_lt : (b x : ℕ) → bit b x < 2
bit_lt b x = omega arith

-- a number below 2^d is given by its first d bits
pub bits_one : (d x y : ℕ) → x < 2 ^ d → y < 2 ^ d → ((b : ℕ) → b < d → bit b x ≡ bit b y) → x ≡ y
bits_one zero x y h k e = omega arith
bits_one (suc d) x y h k e =
    let i : x < 2 * 2 ^ d = rw (pow-succ' 2 d) at h in
    let j : y < 2 * 2 ^ d = rw (pow-succ' 2 d) at k in
    let low : x % 2 ≡ y % 2 = sym (bit_zero x) ∙ e 0 (omega arith) ∙ bit_zero y in
    let high : x / 2 ≡ y / 2 =
    bits_one d (x / 2) (y / 2) (omega arith) (omega arith)
    (λ b l. sym (bit_suc b x) ∙ e (suc b) (omega arith) ∙ bit_suc b y) in
    omega arith

-- and any d bits are those of such a number
abbrev pub Bits : ℕ → (ℕ → ℕ) → ℕ → Type 0
Bits d f x = (x < 2 ^ d) × ((b : ℕ) → b < d → bit b x ≡ f b)

bits_more : (d : ℕ) (f : ℕ → ℕ) (y : ℕ) → f 0 < 2 → Bits d (λ b. f (suc b)) y → Bits (suc d) f (2 * y + f 0)
bits_more d f y h t = (rw (pow-succ' 2 d) (omega (arith, t.0)), bits)
  where
    bits : (b : ℕ) → b < suc d → bit b (2 * y + f 0) ≡ f b
    bits zero k = bit_zero (2 * y + f 0) ∙ omega arith
    bits (suc b) k =
        let e : (2 * y + f 0) / 2 ≡ y = omega arith in
        bit_suc b (2 * y + f 0) ∙ ap (bit b) e ∙ t.1 b (omega arith)

pub bits_onto : (d : ℕ) (f : ℕ → ℕ) → ((b : ℕ) → b < d → f b < 2) → (x : ℕ) × Bits d f x
bits_onto zero f h = (0, (omega arith, λ b k. absurd (omega arith)))
bits_onto (suc d) f h =
    let t = bits_onto d (λ b. f (suc b)) (λ b k. h (suc b) (omega arith)) in
    (2 * t.0 + f 0, bits_more d f t.0 (h 0 (omega arith)) t.1)

-- ## Paths of functions

pub path_cell : (n : ℕ) (f : ℕ → ℕ) → ((b : ℕ) → f b < n) → (d : ℕ) → Cell n d (path_by f d)
unfolding path_by
path_cell n f h zero = here
path_cell n f h (suc d) = down (h d) (path_cell n f h d)

-- level k of depth d takes the child number of bit d - 1 - k
pub path_level : (f : ℕ → ℕ) (d k : ℕ) → k < d → get_or (path_by f d) k 0 ≡ f (d - 1 - k)
unfolding path_by
path_level f zero k h = absurd (omega arith)
path_level f (suc d) zero h = let e : d ≡ suc d - 1 - 0 = omega arith in ap f e
path_level f (suc d) (suc k) h =
    let e : d - 1 - k ≡ suc d - 1 - suc k = omega arith in
    path_level f d k (omega arith) ∙ ap f e

pub path_cong : (f g : ℕ → ℕ) (d : ℕ) → ((b : ℕ) → b < d → f b ≡ g b) → path_by f d ≡ path_by g d
unfolding path_by
path_cong f g zero h = refl
path_cong f g (suc d) h =
    let e = h d (omega arith) in
    let r = path_cong f g d (λ b k. h b (omega arith)) in
    cc (e, r)

pub path_inj : (f g : ℕ → ℕ) (d : ℕ) → path_by f d ≡ path_by g d → (b : ℕ) → b < d → f b ≡ g b
unfolding path_by
path_inj f g zero e b h = absurd (omega arith)
path_inj f g (suc d) e b h = go (le-suc_iff.0 h) (λ t. path_inj f g d t b)
  where
    head : f d ≡ g d
    head = cc

    tail : path_by f d ≡ path_by g d
    tail = cc

    go : (suc b ≤ d) ⊎ (suc b ≡ suc d) → (path_by f d ≡ path_by g d → b < d → f b ≡ g b) → f b ≡ g b
    go (inl l) ih = ih tail l
    go (inr k) ih = let j : b ≡ d = suc_inj k in rw j head

-- every cell is the path of a function
pub record Leads (n d : ℕ) (p : List ℕ) : Type 0 where
  pub to : ℕ → ℕ
  pub small : (b : ℕ) → b < d → to b < n
  pub path : path_by to d ≡ p

leads_down : (n d c : ℕ) (p : List ℕ) → c < n → Leads n d p → Leads n (suc d) (c ∷ p)
unfolding path_by
leads_down n d c p h l =
    record { to = f; small = λ b k. small b k (ℕ_discrete b d); path = path }
  where
    f : ℕ → ℕ
    f = replace l.to d c

    small : (b : ℕ) → b < suc d → Dec (b ≡ d) → f b < n
    small b k (yes e) = rw (replace_same l.to d c b e) h
    small b k (no e) = rw (replace_other l.to d c b e) (l.small b (omega arith))

    path : f d ∷ path_by f d ≡ c ∷ p
    path =
        let e : f d ≡ c = replace_same l.to d c d refl in
        let r : path_by f d ≡ path_by l.to d =
        path_cong f l.to d (λ b k. replace_other l.to d c b (λ (q : b ≡ d). omega arith)) in
        cc (e, r, l.path)

pub leads : {n d : ℕ} {p : List ℕ} → Cell n d p → Leads n d p
unfolding path_by
leads here = record { to = λ b. 0; small = λ b h. absurd (omega arith); path = refl }
leads {n} (down {d = d} {c = c} {p = p} h t) = leads_down n d c p h (leads t)

-- ## Cubes: the cells of depth d are the triples of numbers below 2^d

pub octant_lt : (b x y z : ℕ) → octant b x y z < 8
unfolding octant
octant_lt b x y z = omega (arith, bit_lt b x, bit_lt b y, bit_lt b z)

pub cube_cell : (d x y z : ℕ) → Cell 8 d (cube_path d x y z)
cube_cell d x y z = path_cell 8 (λ b. octant b x y z) (λ b. octant_lt b x y z) d

pub cube_level : (d x y z k : ℕ) → k < d → get_or (cube_path d x y z) k 0 ≡ octant (d - 1 - k) x y z
cube_level d x y z k h = path_level (λ b. octant b x y z) d k h

-- distinct cells have distinct paths
pub cube_one : (d : ℕ) {x y z x' y' z' : ℕ} → x < 2 ^ d → y < 2 ^ d → z < 2 ^ d → x' < 2 ^ d → y' < 2 ^ d → z' < 2 ^ d
    → cube_path d x y z ≡ cube_path d x' y' z' → (x ≡ x') × (y ≡ y') × (z ≡ z')
unfolding octant
cube_one d {x} {y} {z} {x'} {y'} {z'} hx hy hz hx' hy' hz' e = (
  bits_one d x x' hx hx' (λ b h. (same b (path_inj _ _ d e b h)).0),
  bits_one d y y' hy hy' (λ b h. (same b (path_inj _ _ d e b h)).1),
  bits_one d z z' hz hz' (λ b h. (same b (path_inj _ _ d e b h)).2),
)
  where
    same : (b : ℕ) → octant b x y z ≡ octant b x' y' z'
        → (bit b x ≡ bit b x') × (bit b y ≡ bit b y') × (bit b z ≡ bit b z')
    same b o = (omega arith, omega arith, omega arith)

-- every path of depth d with child numbers below 8 is a cell's
pub record CubeCell (d : ℕ) (p : List ℕ) : Type 0 where
  pub x : ℕ
  pub y : ℕ
  pub z : ℕ
  pub small_x : x < 2 ^ d
  pub small_y : y < 2 ^ d
  pub small_z : z < 2 ^ d
  pub path : cube_path d x y z ≡ p

pub cube_onto : {d : ℕ} {p : List ℕ} → Cell 8 d p → CubeCell d p
unfolding octant
cube_onto {d} {p} c = go (leads c)
  where
    go : Leads 8 d p → CubeCell d p
    go l =
        let f : ℕ → ℕ = l.to in
        let a = bits_onto d (λ b. f b % 2) (λ b h. omega arith) in
        let i = bits_onto d (λ b. f b / 2 % 2) (λ b h. omega arith) in
        let j = bits_onto d (λ b. f b / 4) (λ b h. omega (arith, l.small b h)) in
        record {
          x = a.0;
          y = i.0;
          z = j.0;
          small_x = a.1.0;
          small_y = i.1.0;
          small_z = j.1.0;
          path =
              path_cong (λ b. octant b a.0 i.0 j.0) f d
              (λ b h. omega (arith, a.1.1 b h, i.1.1 b h, j.1.1 b h, l.small b h))
              ∙ l.path;
        }

-- ## Flat sheets: the cells of depth d are the pairs of numbers below 2^d

pub sheet_cell : (d x y : ℕ) → Cell 4 d (sheet_path d x y)
unfolding quadrant
sheet_cell d x y = path_cell 4 (λ b. quadrant b x y) (λ b. omega (arith, bit_lt b x, bit_lt b y)) d

pub sheet_one : (d : ℕ) {x y x' y' : ℕ} → x < 2 ^ d → y < 2 ^ d → x' < 2 ^ d → y' < 2 ^ d
    → sheet_path d x y ≡ sheet_path d x' y' → (x ≡ x') × (y ≡ y')
unfolding quadrant
sheet_one d {x} {y} {x'} {y'} hx hy hx' hy' e = (
  bits_one d x x' hx hx' (λ b h. (same b (path_inj _ _ d e b h)).0),
  bits_one d y y' hy hy' (λ b h. (same b (path_inj _ _ d e b h)).1),
)
  where
    same : (b : ℕ) → quadrant b x y ≡ quadrant b x' y' → (bit b x ≡ bit b x') × (bit b y ≡ bit b y')
    same b o = (omega arith, omega arith)

pub record SheetCell (d : ℕ) (p : List ℕ) : Type 0 where
  pub x : ℕ
  pub y : ℕ
  pub small_x : x < 2 ^ d
  pub small_y : y < 2 ^ d
  pub path : sheet_path d x y ≡ p

pub sheet_onto : {d : ℕ} {p : List ℕ} → Cell 4 d p → SheetCell d p
unfolding quadrant
sheet_onto {d} {p} c = go (leads c)
  where
    go : Leads 4 d p → SheetCell d p
    go l =
        let f : ℕ → ℕ = l.to in
        let a = bits_onto d (λ b. f b % 2) (λ b h. omega arith) in
        let i = bits_onto d (λ b. f b / 2) (λ b h. omega (arith, l.small b h)) in
        record {
          x = a.0;
          y = i.0;
          small_x = a.1.0;
          small_y = i.1.0;
          path =
              path_cong (λ b. quadrant b a.0 i.0) f d
              (λ b h. omega (arith, a.1.1 b h, i.1.1 b h, l.small b h))
              ∙ l.path;
        }
