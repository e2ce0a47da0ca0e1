-- Octants in turn write into each cell what lookup reads there.
use Prim.Native.Nat.{ℕ, zero, suc, ◌+◌, ◌*◌, ◌/◌, ◌%◌, ◌^◌, ◌≤◌, ◌<◌}
use native.Mathlib.Nat.{zero-div, zero-mul, mul-le-mul_right, div-add-mod', mod-lt, div-eq_of_lt-le, pow-suc, pow-succ', div-div-eq-div-mul}
use native.Mathlib.Decide.{ℕ_discrete}
use native.Mathlib.Omega.{arith}
use mathlib.Core.Path.{◌≡◌, ◌∙◌, refl, sym, ap}
use mathlib.Core.Logic.{◌⊎◌, inl, inr}
use mathlib.Core.Bool.{true, false}
use mathlib.Core.List.{List, ◌∷◌}
use borrow.Author.Tests.{eq-eqb, ne_eqb}
use lib.Pow.{pow_pos}
use lib.ListN.{set}
use Rattle.nodes.specs.Words.{Words}
use Rattle.tree.specs.Tree.{Leaf, Branch, Kind, empty, leaf, branch, kind, child_of, look}
use Rattle.nodes.specs.Values.{value_at}
use Rattle.tree.specs.Cells.{path_by, cube_path}
use Rattle.paths.specs.Paths.{octant}
use Rattle.tree.proofs.Canon.{look_empty, look_leaf, look_branch, look_end}
use Rattle.read_cell.specs.Reading.{read_at}
use Rattle.ids.specs.Ids.{is_end}
use Rattle.read_cell.specs.Models.{val}
use Rattle.read_cell.proofs.Ends.{ends_leaf, ends_not}
use Rattle.read_cell.proofs.Cube.{addr}
use Rattle.read_cube.specs.Models.{times, fill_block, thick, offset, grow}
use Rattle.read_cube.proofs.Paint.{Paints, recast, alike, Some, times_paints}
use Rattle.read_cube.proofs.Blocks.{Within, three?, One, Block, all, set_paints, block_paints}

-- ---- cells of one block: x / p is the block's number

pub in_block : (p b x : ℕ) → 0 < p → x / p ≡ b → Within (b * p) p x
in_block p b x h e =
    let q : b * p + x % p ≡ x = rw e at (div-add-mod' x p) in
    record { low = omega arith; high = omega (arith, mod-lt x h) }

pub block_in : (p b x : ℕ) → 0 < p → Within (b * p) p x → x / p ≡ b
block_in p b x h w = div-eq_of_lt-le p w.low (omega (arith, w.high))

up : (k x : ℕ) → x / 2 ^ suc k ≡ x / 2 ^ k / 2
up k x = rw (pow-suc 2 k, ← div-div-eq-div-mul x (2 ^ k) 2)

half : (k : ℕ) → 2 ^ suc k / 2 ≡ 2 ^ k
half k = omega arith

corner : (s t p xb yb zb i j l a : ℕ) → a ≡ addr s t (xb * (2 * p)) (yb * (2 * p)) (zb * (2 * p))
    → a + (i * p + j * (p * (t * s)) + l * (p * s)) ≡ addr s t ((2 * xb + i) * p) ((2 * yb + j) * p) ((2 * zb + l) * p)
corner s t p xb yb zb i j l a e = omega arith

room : (s p xb i : ℕ) → suc xb * (2 * p) ≤ s → i ≤ 1 → suc (2 * xb + i) * p ≤ s
room s p xb i h k = let m : i * p ≤ 1 * p = mul-le-mul_right p k in omega arith

oct_back : (u w t xb yb zb c : ℕ) → c < 8 → u ≡ 2 * xb + c % 2 → w ≡ 2 * yb + c / 2 % 2 → t ≡ 2 * zb + c / 4 → u % 2 + 2 * (w % 2) + 4 * (t % 2) ≡ c
oct_back u w t xb yb zb c h eu ew et =
    let a : u % 2 ≡ c % 2 = omega arith in
    let b : w % 2 ≡ c / 2 % 2 = omega arith in
    let d : t % 2 ≡ c / 4 = omega arith in
    let q : c % 2 + 2 * (c / 2 % 2) + 4 * (c / 4) ≡ c = omega arith in
    omega arith

leaf_some : (a : ℕ) → Leaf a → a ≡ 0 → ⊥
leaf_some a h e = omega arith

thick_cube : (n p : ℕ) → n ≡ 8 → thick n p ≡ p
unfolding thick
thick_cube n p e = rw (eq-eqb n 8 e)

thick_sheet : (n p : ℕ) → n ≡ 4 → thick n p ≡ 1
unfolding thick
thick_sheet n p e = let d : (n ≡ 8 → ⊥) = omega arith in rw (ne_eqb n 8 d)

-- a part's place across the planes: inside t in a cube; in a sheet, of one row a plane, the first
abbrev pub Deep : ℕ → ℕ → ℕ → ℕ → Type 0
Deep n t k zb = ((n ≡ 8) × (suc zb * 2 ^ k ≤ t)) ⊎ ((n ≡ 4) × (t ≡ 1) × (zb ≡ 0))

deep_low : (n t k zb : ℕ) → Deep n t k zb → n ≤ 8
deep_low n t k zb (inl h) = omega (arith, h.0)
deep_low n t k zb (inr h) = omega (arith, h.0)

deep_in : (n t zb : ℕ) → Deep n t 0 zb → zb < t
deep_in n t zb (inl h) = omega (arith, h.1)
deep_in n t zb (inr h) = omega (arith, h.1, h.2)

deep_part : (n t k zb c : ℕ) → c < n → Deep n t (suc k) zb → Deep n t k (2 * zb + c / 4)
deep_part n t k zb c hc (inl h) =
    let kz : suc zb * (2 * 2 ^ k) ≤ t = rw (pow-succ' 2 k) at h.1 in
    inl (h.0, room t (2 ^ k) zb (c / 4) kz (omega (arith, h.0)))
deep_part n t k zb c hc (inr h) = inr (h.0, h.1, omega (arith, h.0, h.2))

-- the part that a cell lies in is one of the n
deep_oct : (n t k zb x y z : ℕ) → Deep n t (suc k) zb → z < t → octant k x y z < n
unfolding octant
deep_oct n t k zb x y z (inl h) hz = omega (arith, h.0)
deep_oct n t k zb x y z (inr h) hz =
    let e : z ≡ 0 = omega (arith, h.1) in
    let q : z / 2 ^ k ≡ 0 = rw e (zero-div (2 ^ k)) in
    omega (arith, h.0)

abbrev At : ℕ → ℕ → ℕ → ℕ → ℕ → ℕ → ℕ → Type 0
At k xb yb zb x y z = (x / 2 ^ k ≡ xb) × (y / 2 ^ k ≡ yb) × (z / 2 ^ k ≡ zb)

-- the octant c of a block, as the block's own number one level lower
abbrev Oct : ℕ → ℕ → ℕ → ℕ → ℕ → ℕ → ℕ → ℕ → Type 0
Oct k xb yb zb c = At k (2 * xb + c % 2) (2 * yb + c / 2 % 2) (2 * zb + c / 4)

module _ (W : Words) (n s t : ℕ) where
  abbrev Grows : ℕ → Type 0
  Grows k =
      (xb yb zb a at : ℕ) → suc xb * 2 ^ k ≤ s → suc yb * 2 ^ k ≤ s → Deep n t k zb
      → at ≡ addr s t (xb * 2 ^ k) (yb * 2 ^ k) (zb * 2 ^ k)
      → Paints s t (At k xb yb zb) (read_at W k a) (grow W n s (t * s) k (2 ^ k) a at)

  grow_zero : Grows 0
  unfolding grow val path_by
  grow_zero xb yb zb a at hx hy hz e =
      recast s t (One xb yb zb) (At 0 xb yb zb) (all (val W a)) (read_at W 0 a) (λ l. set l at (val W a))
      (λ x y z _ _ _ r. (omega (arith, r.0), omega (arith, r.1), omega (arith, r.2)))
      (λ x y z _ _ _ r. (omega (arith, r.0), omega (arith, r.1), omega (arith, r.2)))
      (λ x y z _ _ _ r. rw (look_end W a))
      (set_paints s t xb yb zb at (val W a) (omega arith) (omega arith) (deep_in n t zb hz) (omega arith))

  -- an end above the last level fills its block
  end_paints : (k xb yb zb a at : ℕ) → suc xb * 2 ^ suc k ≤ s → suc yb * 2 ^ suc k ≤ s → Deep n t (suc k) zb
      → at ≡ addr s t (xb * 2 ^ suc k) (yb * 2 ^ suc k) (zb * 2 ^ suc k)
      → ((x y z : ℕ) → look W (cube_path (suc k) x y z) a ≡ value_at W a)
      → Paints s t (At (suc k) xb yb zb) (read_at W (suc k) a) (fill_block s (t * s) at (2 ^ suc k) (thick n (2 ^ suc k)) (val W a))
  unfolding val
  end_paints k xb yb zb a at hx hy hz e same = go hz
    where
      p : ℕ
      p = 2 ^ suc k

      pos : 0 < p
      pos = pow_pos (suc k)

      -- the rows of the block in each plane, w of them from zb * p, are those that the block has of the cube or the sheet
      by : (w : ℕ) → zb * p + w ≤ t → ((z : ℕ) → z < t → z / p ≡ zb → Within (zb * p) w z) → ((z : ℕ) → z < t → Within (zb * p) w z → z / p ≡ zb) → thick n p ≡ w
          → Paints s t (At (suc k) xb yb zb) (read_at W (suc k) a) (fill_block s (t * s) at p (thick n p) (val W a))
      by w hw into out ew =
          rw ew
          (recast s t (Block p w (xb * p) (yb * p) (zb * p)) (At (suc k) xb yb zb) (all (val W a)) (read_at W (suc k) a) (fill_block s (t * s) at p w (val W a))
          (λ x y z _ _ lz r. (in_block p xb x pos r.0, in_block p yb y pos r.1, into z lz r.2))
          (λ x y z _ _ lz r. (block_in p xb x pos r.0, block_in p yb y pos r.1, out z lz r.2))
          (λ x y z _ _ _ r. rw (same x y z))
          (block_paints s t p w (xb * p) (yb * p) (zb * p) at (val W a) (omega arith) (omega arith) hw e))

      go : Deep n t (suc k) zb → Paints s t (At (suc k) xb yb zb) (read_at W (suc k) a) (fill_block s (t * s) at p (thick n p) (val W a))
      go (inl h) = by p (omega (arith, h.1)) (λ z _ q. in_block p zb z pos q) (λ z _ q. block_in p zb z pos q) (thick_cube n p h.0)
      go (inr h) =
          let o : zb * p ≡ 0 = ap (λ (i : ℕ). i * p) h.2 ∙ zero-mul p in
          by 1 (omega (arith, h.1)) (λ z lz q. record { low = omega arith; high = omega (arith, h.1) })
          (λ z lz q. let j : z ≡ 0 = omega (arith, h.1) in ap (λ (i : ℕ). i / p) j ∙ zero-div p ∙ sym h.2) (thick_sheet n p h.0)

  -- part c of a branch
  oct_paints : (k : ℕ) → Grows k → (xb yb zb a at c : ℕ) → suc xb * 2 ^ suc k ≤ s → suc yb * 2 ^ suc k ≤ s → Deep n t (suc k) zb
      → at ≡ addr s t (xb * 2 ^ suc k) (yb * 2 ^ suc k) (zb * 2 ^ suc k) → Branch a → c < n
      → Paints s t (Oct k xb yb zb c) (read_at W (suc k) a) (grow W n s (t * s) k (2 ^ suc k / 2) (child_of W a c) (at + offset s (t * s) (2 ^ suc k / 2) c))
  unfolding offset path_by octant
  oct_paints k ih xb yb zb a at c hx hy hz e b hc =
      let kx : suc xb * (2 * 2 ^ k) ≤ s = rw (pow-succ' 2 k) at hx in
      let ky : suc yb * (2 * 2 ^ k) ≤ s = rw (pow-succ' 2 k) at hy in
      let ke : at ≡ addr s t (xb * (2 * 2 ^ k)) (yb * (2 * 2 ^ k)) (zb * (2 * 2 ^ k)) = rw (pow-succ' 2 k) at e in
      rw (half k)
      (recast s t (Oct k xb yb zb c) (Oct k xb yb zb c) (read_at W k (child_of W a c)) (read_at W (suc k) a) _
      (λ x y z _ _ _ r. r)
      (λ x y z _ _ _ r. r)
      (λ x y z _ _ _ r. same x y z r.0 r.1 r.2)
      (ih (2 * xb + c % 2) (2 * yb + c / 2 % 2) (2 * zb + c / 4) (child_of W a c) (at + offset s (t * s) (2 ^ k) c)
      (room s (2 ^ k) xb (c % 2) kx (omega arith))
      (room s (2 ^ k) yb (c / 2 % 2) ky (omega arith))
      (deep_part n t k zb c hc hz)
      (corner s t (2 ^ k) xb yb zb (c % 2) (c / 2 % 2) (c / 4) at ke)))
    where
      same : (x y z : ℕ) → x / 2 ^ k ≡ 2 * xb + c % 2 → y / 2 ^ k ≡ 2 * yb + c / 2 % 2 → z / 2 ^ k ≡ 2 * zb + c / 4 → read_at W k (child_of W a c) x y z ≡ read_at W (suc k) a x y z
      same x y z ex ey ez =
          let o : octant k x y z ≡ c = oct_back (x / 2 ^ k) (y / 2 ^ k) (z / 2 ^ k) xb yb zb c (omega (arith, deep_low n t (suc k) zb hz)) ex ey ez in
          let q : look W (octant k x y z ∷ cube_path k x y z) a ≡ look W (cube_path k x y z) (child_of W a c) = rw (look_branch W (octant k x y z) (cube_path k x y z) a b, o) in
          ap (λ (i : ℕ). i % 2 ^ 16) (sym q)

  -- a branch, by its n parts
  branch_paints : (k : ℕ) → Grows k → (xb yb zb a at : ℕ) → suc xb * 2 ^ suc k ≤ s → suc yb * 2 ^ suc k ≤ s → Deep n t (suc k) zb
      → at ≡ addr s t (xb * 2 ^ suc k) (yb * 2 ^ suc k) (zb * 2 ^ suc k) → Branch a
      → Paints s t (At (suc k) xb yb zb) (read_at W (suc k) a) (times (λ c m. grow W n s (t * s) k (2 ^ suc k / 2) (child_of W a c) (at + offset s (t * s) (2 ^ suc k / 2) c) m) n)
  unfolding octant
  branch_paints k ih xb yb zb a at hx hy hz e b =
      recast s t (Some n (Oct k xb yb zb)) (At (suc k) xb yb zb) (read_at W (suc k) a) (read_at W (suc k) a) _
      (λ x y z _ _ lz r. into x y z lz (sym (up k x) ∙ r.0) (sym (up k y) ∙ r.1) (sym (up k z) ∙ r.2))
      (λ x y z _ _ _ r. (up k x ∙ omega (arith, r.2.0), up k y ∙ omega (arith, r.2.1), up k z ∙ omega (arith, r.1, r.2.2, deep_low n t (suc k) zb hz)))
      (λ x y z _ _ _ r. refl)
      (times_paints s t n (Oct k xb yb zb) (read_at W (suc k) a) _
      (λ c x y z. three? (ℕ_discrete (x / 2 ^ k) (2 * xb + c % 2)) (ℕ_discrete (y / 2 ^ k) (2 * yb + c / 2 % 2)) (ℕ_discrete (z / 2 ^ k) (2 * zb + c / 4)))
      apart
      (λ c hc. oct_paints k ih xb yb zb a at c hx hy hz e b hc))
    where
      apart : (i j x y z : ℕ) → i < j → j < n → Oct k xb yb zb i x y z → Oct k xb yb zb j x y z → ⊥
      apart i j x y z h hj r q =
          let m : n ≤ 8 = deep_low n t (suc k) zb hz in
          let p : i ≡ j =
          sym (oct_back (x / 2 ^ k) (y / 2 ^ k) (z / 2 ^ k) xb yb zb i (omega arith) r.0 r.1 r.2)
          ∙ oct_back (x / 2 ^ k) (y / 2 ^ k) (z / 2 ^ k) xb yb zb j (omega arith) q.0 q.1 q.2 in
          omega arith

      into : (x y z : ℕ) → z < t → x / 2 ^ k / 2 ≡ xb → y / 2 ^ k / 2 ≡ yb → z / 2 ^ k / 2 ≡ zb → Some n (Oct k xb yb zb) x y z
      into x y z lz ex ey ez = (octant k x y z, deep_oct n t k zb x y z hz lz, (omega arith, omega arith, omega arith))

  grow_none : (k side a at : ℕ) (l : List ℕ) → a ≡ 0 → l ≡ grow W n s (t * s) (suc k) side a at l
  unfolding grow
  grow_none k side a at l e = rw (eq-eqb a 0 e)

  grow_end : (k side a at : ℕ) (l : List ℕ) → (a ≡ 0 → ⊥) → is_end a ≡ true → fill_block s (t * s) at side (thick n side) (val W a) l ≡ grow W n s (t * s) (suc k) side a at l
  unfolding grow
  grow_end k side a at l h e = rw (ne_eqb a 0 h, e)

  grow_on : (k side a at : ℕ) (l : List ℕ) → (a ≡ 0 → ⊥) → is_end a ≡ false
      → times (λ c m. grow W n s (t * s) k (side / 2) (child_of W a c) (at + offset s (t * s) (side / 2) c) m) n l ≡ grow W n s (t * s) (suc k) side a at l
  unfolding grow
  grow_on k side a at l h e = rw (ne_eqb a 0 h, e)

  grow_suc : (k : ℕ) → Grows k → Grows (suc k)
  unfolding path_by
  grow_suc k ih xb yb zb a at hx hy hz e = go (kind a)
    where
      none : a ≡ 0 → Paints s t (At (suc k) xb yb zb) (read_at W (suc k) a) (λ l. l)
      none h =
          record {
            size = λ l. refl;
            hit = λ l _ x y z _ _ _ _ o. o ∙ sym (ap (λ (i : ℕ). i % 2 ^ 16) (look_empty W _ _ a h));
            miss = λ l _ x y z _ _ _ _. refl;
          }

      go : Kind a → Paints s t (At (suc k) xb yb zb) (read_at W (suc k) a) (grow W n s (t * s) (suc k) (2 ^ suc k) a at)
      go (empty h) = alike s t _ _ _ _ (λ l. grow_none k (2 ^ suc k) a at l h) (none h)
      go (leaf h) = alike s t _ _ _ _ (λ l. grow_end k (2 ^ suc k) a at l (leaf_some a h) (ends_leaf a h)) (end_paints k xb yb zb a at hx hy hz e (λ x y z. look_leaf W _ _ a h))
      go (branch h) = alike s t _ _ _ _ (λ l. grow_on k (2 ^ suc k) a at l h.0 (ends_not a h)) (branch_paints k ih xb yb zb a at hx hy hz e h)

  pub grow_paints : (k : ℕ) → Grows k
  grow_paints zero = grow_zero
  grow_paints (suc k) = grow_suc k (grow_paints k)
