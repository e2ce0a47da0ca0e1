-- One value from the start, or octants in turn from the root, give the whole cube.
use Prim.Native.Nat.{ℕ, zero, suc, ◌+◌, ◌*◌, ◌%◌, ◌^◌, ◌≤◌, ◌<◌}
use native.Mathlib.Nat.{div-eq_of_lt}
use native.Mathlib.Decide.{ℕ_discrete, dec_le}
use native.Mathlib.Omega.{arith}
use mathlib.Core.Path.{◌≡◌, ◌∙◌, refl, sym, ap}
use mathlib.Core.Logic.{inl}
use mathlib.Core.List.{List, [], ◌∷◌}
use borrow.Author.Tests.{le-leb, lt-leb}
use lib.ListN.{length, get_or, set, length-set}
use lib.Seq.{get_or-set_same, get_or-set_other}
use Rattle.nodes.specs.Words.{Words}
use Rattle.nodes.proofs.Sums.{cases}
use Rattle.nodes.specs.Values.{value_at}
use Rattle.tree.specs.Tree.{Leaf, look}
use Rattle.tree.specs.Cells.{cube_path}
use Rattle.tree.proofs.Canon.{look_leaf, look_end}
use Rattle.read_cell.specs.Reading.{read_at, cube_of}
use Rattle.read_cell.specs.Models.{val}
use Rattle.read_cell.proofs.Cube.{addr, addr_lt, pow_four, pow_eight, cube_one}
use Rattle.read_cube.specs.Models.{times, fill_row, grow, cube_from}
use Rattle.read_cube.proofs.Paint.{Paints}
use Rattle.read_cube.proofs.Grow.{grow_paints}

-- ---- one value from the start

row_length : (n u : ℕ) (l : List ℕ) → length (fill_row 0 n u l) ≡ length l
unfolding fill_row times
row_length zero u l = refl
row_length (suc n) u l = length-set (fill_row 0 n u l) (0 + n) u ∙ row_length n u l

row_at : (n i u : ℕ) (l : List ℕ) → i < n → n ≤ length l → get_or (fill_row 0 n u l) i 0 ≡ u
unfolding fill_row times
row_at zero i u l h k = absurd (omega arith)
row_at (suc n) i u l h k = go (row_at n i u l) (ℕ_discrete i n)
  where
    go : (i < n → n ≤ length l → get_or (fill_row 0 n u l) i 0 ≡ u) → Dec (i ≡ n) → get_or (set (fill_row 0 n u l) (0 + n) u) i 0 ≡ u
    go ih (yes e) =
        let q : 0 + n ≡ i = omega arith in
        let b : 0 + n < length (fill_row 0 n u l) = omega (arith, row_length n u l) in
        rw (← q) (get_or-set_same (fill_row 0 n u l) (0 + n) u 0 b)
    go ih (no e) =
        let q : i ≡ 0 + n → ⊥ = omega arith in
        get_or-set_other (fill_row 0 n u l) (0 + n) i u 0 q ∙ ih (omega arith) (omega arith)

-- ---- the cube

module _ (W : Words) (d id : ℕ) where
  -- octants in turn from the root, in a cube of zeros, give the cube
  pub grown : (l : List ℕ) → length l ≡ 8 ^ d → grow W 8 (2 ^ d) (2 ^ d * 2 ^ d) d (2 ^ d) id 0 (fill_row 0 (length l) 0 l) ≡ cube_of W d id
  grown l e =
      let s = 2 ^ d in
      let o : List ℕ = fill_row 0 (length l) 0 l in
      let k : length o ≡ 8 ^ d = row_length (length l) 0 l ∙ e in
      let z : suc 0 * 2 ^ d ≤ s = omega arith in
      let p : Paints s s _ _ (grow W 8 s (s * s) d s id 0) = grow_paints W 8 s s d 0 0 0 id 0 (omega arith) (omega arith) (inl (refl, z)) (omega arith) in
      cube_one W d id (grow W 8 s (s * s) d s id 0 o) (p.size o ∙ k)
      (λ x y z hx hy hz. rw (pow_four d) (p.hit o (k ∙ pow_eight d) x y z hx hy hz (div-eq_of_lt hx, div-eq_of_lt hy, div-eq_of_lt hz)
      (row_at (length l) (addr s s x y z) 0 l (rw (e, pow_eight d) (addr_lt s s x y z hx hy hz)) (omega arith))))

  -- a leaf is one value
  leaf_look : (p : List ℕ) → Leaf id → look W p id ≡ value_at W id
  leaf_look [] h = look_end W id
  leaf_look (c ∷ p) h = look_leaf W c p id h

  leaf_cell_lem : (x y z : ℕ) → Leaf id → val W id ≡ read_at W d id x y z
  unfolding val
  leaf_cell_lem x y z h = ap (λ (i : ℕ). i % 2 ^ 16) (sym (leaf_look (cube_path d x y z) h))

  leaf_cube : (l : List ℕ) → length l ≡ 8 ^ d → Leaf id → fill_row 0 (length l) (val W id) l ≡ cube_of W d id
  leaf_cube l e h =
      let s = 2 ^ d in
      cube_one W d id (fill_row 0 (length l) (val W id) l) (row_length (length l) (val W id) l ∙ e)
      (λ x y z hx hy hz. rw (pow_four d)
      (row_at (length l) (addr s s x y z) (val W id) l (rw (e, pow_eight d) (addr_lt s s x y z hx hy hz)) (omega arith) ∙ leaf_cell_lem x y z h))

  -- and so does the code
  pub cube_from_lem : (s : ℕ) (l : List ℕ) → length l ≡ 8 ^ d → s ≡ 2 ^ d → cube_from W s d id l ≡ cube_of W d id
  unfolding cube_from
  cube_from_lem s l e q =
      cases (dec_le (2 ^ 63) id) (λ h. rw (le-leb (2 ^ 63) id h) (leaf_cube l e h))
      (λ h. rw (lt-leb (2 ^ 63) id (omega (arith, h)), q) (grown l e))
