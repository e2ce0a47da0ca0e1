-- The steps of the loops that fill, and that they stay inside the cube.
use Prim.Native.Nat.{ℕ, zero, suc, ◌+◌, ◌*◌, ◌/◌, ◌%◌, ◌≤◌}
use native.Mathlib.Numerals.{add-one}
use native.Mathlib.Omega.{arith}
use mathlib.Core.Path.{◌≡◌, ◌∙◌, refl, sym, ap}
use mathlib.Core.List.{List, []}
use lib.ListN.{length, replicate, set}
use lib.Seq.{paste}
use Rattle.std.proofs.lemmas.List.Edits.{paste_none, fill_from_more}
use Rattle.read_cube.specs.Models.{times, fill_row, fill_plane, fill_block, offset}

module _ (f : ℕ → List ℕ → List ℕ) (l : List ℕ) where
  pub times_none : l ≡ times f 0 l
  unfolding times
  times_none = refl

  pub times_step : (i : ℕ) (m n : List ℕ) → m ≡ times f i l → n ≡ f i m → n ≡ times f (i + 1) l
  unfolding times
  times_step i m n e k = rw add-one (k ∙ ap (f i) e)

module _ (at u : ℕ) (l : List ℕ) where
  -- the same as one part of the list written over
  pub row_is : (n : ℕ) → at + n ≤ length l → paste l at (replicate n u) n ≡ fill_row at n u l
  unfolding fill_row times
  row_is zero h = sym (paste_none l at [])
  row_is (suc n) h =
      let more = fill_from_more l at n u (omega arith) in
      rw add-one at (sym more) ∙ ap (λ (m : List ℕ). set m (at + n) u) (row_is n (omega arith))

abbrev pub plane_to : ℕ → ℕ → ℕ → ℕ → ℕ → List ℕ → List ℕ
plane_to row at n u z l = times (λ i m. fill_row (at + i * row) n u m) z l

module _ (row at n u : ℕ) (l : List ℕ) where
  pub plane_none : l ≡ plane_to row at n u 0 l
  plane_none = times_none _ l

  pub plane_step : (z : ℕ) (m k : List ℕ) → m ≡ plane_to row at n u z l → k ≡ fill_row (at + z * row) n u m → k ≡ plane_to row at n u (z + 1) l
  plane_step z m k e h = times_step _ l z m k e h

  pub plane_done : (w z : ℕ) (m : List ℕ) → z ≤ w → w ≤ z → m ≡ plane_to row at n u z l → m ≡ fill_plane row at n w u l
  unfolding fill_plane
  plane_done w z m h k e = let q : z ≡ w = omega arith in e ∙ ap (λ (i : ℕ). plane_to row at n u i l) q

abbrev pub block_to : ℕ → ℕ → ℕ → ℕ → ℕ → ℕ → ℕ → List ℕ → List ℕ
block_to row plane at n w u y l = times (λ i m. fill_plane row (at + i * plane) n w u m) y l

module _ (row plane at n w u : ℕ) (l : List ℕ) where
  pub block_none : l ≡ block_to row plane at n w u 0 l
  block_none = times_none _ l

  pub block_step : (y : ℕ) (m k : List ℕ) → m ≡ block_to row plane at n w u y l → k ≡ fill_plane row (at + y * plane) n w u m → k ≡ block_to row plane at n w u (y + 1) l
  block_step y m k e h = times_step _ l y m k e h

  pub block_done : (y : ℕ) (m : List ℕ) → y ≤ n → n ≤ y → m ≡ block_to row plane at n w u y l → m ≡ fill_block row plane at n w u l
  unfolding fill_block
  block_done y m h k e = let q : y ≡ n = omega arith in e ∙ ap (λ (i : ℕ). block_to row plane at n w u i l) q

-- ---- an octant's offset

pub offset_sum : (row plane h c i j k : ℕ) → i ≡ c % 2 * h → j ≡ c / 2 % 2 * (h * plane) → k ≡ c / 4 * (h * row) → i + j + k ≡ offset row plane h c
unfolding offset
offset_sum row plane h c i j k ei ej ek = cc
