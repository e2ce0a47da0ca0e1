-- A cell, a row, a plane and a block, painted with one value.
use Prim.Native.Nat.{ℕ, suc, ◌+◌, ◌*◌, ◌-◌, ◌≤◌, ◌<◌}
use native.Mathlib.Decide.{ℕ_discrete, dec_le}
use native.Mathlib.Omega.{arith}
use mathlib.Core.Path.{◌≡◌, ◌∙◌, refl}
use mathlib.Core.List.{List}
use lib.ListN.{length, get_or, set, length-set}
use lib.Seq.{get_or-set_same, get_or-set_other}
use Rattle.read_cell.proofs.Cube.{addr, addr_lt, addr_one, SameCell}
use Rattle.read_cube.specs.Models.{fill_row, fill_plane, fill_block}
use Rattle.read_cube.proofs.Paint.{Paints, recast, Some, times_paints}

-- x0 <= x < x0 + n
pub record Within (x₀ n x : ℕ) : Type 0 where
  pub low : x₀ ≤ x
  pub high : x < x₀ + n

pub within? : (x₀ n x : ℕ) → Dec (Within x₀ n x)
within? x₀ n x = go (dec_le x₀ x) (dec_le (suc x) (x₀ + n))
  where
    go : Dec (x₀ ≤ x) → Dec (x < x₀ + n) → Dec (Within x₀ n x)
    go (yes a) (yes b) = yes (record { low = a; high = b })
    go (yes a) (no b) = no (λ w. b w.high)
    go (no a) (yes b) = no (λ w. a w.low)
    go (no a) (no b) = no (λ w. a w.low)

pub three? : {A B C : Type 0} → Dec A → Dec B → Dec C → Dec (A × B × C)
three? (yes a) (yes b) (yes c) = yes (a, b, c)
three? (yes a) (yes b) (no c) = no (λ t. c t.2)
three? (yes a) (no b) (yes c) = no (λ t. b t.1)
three? (yes a) (no b) (no c) = no (λ t. b t.1)
three? (no a) (yes b) (yes c) = no (λ t. a t.0)
three? (no a) (yes b) (no c) = no (λ t. a t.0)
three? (no a) (no b) (yes c) = no (λ t. a t.0)
three? (no a) (no b) (no c) = no (λ t. a t.0)

abbrev pub One : ℕ → ℕ → ℕ → ℕ → ℕ → ℕ → Type 0
One x₀ y₀ z₀ x y z = (x ≡ x₀) × (y ≡ y₀) × (z ≡ z₀)

abbrev pub Row : ℕ → ℕ → ℕ → ℕ → ℕ → ℕ → ℕ → Type 0
Row n x₀ y₀ z₀ x y z = Within x₀ n x × (y ≡ y₀) × (z ≡ z₀)

abbrev pub Plane : ℕ → ℕ → ℕ → ℕ → ℕ → ℕ → ℕ → ℕ → Type 0
Plane n w x₀ y₀ z₀ x y z = Within x₀ n x × (y ≡ y₀) × Within z₀ w z

abbrev pub Block : ℕ → ℕ → ℕ → ℕ → ℕ → ℕ → ℕ → ℕ → Type 0
Block n w x₀ y₀ z₀ x y z = Within x₀ n x × Within y₀ n y × Within z₀ w z

abbrev pub all : ℕ → ℕ → ℕ → ℕ → ℕ
all u x y z = u

module _ (s t : ℕ) where
  pub set_paints : (x₀ y₀ z₀ a u : ℕ) → x₀ < s → y₀ < s → z₀ < t → a ≡ addr s t x₀ y₀ z₀ → Paints s t (One x₀ y₀ z₀) (all u) (λ l. set l a u)
  set_paints x₀ y₀ z₀ a u hx hy hz e =
      record {
        size = λ l. length-set l a u;
        hit = λ l k x y z _ _ _ r o. hit l k x y z r.0 r.1 r.2;
        miss = λ l k x y z kx ky kz n.
            get_or-set_other l a (addr s t x y z) u 0
            (λ q. n (same x y z (addr_one s t x y z x₀ y₀ z₀ kx kz hx hz (q ∙ e))));
      }
    where
      same : (x y z : ℕ) → SameCell x y z x₀ y₀ z₀ → One x₀ y₀ z₀ x y z
      same x y z c = (c.ex, c.ey, c.ez)

      hit : (l : List ℕ) → length l ≡ s * t * s → (x y z : ℕ) → x ≡ x₀ → y ≡ y₀ → z ≡ z₀ → get_or (set l a u) (addr s t x y z) 0 ≡ u
      hit l k x y z ex ey ez =
          let q : addr s t x y z ≡ a = cc in
          let b : a < length l = omega (arith, addr_lt s t x₀ y₀ z₀ hx hy hz) in
          rw q (get_or-set_same l a u 0 b)

  pub row_paints : (n x₀ y₀ z₀ a u : ℕ) → x₀ + n ≤ s → y₀ < s → z₀ < t → a ≡ addr s t x₀ y₀ z₀ → Paints s t (Row n x₀ y₀ z₀) (all u) (fill_row a n u)
  unfolding fill_row
  row_paints n x₀ y₀ z₀ a u hx hy hz e =
      recast s t (Some n (λ i. One (x₀ + i) y₀ z₀)) (Row n x₀ y₀ z₀) (all u) (all u) (fill_row a n u)
      (λ x y z _ _ _ r. (x - x₀, omega (arith, r.0.low, r.0.high), (omega (arith, r.0.low), r.1, r.2)))
      (λ x y z _ _ _ r. (record { low = omega (arith, r.2.0); high = omega (arith, r.1, r.2.0) }, r.2.1, r.2.2))
      (λ x y z _ _ _ r. refl)
      (times_paints s t n (λ i. One (x₀ + i) y₀ z₀) (all u) (λ i m. set m (a + i) u)
      (λ i x y z. three? (ℕ_discrete x (x₀ + i)) (ℕ_discrete y y₀) (ℕ_discrete z z₀))
      (λ i j x y z h _ r q. omega (arith, h, r.0, q.0))
      (λ i k. set_paints (x₀ + i) y₀ z₀ (a + i) u (omega arith) hy hz (omega arith)))

  pub plane_paints : (n w x₀ y₀ z₀ a u : ℕ) → x₀ + n ≤ s → y₀ < s → z₀ + w ≤ t → a ≡ addr s t x₀ y₀ z₀ → Paints s t (Plane n w x₀ y₀ z₀) (all u) (fill_plane s a n w u)
  unfolding fill_plane
  plane_paints n w x₀ y₀ z₀ a u hx hy hz e =
      recast s t (Some w (λ i. Row n x₀ y₀ (z₀ + i))) (Plane n w x₀ y₀ z₀) (all u) (all u) (fill_plane s a n w u)
      (λ x y z _ _ _ r. (z - z₀, omega (arith, r.2.low, r.2.high), (r.0, r.1, omega (arith, r.2.low))))
      (λ x y z _ _ _ r. (r.2.0, r.2.1, record { low = omega (arith, r.2.2); high = omega (arith, r.1, r.2.2) }))
      (λ x y z _ _ _ r. refl)
      (times_paints s t w (λ i. Row n x₀ y₀ (z₀ + i)) (all u) (λ i m. fill_row (a + i * s) n u m)
      (λ i x y z. three? (within? x₀ n x) (ℕ_discrete y y₀) (ℕ_discrete z (z₀ + i)))
      (λ i j x y z h _ r q. omega (arith, h, r.2, q.2))
      (λ i k. row_paints n x₀ y₀ (z₀ + i) (a + i * s) u hx hy (omega arith) (omega arith)))

  pub block_paints : (n w x₀ y₀ z₀ a u : ℕ) → x₀ + n ≤ s → y₀ + n ≤ s → z₀ + w ≤ t → a ≡ addr s t x₀ y₀ z₀ → Paints s t (Block n w x₀ y₀ z₀) (all u) (fill_block s (t * s) a n w u)
  unfolding fill_block
  block_paints n w x₀ y₀ z₀ a u hx hy hz e =
      recast s t (Some n (λ i. Plane n w x₀ (y₀ + i) z₀)) (Block n w x₀ y₀ z₀) (all u) (all u) (fill_block s (t * s) a n w u)
      (λ x y z _ _ _ r. (y - y₀, omega (arith, r.1.low, r.1.high), (r.0, omega (arith, r.1.low), r.2)))
      (λ x y z _ _ _ r. (r.2.0, record { low = omega (arith, r.2.1); high = omega (arith, r.1, r.2.1) }, r.2.2))
      (λ x y z _ _ _ r. refl)
      (times_paints s t n (λ i. Plane n w x₀ (y₀ + i) z₀) (all u) (λ i m. fill_plane s (a + i * (t * s)) n w u m)
      (λ i x y z. three? (within? x₀ n x) (ℕ_discrete y (y₀ + i)) (within? z₀ w z))
      (λ i j x y z h _ r q. omega (arith, h, r.1, q.1))
      (λ i k. plane_paints n w x₀ (y₀ + i) z₀ (a + i * (t * s)) u hx (omega arith) hz (omega arith)))
