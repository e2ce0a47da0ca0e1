-- The list is exactly the differing cells, and their codes rise.
use mathlib.Core.Path.{◌≡◌, ◌∙◌, refl, sym, ap}
use mathlib.Core.Logic.{◌≢◌}
use mathlib.Core.List.Memᴰ
use mathlib.Core.List.{List, [], ◌∷◌, ◌++◌, Memᴰ}
use Prim.Native.Nat.{ℕ, zero, suc, ◌^◌, ◌≤◌, ◌<◌}
use native.Mathlib.Decide.{ℕ_discrete}
use native.Mathlib.Omega.{arith}
use Rattle.nodes.specs.Words.{Words}
use Rattle.nodes.proofs.Sums.{cases}
use Rattle.compare_pairs.specs.Differing.{Differs, differs, cell_of, reads, if_differs, joined, differing}
use Rattle.compare_pairs.proofs.Joined.{joined_in, joined_at}
use Rattle.compare_pairs.proofs.Pairs.{if_same, if_apart}

-- the codes of a list rise, from lo on and below hi: each stands once
abbrev pub Rising : ℕ → ℕ → List Differs → Type 0
Rising lo hi [] = lo ≤ hi
Rising lo hi (e ∷ es) = (lo ≤ e.code) × Rising (suc e.code) hi es

-- e is the entry of a code below m that has u on the left and v on the right, which differ
pub record Entry (m : ℕ) (u v : ℕ → ℕ) (e : Differs) : Type 0 where
  pub small : e.code < m
  pub left : e.left ≡ u e.code
  pub right : e.right ≡ v e.code
  pub apart : u e.code ≢ v e.code

-- The list is exactly the entries of the codes below m at which u and v differ, in rising order of their codes.
pub record Exact (m : ℕ) (u v : ℕ → ℕ) (ds : List Differs) : Type 0 where
  pub only : (e : Differs) → Memᴰ e ds → Entry m u v e
  pub all : (c : ℕ) → c < m → u c ≢ v c → Memᴰ (differs c (u c) (v c)) ds
  pub rising : Rising 0 m ds

-- ---- rising lists

rising_more : (lo lo' hi : ℕ) (ds : List Differs) → lo ≤ lo' → Rising lo' hi ds → Rising lo hi ds
rising_more lo lo' hi [] h r = omega arith
rising_more lo lo' hi (e ∷ es) h r = (omega (arith, r.0), r.1)

rising_append : (lo mid hi : ℕ) (s t : List Differs) → Rising lo mid s → Rising mid hi t → Rising lo hi (s ++ t)
rising_append lo mid hi [] t r q = rising_more lo mid hi t r q
rising_append lo mid hi (e ∷ es) t r q = (r.0, rising_append (suc e.code) mid hi es t r.1 q)

-- ---- one code

module _ (c u v : ℕ) where
  if_rising : Rising c (suc c) (if_differs c u v)
  if_rising =
      cases (ℕ_discrete u v) (λ e. rw (if_same c u v e) (omega arith)) (λ e. rw (if_apart c u v e) (omega arith, omega arith))

  if_only : (e : Differs) → Memᴰ e (if_differs c u v) → (e ≡ differs c u v) × (u ≢ v)
  if_only e m =
      cases (ℕ_discrete u v) (λ k. absurd (Memᴰ.not-nil (rw (if_same c u v k) at m)))
      (λ k. (Memᴰ.eq_of_singleton (rw (if_apart c u v k) at m), k))

  if_there : u ≢ v → Memᴰ (differs c u v) (if_differs c u v)
  if_there h = rw (if_apart c u v h) (Memᴰ.head refl)

-- ---- all codes

module _ (u v : ℕ → ℕ) where
  codes_rise : (m : ℕ) → Rising 0 m (joined m (λ c. if_differs c (u c) (v c)))
  unfolding joined
  codes_rise zero = omega arith
  codes_rise (suc m) =
      rising_append 0 m (suc m) (joined m (λ c. if_differs c (u c) (v c))) (if_differs m (u m) (v m)) (codes_rise m) (if_rising m (u m) (v m))

  entry_of : (m c : ℕ) (e : Differs) → c < m → e ≡ differs c (u c) (v c) → u c ≢ v c → Entry m u v e
  entry_of m c e h q k =
      let i : e.code ≡ c = ap (λ (x : Differs). x.code) q in
      record {
        small = omega arith;
        left = ap (λ (x : Differs). x.left) q ∙ ap u (sym i);
        right = ap (λ (x : Differs). x.right) q ∙ ap v (sym i);
        apart = λ z. k (ap u (sym i) ∙ z ∙ ap v i);
      }

  exact_codes : (m : ℕ) → Exact m u v (joined m (λ c. if_differs c (u c) (v c)))
  exact_codes m =
      record {
        only = λ e k.
            let (c, h, q) = joined_in m (λ c. if_differs c (u c) (v c)) e k in
            let (i, j) = if_only c (u c) (v c) e q in
            entry_of m c e h i j;
        all = λ c h k. joined_at m c (λ c. if_differs c (u c) (v c)) (differs c (u c) (v c)) h (if_there c (u c) (v c) k);
        rising = codes_rise m;
      }

-- The definition's list is exactly the cells of depth d in which lookup differs.
pub exact : (n : ℕ) (W : Words) (d a b : ℕ) → Exact (n ^ d) (λ c. reads W (cell_of n d c) a) (λ c. reads W (cell_of n d c) b) (differing n W d a b)
unfolding differing
exact n W d a b = exact_codes (λ c. reads W (cell_of n d c) a) (λ c. reads W (cell_of n d c) b) (n ^ d)
