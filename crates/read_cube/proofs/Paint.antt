-- A change of a cube's list that writes g into a region of cells, all 0 before, and leaves the others alone.
use Prim.Native.Nat.{ℕ, zero, suc, ◌*◌, ◌<◌}
use native.Mathlib.Omega.{arith}
use mathlib.Core.Path.{◌≡◌, ◌∙◌, refl, subst}
use mathlib.Core.Logic.{◌≢◌}
use mathlib.Core.List.{List}
use lib.ListN.{length, get_or}
use Rattle.read_cell.proofs.Cube.{addr}
use Rattle.read_cube.specs.Models.{times}

pub record Paints (s t : ℕ) (R : ℕ → ℕ → ℕ → Type 0) (g : ℕ → ℕ → ℕ → ℕ) (f : List ℕ → List ℕ) : Type 0 where
  pub size : (l : List ℕ) → length (f l) ≡ length l
  pub hit : (l : List ℕ) → length l ≡ s * t * s → (x y z : ℕ) → x < s → y < s → z < t → R x y z → get_or l (addr s t x y z) 0 ≡ 0
      → get_or (f l) (addr s t x y z) 0 ≡ g x y z
  pub miss : (l : List ℕ) → length l ≡ s * t * s → (x y z : ℕ) → x < s → y < s → z < t → ¬ (R x y z) → get_or (f l) (addr s t x y z) 0 ≡ get_or l (addr s t x y z) 0

-- the same change, said of another region of the same cells and of values alike there
pub recast : (s t : ℕ) (R R' : ℕ → ℕ → ℕ → Type 0) (g g' : ℕ → ℕ → ℕ → ℕ) (f : List ℕ → List ℕ)
    → ((x y z : ℕ) → x < s → y < s → z < t → R' x y z → R x y z)
    → ((x y z : ℕ) → x < s → y < s → z < t → R x y z → R' x y z)
    → ((x y z : ℕ) → x < s → y < s → z < t → R' x y z → g x y z ≡ g' x y z)
    → Paints s t R g f → Paints s t R' g' f
recast s t R R' g g' f into out same p =
    record {
      size = p.size;
      hit = λ l e x y z hx hy hz r o. p.hit l e x y z hx hy hz (into x y z hx hy hz r) o ∙ same x y z hx hy hz r;
      miss = λ l e x y z hx hy hz n. p.miss l e x y z hx hy hz (λ r. n (out x y z hx hy hz r));
    }

-- the same change, written otherwise
pub alike : (s t : ℕ) (R : ℕ → ℕ → ℕ → Type 0) (g : ℕ → ℕ → ℕ → ℕ) (f f' : List ℕ → List ℕ) → ((l : List ℕ) → f l ≡ f' l) → Paints s t R g f → Paints s t R g f'
alike s t R g f f' e p =
    record {
      size = λ l. rw (← e l) (p.size l);
      hit = λ l k x y z hx hy hz r o. rw (← e l) (p.hit l k x y z hx hy hz r o);
      miss = λ l k x y z hx hy hz n. rw (← e l) (p.miss l k x y z hx hy hz n);
    }

abbrev pub Some : ℕ → (ℕ → ℕ → ℕ → ℕ → Type 0) → ℕ → ℕ → ℕ → Type 0
Some n R x y z = (i : ℕ) × (i < n) × R i x y z

abbrev pub Decided : (ℕ → ℕ → ℕ → ℕ → Type 0) → Type 0
Decided R = (i x y z : ℕ) → Dec (R i x y z)

-- no cell is in two of the first n
abbrev pub Apart : ℕ → (ℕ → ℕ → ℕ → ℕ → Type 0) → Type 0
Apart n R = (i j x y z : ℕ) → i < j → j < n → R i x y z → R j x y z → ⊥

times_one : (s t n : ℕ) (R : ℕ → ℕ → ℕ → ℕ → Type 0) (g : ℕ → ℕ → ℕ → ℕ) (f : ℕ → List ℕ → List ℕ)
    → Decided R → Apart (suc n) R → Paints s t (Some n R) g (times f n) → Paints s t (R n) g (f n) → Paints s t (Some (suc n) R) g (λ l. f n (times f n l))
times_one s t n R g f dec apart p q =
    record {
      size = λ l. q.size (times f n l) ∙ p.size l;
      hit = λ l e x y z hx hy hz r o. hit l e x y z hx hy hz r o (dec n x y z);
      miss = λ l e x y z hx hy hz k.
          q.miss (times f n l) (p.size l ∙ e) x y z hx hy hz (λ r. k (n, omega arith, r))
          ∙ p.miss l e x y z hx hy hz (λ r. k (r.0, omega (arith, r.1), r.2));
    }
  where
    hit : (l : List ℕ) → length l ≡ s * t * s → (x y z : ℕ) → x < s → y < s → z < t → Some (suc n) R x y z → get_or l (addr s t x y z) 0 ≡ 0 → Dec (R n x y z) → get_or (f n (times f n l)) (addr s t x y z) 0 ≡ g x y z
    hit l e x y z hx hy hz r o (yes k) =
        q.hit (times f n l) (p.size l ∙ e) x y z hx hy hz k
        (p.miss l e x y z hx hy hz (λ u. apart u.0 n x y z u.1 (omega arith) u.2 k) ∙ o)
    hit l e x y z hx hy hz r o (no k) =
        let d : r.0 ≢ n = λ j. k (subst (λ (i : ℕ). R i x y z) j r.2) in
        q.miss (times f n l) (p.size l ∙ e) x y z hx hy hz k ∙ p.hit l e x y z hx hy hz (r.0, omega (arith, r.1, d), r.2) o

pub times_paints : (s t n : ℕ) (R : ℕ → ℕ → ℕ → ℕ → Type 0) (g : ℕ → ℕ → ℕ → ℕ) (f : ℕ → List ℕ → List ℕ)
    → Decided R → Apart n R → ((i : ℕ) → i < n → Paints s t (R i) g (f i)) → Paints s t (Some n R) g (times f n)
unfolding times
times_paints s t zero R g f dec apart h =
    record { size = λ l. refl; hit = λ l e x y z hx hy hz r o. absurd (omega (arith, r.1)); miss = λ l e x y z hx hy hz k. refl }
times_paints s t (suc n) R g f dec apart h =
    times_one s t n R g f dec apart
    (times_paints s t n R g f dec (λ i j x y z a b. apart i j x y z a (omega arith)) (λ i k. h i (omega arith))) (h n (omega arith))
