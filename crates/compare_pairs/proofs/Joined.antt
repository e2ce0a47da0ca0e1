-- Lists joined.
use mathlib.Core.Path.{◌≡◌, ◌∙◌, refl, sym, ap, ap₂}
use mathlib.Core.Logic.{⊎_elim}
use mathlib.Core.List.Memᴰ
use mathlib.Core.List.{List, [], ◌∷◌, ◌++◌, map, append-nil, append_assoc, Memᴰ}
use Prim.Native.Nat.{ℕ, zero, suc, ◌+◌, ◌*◌, ◌≤◌, ◌<◌}
use native.Mathlib.Decide.{ℕ_discrete}
use native.Mathlib.Omega.{arith}
use native.Mathlib.Numerals.{add-one}
use lib.ListN.{length, length-append}
use Rattle.basics.specs.Sums.{sum_to}
use Rattle.nodes.proofs.Sums.{cases}
use Rattle.compare_pairs.specs.Differing.{joined}

module _ {A : Type 0} where
  pub joined_ext : (m : ℕ) (f g : ℕ → List A) → ((i : ℕ) → i < m → f i ≡ g i) → joined m f ≡ joined m g
  unfolding joined
  joined_ext zero f g h = refl
  joined_ext (suc m) f g h = ap₂ (λ (a b : List A). a ++ b) (joined_ext m f g (λ i l. h i (omega arith))) (h m (omega arith))

  pub joined_none : (m : ℕ) (f : ℕ → List A) → ((i : ℕ) → i < m → f i ≡ []) → joined m f ≡ []
  unfolding joined
  joined_none zero f h = refl
  joined_none (suc m) f h = ap₂ (λ (a b : List A). a ++ b) (joined_none m f (λ i l. h i (omega arith))) (h m (omega arith))

  pub joined_step : (m : ℕ) (f : ℕ → List A) → joined (m + 1) f ≡ joined m f ++ f m
  unfolding joined
  joined_step m f = rw add-one refl

  pub joined_map : {B : Type 0} (h : A → B) (m : ℕ) (f : ℕ → List A) → map h (joined m f) ≡ joined m (λ i. map h (f i))
  unfolding joined
  joined_map h zero f = refl
  joined_map h (suc m) f = map_append (joined m f) (f m) ∙ ap (λ (a : List _). a ++ map h (f m)) (joined_map h m f)
    where
      map_append : (s t : List A) → map h (s ++ t) ≡ map h s ++ map h t
      map_append [] t = refl
      map_append (x ∷ s) t = ap (λ (a : List _). h x ∷ a) (map_append s t)

  pub joined_length : (m : ℕ) (f : ℕ → List A) → length (joined m f) ≡ sum_to m (λ i. length (f i))
  unfolding joined sum_to
  joined_length zero f = refl
  joined_length (suc m) f = length-append (joined m f) (f m) ∙ ap (λ (a : ℕ). a + length (f m)) (joined_length m f)

  pub joined_add : (p q : ℕ) (f : ℕ → List A) → joined (p + q) f ≡ joined p f ++ joined q (λ i. f (p + i))
  unfolding joined
  joined_add p zero f = let e : p + 0 ≡ p = omega arith in ap (λ (i : ℕ). joined i f) e ∙ sym (append-nil (joined p f))
  joined_add p (suc q) f =
      let e : p + suc q ≡ suc (p + q) = omega arith in
      ap (λ (i : ℕ). joined i f) e
      ∙ ap (λ (a : List A). a ++ f (p + q)) (joined_add p q f)
      ∙ append_assoc (joined p f) (joined q (λ i. f (p + i))) (f (p + q))

  -- m rows of q
  pub joined_mul : (m q : ℕ) (f : ℕ → List A) → joined (m * q) f ≡ joined m (λ i. joined q (λ j. f (i * q + j)))
  unfolding joined
  joined_mul zero q f = let e : 0 * q ≡ 0 = omega arith in ap (λ (i : ℕ). joined i f) e
  joined_mul (suc m) q f =
      let e : suc m * q ≡ m * q + q = omega arith in
      ap (λ (i : ℕ). joined i f) e ∙ joined_add (m * q) q f ∙ ap (λ (a : List A). a ++ joined q (λ j. f (m * q + j))) (joined_mul m q f)

  -- what is in it is in one of them
  pub joined_in : (m : ℕ) (f : ℕ → List A) (x : A) → Memᴰ x (joined m f) → (i : ℕ) × (i < m) × Memᴰ x (f i)
  unfolding joined
  joined_in zero f x h = absurd (Memᴰ.not-nil h)
  joined_in (suc m) f x h =
      ⊎_elim (λ k. let t = joined_in m f x k in (t.0, omega (arith, t.1), t.2)) (λ k. (m, omega arith, k))
      (Memᴰ.append_cases (joined m f) h)

  pub joined_at : (m i : ℕ) (f : ℕ → List A) (x : A) → i < m → Memᴰ x (f i) → Memᴰ x (joined m f)
  unfolding joined
  joined_at zero i f x h k = absurd (omega arith)
  joined_at (suc m) i f x h k =
      cases (ℕ_discrete i m) (λ e. Memᴰ.append_right (joined m f) (rw e at k))
      (λ e. Memᴰ.append_left (f m) (joined_at m i f x (omega (arith, e)) k))

-- ---- sums

pub sum_le : (m c : ℕ) (f : ℕ → ℕ) → ((i : ℕ) → i < m → f i ≤ c) → sum_to m f ≤ m * c
unfolding sum_to
sum_le zero c f h = omega arith
sum_le (suc m) c f h = omega (arith, sum_le m c f (λ i l. h i (omega arith)), h m (omega arith))

pub sum_none : (m : ℕ) (f : ℕ → ℕ) → ((i : ℕ) → i < m → f i ≡ 0) → sum_to m f ≡ 0
unfolding sum_to
sum_none zero f h = refl
sum_none (suc m) f h = omega (arith, sum_none m f (λ i l. h i (omega arith)), h m (omega arith))

-- each at most k times its fellow
pub sum_times : (m k : ℕ) (f g : ℕ → ℕ) → ((i : ℕ) → i < m → f i ≤ k * g i) → sum_to m f ≤ k * sum_to m g
unfolding sum_to
sum_times zero k f g h = omega arith
sum_times (suc m) k f g h = omega (arith, sum_times m k f g (λ i l. h i (omega arith)), h m (omega arith))
