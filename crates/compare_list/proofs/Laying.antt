-- Cells written into the three parts of a list, one walk after another.
use mathlib.Core.Path.{◌≡◌, ◌∙◌, refl, sym, ap}
use mathlib.Core.List.{List, [], ◌∷◌, ◌++◌, map, map-append}
use Prim.Native.Nat.{ℕ, ◌+◌, ◌≤◌}
use native.Mathlib.Omega.{arith}
use lib.ListN.{length, set, length-append, length-map}
use lib.Seq.{set_out}
use Rattle.basics.specs.Puts.{puts_from}
use Rattle.basics.proofs.Puts.{puts_append, puts_one}
use Rattle.compare_pairs.specs.Differing.{Differs, differs}
use Rattle.compare_list.specs.Models.{Laid}

-- nothing is written past the end
pub put_past : (l : List ℕ) (at x n : ℕ) → n ≤ at → length l ≡ n → l ≡ set l at x
put_past l at x n h e = sym (set_out l at x (omega arith))

module _ (at : ℕ) (c l r : List ℕ) where
  pub laid_none : Laid at [] 0 at 0 c l r c l r
  unfolding puts_from
  laid_none = record { to = omega arith; opened = refl; codes = refl; lefts = refl; rights = refl }

  pub laid_one : (code u v : ℕ) (c' l' r' : List ℕ) → c' ≡ set c at code → l' ≡ set l at u → r' ≡ set r at v
      → Laid at (differs code u v ∷ []) 0 (at + 1) 0 c l r c' l' r'
  laid_one code u v c' l' r' ec el er =
      record {
        to = refl;
        opened = refl;
        codes = ec ∙ sym (puts_one c at code);
        lefts = el ∙ sym (puts_one l at u);
        rights = er ∙ sym (puts_one r at v);
      }

  -- one walk, and another from where it came to
  pub laid_append : (ds es : List Differs) (o p x y z w : ℕ) (c₁ l₁ r₁ c₂ l₂ r₂ : List ℕ) → Laid at ds o x y c l r c₁ l₁ r₁
      → Laid x es p z w c₁ l₁ r₁ c₂ l₂ r₂ → Laid at (ds ++ es) (o + p) z (y + w) c l r c₂ l₂ r₂
  laid_append ds es o p x y z w c₁ l₁ r₁ c₂ l₂ r₂ u v =
      record {
        to = omega (arith, u.to, v.to, length-append ds es);
        opened = omega (arith, u.opened, v.opened);
        codes = one (λ e. e.code) c c₁ c₂ u.codes v.codes;
        lefts = one (λ e. e.left) l l₁ l₂ u.lefts v.lefts;
        rights = one (λ e. e.right) r r₁ r₂ u.rights v.rights;
      }
    where
      one : (f : Differs → ℕ) (s s₁ s₂ : List ℕ) → s₁ ≡ puts_from s at (map f ds) → s₂ ≡ puts_from s₁ x (map f es) → s₂ ≡ puts_from s at (map f (ds ++ es))
      one f s s₁ s₂ i j =
          let k : x ≡ at + length (map f ds) = u.to ∙ ap (λ (n : ℕ). at + n) (sym (length-map ds f)) in
          rw (map-append f ds es, puts_append (map f ds) (map f es) s at, ← k, ← i) j
