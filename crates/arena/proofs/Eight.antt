-- A loop over eight ids: a test of each, and a byte with a bit for each.
use Rattle.std.specs.List.{list_all}
use Rattle.std.proofs.Math.Bool.{◌&&◌}
use Rattle.basics.specs.Pick.{pick}
use mathlib.Core.Path.{◌≡◌, refl, sym, ap, ◌∙◌}
use mathlib.Core.Bool.{Bool, true, false, not}
use mathlib.Core.List.{List, [], ◌∷◌}
use Prim.Native.Nat.{ℕ, suc, ◌+◌, ◌*◌, ◌≤◌, ◌<◌}
use native.Mathlib.Decide.{ℕ_discrete}
use native.Mathlib.Numerals.{add-one}
use native.Mathlib.Omega.{arith}
use lib.ListN.{length, get_or, drop, drop_of_length-le}
use lib.Seq.{drop-cons}
use borrow.Author.Tests.{not-true, not-false}
use Rattle.ids.specs.declared.BlockId.{BlockId}
use Rattle.nodes.specs.Tally.{one_if, occ}
use Rattle.nodes.proofs.Sums.{occ_nil, occ_cons, occ_here, occ_there, cases}
use Rattle.arena.specs.Calls.{raw_ids, each, all_of}
use Rattle.arena.specs.Node.{bits_of}
use Rattle.arena.proofs.Fits.{both}

-- what is true of each is true of one that stands there
pub all_at : (p : ℕ → Bool) (ks : List ℕ) (y : ℕ) → all_of p ks ≡ true → 1 ≤ occ y ks → p y ≡ true
unfolding all_of
all_at p [] y e o = absurd (omega (arith, occ_nil y))
all_at p (k ∷ ks) y e o =
    let b = both (p k) (all_of p ks) e in
    cases (ℕ_discrete y k)
    (λ (q : y ≡ k). rw q b.0)
    (λ q. all_at p ks y b.1 (omega (arith, occ_there y k ks q)))

-- what changes nothing by any of them changes nothing by all
pub all_true : (p : ℕ → Bool) (ks : List ℕ) → ((y : ℕ) → 1 ≤ occ y ks → p y ≡ true) → all_of p ks ≡ true
unfolding all_of
all_true p [] h = refl
all_true p (k ∷ ks) h = rw (h k (omega (arith, occ_here k ks))) (all_true p ks (λ y o. h y (omega (arith, occ_cons y k ks))))

pub each_idle : {A : Type 0} (g : A → ℕ → A) (t : A) (ks : List ℕ) → ((y : ℕ) → 1 ≤ occ y ks → g t y ≡ t) → each g t ks ≡ t
unfolding each
each_idle g t [] h = refl
each_idle {A} g t (k ∷ ks) h = ap (λ (u : A). each g u ks) (h k (omega (arith, occ_here k ks))) ∙ each_idle g t ks (λ y o. h y (omega (arith, occ_cons y k ks)))

module _ (ks : List ℕ) (i : ℕ) (eight : length ks ≡ 8) where
  pub drop_at : i < 8 → drop i ks ≡ get_or ks i 0 ∷ drop (i + 1) ks
  drop_at l = drop-cons ks i 0 (omega arith) ∙ ap (λ (j : ℕ). get_or ks i 0 ∷ drop j ks) (sym (add-one i))

  pub drop_none : 8 ≤ i → drop i ks ≡ []
  drop_none l = let q : length ks ≤ i = omega arith in drop_of_length-le ks q

-- the loop's steps, where a flag b was given for the test of the id at i
module _ (p : ℕ → Bool) (ks : List ℕ) (i : ℕ) (eight : length ks ≡ 8) (e : all_of p ks ≡ all_of p (drop i ks)) where
  pub all_step : (b : Bool) → b ≡ p (get_or ks i 0) → not b ≡ false → i < 8 → all_of p ks ≡ all_of p (drop (i + 1) ks)
  unfolding all_of
  all_step b eb z l = e ∙ ap (all_of p) (drop_at ks i eight l) ∙ rw (sym eb ∙ not-false b z)

  pub all_stop : (b : Bool) → b ≡ p (get_or ks i 0) → not b ≡ true → i < 8 → false ≡ all_of p ks
  unfolding all_of
  all_stop b eb z l = sym (e ∙ ap (all_of p) (drop_at ks i eight l) ∙ rw (sym eb ∙ not-true b z))

  pub all_last : 8 ≤ i → true ≡ all_of p ks
  unfolding all_of
  all_last l = sym (e ∙ ap (all_of p) (drop_none ks i eight l))

-- the same for a change by each in turn
module _ {A : Type 0} (g : A → ℕ → A) (x₀ x : A) (ks : List ℕ) (i : ℕ) (eight : length ks ≡ 8) (e : each g x₀ ks ≡ each g x (drop i ks)) where
  pub each_on : (x' : A) → i < 8 → x' ≡ g x (get_or ks i 0) → each g x₀ ks ≡ each g x' (drop (i + 1) ks)
  unfolding each
  each_on x' l d = e ∙ ap (each g x) (drop_at ks i eight l) ∙ ap (λ (y : A). each g y (drop (i + 1) ks)) (sym d)

  pub each_end : 8 ≤ i → x ≡ each g x₀ ks
  unfolding each
  each_end l = sym (e ∙ ap (each g x) (drop_none ks i eight l))

-- the byte of eight bits
eight_bits : (p : ℕ → Bool) (ks : List ℕ) → length ks ≡ 8
    → bits_of p ks
    ≡ one_if (p (get_or ks 0 0)) + 2 * one_if (p (get_or ks 1 0)) + 4 * one_if (p (get_or ks 2 0)) + 8 * one_if (p (get_or ks 3 0)) + 16 * one_if (p (get_or ks 4 0))
    + 32 * one_if (p (get_or ks 5 0)) + 64 * one_if (p (get_or ks 6 0)) + 128 * one_if (p (get_or ks 7 0))
unfolding bits_of
eight_bits p [] e = absurd (omega arith)
eight_bits p (a ∷ []) q = absurd (omega arith)
eight_bits p (a ∷ b ∷ []) q = absurd (omega arith)
eight_bits p (a ∷ b ∷ c ∷ []) q = absurd (omega arith)
eight_bits p (a ∷ b ∷ c ∷ d ∷ []) q = absurd (omega arith)
eight_bits p (a ∷ b ∷ c ∷ d ∷ e ∷ []) q = absurd (omega arith)
eight_bits p (a ∷ b ∷ c ∷ d ∷ e ∷ f ∷ []) q = absurd (omega arith)
eight_bits p (a ∷ b ∷ c ∷ d ∷ e ∷ f ∷ g ∷ []) q = absurd (omega arith)
eight_bits p (a ∷ b ∷ c ∷ d ∷ e ∷ f ∷ g ∷ h ∷ []) q = omega arith
eight_bits p (a ∷ b ∷ c ∷ d ∷ e ∷ f ∷ g ∷ h ∷ i ∷ ks) q = absurd (omega arith)

pub bits_done : (p : ℕ → Bool) (ks : List ℕ) (a b c d e f g h : ℕ) → length ks ≡ 8 → a ≡ one_if (p (get_or ks 0 0)) → b ≡ one_if (p (get_or ks 1 0))
    → c ≡ one_if (p (get_or ks 2 0)) → d ≡ one_if (p (get_or ks 3 0)) → e ≡ one_if (p (get_or ks 4 0)) → f ≡ one_if (p (get_or ks 5 0))
    → g ≡ one_if (p (get_or ks 6 0)) → h ≡ one_if (p (get_or ks 7 0)) → a + 2 * b + 4 * c + 8 * d + 16 * e + 32 * f + 64 * g + 128 * h ≡ bits_of p ks
bits_done p ks a b c d e f g h n pa pb pc pd pe pf pg ph = let r = eight_bits p ks n in omega arith

-- ---- the raw numbers of eight ids

pub raw_length : (ids : List BlockId) → length (raw_ids ids) ≡ length ids
unfolding raw_ids
raw_length [] = refl
raw_length (a ∷ ids) = ap suc (raw_length ids)

and_rest : (b : Bool) {r s : Bool} → r ≡ s → (b && r) ≡ pick b s false
and_rest true e = e
and_rest false e = refl

-- whether all are, as the standard library says it
pub all_of_list : (p : ℕ → Bool) (ks : List ℕ) → list_all p ks ≡ all_of p ks
unfolding all_of
all_of_list p [] = refl
all_of_list p (k ∷ ks) = and_rest (p k) (all_of_list p ks)
