-- The law of ladders: if each test decides its reason, the number is k exactly if k is the first that applies, and 0 exactly if none does.
use mathlib.Core.Path.{◌≡◌, refl, sym, ◌∙◌, ap, subst}
use mathlib.Core.Logic.{inl, inr, ⊎_elim}
use mathlib.Core.Bool.{Bool, true, false, not, true≢false}
use mathlib.Core.List.Memᴰ
use mathlib.Core.List.{List, [], ◌∷◌, ◌++◌, Memᴰ}
use Prim.Native.Nat.{ℕ, ◌≤◌, ◌<◌}
use native.Mathlib.Omega.{arith}
use lib.Dec.{eqb}
use borrow.Author.Tests.{ne_eqb, not-true}
use Rattle.basics.specs.Pick.{pick}
use Rattle.basics.specs.Ladder.{ladder, order, Decides, Decided, Positive, Rising, Listed, First, Given}

by : {B : Type 0} (b : Bool) → (b ≡ true → B) → (b ≡ false → B) → B
by true f g = f refl
by false f g = g refl

-- a test that decides a reason which doesn't hold is false
pub off : {R : Type 0} (b : Bool) → Decides b R → (R → ⊥) → b ≡ false
off b d n = by b (λ e. absurd (n (d.0 e))) (λ e. e)

-- a reason whose test is false doesn't hold
pub out : {R : Type 0} (b : Bool) → Decides b R → b ≡ false → R → ⊥
out b d f r = true≢false (sym (d.1 r) ∙ f)

-- one more test before a ladder: the number k where it fails, or where it is true
pub rung_not : (b : Bool) (x k : ℕ) (l : List (Bool × ℕ)) → x ≡ ladder l → pick b x k ≡ ladder ((not b, k) ∷ l)
unfolding ladder
rung_not true x k l e = e
rung_not false x k l e = refl

pub rung_if : (b : Bool) (x k : ℕ) (l : List (Bool × ℕ)) → x ≡ ladder l → pick b k x ≡ ladder ((b, k) ∷ l)
unfolding ladder
rung_if true x k l e = refl
rung_if false x k l e = e

-- one ladder after another
pub ladder_then : (l r : List (Bool × ℕ)) → Positive (order l) → pick (eqb (ladder l) 0) (ladder r) (ladder l) ≡ ladder (l ++ r)
unfolding ladder
ladder_then [] r p = refl
ladder_then (s ∷ ss) r p = by s.0
    (λ e. rw e (let q = p.0 in let d : s.1 ≡ 0 → ⊥ = (λ z. omega arith) in rw (ne_eqb s.1 0 d)))
    (λ e. rw e (ladder_then ss r p.1))

-- a reason that doesn't hold leaves its negated test true
pub on : {R : Type 0} (b : Bool) → Decides (not b) R → (R → ⊥) → b ≡ true
on b d n = by b (λ e. e) (λ e. absurd (n (d.0 (ap not e))))

-- a test that is true exactly if the reason holds; one that fails exactly if it does
pub tells : {R : Type 0} (b : Bool) → (b ≡ true → R) → (b ≡ false → R → ⊥) → Decides b R
tells b f g = (f, λ r. by b (λ e. e) (λ e. absurd (g e r)))

pub denies : {R : Type 0} (b : Bool) → (b ≡ false → R) → (b ≡ true → R → ⊥) → Decides (not b) R
denies b f g = ((λ e. f (not-true b e)), λ r. by b (λ e. absurd (g e r)) (λ e. ap not e))

-- two reasons that follow from one another
pub via : {R S : Type 0} (b : Bool) → Decides b R → (R → S) → (S → R) → Decides b S
via b d f g = ((λ e. f (d.0 e)), (λ s. d.1 (g s)))

module _ (A : ℕ → Type 0) where
  is_first : (l : List (Bool × ℕ)) (k : ℕ) → 1 ≤ k → Decided A l → ladder l ≡ k → First A (order l) k
  unfolding ladder
  is_first [] k p d e = absurd (omega arith)
  is_first (r ∷ rs) k p d e = by r.0
      (λ t. inl ((rw t at e), d.0.0 t))
      (λ f. inr (out r.0 d.0 f, is_first rs k p (d.1 (out r.0 d.0 f)) (rw f at e)))

  first_is : (l : List (Bool × ℕ)) (k : ℕ) → Decided A l → First A (order l) k → ladder l ≡ k
  unfolding ladder
  first_is [] k d h = absurd h
  first_is (r ∷ rs) k d (inl h) = rw (d.0.1 h.1) h.0
  first_is (r ∷ rs) k d (inr h) = rw (off r.0 d.0 h.0) (first_is rs k (d.1 h.0) h.1)

  none_applies : (l : List (Bool × ℕ)) → Positive (order l) → Decided A l → ladder l ≡ 0 → (k : ℕ) → Memᴰ k (order l) → A k → ⊥
  unfolding ladder
  none_applies [] p d e k m a = Memᴰ.not-nil m
  none_applies (r ∷ rs) p d e k m a = by r.0
      (λ t. let z : r.1 ≡ 0 = (rw t at e) in let q = p.0 in omega arith)
      (λ f.
      let n = out r.0 d.0 f in
      ⊎_elim (λ (i : k ≡ r.1). n (subst A i a)) (λ i. none_applies rs p.1 (d.1 n) (rw f at e) k i a) (Memᴰ.cases_cons m))

  none_is : (l : List (Bool × ℕ)) → Decided A l → ((k : ℕ) → A k → ⊥) → ladder l ≡ 0
  unfolding ladder
  none_is [] d n = refl
  none_is (r ∷ rs) d n = rw (off r.0 d.0 (n r.1)) (none_is rs (d.1 (n r.1)) n)

  pub ladder_given : (l : List (Bool × ℕ)) → Positive (order l) → Listed A (order l) → Decided A l → Given A (order l) (ladder l)
  ladder_given l p s d = record {
    refused = λ k q. (is_first l k q d, first_is l k d);
    accepted = ((λ e k a. none_applies l p d e k (s k a) a), none_is l d);
  }

  -- ---- where the numbers rise, the first that applies is the lowest

  above : (m : ℕ) (ks : List ℕ) (j : ℕ) → Rising m ks → Memᴰ j ks → m < j
  above m [] j r i = absurd (Memᴰ.not-nil i)
  above m (k ∷ ks) j r i = ⊎_elim (λ (e : j ≡ k). let h = r.0 in omega arith)
      (λ q. let h = r.0 in let g = above k ks j r.1 q in omega arith) (Memᴰ.cases_cons i)

  pub rising_positive : (m : ℕ) (ks : List ℕ) → Rising m ks → Positive ks
  rising_positive m [] r = tt
  rising_positive m (k ∷ ks) r = ((let h = r.0 in omega arith), rising_positive k ks r.1)

  pub first_applies : (ks : List ℕ) (k : ℕ) → First A ks k → A k
  first_applies [] k f = absurd f
  first_applies (j ∷ ks) k (inl h) = subst A h.0 h.1
  first_applies (j ∷ ks) k (inr h) = first_applies ks k h.1

  pub first_lower : (m : ℕ) (ks : List ℕ) (k : ℕ) → Rising m ks → First A ks k → (j : ℕ) → Memᴰ j ks → j < k → A j → ⊥
  first_lower m [] k r f j i l a = f
  first_lower m (x ∷ ks) k r (inl h) j i l a =
      let e = h.0 in
      ⊎_elim (λ (q : j ≡ x). omega arith) (λ q. let g = above x ks j r.1 q in omega arith) (Memᴰ.cases_cons i)
  first_lower m (x ∷ ks) k r (inr h) j i l a =
      ⊎_elim (λ (q : j ≡ x). h.0 (subst A q a)) (λ q. first_lower x ks k r.1 h.1 j q l a) (Memᴰ.cases_cons i)

  pub lowest_first : (m : ℕ) (ks : List ℕ) (k : ℕ) → Rising m ks → Memᴰ k ks → A k → ((j : ℕ) → j < k → A j → ⊥) → First A ks k
  lowest_first m [] k r i a n = absurd (Memᴰ.not-nil i)
  lowest_first m (x ∷ ks) k r i a n = ⊎_elim
      (λ (q : k ≡ x). inl (sym q, subst A q a))
      (λ q. inr (n x (above x ks k r.1 q), lowest_first x ks k r.1 q a n)) (Memᴰ.cases_cons i)
