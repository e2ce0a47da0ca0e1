-- A pass: a test of each of some numbers; and a loop that changes something at each number.
use Rattle.std.specs.List.{list_all, range_with_len, count_by}
use Rattle.std.proofs.lemmas.List.Sums.{sum_by_push}
use Rattle.basics.specs.Sums.{sum_to}
use mathlib.Core.Path.{◌≡◌, refl, sym, ap, ◌∙◌}
use mathlib.Core.Bool.{Bool, true, false, cond}
use mathlib.Core.List.{List, [], ◌∷◌, ◌++◌}
use Prim.Native.Nat.{ℕ, zero, suc, ◌+◌, ◌-◌, ◌≤◌, ◌<◌}
use native.Mathlib.Decide.{ℕ_discrete}
use native.Mathlib.Numerals.{add-one}
use native.Mathlib.Omega.{arith}
use Rattle.nodes.specs.Tally.{tab_from, occ, one_if}
use Rattle.nodes.proofs.Sums.{cases, occ_cons, occ_here}
use Rattle.arena.specs.Calls.{all_of, each}
use Rattle.arena.proofs.Eight.{all_of_list}
use Rattle.check_freed.specs.Models.{all_in, up_to}
use Rattle.check_freed.proofs.Ladders.{Tells, tells_and, tells_map}

-- ---- the turns of a loop, one by one

module _ {A : Type 0} (g : A → ℕ → A) (x : A) where
  pub turn_first : x ≡ up_to g x 0
  unfolding up_to
  turn_first = refl

  pub turn_next : (y z : A) (i : ℕ) → y ≡ up_to g x i → z ≡ g y i → z ≡ up_to g x (i + 1)
  unfolding up_to
  turn_next y z i e d = rw (add-one i, d, e)

-- ---- what each turn keeps, all of them keep

module _ {A : Type 0} (P : A → Type 0) (g : A → ℕ → A) where
  pub each_keep : (Q : ℕ → Type 0) → ((x : A) (y : ℕ) → Q y → P x → P (g x y)) → (ys : List ℕ) (x : A) → ((y : ℕ) → 1 ≤ occ y ys → Q y) → P x → P (each g x ys)
  unfolding each
  each_keep Q h [] x q p = p
  each_keep Q h (y ∷ ys) x q p =
      each_keep Q h ys (g x y) (λ z o. q z (omega (arith, occ_cons z y ys))) (h x y (q y (omega (arith, occ_here y ys))) p)

  pub turns_keep : (m : ℕ) → ((x : A) (b : ℕ) → b < m → P x → P (g x b)) → (x : A) → P x → (b : ℕ) → b ≤ m → P (up_to g x b)
  unfolding up_to
  turns_keep m h x p zero l = p
  turns_keep m h x p (suc b) l = h (up_to g x b) b (omega arith) (turns_keep m h x p b (omega arith))

-- ---- what a pass tells: of each number, or of each of a table of numbers, what its test tells

module _ (p : ℕ → Bool) (P : ℕ → Type 0) (g : ℕ → ℕ) where
  pub tells_tab : (k i : ℕ) → ((j : ℕ) → i ≤ j → j < i + k → Tells (p (g j)) (P j)) → Tells (all_of p (tab_from k i g)) ((j : ℕ) → i ≤ j → j < i + k → P j)
  unfolding all_of tab_from
  tells_tab zero i h = ((λ e j a b. absurd (omega arith)), (λ q. refl))
  tells_tab (suc k) i h =
      tells_map
      (λ r j a b. cases (ℕ_discrete j i) (λ (z : j ≡ i). rw z r.0) (λ z. r.1 j (omega arith) (omega arith)))
      (λ q. (q i (omega arith) (omega arith), (λ j a b. q j (omega arith) (omega arith))))
      (tells_and (h i (omega arith) (omega arith)) (λ y. tells_tab k (suc i) (λ j a b. h j (omega arith) (omega arith))))

pub tells_all : (p : ℕ → Bool) (P : ℕ → Type 0) (i m : ℕ) → ((j : ℕ) → i ≤ j → j < m → Tells (p j) (P j)) → Tells (all_in i m p) ((j : ℕ) → i ≤ j → j < m → P j)
unfolding all_in
tells_all p P i m h =
    tells_map (λ q j a b. q j a (omega arith)) (λ q j a b. q j a (omega arith)) (tells_tab p P (λ j. j) (m - i) i (λ j a b. h j a (omega arith)))

-- ---- a pass over a range, as the standard library says it

range_tab : (n i : ℕ) → range_with_len i n ≡ tab_from n i (λ j. j)
unfolding tab_from
range_tab zero i = refl
range_tab (suc n) i = rw (sym (range_tab n (suc i))) (ap (λ (k : ℕ). i ∷ range_with_len k n) (add-one i))

pub all_range : (p : ℕ → Bool) (i m : ℕ) → list_all p (range_with_len i (m - i)) ≡ all_in i m p
unfolding all_in
all_range p i m = ap (list_all p) (range_tab (m - i) i) ∙ all_of_list p (tab_from (m - i) i (λ j. j))

-- how many numbers of a range pass
range_more : (n i : ℕ) → range_with_len i (suc n) ≡ range_with_len i n ++ ((i + n) ∷ [])
range_more zero i = let e : i ≡ i + 0 = omega arith in ap (λ (k : ℕ). k ∷ []) e
range_more (suc n) i = let e : i + 1 + n ≡ i + suc n = omega arith in ap (λ (l : List ℕ). i ∷ l) (range_more n (i + 1) ∙ ap (λ (k : ℕ). range_with_len (i + 1) n ++ (k ∷ [])) e)

pub count_range : (p : ℕ → Bool) (n : ℕ) → count_by p (range_with_len 0 n) ≡ sum_to n (λ s. one_if (p s))
unfolding sum_to one_if
count_range p zero = refl
count_range p (suc n) =
    ap (count_by p) (range_more n 0) ∙ sum_by_push (λ x. cond (p x) 1 0) (range_with_len 0 n) (0 + n)
    ∙ (let e : 0 + n ≡ n = omega arith in rw e (ap (λ (k : ℕ). k + cond (p n) 1 0) (count_range p n) ∙ ap (λ (k : ℕ). sum_to n (λ s. one_if (p s)) + k) (one (p n))))
  where
    one : (b : Bool) → cond b 1 0 ≡ one_if b
    one true = refl
    one false = refl
