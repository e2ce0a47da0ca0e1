-- Sums over 0 .. k-1, and how often a number stands in a list: the two counts that every law of the tally comes from.
use mathlib.Core.Path.{◌≡◌, refl, sym, ap, ap₂, ◌∙◌, subst}
use mathlib.Core.Logic.{◌≢◌}
use mathlib.Core.Bool.{Bool, true, false}
use mathlib.Core.List.{List, [], ◌∷◌, ◌++◌}
use Prim.Native.Nat.{ℕ, zero, suc, ◌+◌, ◌*◌, ◌≤◌, ◌<◌}
use native.Mathlib.Nat.{not-suc-le-zero}
use native.Mathlib.Decide.{ℕ_discrete, dec_lt}
use native.Mathlib.Omega.{arith}
use lib.Dec.{T, eqb, eqb→eq, eqb_refl}
use lib.ListN.{length, get_or}
use Rattle.basics.specs.Sums.{sum_to}
use Rattle.nodes.specs.Tally.{one_if, same, occ, tab_from}

-- by cases on a decision, in place of a helper: the recursive call may stand in an arm
pub cases : {P A : Type 0} → Dec P → (P → A) → ((P → ⊥) → A) → A
cases (yes p) f g = f p
cases (no d) f g = g d

-- by cases on a test
pub split : {A : Type 0} (b : Bool) → (b ≡ true → A) → (b ≡ false → A) → A
split true f g = f refl
split false f g = g refl

pub one_if_true_lem : (b : Bool) → T b → one_if b ≡ 1
unfolding one_if
one_if_true_lem true t = refl
one_if_true_lem false t = absurd t

pub one_if_false_lem : (b : Bool) → (T b → ⊥) → one_if b ≡ 0
unfolding one_if
one_if_false_lem true t = absurd (t tt)
one_if_false_lem false t = refl

pub same_refl : (x : ℕ) → same x x ≡ 1
unfolding same
same_refl x = one_if_true_lem (eqb x x) (eqb_refl x)

pub same_diff : (x y : ℕ) → x ≢ y → same x y ≡ 0
unfolding same
same_diff x y h = one_if_false_lem (eqb x y) (λ t. h (eqb→eq x y t))

-- ---- a sum over 0 .. k-1

pub sum_to_ext_lem : (k : ℕ) (f g : ℕ → ℕ) → ((i : ℕ) → i < k → f i ≡ g i) → sum_to k f ≡ sum_to k g
unfolding sum_to
sum_to_ext_lem zero f g h = refl
sum_to_ext_lem (suc k) f g h = ap₂ (λ (a b : ℕ). a + b) (sum_to_ext_lem k f g (λ i l. h i (omega arith))) (h k (omega arith))

-- the law of one change: all but the place b agree
pub sum_to_upd_lem : (k b : ℕ) (f g : ℕ → ℕ) → b < k → ((i : ℕ) → i < k → i ≢ b → f i ≡ g i) → sum_to k f + g b ≡ sum_to k g + f b
unfolding sum_to
sum_to_upd_lem zero b f g l h = absurd (not-suc-le-zero l)
sum_to_upd_lem (suc k) b f g l h =
    cases (ℕ_discrete k b)
    (λ e.
    let r : sum_to k f ≡ sum_to k g = sum_to_ext_lem k f g (λ i m. h i (omega arith) (omega arith)) in
    let p : f k ≡ f b = ap f e in
    let q : g k ≡ g b = ap g e in
    omega arith)
    (λ d.
    let r : sum_to k f + g b ≡ sum_to k g + f b = sum_to_upd_lem k b f g (omega arith) (λ i m. h i (omega arith)) in
    let p : f k ≡ g k = h k (omega arith) d in
    omega arith)

pub sum_to_add_lem : (k : ℕ) (f g : ℕ → ℕ) → sum_to k (λ i. f i + g i) ≡ sum_to k f + sum_to k g
unfolding sum_to
sum_to_add_lem zero f g = refl
sum_to_add_lem (suc k) f g = let r : sum_to k (λ i. f i + g i) ≡ sum_to k f + sum_to k g = sum_to_add_lem k f g in omega arith

pub sum_to_const_lem : (k c : ℕ) → sum_to k (λ i. c) ≡ k * c
unfolding sum_to
sum_to_const_lem zero c = sym (native.Mathlib.Nat.zero-mul c)
sum_to_const_lem (suc k) c = let r : sum_to k (λ i. c) ≡ k * c = sum_to_const_lem k c in rw (native.Mathlib.Nat.suc-mul) (omega arith)

-- one term is at most the sum
pub sum_to_le_lem : (k b : ℕ) (f : ℕ → ℕ) → b < k → f b ≤ sum_to k f
unfolding sum_to
sum_to_le_lem zero b f l = absurd (not-suc-le-zero l)
sum_to_le_lem (suc k) b f l =
    cases (ℕ_discrete k b)
    (λ e. let p : f k ≡ f b = ap f e in omega arith)
    (λ d. let r : f b ≤ sum_to k f = sum_to_le_lem k b f (omega arith) in omega arith)

-- a sum that is not 0 has a term that is not 0
pub sum_to_pos_lem : (k : ℕ) (f : ℕ → ℕ) → 1 ≤ sum_to k f → (b : ℕ) × (b < k) × (1 ≤ f b)
unfolding sum_to
sum_to_pos_lem zero f h = absurd (omega arith)
sum_to_pos_lem (suc k) f h =
    cases (dec_lt 0 (f k))
    (λ p. (k, omega arith, p))
    (λ d. let r : (b : ℕ) × (b < k) × (1 ≤ f b) = sum_to_pos_lem k f (omega arith) in (r.0, omega arith, r.2))

-- termwise at most, and equal sums: termwise equal
pub sum_to_mono_lem : (k : ℕ) (f g : ℕ → ℕ) → ((i : ℕ) → i < k → f i ≤ g i) → sum_to k f ≤ sum_to k g
unfolding sum_to
sum_to_mono_lem zero f g h = omega arith
sum_to_mono_lem (suc k) f g h =
    let r : sum_to k f ≤ sum_to k g = sum_to_mono_lem k f g (λ i l. h i (omega arith)) in
    let p : f k ≤ g k = h k (omega arith) in
    omega arith

pub sum_to_tight_lem : (k : ℕ) (f g : ℕ → ℕ) → ((i : ℕ) → i < k → f i ≤ g i) → sum_to k f ≡ sum_to k g → (b : ℕ) → b < k → f b ≡ g b
unfolding sum_to
sum_to_tight_lem zero f g h e b l = absurd (not-suc-le-zero l)
sum_to_tight_lem (suc k) f g h e b l =
    let r : sum_to k f ≤ sum_to k g = sum_to_mono_lem k f g (λ i m. h i (omega arith)) in
    let p : f k ≤ g k = h k (omega arith) in
    let z : f k ≡ g k = omega arith in
    cases (ℕ_discrete b k)
    (λ d. ap f d ∙ z ∙ sym (ap g d))
    (λ d. sum_to_tight_lem k f g (λ i m. h i (omega arith)) (omega arith) b (omega arith))

-- ---- how often y stands in a list

pub occ_nil : (y : ℕ) → occ y [] ≡ 0
unfolding occ
occ_nil y = refl

pub occ_cons : (y a : ℕ) (l : List ℕ) → occ y (a ∷ l) ≡ same y a + occ y l
unfolding occ
occ_cons y a l = refl

pub occ_here : (a : ℕ) (l : List ℕ) → occ a (a ∷ l) ≡ suc (occ a l)
unfolding occ
occ_here a l = omega (arith, same_refl a)

pub occ_there : (y a : ℕ) (l : List ℕ) → y ≢ a → occ y (a ∷ l) ≡ occ y l
unfolding occ
occ_there y a l h = omega (arith, same_diff y a h)

pub occ_append : (y : ℕ) (k l : List ℕ) → occ y (k ++ l) ≡ occ y k + occ y l
unfolding occ
occ_append y [] l = omega arith
occ_append y (a ∷ k) l = let r : occ y (k ++ l) ≡ occ y k + occ y l = occ_append y k l in omega arith

-- ---- f 0, f 1, .., f (k-1) as a list, from i on
pub tab_from_ext_lem : (k i : ℕ) (f g : ℕ → ℕ) → ((j : ℕ) → i ≤ j → j < i + k → f j ≡ g j) → tab_from k i f ≡ tab_from k i g
unfolding tab_from
tab_from_ext_lem zero i f g h = refl
tab_from_ext_lem (suc k) i f g h =
    ap₂ (λ (a : ℕ) (l : List ℕ). a ∷ l) (h i (omega arith) (omega arith)) (tab_from_ext_lem k (suc i) f g (λ j a b. h j (omega arith) (omega arith)))

pub occ_tab : (k i : ℕ) (f : ℕ → ℕ) (j : ℕ) → i ≤ j → j < i + k → 1 ≤ occ (f j) (tab_from k i f)
unfolding tab_from
occ_tab zero i f j a b = absurd (omega arith)
occ_tab (suc k) i f j a b =
    cases (ℕ_discrete j i)
    (λ e. subst (λ (z : ℕ). 1 ≤ occ (f j) (f z ∷ tab_from k (suc i) f)) e (omega (arith, occ_here (f j) (tab_from k (suc i) f))))
    (λ d.
    let r : 1 ≤ occ (f j) (tab_from k (suc i) f) = occ_tab k (suc i) f j (omega arith) (omega arith) in
    omega (arith, occ_cons (f j) (f i) (tab_from k (suc i) f)))

pub tab_occ : (k i : ℕ) (f : ℕ → ℕ) (y : ℕ) → 1 ≤ occ y (tab_from k i f) → (j : ℕ) × (i ≤ j) × (j < i + k) × (f j ≡ y)
unfolding tab_from occ
tab_occ zero i f y h = absurd (omega arith)
tab_occ (suc k) i f y h =
    cases (ℕ_discrete y (f i))
    (λ e. (i, omega arith, omega arith, sym e))
    (λ d.
    let r : (j : ℕ) × (suc i ≤ j) × (j < suc i + k) × (f j ≡ y) = tab_occ k (suc i) f y (omega (arith, same_diff y (f i) d)) in
    (r.0, omega arith, omega arith, r.3))

pub occ_tab_zero : (k i : ℕ) (f : ℕ → ℕ) (y : ℕ) → y ≢ 0 → ((j : ℕ) → i ≤ j → j < i + k → f j ≡ 0) → occ y (tab_from k i f) ≡ 0
unfolding tab_from occ
occ_tab_zero zero i f y d h = refl
occ_tab_zero (suc k) i f y d h =
    let p : f i ≡ 0 = h i (omega arith) (omega arith) in
    let q : same y (f i) ≡ 0 = same_diff y (f i) (omega arith) in
    let r : occ y (tab_from k (suc i) f) ≡ 0 = occ_tab_zero k (suc i) f y d (λ j a b. h j (omega arith) (omega arith)) in
    omega arith

pub tab_from_length_lem : (k i : ℕ) (f : ℕ → ℕ) → length (tab_from k i f) ≡ k
unfolding tab_from
tab_from_length_lem zero i f = refl
tab_from_length_lem (suc k) i f = ap suc (tab_from_length_lem k (suc i) f)

-- an element of a table
pub tab_at : (k i : ℕ) (f : ℕ → ℕ) (j : ℕ) → j < k → get_or (tab_from k i f) j 0 ≡ f (i + j)
unfolding tab_from
tab_at zero i f j h = absurd (omega arith)
tab_at (suc k) i f zero h = let e : i + 0 ≡ i = omega arith in ap f (sym e)
tab_at (suc k) i f (suc j) h = let e : suc i + j ≡ i + suc j = omega arith in tab_at k (suc i) f j (omega arith) ∙ ap f e

-- a list is the table of its elements
pub tab_list : (ks : List ℕ) (i : ℕ) (f : ℕ → ℕ) → ((j : ℕ) → j < length ks → f (i + j) ≡ get_or ks j 0) → tab_from (length ks) i f ≡ ks
unfolding tab_from
tab_list [] i f h = refl
tab_list (a ∷ ks) i f h =
    let e : i + 0 ≡ i = omega arith in
    ap₂ (λ (z : ℕ) (l : List ℕ). z ∷ l) (ap f (sym e) ∙ h 0 (omega arith))
    (tab_list ks (suc i) f (λ j l. let e : suc i + j ≡ i + suc j = omega arith in ap f e ∙ h (suc j) (omega arith)))

pub occ_length : (y : ℕ) (l : List ℕ) → occ y l ≤ length l
occ_length y [] = omega (arith, occ_nil y)
occ_length y (a ∷ l) =
    let r : occ y l ≤ length l = occ_length y l in
    cases (ℕ_discrete y a) (λ (e : y ≡ a). let p : same y a ≡ 1 = rw e (same_refl a) in omega (arith, occ_cons y a l)) (λ d. omega (arith, occ_there y a l d))
