-- One child changed changes the hash by the difference of two terms; a home lies below four times the capacity.
use Rattle.std.proofs.Common.{◌≡◌, ℕ, zero, suc, ◌+◌, ◌-◌, ◌*◌, ◌/◌, ◌%◌, ◌^◌, ◌<◌, ◌≤◌, List, [], ◌∷◌, length, get_or, set, sym, refl, ap, ◌∙◌, mod-eq_of_lt, mul_comm, div-lt_iff_lt-mul, mul-le-mul, mul-lt-mul_of_pos_right, arith, get_or-set_other, get_or-set_same, le-leb}
use native.Mathlib.Numerals.{add-one}
use native.Mathlib.Nat.{mod-add-mod, add-mod, add-mul-mod_self_left}
use native.Mathlib.Decide.{dec_lt}
use lib.ListN.{get_or-eq_default}
use borrow.Author.Tests.{lt-leb}
use Rattle.basics.specs.Sums.{sum_to}
use Rattle.nodes.proofs.Sums.{cases, sum_to_upd_lem}
use Rattle.find_hash.specs.Hash.{factor, term, kids_hash, rekids_hash, leaf_hash, even_hash, home_in}

pub factor_low : (i : ℕ) → factor i < 2 ^ 32
unfolding factor
factor_low zero = omega arith
factor_low (suc zero) = omega arith
factor_low (suc (suc zero)) = omega arith
factor_low (suc (suc (suc zero))) = omega arith
factor_low (suc (suc (suc (suc zero)))) = omega arith
factor_low (suc (suc (suc (suc (suc zero))))) = omega arith
factor_low (suc (suc (suc (suc (suc (suc zero)))))) = omega arith
factor_low (suc (suc (suc (suc (suc (suc (suc zero))))))) = omega arith
factor_low (suc (suc (suc (suc (suc (suc (suc (suc i)))))))) = omega arith

-- two numbers below 2^32
pub product : (x y : ℕ) → x < 2 ^ 32 → y < 2 ^ 32 → x * y < 2 ^ 64
product x y a b = let p : x * y ≤ 0xFFFFFFFF * 0xFFFFFFFF = mul-le-mul {n₁ = x} {m₁ = y} {n₂ = 0xFFFFFFFF} {m₂ = 0xFFFFFFFF} (omega arith) (omega arith) in omega arith

pub term_low : (i k : ℕ) → term i k < 2 ^ 64
unfolding term
term_low i k = product (k % 2 ^ 32) (factor i) (omega arith) (factor_low i)

past : (s u x y : ℕ) → u + x ≡ s + y → x < 2 ^ 64 → (s + (y + (2 ^ 64 - x))) % 2 ^ 32 ≡ u % 2 ^ 32
past s u x y e l = let p : s + (y + (2 ^ 64 - x)) ≡ u + 2 ^ 32 * 2 ^ 32 = omega arith in rw p (add-mul-mod_self_left u (2 ^ 32) (2 ^ 32))

-- one child changed, in a sum over the children: of terms, of values, of cells
pub sum_set : (n : ℕ) (g : ℕ → ℕ → ℕ) (ks : List ℕ) (i y : ℕ) → length ks ≡ n → i < n
    → sum_to n (λ j. g j (get_or (set ks i y) j 0)) + g i (get_or ks i 0) ≡ sum_to n (λ j. g j (get_or ks j 0)) + g i y
sum_set n g ks i y e l =
    let u = sum_to_upd_lem n i (λ j. g j (get_or (set ks i y) j 0)) (λ j. g j (get_or ks j 0)) l (λ j m d. ap (g j) (get_or-set_other ks i j y 0 d)) in
    let e : g i (get_or (set ks i y) i 0) ≡ g i y = ap (g i) (get_or-set_same ks i y 0 (omega arith)) in
    omega arith

-- the hash after one change
module _ (ks : List ℕ) (i y : ℕ) (eight : length ks ≡ 8) (low : i < 8) where
  pub rehash_set : rekids_hash (kids_hash ks) i (get_or ks i 0) y ≡ kids_hash (set ks i y)
  unfolding kids_hash rekids_hash
  rehash_set = mod-add-mod (sum_to 8 (λ j. term j (get_or ks j 0))) (2 ^ 32) (term i y + (2 ^ 64 - term i (get_or ks i 0)))
      ∙ past (sum_to 8 (λ j. term j (get_or ks j 0))) (sum_to 8 (λ j. term j (get_or (set ks i y) j 0))) (term i (get_or ks i 0)) (term i y) (sum_set 8 term ks i y eight low) (term_low i (get_or ks i 0))

-- ---- homes

pub home_low : (cap h : ℕ) → 0 < cap → home_in cap h < 4 * cap
unfolding home_in
home_low cap h l = cases (dec_lt 65536 cap)
    (λ g. rw (lt-leb cap 65536 g) (omega arith))
    (λ g. rw (le-leb cap 65536 (omega arith)) ((div-lt_iff_lt-mul {k = 2 ^ 32} {x = h % 2 ^ 32 * (4 * cap)} {y = 4 * cap} (omega arith)).1 part))
  where
    part : h % 2 ^ 32 * (4 * cap) < 4 * cap * 2 ^ 32
    part =
        let p : h % 2 ^ 32 * (4 * cap) < 2 ^ 32 * (4 * cap) = mul-lt-mul_of_pos_right {m = h % 2 ^ 32} {n = 2 ^ 32} {k = 4 * cap} (omega arith) (omega arith) in
        omega (arith, mul_comm (2 ^ 32) (4 * cap))

-- ---- what the code answers

pub product_code : (k i m : ℕ) → m ≡ factor i → k % 2 ^ 32 * m ≡ term i k
unfolding term
product_code k i m e = rw e

pub product_fits : (k i m : ℕ) → m ≡ factor i → k % 2 ^ 32 * m < 2 ^ 64
product_fits k i m e = product (k % 2 ^ 32) m (omega arith) (omega (arith, factor_low i))

half : (x : ℕ) → x % 2 ^ 64 % 2 ^ 32 ≡ x % 2 ^ 32
half x = omega arith

-- a sum that runs over at 2^64 is the sum, modulo 2^32
over : (x y z m n : ℕ) → x % 2 ^ 32 ≡ m % 2 ^ 32 → y % 2 ^ 32 ≡ n % 2 ^ 32 → z ≡ (x + y) % 2 ^ 64 → z % 2 ^ 32 ≡ (m + n) % 2 ^ 32
over x y z m n p q e = rw e (half (x + y) ∙ add-mod x y (2 ^ 32) ∙ rw (p, q) (sym (add-mod m n (2 ^ 32))))

-- the terms of the first children added up, one more
module _ (ks : List ℕ) where
  abbrev sums : ℕ → ℕ
  sums i = sum_to i (λ j. term j (get_or ks j 0))

  pub sum_first : 0 % 2 ^ 32 ≡ sums 0 % 2 ^ 32
  unfolding sum_to
  sum_first = refl

  pub sum_next : (i x t : ℕ) → x % 2 ^ 32 ≡ sums i % 2 ^ 32 → t ≡ term i (get_or ks i 0) → (x + t) % 2 ^ 64 % 2 ^ 32 ≡ sums (i + 1) % 2 ^ 32
  unfolding sum_to
  sum_next i x t e h = rw (add-one i) (over x t ((x + t) % 2 ^ 64) (sums i) (term i (get_or ks i 0)) e (ap (λ (n : ℕ). n % 2 ^ 32) h) refl)

  pub sum_last : (i x : ℕ) → i ≡ 8 → x % 2 ^ 32 ≡ sums i % 2 ^ 32 → x % 2 ^ 32 ≡ kids_hash ks
  unfolding kids_hash
  sum_last i x q e = rw q at e

pub change_code : (h i x y a b : ℕ) → a ≡ term i y → b ≡ term i x → (h + (a + (2 ^ 64 - b)) % 2 ^ 64) % 2 ^ 64 % 2 ^ 32 ≡ rekids_hash h i x y
unfolding rekids_hash
change_code h i x y a b p q = rw (sym p, sym q) (omega arith)

-- a sum of eight equal ids
pub even : (k : ℕ) → kids_hash (k ∷ k ∷ k ∷ k ∷ k ∷ k ∷ k ∷ k ∷ []) ≡ even_hash k
unfolding kids_hash even_hash sum_to term factor
even k = omega arith

pub home_fits : (x cap : ℕ) → x < 2 ^ 32 → cap ≤ 65536 → x * (4 * cap) < 2 ^ 64
home_fits x cap l m =
    let p : x * (4 * cap) ≤ 2 ^ 32 * 262144 = mul-le-mul {n₁ = x} {m₁ = 4 * cap} {n₂ = 2 ^ 32} {m₂ = 262144} (omega arith) (omega arith) in
    omega arith

pub home_small : (cap h : ℕ) → h < 2 ^ 32 → cap ≤ 65536 → h * (4 * cap) / 2 ^ 32 ≡ home_in cap h
unfolding home_in
home_small cap h m l = let e : h % 2 ^ 32 ≡ h = mod-eq_of_lt m in rw (le-leb cap 65536 l, e)

pub home_large : (cap h : ℕ) → 65536 < cap → 0 ≡ home_in cap h
unfolding home_in
home_large cap h l = rw (lt-leb cap 65536 l)

pub leaf_code : (v : ℕ) → v * 0x9E3779B1 % 2 ^ 32 ≡ leaf_hash v
unfolding leaf_hash
leaf_code v = refl

pub factor_past : (i : ℕ) → 8 ≤ i → 0 ≡ factor i
unfolding factor
factor_past i h = sym (get_or-eq_default (0x9E3779B1 ∷ 0x85EBCA77 ∷ 0xC2B2AE3D ∷ 0x27D4EB2F ∷ 0x165667B1 ∷ 0xD6E8FEB9 ∷ 0xA136AAAD ∷ 0x7FEB352D ∷ []) 0 {n = i} h)

up : (i n : ℕ) → n ≤ i → (i ≡ n → ⊥) → suc n ≤ i
up i n l d = omega arith

least : (i : ℕ) → 0 ≤ i
least i = omega arith

-- none of eight
pub none_of_lem : (i : ℕ) → (i ≡ 0 → ⊥) → (i ≡ 1 → ⊥) → (i ≡ 2 → ⊥) → (i ≡ 3 → ⊥) → (i ≡ 4 → ⊥) → (i ≡ 5 → ⊥) → (i ≡ 6 → ⊥) → (i ≡ 7 → ⊥) → 0 ≡ factor i
none_of_lem i a b c d e f g h = factor_past i (up i 7 (up i 6 (up i 5 (up i 4 (up i 3 (up i 2 (up i 1 (up i 0 (least i) a) b) c) d) e) f) g) h)

-- the terms added two by two
pub sum_code : (ks : List ℕ) (a b c d e f g h ab cd ef gh l u r : ℕ)
    → a ≡ term 0 (get_or ks 0 0) → b ≡ term 1 (get_or ks 1 0) → c ≡ term 2 (get_or ks 2 0) → d ≡ term 3 (get_or ks 3 0)
    → e ≡ term 4 (get_or ks 4 0) → f ≡ term 5 (get_or ks 5 0) → g ≡ term 6 (get_or ks 6 0) → h ≡ term 7 (get_or ks 7 0)
    → ab ≡ (a + b) % 2 ^ 64 → cd ≡ (c + d) % 2 ^ 64 → ef ≡ (e + f) % 2 ^ 64 → gh ≡ (g + h) % 2 ^ 64
    → l ≡ (ab + cd) % 2 ^ 64 → u ≡ (ef + gh) % 2 ^ 64 → r ≡ (l + u) % 2 ^ 64 → r % 2 ^ 32 ≡ kids_hash ks
unfolding kids_hash sum_to
sum_code ks a b c d e f g h ab cd ef gh l u r q₀ q₁ q₂ q₃ q₄ q₅ q₆ q₇ s₀ s₁ s₂ s₃ s₄ s₅ s₆ =
    over l u r (a + b + (c + d)) (e + f + (g + h))
    (over ab cd l (a + b) (c + d) (over a b ab a b refl refl s₀) (over c d cd c d refl refl s₁) s₄)
    (over ef gh u (e + f) (g + h) (over e f ef e f refl refl s₂) (over g h gh g h refl refl s₃) s₅) s₆
    ∙ ap (λ (n : ℕ). n % 2 ^ 32) (sums a b c d e f g h _ _ _ _ _ _ _ _ q₀ q₁ q₂ q₃ q₄ q₅ q₆ q₇)
  where
    sums : (a b c d e f g h a' b' c' d' e' f' g' h' : ℕ) → a ≡ a' → b ≡ b' → c ≡ c' → d ≡ d' → e ≡ e' → f ≡ f' → g ≡ g' → h ≡ h'
        → a + b + (c + d) + (e + f + (g + h)) ≡ 0 + a' + b' + c' + d' + e' + f' + g' + h'
    sums a b c d e f g h a' b' c' d' e' f' g' h' q₀ q₁ q₂ q₃ q₄ q₅ q₆ q₇ = omega arith
