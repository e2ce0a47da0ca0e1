-- Spreading by shifts and masks: where each bit of the result comes from.
use Prim.Native.Nat.{ℕ, zero, suc, ◌+◌, ◌-◌, ◌*◌, ◌/◌, ◌%◌, ◌^◌, ◌≤◌, ◌<◌, min, max}
use mathlib.Core.Path.{◌≡◌, ◌∙◌, refl, sym, ap, ap₂}
use mathlib.Core.Bool.{Bool, true, false, ◌&&◌}
use mathlib.Core.List.{List, [], ◌∷◌, ◌++◌}
use mathlib.Core.Logic.{⊎_elim}
use native.Mathlib.Nat.{lt_of_le_of_lt, eq-or-lt_of_le, le_of_suc-le-suc}
use native.Mathlib.Omega.{arith}
use lib.Dec.{eqb, ltb, lit<}
use borrow.Author.Tests.{ltb-true, ltb-false, eqb-true}
use lib.Bits.{bit_or, and_le_r}
use Rattle.basics.specs.Bits.{bit}
use Rattle.basics.specs.Pick.{pick}
use Rattle.paths.specs.Models.{Stage, stage, run, last, earlier, stages}
use Rattle.paths.specs.Paths.{axis, interleave}
use Rattle.paths.proofs.Bits.{bit_lt, bit_zero, bit_past, bit_and_lem, bit_or_lem, bit_mod, bit_shift, bit_shifted_in, by_bits}
use Rattle.paths.proofs.Laws.{path_lt, path_at}

-- The positions of x, of ten bits, whose bits come together at position i.
sources : List Stage → ℕ → List ℕ
sources [] i = pick (ltb i 10) (i ∷ []) []
sources (s ∷ ss) i = pick (eqb (bit i s.mask) 0) [] (sources ss i ++ pick (ltb i s.shift) [] (sources ss (i - s.shift)))

-- The or of the bits of x at some positions.
either : ℕ → List ℕ → ℕ
either x [] = 0
either x (n ∷ ns) = max (bit n x) (either x ns)

-- The or over two runs of positions.
either_append : (x : ℕ) (a b : List ℕ) → either x (a ++ b) ≡ max (either x a) (either x b)
unfolding either
either_append x [] b = omega arith
either_append x (n ∷ a) b = let h : either x (a ++ b) ≡ max (either x a) (either x b) = either_append x a b in omega arith

either_pick : (x : ℕ) (b : Bool) (l : List ℕ) → either x (pick b [] l) ≡ pick b 0 (either x l)
unfolding either
either_pick x true l = refl
either_pick x false l = refl

-- A shift at 32 bits brings to position i the bit that stood as many places lower, if there is one.
shifted_bit : (k v i : ℕ) → i < 32 → bit i (v * 2 ^ k % 2 ^ 32) ≡ pick (ltb i k) 0 (bit (i - k) v)
shifted_bit k v i h = bit_mod 32 i (v * 2 ^ k) h ∙ go (ltb i k) refl
  where
    go : (b : Bool) → ltb i k ≡ b → bit i (v * 2 ^ k) ≡ pick b 0 (bit (i - k) v)
    go true e = bit_shifted_in k i v (ltb-true i k e)
    go false e =
        let q : k ≤ i = ltb-false i k e in
        let p : i ≡ k + (i - k) = omega arith in
        ap (λ (j : ℕ). bit j (v * 2 ^ k)) p ∙ bit_shift k (i - k) v

-- A bit under a bit of the mask.
masked : (b m : ℕ) → b < 2 → m < 2 → min b m ≡ pick (eqb m 0) 0 b
masked b zero h l = omega arith
masked b (suc zero) h l = omega arith
masked b (suc (suc m)) h l = absurd (omega arith)

-- Bit i of what a stage gives: the or of bit i and of the bit that the shift brings there, if the mask has it.
stage_bit : (s : Stage) (v i : ℕ) → i < 32
    → bit i (stage s v) ≡ pick (eqb (bit i s.mask) 0) 0 (max (bit i v) (pick (ltb i s.shift) 0 (bit (i - s.shift) v)))
stage_bit s v i h =
    bit_and_lem i (bit_or v (v * 2 ^ s.shift % 2 ^ 32)) s.mask
    ∙ masked (bit i (bit_or v (v * 2 ^ s.shift % 2 ^ 32))) (bit i s.mask) (bit_lt i (bit_or v (v * 2 ^ s.shift % 2 ^ 32))) (bit_lt i s.mask)
    ∙ ap (pick (eqb (bit i s.mask) 0) 0) (bit_or_lem i v (v * 2 ^ s.shift % 2 ^ 32) ∙ ap (max (bit i v)) (shifted_bit s.shift v i h))

-- Bit i of what the stages make of x is the or of the bits of x that come together there.
run_bit : (ss : List Stage) (x i : ℕ) → x < 2 ^ 10 → i < 32 → bit i (run ss x) ≡ either x (sources ss i)
unfolding sources either
run_bit [] x i l h = go (ltb i 10) refl
  where
    go : (b : Bool) → ltb i 10 ≡ b → bit i x ≡ either x (pick b (i ∷ []) [])
    go true e = omega arith
    go false e = bit_past 10 i x l (ltb-false i 10 e)
run_bit (s ∷ ss) x i l h =
    let e : bit i (run ss x) ≡ either x (sources ss i) = run_bit ss x i l h in
    let f : bit (i - s.shift) (run ss x) ≡ either x (sources ss (i - s.shift)) = run_bit ss x (i - s.shift) l (omega arith) in
    stage_bit s (run ss x) i h
    ∙ ap (pick (eqb (bit i s.mask) 0) 0)
    (ap₂ max e (ap (pick (ltb i s.shift) 0) f ∙ sym (either_pick x (ltb i s.shift) (sources ss (i - s.shift))))
    ∙ sym (either_append x (sources ss i) (pick (ltb i s.shift) [] (sources ss (i - s.shift)))))
    ∙ sym (either_pick x (eqb (bit i s.mask) 0) (sources ss i ++ pick (ltb i s.shift) [] (sources ss (i - s.shift))))

-- The result is no longer than the last mask.
run_lt : (s : Stage) (ss : List Stage) (x k : ℕ) → s.mask < 2 ^ k → run (s ∷ ss) x < 2 ^ k
run_lt s ss x k h = lt_of_le_of_lt (and_le_r (bit_or (run ss x) (run ss x * 2 ^ s.shift % 2 ^ 32)) s.mask) h

-- ## The test of the masks

-- Two lists are the same.
same : List ℕ → List ℕ → Bool
same [] [] = true
same [] (b ∷ m) = false
same (a ∷ l) [] = false
same (a ∷ l) (b ∷ m) = eqb a b && same l m

both : (a b : Bool) → (a && b) ≡ true → (a ≡ true) × (b ≡ true)
both true b h = (refl, h)
both false b h = let q : ◌≡◌ {A = ℕ} 0 1 = cc in absurd (omega arith)

same_yes : (a b : List ℕ) → same a b ≡ true → a ≡ b
unfolding same
same_yes [] [] h = refl
same_yes [] (b ∷ m) h = let q : ◌≡◌ {A = ℕ} 0 1 = cc in absurd (omega arith)
same_yes (a ∷ l) [] h = let q : ◌≡◌ {A = ℕ} 0 1 = cc in absurd (omega arith)
same_yes (a ∷ l) (b ∷ m) h =
    let p : (eqb a b ≡ true) × (same l m ≡ true) = both (eqb a b) (same l m) h in
    ap₂ (λ (i : ℕ) (r : List ℕ). i ∷ r) (eqb-true a b p.0) (same_yes l m p.1)

-- What is to come together at position i: bit i / 3 where 3 divides i, else nothing.
abbrev wanted : ℕ → List ℕ
wanted i = axis (i % 3) (i / 3 ∷ []) [] []

-- At every position below k comes together what is wanted there.
spreads : List Stage → ℕ → Bool
spreads ss zero = true
spreads ss (suc i) = same (sources ss i) (wanted i) && spreads ss i

-- What the test says at one position.
spreads_at : (ss : List Stage) (k i : ℕ) → spreads ss k ≡ true → i < k → sources ss i ≡ wanted i
unfolding spreads
spreads_at ss zero i h l = absurd (omega arith)
spreads_at ss (suc k) i h l = ⊎_elim (λ e. rw e (same_yes _ _ p.0)) (λ q. spreads_at ss k i p.1 q) (eq-or-lt_of_le (le_of_suc-le-suc l))
  where
    p : (same (sources ss k) (wanted k) ≡ true) × (spreads ss k ≡ true)
    p = both _ _ h

-- What is wanted at a position is the bit of the path of x alone.
wanted_bit : (x n a : ℕ) → either x (axis a (n ∷ []) [] []) ≡ bit n (axis a x 0 0)
unfolding either
wanted_bit x n zero = omega arith
wanted_bit x n (suc zero) = sym (bit_zero n)
wanted_bit x n (suc (suc a)) = sym (bit_zero n)

-- ## The four masks

-- One test, computed, over the 30 positions.
tested : spreads stages 30 ≡ true
unfolding spreads same sources
tested = refl

-- The four stages spread a number of ten bits.
pub masks_spread : (x : ℕ) → x < 2 ^ 10 → run stages x ≡ interleave 10 x 0 0
masks_spread x h =
    by_bits 30 _ _ (run_lt last earlier x 30 (lit< tt)) (path_lt 10 x 0 0)
    (λ i l. run_bit stages x i h (omega arith) ∙ ap (either x) (spreads_at stages 30 i tested l) ∙ wanted_bit x (i / 3) (i % 3) ∙ sym (path_at 10 i x 0 0 l))
