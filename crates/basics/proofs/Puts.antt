-- The laws of a list written over: how long it is, what stands where, and in which order it may be written.
use mathlib.Core.Path.{◌≡◌, refl, sym, ap, ◌∙◌}
use mathlib.Core.List.{List, [], ◌∷◌, ◌++◌}
use Prim.Native.Nat.{ℕ, zero, suc, ◌+◌, ◌≤◌, ◌<◌}
use native.Mathlib.Numerals.{add-one}
use native.Mathlib.Omega.{arith}
use lib.ListN.{length, get_or, set, take, drop, length-set, length-append}
use lib.Seq.{take_all, take-suc, length-take-le, take-append_seam, get_or-set_same, get_or-set_other, set_out, set_comm, sets, sets-eq, length-sets}
use Rattle.basics.specs.Puts.{puts_from}

puts_sets : (s l : List ℕ) (at : ℕ) → puts_from l at s ≡ sets l at s
unfolding puts_from
puts_sets [] l at = refl
puts_sets (x ∷ s) l at = puts_sets s (set l at x) (suc at)

-- ---- what stands where

pub puts_length : (l : List ℕ) (at : ℕ) (vs : List ℕ) → length (puts_from l at vs) ≡ length l
puts_length l at vs = ap length (puts_sets vs l at) ∙ length-sets l at vs

pub puts_other : (l : List ℕ) (at : ℕ) (vs : List ℕ) (p : ℕ) → (at ≤ p → p < at + length vs → ⊥) → get_or (puts_from l at vs) p 0 ≡ get_or l p 0
unfolding puts_from
puts_other l at [] p h = refl
puts_other l at (v ∷ vs) p h =
    puts_other (set l at v) (suc at) vs p (λ a b. h (omega arith) (omega arith)) ∙ get_or-set_other l at p v 0 (λ e. h (omega arith) (omega arith))

pub puts_at : (l : List ℕ) (at : ℕ) (vs : List ℕ) (k : ℕ) → at + length vs ≤ length l → k < length vs → get_or (puts_from l at vs) (at + k) 0 ≡ get_or vs k 0
unfolding puts_from
puts_at l at [] k m h = absurd (omega arith)
puts_at l at (v ∷ vs) zero m h =
    let e : at + 0 ≡ at = omega arith in
    rw e (puts_other (set l at v) (suc at) vs at (λ a b. omega arith) ∙ get_or-set_same l at v 0 (omega arith))
puts_at l at (v ∷ vs) (suc k) m h =
    let e : at + suc k ≡ suc at + k = omega arith in
    rw e (puts_at (set l at v) (suc at) vs k (omega (arith, length-set l at v)) (omega arith))

-- where there is room, the text stands at the start
pub puts_there : (l s : List ℕ) → length s ≤ length l → take (length s) (puts_from l 0 s) ≡ s
puts_there l s h = ap (take (length s)) (puts_sets s l 0 ∙ sets-eq s l 0 (omega arith)) ∙ take-append_seam s (drop (0 + length s) l)

-- nothing is written past the end
pub puts_out : (l : List ℕ) (at : ℕ) (vs : List ℕ) → length l ≤ at → l ≡ puts_from l at vs
unfolding puts_from
puts_out l at [] h = refl
puts_out l at (v ∷ vs) h = puts_out l (suc at) vs (omega arith) ∙ ap (λ (m : List ℕ). puts_from m (suc at) vs) (sym (set_out l at v h))

-- ---- in which order

puts_before : (l : List ℕ) (at : ℕ) (vs : List ℕ) (p v : ℕ) → p < at → puts_from (set l p v) at vs ≡ set (puts_from l at vs) p v
unfolding puts_from
puts_before l at [] p v h = refl
puts_before l at (w ∷ vs) p v h =
    ap (λ (m : List ℕ). puts_from m (suc at) vs) (set_comm l p at v w (λ e. omega arith)) ∙ puts_before (set l at w) (suc at) vs p v (omega arith)

-- the first number last
pub puts_first : (l : List ℕ) (at v : ℕ) (vs : List ℕ) → puts_from l at (v ∷ vs) ≡ set (puts_from l (suc at) vs) at v
unfolding puts_from
puts_first l at v vs = puts_before l (suc at) vs at v (omega arith)

-- a text after a text
pub puts_append : (s u l : List ℕ) (at : ℕ) → puts_from l at (s ++ u) ≡ puts_from (puts_from l at s) (at + length s) u
unfolding puts_from
puts_append [] u l at = let e : at + 0 ≡ at = omega arith in rw e
puts_append (x ∷ s) u l at =
    let e : suc at + length s ≡ at + suc (length s) = omega arith in
    puts_append s u (set l at x) (suc at) ∙ ap (λ (k : ℕ). puts_from (puts_from (set l at x) (suc at) s) k u) e

pub puts_one : (l : List ℕ) (at v : ℕ) → puts_from l at (v ∷ []) ≡ set l at v
unfolding puts_from
puts_one l at v = refl

module _ (l m : List ℕ) (at n : ℕ) (s : List ℕ) (e : m ≡ puts_from l at s) (k : n ≡ length s) where
  pub puts_then : (o u : List ℕ) → o ≡ puts_from m (at + n) u → o ≡ puts_from l at (s ++ u)
  puts_then o u h = h ∙ ap (λ (i : ℕ). puts_from m (at + i) u) k ∙ ap (λ (x : List ℕ). puts_from x (at + length s) u) e ∙ sym (puts_append s u l at)

  -- one number more
  pub puts_end : (o : List ℕ) (v : ℕ) → o ≡ set m (at + n) v → o ≡ puts_from l at (s ++ (v ∷ []))
  puts_end o v h = puts_then o (v ∷ []) (h ∙ sym (puts_one m (at + n) v))

pub length_end : (s : List ℕ) (n v : ℕ) → n ≡ length s → n + 1 ≡ length (s ++ (v ∷ []))
length_end s n v e = omega (arith, length-append s (v ∷ []))

-- ---- a text number by number: the first i stand

pub puts_none : (l : List ℕ) (at : ℕ) (text : List ℕ) → l ≡ puts_from l at (take 0 text)
unfolding puts_from
puts_none l at text = refl

module _ (l m : List ℕ) (at i : ℕ) (text : List ℕ) (e : m ≡ puts_from l at (take i text)) where
  pub puts_more : (o : List ℕ) → i < length text → o ≡ set m (at + i) (get_or text i 0) → o ≡ puts_from l at (take (i + 1) text)
  puts_more o h q =
      let k : i ≡ length (take i text) = sym (length-take-le i text (omega arith)) in
      puts_end l m at i (take i text) e k o (get_or text i 0) q ∙ ap (puts_from l at) (sym (take-suc text i 0 h) ∙ ap (λ (j : ℕ). take j text) (sym (add-one i)))

  pub puts_all : (n : ℕ) → i ≤ n → n ≤ i → m ≡ puts_from l at (take n text)
  puts_all n h k = let q : i ≡ n = omega arith in e ∙ ap (λ (j : ℕ). puts_from l at (take j text)) q

  pub puts_whole : length text ≤ i → m ≡ puts_from l at text
  puts_whole h = e ∙ ap (puts_from l at) (take_all i text h)
