-- The places that the code gives to a node's other parts are those that the definition gives, one after the other.
use mathlib.Core.Path.{◌≡◌, refl, sym, ap, ◌∙◌}
use mathlib.Core.Logic.{◌≢◌}
use mathlib.Core.Bool.{Bool, not, false}
use mathlib.Core.List.{List, [], ◌∷◌}
use Prim.Native.Nat.{ℕ, zero, suc, ◌+◌, ◌-◌, ◌*◌, ◌/◌, ◌%◌, ◌^◌, ◌≤◌, ◌<◌}
use native.Mathlib.Nat.{pow-succ', div-div-eq-div-mul, mul_left_comm}
use native.Mathlib.Decide.{ℕ_discrete}
use native.Mathlib.Omega.{arith}
use lib.Dec.{eqb}
use lib.ListN.{length, set, replicate, length-set}
use borrow.Author.Tests.{eq-eqb, ne_eqb}
use Rattle.nodes.specs.Words.{Nodes, nodes, fact_of, fact_put, put_of, slot, places}
use Rattle.nodes.specs.Tally.{one_if}
use Rattle.nodes.proofs.Access.{Within, word_fact, put_same, put_put}
use Rattle.nodes.proofs.Sums.{cases, split}
use Rattle.arena.specs.Calls.{each}
use Rattle.arena.specs.Models.{more_of, bumped}
use Rattle.arena.specs.Node.{bits_of}
use Rattle.arena.proofs.Bits.{bits_below}
use Rattle.edit_make.proofs.Steps.{bit_fits}
use Rattle.edit_make.specs.Models.{placed_if, placed_where, other_bits, with_bit, seven_placed}

-- ---- a mask without one of its bits

one_small : (b : Bool) → one_if b ≤ 1
unfolding one_if
one_small b = split b (λ e. rw e (omega arith)) (λ e. rw e (omega arith))

-- the bits of a list in which number c is replaced: those of the list but for bit c, and the new one's
bits_with : (p : ℕ → Bool) (ks : List ℕ) (c y : ℕ) → c < length ks → bits_of p ks - bits_of p ks / 2 ^ c % 2 * 2 ^ c + one_if (p y) * 2 ^ c ≡ bits_of p (set ks c y)
unfolding bits_of
bits_with p [] c y l = absurd (omega arith)
bits_with p (k ∷ ks) zero y l = omega (arith, one_small (p k))
bits_with p (k ∷ ks) (suc c) y l =
    let b = one_if (p k) in
    let r = bits_of p ks in
    let low = one_small (p k) in
    let half : (b + 2 * r) / 2 ≡ r = omega arith in
    let down : (b + 2 * r) / 2 ^ suc c ≡ r / 2 ^ c = ap (λ (n : ℕ). (b + 2 * r) / n) (pow-succ' 2 c) ∙ sym (div-div-eq-div-mul (b + 2 * r) 2 (2 ^ c)) ∙ ap (λ (n : ℕ). n / 2 ^ c) half in
    let twice : (x : ℕ) → x * 2 ^ suc c ≡ 2 * (x * 2 ^ c) = (λ x. ap (λ (n : ℕ). x * n) (pow-succ' 2 c) ∙ mul_left_comm x 2 (2 ^ c)) in
    let ih = bits_with p ks c y (omega arith) in
    let fits = bit_fits r c in
    rw (down, twice (r / 2 ^ c % 2), twice (one_if (p y))) (omega arith)

module _ (p : ℕ → Bool) (ks : List ℕ) (c m : ℕ) (e : m ≡ bits_of p ks) (eight : length ks ≡ 8) (l : c < 8) where
  byte : (y : ℕ) → bits_of p (set ks c y) < 2 ^ 8
  byte y = let n : 2 ^ length (set ks c y) ≡ 2 ^ 8 = ap (λ (i : ℕ). 2 ^ i) (length-set ks c y ∙ eight) in omega (arith, bits_below p (set ks c y))

  plain : other_bits m c ≡ bits_of p ks - bits_of p ks / 2 ^ c % 2 * 2 ^ c
  unfolding other_bits
  plain =
      let fits = bit_fits m c in
      let n : 2 ^ length ks ≡ 2 ^ 8 = ap (λ (i : ℕ). 2 ^ i) eight in
      let small = bits_below p ks in
      let same : m / 2 ^ c % 2 * 2 ^ c % 2 ^ 8 ≡ m / 2 ^ c % 2 * 2 ^ c = omega arith in
      ap (λ (n : ℕ). m - n) same ∙ ap (λ (n : ℕ). n - n / 2 ^ c % 2 * 2 ^ c) e

  -- the byte with the new one's bit
  pub with_bits : (y : ℕ) → with_bit m c (p y) ≡ bits_of p (set ks c y)
  unfolding with_bit
  with_bits y =
      let w = bits_with p ks c y (omega arith) in
      let b = byte y in
      let same : one_if (p y) * 2 ^ c % 2 ^ 8 ≡ one_if (p y) * 2 ^ c = omega arith in
      rw (plain, same) (omega arith)

  -- and without it
  other_bits_lem : p 0 ≡ false → other_bits m c ≡ bits_of p (set ks c 0)
  unfolding one_if
  other_bits_lem none = let w = rw none at (bits_with p ks c 0 (omega arith)) in plain ∙ omega arith

-- ---- a place for each whose bit is 1

abbrev some : ℕ → Bool
some k = not (eqb k 0)

place_one : (l : List ℕ) (k r : ℕ) → placed_if l k (eqb ((one_if (some k) + 2 * r) % 2) 1) ≡ bumped places l k
unfolding placed_if bumped one_if
place_one l k r = cases (ℕ_discrete k 0)
    (λ z. let e : (0 + 2 * r) % 2 ≡ 0 = omega arith in rw (eq-eqb k 0 z, e))
    (λ d. let e : (1 + 2 * r) % 2 ≡ 1 = omega arith in rw (ne_eqb k 0 d, e))

half_of : (b : Bool) (r : ℕ) → (one_if b + 2 * r) / 2 ≡ r
half_of b r = let s = one_small b in omega arith

where_all : (l ks : List ℕ) → placed_where l ks (bits_of some ks) ≡ each (bumped places) l ks
unfolding placed_where bits_of each
where_all l [] = refl
where_all l (k ∷ ks) = rw (place_one l k (bits_of some ks), half_of (some k) (bits_of some ks)) (where_all (bumped places l k) ks)

none_here : (l ks : List ℕ) (k r : ℕ) → placed_where (placed_if l k (eqb ((one_if (some 0) + 2 * r) % 2) 1)) ks ((one_if (some 0) + 2 * r) / 2) ≡ placed_where (bumped places l 0) ks r
unfolding placed_if one_if bumped
none_here l ks k r =
    let e : (0 + 2 * r) % 2 ≡ 0 = omega arith in
    let f : (0 + 2 * r) / 2 ≡ r = omega arith in
    rw (e, f)

where_others : (l ks : List ℕ) (c : ℕ) → placed_where l ks (bits_of some (set ks c 0)) ≡ each (bumped places) l (set ks c 0)
unfolding placed_where bits_of each
where_others l [] c = refl
where_others l (k ∷ ks) zero = none_here l ks k (bits_of some ks) ∙ where_all (bumped places l 0) ks
where_others l (k ∷ ks) (suc c) =
    rw (place_one l k (bits_of some (set ks c 0)), half_of (some k) (bits_of some (set ks c 0))) (where_others (bumped places l k) ks c)

pub where_placed : (l ks : List ℕ) (c m : ℕ) → m ≡ bits_of some ks → length ks ≡ 8 → c < 8 → placed_where l ks (other_bits m c) ≡ each (bumped places) l (set ks c 0)
where_placed l ks c m e eight h = ap (placed_where l ks) (other_bits_lem some ks c m e eight h refl) ∙ where_others l ks c

-- ---- seven places of one end

abbrev bump : ℕ → List ℕ → List ℕ
bump a l = bumped places l a

seven_times : (l : List ℕ) (a c : ℕ) → c < 8 → each (bumped places) l (set (replicate 8 a) c 0) ≡ bump a (bump a (bump a (bump a (bump a (bump a (bump a l))))))
unfolding each bumped
seven_times l a zero h = refl
seven_times l a (suc zero) h = refl
seven_times l a (suc (suc zero)) h = refl
seven_times l a (suc (suc (suc zero))) h = refl
seven_times l a (suc (suc (suc (suc zero)))) h = refl
seven_times l a (suc (suc (suc (suc (suc zero))))) h = refl
seven_times l a (suc (suc (suc (suc (suc (suc zero)))))) h = refl
seven_times l a (suc (suc (suc (suc (suc (suc (suc zero))))))) h = refl
seven_times l a (suc (suc (suc (suc (suc (suc (suc (suc c)))))))) h = absurd (omega arith)

module _ (k l : List ℕ) (a : ℕ) (d : a ≢ 0) (within : Within (nodes k l) (slot a)) where
  abbrev p : ℕ
  p = fact_of l (slot a) places

  abbrev put : ℕ → List ℕ
  put n = fact_put l (slot a) places ((p + n) % 2 ^ 32)

  put_read : (v : ℕ) → fact_of (fact_put l (slot a) places v) (slot a) places ≡ v
  unfolding put_of
  put_read v = sym (word_fact (nodes k (fact_put l (slot a) places v)) (slot a) places (omega arith)) ∙ put_same (nodes k l) (slot a) places v within (omega arith) (omega arith)

  put_over : (v w : ℕ) → fact_put (fact_put l (slot a) places v) (slot a) places w ≡ fact_put l (slot a) places w
  unfolding put_of
  put_over v w = ap (λ (x : Nodes). x.facts) (put_put (nodes k l) (slot a) places v w)

  first : bump a l ≡ put 1
  unfolding bumped more_of
  first = rw (ne_eqb a 0 d)

  next : (n : ℕ) → bump a (put n) ≡ put (n + 1)
  unfolding bumped more_of
  next n =
      let e : ((p + n) % 2 ^ 32 + 1) % 2 ^ 32 ≡ (p + (n + 1)) % 2 ^ 32 = omega arith in
      rw (ne_eqb a 0 d, put_read ((p + n) % 2 ^ 32), put_over ((p + n) % 2 ^ 32) (((p + n) % 2 ^ 32 + 1) % 2 ^ 32), e)

  pub seven_placed_lem : (c : ℕ) → c < 8 → seven_placed l a ≡ each (bumped places) l (set (replicate 8 a) c 0)
  unfolding seven_placed
  seven_placed_lem c h = sym (seven_times l a c h ∙ rw (first, next 1, next 2, next 3, next 4, next 5, next 6, ne_eqb a 0 d))

pub none_placed : (l : List ℕ) (c : ℕ) → c < 8 → seven_placed l 0 ≡ each (bumped places) l (set (replicate 8 0) c 0)
unfolding seven_placed bumped
none_placed l c h = sym (seven_times l 0 c h)
