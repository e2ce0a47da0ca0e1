-- Hold and a fresh arena: well formed afterwards. (Their contracts are exact on any tables.)
use mathlib.Core.Path.{◌≡◌, refl, sym, ap, subst}
use mathlib.Core.Logic.{◌≢◌}
use mathlib.Core.Bool.{Bool, true, false}
use mathlib.Core.List.{List}
use Prim.Native.Nat.{ℕ, zero, suc, ◌-◌, ◌%◌, ◌^◌, ◌≤◌}
use native.Mathlib.Decide.{ℕ_discrete}
use native.Mathlib.Omega.{arith}
use lib.Dec.{eqb, ltb}
use lib.ListN.{length, get_or, replicate, length-replicate}
use borrow.Author.Tests.{eq-eqb, ne_eqb}
use Rattle.basics.specs.Pick.{pick}
use Rattle.ids.specs.Ids.{generation_of}
use Rattle.nodes.specs.Words.{Place, row_in, row_at, in_rows, in_facts, kid_of, fact_of, own, mark, spare, nodes, slot, floor, word_of}
use Rattle.nodes.proofs.Counts.{floor_pos}
use Rattle.nodes.proofs.Freeing.{freed_fresh}
use Rattle.nodes.proofs.Sums.{cases}
use Rattle.find.specs.Content.{home_at}
use Rattle.find.proofs.Finding.{finds_fresh, finds_as}
use Rattle.arena.specs.Calls.{fit_of, held_at, hold_no, hold_of, fresh, fresh_of}
use Rattle.arena.specs.Tables.{tables, Tables, LiveSlot, Sized, WellFormed}
use Rattle.arena.proofs.Fits.{live_is, hold_live, fits_sized}
use Rattle.arena.proofs.Ids.{gen_zero}
use Rattle.arena.proofs.Leaves.{held_kept}

hold_refused : (t : Tables) (id : ℕ) → hold_no t id ≢ 0 → t ≡ (hold_of t id).after
unfolding hold_of
hold_refused t id d = rw (ne_eqb (hold_no t id) 0 d)

hold_empty : (t : Tables) (id : ℕ) → hold_no t id ≡ 0 → id ≡ 0 → t ≡ (hold_of t id).after
unfolding hold_of
hold_empty t id z e = rw (eq-eqb (hold_no t id) 0 z, eq-eqb id 0 e)

hold_done : (t : Tables) (id : ℕ) → hold_no t id ≡ 0 → id ≢ 0 → held_at t (slot id) ≡ (hold_of t id).after
unfolding hold_of
hold_done t id z e = rw (eq-eqb (hold_no t id) 0 z, ne_eqb id 0 e)

pub hold_well : {n tallest : ℕ} {t : Tables} (id : ℕ) → n ≤ 8 → WellFormed n tallest t → WellFormed n tallest (hold_of t id).after
hold_well {n} {tallest} {t} id m w = cases (ℕ_discrete (hold_no t id) 0)
    (λ z. cases (ℕ_discrete id 0)
    (λ y. subst (λ (u : Tables). WellFormed n tallest u) (hold_empty t id z y) w)
    (λ y.
    let r = hold_live t id z y in
    let v = live_is t id r.0 in
    let i = v.is in
    let h = v.high in
    subst (λ (u : Tables). WellFormed n tallest u) (hold_done t id z y) (held_kept (slot id) m w (v.low, omega arith) r.1)))
    (λ z. subst (λ (u : Tables). WellFormed n tallest u) (hold_refused t id z) w)

-- ---- a fresh arena

zeros : (n i : ℕ) → ◌≡◌ {A = ℕ} (get_or (replicate n 0) i 0) 0
zeros zero i = refl
zeros (suc n) zero = refl
zeros (suc n) (suc i) = zeros n i

none : (b : Bool) {x y : ℕ} → x ≡ 0 → y ≡ 0 → pick b x y ≡ 0
none true p q = p
none false p q = q

zeros_row : (r : ℕ) (at : Place) (n s i : ℕ) → row_at r at (replicate n 0) s i ≡ 0
unfolding row_at
zeros_row r at n s i = none (ltb i r) (none (row_in r (replicate n 0) s) (zeros n (at (length (replicate n 0)) s i)) refl) refl

-- every word of two cleared tables is 0
blank : (m n s f : ℕ) → word_of (nodes (replicate m 0) (replicate n 0)) s f ≡ 0
unfolding word_of kid_of fact_of
blank m n s f =
    none (ltb f 8) (zeros_row 8 (in_rows 8) m s f)
    (none (eqb f own) (let a = zeros_row 11 in_facts n s 0 in let b = zeros_row 11 in_facts n s 1 in omega arith) (none (ltb f own) refl (zeros_row 11 in_facts n s (f - 7))))

blank_well : (n tallest c j x y : ℕ) → Sized (tables (fresh c) (replicate j 0) (replicate x 0) (replicate y 0))
    → WellFormed n tallest (tables (fresh c) (replicate j 0) (replicate x 0) (replicate y 0))
blank_well n tallest c j x y z = record {
  sized = z;
  stack = freed_fresh c (word_of (nodes (replicate j 0) (replicate x 0))) (let p = z.least in omega arith) (λ s. blank j x s own);
  nodes = λ s l. absurd (dead s l.1);
  distinct = λ s b l m e f. absurd (dead s l.1);
  tallied = λ s l. absurd (dead s l.1);
  used = λ s l. absurd (dead s l.1);
  finds = finds_as (home_at c (word_of (nodes (replicate j 0) (replicate x 0)))) (home_at c (word_of (nodes (replicate j 0) (replicate x 0)))) (λ s. ⊥) (LiveSlot (tables (fresh c) (replicate j 0) (replicate x 0) (replicate y 0))) (replicate y 0)
      (finds_fresh (home_at c (word_of (nodes (replicate j 0) (replicate x 0)))) y) (λ s p. ((λ b. absurd b), (λ l. dead s l.1))) (λ s p b. refl);
  cleared = λ s l h. record { words = λ f m a b. blank j x s f; seal = ap (λ (k : ℕ). k % 2 ^ 32) (blank j x s own) };
  marked = λ s l h. absurd (let e = blank j x s mark in omega arith);
  spared = λ s l. blank j x s spare;
  gens = λ s l. subst (λ (k : ℕ). generation_of k ≤ 0x7FFD) (sym (blank j x s own)) gen_zero;
}
  where
    dead : (s : ℕ) → floor ≤ word_of (nodes (replicate j 0) (replicate x 0)) s own → ⊥
    dead s h = let e = blank j x s own in let p = floor_pos in omega arith

fresh_done : (c : ℕ) (j x y : List ℕ) → fit_of c (length j) (length x) (length y) ≡ true
    → tables (fresh c) (replicate (length j) 0) (replicate (length x) 0) (replicate (length y) 0) ≡ (fresh_of c j x y).after
unfolding fresh_of
fresh_done c j x y e = rw e

-- a fresh arena is well formed, over any tables of the right lengths
pub fresh_well : (n tallest c : ℕ) (j x y : List ℕ) → fit_of c (length j) (length x) (length y) ≡ true → WellFormed n tallest (fresh_of c j x y).after
fresh_well n tallest c j x y e =
    subst (λ (u : Tables). WellFormed n tallest u) (fresh_done c j x y e)
    (blank_well n tallest c (length j) (length x) (length y)
    (fits_sized (tables (fresh c) (replicate (length j) 0) (replicate (length x) 0) (replicate (length y) 0)) (simp length-replicate e)))
