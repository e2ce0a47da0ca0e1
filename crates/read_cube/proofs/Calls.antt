-- Sides, refusals, and the ends of the public call, in the forms in which the code has them.
use Prim.Native.Nat.{ℕ, ◌+◌, ◌*◌, ◌%◌, ◌^◌, ◌≤◌, ◌<◌}
use native.Mathlib.Nat.{mod-eq_of_lt, one-mul, mul-le-mul}
use native.Mathlib.Omega.{arith}
use mathlib.Core.Path.{◌≡◌, ◌∙◌, refl, sym, ap}
use mathlib.Core.Bool.{Bool, true, false}
use mathlib.Core.List.{List}
use borrow.Author.Tests.{le-leb, lt-leb, leb-true, eqb-true}
use lib.Dec.{leb, eqb}
use lib.ListN.{length}
use lib.Pow.{pow_mono}
use Rattle.basics.specs.Limits.{deepest_cube}
use Rattle.basics.specs.Pick.{pick}
use Rattle.basics.proofs.Rungs.{rung_yes, rung_no, eq_via, ne_via}
use Rattle.nodes.specs.Words.{nodes, fact_of, word_of}
use Rattle.arena.specs.Tables.{State, tables}
use Rattle.arena.specs.Calls.{fits, live_or_empty}
use Rattle.read_cell.specs.Reading.{cube_of}
use Rattle.read_cell.specs.Calls.{expand_no, expanded, expand_of}
use Rattle.read_cell.specs.Models.{val}
use Rattle.read_cell.proofs.Ends.{val_facts}
use Rattle.read_cell.proofs.Cube.{pow_eight, cells_shift}
use Rattle.read_cube.specs.Models.{fill_row, grow, cube_from}
use Rattle.read_cube.proofs.Whole.{cube_from_lem}

-- ---- sides

pub side_small : (d : ℕ) → d ≤ deepest_cube → 2 ^ d ≤ 64
side_small d h = pow_mono h

pub side_shift : (d : ℕ) → d ≤ deepest_cube → 1 * 2 ^ d % 2 ^ 64 ≡ 2 ^ d
side_shift d h =
    let k : 2 ^ d < 2 ^ 64 = omega (arith, side_small d h) in
    rw (one-mul (2 ^ d)) (mod-eq_of_lt k)

pub square_small : (s : ℕ) → s ≤ 64 → s * s ≤ 4096
square_small s h = let m : s * s ≤ 64 * 64 = mul-le-mul h h in omega arith

pub cube_test : (d n : ℕ) → d ≤ deepest_cube → eqb n (1 * 2 ^ (3 * d) % 2 ^ 64) ≡ eqb n (8 ^ d)
cube_test d n h = ap (eqb n) (cells_shift 64 d (omega arith))

-- ---- expansion: a refusal, or the whole cube

passed : (a b c e : Bool) (k : ℕ) → k ≡ pick a (pick b (pick c (pick e 0 9) 4) 2) 1 → k ≡ 0 → (b ≡ true) × (e ≡ true)
passed true true true true k q h = (refl, refl)
passed true true true false k q h = absurd (omega arith)
passed true true false e k q h = absurd (omega arith)
passed true false c e k q h = absurd (omega arith)
passed false b c e k q h = absurd (omega arith)

module _ (a : State) (ks fs es : List ℕ) (id d n k : ℕ) (q : k ≡ expand_no (tables a ks fs es) id d n) where
  both : k ≡ 0 → (leb d deepest_cube ≡ true) × (eqb n (8 ^ d) ≡ true)
  unfolding expand_no
  both h = passed (fits (tables a ks fs es)) (leb d deepest_cube) (live_or_empty a.capacity (word_of (nodes ks fs)) id) (eqb n (8 ^ d)) k q h

  pub expand_deep : k ≡ 0 → d ≤ deepest_cube
  expand_deep h = leb-true _ _ (both h).0

  pub expand_fits : (s : ℕ) → k ≡ 0 → s ≡ 2 ^ d → 0 + s * (s * s) + s * s + s ≤ n + s * s + s
  expand_fits s h e =
      let z : n ≡ s * s * s = eqb-true _ _ (both h).1 ∙ pow_eight d ∙ ap (λ (i : ℕ). i * i * i) (sym e) in
      omega arith

  pub expand_refused : (l : List ℕ) → n ≡ length l → (k ≡ 0 → ⊥) → expanded k l ≡ expand_of (tables a ks fs es) id d l
  unfolding expand_of
  expand_refused l e h =
      let z : k ≡ expand_no (tables a ks fs es) id d (length l) = q ∙ ap (expand_no (tables a ks fs es) id d) e in
      rung_no _ _ _ _ (ne_via k _ 0 z h) (λ i. expanded (z i) l)

  pub expand_done : (l m : List ℕ) (s : ℕ) → n ≡ length l → k ≡ 0 → s ≡ 2 ^ d → m ≡ cube_from (word_of (nodes ks fs)) s d id l
      → expanded 0 m ≡ expand_of (tables a ks fs es) id d l
  unfolding expand_of
  expand_done l m s e h side c =
      let z : 0 ≡ expand_no (tables a ks fs es) id d (length l) = sym h ∙ q ∙ ap (expand_no (tables a ks fs es) id d) e in
      let r : m ≡ cube_of (word_of (nodes ks fs)) d id = c ∙ cube_from_lem (word_of (nodes ks fs)) d id s l (sym e ∙ eqb-true _ _ (both h).1) side in
      rung_yes _ _ _ _ (eq_via 0 _ 0 z refl) (λ i. expanded 0 (r i))

-- ---- the whole cube

pub from_leaf : (ks fs : List ℕ) (s d a u : ℕ) (l m : List ℕ) → 2 ^ 63 ≤ a → u ≡ val (fact_of fs) a → m ≡ fill_row 0 (length l) u l
    → m ≡ cube_from (word_of (nodes ks fs)) s d a l
unfolding cube_from
from_leaf ks fs s d a u l m h q j =
    rw (le-leb (2 ^ 63) a h) (j ∙ ap (λ (n : ℕ). fill_row 0 (length l) n l) (q ∙ val_facts ks fs a))

pub from_parts : (ks fs : List ℕ) (s d a : ℕ) (l o m : List ℕ) → a < 2 ^ 63 → o ≡ fill_row 0 (length l) 0 l
    → m ≡ grow (word_of (nodes ks fs)) 8 s (s * s) d s a 0 o → m ≡ cube_from (word_of (nodes ks fs)) s d a l
unfolding cube_from
from_parts ks fs s d a l o m h q j = rw (lt-leb (2 ^ 63) a h) (j ∙ cc q)
