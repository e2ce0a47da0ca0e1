-- The numbers of packing, the path's inverse, child number, lookup and expansion: each is given exactly if it is the lowest that applies. On any tables.
use mathlib.Core.Path.{◌≡◌, refl, sym, ap}
use mathlib.Core.Logic.{◌≢◌}
use mathlib.Core.Bool.{Bool, true, false, not}
use mathlib.Core.List.Memᴰ
use mathlib.Core.List.{List, [], ◌∷◌}
use Prim.Native.Nat.{ℕ, ◌^◌, ◌≤◌, ◌<◌}
use native.Mathlib.Decide.{ℕ_discrete}
use native.Mathlib.Omega.{arith}
use lib.Dec.{leb, ltb, eqb}
use lib.IntN.{ℤ, pos, negsuc}
use lib.ListN.{length}
use borrow.Author.Tests.{leb-false, ltb-false, eqb-false, lt-leb, le-ltb, eq-eqb, ne_eqb, not-true}
use Rattle.basics.specs.Limits.{deepest, deepest_cube, last_packed}
use Rattle.basics.specs.Ladder.{ladder, order, Decides, Listed}
use Rattle.basics.specs.Pick.{pick}
use Rattle.basics.proofs.Ladder.{rung_not, via}
use Rattle.ids.specs.Ids.{packing_no}
use Rattle.nodes.proofs.Sums.{cases, split}
use Rattle.paths.specs.declared.IVec3.{IVec3}
use Rattle.paths.specs.Paths.{inside, decoded_of, child_no, child_index_of}
use Rattle.arena.specs.Tables.{Tables, cap, W, Sized}
use Rattle.arena.specs.Calls.{fits, live_or_empty}
use Rattle.ledger.specs.Fates.{Lives}
use Rattle.ledger.specs.Refusals.{Exactly}
use Rattle.ledger.proofs.Exact.{exactly, exactly_as}
use Rattle.ledger.proofs.Refusals.{unsized, dead}
use Rattle.read_cell.specs.Calls.{look_no, look_of, expand_no, expand_of}
use Rattle.refusals.specs.Why.{Outside, Beyond, at_x, at_y, at_z, PackWhy, late, DecodeWhy, long, ChildWhy, deep_child, level, beyond_child, LookWhy, unsized_look, deep_look, beyond_look, dead_look, ExpandWhy, unsized_expand, deep_expand, dead_expand, buffer}
use Rattle.refusals.specs.Rungs.{all_inside, leveled, pack_rungs, decode_rungs, child_rungs, look_rungs, expand_rungs}

-- ---- what each test decides

-- a test that fails exactly if the reason holds
pub fails : {R : Type 0} (b : Bool) → (b ≡ false → R) → (R → b ≡ false) → Decides (not b) R
fails b f g = ((λ e. f (not-true b e)), (λ r. ap not (g r)))

pub above : (a b : ℕ) → Decides (not (leb a b)) (b < a)
above a b = fails (leb a b) (leb-false a b) (lt-leb a b)

outside : (d : ℕ) (x : ℤ) → Decides (not (inside d x)) (Outside d x)
unfolding inside
outside d (pos n) = fails (ltb n (2 ^ d)) (ltb-false n (2 ^ d)) (le-ltb n (2 ^ d))
outside d (negsuc n) = fails false (λ e. tt) (λ e. refl)

pub beyond : (d : ℕ) (p : IVec3) → Decides (not (all_inside d p)) (Beyond d p)
unfolding all_inside
beyond d p = fails (all_inside d p) to from
  where
    out : (x : ℤ) → inside d x ≡ false → Outside d x
    out x e = (outside d x).0 (ap not e)

    off : (x : ℤ) → Outside d x → inside d x ≡ false
    off x o = not-true (inside d x) ((outside d x).1 o)

    to : all_inside d p ≡ false → Beyond d p
    to e = split (inside d p.x)
        (λ a. split (inside d p.y)
        (λ b. at_z (out p.z (rw (a, b) at e)))
        (λ b. at_y (out p.y b)))
        (λ a. at_x (out p.x a))

    no : (b : Bool) → pick b false false ≡ false
    no true = refl
    no false = refl

    from : Beyond d p → all_inside d p ≡ false
    from (at_x o) = rw (off p.x o)
    from (at_y o) = rw (off p.y o) (no (inside d p.x))
    from (at_z o) = rw (off p.z o) (split (inside d p.x) (λ e. rw e (no (inside d p.y))) (λ e. rw e))

-- the three coordinates in one test
pub within_rung : (a b c : Bool) (x : ℕ) (l : List (Bool × ℕ)) → x ≡ ladder l → pick a (pick b (pick c x 3) 3) 3 ≡ ladder ((not (pick a (pick b c false) false), 3) ∷ l)
unfolding ladder
within_rung true true c x l e = rung_not c x 3 l e
within_rung true false c x l e = refl
within_rung false b c x l e = refl

pub none : 0 ≡ ladder []
unfolding ladder
none = refl

-- ---- child number: refusals 2 and 3

module _ (p : IVec3) (k d : ℕ) where
  child_ladder : child_no p k d ≡ ladder (child_rungs p k d)
  unfolding child_no ladder all_inside leveled
  child_ladder = split (leb d deepest)
      (λ a. split (ltb k d)
      (λ b. rw (a, b) (within_rung (inside d p.x) (inside d p.y) (inside d p.z) 0 [] refl))
      (λ b. rw (a, b)))
      (λ a. rw a)

  childless : Decides (not (leveled k d)) (ChildWhy p k d 2)
  unfolding leveled
  childless = fails (leveled k d)
      (λ e. split (leb d deepest) (λ a. level (ltb-false k d (rw a at e))) (λ a. deep_child (leb-false d deepest a)))
      from
    where
      no : (b : Bool) → pick b false false ≡ false
      no true = refl
      no false = refl

      from : ChildWhy p k d 2 → leveled k d ≡ false
      from (deep_child h) = rw (lt-leb d deepest h)
      from (level h) = rw (le-ltb k d h) (no (leb d deepest))

  out_3 : ChildWhy p k d 3 → Beyond d p
  out_3 (beyond_child b) = b

  child_listed : Listed (ChildWhy p k d) (order (child_rungs p k d))
  child_listed j (deep_child h) = Memᴰ.head refl
  child_listed j (level h) = Memᴰ.head refl
  child_listed j (beyond_child h) = Memᴰ.tail (Memᴰ.head refl)

  child_no_refusals : Exactly (ChildWhy p k d) (child_no p k d)
  child_no_refusals = exactly (ChildWhy p k d) (child_rungs p k d) (child_no p k d) child_ladder (omega arith) child_listed
      (childless, λ _. (via (not (all_inside d p)) (beyond d p) beyond_child out_3, λ _. tt))

  child_number : (child_index_of p k d).no ≡ child_no p k d
  unfolding child_index_of
  child_number = cases (ℕ_discrete (child_no p k d) 0)
      (λ e. rw (eq-eqb (child_no p k d) 0 e) (sym e))
      (λ e. rw (ne_eqb (child_no p k d) 0 e))

  -- Child number: refusals 2 and 3, each given exactly if it is the lowest that applies.
  pub child_refusals : Exactly (ChildWhy p k d) (child_index_of p k d).no
  child_refusals = exactly_as (ChildWhy p k d) child_number child_no_refusals

-- ---- packing: refusal 12; the inverse of a path code: refusal 3

module _ (g : ℕ) where
  pack_ladder : packing_no g ≡ ladder (pack_rungs g)
  unfolding packing_no
  pack_ladder = rung_not (leb g last_packed) 0 12 [] none

  pack_12 : PackWhy g 12 → last_packed < g
  pack_12 (late h) = h

  pack_listed : Listed (PackWhy g) (order (pack_rungs g))
  pack_listed j (late h) = Memᴰ.head refl

  -- Packing: refusal 12, given exactly if it applies.
  pub pack_refusals : Exactly (PackWhy g) (packing_no g)
  pack_refusals = exactly (PackWhy g) (pack_rungs g) (packing_no g) pack_ladder (omega arith) pack_listed
      (via (not (leb g last_packed)) (above g last_packed) late pack_12, λ _. tt)

module _ (code : ℕ) where
  decode_ladder : (decoded_of code).no ≡ ladder (decode_rungs code)
  unfolding decoded_of ladder
  decode_ladder = split (ltb code (2 ^ 30)) (λ e. rw e) (λ e. rw e)

  decode_3 : DecodeWhy code 3 → 2 ^ 30 ≤ code
  decode_3 (long h) = h

  decode_listed : Listed (DecodeWhy code) (order (decode_rungs code))
  decode_listed j (long h) = Memᴰ.head refl

  -- The inverse of a path code: refusal 3, given exactly if it applies.
  pub decode_refusals : Exactly (DecodeWhy code) (decoded_of code).no
  decode_refusals = exactly (DecodeWhy code) (decode_rungs code) (decoded_of code).no decode_ladder (omega arith) decode_listed
      (via (not (ltb code (2 ^ 30))) (fails (ltb code (2 ^ 30)) (ltb-false code (2 ^ 30)) (le-ltb code (2 ^ 30))) long decode_3, λ _. tt)

-- ---- lookup: refusals 1, 2, 3 and 4

module _ (t : Tables) (id d : ℕ) (p : IVec3) where
  pub look_ladder : look_no t id d p ≡ ladder (look_rungs t id d p)
  unfolding look_no all_inside
  look_ladder = rung_not (fits t) _ 1 _ (rung_not (leb d deepest) _ 2 _ (within_rung (inside d p.x) (inside d p.y) (inside d p.z) _ _
      (rung_not (live_or_empty (cap t) (W t) id) 0 4 [] none)))

  look_1 : LookWhy t id d p 1 → Sized t → ⊥
  look_1 (unsized_look u) = u

  look_2 : LookWhy t id d p 2 → deepest < d
  look_2 (deep_look h) = h

  look_3 : LookWhy t id d p 3 → Beyond d p
  look_3 (beyond_look b) = b

  look_4 : LookWhy t id d p 4 → (id ≢ 0) × (Lives t id → ⊥)
  look_4 (dead_look z l) = (z, l)

  look_listed : Listed (LookWhy t id d p) (order (look_rungs t id d p))
  look_listed j (unsized_look h) = Memᴰ.head refl
  look_listed j (deep_look h) = Memᴰ.tail (Memᴰ.head refl)
  look_listed j (beyond_look h) = Memᴰ.tail (Memᴰ.tail (Memᴰ.head refl))
  look_listed j (dead_look z h) = Memᴰ.tail (Memᴰ.tail (Memᴰ.tail (Memᴰ.head refl)))

  pub look_no_refusals : Exactly (LookWhy t id d p) (look_no t id d p)
  look_no_refusals = exactly (LookWhy t id d p) (look_rungs t id d p) (look_no t id d p) look_ladder
      (omega arith) look_listed (
        via (not (fits t)) (unsized t) unsized_look look_1,
        λ _. (
          via (not (leb d deepest)) (above d deepest) deep_look look_2,
          λ _. (
            via (not (all_inside d p)) (beyond d p) beyond_look look_3,
            λ _. (via (not (live_or_empty (cap t) (W t) id)) (dead t id) (λ n. dead_look n.0 n.1) look_4, λ _. tt),
          ),
        ),
      )

  look_number : (look_of t id d p).no ≡ look_no t id d p
  unfolding look_of
  look_number = cases (ℕ_discrete (look_no t id d p) 0)
      (λ e. rw (eq-eqb (look_no t id d p) 0 e) (sym e))
      (λ e. rw (ne_eqb (look_no t id d p) 0 e))

  -- Lookup: refusals 1, 2, 3 and 4, each given exactly if it is the lowest that applies.
  pub look_refusals : Exactly (LookWhy t id d p) (look_of t id d p).no
  look_refusals = exactly_as (LookWhy t id d p) look_number look_no_refusals

-- ---- expansion: refusals 1, 2, 4 and 9

module _ (t : Tables) (id d n : ℕ) where
  expand_ladder : expand_no t id d n ≡ ladder (expand_rungs t id d n)
  unfolding expand_no
  expand_ladder = rung_not (fits t) _ 1 _ (rung_not (leb d deepest_cube) _ 2 _ (rung_not (live_or_empty (cap t) (W t) id) _ 4 _ (rung_not (eqb n (8 ^ d)) 0 9 [] none)))

  expand_1 : ExpandWhy t id d n 1 → Sized t → ⊥
  expand_1 (unsized_expand u) = u

  expand_2 : ExpandWhy t id d n 2 → deepest_cube < d
  expand_2 (deep_expand h) = h

  expand_4 : ExpandWhy t id d n 4 → (id ≢ 0) × (Lives t id → ⊥)
  expand_4 (dead_expand z l) = (z, l)

  expand_9 : ExpandWhy t id d n 9 → n ≢ 8 ^ d
  expand_9 (buffer z) = z

  expand_listed : Listed (ExpandWhy t id d n) (order (expand_rungs t id d n))
  expand_listed j (unsized_expand h) = Memᴰ.head refl
  expand_listed j (deep_expand h) = Memᴰ.tail (Memᴰ.head refl)
  expand_listed j (dead_expand z h) = Memᴰ.tail (Memᴰ.tail (Memᴰ.head refl))
  expand_listed j (buffer h) = Memᴰ.tail (Memᴰ.tail (Memᴰ.tail (Memᴰ.head refl)))

  expand_no_refusals : Exactly (ExpandWhy t id d n) (expand_no t id d n)
  expand_no_refusals = exactly (ExpandWhy t id d n) (expand_rungs t id d n) (expand_no t id d n) expand_ladder
      (omega arith) expand_listed (
        via (not (fits t)) (unsized t) unsized_expand expand_1,
        λ _. (
          via (not (leb d deepest_cube)) (above d deepest_cube) deep_expand expand_2,
          λ _. (
            via (not (live_or_empty (cap t) (W t) id)) (dead t id) (λ n. dead_expand n.0 n.1) expand_4,
            λ _. (via (not (eqb n (8 ^ d))) (fails (eqb n (8 ^ d)) (eqb-false n (8 ^ d)) (ne_eqb n (8 ^ d))) buffer expand_9, λ _. tt),
          ),
        ),
      )

expand_number : (t : Tables) (id d : ℕ) (l : List ℕ) → (expand_of t id d l).no ≡ expand_no t id d (length l)
unfolding expand_of
expand_number t id d l = cases (ℕ_discrete (expand_no t id d (length l)) 0)
    (λ e. rw (eq-eqb (expand_no t id d (length l)) 0 e) (sym e))
    (λ e. rw (ne_eqb (expand_no t id d (length l)) 0 e))

-- Expansion: refusals 1, 2, 4 and 9, each given exactly if it is the lowest that applies.
pub expand_refusals : (t : Tables) (id d : ℕ) (l : List ℕ) → Exactly (ExpandWhy t id d (length l)) (expand_of t id d l).no
expand_refusals t id d l = exactly_as (ExpandWhy t id d (length l)) (expand_number t id d l) (expand_no_refusals t id d (length l))
