-- What the functions that take a record apart cite, over what their callees answered.
use mathlib.Core.Path.{◌≡◌, refl, sym}
use mathlib.Core.Bool.{Bool, true, false, not, ◌&&◌, ◌||◌, true≢false}
use mathlib.Core.List.{List}
use Prim.Native.Nat.{ℕ, ◌≤◌, ◌<◌}
use native.Mathlib.Omega.{arith}
use lib.ListN.{length}
use lib.Dec.{T, eqb}
use lib.Ieee.{binary64, nan_bits}
use lib.Ieee.Fits.{and_l, and_r}
use borrow.Author.Tests.{eq-eqb, ne_eqb, eqb-true, not-false}
use Rattle.basics.specs.Pick.{pick}
use Rattle.metres.specs.Bits.{finite, below_bits}
use Rattle.metres.specs.Record.{record_bytes, kind_in, value_in, spare_in, x_in, y_in, z_in, second_in, wrong, malformed, all_finite, unending, said, reading_of}
use Rattle.metres.specs.Models.{judged}
use Rattle.std.specs.declared.result.Result.TheVariants.{Ok, Err}
use Rattle.basics.specs.declared.Refusal.TheVariants.{Record, NotFinite}
use Rattle.metres.proofs.Order.{finite_no_nan}

-- ---- the four numbers are finite

module _ (x y z w : ℕ) (f : T (all_finite x y z w)) where
  three : T (finite x && finite y && finite z)
  three = and_l (finite x && finite y && finite z) (finite w) f

  two : T (finite x && finite y)
  two = and_l (finite x && finite y) (finite z) three

  pub finite_point : T (finite x) × T (finite y) × T (finite z)
  finite_point = (and_l (finite x) (finite y) two, and_r (finite x) (finite y) two, and_r (finite x && finite y) (finite z) three)

  pub finite_second : T (finite w)
  finite_second = and_r (finite x && finite y && finite z) (finite w) f

  pub second_no_nan : T (not (nan_bits binary64 w))
  second_no_nan = finite_no_nan w finite_second

-- ---- refusals 13 and 14

-- a number that no kind has
pub judged_unknown : (kind v spare x y z w : ℕ) → 2 < kind → Err Record ≡ judged kind v spare x y z w
unfolding judged wrong
judged_unknown kind v spare x y z w h =
    rw (ne_eqb kind 0 (λ e. omega arith), ne_eqb kind 1 (λ e. omega arith), ne_eqb kind 2 (λ e. omega arith)) (go (not (eqb spare 0)))
  where
    go : (b : Bool) → Err Record ≡ pick (b || true) (Err Record) (pick (not (all_finite x y z w)) (Err NotFinite) (Ok (said kind v x y z w)))
    go true = refl
    go false = refl

module _ (l : List ℕ) where
  pub wrong_length_lem : (length l ≡ record_bytes → ⊥) → Err Record ≡ reading_of l
  unfolding reading_of malformed
  wrong_length_lem h = rw (ne_eqb (length l) record_bytes h)

  pub whole_record : length l ≡ record_bytes → judged (kind_in l) (value_in l) (spare_in l) (x_in l) (y_in l) (z_in l) (second_in l) ≡ reading_of l
  unfolding judged reading_of malformed unending
  whole_record h = rw (eq-eqb (length l) record_bytes h)

-- ---- what is left of a record that 13 and 14 do not refuse

-- by its kind
pub data Right (kind v x y z w : ℕ) : Type 0 where
  pause : kind ≡ 0 → v ≡ 0 → x ≡ 0 → y ≡ 0 → z ≡ 0 → w ≡ 0 → Right kind v x y z w
  shot : kind ≡ 1 → w ≡ 0 → Right kind v x y z w
  bar : kind ≡ 2 → below_bits w x ≡ false → Right kind v x y z w

pub both : (a b : Bool) → a && b ≡ true → (a ≡ true) × (b ≡ true)
both true b e = (refl, e)
both false b e = absurd (true≢false (sym e))

zeros : (v x y z w : ℕ) → eqb v 0 && eqb x 0 && eqb y 0 && eqb z 0 && eqb w 0 ≡ true → (v ≡ 0) × (x ≡ 0) × (y ≡ 0) × (z ≡ 0) × (w ≡ 0)
zeros v x y z w e =
    let a = both (eqb v 0 && eqb x 0 && eqb y 0 && eqb z 0) (eqb w 0) e in
    let b = both (eqb v 0 && eqb x 0 && eqb y 0) (eqb z 0) a.0 in
    let c = both (eqb v 0 && eqb x 0) (eqb y 0) b.0 in
    let d = both (eqb v 0) (eqb x 0) c.0 in
    (eqb-true v 0 d.0, eqb-true x 0 d.1, eqb-true y 0 c.1, eqb-true z 0 b.1, eqb-true w 0 a.1)

pub right_by : (kind v x y z w : ℕ) → wrong kind v x y z w ≡ false → Right kind v x y z w
unfolding wrong
right_by kind v x y z w = go (eqb kind 0) (eqb kind 1) (eqb kind 2) refl refl refl
  where
    go : (a b c : Bool) → eqb kind 0 ≡ a → eqb kind 1 ≡ b → eqb kind 2 ≡ c
        → pick a (not (eqb v 0 && eqb x 0 && eqb y 0 && eqb z 0 && eqb w 0)) (pick b (not (eqb w 0)) (pick c (below_bits w x) true)) ≡ false
        → Right kind v x y z w
    go true b c i j k e =
        let q = zeros v x y z w (not-false (eqb v 0 && eqb x 0 && eqb y 0 && eqb z 0 && eqb w 0) e) in
        pause (eqb-true kind 0 i) q.0 q.1 q.2 q.3 q.4
    go false true c i j k e = shot (eqb-true kind 1 j) (eqb-true w 0 (not-false (eqb w 0) e))
    go false false true i j k e = bar (eqb-true kind 2 k) e
    go false false false i j k e = absurd (true≢false e)

-- what it says of each kind
module _ (kind v x y z w : ℕ) where
  pub right_known : Right kind v x y z w → kind ≤ 2
  right_known (pause e a b c d f) = omega arith
  right_known (shot e a) = omega arith
  right_known (bar e a) = omega arith

  pub right_pause : Right kind v x y z w → kind ≡ 0 → (v ≡ 0) × (x ≡ 0) × (y ≡ 0) × (z ≡ 0) × (w ≡ 0)
  right_pause (pause e a b c d f) k = (a, b, c, d, f)
  right_pause (shot e a) k = absurd (omega arith)
  right_pause (bar e a) k = absurd (omega arith)

  pub right_second : Right kind v x y z w → (kind ≡ 2 → ⊥) → w ≡ 0
  right_second (pause e a b c d f) k = f
  right_second (shot e a) k = a
  right_second (bar e a) k = absurd (k e)

  pub right_bar : Right kind v x y z w → kind ≡ 2 → below_bits w x ≡ false
  right_bar (pause e a b c d f) k = absurd (omega arith)
  right_bar (shot e a) k = absurd (omega arith)
  right_bar (bar e a) k = a

pub neither : (a b : Bool) → a || b ≡ false → (a ≡ false) × (b ≡ false)
neither true b e = absurd (true≢false e)
neither false b e = (refl, e)

-- a record that 13 does not refuse
pub record Formed (l : List ℕ) : Type 0 where
  pub long : length l ≡ record_bytes
  pub spare : spare_in l ≡ 0
  pub right : Right (kind_in l) (value_in l) (x_in l) (y_in l) (z_in l) (second_in l)

pub well_formed : (l : List ℕ) → malformed l ≡ false → Formed l
unfolding malformed
well_formed l e =
    let w = wrong (kind_in l) (value_in l) (x_in l) (y_in l) (z_in l) (second_in l) in
    let a = neither (not (eqb (length l) record_bytes) || not (eqb (spare_in l) 0)) w e in
    let b = neither (not (eqb (length l) record_bytes)) (not (eqb (spare_in l) 0)) a.0 in
    record {
      long = eqb-true (length l) record_bytes (not-false (eqb (length l) record_bytes) b.0);
      spare = eqb-true (spare_in l) 0 (not-false (eqb (spare_in l) 0) b.1);
      right = right_by (kind_in l) (value_in l) (x_in l) (y_in l) (z_in l) (second_in l) a.1;
    }

-- a record that 14 does not refuse
pub all_finite_lem : (l : List ℕ) → unending l ≡ false → T (all_finite (x_in l) (y_in l) (z_in l) (second_in l))
unfolding unending
all_finite_lem l e = rw (not-false (all_finite (x_in l) (y_in l) (z_in l) (second_in l)) e) tt
