-- What is true of the definitions in specs/: each refusal exactly if, the cell is the exact floor, the cells of a bar rise, a reading's numbers are the record's own.
use mathlib.Core.Path.{◌≡◌, refl, sym, ap, ◌∙◌, subst}
use mathlib.Core.Logic.{◌≢◌, ◌⊎◌, inl, inr, ⊎_elim, ◌↔◌}
use mathlib.Core.Bool.{Bool, true, false, not, ◌&&◌, ◌||◌, true≢false}
use mathlib.Core.List.Memᴰ
use mathlib.Core.List.{List}
use Prim.Native.Nat.{ℕ, ◌+◌, ◌*◌, ◌/◌, ◌^◌, ◌≤◌, ◌<◌, zero-le}
use native.Mathlib.Nat.{lt_irrefl, le_trans, le_of_eq, lt_of_lt_of_le, mul_comm, zero-mul, mul-le-mul_right, mul-div-le, lt-mul-div-succ, le-div_iff_mul-le, div-lt_iff_lt-mul, eq_of_mul-eq-mul_right}
use native.Mathlib.Omega.{arith}
use lib.ListN.{length}
use lib.Dec.{T, leb, ltb, eqb}
use lib.Pow.{pow_pos, shr_mono}
use borrow.Author.Tests.{le-leb, leb-true, leb-false, le-ltb, ltb-true, ltb-false, eq-eqb, ne_eqb, eqb-true, eqb-false, not-true, not-false}
use Rattle.basics.specs.Limits.{deepest, finest_edge, largest_value}
use Rattle.basics.specs.Pick.{pick}
use Rattle.basics.specs.Ladder.{ladder, order, Decides, Listed, Given}
use Rattle.basics.proofs.Ladder.{off, out, tells, via, ladder_given}
use Rattle.basics.proofs.Rungs.{past_no}
use Rattle.metres.specs.Bits.{negative, exponent, fraction, nan, finite, size, units, less, below_bits, floor_of, placed, missed, cell_number, cell_of}
use Rattle.basics.specs.Bytes.{Bytes}
use Rattle.metres.specs.Record.{record_bytes, kind_in, value_in, spare_in, x_in, y_in, z_in, second_in, last_in, wrong, malformed, all_finite, unending, outside, said, reading_of, fields_at, fields_in, fields_of, fields_by, struct_of, cells_at, aim_of}
use Rattle.metres.specs.declared.Cells.{Cells}
use Rattle.metres.specs.Why.{Malformed, wrong_length, unknown_kind, spare_bytes, pause_value, pause_x, pause_y, pause_z, pause_second, shot_second, bar_falls, Endless, Unending, endless_x, endless_y, endless_z, endless_second, Off, below_zero, too_far, Beyond, beyond_x, beyond_y, beyond_z, beyond_second, RecordWhy, deep_record, fine_record, malformed_record, unending_record, beyond_record, record_rungs, Floor, Aimed}
use Rattle.std.specs.declared.option.Option.TheVariants.{Some, None}
use Rattle.std.specs.declared.result.Result.TheVariants.{Ok, Err}
use Rattle.basics.specs.Refusals.{no_of}
use Rattle.basics.specs.declared.Refusal.{Refusal}
use Rattle.basics.specs.declared.Refusal.TheVariants.{Depth, Position, Record, NotFinite}
use Rattle.metres.proofs.Laws.{zero_cell}
use Rattle.metres.proofs.Numbers.{struct_fields}
use Rattle.metres.proofs.Parsing.{both, neither, Right, pause, shot, bar, right_known, right_pause, right_second, right_bar, Formed, well_formed, all_finite_lem, finite_point, finite_second}
use Rattle.metres.proofs.Aiming.{bits_back, word64_lt}

-- ---- examples: zero, minus zero, the smallest numbers of either sign, and the last cell against the next

pub worked : (cell_of 0 6 6 ≡ Some 0)
    × (cell_of 0x8000_0000_0000_0000 6 6 ≡ Some 0)
    × (cell_of 1 6 6 ≡ Some 0)
    × (cell_of 0x8000_0000_0000_0001 0 6 ≡ None)
    × (cell_of 0x3ff8_0000_0000_0000 1 6 ≡ Some 3)
    × (cell_of 0x404f_ffff_ffff_ffff 0 6 ≡ Some 63)
    × (cell_of 0x4050_0000_0000_0000 0 6 ≡ None)
    × (cell_of 0x3fef_ffff_ffff_ffff 6 6 ≡ Some 63)
    × (cell_of 0x3ff0_0000_0000_0000 6 6 ≡ None)
    × (cell_of 0x7fef_ffff_ffff_ffff 6 10 ≡ None)
    × (cell_of 0xbff8_0000_0000_0000 0 6 ≡ None)
unfolding placed size
worked = (refl, refl, refl, refl, refl, refl, refl, refl, refl, refl, refl)

-- ---- tests

either : (a b : Bool) → a || b ≡ true → (a ≡ true) ⊎ (b ≡ true)
either true b e = inl refl
either false b e = inr e

one_not : (a b : Bool) → a && b ≡ false → (a ≡ false) ⊎ (b ≡ false)
one_not true b e = inr e
one_not false b e = inl refl

clash : {A : Type 0} → ◌≡◌ {A = ℕ} 0 1 → A
clash e = absurd (omega arith)

-- ---- the cell: refusal 3 of one coordinate, and the exact floor

none : (n k : ℕ) → n * 2 ^ k ≡ 0 → n ≡ 0
none n k e = eq_of_mul-eq-mul_right (2 ^ k) (pow_pos k) n 0 (e ∙ sym (zero-mul (2 ^ k)))

floored : (n c P : ℕ) → 0 < P → c ≡ n / P → (c * P ≤ n) × (n < (c + 1) * P)
floored n c P p e = rw e (le_trans (le_of_eq (mul_comm (n / P) P)) (mul-div-le n P), lt_of_lt_of_le (lt-mul-div-succ n p) (le_of_eq (mul_comm P (n / P + 1))))

unfloored : (n c P : ℕ) → 0 < P → c * P ≤ n → n < (c + 1) * P → n / P ≡ c
unfloored n c P p h g = let i : c ≤ n / P = (le-div_iff_mul-le p).1 h in let j : n / P < c + 1 = (div-lt_iff_lt-mul p).1 g in omega arith

module _ (b k d : ℕ) where
  abbrev scaled : ℕ
  scaled = units b * 2 ^ k

  abbrev under : Bool
  under = negative b && not (eqb scaled 0)

  abbrev over : Bool
  over = leb (2 ^ d) (floor_of scaled)

  -- what a cell says: not below zero, and not too far
  at_least_zero : missed b k d ≡ false → 2 ^ 63 ≤ b → units b ≡ 0
  at_least_zero e h =
      none (units b) k
      (⊎_elim (λ f. absurd (true≢false (sym (le-leb (2 ^ 63) b h) ∙ f))) (λ f. eqb-true scaled 0 (not-false (eqb scaled 0) f))
      (one_not (negative b) (not (eqb scaled 0)) (neither under over e).0))

  within : missed b k d ≡ false → cell_number b k < 2 ^ d
  within e = leb-false (2 ^ d) (floor_of scaled) (neither under over e).1

  off_to : (under ≡ true) ⊎ (over ≡ true) → Off b k d
  off_to (inl e) =
      let h = both (negative b) (not (eqb scaled 0)) e in
      below_zero (leb-true (2 ^ 63) b h.0) (some (units b) (λ z. eqb-false scaled 0 (not-true (eqb scaled 0) h.1) (ap (λ (n : ℕ). n * 2 ^ k) z ∙ zero-mul (2 ^ k))))
    where
      some : (n : ℕ) → (n ≡ 0 → ⊥) → 0 < n
      some n h = omega arith
  off_to (inr e) = too_far ((le-div_iff_mul-le (pow_pos 1074)).0 (leb-true (2 ^ d) (floor_of scaled) e))

  off_from : missed b k d ≡ false → Off b k d → ⊥
  off_from e (below_zero h g) = lt_irrefl 0 (subst (λ (n : ℕ). 0 < n) (at_least_zero e h) g)
  off_from e (too_far h) = lt_irrefl (cell_number b k) (lt_of_lt_of_le (within e) ((le-div_iff_mul-le (pow_pos 1074)).1 h))

  off_decides : Decides (missed b k d) (Off b k d)
  off_decides = tells (missed b k d) (λ e. off_to (either under over e)) off_from

  floor_of_lem : missed b k d ≡ false → Floor b k d (cell_number b k)
  floor_of_lem e =
      let f = floored scaled (cell_number b k) (2 ^ 1074) (pow_pos 1074) refl in
      record { reached = f.0; passed = f.1; risen = at_least_zero e; inside = within e }

  floor_not_off : (c : ℕ) → Floor b k d c → Off b k d → ⊥
  floor_not_off c f (below_zero h g) = lt_irrefl 0 (subst (λ (n : ℕ). 0 < n) (f.risen h) g)
  floor_not_off c f (too_far h) =
      let e = unfloored scaled c (2 ^ 1074) (pow_pos 1074) f.reached f.passed in
      lt_irrefl c (lt_of_lt_of_le f.inside (le_trans ((le-div_iff_mul-le (pow_pos 1074)).1 h) (le_of_eq e)))

  -- The cell of a coordinate is c exactly if c is 2 ^ k times it, rounded down, and one of the 2 ^ d cells.
  pub cell_floor : (c : ℕ) → (cell_of b k d ≡ Some c) ↔ Floor b k d c
  unfolding placed
  cell_floor c = (to, from)
    where
      to : pick (missed b k d) None (Some (cell_number b k)) ≡ Some c → Floor b k d c
      to e =
          let p = past_no (missed b k d) None (Some (cell_number b k)) (Some c) (λ i. let z : ◌≡◌ {A = ℕ} 0 1 = cc in clash z) e in
          let q : cell_number b k ≡ c = cc p.1 in
          subst (Floor b k d) q (floor_of_lem p.0)

      from : Floor b k d c → pick (missed b k d) None (Some (cell_number b k)) ≡ Some c
      from f = rw (off (missed b k d) off_decides (floor_not_off c f)) (ap Some (unfloored scaled c (2 ^ 1074) (pow_pos 1074) f.reached f.passed))

  -- There is none exactly if the coordinate is below zero, or 2 ^ k times it is 2 ^ d or more.
  pub cell_outside : (cell_of b k d ≡ None) ↔ Off b k d
  unfolding placed
  cell_outside = ((λ e. off_decides.0 (go (missed b k d) e)), (λ o. rw (off_decides.1 o)))
    where
      go : (a : Bool) → pick a None (Some (cell_number b k)) ≡ None → a ≡ true
      go true e = refl
      go false e = let z : ◌≡◌ {A = ℕ} 0 1 = cc in clash z

pub minus_zero : (k d : ℕ) → cell_of 0x8000_0000_0000_0000 k d ≡ Some 0
unfolding size
minus_zero k d = ap (λ (n : ℕ). placed true n d) (zero-mul (2 ^ k)) ∙ sym (zero_cell d)

-- ---- a NaN or an infinity

endless : (b : ℕ) → finite b ≡ false → Endless b
endless b e = eqb-true (exponent b) 2047 (not-false (eqb (exponent b) 2047) e)

not_endless : (b : ℕ) → T (finite b) → Endless b → ⊥
not_endless b f e = rw (eq-eqb (exponent b) 2047 e) at f

zero_ends : (b : ℕ) → b ≡ 0 → Endless b → ⊥
zero_ends b e h = not_endless b (subst (λ (n : ℕ). T (finite n)) (sym e) tt) h

-- ---- refusal 13

module _ (l : List ℕ) where
  abbrev kind : ℕ
  kind = kind_in l

  abbrev Kinds : Type 0
  Kinds = Right (kind_in l) (value_in l) (x_in l) (y_in l) (z_in l) (second_in l)

  zero_of : Kinds → kind ≡ 0 → (value_in l ≡ 0) × (x_in l ≡ 0) × (y_in l ≡ 0) × (z_in l ≡ 0) × (second_in l ≡ 0)
  zero_of = right_pause (kind_in l) (value_in l) (x_in l) (y_in l) (z_in l) (second_in l)

  second_of : Kinds → (kind ≡ 2 → ⊥) → second_in l ≡ 0
  second_of = right_second (kind_in l) (value_in l) (x_in l) (y_in l) (z_in l) (second_in l)

  formed_right : Formed l → Malformed l → ⊥
  formed_right f (wrong_length n) = n f.long
  formed_right f (unknown_kind h) = let g = right_known (kind_in l) (value_in l) (x_in l) (y_in l) (z_in l) (second_in l) f.right in omega arith
  formed_right f (spare_bytes n) = n f.spare
  formed_right f (pause_value k n) = n (zero_of f.right k).0
  formed_right f (pause_x k n) = n (zero_of f.right k).1
  formed_right f (pause_y k n) = n (zero_of f.right k).2
  formed_right f (pause_z k n) = n (zero_of f.right k).3
  formed_right f (pause_second k n) = n (zero_of f.right k).4
  formed_right f (shot_second k n) = n (second_of f.right (λ e. clash (omega arith)))
  formed_right f (bar_falls k n) = true≢false (sym n ∙ right_bar (kind_in l) (value_in l) (x_in l) (y_in l) (z_in l) (second_in l) f.right k)

  pause_wrong : kind ≡ 0 → eqb (value_in l) 0 && eqb (x_in l) 0 && eqb (y_in l) 0 && eqb (z_in l) 0 && eqb (second_in l) 0 ≡ false → Malformed l
  pause_wrong k e =
      ⊎_elim
      (λ a. ⊎_elim
      (λ b. ⊎_elim
      (λ c. ⊎_elim (λ d. pause_value k (eqb-false (value_in l) 0 d)) (λ d. pause_x k (eqb-false (x_in l) 0 d)) (one_not (eqb (value_in l) 0) (eqb (x_in l) 0) c))
      (λ c. pause_y k (eqb-false (y_in l) 0 c)) (one_not (eqb (value_in l) 0 && eqb (x_in l) 0) (eqb (y_in l) 0) b))
      (λ b. pause_z k (eqb-false (z_in l) 0 b)) (one_not (eqb (value_in l) 0 && eqb (x_in l) 0 && eqb (y_in l) 0) (eqb (z_in l) 0) a))
      (λ a. pause_second k (eqb-false (second_in l) 0 a))
      (one_not (eqb (value_in l) 0 && eqb (x_in l) 0 && eqb (y_in l) 0 && eqb (z_in l) 0) (eqb (second_in l) 0) e)

  wrong_why : wrong (kind_in l) (value_in l) (x_in l) (y_in l) (z_in l) (second_in l) ≡ true → Malformed l
  unfolding wrong
  wrong_why = go (eqb kind 0) (eqb kind 1) (eqb kind 2) refl refl refl
    where
      zeros : Bool
      zeros = eqb (value_in l) 0 && eqb (x_in l) 0 && eqb (y_in l) 0 && eqb (z_in l) 0 && eqb (second_in l) 0

      go : (a b c : Bool) → eqb kind 0 ≡ a → eqb kind 1 ≡ b → eqb kind 2 ≡ c
          → pick a (not zeros) (pick b (not (eqb (second_in l) 0)) (pick c (below_bits (second_in l) (x_in l)) true)) ≡ true → Malformed l
      go true b c i j k e = pause_wrong (eqb-true kind 0 i) (not-true zeros e)
      go false true c i j k e = shot_second (eqb-true kind 1 j) (eqb-false (second_in l) 0 (not-true (eqb (second_in l) 0) e))
      go false false true i j k e = bar_falls (eqb-true kind 2 k) e
      go false false false i j k e = unknown_kind (let p = eqb-false kind 0 i in let q = eqb-false kind 1 j in let r = eqb-false kind 2 k in above kind p q r)
        where
          above : (n : ℕ) → (n ≡ 0 → ⊥) → (n ≡ 1 → ⊥) → (n ≡ 2 → ⊥) → 2 < n
          above n p q r = omega arith

  malformed_why : malformed l ≡ true → Malformed l
  unfolding malformed
  malformed_why e =
      ⊎_elim
      (λ a. ⊎_elim (λ b. wrong_length (eqb-false (length l) record_bytes (not-true (eqb (length l) record_bytes) b)))
      (λ b. spare_bytes (eqb-false (spare_in l) 0 (not-true (eqb (spare_in l) 0) b))) (either (not (eqb (length l) record_bytes)) (not (eqb (spare_in l) 0)) a))
      wrong_why
      (either (not (eqb (length l) record_bytes) || not (eqb (spare_in l) 0)) (wrong (kind_in l) (value_in l) (x_in l) (y_in l) (z_in l) (second_in l)) e)

  -- Refusal 13, exactly if a cause of it holds.
  pub thirteen : Decides (malformed l) (Malformed l)
  thirteen = tells (malformed l) malformed_why (λ e. formed_right (well_formed l e))

  -- ---- refusal 14

  module _ (f : Formed l) where
    -- a number that isn't finite is not one of a pause, and not the second x of a shot
    used : (b : ℕ) → (kind ≡ 0 → b ≡ 0) → Endless b → kind ≡ 0 → ⊥
    used b z h k = zero_ends b (z k) h

    second_used : Endless (second_in l) → kind ≡ 2
    second_used h = go (eqb kind 2) refl
      where
        go : (a : Bool) → eqb kind 2 ≡ a → kind ≡ 2
        go true e = eqb-true kind 2 e
        go false e = absurd (zero_ends (second_in l) (second_of f.right (eqb-false kind 2 e)) h)

    unending_why : unending l ≡ true → Unending l
    unfolding unending
    unending_why e =
        ⊎_elim
        (λ a. ⊎_elim
        (λ b. ⊎_elim (λ c. endless_x (used (x_in l) (λ k. (zero_of f.right k).1) (endless (x_in l) c)) (endless (x_in l) c))
        (λ c. endless_y (used (y_in l) (λ k. (zero_of f.right k).2) (endless (y_in l) c)) (endless (y_in l) c)) (one_not (finite (x_in l)) (finite (y_in l)) b))
        (λ b. endless_z (used (z_in l) (λ k. (zero_of f.right k).3) (endless (z_in l) b)) (endless (z_in l) b)) (one_not (finite (x_in l) && finite (y_in l)) (finite (z_in l)) a))
        (λ a. endless_second (second_used (endless (second_in l) a)) (endless (second_in l) a))
        (one_not (finite (x_in l) && finite (y_in l) && finite (z_in l)) (finite (second_in l)) (not-true (all_finite (x_in l) (y_in l) (z_in l) (second_in l)) e))

  ended : unending l ≡ false → Unending l → ⊥
  ended e (endless_x k h) = not_endless (x_in l) (finite_point (x_in l) (y_in l) (z_in l) (second_in l) (all_finite_lem l e)).0 h
  ended e (endless_y k h) = not_endless (y_in l) (finite_point (x_in l) (y_in l) (z_in l) (second_in l) (all_finite_lem l e)).1 h
  ended e (endless_z k h) = not_endless (z_in l) (finite_point (x_in l) (y_in l) (z_in l) (second_in l) (all_finite_lem l e)).2 h
  ended e (endless_second k h) = not_endless (second_in l) (finite_second (x_in l) (y_in l) (z_in l) (second_in l) (all_finite_lem l e)) h

  -- Refusal 14 of a record that 13 does not refuse, exactly if a number that it uses is a NaN or infinite.
  pub fourteen : malformed l ≡ false → Decides (unending l) (Unending l)
  fourteen e = tells (unending l) (unending_why (well_formed l e)) ended

  -- ---- refusal 3

  module _ (k d : ℕ) where
    abbrev misses : Bool
    misses = missed (x_in l) k d || missed (last_in l) k d || missed (y_in l) k d || missed (z_in l) k d

    -- which coordinate has no cell
    missing : misses ≡ true
        → (missed (x_in l) k d ≡ true) ⊎ ((missed (last_in l) k d ≡ true) ⊎ ((missed (y_in l) k d ≡ true) ⊎ (missed (z_in l) k d ≡ true)))
    missing e =
        ⊎_elim
        (λ a. ⊎_elim (λ b. ⊎_elim (λ c. inl c) (λ c. inr (inl c)) (either (missed (x_in l) k d) (missed (last_in l) k d) b)) (λ b. inr (inr (inl b)))
        (either (missed (x_in l) k d || missed (last_in l) k d) (missed (y_in l) k d) a))
        (λ a. inr (inr (inr a)))
        (either (missed (x_in l) k d || missed (last_in l) k d || missed (y_in l) k d) (missed (z_in l) k d) e)

    last_off : kind ≢ 0 → Off (last_in l) k d → Beyond l k d
    last_off n = go (eqb kind 2) refl
      where
        go : (a : Bool) → eqb kind 2 ≡ a → Off (pick a (second_in l) (x_in l)) k d → Beyond l k d
        go true e o = beyond_second (eqb-true kind 2 e) o
        go false e o = beyond_x n o

    outside_why : outside l k d ≡ true → Beyond l k d
    unfolding outside
    outside_why e =
        let h = both (not (eqb kind 0)) misses e in
        let n : kind ≢ 0 = eqb-false kind 0 (not-true (eqb kind 0) h.0) in
        ⊎_elim (λ a. beyond_x n ((off_decides (x_in l) k d).0 a))
        (⊎_elim (λ a. last_off n ((off_decides (last_in l) k d).0 a))
        (⊎_elim (λ a. beyond_y n ((off_decides (y_in l) k d).0 a)) (λ a. beyond_z n ((off_decides (z_in l) k d).0 a)))) (missing h.1)

    -- a shot or a bar that 3 does not refuse has all its cells
    all_placed : outside l k d ≡ false → kind ≢ 0
        → (missed (x_in l) k d ≡ false) × (missed (last_in l) k d ≡ false) × (missed (y_in l) k d ≡ false) × (missed (z_in l) k d ≡ false)
    unfolding outside
    all_placed e n =
        let m : misses ≡ false = rw (ne_eqb kind 0 n) at e in
        let a = neither (missed (x_in l) k d || missed (last_in l) k d || missed (y_in l) k d) (missed (z_in l) k d) m in
        let b = neither (missed (x_in l) k d || missed (last_in l) k d) (missed (y_in l) k d) a.0 in
        let c = neither (missed (x_in l) k d) (missed (last_in l) k d) b.0 in
        (c.0, c.1, b.1, a.1)

    inside_all : outside l k d ≡ false → Beyond l k d → ⊥
    inside_all e (beyond_x n o) = out (missed (x_in l) k d) (off_decides (x_in l) k d) (all_placed e n).0 o
    inside_all e (beyond_y n o) = out (missed (y_in l) k d) (off_decides (y_in l) k d) (all_placed e n).2 o
    inside_all e (beyond_z n o) = out (missed (z_in l) k d) (off_decides (z_in l) k d) (all_placed e n).3 o
    inside_all e (beyond_second h o) =
        out (missed (last_in l) k d) (off_decides (last_in l) k d) (all_placed e (λ z. clash (omega arith))).1 (rw (eq-eqb kind 2 h) o)

    -- Refusal 3, exactly if a coordinate that the record uses is below zero, or in cells 2 ^ d or more.
    pub three : Decides (outside l k d) (Beyond l k d)
    three = tells (outside l k d) outside_why inside_all

    -- ---- the four numbers, in their order

    two_why : ltb deepest d || ltb finest_edge k ≡ true → RecordWhy l k d 2
    two_why e = ⊎_elim (λ a. deep_record (ltb-true deepest d a)) (λ a. fine_record (ltb-true finest_edge k a)) (either (ltb deepest d) (ltb finest_edge k) e)

    why_two : ltb deepest d || ltb finest_edge k ≡ false → RecordWhy l k d 2 → ⊥
    why_two e (deep_record h) = let g = ltb-false deepest d (neither (ltb deepest d) (ltb finest_edge k) e).0 in omega arith
    why_two e (fine_record h) = let g = ltb-false finest_edge k (neither (ltb deepest d) (ltb finest_edge k) e).1 in omega arith

    -- Refusal 2, exactly if the depth is above the deepest, or k above the finest edge.
    pub two : Decides (ltb deepest d || ltb finest_edge k) (RecordWhy l k d 2)
    two = tells (ltb deepest d || ltb finest_edge k) two_why why_two

    why_13 : RecordWhy l k d 13 → Malformed l
    why_13 (malformed_record m) = m

    why_14 : RecordWhy l k d 14 → Unending l
    why_14 (unending_record u) = u

    why_3 : RecordWhy l k d 3 → Beyond l k d
    why_3 (beyond_record b) = b

    record_listed : Listed (RecordWhy l k d) (order (record_rungs l k d))
    record_listed j (deep_record h) = Memᴰ.head refl
    record_listed j (fine_record h) = Memᴰ.head refl
    record_listed j (malformed_record h) = Memᴰ.tail (Memᴰ.head refl)
    record_listed j (unending_record h) = Memᴰ.tail (Memᴰ.tail (Memᴰ.head refl))
    record_listed j (beyond_record h) = Memᴰ.tail (Memᴰ.tail (Memᴰ.tail (Memᴰ.head refl)))

    pub aim_ladder : no_of (aim_of l k d) ≡ ladder (record_rungs l k d)
    unfolding aim_of ladder
    aim_ladder = go (ltb deepest d || ltb finest_edge k) (malformed l) (unending l) (outside l k d) (eqb kind 0)
      where
        go : (a b c e f : Bool)
            → no_of (pick a (Err Depth) (pick b (Err Record) (pick c (Err NotFinite) (pick e (Err Position) (pick f (Ok None) (Ok (Some (cells_at (cell_number (x_in l) k) (cell_number (last_in l) k) (cell_number (y_in l) k) (cell_number (z_in l) k) (value_in l)))))))))
            ≡ pick a 2 (pick b 13 (pick c 14 (pick e 3 0)))
        go true b c e f = refl
        go false true c e f = refl
        go false false true e f = refl
        go false false false true f = refl
        go false false false false true = refl
        go false false false false false = refl

    -- What a record asks for is refused by 2, 13, 14 and 3, each exactly if it is the first of these that applies.
    pub record_refusals : Given (RecordWhy l k d) (order (record_rungs l k d)) (no_of (aim_of l k d))
    record_refusals = rw aim_ladder
        (ladder_given (RecordWhy l k d) (record_rungs l k d) (omega arith) record_listed (
          two,
          λ _. (
            via (malformed l) thirteen malformed_record why_13,
            λ n. (
              via (unending l) (fourteen (off (malformed l) thirteen (λ m. n (malformed_record m)))) unending_record why_14,
              λ _. (via (outside l k d) three beyond_record why_3, λ _. tt),
            ),
          ),
        ))

-- ---- the cells of a bar rise: where the second x is not below the first, its cell is not either

not_less : (s t : Bool) (n m : ℕ) → less s n t m ≡ false → (t ≡ true → m ≡ 0) → m ≤ n
unfolding less
not_less s true n m e z = le_trans (le_of_eq (z refl)) zero-le
not_less true false n m e z = let h = ltb-false 0 (n + m) e in omega arith
not_less false false n m e z = ltb-false n m e

finite_number : (b : ℕ) → T (finite b) → nan b ≡ false
finite_number b f = go (eqb (exponent b) 2047) f
  where
    go : (a : Bool) → T (not a) → a && not (eqb (fraction b) 0) ≡ false
    go true f = absurd f
    go false f = refl

units_rise : (w x : ℕ) → T (finite w) → T (finite x) → below_bits w x ≡ false → (2 ^ 63 ≤ x → units x ≡ 0) → units x ≤ units w
unfolding below_bits
units_rise w x f g e z =
    not_less (negative w) (negative x) (units w) (units x) (rw (finite_number w f, finite_number x g) at e) (λ t. z (leb-true (2 ^ 63) x t))

module _ (l : List ℕ) (k d : ℕ) where
  cells_rise : Formed l → T (all_finite (x_in l) (y_in l) (z_in l) (second_in l)) → (2 ^ 63 ≤ x_in l → units (x_in l) ≡ 0) → cell_number (x_in l) k ≤ cell_number (last_in l) k
  cells_rise f g z = go (eqb (kind_in l) 2) refl
    where
      go : (a : Bool) → eqb (kind_in l) 2 ≡ a → cell_number (x_in l) k ≤ cell_number (pick a (second_in l) (x_in l)) k
      go true e =
          shr_mono 1074 (mul-le-mul_right (2 ^ k)
          (units_rise (second_in l) (x_in l) (finite_second (x_in l) (y_in l) (z_in l) (second_in l) g) (finite_point (x_in l) (y_in l) (z_in l) (second_in l) g).0
          (right_bar (kind_in l) (value_in l) (x_in l) (y_in l) (z_in l) (second_in l) f.right (eqb-true (kind_in l) 2 e)) z))
      go false e = le_of_eq refl

  value_lt : Bytes l → value_in l ≤ largest_value
  value_lt h = omega (arith, h 4, h 5)

  module _ (first last y z v : ℕ) (e : aim_of l k d ≡ Ok (Some (cells_at first last y z v))) where
    refusal : (r : Refusal) → Err r ≡ Ok (Some (cells_at first last y z v)) → ⊥
    refusal r i = let q : ◌≡◌ {A = ℕ} 0 1 = cc in clash q

    -- what the tests of an accepted record say
    record Accepted : Type 0 where
      low : ltb deepest d || ltb finest_edge k ≡ false
      formed : malformed l ≡ false
      ends : unending l ≡ false
      placed_all : outside l k d ≡ false
      no_pause : kind_in l ≢ 0
      same : cells_at (cell_number (x_in l) k) (cell_number (last_in l) k) (cell_number (y_in l) k) (cell_number (z_in l) k) (value_in l) ≡ cells_at first last y z v

    accepted : Accepted
    unfolding aim_of
    accepted =
        let a = past_no (ltb deepest d || ltb finest_edge k) (Err Depth) _ (Ok (Some (cells_at first last y z v))) (refusal Depth) e in
        let b = past_no (malformed l) (Err Record) _ (Ok (Some (cells_at first last y z v))) (refusal Record) a.1 in
        let c = past_no (unending l) (Err NotFinite) _ (Ok (Some (cells_at first last y z v))) (refusal NotFinite) b.1 in
        let f = past_no (outside l k d) (Err Position) _ (Ok (Some (cells_at first last y z v))) (refusal Position) c.1 in
        let g = past_no (eqb (kind_in l) 0) (Ok None) _ (Ok (Some (cells_at first last y z v))) (λ i. let q : ◌≡◌ {A = ℕ} 0 1 = cc in clash q) f.1 in
        record { low = a.0; formed = b.0; ends = c.0; placed_all = f.0; no_pause = eqb-false (kind_in l) 0 g.0; same = cc g.1 }

    -- The cells that a record asks for are the exact floors of its coordinates, inside the cube; the last x is not below the first.
    pub aim_cells : Bytes l → Aimed l k d first last y z v
    aim_cells h =
        let a = accepted in
        let m = all_placed l k d a.placed_all a.no_pause in
        let s = a.same in
        let p : cell_number (x_in l) k ≡ first = ap (λ (c : Cells). c.first) s in
        let q : cell_number (last_in l) k ≡ last = ap (λ (c : Cells). c.last) s in
        let r : cell_number (y_in l) k ≡ y = ap (λ (c : Cells). c.y) s in
        let t : cell_number (z_in l) k ≡ z = ap (λ (c : Cells). c.z) s in
        let u : value_in l ≡ v = ap (λ (c : Cells). c.value) s in
        record {
          first_floor = subst (Floor (x_in l) k d) p (floor_of_lem (x_in l) k d m.0);
          last_floor = subst (Floor (last_in l) k d) q (floor_of_lem (last_in l) k d m.1);
          y_floor = subst (Floor (y_in l) k d) r (floor_of_lem (y_in l) k d m.2);
          z_floor = subst (Floor (z_in l) k d) t (floor_of_lem (z_in l) k d m.3);
          rises = rw (sym p, sym q) (cells_rise (well_formed l a.formed) (all_finite_lem l a.ends) (floor_of_lem (x_in l) k d m.0).risen);
          value_is = sym u;
          value_small = le_trans (le_of_eq (sym u)) (value_lt h);
        }

  -- A pause that 2 and 13 do not refuse asks for nothing: neither 14 nor 3 applies to it.
  pub pause_aim : d ≤ deepest → k ≤ finest_edge → malformed l ≡ false → kind_in l ≡ 0 → aim_of l k d ≡ Ok None
  unfolding aim_of
  pause_aim deep fine m p =
      rw (le-ltb deepest d deep, le-ltb finest_edge k fine, m, off (unending l) (fourteen l m) ends, off (outside l k d) (three l k d) stays, eq-eqb (kind_in l) 0 p)
    where
      ends : Unending l → ⊥
      ends (endless_x n h) = n p
      ends (endless_y n h) = n p
      ends (endless_z n h) = n p
      ends (endless_second e h) = clash (omega arith)

      stays : Beyond l k d → ⊥
      stays (beyond_x n o) = n p
      stays (beyond_y n o) = n p
      stays (beyond_z n o) = n p
      stays (beyond_second e o) = clash (omega arith)

-- ---- the numbers of a reading are those of its record

module _ (v x y z w : ℕ) (X : x < 2 ^ 64) (Y : y < 2 ^ 64) (Z : z < 2 ^ 64) (W : w < 2 ^ 64) (f : T (all_finite x y z w)) where
  said_fields : (kind : ℕ) → Right kind v x y z w → fields_of (Ok (said kind v x y z w)) ≡ fields_at 0 kind v x y z w
  unfolding said fields_of
  said_fields kind (pause e a b c g h) = rw (e, a, b, c, g, h)
  said_fields kind (shot e a) =
      let g = finite_point x y z w f in
      rw (e, a, bits_back x X g.0, bits_back y Y g.1, bits_back z Z g.2)
  said_fields kind (bar e a) =
      let g = finite_point x y z w f in
      rw (e, bits_back x X g.0, bits_back y Y g.1, bits_back z Z g.2, bits_back w W (finite_second x y z w f))

-- A reading says the record's own words, or its refusal and zeros.
pub reading_fields : (l : List ℕ) → Bytes l → fields_of (reading_of l) ≡ fields_in l
unfolding reading_of fields_in
reading_fields l h = go (malformed l) (unending l) refl refl
  where
    go : (a b : Bool) → malformed l ≡ a → unending l ≡ b
        → fields_of (pick a (Err Record) (pick b (Err NotFinite) (Ok (said (kind_in l) (value_in l) (x_in l) (y_in l) (z_in l) (second_in l)))))
        ≡ pick a (fields_at 13 0 0 0 0 0 0) (pick b (fields_at 14 0 0 0 0 0 0) (fields_at 0 (kind_in l) (value_in l) (x_in l) (y_in l) (z_in l) (second_in l)))
    go true b e f = unfold fields_of in refl
    go false true e f = unfold fields_of in refl
    go false false e f =
        said_fields (value_in l) (x_in l) (y_in l) (z_in l) (second_in l) (word64_lt l 8 h) (word64_lt l 16 h) (word64_lt l 24 h) (word64_lt l 32 h)
        (all_finite_lem l f) (kind_in l) (well_formed l e).right

-- So does the struct that C and Rust get.
pub struct_says : (l : List ℕ) → Bytes l → fields_by (struct_of (reading_of l)) ≡ fields_in l
struct_says l h = struct_fields (reading_of l) ∙ reading_fields l h
