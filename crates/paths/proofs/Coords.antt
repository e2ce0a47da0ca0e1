-- A signed coordinate, from its 32 bits.
use Prim.Native.Nat.{ℕ, ◌-◌, ◌*◌, ◌%◌, ◌^◌, ◌≤◌, ◌<◌}
use mathlib.Core.Path.{◌≡◌, ◌∙◌, refl, sym, ap}
use mathlib.Core.Bool.{true, false}
use native.Mathlib.Nat.{mod-eq_of_lt, one-mul, lt_of_le_of_lt}
use native.Mathlib.Omega.{arith}
use borrow.Author.Tests.{le-leb}
use lib.Bits.{bit_and, and_mask}
use lib.Dec.{ltb, lit<}
use lib.IntN.{ℤ, pos, negsuc, nat_abs}
use lib.Pow.{pow_mono}
use lib.Signed.{le_z, mag}
use mir.Syntax.{w32}
use mir.Val.{SFits, to_z, of_z}
use mir.ValLaws.{to_z-of_z}
use Rattle.std.specs.Prelude.{Result, Ok, Err, OkIff}
use Rattle.std.specs.Int.{FitsUnsignedBits}
use Rattle.std.specs.Result.{result_unwrap_or}
use Rattle.std.proofs.lemmas.Result.{Ok-from_Ok_iff, OkIff-at_ok}
use Rattle.basics.specs.Limits.{deepest}
use Rattle.paths.specs.declared.IVec3.{IVec3}
use Rattle.paths.specs.Paths.{low10, inside, whole, coord_of, cell_from, to_cell}

-- A coordinate as its 32 bits are read back.
abbrev pub back : ℤ → ℤ
back x = to_z w32 (of_z w32 x)

-- A number that fits is what a cast of it gives, and one below 0 gives what stands in for it.
cast_plain : {E : Type 0} (r : Result ℕ E) (n d : ℕ) → n < 2 ^ 31 → OkIff r (n < 2 ^ 32) n → result_unwrap_or r d ≡ n
cast_plain r n d l h = ap (λ s. result_unwrap_or s d) (Ok-from_Ok_iff r _ _ h (omega arith))

cast_below : {E : Type 0} (r : Result ℕ E) (n d : ℕ) → OkIff r ⊥ n → result_unwrap_or r d ≡ d
cast_below {E} (Ok v) n d h = absurd (OkIff-at_ok {E = E} (Ok v) ⊥ n v h refl).0
cast_below (Err e) n d h = refl

module _ {E : Type 0} (r : Result ℕ E) where
  whole_as : (x : ℤ) → mag x < 2 ^ 31 → OkIff r (FitsUnsignedBits 32 x) (nat_abs x) → result_unwrap_or r 0 ≡ whole x
  unfolding whole
  whole_as (pos n) l h = cast_plain r n 0 l h
  whole_as (negsuc n) l h = cast_below r _ 0 h

  coord_as : (x : ℤ) → mag x < 2 ^ 31 → OkIff r (FitsUnsignedBits 32 x) (nat_abs x) → result_unwrap_or r (2 ^ 32 - 1) ≡ coord_of x
  unfolding coord_of
  coord_as (pos n) l h = cast_plain r n (2 ^ 32 - 1) l h
  coord_as (negsuc n) l h = cast_below r _ (2 ^ 32 - 1) h

low_as : (x : ℤ) → mag x < 2 ^ 31 → of_z w32 x % 2 ^ 10 ≡ low10 x
unfolding low10
low_as (pos n) l = refl
low_as (negsuc n) l = omega arith

inside_as : (x : ℤ) (d : ℕ) → le_z (pos 0) x ≡ true → ltb (of_z w32 x) (2 ^ d) ≡ inside d x
unfolding inside
inside_as (pos n) d h = refl
inside_as (negsuc n) d h = absurd (false_true h)
  where
    false_true : false ≡ true → ⊥
    false_true e = cc

outside_as : (x : ℤ) (d : ℕ) → le_z (pos 0) x ≡ false → false ≡ inside d x
unfolding inside
outside_as (pos n) d h = absurd (true_false (sym (le-leb 0 n (omega arith)) ∙ h))
  where
    true_false : true ≡ false → ⊥
    true_false e = cc
outside_as (negsuc n) d h = refl

module _ (x : ℤ) (f : SFits w32 x) where
  back_is : back x ≡ x
  back_is = to_z-of_z w32 x f

  -- What the code gives for a coordinate, whose bits are read back.
  module _ {E : Type 0} (r : Result ℕ E) (h : OkIff r (FitsUnsignedBits 32 (back x)) (nat_abs (back x))) where
    pub whole_cast : result_unwrap_or r 0 ≡ whole x
    whole_cast = whole_as r x f.sfits (rw back_is at h)

    pub coord_cast : result_unwrap_or r (2 ^ 32 - 1) ≡ coord_of x
    coord_cast = coord_as r x f.sfits (rw back_is at h)

  module _ (m : ℕ) (e : m ≡ of_z w32 (back x)) where
    pub low_cast : bit_and m (2 ^ 10 - 1) ≡ low10 x
    low_cast = rw (e, back_is, and_mask (of_z w32 x) 10) (low_as x f.sfits)

    pub inside_cast : (d : ℕ) → d ≤ deepest → le_z (pos 0) (back x) ≡ true → ltb m (1 * 2 ^ d % 2 ^ 32) ≡ inside d x
    inside_cast d l h =
        let q : 2 ^ d < 2 ^ 32 = lt_of_le_of_lt (pow_mono l) (lit< tt) in
        rw (one-mul (2 ^ d), mod-eq_of_lt q, e, back_is) (inside_as x d (rw back_is at h))

  pub inside_not : (d : ℕ) → le_z (pos 0) (back x) ≡ false → le_z (pos 0) (back x) ≡ inside d x
  inside_not d h = h ∙ outside_as x d (rw back_is at h)

-- the cell at a position, its coordinates read from their bits
pub cell_is : (p : IVec3) (d x y z : ℕ) → mag p.x < 2 ^ 31 → mag p.y < 2 ^ 31 → mag p.z < 2 ^ 31
    → x ≡ coord_of (back p.x) → y ≡ coord_of (back p.y) → z ≡ coord_of (back p.z) → cell_from d x y z ≡ to_cell p d
cell_is p d x y z hx hy hz ex ey ez =
    let i = back_is p.x (record { sfits = hx }) in
    let j = back_is p.y (record { sfits = hy }) in
    let k = back_is p.z (record { sfits = hz }) in
    rw (ex, ey, ez, i, j, k)
