-- What the functions ask of the definitions, in the forms in which their code has it.
use Prim.Native.Nat.{ℕ, ◌+◌, ◌-◌, ◌*◌, ◌/◌, ◌%◌, ◌^◌, ◌≤◌, ◌<◌}
use mathlib.Core.Path.{◌≡◌, ◌∙◌, refl, sym, ap}
use mathlib.Core.Bool.{Bool, true, false}
use native.Mathlib.Nat.{mod-eq_of_lt, mul-le-mul_right, le_of_lt}
use native.Mathlib.Numerals.{add-one, add-one-le}
use native.Mathlib.Omega.{arith}
use borrow.Author.Tests.{le-leb, lt-leb, lt-ltb, le-ltb, ne_eqb}
use lib.Bits.{bit_or}
use lib.IntN.{ℤ, pos}
use lib.Pow.{pow_mono}
use lib.Signed.{mag}
use mir.Syntax.{w32}
use mir.Val.{Fits, SFits, to_z}
use mir.ValLaws.{to_z-of_z}
use Rattle.std.specs.Prelude.{Result, Ok, Err}
use Rattle.std.specs.Result.{result_unwrap_or}
use Rattle.basics.specs.Limits.{deepest}
use Rattle.basics.specs.Bits.{bit}
use Rattle.basics.specs.Refusals.{number}
use Rattle.basics.specs.declared.Refusal.{Refusal}
use Rattle.basics.proofs.Refusals.{number_some}
use Rattle.paths.specs.declared.IVec3.{IVec3}
use Rattle.paths.specs.Paths.{low10, interleave, path_of, gather, place, Decoded, decoded as answered, decoded_of, inside, octant, whole, child_no, child_at, ChildIndex, child_index_of}
use Rattle.paths.proofs.Bits.{bit_lt, bit_past}
use Rattle.paths.proofs.Coords.{back}
use Rattle.paths.proofs.Laws.{low10_lt, path_joined, gather_lt, child_accepted}

-- A field of a struct is the number that its bits are read back as.
same : (x : ℤ) → mag x < 2 ^ 31 → back x ≡ x
same x h = to_z-of_z w32 x (record { sfits = h })

-- ## Encoding

pub ten : (x : ℤ) (n : ℕ) → n ≡ low10 x → n < 2 ^ 10
ten x n e = rw e (low10_lt x)

-- The code's answer, from what low_bits and spread ensure.
pub encoded : (p : IVec3) (x y z a b c : ℕ) → mag p.x < 2 ^ 31 → mag p.y < 2 ^ 31 → mag p.z < 2 ^ 31
    → x ≡ low10 (back p.x) → y ≡ low10 (back p.y) → z ≡ low10 (back p.z)
    → a ≡ interleave 10 x 0 0 → b ≡ interleave 10 y 0 0 → c ≡ interleave 10 z 0 0
    → bit_or (bit_or a (b * 2 % 2 ^ 32)) (c * 4 % 2 ^ 32) ≡ path_of p
unfolding path_of
encoded p x y z a b c hx hy hz ex ey ez ea eb ec =
    rw (ea, eb, ec, path_joined x y z, ex, ey, ez, same p.x hx, same p.y hy, same p.z hz)

-- ## Gathering, one bit a turn

pub gather_none : (a c : ℕ) → 0 ≡ gather 0 a c
unfolding gather
gather_none a c = refl

-- A turn adds bit n, and the sum fits.
pub gather_one : (n a c r : ℕ) → n < 10 → r ≡ gather n a c → r + c / 2 ^ (3 * n + a) % 2 * 2 ^ n % 2 ^ 32 ≡ gather (n + 1) a c
unfolding gather
gather_one n a c r h e =
    let l : bit (3 * n + a) c * 2 ^ n ≤ 1 * 2 ^ n = mul-le-mul_right (2 ^ n) (omega (arith, bit_lt (3 * n + a) c)) in
    let k : 2 ^ n ≤ 2 ^ 10 = pow_mono (le_of_lt h) in
    let m : bit (3 * n + a) c * 2 ^ n % 2 ^ 32 ≡ bit (3 * n + a) c * 2 ^ n = mod-eq_of_lt (omega arith) in
    rw (add-one n, m, e)

pub gather_fits : (n a c r : ℕ) → n < 10 → r ≡ gather n a c → Fits w32 (r + c / 2 ^ (3 * n + a) % 2 * 2 ^ n % 2 ^ 32)
gather_fits n a c r h e =
    let k : 2 ^ (n + 1) ≤ 2 ^ 10 = pow_mono (add-one-le h) in
    record { fits = omega (arith, gather_one n a c r h e, gather_lt (n + 1) a c) }

-- ## Decoding

-- A gathered number is one that a coordinate can have.
pub gathered_fits : (a c r : ℕ) → r ≡ gather 10 a c → SFits w32 (pos r)
gathered_fits a c r e = record { sfits = omega (arith, gather_lt 10 a c) }

gathered : (a c r : ℕ) → r ≡ gather 10 a c → to_z w32 r ≡ pos (gather 10 a c)
gathered a c r e = to_z-of_z w32 (pos r) (gathered_fits a c r e) ∙ ap pos e

-- The code's two answers.
pub decoded : (c x y z : ℕ) → c < 2 ^ 30 → x ≡ gather 10 0 c → y ≡ gather 10 1 c → z ≡ gather 10 2 c
    → ◌≡◌ {A = Decoded} (record { no = 0; position = record { x = to_z w32 x; y = to_z w32 y; z = to_z w32 z } }) (decoded_of c)
unfolding decoded_of
decoded c x y z h ex ey ez = rw (lt-ltb c (2 ^ 30) h, gathered 0 c x ex, gathered 1 c y ey, gathered 2 c z ez)

pub too_long : (c : ℕ) → 2 ^ 30 ≤ c → ◌≡◌ {A = Decoded} (record { no = 3; position = place 0 0 0 }) (decoded_of c)
unfolding decoded_of
too_long c h = rw (le-ltb c (2 ^ 30) h)

-- The position of an answer, where a refusal's is 0, 0, 0.
pub position_or : {o : Decoded} (r : Result IVec3 Refusal) → answered r ≡ o → result_unwrap_or r (place 0 0 0) ≡ o.position
position_or (Ok p) e = ap (λ (d : Decoded). d.position) e
position_or (Err refusal) e = ap (λ (d : Decoded). d.position) e

-- ## The lowest refusal

module _ (p : IVec3) (k d : ℕ) where
  -- Each way through the tests.
  pub no_depth : deepest < d → 2 ≡ child_no p k d
  unfolding child_no
  no_depth h = rw (lt-leb d deepest h)

  pub no_level : d ≤ deepest → d ≤ k → 2 ≡ child_no p k d
  unfolding child_no
  no_level h l = rw (le-leb d deepest h, le-ltb k d l)

  module _ (h : d ≤ deepest) (l : k < d) where
    pub off_x : inside d p.x ≡ false → 3 ≡ child_no p k d
    unfolding child_no
    off_x x = rw (le-leb d deepest h, lt-ltb k d l, x)

    pub off_y : inside d p.x ≡ true → inside d p.y ≡ false → 3 ≡ child_no p k d
    unfolding child_no
    off_y x y = rw (le-leb d deepest h, lt-ltb k d l, x, y)

    pub off_z : inside d p.x ≡ true → inside d p.y ≡ true → inside d p.z ≡ false → 3 ≡ child_no p k d
    unfolding child_no
    off_z x y z = rw (le-leb d deepest h, lt-ltb k d l, x, y, z)

    pub in_all : inside d p.x ≡ true → inside d p.y ≡ true → inside d p.z ≡ true → 0 ≡ child_no p k d
    unfolding child_no
    in_all x y z = rw (le-leb d deepest h, lt-ltb k d l, x, y, z)

-- A test of a coordinate, from the flag that a call gave for it.
pub seen : (d : ℕ) (x : ℤ) (t b : Bool) → mag x < 2 ^ 31 → t ≡ inside d (back x) → t ≡ b → inside d x ≡ b
seen d x t b h e q = ap (inside d) (sym (same x h)) ∙ sym e ∙ q

pub ruleset ladder = (no_depth, no_level, off_x, off_y, off_z, in_all, seen)

-- ## The octant

-- The code's answer below bit 32, and from there on: no number of 32 bits has one.
pub octant_sum : (b x y z : ℕ) → (x / 2 ^ b % 2 + 2 * (y / 2 ^ b % 2) + 4 * (z / 2 ^ b % 2) ≡ octant b x y z) × (x / 2 ^ b % 2 + 2 * (y / 2 ^ b % 2) + 4 * (z / 2 ^ b % 2) < 8)
unfolding octant
octant_sum b x y z = (refl, omega (arith, bit_lt b x, bit_lt b y, bit_lt b z))

pub octant_past : (b x y z : ℕ) → 32 ≤ b → Fits w32 x → Fits w32 y → Fits w32 z → (0 ≡ octant b x y z) × (0 < 8)
unfolding octant
octant_past b x y z h fx fy fz =
    (omega (arith, bit_past 32 b x fx.fits h, bit_past 32 b y fy.fits h, bit_past 32 b z fz.fits h), omega arith)

-- ## The child number

module _ (p : IVec3) (k d : ℕ) where
  pub refused : (refusal : Refusal) → number refusal ≡ child_no p k d → ◌≡◌ {A = ChildIndex} (record { no = number refusal; index = 0 }) (child_index_of p k d)
  unfolding child_index_of
  refused refusal e = rw (sym e, ne_eqb (number refusal) 0 (λ z. omega (arith, number_some refusal)))

  module _ (h : 0 ≡ child_no p k d) where
    -- What the shift asks, where nothing is refused, and the answer then.
    pub above : 1 ≤ d
    above = omega (arith, child_accepted p k d (sym h))

    pub level : k ≤ d - 1
    level = omega (arith, child_accepted p k d (sym h))

    pub given : (i x y z : ℕ) → mag p.x < 2 ^ 31 → mag p.y < 2 ^ 31 → mag p.z < 2 ^ 31
        → x ≡ whole (back p.x) → y ≡ whole (back p.y) → z ≡ whole (back p.z)
        → i ≡ octant (d - 1 - k) x y z → ◌≡◌ {A = ChildIndex} (record { no = 0; index = i }) (child_index_of p k d)
    unfolding child_index_of child_at
    given i x y z hx hy hz ex ey ez ei =
        rw (sym h, ei, ex, ey, ez, same p.x hx, same p.y hy, same p.z hz)
