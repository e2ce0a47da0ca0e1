-- What the definitions of paths and child numbers say together.
use Prim.Native.Nat.{ℕ, zero, suc, ◌+◌, ◌-◌, ◌*◌, ◌/◌, ◌%◌, ◌^◌, ◌≤◌, ◌<◌, max}
use mathlib.Core.Path.{◌≡◌, ◌∙◌, refl, sym, ap, ap₂}
use mathlib.Core.Bool.{Bool, true, false}
use native.Mathlib.Nat.{mod-lt, mod-eq_of_lt, lt_of_lt_of_le, one-mul, pow-suc}
use native.Mathlib.Omega.{arith}
use borrow.Author.Tests.{ltb-true, leb-true, lt-ltb}
use lib.Dec.{leb, ltb}
use lib.IntN.{ℤ, pos, negsuc}
use lib.Bits.{bit_or, or_lt, or_zero_r}
use lib.Pow.{pow_pos, pow_mono, pow-add, shr-shr}
use Rattle.basics.specs.Limits.{deepest}
use Rattle.basics.specs.Bits.{bit, field}
use Rattle.basics.specs.Pick.{pick}
use Rattle.paths.specs.declared.IVec3.{IVec3}
use Rattle.paths.specs.Paths.{low10, interleave, path_of, gather, place, decoded_of, inside, octant, whole, child_no, child_at, axis}
use Rattle.paths.proofs.Bits.{bit_lt, bit_zero, bit_or_lem, bit_mod, by_bits, built, built_lt, built_field}

-- ## The interleaving fact

-- An octal digit is below 8.
pub octant_lt : (n x y z : ℕ) → octant n x y z < 2 ^ 3
unfolding octant
octant_lt n x y z = omega (arith, bit_lt n x, bit_lt n y, bit_lt n z)

-- A path is put together of octal digits: digit n is the octant of the three bits n.
interleave_built : (k x y z : ℕ) → interleave k x y z ≡ built 3 (λ n. octant n x y z) k
unfolding interleave octant built
interleave_built zero x y z = refl
interleave_built (suc n) x y z =
    let h : interleave n x y z ≡ built 3 (λ n. octant n x y z) n = interleave_built n x y z in
    rw (pow-add 2 (3 * n) 1, pow-add 2 (3 * n) 2) (omega arith)

-- The path of k bits per axis has 3k bits.
pub path_lt : (k x y z : ℕ) → interleave k x y z < 2 ^ (3 * k)
path_lt k x y z = rw (interleave_built k x y z) (built_lt 3 (λ n. octant n x y z) (λ n. octant_lt n x y z) k)

-- Field n of three bits is octal digit n.
path_field : (k n x y z : ℕ) → n < k → field (3 * n) 3 (interleave k x y z) ≡ octant n x y z
path_field k n x y z h = rw (interleave_built k x y z) (built_field 3 (λ n. octant n x y z) (λ n. octant_lt n x y z) k n h)

-- Bit a of an octant is the bit of axis a.
octant_bit : (n a x y z : ℕ) → a < 3 → bit a (octant n x y z) ≡ bit n (axis a x y z)
unfolding octant
octant_bit n zero x y z h = omega (arith, bit_lt n x)
octant_bit n (suc zero) x y z h = omega (arith, bit_lt n x, bit_lt n y)
octant_bit n (suc (suc zero)) x y z h = omega (arith, bit_lt n x, bit_lt n y, bit_lt n z)
octant_bit n (suc (suc (suc a))) x y z h = absurd (omega arith)

-- Bit 3n + a of a path is bit n of the number of axis a.
pub path_bit : (k n a x y z : ℕ) → n < k → a < 3 → bit (3 * n + a) (interleave k x y z) ≡ bit n (axis a x y z)
path_bit k n a x y z h l =
    ap (λ (i : ℕ). i % 2) (sym (shr-shr (interleave k x y z) (3 * n) a))
    ∙ sym (bit_mod 3 a (interleave k x y z / 2 ^ (3 * n)) l)
    ∙ ap (bit a) (path_field k n x y z h)
    ∙ octant_bit n a x y z l

-- The same at any position: bit i of a path is bit i / 3 of the number of axis i % 3.
pub path_at : (k i x y z : ℕ) → i < 3 * k → bit i (interleave k x y z) ≡ bit (i / 3) (axis (i % 3) x y z)
path_at k i x y z h =
    let e : i ≡ 3 * (i / 3) + i % 3 = omega arith in
    ap (λ (j : ℕ). bit j (interleave k x y z)) e ∙ path_bit k (i / 3) (i % 3) x y z (omega arith) (omega arith)

-- ## Paths put together

-- Taking an axis goes through an operation.
axis_both : {A B C : Type 0} (f : A → B → C) (a : ℕ) (x y z : A) (u v w : B) → f (axis a x y z) (axis a u v w) ≡ axis a (f x u) (f y v) (f z w)
axis_both f zero x y z u v w = refl
axis_both f (suc zero) x y z u v w = refl
axis_both f (suc (suc a)) x y z u v w = refl

-- The or of two paths is the path of the ors.
path_or : (k x y z u v w : ℕ) → bit_or (interleave k x y z) (interleave k u v w) ≡ interleave k (bit_or x u) (bit_or y v) (bit_or z w)
path_or k x y z u v w =
    by_bits (3 * k) _ _ (or_lt (3 * k) _ _ (path_lt k x y z) (path_lt k u v w)) (path_lt k _ _ _)
    (λ i h.
    bit_or_lem i (interleave k x y z) (interleave k u v w)
    ∙ ap₂ max (path_at k i x y z h) (path_at k i u v w h)
    ∙ sym (bit_or_lem (i / 3) (axis (i % 3) x y z) (axis (i % 3) u v w))
    ∙ ap (bit (i / 3)) (axis_both bit_or (i % 3) x y z u v w)
    ∙ sym (path_at k i (bit_or x u) (bit_or y v) (bit_or z w) h))

-- A shift by one takes x to y and y to z.
path_shift : (k x y : ℕ) → interleave k x y 0 * 2 ≡ interleave k 0 x y
unfolding interleave
path_shift zero x y = refl
path_shift (suc n) x y =
    let h : interleave n x y 0 * 2 ≡ interleave n 0 x y = path_shift n x y in
    rw (bit_zero n, pow-add 2 (3 * n) 1, pow-add 2 (3 * n) 2) (omega arith)

-- Three spread numbers, shifted by 0, 1 and 2 and put together, are the path.
pub path_joined : (x y z : ℕ) → bit_or (bit_or (interleave 10 x 0 0) (interleave 10 y 0 0 * 2 % 2 ^ 32)) (interleave 10 z 0 0 * 4 % 2 ^ 32) ≡ interleave 10 x y z
path_joined x y z =
    let sy : interleave 10 y 0 0 * 2 % 2 ^ 32 ≡ interleave 10 0 y 0 = omega (arith, path_shift 10 y 0, path_lt 10 0 y 0) in
    let sz : interleave 10 z 0 0 * 4 % 2 ^ 32 ≡ interleave 10 0 0 z = omega (arith, path_shift 10 z 0, path_shift 10 0 z, path_lt 10 0 0 z) in
    rw (sy, sz, path_or 10 x 0 0 0 y 0, path_or 10 _ _ _ 0 0 z) (simp or_zero_r)

-- ## The path of a cell

-- The low 10 bits are 10 bits.
pub low10_lt : (z : ℤ) → low10 z < 2 ^ 10
unfolding low10
low10_lt (pos n) = mod-lt n (pow_pos 10)
low10_lt (negsuc n) = omega arith

-- A path is below 2^30.
pub path_below : (p : IVec3) → path_of p < 2 ^ 30
unfolding path_of
path_below p = path_lt 10 (low10 p.x) (low10 p.y) (low10 p.z)

-- ## The inverse

-- A gathered number is put together of bits.
gather_built : (k a c : ℕ) → gather k a c ≡ built 1 (λ n. bit (3 * n + a) c) k
unfolding gather built
gather_built zero a c = refl
gather_built (suc n) a c =
    let h : gather n a c ≡ built 1 (λ n. bit (3 * n + a) c) n = gather_built n a c in
    rw (one-mul n) (omega arith)

-- A number gathered of k bits has k bits.
pub gather_lt : (k a c : ℕ) → gather k a c < 2 ^ k
gather_lt k a c = let h : built 1 (λ n. bit (3 * n + a) c) k < 2 ^ (1 * k) = built_lt 1 (λ n. bit (3 * n + a) c) (λ n. bit_lt (3 * n + a) c) k in rw (gather_built k a c) (rw one-mul at h)

-- Bit n of the gathered number is bit 3n + a of the code.
pub gather_bit : (k n a c : ℕ) → n < k → bit n (gather k a c) ≡ bit (3 * n + a) c
gather_bit k n a c h =
    let e : field (1 * n) 1 (built 1 (λ n. bit (3 * n + a) c) k) ≡ bit (3 * n + a) c = built_field 1 (λ n. bit (3 * n + a) c) (λ n. bit_lt (3 * n + a) c) k n h in
    rw (gather_built k a c) (rw one-mul at e)

-- Gathering along an axis gives back the number of that axis.
pub gather_path : (k a x y z : ℕ) → a < 3 → axis a x y z < 2 ^ k → gather k a (interleave k x y z) ≡ axis a x y z
gather_path k a x y z h l =
    by_bits k _ _ (gather_lt k a (interleave k x y z)) l (λ n q. gather_bit k n a (interleave k x y z) q ∙ path_bit k n a x y z q h)

-- Decoding the path of a cell gives the low 10 bits of its coordinates.
pub decode_encode : (p : IVec3) → decoded_of (path_of p) ≡ record { no = 0; position = place (low10 p.x) (low10 p.y) (low10 p.z) }
unfolding decoded_of path_of
decode_encode p =
    let t : ltb (interleave 10 (low10 p.x) (low10 p.y) (low10 p.z)) (2 ^ 30) ≡ true = lt-ltb _ _ (path_lt 10 (low10 p.x) (low10 p.y) (low10 p.z)) in
    let ex : gather 10 0 (interleave 10 (low10 p.x) (low10 p.y) (low10 p.z)) ≡ low10 p.x = gather_path 10 0 _ _ _ (omega arith) (low10_lt p.x) in
    let ey : gather 10 1 (interleave 10 (low10 p.x) (low10 p.y) (low10 p.z)) ≡ low10 p.y = gather_path 10 1 _ _ _ (omega arith) (low10_lt p.y) in
    let ez : gather 10 2 (interleave 10 (low10 p.x) (low10 p.y) (low10 p.z)) ≡ low10 p.z = gather_path 10 2 _ _ _ (omega arith) (low10_lt p.z) in
    rw (t, ex, ey, ez)

-- Taking axis a of what f gives for each axis is f a.
axis_each : {A : Type 0} (f : ℕ → A) (a : ℕ) → a < 3 → axis a (f 0) (f 1) (f 2) ≡ f a
axis_each f zero h = refl
axis_each f (suc zero) h = refl
axis_each f (suc (suc zero)) h = refl
axis_each f (suc (suc (suc a))) h = absurd (omega arith)

-- Interleaving what was gathered along the three axes gives back the code.
pub path_gather : (k c : ℕ) → c < 2 ^ (3 * k) → interleave k (gather k 0 c) (gather k 1 c) (gather k 2 c) ≡ c
path_gather k c h =
    by_bits (3 * k) _ _ (path_lt k _ _ _) h
    (λ i l.
    let e : 3 * (i / 3) + i % 3 ≡ i = omega arith in
    path_at k i (gather k 0 c) (gather k 1 c) (gather k 2 c) l
    ∙ ap (bit (i / 3)) (axis_each (λ a. gather k a c) (i % 3) (omega arith))
    ∙ gather_bit k (i / 3) (i % 3) c (omega arith)
    ∙ ap (λ (j : ℕ). bit j c) e)

-- The path of a decoded code is the code.
pub encode_decode : (c : ℕ) → c < 2 ^ 30 → path_of (decoded_of c).position ≡ c
unfolding decoded_of path_of low10
encode_decode c h = rw (lt-ltb c (2 ^ 30) h, mod-eq_of_lt (gather_lt 10 0 c), mod-eq_of_lt (gather_lt 10 1 c), mod-eq_of_lt (gather_lt 10 2 c)) (path_gather 10 c h)

-- ## Coordinates and child numbers

-- The coordinate of a cell inside is its own low 10 bits.
pub low10_inside : (d : ℕ) (z : ℤ) → inside d z ≡ true → d ≤ 10 → low10 z ≡ whole z
unfolding low10 inside whole
low10_inside d (pos n) h l = mod-eq_of_lt (lt_of_lt_of_le (ltb-true n (2 ^ d) h) (pow_mono l))
low10_inside d (negsuc n) h l = let q : ◌≡◌ {A = ℕ} 0 1 = cc in absurd (omega arith)

-- What the number 0 says of a child number that was asked: depth, level and cell are in range.
pub record Accepted (p : IVec3) (k d : ℕ) : Type 0 where
  pub depth : d ≤ deepest
  pub level : k < d
  pub on_x : inside d p.x ≡ true
  pub on_y : inside d p.y ≡ true
  pub on_z : inside d p.z ≡ true

-- A choice that ends in 0 went past a refusal.
past : (b : Bool) (x r : ℕ) → (r ≡ 0 → ⊥) → pick b x r ≡ 0 → (b ≡ true) × (x ≡ 0)
past true x r h e = (refl, e)
past false x r h e = absurd (h e)

-- 0 is given only where depth, level and cell are in range.
pub child_accepted : (p : IVec3) (k d : ℕ) → child_no p k d ≡ 0 → Accepted p k d
unfolding child_no
child_accepted p k d e =
    let a = past (leb d deepest) _ 2 (omega arith) e in
    let b = past (ltb k d) _ 2 (omega arith) a.1 in
    let x = past (inside d p.x) _ 3 (omega arith) b.1 in
    let y = past (inside d p.y) _ 3 (omega arith) x.1 in
    let z = past (inside d p.z) _ 3 (omega arith) y.1 in
    record { depth = leb-true d deepest a.0; level = ltb-true k d b.0; on_x = x.0; on_y = y.0; on_z = z.0 }

eight : (n : ℕ) → 8 ^ n ≡ 2 ^ (3 * n)
eight zero = refl
eight (suc n) =
    let e : 2 ^ (3 * suc n) ≡ 2 ^ (3 * n) * 8 = ap (λ (i : ℕ). 2 ^ i) (omega arith) ∙ pow-add 2 (3 * n) 3 in
    rw (e, pow-suc 8 n, eight n)

-- Octal digit n of a path is the octant of the three bits n.
pub path_digit : (k n x y z : ℕ) → n < k → interleave k x y z / 8 ^ n % 8 ≡ octant n x y z
path_digit k n x y z h = rw (eight n) (path_field k n x y z h)

-- The child at level k of depth d is octal digit d-1-k of the path.
pub child_digit : (p : IVec3) (k d : ℕ) → child_no p k d ≡ 0 → child_at p k d ≡ path_of p / 8 ^ (d - 1 - k) % 8
unfolding child_at path_of
child_digit p k d e =
    let a : Accepted p k d = child_accepted p k d e in
    let l : d ≤ 10 = omega arith in
    rw (path_digit 10 (d - 1 - k) _ _ _ (omega arith), low10_inside d p.x a.on_x l, low10_inside d p.y a.on_y l, low10_inside d p.z a.on_z l)
