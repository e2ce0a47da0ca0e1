-- Ids: bit 63 is the leaf flag; bits 55 to 62 types; 47 to 54 mask; 32 to 46 generation; 0 to 31 index.
use Rattle.std.specs.Prelude.{◌≡◌, ◌⊎◌, Bool, true, false, ℕ, ◌+◌, ◌-◌, ◌*◌, ◌%◌, ◌^◌, ◌≤◌, ◌<◌, eqb, leb, ltb}
use Rattle.basics.specs.Limits.{kid_words, last_packed}
use Rattle.basics.specs.Pick.{pick}
use Rattle.basics.specs.Bits.{field, bit}

-- EMPTY is raw 0 and INVALID is raw 2^64 - 1
abbrev pub empty : ℕ
empty = 0

abbrev pub invalid : ℕ
invalid = 2 ^ 64 - 1

-- ## The fields

unfoldable pub leaf_flag : ℕ → ℕ
leaf_flag raw = bit 63 raw

unfoldable pub types_field : ℕ → ℕ
types_field raw = field 55 8 raw

unfoldable pub mask_field : ℕ → ℕ
mask_field raw = field 47 8 raw

unfoldable pub generation_of : ℕ → ℕ
generation_of raw = field 32 15 raw

unfoldable pub index_of : ℕ → ℕ
index_of raw = raw % 2 ^ 32

unfoldable pub is_leaf : ℕ → Bool
is_leaf raw = eqb (leaf_flag raw) 1

unfoldable pub is_branch : ℕ → Bool
is_branch raw = eqb (leaf_flag raw) 0

-- EMPTY or a leaf
unfoldable pub is_end : ℕ → Bool
is_end raw = pick (eqb raw 0) true (leb (2 ^ 63) raw)

-- Where the Rust asserts (types, mask or has_child of an id with bit 63 set, a child number above 7) the port answers 0 or no.
unfoldable pub types_of : ℕ → ℕ
types_of raw = pick (is_leaf raw) 0 (types_field raw)

unfoldable pub mask_of : ℕ → ℕ
mask_of raw = pick (is_leaf raw) 0 (mask_field raw)

unfoldable pub has_child : ℕ → ℕ → Bool
has_child raw i = pick (ltb i kid_words) (eqb (bit i (mask_of raw)) 1) false

-- ## Packing

unfoldable pub pack : ℕ → ℕ → ℕ → ℕ → ℕ → ℕ
pack flag types mask generation index =
    flag * 2 ^ 63 + types * 2 ^ 55 + mask * 2 ^ 47 + generation * 2 ^ 32 + index

-- Packing accepts generations to 0x7FFE: refusal 12 says no to others.
unfoldable pub packing_no : ℕ → ℕ
packing_no generation = pick (leb generation last_packed) 0 12

-- A leaf has types and mask 0. A refusal returns INVALID.
unfoldable pub new_leaf : ℕ → ℕ → ℕ
new_leaf index generation = pick (eqb (packing_no generation) 0) (pack 1 0 0 generation index) invalid

unfoldable pub new_branch : ℕ → ℕ → ℕ → ℕ → ℕ
new_branch index generation types mask = pick (eqb (packing_no generation) 0) (pack 0 types mask generation index) invalid

-- ## Packed ids: those that packing gives for some fields

abbrev pub PackedLeaf : ℕ → Type 0
PackedLeaf raw = (i : ℕ) × (g : ℕ) × (i < 2 ^ 32) × (g ≤ last_packed) × (raw ≡ new_leaf i g)

abbrev pub PackedBranch : ℕ → Type 0
PackedBranch raw =
    (i : ℕ) × (g : ℕ) × (t : ℕ) × (m : ℕ) × (i < 2 ^ 32) × (g ≤ last_packed) × (t < 2 ^ 8) × (m < 2 ^ 8) × (raw ≡ new_branch i g t m)

abbrev pub Packed : ℕ → Type 0
Packed raw = PackedLeaf raw ⊎ PackedBranch raw

-- the fields of raw are these five numbers
pub record HasFields (l t m g i raw : ℕ) : Type 0 where
  pub flag : leaf_flag raw ≡ l
  pub types : types_field raw ≡ t
  pub mask : mask_field raw ≡ m
  pub generation : generation_of raw ≡ g
  pub index : index_of raw ≡ i
