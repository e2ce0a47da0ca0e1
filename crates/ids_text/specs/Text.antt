-- The text form of an id: any 64-bit number has one.
use Rattle.std.specs.Prelude.{List, [], ◌∷◌, ◌++◌, ℕ, zero, suc, ◌+◌, ◌-◌, ◌/◌, ◌%◌, ◌^◌, eqb, ltb, length, replicate, take}
use Rattle.std.specs.Str.{is_utf8}
use Rattle.basics.specs.Pick.{pick}
use Rattle.basics.specs.Codes.{codes}
use Rattle.ids_text.specs.declared.IdText.{IdText}
use Rattle.ids.specs.Ids.{empty, invalid, is_leaf, index_of, generation_of, mask_field, types_field}

-- a capital hex digit: 0 is '0', which is 48, and 10 is 'A', which is 65
unfoldable pub digit : ℕ → ℕ
digit d = pick (ltb d 10) (48 + d) (55 + d)

-- the last n hex digits of v, the highest first
unfoldable pub hex : ℕ → ℕ → List ℕ
hex zero v = []
hex (suc n) v = digit (v / 16 ^ n % 16) ∷ hex n v

unfoldable pub leaf_text : ℕ → ℕ → List ℕ
leaf_text i g = codes "Id(L, i: " ++ (hex 8 i ++ (codes ", g: " ++ (hex 4 g ++ codes ")")))

unfoldable pub branch_text : ℕ → ℕ → ℕ → ℕ → List ℕ
branch_text i g m t =
    codes "Id(B, i: "
    ++ (hex 8 i ++ (codes ", g: " ++ (hex 4 g ++ (codes ", m: " ++ (hex 2 m ++ (codes ", t: " ++ (hex 2 t ++ codes ")")))))))

-- INVALID and EMPTY are tested first.
unfoldable pub text_of : ℕ → List ℕ
text_of raw =
    pick (eqb raw invalid) (codes "Id(INVALID)")
    (pick (eqb raw empty) (codes "Id(EMPTY)")
    (pick (is_leaf raw) (leaf_text (index_of raw) (generation_of raw))
    (branch_text (index_of raw) (generation_of raw) (mask_field raw) (types_field raw))))

-- What the code answers for a text: its length, and its bytes with zeros after them, 41 in all, as many as the longest text has.
unfoldable pub padded : List ℕ → IdText
padded s = record { bytes = s ++ replicate (41 - length s) 0; len = length s }

abbrev pub id_text_of : ℕ → IdText
id_text_of raw = padded (text_of raw)

-- What printing writes of such an answer: its bytes up to its length, if they are UTF-8, else nothing.
unfoldable pub shown : IdText → List ℕ
shown text = let bytes = take text.len text.bytes in pick (is_utf8 bytes) bytes []
