-- The public calls with what they are handed, what each answers and leaves, and its contract as the source has it.
use Rattle.std.specs.Prelude.{◌≡◌, ◌↔◌, Bool, true, not, Result, List, ℕ, ◌≤◌, eqb}
use Rattle.basics.specs.Limits.{deepest, cube_kids, kid_words}
use Rattle.basics.specs.Refusals.{no_of}
use Rattle.basics.specs.declared.Refusal.{Refusal}
use Rattle.ids.specs.declared.BlockId.{BlockId}
use Rattle.ids.specs.Ids as ids
use Rattle.ids_text.specs.declared.IdText.{IdText}
use Rattle.ids_text.specs.Text.{id_text_of}
use Rattle.paths.specs.declared.IVec3.{IVec3}
use Rattle.paths.specs.Paths.{path_of, decoded, decoded_of, child_index, child_index_of}
use Rattle.arena.specs.declared.Answer.{Answer}
use Rattle.arena.specs.declared.Counts.{Counts}
use Rattle.arena.specs.declared.Made.{Made}
use Rattle.arena.specs.Tables.{Tables, cap, WellFormed}
use Rattle.arena.specs.Calls.{Fair, raw_ids, made_of, answered_of, counted_as, fresh_of, hold_of, counts_of, intern_leaf_of, intern_branch_of, release_of}
use Rattle.read_cell.specs.Calls.{looked_as, look_of, expanded, expand_of}
use Rattle.edit.specs.Edit.{edit_of}
use Rattle.metres.specs.declared.Reading.{Reading}
use Rattle.metres.specs.Record.{reading_of}
use Rattle.readings.specs.Enter.{enter_of}
use Rattle.compare_list.specs.declared.Found.{Found}
use Rattle.compare.specs.Compare.{answered, compared, compare_of}

-- ## Calls that are lent no tables

-- a call with its arguments
pub data Plain : Type 0 where
  from_raw : ℕ → Plain
  raw : BlockId → Plain
  packing_no : ℕ → Plain
  new_leaf : (index generation : ℕ) → Plain
  new_branch : (index generation types mask : ℕ) → Plain
  index : BlockId → Plain
  generation : BlockId → Plain
  types : BlockId → Plain
  mask : BlockId → Plain
  has_child : BlockId → ℕ → Plain
  is_leaf : BlockId → Plain
  is_branch : BlockId → Plain
  is_invalid : BlockId → Plain
  is_valid : BlockId → Plain
  is_empty : BlockId → Plain
  text : BlockId → Plain
  path : IVec3 → Plain
  position : ℕ → Plain
  child : IVec3 → (level depth : ℕ) → Plain
  parse : List ℕ → Plain

-- what it answers
abbrev pub PlainSaid : Plain → Type 0
PlainSaid (from_raw x) = BlockId
PlainSaid (raw b) = ℕ
PlainSaid (packing_no g) = ℕ
PlainSaid (new_leaf i g) = BlockId
PlainSaid (new_branch i g y m) = BlockId
PlainSaid (index b) = ℕ
PlainSaid (generation b) = ℕ
PlainSaid (types b) = ℕ
PlainSaid (mask b) = ℕ
PlainSaid (has_child b i) = Bool
PlainSaid (is_leaf b) = Bool
PlainSaid (is_branch b) = Bool
PlainSaid (is_invalid b) = Bool
PlainSaid (is_valid b) = Bool
PlainSaid (is_empty b) = Bool
PlainSaid (text b) = IdText
PlainSaid (path p) = ℕ
PlainSaid (position c) = Result IVec3 Refusal
PlainSaid (child p k d) = Result ℕ Refusal
PlainSaid (parse l) = Result Reading Refusal

-- its contract
abbrev pub PlainMeets : (q : Plain) → PlainSaid q → Type 0
PlainMeets (from_raw x) a = a.0 ≡ x
PlainMeets (raw b) a = a ≡ b.0
PlainMeets (packing_no g) a = a ≡ ids.packing_no g
PlainMeets (new_leaf i g) a = a.0 ≡ ids.new_leaf i g
PlainMeets (new_branch i g y m) a = a.0 ≡ ids.new_branch i g y m
PlainMeets (index b) a = a ≡ ids.index_of b.0
PlainMeets (generation b) a = a ≡ ids.generation_of b.0
PlainMeets (types b) a = a ≡ ids.types_of b.0
PlainMeets (mask b) a = a ≡ ids.mask_of b.0
PlainMeets (has_child b i) a = a ≡ ids.has_child b.0 i
PlainMeets (is_leaf b) a = a ≡ ids.is_leaf b.0
PlainMeets (is_branch b) a = a ≡ ids.is_branch b.0
PlainMeets (is_invalid b) a = a ≡ eqb b.0 ids.invalid
PlainMeets (is_valid b) a = a ≡ not (eqb b.0 ids.invalid)
PlainMeets (is_empty b) a = a ≡ eqb b.0 ids.empty
PlainMeets (text b) a = a ≡ id_text_of b.0
PlainMeets (path p) a = a ≡ path_of p
PlainMeets (position c) a = decoded a ≡ decoded_of c
PlainMeets (child p k d) a = child_index a ≡ child_index_of p k d
PlainMeets (parse l) a = a ≡ reading_of l

-- ## Calls on lent tables

-- A call: its arguments, and the tables t that are lent. A fresh arena is lent the lists k, f and e, an expansion the cube l, a comparison the three
-- parts c, l and r of its list.
pub data Asked : Type 0 where
  fresh : (capacity : ℕ) (k f e : List ℕ) → Asked
  hold : Tables → BlockId → Asked
  counts : Tables → BlockId → Asked
  leaf : Tables → ℕ → Asked
  branch : Tables → List BlockId → Asked
  release : Tables → BlockId → Asked
  look : Tables → BlockId → ℕ → IVec3 → Asked
  expand : Tables → BlockId → ℕ → (l : List ℕ) → Asked
  edit : Tables → BlockId → ℕ → IVec3 → ℕ → Asked
  enter : Tables → BlockId → (depth k : ℕ) → List ℕ → Asked
  compare : Tables → (left right : BlockId) → ℕ → (c l r : List ℕ) → Asked
  check : Tables → Asked

-- the answer, and the tables kids, facts and find afterwards
abbrev pub Left : Type 0 → Type 0
Left R = R × List ℕ × List ℕ × List ℕ

-- what it answers, and what it can write of what is lent
abbrev pub Said : Asked → Type 0
Said (fresh c k f e) = Left Answer
Said (hold t b) = Answer × List ℕ
Said (counts t b) = Result Counts Refusal
Said (leaf t v) = Left Made
Said (branch t ks) = Left Made
Said (release t b) = Left Answer
Said (look t b d p) = Result ℕ Refusal
Said (expand t b d l) = Result (Unit {0}) Refusal × List ℕ
Said (edit t b d p v) = Left Made
Said (enter t b d k l) = Left Made
Said (compare t x y d c l r) = Result Found Refusal × List ℕ × List ℕ × List ℕ
Said (check t) = Bool × List ℕ

-- its contract
abbrev pub Meets : (q : Asked) → Said q → Type 0
Meets (fresh c k f e) a = answered_of c a.0 a.1 a.2 a.3 ≡ fresh_of c k f e
Meets (hold t b) a = answered_of (cap t) a.0 t.nodes.kids a.1 t.find ≡ hold_of t b.0
Meets (counts t b) a = counted_as a ≡ counts_of t b.0
Meets (leaf t v) a = (n tallest : ℕ) → n ≤ kid_words → Fair n tallest t → made_of (cap t) a.0 a.1 a.2 a.3 ≡ intern_leaf_of t v
Meets (branch t ks) a = Fair cube_kids deepest t → made_of (cap t) a.0 a.1 a.2 a.3 ≡ intern_branch_of cube_kids deepest t (raw_ids ks)
Meets (release t b) a = (n tallest : ℕ) → n ≤ kid_words → tallest ≤ deepest → Fair n tallest t → answered_of (cap t) a.0 a.1 a.2 a.3 ≡ release_of tallest t b.0
Meets (look t b d p) a = looked_as a ≡ look_of t b.0 d p
Meets (expand t b d l) a = expanded (no_of a.0) a.1 ≡ expand_of t b.0 d l
Meets (edit t b d p v) a = Fair cube_kids deepest t → made_of (cap t) a.0 a.1 a.2 a.3 ≡ edit_of t b.0 d p v
Meets (enter t b d k l) a = Fair cube_kids deepest t → made_of (cap t) a.0 a.1 a.2 a.3 ≡ enter_of t b.0 d k l
Meets (compare t x y d c l r) a = compared (answered a.0) a.1 a.2 a.3 ≡ compare_of t x.0 y.0 d c l r
Meets (check t) a = ((a.0 ≡ true) ↔ WellFormed cube_kids deepest t) × (a.1 ≡ t.nodes.facts)

-- on which tables it speaks: interning, release, edit and reading on those that are not sized or well formed, all others on any
abbrev pub Speaks : Asked → Type 0
Speaks (fresh c k f e) = Unit {0}
Speaks (hold t b) = Unit {0}
Speaks (counts t b) = Unit {0}
Speaks (leaf t v) = Fair cube_kids deepest t
Speaks (branch t ks) = Fair cube_kids deepest t
Speaks (release t b) = Fair cube_kids deepest t
Speaks (look t b d p) = Unit {0}
Speaks (expand t b d l) = Unit {0}
Speaks (edit t b d p v) = Fair cube_kids deepest t
Speaks (enter t b d k l) = Fair cube_kids deepest t
Speaks (compare t x y d c l r) = Unit {0}
Speaks (check t) = Unit {0}
