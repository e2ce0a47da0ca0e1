-- The exports for C that answer otherwise than the calls of the same names, in a record of their own or by the number of a refusal, with what they are handed,
-- and the contract of each as the source has it. (The contracts of the others are those of the calls: specs/Asked.antt)
use Rattle.std.specs.Prelude.{◌≡◌, List, ℕ, ℤ}
use Rattle.ids.specs.Ids as ids
use Rattle.ids_text.specs.Text.{id_text_of}
use Rattle.paths.specs.declared.IVec3.{IVec3}
use Rattle.paths.specs.Paths.{decoded_of, child_index_of}
use Rattle.arena.specs.declared.Counted.{Counted}
use Rattle.arena.specs.Tables.{Tables}
use Rattle.arena.specs.Calls.{counted, counts_of}
use Rattle.read_cell.specs.declared.Looked.{Looked}
use Rattle.read_cell.specs.Calls.{look_of, expanded, expand_of}
use Rattle.metres.specs.declared.ReadingFields.{ReadingFields}
use Rattle.metres.specs.Record.{reading_of, struct_of}
use Rattle.compare.specs.declared.Compared.{Compared}
use Rattle.compare.specs.Compare.{compared, compare_of}
use Rattle.capi_ids.specs.declared.Packed.{Packed}
use Rattle.capi_paths.specs.Cells.{position_at}
use Rattle.capi_paths.specs.declared.Cell.{Cell}
use Rattle.capi_paths.specs.declared.Child.{Child}
use Rattle.capi_paths.specs.declared.Text.{Text}

-- an export with its arguments, its ids as numbers; of those on an arena the tables t that are lent, of an expansion the cube l too, of a comparison the three
-- parts c, l and r of its list
pub data Export : Type 0 where
  new_leaf : (index generation : ℕ) → Export
  new_branch : (index generation types mask : ℕ) → Export
  decode : ℕ → Export
  child : (x y z : ℤ) → (level depth : ℕ) → Export
  text : ℕ → Export
  parse : List ℕ → Export
  counts : Tables → ℕ → Export
  look : Tables → ℕ → ℕ → IVec3 → Export
  expand : Tables → ℕ → ℕ → (l : List ℕ) → Export
  compare : Tables → (left right : ℕ) → ℕ → (c l r : List ℕ) → Export

-- what it answers, and what it can write of what is lent
abbrev pub ExportSaid : Export → Type 0
ExportSaid (new_leaf i g) = Packed
ExportSaid (new_branch i g y m) = Packed
ExportSaid (decode c) = Cell
ExportSaid (child x y z k d) = Child
ExportSaid (text raw) = Text
ExportSaid (parse l) = ReadingFields
ExportSaid (counts t b) = Counted
ExportSaid (look t b d p) = Looked
ExportSaid (expand t b d l) = ℕ × List ℕ
ExportSaid (compare t x y d c l r) = Compared × List ℕ × List ℕ × List ℕ

-- its contract
abbrev pub ExportMeets : (q : Export) → ExportSaid q → Type 0
ExportMeets (new_leaf i g) a = (a.no ≡ ids.packing_no g) × (a.id ≡ ids.new_leaf i g)
ExportMeets (new_branch i g y m) a = (a.no ≡ ids.packing_no g) × (a.id ≡ ids.new_branch i g y m)
ExportMeets (decode c) a = (a.no ≡ (decoded_of c).no) × (position_at a.x a.y a.z ≡ (decoded_of c).position)
ExportMeets (child x y z k d) a = (a.no ≡ (child_index_of (position_at x y z) k d).no) × (a.index ≡ (child_index_of (position_at x y z) k d).index)
ExportMeets (text raw) a = (a.bytes ≡ (id_text_of raw).bytes) × (a.len ≡ (id_text_of raw).len)
ExportMeets (parse l) a = a ≡ struct_of (reading_of l)
ExportMeets (counts t b) a = counted a ≡ counts_of t b
ExportMeets (look t b d p) a = a ≡ look_of t b d p
ExportMeets (expand t b d l) a = expanded a.0 a.1 ≡ expand_of t b d l
ExportMeets (compare t x y d c l r) a = compared a.0 a.1 a.2 a.3 ≡ compare_of t x y d c l r
