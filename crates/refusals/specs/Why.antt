-- What each number of the paths, of reading, of the edit, of a reading in metres and of a comparison says: given exactly if. (`Exactly`, `Full`: crates/ledger/specs/Refusals.antt;
-- `Malformed`, `Unending`, `Beyond` of a record: crates/metres/specs/Why.antt)
use Rattle.std.specs.Prelude.{◌≡◌, ◌≢◌, List, ℕ, ◌+◌, ◌^◌, ◌≤◌, ◌<◌, ℤ, pos, negsuc}
use Rattle.basics.specs.Limits.{deepest, deepest_cube, cube_kids, last_packed, finest_edge}
use Rattle.nodes.specs.Values.{height_at}
use Rattle.nodes.specs.Words.{Words}
use Rattle.paths.specs.declared.IVec3.{IVec3}
use Rattle.paths.specs.Paths.{place}
use Rattle.tree.specs.Cells.{At, Apart}
use Rattle.arena.specs.Tables.{Tables, W, Sized}
use Rattle.arena.specs.Calls.{free_slots}
use Rattle.ledger.specs.Fates.{Lives}
use Rattle.ledger.specs.Refusals.{Full}
use Rattle.edit.specs.Edit.{cell_at}
use Rattle.edit.specs.Promises.{Imagined, Missing}
use Rattle.metres.specs.Record.{kind_in, cells_at, aim_of}
use Rattle.metres.specs.Why.{Malformed, Unending, Beyond as RecordBeyond}
use Rattle.std.specs.declared.option.Option.TheVariants.{Some}
use Rattle.std.specs.declared.result.Result.TheVariants.{Ok}
use Rattle.readings.specs.Stops.{reached_of}
use Rattle.compare.specs.Promises.{shows}

-- 2: depth above the deepest; a child number asked at a level not below the depth
-- 3: a coordinate below 0 or at least 2^d; a path code of 2^30 or more
-- 4: an id is neither EMPTY nor live
-- 8: edit of a root taller than d; comparison of one
-- 9: expansion buffer not 8^d long
-- 12: packing with a generation above 0x7FFE
-- 15: more cells differ than the lent list holds

-- a coordinate below 0 or at least 2^d; a negative one is -1 - n
abbrev pub Outside : ℕ → ℤ → Type 0
Outside d (pos n) = 2 ^ d ≤ n
Outside d (negsuc n) = Unit {0}

-- one of the three is
pub data Beyond (d : ℕ) (p : IVec3) : Type 0 where
  at_x : Outside d p.x → Beyond d p
  at_y : Outside d p.y → Beyond d p
  at_z : Outside d p.z → Beyond d p

-- a number applies to packing with the generation g
pub data PackWhy (g : ℕ) : ℕ → Type 0 where
  late : last_packed < g → PackWhy g 12

-- a number applies to the inverse of a path code
pub data DecodeWhy (code : ℕ) : ℕ → Type 0 where
  long : 2 ^ 30 ≤ code → DecodeWhy code 3

-- a number applies to the child number of p at level k of depth d
pub data ChildWhy (p : IVec3) (k d : ℕ) : ℕ → Type 0 where
  deep_child : deepest < d → ChildWhy p k d 2
  level : d ≤ k → ChildWhy p k d 2
  beyond_child : Beyond d p → ChildWhy p k d 3

-- a number applies to a lookup below id, at depth d, of the cell p
pub data LookWhy (t : Tables) (id d : ℕ) (p : IVec3) : ℕ → Type 0 where
  unsized_look : (Sized t → ⊥) → LookWhy t id d p 1
  deep_look : deepest < d → LookWhy t id d p 2
  beyond_look : Beyond d p → LookWhy t id d p 3
  dead_look : id ≢ 0 → (Lives t id → ⊥) → LookWhy t id d p 4

-- a number applies to an expansion of id at depth d into a cube of n values
pub data ExpandWhy (t : Tables) (id d n : ℕ) : ℕ → Type 0 where
  unsized_expand : (Sized t → ⊥) → ExpandWhy t id d n 1
  deep_expand : deepest_cube < d → ExpandWhy t id d n 2
  dead_expand : id ≢ 0 → (Lives t id → ⊥) → ExpandWhy t id d n 4
  buffer : n ≢ 8 ^ d → ExpandWhy t id d n 9

-- a number applies to an edit of root at depth d, at the cell p, to the value v. 10: the result, in whatever arena it is imagined, is a node that lives
-- and already has 1,000,000 holds. 11: more nodes of the result are not live than there are free slots.
pub data EditWhy (t : Tables) (root d : ℕ) (p : IVec3) (v : ℕ) : ℕ → Type 0 where
  unsized_edit : (Sized t → ⊥) → EditWhy t root d p v 1
  deep_edit : deepest < d → EditWhy t root d p v 2
  beyond_edit : Beyond d p → EditWhy t root d p v 3
  dead_edit : root ≢ 0 → (Lives t root → ⊥) → EditWhy t root d p v 4
  tall_edit : d < height_at (W t) root → EditWhy t root d p v 8
  full_edit : (c : ℕ) (W' : Words) (r : ℕ) → Imagined cube_kids t root (cell_at d p) v c W' r → Lives t r → Full t r → EditWhy t root d p v 10
  crowded_edit : (k : ℕ) → Missing cube_kids t root (cell_at d p) v k → free_slots t.arena < k → EditWhy t root d p v 11

-- n applies to the edit of one of the cells that the record l asks for, those before it accepted
pub data StopsBy (t : Tables) (root d k : ℕ) (l : List ℕ) (n : ℕ) : Type 0 where
  at_cell : (first last y z v j : ℕ) → aim_of l k d ≡ Ok (Some (cells_at first last y z v)) → first + j ≤ last → (reached_of t root d y z first j v).no ≡ 0
      → EditWhy (reached_of t root d y z first j v).after (reached_of t root d y z first j v).id d (place (first + j) y z) v n → StopsBy t root d k l n

-- a number applies to entering the record l below the root, at depth d, with an edge of 2^-k metres; they are tested in the order 1, 2, 13, 14, 3, 4, 8, 10, 11.
-- A pause edits nothing: 8 and 11 don't apply to it, and 10 is that the root already has 1,000,000 holds.
pub data EnterWhy (t : Tables) (root d k : ℕ) (l : List ℕ) : ℕ → Type 0 where
  unsized_enter : (Sized t → ⊥) → EnterWhy t root d k l 1
  deep_enter : deepest < d → EnterWhy t root d k l 2
  fine_enter : finest_edge < k → EnterWhy t root d k l 2
  malformed_enter : Malformed l → EnterWhy t root d k l 13
  unending_enter : Unending l → EnterWhy t root d k l 14
  beyond_enter : RecordBeyond l k d → EnterWhy t root d k l 3
  dead_enter : root ≢ 0 → (Lives t root → ⊥) → EnterWhy t root d k l 4
  tall_enter : kind_in l ≢ 0 → d < height_at (W t) root → EnterWhy t root d k l 8
  full_pause : kind_in l ≡ 0 → Lives t root → Full t root → EnterWhy t root d k l 10
  full_cell : StopsBy t root d k l 10 → EnterWhy t root d k l 10
  crowded_cell : StopsBy t root d k l 11 → EnterWhy t root d k l 11

-- More than c cells of the cube of depth d differ, as lookup answers them below a and below b: the cells 0 to c, no two of which are one.
pub record MoreDiffer (d : ℕ) (t : Tables) (a b c : ℕ) : Type 0 where
  pub cell : ℕ → At d
  pub differ : (i : ℕ) → i ≤ c → shows t a (cell i) ≢ shows t b (cell i)
  pub apart : (i j : ℕ) → i < j → j ≤ c → Apart (cell i) (cell j)

-- a number applies to a comparison of a and b at depth d, with a list whose parts are c, l and r long
pub data CompareWhy (t : Tables) (a b d c l r : ℕ) : ℕ → Type 0 where
  unsized_compare : (Sized t → ⊥) → CompareWhy t a b d c l r 1
  uneven_lefts : l ≢ c → CompareWhy t a b d c l r 1
  uneven_rights : r ≢ c → CompareWhy t a b d c l r 1
  deep_compare : deepest < d → CompareWhy t a b d c l r 2
  dead_left : a ≢ 0 → (Lives t a → ⊥) → CompareWhy t a b d c l r 4
  dead_right : b ≢ 0 → (Lives t b → ⊥) → CompareWhy t a b d c l r 4
  tall_left : d < height_at (W t) a → CompareWhy t a b d c l r 8
  tall_right : d < height_at (W t) b → CompareWhy t a b d c l r 8
  overfull : MoreDiffer d t a b c → CompareWhy t a b d c l r 15
