-- All calls that change an arena, and what a caller may rely on over any sequence of them: demand 3, the plain cube, the ledger, old ids. The theorems are
-- in proofs/.
use Rattle.std.specs.Prelude.{◌≡◌, ◌≢◌, Bool, true, false, List, ℕ, suc, ◌+◌, ◌*◌, ◌/◌, ◌%◌, ◌^◌, ◌≤◌, ◌<◌, eqb, length, set}
use Rattle.std.proofs.Common.{mul-le-mul_right, div-lt_iff_lt-mul, mod-lt, arith, pow_pos}
use Rattle.basics.specs.Limits.{deepest, deepest_cube, cube_kids, kid_words, largest_value}
use Rattle.basics.specs.Pick.{pick}
use Rattle.nodes.specs.Values.{value_at, height_at}
use Rattle.nodes.specs.Tally.{occ}
use Rattle.paths.specs.declared.IVec3.{IVec3}
use Rattle.paths.specs.Paths.{inside, octant}
use Rattle.tree.specs.Tree.{Leaf, Branch, child_of}
use Rattle.tree.specs.Cells.{At, Apart}
use Rattle.arena.specs.Tables.{Tables, W, WellFormed}
use Rattle.arena.specs.Calls.{Out, intern_leaf_of, intern_branch_of, hold_of, release_of, counts_of}
use Rattle.ledger.specs.Ledger.{on, if_accepted}
use Rattle.ledger.specs.Fates.{Lives, ended}
use Rattle.calls.specs.Does.{There}
use Rattle.calls.specs.Cells.{spot, stands_at, Answers, Alike}
use Rattle.read_cell.specs.Calls.{look_of, expand_of}
use Rattle.edit.specs.Edit.{edit_no, edit_of}
use Rattle.edit.specs.Promises.{then, gives}
use Rattle.lists.specs.Changes as lists
use Rattle.compare.specs.Compare.{compare_of}
use Rattle.basics.specs.Bytes.{Bytes}
use Rattle.metres.specs.Record.{aim_of}
use Rattle.std.specs.declared.result.Result.TheVariants.{Err}
use Rattle.basics.specs.declared.Refusal.{Refusal}
use Rattle.readings.specs.Enter.{enter_of, enter_ends}

-- ## Calls

-- The calls that change an arena. Intern a leaf of a value, intern a branch of its children's ids, hold an id, release an id, and edit a root at a depth: at a
-- position, to a value.
pub data Call : Type 0 where
  leaf : ℕ → Call
  branch : List ℕ → Call
  hold : ℕ → Call
  release : ℕ → Call
  voxel : ℕ → ℕ → IVec3 → ℕ → Call

-- what can be handed to a call: a 16-bit value, the ids of the children
abbrev pub Handed : Call → Type 0
Handed (leaf v) = v ≤ largest_value
Handed (branch ks) = length ks ≡ kid_words
Handed (hold b) = Unit
Handed (release b) = Unit
Handed (voxel b e p v) = v ≤ largest_value

-- what it answers and leaves
abbrev pub outcome : Tables → Call → Out
outcome t (leaf v) = intern_leaf_of t v
outcome t (branch ks) = intern_branch_of cube_kids deepest t ks
outcome t (hold b) = hold_of t b
outcome t (release b) = release_of deepest t b
outcome t (voxel b e p v) = edit_of t b e p v

-- the holds on y that it grants: one on the node that interning or an edit answers, or that is held
abbrev pub grants : Out → Call → ℕ → ℕ
grants o (leaf v) y = if_accepted o (on y o.id)
grants o (branch ks) y = if_accepted o (on y o.id)
grants o (hold b) y = if_accepted o (on y b)
grants o (release b) y = 0
grants o (voxel b e p v) y = if_accepted o (on y o.id)

-- the holds on y that it takes: used up, one for each child place that isn't EMPTY, or returned
abbrev pub takes_of : Out → Call → ℕ → ℕ
takes_of o (leaf v) y = 0
takes_of o (branch ks) y = if_accepted o (pick (eqb y 0) 0 (occ y ks))
takes_of o (hold b) y = 0
takes_of o (release b) y = if_accepted o (on y b)
takes_of o (voxel b e p v) y = 0

-- One call, or one reading entered, accepted or refused: it grants one hold on its answer, and its bar may recycle a slot more than once. `History Step t granted
-- taken` are the tables that these have reached since a fresh arena, and `Since Step t u granted taken times` those that they have reached from t on.
pub data Step : Tables → Tables → (ℕ → ℕ) → (ℕ → ℕ) → (ℕ → ℕ) → Type 0 where
  call : {t : Tables} (c : Call) → Handed c
      → Step t (outcome t c).after (λ y. grants (outcome t c) c y) (λ y. takes_of (outcome t c) c y) (λ s. ended t (outcome t c).after s)
  entry : {t : Tables} (b e k : ℕ) (l : List ℕ) → Bytes l
      → Step t (enter_of t b e k l).after (λ y. if_accepted (enter_of t b e k l) (on y (enter_of t b e k l).id)) (λ y. 0) (λ s. enter_ends t b e k l s)

-- ## Demand 3: two edits in both orders

-- a call that is no release
abbrev pub NoRelease : Call → Type 0
NoRelease (leaf v) = Unit
NoRelease (branch ks) = Unit
NoRelease (hold b) = Unit
NoRelease (release b) = ⊥
NoRelease (voxel b e p v) = Unit

-- From t to u nothing is released: u is t itself, or what any calls from t on leave, accepted or refused, none of them a release.
pub data Unreleased : Tables → Tables → Type 0 where
  none : {t : Tables} → Unreleased t t
  and : {t u : Tables} (c : Call) → Handed c → NoRelease c → Unreleased (outcome t c).after u → Unreleased t u

-- Both ends are the same id, whose cube is the old one with those two cells changed, as lookup answers and as expansion writes (into lent lists l and m).
pub record BothOrders (d : ℕ) (t₀ : Tables) (root : ℕ) (p : At d) (i : ℕ) (q : At d) (j : ℕ) (t₄ : Tables) (r₂ r₄ : ℕ) : Type 0 where
  pub one : r₂ ≡ r₄
  pub at_p : Answers t₄ r₄ p i
  pub at_q : Answers t₄ r₄ q j
  pub elsewhere : (s : At d) → Apart s p → Apart s q → Alike t₄ r₄ t₀ root s
  pub cube : d ≤ deepest_cube → (l m : List ℕ) → length l ≡ 8 ^ d → length m ≡ 8 ^ d
      → (expand_of t₄ r₄ d l).cube ≡ set (set (expand_of t₀ root d m).cube (stands_at p) i) (stands_at q) j

-- ## Plain cubes of numbers

abbrev pub Cube : ℕ → Type 0
Cube d = At d → ℕ

-- the same cell
unfoldable pub same_at : {d : ℕ} → At d → At d → Bool
same_at c s = pick (eqb c.x s.x) (pick (eqb c.y s.y) (eqb c.z s.z) false) false

-- the cube with one cell changed
abbrev pub changed : {d : ℕ} → Cube d → At d → ℕ → Cube d
changed F c v = lists.changed same_at F c v

-- ## A cube at another depth

-- a coordinate of depth e, scaled, is inside the cube of depth d
pub scaled_in : (d e x : ℕ) → x < 2 ^ e → x * 2 ^ d / 2 ^ e < 2 ^ d
scaled_in d e x h =
    (div-lt_iff_lt-mul (pow_pos e)).1
    (let m : suc x * 2 ^ d ≤ 2 ^ e * 2 ^ d = mul-le-mul_right (2 ^ d) h in let p : 0 < 2 ^ d = pow_pos d in omega arith)

-- the cell of depth d in which the first corner of the cell c of depth e lies: its block at a smaller depth, the first of its cells at a greater one
-- (x / 2^k at a depth smaller by k, x * 2^k at a depth greater by k: `onto_block`, `onto_first`)
abbrev pub onto : (d : ℕ) {e : ℕ} → At e → At d
onto d {e} c = record {
  x = c.x * 2 ^ d / 2 ^ e;
  y = c.y * 2 ^ d / 2 ^ e;
  z = c.z * 2 ^ d / 2 ^ e;
  in_x = scaled_in d e c.x c.in_x;
  in_y = scaled_in d e c.y c.in_y;
  in_z = scaled_in d e c.z c.in_z;
}

-- The cube F of depth d as it is at depth e. At a greater depth each number stands in a block of equal ones, 2^(e-d) long on each side; at a smaller one
-- a block shows its first number. (Of a root no taller than e the whole block has that number: `plain_blocks`.)
abbrev pub scaled : (e : ℕ) {d : ℕ} → Cube d → Cube e
scaled e {d} F c = F (onto d c)

-- the cell c of depth d + k lies in the cell b of depth d
abbrev pub Within : {d : ℕ} (k : ℕ) → At (d + k) → At d → Type 0
Within k c b = (c.x / 2 ^ k ≡ b.x) × (c.y / 2 ^ k ≡ b.y) × (c.z / 2 ^ k ≡ b.z)

-- ## A cube of eight octants

-- where the cell c lies in its octant
abbrev pub in_octant : {d : ℕ} → At (suc d) → At d
in_octant {d} c = record {
  x = c.x % 2 ^ d;
  y = c.y % 2 ^ d;
  z = c.z % 2 ^ d;
  in_x = mod-lt c.x (pow_pos d);
  in_y = mod-lt c.y (pow_pos d);
  in_z = mod-lt c.z (pow_pos d);
}

-- the cube whose octants are F 0, .., F 7
abbrev pub joined : {d : ℕ} → (ℕ → Cube d) → Cube (suc d)
joined {d} F c = F (octant d c.x c.y c.z) (in_octant c)

-- ## The plain cube

-- In the tables t the root a stands for the cube F of depth d:
pub data Stands : (d : ℕ) → Tables → ℕ → Cube d → Type 0 where
  -- EMPTY for zeros;
  empty : {d : ℕ} {t : Tables} → WellFormed cube_kids deepest t → Stands d t 0 (λ s. 0)
  -- a leaf for its value throughout;
  solid : {d : ℕ} {t : Tables} {a : ℕ} → WellFormed cube_kids deepest t → Lives t a → Leaf a → Stands d t a (λ s. value_at (W t) a)
  -- a branch for its eight children's cubes as octants;
  octants : {d : ℕ} {t : Tables} {a : ℕ} → Lives t a → Branch a → (F : ℕ → Cube d) → ((i : ℕ) → i < cube_kids → Stands d t (child_of (W t) a i) (F i))
      → Stands (suc d) t a (joined F)
  -- the answer of an accepted edit for the old root's cube with one cell changed;
  edit : {d : ℕ} {t : Tables} {a : ℕ} {F : Cube d} (c : At d) (v : ℕ) → v ≤ largest_value → edit_no t a d (spot c) v ≡ 0 → Stands d t a F
      → Stands d (then t a c v) (gives t a c v) (changed F c v)
  -- a root that is there after a call, accepted or refused, for the cube that it stood for before the call;
  other : {d : ℕ} {t : Tables} {a : ℕ} {F : Cube d} (c : Call) → Handed c → There (outcome t c).after a → Stands d t a F → Stands d (outcome t c).after a F
  -- and at every depth no less than its height for the same cube, scaled.
  scale : {d : ℕ} {t : Tables} {a : ℕ} {F : Cube d} (e : ℕ) → height_at (W t) a ≤ e → Stands d t a F → Stands e t a (scaled e F)

-- ## Old ids

-- a depth, and a position inside its cube: refusals 2 and 3 do not apply
abbrev pub Inside : ℕ → IVec3 → Type 0
Inside d p = (d ≤ deepest) × (inside d p.x ≡ true) × (inside d p.y ≡ true) × (inside d p.z ≡ true)

-- refused with a number up to 4, and with 4 itself where no lower number applies
abbrev pub ByFour : ℕ → Type 0 → Type 0
ByFour k fit = (1 ≤ k) × (k ≤ 4) × (fit → k ≡ 4)

-- the record is not refused by itself: with 2, 13, 14 or 3
abbrev pub Asks : List ℕ → ℕ → ℕ → Type 0
Asks l k d = (refusal : Refusal) → aim_of l k d ≡ Err refusal → ⊥

-- a depth, and the parts of a list equally long: refusal 2 does not apply, nor 1 for the list
abbrev pub Comparable : ℕ → List ℕ → List ℕ → List ℕ → Type 0
Comparable d c l r = (d ≤ deepest) × (length l ≡ length c) × (length r ≡ length c)

-- Every call that is handed the id refuses it; a comparison on either side.
pub record Refused (t : Tables) (y : ℕ) : Type 0 where
  pub hold : (hold_of t y).no ≡ 4
  pub release : (release_of deepest t y).no ≡ 4
  pub counts : (counts_of t y).no ≡ 4
  pub child : (ks : List ℕ) → 1 ≤ occ y ks → (intern_branch_of cube_kids deepest t ks).no ≡ 4
  pub lookup : (d : ℕ) (p : IVec3) → ByFour (look_of t y d p).no (Inside d p)
  pub expansion : (d : ℕ) (l : List ℕ) → ByFour (expand_of t y d l).no (d ≤ deepest_cube)
  pub edit : (d : ℕ) (p : IVec3) (v : ℕ) → ByFour (edit_of t y d p v).no (Inside d p)
  pub reading : (d k : ℕ) (l : List ℕ) → Bytes l → ((enter_of t y d k l).no ≢ 0) × (Asks l k d → (enter_of t y d k l).no ≡ 4)
  pub comparison : (b d : ℕ) (c l r : List ℕ)
      → ByFour (compare_of t y b d c l r).no (Comparable d c l r) × ByFour (compare_of t b y d c l r).no (Comparable d c l r)
