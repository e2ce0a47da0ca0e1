-- What document 01 says of nodes and of reading, over the words of the slots: ids, well made, tidy, lookup, sameness.
-- `n` is the number of children of a node (8 for cubes), `cap` the capacity of the arena, `W s f` the word f of the slot s.
use Rattle.std.specs.Prelude.{◌≡◌, refl, ◌≢◌, ◌⊎◌, List, [], ◌∷◌, ℕ, zero, suc, ◌^◌, ◌≤◌, ◌<◌}
use Rattle.std.proofs.Math.Decide.{dec_le}
use Rattle.std.proofs.Common.{arith}
use Rattle.basics.specs.Sums.{average}
use Rattle.nodes.specs.Values.{value_at, height_at, max_to}
use Rattle.nodes.specs.Words.{Words, slot}
use Rattle.nodes.specs.Tally.{Live}

-- ## Ids

-- raw 0
abbrev pub EMPTY : ℕ
EMPTY = 0

-- bit 63 is set
abbrev pub Leaf : ℕ → Type 0
Leaf a = 2 ^ 63 ≤ a

abbrev pub Branch : ℕ → Type 0
Branch a = (a ≢ EMPTY) × (a < 2 ^ 63)

-- an id is one of the three
pub data Kind (a : ℕ) : Type 0 where
  empty : a ≡ EMPTY → Kind a
  leaf : Leaf a → Kind a
  branch : Branch a → Kind a

unfoldable pub kind : (a : ℕ) → Kind a
kind zero = empty refl
kind (suc a) = elim (dec_le (2 ^ 63) (suc a)) [ yes h ↦ leaf h | no h ↦ branch (omega arith) ]

-- a leaf or EMPTY
abbrev pub Flat : ℕ → Type 0
Flat a = (a ≡ EMPTY) ⊎ Leaf a

-- EMPTY or live
abbrev pub LiveOr0 : ℕ → Words → ℕ → Type 0
LiveOr0 cap W a = (a ≡ EMPTY) ⊎ Live cap W a

-- ## Its children

abbrev pub child_of : Words → ℕ → ℕ → ℕ
child_of W a i = W (slot a) i

-- ## Well made: the part of well formed that speaks of content

-- two ids have the same children
abbrev pub SameKids : ℕ → Words → ℕ → Words → ℕ → Type 0
SameKids n W a W' b = (i : ℕ) → i < n → child_of W a i ≡ child_of W' b i

-- every child place of a names c
abbrev pub AllKids : ℕ → Words → ℕ → ℕ → Type 0
AllKids n W a c = (i : ℕ) → i < n → child_of W a i ≡ c

-- a leaf has a value other than 0, and height 0
pub record LeafMade (W : Words) (a : ℕ) : Type 0 where
  pub something : value_at W a ≢ 0
  pub flat : height_at W a ≡ 0

-- a branch has n children, EMPTY or live, not all EMPTY; its stored value is the sum of the children's stored values divided by n, rounded
-- down, EMPTY counting 0; its height is one more than its tallest child's
pub record BranchMade (n cap : ℕ) (W : Words) (a : ℕ) : Type 0 where
  pub kids : (i : ℕ) → i < n → LiveOr0 cap W (child_of W a i)
  pub not_all_empty : ¬ (AllKids n W a EMPTY)
  pub averaged : value_at W a ≡ average n (λ i. value_at W (child_of W a i))
  pub tall : height_at W a ≡ suc (max_to n (λ i. height_at W (child_of W a i)))

pub record WellMade (n cap : ℕ) (W : Words) : Type 0 where
  pub leaves : (a : ℕ) → Live cap W a → Leaf a → LeafMade W a
  pub branches : (a : ℕ) → Live cap W a → Branch a → BranchMade n cap W a
  -- no two live nodes have equal content
  pub one_leaf : (a b : ℕ) → Live cap W a → Live cap W b → Leaf a → Leaf b → value_at W a ≡ value_at W b → a ≡ b
  pub one_branch : (a b : ℕ) → Live cap W a → Live cap W b → Branch a → Branch b → SameKids n W a W b → a ≡ b

-- ## Tidy

-- b is a itself, or a child of a branch that is at or below a
pub data Below (n : ℕ) (W : Words) : ℕ → ℕ → Type 0 where
  self : {a : ℕ} → Below n W a a
  under : {a b : ℕ} (i : ℕ) → Branch a → i < n → Below n W (child_of W a i) b → Below n W a b

-- no branch at or below a has n times the same leaf
abbrev pub Tidy : ℕ → Words → ℕ → Type 0
Tidy n W a = (b : ℕ) → Below n W a b → Branch b → (l : ℕ) → Leaf l → ¬ (AllKids n W b l)

-- ## Reading

-- a cell of depth d, as the list of its d child numbers from the root down
pub data Cell (n : ℕ) : ℕ → List ℕ → Type 0 where
  here : Cell n 0 []
  down : {d c : ℕ} {p : List ℕ} → c < n → Cell n d p → Cell n (suc d) (c ∷ p)

-- lookup goes down until EMPTY (0), a leaf (its value), or the end of the path (the stored value, which for a branch may be 0)
unfoldable pub look : Words → List ℕ → ℕ → ℕ
look W [] a = value_at W a
look W (c ∷ p) a = elim (kind a) [ empty _ ↦ 0 | leaf _ ↦ value_at W a | branch _ ↦ look W p (child_of W a c) ]

-- a in W and b in W' show the same cube at depth d
abbrev pub SameCube : ℕ → ℕ → Words → ℕ → Words → ℕ → Type 0
SameCube n d W a W' b = (p : List ℕ) → Cell n d p → look W p a ≡ look W' p b

-- EMPTY or a live root, tidy, no taller than the depth
pub record Root (n cap d : ℕ) (W : Words) (a : ℕ) : Type 0 where
  pub there : LiveOr0 cap W a
  pub tidy : Tidy n W a
  pub low : height_at W a ≤ d

-- ## From one state of the tables, W, to a later one, W'

-- the node a is live later too, with the same content
pub record Same (n cap : ℕ) (W W' : Words) (a : ℕ) : Type 0 where
  pub still : Live cap W' a
  pub kids : SameKids n W a W' a
  pub value : value_at W a ≡ value_at W' a
  pub height : height_at W a ≡ height_at W' a

-- every live node stays as it is: interning, hold and edit do this
abbrev pub Extends : ℕ → ℕ → Words → Words → Type 0
Extends n cap W W' = (a : ℕ) → Live cap W a → Same n cap W W' a

-- every live node at or below a stays as it is: any call does this for an a that someone holds
abbrev pub Keeps : ℕ → ℕ → Words → Words → ℕ → Type 0
Keeps n cap W W' a = (b : ℕ) → Below n W a b → Live cap W b → Same n cap W W' b
