-- What an edit makes, level by level, as document 01 says it. Definitions only.
use Rattle.std.specs.Prelude.{◌≡◌, ◌≢◌, List, [], ◌∷◌, ℕ, ◌<◌}
use Rattle.std.proofs.Math.Decide.{ℕ_discrete}
use Rattle.nodes.specs.Words.{Words}
use Rattle.nodes.specs.Tally.{Live}
use Rattle.tree.specs.Tree.{EMPTY, Leaf, Branch, kind, empty, leaf, branch, child_of, look}
use Rattle.nodes.specs.Values.{value_at}

-- the part number i of an id: a child of a branch; a leaf, and EMPTY, stands for n of itself
unfoldable pub part : Words → ℕ → ℕ → ℕ
part W a i = elim (kind a) [ empty _ ↦ EMPTY | leaf _ ↦ a | branch _ ↦ child_of W a i ]

-- the parts f, with number c replaced by s
unfoldable pub replace : (ℕ → ℕ) → ℕ → ℕ → ℕ → ℕ
replace f c s i = elim (ℕ_discrete i c) [ yes _ ↦ s | no _ ↦ f i ]

-- every part is c
abbrev pub All : ℕ → (ℕ → ℕ) → ℕ → Type 0
All n f c = (i : ℕ) → i < n → f i ≡ c

-- the parts are neither n EMPTY nor n times one leaf
pub record Mixed (n : ℕ) (f : ℕ → ℕ) : Type 0 where
  pub not_empty : ¬ (All n f EMPTY)
  pub not_leaf : (l : ℕ) → Leaf l → ¬ (All n f l)

-- r is the live branch that has the parts for children
pub record Has (n cap : ℕ) (W : Words) (f : ℕ → ℕ) (r : ℕ) : Type 0 where
  pub live : Live cap W r
  pub is_branch : Branch r
  pub kids : (i : ℕ) → i < n → child_of W r i ≡ f i

-- r is the live leaf of value x
pub record HasValue (cap : ℕ) (W : Words) (x r : ℕ) : Type 0 where
  pub live : Live cap W r
  pub is_leaf : Leaf r
  pub value : value_at W r ≡ x

-- In W, r is what the n parts f make: n EMPTY make EMPTY, n times one leaf make that leaf, and any others the
-- live branch that has them for children.
pub data Makes (n cap : ℕ) (W : Words) (f : ℕ → ℕ) (r : ℕ) : Type 0 where
  nothing : All n f EMPTY → r ≡ EMPTY → Makes n cap W f r
  whole : Leaf r → All n f r → Makes n cap W f r
  node : Mixed n f → Has n cap W f r → Makes n cap W f r

-- In W, r is what a becomes when the cell p below it is made anew with the value x, leaf first and upward.
pub data Anew (n cap : ℕ) (W : Words) (x : ℕ) : List ℕ → ℕ → ℕ → Type 0 where
  gone : {a r : ℕ} → x ≡ 0 → r ≡ EMPTY → Anew n cap W x [] a r
  set : {a r : ℕ} → x ≢ 0 → HasValue cap W x r → Anew n cap W x [] a r
  step : {c : ℕ} {p : List ℕ} {a s r : ℕ} → Anew n cap W x p (part W a c) s → Makes n cap W (replace (part W a) c s) r
      → Anew n cap W x (c ∷ p) a r

-- The answer of an edit, W before it and W' after it: the old root if the cell has the value already, else made
-- anew.
pub data Answer (n cap : ℕ) (W W' : Words) (root : ℕ) (p : List ℕ) (x r : ℕ) : Type 0 where
  asked : look W p root ≡ x → r ≡ root → Answer n cap W W' root p x r
  made : look W p root ≢ x → Anew n cap W' x p root r → Answer n cap W W' root p x r
