-- Two roots side by side: the cells in which they differ, and the pairs of ids that are opened. Over trees alone: n is the number of children of a node.
use Rattle.std.specs.Prelude.{Bool, true, false, List, [], ◌∷◌, ◌++◌, ℕ, zero, suc, ◌+◌, ◌/◌, ◌%◌, ◌^◌, eqb}
use Rattle.basics.specs.Pick.{pick}
use Rattle.basics.specs.Sums.{sum_to}
use Rattle.nodes.specs.Words.{Words}
use Rattle.tree.specs.Tree.{kind, empty, leaf, branch, look}
use Rattle.tree.specs.Anew.{part}

-- ## The differing cells

-- the cell of the path code c at depth d: its child numbers from the root down are the d digits of c to the base n, the highest first
unfoldable pub cell_of : ℕ → ℕ → ℕ → List ℕ
cell_of n zero c = []
cell_of n (suc d) c = c / n ^ d ∷ cell_of n d (c % n ^ d)

-- what lookup reads at a cell below a, in 16 bits. (Of well-formed tables a stored value has no more)
abbrev pub reads : Words → List ℕ → ℕ → ℕ
reads W p a = look W p a % 2 ^ 16

-- a differing cell: its path code, and what it holds on both sides
pub record Differs : Type 0 where
  pub code : ℕ
  pub left : ℕ
  pub right : ℕ

abbrev pub differs : ℕ → ℕ → ℕ → Differs
differs c u v = record { code = c; left = u; right = v }

-- the cell of code c, if it holds u on the left, v on the right, and these differ
unfoldable pub if_differs : ℕ → ℕ → ℕ → List Differs
if_differs c u v = pick (eqb u v) [] (differs c u v ∷ [])

-- f 0, then f 1, .., then f (m - 1)
unfoldable pub joined : {A : Type 0} → ℕ → (ℕ → List A) → List A
joined zero f = []
joined (suc m) f = joined m f ++ f m

-- the cells of depth d in which a and b differ, each once, in rising path code
unfoldable pub differing : ℕ → Words → ℕ → ℕ → ℕ → List Differs
differing n W d a b = joined (n ^ d) (λ c. if_differs c (reads W (cell_of n d c) a) (reads W (cell_of n d c) b))

-- ## The pairs opened

-- a branch other than EMPTY
unfoldable pub branches : ℕ → Bool
branches a = elim (kind a) [ empty _ ↦ false | leaf _ ↦ false | branch _ ↦ true ]

-- a pair is opened if its ids differ and at least one is a branch other than EMPTY
unfoldable pub opens : ℕ → ℕ → Bool
opens a b = pick (eqb a b) false (pick (branches a) true (branches b))

-- How many pairs are opened, starting with a and b: this one, and those at its n places; a leaf or EMPTY stands for its own n children. Of roots no taller than d nothing
-- below the cells of depth d could be opened: `opened_deeper`.
unfoldable pub opened : ℕ → Words → ℕ → ℕ → ℕ → ℕ
opened n W zero a b = 0
opened n W (suc d) a b = pick (opens a b) (1 + sum_to n (λ i. opened n W d (part W a i) (part W b i))) 0
