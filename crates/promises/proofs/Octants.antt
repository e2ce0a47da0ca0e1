-- A leaf shows its value throughout, and a branch its children's cubes as octants.
use mathlib.Core.Path.{◌≡◌, ap, ◌∙◌}
use mathlib.Core.Logic.{inr}
use mathlib.Core.List.{List, ◌∷◌}
use Prim.Native.Nat.{ℕ, zero, suc, ◌%◌, ◌^◌, ◌≤◌, ◌<◌}
use native.Mathlib.Omega.{arith}
use Rattle.basics.specs.Limits.{deepest, cube_kids}
use Rattle.nodes.specs.Values.{value_at, height_at, max_to}
use Rattle.paths.specs.Paths.{octant}
use Rattle.paths.proofs.Bits.{bit_mod}
use Rattle.tree.specs.Tree.{Leaf, Branch, look, child_of}
use Rattle.tree.specs.Cells.{path_by, cube_path, way}
use Rattle.tree.proofs.Canon.{look_flat, look_branch, flat_low}
use Rattle.tree.proofs.CellLaws.{path_cong}
use Rattle.arena.specs.Tables.{Tables, cap, W, WellFormed}
use Rattle.ledger.specs.Fates.{Lives}
use Rattle.read_cell.proofs.Meaning.{wf_made}
use Rattle.promises.specs.Promises.{Cube, in_octant, joined}
use Rattle.promises.proofs.Shows.{Shows}

pub solid_shows : (d : ℕ) {t : Tables} (a : ℕ) → WellFormed cube_kids deepest t → Lives t a → Leaf a → Shows d t a (λ s. value_at (W t) a)
solid_shows d {t} a w l f = record {
  well = w;
  there = inr l;
  low = (let e = flat_low cube_kids (cap t) (W t) (wf_made (omega arith) w) a (inr l) (inr f) in omega arith);
  cells = λ c. look_flat (W t) (way c) a (inr f);
}

max_under : (n : ℕ) (f : ℕ → ℕ) (d : ℕ) → ((i : ℕ) → i < n → f i ≤ d) → max_to n f ≤ d
unfolding max_to
max_under zero f d h = omega arith
max_under (suc n) f d h = let a = max_under n f d (λ i k. h i (omega arith)) in let b = h n (omega arith) in omega arith

octant_low : (d x y z b : ℕ) → b < d → octant b x y z ≡ octant b (x % 2 ^ d) (y % 2 ^ d) (z % 2 ^ d)
unfolding octant
octant_low d x y z b h = cc (bit_mod d b x h, bit_mod d b y h, bit_mod d b z h)

-- the first child number of a cell, and the rest of its path
path_first : (d x y z : ℕ) → cube_path (suc d) x y z ≡ octant d x y z ∷ cube_path d (x % 2 ^ d) (y % 2 ^ d) (z % 2 ^ d)
unfolding path_by
path_first d x y z =
    ap (λ (l : List ℕ). octant d x y z ∷ l) (path_cong (λ b. octant b x y z) (λ b. octant b (x % 2 ^ d) (y % 2 ^ d) (z % 2 ^ d)) d (octant_low d x y z))

octant_lt : (d x y z : ℕ) → octant d x y z < cube_kids
unfolding octant
octant_lt d x y z = omega arith

pub octants_show : (d : ℕ) (t : Tables) (a : ℕ) → Lives t a → Branch a → (F : ℕ → Cube d) → ((i : ℕ) → i < cube_kids → Shows d t (child_of (W t) a i) (F i))
    → Shows (suc d) t a (joined F)
octants_show d t a l b F s =
    let w = (s 0 (omega arith)).well in
    record {
      well = w;
      there = inr l;
      low =
          (let e = ((wf_made (omega arith) w).branches a l b).tall in
          let m = max_under cube_kids (λ i. height_at (W t) (child_of (W t) a i)) d (λ i h. (s i h).low) in
          omega arith);
      cells = λ c.
          let o = octant d c.x c.y c.z in
          ap (λ (p : List ℕ). look (W t) p a) (path_first d c.x c.y c.z)
          ∙ look_branch (W t) o (way (in_octant c)) a b
          ∙ (s o (octant_lt d c.x c.y c.z)).cells (in_octant c);
    }
