-- The walk down a path: the id a is reached, at a level.
use Prim.Native.Nat.{ℕ, suc, ◌+◌, ◌-◌, ◌≤◌, ◌<◌}
use native.Mathlib.Omega.{arith}
use mathlib.Core.Path.{◌≡◌, ◌∙◌, refl, sym, ap}
use mathlib.Core.Bool.{Bool, true, false}
use mathlib.Core.List.{List, [], ◌∷◌}
use borrow.Author.Tests.{le-leb, lt-leb}
use Rattle.basics.specs.Limits.{deepest}
use Rattle.basics.proofs.Rungs.{rung_yes, rung_no}
use Rattle.ids.specs.Ids.{invalid}
use Rattle.nodes.specs.Words.{Words, slot}
use Rattle.paths.specs.declared.Cell.{Cell}
use Rattle.paths.specs.Paths.{octant}
use Rattle.tree.specs.Cells.{path_by, cube_path, path_to}
use Rattle.read_cell.specs.declared.End.{End}
use Rattle.read_cell.specs.Reading.{end_at, descent, end_of}
use Rattle.ids.specs.Ids.{is_end}
use Rattle.read_cell.proofs.Ends.{descent_end, descent_stop, descent_on}

stops : (W : Words) (k : ℕ) (p : List ℕ) (a : ℕ) → is_end a ≡ true → descent W k p a ≡ end_at a k
stops W k [] a e = descent_end W k a
stops W k (c ∷ p) a e = descent_stop W k c p a e

-- the last n levels of the path to the cell
abbrev last : Cell → ℕ → List ℕ
last c n = cube_path n c.x c.y c.z

module _ (W : Words) (c : Cell) (id : ℕ) where
  abbrev pub Walked : ℕ → ℕ → Type 0
  Walked level a = descent W 0 (path_to c) id ≡ descent W level (last c (c.depth - level)) a

  pub walk_none : deepest < c.depth → end_at invalid 0 ≡ end_of W id c
  unfolding end_of
  walk_none h = rung_no _ _ _ _ (lt-leb c.depth deepest h) refl

  walk_is : (e : End) → c.depth ≤ deepest → e ≡ descent W 0 (path_to c) id → e ≡ end_of W id c
  unfolding end_of
  walk_is e h k = rung_yes _ _ _ e (le-leb c.depth deepest h) k

  pub walk_start : Walked 0 id
  walk_start = let e : c.depth ≡ c.depth - 0 = omega arith in ap (λ (k : ℕ). descent W 0 (last c k) id) e

  module _ (level a : ℕ) (k : Walked level a) where
    pub walk_stop : (t : Bool) → c.depth ≤ deepest → t ≡ is_end a → t ≡ true → end_at a level ≡ end_of W id c
    walk_stop t l e u = walk_is (end_at a level) l (sym (k ∙ stops W level (last c (c.depth - level)) a (sym e ∙ u)))

    pub walk_end : c.depth ≤ deepest → c.depth ≤ level → level ≤ c.depth → end_at a c.depth ≡ end_of W id c
    unfolding path_by
    walk_end l h g =
        let q : c.depth - level ≡ 0 = omega arith in
        let m : c.depth ≡ level = omega arith in
        walk_is (end_at a c.depth) l
        (ap (end_at a) m ∙ sym (k ∙ ap (λ (i : ℕ). descent W level (last c i) a) q ∙ descent_end W level a))

    pub walk_on : (b s o : ℕ) (t : Bool) → level < c.depth → t ≡ is_end a → t ≡ false → s ≡ slot a → o ≡ octant (c.depth - 1 - level) c.x c.y c.z
        → b ≡ W s o → Walked (level + 1) b
    unfolding path_by
    walk_on b s o t h e u es eo eb =
        let n : ℕ = c.depth - 1 - level in
        let q : c.depth - level ≡ suc n = omega arith in
        let m : n ≡ c.depth - (level + 1) = omega arith in
        let j : b ≡ W (slot a) (octant n c.x c.y c.z) = eb ∙ ap (λ (x : ℕ). W x o) es ∙ ap (W (slot a)) eo in
        k ∙ ap (λ (x : ℕ). descent W level (last c x) a) q
        ∙ descent_on W level (octant n c.x c.y c.z) (last c n) a (sym e ∙ u)
        ∙ ap (λ (x : ℕ). descent W (level + 1) (last c x) (W (slot a) (octant n c.x c.y c.z))) m
        ∙ ap (descent W (level + 1) (last c (c.depth - (level + 1)))) (sym j)
