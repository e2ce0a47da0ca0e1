-- Plain cubes. At a depth no less than its height a root is a plain cube: every path ends at EMPTY or a leaf. At a smaller depth some path ends
-- at a branch, whose stored average is read.
use Prim.Native.Nat.{ℕ, zero, suc, ◌+◌, ◌/◌, ◌%◌, ◌^◌, ◌≤◌, ◌<◌}
use native.Mathlib.Nat.{mod-eq_of_lt}
use native.Mathlib.Decide.{ℕ_discrete, dec_le}
use native.Mathlib.Omega.{arith}
use mathlib.Core.Path.{◌≡◌, ◌∙◌, sym, ap}
use mathlib.Core.Logic.{inl, inr}
use mathlib.Core.List.{List, [], ◌∷◌, ◌++◌}
use borrow.Author.Tests.{eq-eqb, ne_eqb}
use lib.Pow.{shr-shr}
use Rattle.basics.specs.Sums.{average}
use Rattle.nodes.specs.Words.{Words, value, slot}
use Rattle.nodes.specs.Tally.{Live}
use Rattle.nodes.proofs.Sums.{cases}
use Rattle.tree.specs.Tree.{Branch, Kind, empty, leaf, branch, kind, LiveOr0, child_of, WellMade, Cell, here, down, look, Flat}
use Rattle.nodes.specs.Values.{value_at, height_at, max_to}
use Rattle.tree.specs.Cells.{path_by, cube_path}
use Rattle.paths.specs.Paths.{octant}
use Rattle.tree.proofs.Canon.{live, kid_lower, low_flat, flat_low, look_deeper}
use Rattle.tree.proofs.CellLaws.{path_cong, cube_cell}
use Rattle.read_cell.specs.Reading.{read_at, descent}
use Rattle.read_cell.proofs.Ends.{ends_empty, ends_leaf, ends_not, look_descent, descent_end, descent_stop, descent_on}

-- ---- 16 bits are enough where every stored value has no more

value_small : (W : Words) → ((s : ℕ) → W s value < 2 ^ 16) → (a : ℕ) → value_at W a < 2 ^ 16
unfolding value_at
value_small W h a = cases (ℕ_discrete a 0) (λ e. rw (eq-eqb a 0 e) (omega arith)) (λ e. rw (ne_eqb a 0 e) (h (slot a)))

pub cell_whole : (W : Words) → ((s : ℕ) → W s value < 2 ^ 16) → (d id x y z : ℕ) → read_at W d id x y z ≡ look W (cube_path d x y z) id
cell_whole W h d id x y z =
    mod-eq_of_lt (rw (look_descent W 0 (cube_path d x y z) id) (value_small W h (descent W 0 (cube_path d x y z) id).id.0))

-- ---- a deeper path, from its first levels

path_deeper : (f : ℕ → ℕ) (d e : ℕ) → path_by f (d + e) ≡ path_by (λ b. f (b + e)) d ++ path_by f e
unfolding path_by
path_deeper f zero e = let q : 0 + e ≡ e = omega arith in ap (path_by f) q
path_deeper f (suc d) e =
    let q : suc d + e ≡ suc (d + e) = omega arith in
    ap (path_by f) q ∙ ap (λ (t : List ℕ). f (d + e) ∷ t) (path_deeper f d e)

octant_higher : (x y z e b : ℕ) → octant (b + e) x y z ≡ octant b (x / 2 ^ e) (y / 2 ^ e) (z / 2 ^ e)
unfolding octant
octant_higher x y z e b = cc (one x, one y, one z)
  where
    one : (i : ℕ) → i / 2 ^ (b + e) ≡ i / 2 ^ e / 2 ^ b
    one i = let c : b + e ≡ e + b = omega arith in ap (λ (j : ℕ). i / 2 ^ j) c ∙ sym (shr-shr i e b)

-- ---- the largest of some numbers is one of them

max_one : (n : ℕ) (f : ℕ → ℕ) → 0 < max_to n f → (i : ℕ) × (i < n) × (max_to n f ≤ f i)
unfolding max_to
max_one zero f h = absurd (omega arith)
max_one (suc n) f h =
    cases (dec_le (max_to n f) (f n))
    (λ k. (n, omega arith, omega arith))
    (λ k. let r = max_one n f (omega arith) in (r.0, omega (arith, r.1), omega (arith, r.2)))

module _ (cap : ℕ) (W : Words) (w : WellMade 8 cap W) where
  -- ---- no less than the height

  plain_step : (d k a c : ℕ) (p : List ℕ) → LiveOr0 cap W a → height_at W a ≤ suc d → c < 8
      → ((b : ℕ) → LiveOr0 cap W b → height_at W b ≤ d → Flat (descent W (k + 1) p b).id.0) → Flat (descent W k (c ∷ p) a).id.0
  plain_step d k a c p l h m ih = go (kind a)
    where
      go : Kind a → Flat (descent W k (c ∷ p) a).id.0
      go (empty e) = rw (descent_stop W k c p a (ends_empty a e)) (inl e)
      go (leaf e) = rw (descent_stop W k c p a (ends_leaf a e)) (inr e)
      go (branch b) =
          let t : Live cap W a = live l b.0 in
          rw (descent_on W k c p a (ends_not a b))
          (ih (child_of W a c) ((w.branches a t b).kids c m) (omega (arith, kid_lower 8 cap W w a c t b m)))

  -- the end is EMPTY or a leaf: no average is read
  pub plain : {d : ℕ} {p : List ℕ} (k a : ℕ) → LiveOr0 cap W a → height_at W a ≤ d → Cell 8 d p → Flat (descent W k p a).id.0
  plain k a l h here = rw (descent_end W k a) (low_flat 8 cap W w a l (omega arith))
  plain k a l h (down {d = d} {c = c} {p = p} m t) = plain_step d k a c p l h m (λ b i j. plain (k + 1) b i j t)

  -- a greater depth shows the same cube in larger blocks: each cell as 2^e by 2^e by 2^e equal ones
  pub plain_deeper : (d e a x y z : ℕ) → LiveOr0 cap W a → height_at W a ≤ d
      → read_at W (d + e) a x y z ≡ read_at W d a (x / 2 ^ e) (y / 2 ^ e) (z / 2 ^ e)
  plain_deeper d e a x y z l h =
      let q : cube_path (d + e) x y z ≡ cube_path d (x / 2 ^ e) (y / 2 ^ e) (z / 2 ^ e) ++ cube_path e x y z =
      path_deeper (λ b. octant b x y z) d e
      ∙ ap (λ (i : List ℕ). i ++ cube_path e x y z)
      (path_cong (λ b. octant (b + e) x y z) (λ b. octant b (x / 2 ^ e) (y / 2 ^ e) (z / 2 ^ e)) d (λ b _. octant_higher x y z e b)) in
      let t = look_deeper 8 cap W w a (cube_path e x y z) l h (cube_cell d (x / 2 ^ e) (y / 2 ^ e) (z / 2 ^ e)) in
      ap (λ (i : ℕ). i % 2 ^ 16) (ap (λ (i : List ℕ). look W i a) q ∙ t)

  -- ---- less than the height

  there_step : (k a c : ℕ) (p : List ℕ) → LiveOr0 cap W a → c < 8
      → ((b : ℕ) → LiveOr0 cap W b → LiveOr0 cap W (descent W (k + 1) p b).id.0) → LiveOr0 cap W (descent W k (c ∷ p) a).id.0
  there_step k a c p l m ih = go (kind a)
    where
      go : Kind a → LiveOr0 cap W (descent W k (c ∷ p) a).id.0
      go (empty e) = rw (descent_stop W k c p a (ends_empty a e)) l
      go (leaf e) = rw (descent_stop W k c p a (ends_leaf a e)) l
      go (branch b) = rw (descent_on W k c p a (ends_not a b)) (ih (child_of W a c) ((w.branches a (live l b.0) b).kids c m))

  -- what is reached from a root is EMPTY or live
  pub end_there : {d : ℕ} {p : List ℕ} (k a : ℕ) → LiveOr0 cap W a → Cell 8 d p → LiveOr0 cap W (descent W k p a).id.0
  end_there k a l here = rw (descent_end W k a) l
  end_there k a l (down {c = c} {p = p} m t) = there_step k a c p l m (λ b i. end_there (k + 1) b i t)

  -- where it is a branch, lookup reads the average of its children's stored values
  pub averaged : {d : ℕ} {p : List ℕ} (k a : ℕ) → LiveOr0 cap W a → Cell 8 d p → Branch (descent W k p a).id.0
      → look W p a ≡ average 8 (λ i. value_at W (child_of W (descent W k p a).id.0 i))
  averaged {p = p} k a l t b = look_descent W k p a ∙ (w.branches (descent W k p a).id.0 (live (end_there k a l t) b.0) b).averaged

  tall_branch : (a : ℕ) → LiveOr0 cap W a → 0 < height_at W a → Branch a
  tall_branch a l h = go (kind a)
    where
      go : Kind a → Branch a
      go (empty e) = absurd (omega (arith, flat_low 8 cap W w a l (inl e)))
      go (leaf e) = absurd (omega (arith, flat_low 8 cap W w a l (inr e)))
      go (branch b) = b

  short_step : (d k a : ℕ) → LiveOr0 cap W a → suc d < height_at W a
      → ((b : ℕ) → LiveOr0 cap W b → d < height_at W b → (p : List ℕ) × Cell 8 d p × Branch (descent W (k + 1) p b).id.0)
      → (p : List ℕ) × Cell 8 (suc d) p × Branch (descent W k p a).id.0
  short_step d k a l h ih =
      let b : Branch a = tall_branch a l (omega arith) in
      let m = w.branches a (live l b.0) b in
      let t = m.tall in
      let i = max_one 8 (λ i. height_at W (child_of W a i)) (omega arith) in
      let r = ih (child_of W a i.0) (m.kids i.0 i.1) (omega (arith, i.2)) in
      (i.0 ∷ r.0, down i.1 r.1, rw (descent_on W k i.0 r.0 a (ends_not a b)) r.2)

  -- and at every depth less than the height some cell does
  pub short : (d k a : ℕ) → LiveOr0 cap W a → d < height_at W a → (p : List ℕ) × Cell 8 d p × Branch (descent W k p a).id.0
  short zero k a l h = ([], here, rw (descent_end W k a) (tall_branch a l h))
  short (suc d) k a l h = short_step d k a l h (short d (k + 1))
