-- The steps of the recursion over octants, and that they stay inside the cube.
use Prim.Native.Nat.{ℕ, zero, suc, ◌+◌, ◌*◌, ◌-◌, ◌/◌, ◌^◌, ◌≤◌, ◌<◌}
use native.Mathlib.Omega.{arith}
use mathlib.Core.Path.{◌≡◌, ◌∙◌, refl, sym, ap}
use mathlib.Core.List.{List}
use borrow.Author.Tests.{eq-eqb, ne_eqb}
use lib.ListN.{length, get_or, set, length-set}
use Rattle.nodes.specs.Words.{Words, nodes, kid_of, fact_of, word_of, slot}
use Rattle.nodes.specs.Tally.{kids_of}
use Rattle.nodes.proofs.Access.{word_kid}
use Rattle.nodes.proofs.Sums.{tab_at}
use Rattle.tree.specs.Tree.{child_of}
use Rattle.read_cell.specs.Models.{val}
use Rattle.read_cell.proofs.Ends.{ends_leaf, ends_not, val_facts}
use Rattle.read_cube.specs.Models.{fill_block, thick, offset, grow, parts_to, pair_of, eight_of}
use Rattle.read_cube.proofs.Fill.{times_none, times_step}

module _ (ks fs : List ℕ) (row plane a at : ℕ) (l : List ℕ) where
  pub parts_none : (k h : ℕ) → l ≡ parts_to (word_of (nodes ks fs)) 8 row plane k h a at 0 l
  parts_none k h = times_none _ l

  pub parts_step : (k h c s o b : ℕ) (m q : List ℕ) → c < 8 → m ≡ parts_to (word_of (nodes ks fs)) 8 row plane k h a at c l → o ≡ offset row plane h c
      → s ≡ slot a → b ≡ kid_of ks s c → q ≡ grow (word_of (nodes ks fs)) 8 row plane k h b (at + o) m
      → q ≡ parts_to (word_of (nodes ks fs)) 8 row plane k h a at (c + 1) l
  parts_step k h c s o b m q i e eo es eb g =
      let j : b ≡ word_of (nodes ks fs) (slot a) c = eb ∙ ap (λ (n : ℕ). kid_of ks n c) es ∙ sym (word_kid (nodes ks fs) (slot a) c i) in
      times_step _ l c m q e (g ∙ cc (eo, j))

  pub parts_all : (k h c : ℕ) (m : List ℕ) → c ≤ 8 → 8 ≤ c → m ≡ parts_to (word_of (nodes ks fs)) 8 row plane k h a at c l
      → m ≡ parts_to (word_of (nodes ks fs)) 8 row plane k h a at 8 l
  parts_all k h c m i j e = let q : c ≡ 8 = omega arith in e ∙ ap (λ (x : ℕ). parts_to (word_of (nodes ks fs)) 8 row plane k h a at x l) q

  pub cell_done : (left side u : ℕ) → left ≡ 0 → u ≡ val (fact_of fs) a → set l at u ≡ grow (word_of (nodes ks fs)) 8 row plane left side a at l
  unfolding grow
  cell_done zero side u e q = ap (λ (i : ℕ). set l at i) (q ∙ val_facts ks fs a)
  cell_done (suc k) side u e q = absurd (omega arith)

  pub none_done : (left side : ℕ) → (left ≡ 0 → ⊥) → a ≡ 0 → l ≡ grow (word_of (nodes ks fs)) 8 row plane left side a at l
  unfolding grow
  none_done zero side h e = absurd (h refl)
  none_done (suc k) side h e = rw (eq-eqb a 0 e)

  pub end_done : (left side u : ℕ) (m : List ℕ) → (left ≡ 0 → ⊥) → (a ≡ 0 → ⊥) → 2 ^ 63 ≤ a → u ≡ val (fact_of fs) a
      → m ≡ fill_block row plane at side side u l → m ≡ grow (word_of (nodes ks fs)) 8 row plane left side a at l
  unfolding grow thick
  end_done zero side u m h o e q j = absurd (h refl)
  end_done (suc k) side u m h o e q j =
      rw (ne_eqb a 0 o, ends_leaf a e) (j ∙ ap (λ (n : ℕ). fill_block row plane at side side n l) (q ∙ val_facts ks fs a))

  pub parts_done : (left side : ℕ) (m : List ℕ) → (left ≡ 0 → ⊥) → (a ≡ 0 → ⊥) → a < 2 ^ 63
      → m ≡ parts_to (word_of (nodes ks fs)) 8 row plane (left - 1) (side / 2) a at 8 l → m ≡ grow (word_of (nodes ks fs)) 8 row plane left side a at l
  unfolding grow
  parts_done zero side m h o e j = absurd (h refl)
  parts_done (suc k) side m h o e j =
      let p : suc k - 1 ≡ k = omega arith in
      rw (ne_eqb a 0 o, ends_not a (o, e)) (j ∙ ap (λ (x : ℕ). parts_to (word_of (nodes ks fs)) 8 row plane x (side / 2) a at 8 l) p)

-- ---- single cells

pub pair_fits : (at u : ℕ) (l : List ℕ) → at + 2 ≤ length l → at + 1 < length (set l at u)
pair_fits at u l h = omega (arith, length-set l at u)

pub pair_is : (W : Words) (a b at u v : ℕ) (l : List ℕ) → u ≡ val W a → v ≡ val W b → set (set l at u) (at + 1) v ≡ pair_of W a b at l
unfolding pair_of
pair_is W a b at u v l eu ev = cc (eu, ev)

pub eight_is : (W : Words) (r : List ℕ) (row plane at : ℕ) (l i j k m : List ℕ) → i ≡ pair_of W (get_or r 0 0) (get_or r 1 0) at l
    → j ≡ pair_of W (get_or r 2 0) (get_or r 3 0) (at + plane) i → k ≡ pair_of W (get_or r 4 0) (get_or r 5 0) (at + row) j
    → m ≡ pair_of W (get_or r 6 0) (get_or r 7 0) (at + plane + row) k → m ≡ eight_of W r row plane at l
unfolding eight_of
eight_is W r row plane at l i j k m ei ej ek em = cc (ei, ej, ek, em)

module _ (ks fs : List ℕ) (row plane a at : ℕ) (l : List ℕ) where
  abbrev CellsTo : ℕ → List ℕ
  CellsTo c = parts_to (word_of (nodes ks fs)) 8 row plane 0 1 a at c l

  -- the value of child c, from the eight in a row
  part_val : (c : ℕ) (r : List ℕ) → c < 8 → r ≡ kids_of 8 (kid_of ks) (slot a) → val (fact_of fs) (get_or r c 0) ≡ val (word_of (nodes ks fs)) (child_of (word_of (nodes ks fs)) a c)
  unfolding kids_of
  part_val c r h e =
      let z : 0 + c ≡ c = omega arith in
      let j : get_or r c 0 ≡ word_of (nodes ks fs) (slot a) c =
      ap (λ (m : List ℕ). get_or m c 0) e ∙ tab_at 8 0 (kid_of ks (slot a)) c h ∙ ap (kid_of ks (slot a)) z ∙ sym (word_kid (nodes ks fs) (slot a) c h) in
      val_facts ks fs (get_or r c 0) ∙ ap (val (word_of (nodes ks fs))) j

  one : (c p u : ℕ) (m : List ℕ) → m ≡ CellsTo c → p ≡ at + offset row plane 1 c → u ≡ val (word_of (nodes ks fs)) (child_of (word_of (nodes ks fs)) a c) → set m p u ≡ CellsTo (c + 1)
  unfolding grow
  one c p u m e q w = times_step _ l c m _ e (cc (q, w))

  two : (c p : ℕ) (r m : List ℕ) → c + 1 < 8 → r ≡ kids_of 8 (kid_of ks) (slot a) → m ≡ CellsTo c → p ≡ at + offset row plane 1 c → p + 1 ≡ at + offset row plane 1 (c + 1)
      → pair_of (fact_of fs) (get_or r c 0) (get_or r (c + 1) 0) p m ≡ CellsTo (c + 1 + 1)
  unfolding pair_of
  two c p r m b w e i j =
      one (c + 1) (p + 1) _ (set m p (val (fact_of fs) (get_or r c 0))) (one c p _ m e i (part_val c r (omega arith) w)) j (part_val (c + 1) r b w)

  pub cells_all : (s : ℕ) (r m : List ℕ) → s ≡ slot a → r ≡ kids_of 8 (kid_of ks) s → m ≡ eight_of (fact_of fs) r row plane at l → m ≡ CellsTo 8
  unfolding offset eight_of
  cells_all s r m es er em =
      let w : r ≡ kids_of 8 (kid_of ks) (slot a) = er ∙ ap (kids_of 8 (kid_of ks)) es in
      let a0 = two 0 at r l (omega arith) w (times_none _ l) (omega arith) (omega arith) in
      let a1 = two 2 (at + plane) r _ (omega arith) w a0 (omega arith) (omega arith) in
      let a2 = two 4 (at + row) r _ (omega arith) w a1 (omega arith) (omega arith) in
      em ∙ two 6 (at + plane + row) r _ (omega arith) w a2 (omega arith) (omega arith)

-- a branch one level above the cells
pub cells_done : (ks fs : List ℕ) (row plane a at left side : ℕ) (l m : List ℕ) → left ≡ 1 → side ≡ 2 ^ left → (a ≡ 0 → ⊥) → a < 2 ^ 63
    → m ≡ parts_to (word_of (nodes ks fs)) 8 row plane 0 1 a at 8 l → m ≡ grow (word_of (nodes ks fs)) 8 row plane left side a at l
cells_done ks fs row plane a at left side l m e q o h j =
    let s : side ≡ 2 = q ∙ ap (λ (n : ℕ). 2 ^ n) e in
    let z : left ≡ 0 → ⊥ = omega arith in
    let p : 0 ≡ left - 1 = omega arith in
    let r : 1 ≡ side / 2 = omega arith in
    parts_done ks fs row plane a at l left side m z o h (j ∙ cc (p, r))

-- an octant of side 2
module _ (ks fs : List ℕ) (row plane a at : ℕ) (l : List ℕ) where
  pub small_none : a ≡ 0 → l ≡ grow (word_of (nodes ks fs)) 8 row plane 1 2 a at l
  small_none e = none_done ks fs row plane a at l 1 2 (omega arith) e

  pub small_end : (u : ℕ) (m : List ℕ) → (a ≡ 0 → ⊥) → 2 ^ 63 ≤ a → u ≡ val (fact_of fs) a → m ≡ fill_block row plane at 2 2 u l
      → m ≡ grow (word_of (nodes ks fs)) 8 row plane 1 2 a at l
  small_end u m o h q j = end_done ks fs row plane a at l 1 2 u m (omega arith) o h q j

  pub small_cells : (m : List ℕ) → (a ≡ 0 → ⊥) → a < 2 ^ 63 → m ≡ parts_to (word_of (nodes ks fs)) 8 row plane 0 1 a at 8 l
      → m ≡ grow (word_of (nodes ks fs)) 8 row plane 1 2 a at l
  small_cells m o h j = cells_done ks fs row plane a at 1 2 l m refl refl o h j

-- a branch two levels above the cells
pub smalls_done : (ks fs : List ℕ) (row plane a at left side : ℕ) (l m : List ℕ) → left ≡ 2 → side ≡ 2 ^ left → (a ≡ 0 → ⊥) → a < 2 ^ 63
    → m ≡ parts_to (word_of (nodes ks fs)) 8 row plane 1 2 a at 8 l → m ≡ grow (word_of (nodes ks fs)) 8 row plane left side a at l
smalls_done ks fs row plane a at left side l m e q o h j =
    let s : side ≡ 4 = q ∙ ap (λ (n : ℕ). 2 ^ n) e in
    let z : left ≡ 0 → ⊥ = omega arith in
    let p : 1 ≡ left - 1 = omega arith in
    let r : 2 ≡ side / 2 = omega arith in
    parts_done ks fs row plane a at l left side m z o h (j ∙ cc (p, r))

-- ---- inside the cube

pub smalls_fit : (left side at row plane c : ℕ) → left ≡ 2 → side ≡ 2 ^ left → at + side * plane + side * row + side ≤ c + plane + row → at + 3 * plane + 3 * row + 4 ≤ c
smalls_fit left side at row plane c e q h =
    let s : side ≡ 4 = q ∙ ap (λ (n : ℕ). 2 ^ n) e in
    let k : at + 4 * plane + 4 * row + 4 ≤ c + plane + row = rw s at h in
    omega arith

pub cells_fit : (left side at row plane c : ℕ) → left ≡ 1 → side ≡ 2 ^ left → at + side * plane + side * row + side ≤ c + plane + row → at + plane + row + 2 ≤ c
cells_fit left side at row plane c e q h =
    let s : side ≡ 2 = q ∙ ap (λ (n : ℕ). 2 ^ n) e in
    let k : at + 2 * plane + 2 * row + 2 ≤ c + plane + row = rw s at h in
    omega arith

pub half_pow : (left side : ℕ) → (left ≡ 0 → ⊥) → side ≡ 2 ^ left → side / 2 ≡ 2 ^ (left - 1)
half_pow zero side h e = absurd (h refl)
half_pow (suc k) side h e = let p : suc k - 1 ≡ k = omega arith in rw p (omega arith)

pub cell_fits : (left side at row plane c : ℕ) → left ≡ 0 → side ≡ 2 ^ left → at + side * plane + side * row + side ≤ c + plane + row → at < c
cell_fits left side at row plane c e q h =
    let s : side ≡ 1 = rw e at q in
    let k : at + 1 * plane + 1 * row + 1 ≤ c + plane + row = rw s at h in
    omega arith

-- the two halves of an octant
pub parts_fits : (left side at row plane c : ℕ) → (left ≡ 0 → ⊥) → side ≡ 2 ^ left → at + side * plane + side * row + side ≤ c + plane + row
    → at + 2 * (side / 2) * plane + 2 * (side / 2) * row + 2 * (side / 2) ≤ c + plane + row
parts_fits zero side at row plane c h e k = absurd (h refl)
parts_fits (suc d) side at row plane c h e k = let p : side ≡ 2 * (side / 2) = omega arith in rw p at k

-- an octant, o from the corner
pub part_fits : (h at row plane o c c₀ : ℕ) → at + 2 * h * plane + 2 * h * row + 2 * h ≤ c₀ + plane + row → c ≡ c₀ → o ≤ h * plane + h * row + h
    → at + o + h * plane + h * row + h ≤ c + plane + row
part_fits h at row plane o c c₀ i j l = omega arith
