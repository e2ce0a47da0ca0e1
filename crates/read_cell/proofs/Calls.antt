-- Coordinates, sides, refusals, and the ends of lookup, in the forms in which the code has them.
use Prim.Native.Nat.{ℕ, ◌-◌, ◌%◌, ◌^◌, ◌≤◌, ◌<◌}
use native.Mathlib.Decide.{ℕ_discrete, dec_le}
use native.Mathlib.Omega.{arith}
use mathlib.Core.Path.{◌≡◌, ◌∙◌, refl, sym, ap}
use mathlib.Core.Bool.{Bool, true, false}
use mathlib.Core.List.{List}
use borrow.Author.Tests.{lt-ltb, le-ltb, le-leb, lt-leb, ne_eqb, leb-true, ltb-true, ltb-false}
use lib.Bits.{bit_or, or_lt, or_add_and, and_le_l, and_le_r}
use lib.Dec.{ltb, leb, eqb}
use lib.IntN.{ℤ, pos, negsuc}
use lib.Pow.{pow_mono}
use Rattle.basics.specs.Limits.{deepest}
use Rattle.basics.specs.Pick.{pick}
use Rattle.basics.proofs.Rungs.{pick_yes, rung_yes, rung_no, via_yes, via_no, eq_via, ne_via, past_yes}
use Rattle.nodes.specs.Words.{nodes, own, kid_of, fact_of, word_of, slot, floor}
use Rattle.nodes.proofs.Access.{word_fact}
use Rattle.nodes.proofs.Sums.{cases}
use Rattle.paths.specs.declared.Cell.{Cell}
use Rattle.paths.specs.declared.IVec3.{IVec3}
use Rattle.paths.specs.Paths.{coord_of, inside, whole, cell_from, to_cell}
use Rattle.nodes.specs.Values.{value_at}
use Rattle.tree.specs.Cells.{path_to}
use Rattle.arena.specs.Tables.{State, tables}
use Rattle.arena.specs.Calls.{fits, live_of, live_or_empty}
use Rattle.read_cell.specs.declared.End.{End}
use Rattle.read_cell.specs.declared.Looked.{Looked}
use Rattle.read_cell.specs.Reading.{descent, end_of, read_at}
use Rattle.read_cell.specs.Calls.{look_no, looked, look_of}
use Rattle.read_cell.specs.Models.{val, within, look_no_at, look_at}
use Rattle.read_cell.proofs.Ends.{look_descent, end_kids, val_facts}

-- ---- sides

side_small : (d : ℕ) → d ≤ deepest → 2 ^ d ≤ 2 ^ deepest
side_small d h = pow_mono h

-- one test for three coordinates
module _ (d x y z : ℕ) where
  any_low : bit_or (bit_or x y) z < 2 ^ d → (x < 2 ^ d) × (y < 2 ^ d) × (z < 2 ^ d)
  any_low h =
      let p = or_add_and (bit_or x y) z in
      let q = or_add_and x y in
      let i = and_le_r (bit_or x y) z in
      let j = and_le_l (bit_or x y) z in
      let k = and_le_r x y in
      let l = and_le_l x y in
      (omega arith, omega arith, omega arith)

  pub all_inside_lem : (t : Bool) (k u : ℕ) → t ≡ ltb (bit_or (bit_or x y) z) (2 ^ d) → t ≡ true → k ≡ u
      → k ≡ pick (ltb x (2 ^ d)) (pick (ltb y (2 ^ d)) (pick (ltb z (2 ^ d)) u 3) 3) 3
  all_inside_lem t k u e h q =
      let l = any_low (ltb-true (bit_or (bit_or x y) z) (2 ^ d) (sym e ∙ h)) in
      rw (lt-ltb x (2 ^ d) l.0, lt-ltb y (2 ^ d) l.1, lt-ltb z (2 ^ d) l.2) q

  pub one_outside : (t : Bool) (u : ℕ) → t ≡ ltb (bit_or (bit_or x y) z) (2 ^ d) → t ≡ false
      → 3 ≡ pick (ltb x (2 ^ d)) (pick (ltb y (2 ^ d)) (pick (ltb z (2 ^ d)) u 3) 3) 3
  one_outside t u e h = go (ltb x (2 ^ d)) (ltb y (2 ^ d)) (ltb z (2 ^ d)) refl refl refl
    where
      go : (i j k : Bool) → ltb x (2 ^ d) ≡ i → ltb y (2 ^ d) ≡ j → ltb z (2 ^ d) ≡ k → ◌≡◌ {A = ℕ} 3 (pick i (pick j (pick k u 3) 3) 3)
      go false j k _ _ _ = refl
      go true false k _ _ _ = refl
      go true true false _ _ _ = refl
      go true true true ei ej ek =
          let o = or_lt d (bit_or x y) z (or_lt d x y (ltb-true x (2 ^ d) ei) (ltb-true y (2 ^ d) ej)) (ltb-true z (2 ^ d) ek) in
          absurd (omega (arith, ltb-false (bit_or (bit_or x y) z) (2 ^ d) (sym e ∙ h)))

-- ---- a coordinate as a number

coord_inside : (d : ℕ) (x : ℤ) → d ≤ deepest → ltb (coord_of x) (2 ^ d) ≡ inside d x
unfolding coord_of inside
coord_inside d (pos n) h = refl
coord_inside d (negsuc n) h = le-ltb (2 ^ 32 - 1) (2 ^ d) (omega (arith, side_small d h))

pub coord_is : (d : ℕ) (x : ℤ) → inside d x ≡ true → coord_of x ≡ whole x
unfolding coord_of inside whole
coord_is d (pos n) h = refl
coord_is d (negsuc n) h = let q : ◌≡◌ {A = ℕ} 0 1 = cc in absurd (omega arith)

ladder_deep : (b : Bool) (d x : ℕ) → pick b (pick (leb d deepest) x 2) 1 ≡ 0 → (d ≤ deepest) × (x ≡ 0)
ladder_deep b d x e =
    let p : (b ≡ true) × (pick (leb d deepest) x 2 ≡ 0) = past_yes b _ _ 0 (omega arith) e in
    let q : (leb d deepest ≡ true) × (x ≡ 0) = past_yes (leb d deepest) x 2 0 (omega arith) p.1 in
    (leb-true _ _ q.0, q.1)

module _ (c : ℕ) (ks fs : List ℕ) (id : ℕ) where
  -- the facts alone tell
  pub there_facts : (t : Bool) → t ≡ live_or_empty c (fact_of fs) id → t ≡ live_or_empty c (word_of (nodes ks fs)) id
  unfolding live_or_empty live_of
  there_facts t e =
      e ∙ ap (λ (w : ℕ). pick (eqb id 0) true (pick (ltb (slot id) c) (pick (leb floor id) (eqb w id) false) false))
      (sym (word_fact (nodes ks fs) (slot id) own (omega arith)))

-- for a ladder whose tests are flags of callees, or orders
pub ruleset climb = (via_yes, via_no, rung_yes, rung_no, le-leb, lt-leb, all_inside_lem, one_outside, there_facts)

module _ (a : State) (ks fs es : List ℕ) (id : ℕ) where
  -- ---- lookup

  pub look_refused : (c : Cell) (k : ℕ) → k ≡ look_no_at (tables a ks fs es) id c → (k ≡ 0 → ⊥) → looked k 0 ≡ look_at (tables a ks fs es) id c
  unfolding look_at
  look_refused c k e h = rung_no _ _ _ _ (ne_via k _ 0 e h) (λ i. looked (e i) 0)

  pub look_done : (c : Cell) (k r : ℕ) (t : End) → k ≡ look_no_at (tables a ks fs es) id c → k ≡ 0 → t ≡ end_of (kid_of ks) id c
      → r ≡ val (fact_of fs) t.id.0 → looked 0 r ≡ look_at (tables a ks fs es) id c
  unfolding look_at look_no_at val end_of
  look_done c k r t e h et er =
      let M = word_of (nodes ks fs) in
      let four : ℕ = pick (live_or_empty a.capacity (word_of (nodes ks fs)) id) 0 4 in
      let l : c.depth ≤ deepest = (ladder_deep (fits (tables a ks fs es)) c.depth (within c four) (sym e ∙ h)).0 in
      let q : t ≡ descent M 0 (path_to c) id = et ∙ end_kids ks fs id c ∙ pick_yes _ _ _ (le-leb c.depth deepest l) in
      let m : r ≡ read_at M c.depth id c.x c.y c.z =
      er ∙ val_facts ks fs t.id.0 ∙ ap (λ (i : End). value_at M i.id.0 % 2 ^ 16) q
      ∙ ap (λ (i : ℕ). i % 2 ^ 16) (sym (look_descent M 0 (path_to c) id)) in
      rung_yes _ _ _ _ (eq_via k _ 0 e h) (λ i. looked 0 (m i))

  module _ (d : ℕ) (p : IVec3) where
    -- the number is the same, of coordinates and of what the code makes of them ..
    pub look_no_same : look_no_at (tables a ks fs es) id (to_cell p d) ≡ look_no (tables a ks fs es) id d p
    unfolding look_no_at look_no
    look_no_same = cases (dec_le d deepest)
        (λ h. rw (coord_inside d p.x h, coord_inside d p.y h, coord_inside d p.z h))
        (λ h. rw (lt-leb d deepest (omega (arith, h))))

    -- .. and where none is refused so are the coordinates
    pub look_inside : look_no (tables a ks fs es) id d p ≡ 0 → (inside d p.x ≡ true) × (inside d p.y ≡ true) × (inside d p.z ≡ true)
    unfolding look_no
    look_inside e =
        let four : ℕ = pick (live_or_empty a.capacity (word_of (nodes ks fs)) id) 0 4 in
        let q = (ladder_deep (fits (tables a ks fs es)) d (pick (inside d p.x) (pick (inside d p.y) (pick (inside d p.z) four 3) 3) 3) e).1 in
        let x = past_yes (inside d p.x) (pick (inside d p.y) (pick (inside d p.z) four 3) 3) 3 0 (omega arith) q in
        let y = past_yes (inside d p.y) (pick (inside d p.z) four 3) 3 0 (omega arith) x.1 in
        let z = past_yes (inside d p.z) four 3 0 (omega arith) y.1 in
        (x.0, y.0, z.0)

    pub cell_same : look_no (tables a ks fs es) id d p ≡ 0 → to_cell p d ≡ cell_from d (whole p.x) (whole p.y) (whole p.z)
    cell_same e =
        let i = look_inside e in
        rw (coord_is d p.x i.0, coord_is d p.y i.1, coord_is d p.z i.2)

    pub look_same : (c : Cell) (r : Looked) → c ≡ to_cell p d → r ≡ look_at (tables a ks fs es) id c → r ≡ look_of (tables a ks fs es) id d p
    unfolding look_at look_of
    look_same c r ec er = er ∙ rw (ec, look_no_same) (cases (ℕ_discrete (look_no (tables a ks fs es) id d p) 0)
        (λ e.
        let i = look_inside e in
        rw (coord_is d p.x i.0, coord_is d p.y i.1, coord_is d p.z i.2))
        (λ e. rw (ne_eqb (look_no (tables a ks fs es) id d p) 0 e)))
