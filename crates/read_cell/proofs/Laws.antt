-- What a reader may use of lookup and expansion.
use Prim.Native.Nat.{ℕ, ◌+◌, ◌*◌, ◌^◌, ◌≤◌, ◌<◌}
use native.Mathlib.Decide.{ℕ_discrete, dec_lt}
use native.Mathlib.Omega.{arith}
use mathlib.Core.Path.{◌≡◌, ◌∙◌, refl, sym}
use mathlib.Core.Logic.{◌≢◌, inl, inr}
use mathlib.Core.Bool.{true}
use mathlib.Core.List.{List}
use borrow.Author.Tests.{lt-ltb, le-leb, leb-true, eq-eqb, ne_eqb}
use lib.Dec.{leb, eqb}
use lib.ListN.{length, get_or}
use Rattle.basics.specs.Limits.{deepest, deepest_cube}
use Rattle.basics.specs.Pick.{pick}
use Rattle.basics.proofs.Rungs.{pick_no, past_yes}
use Rattle.nodes.specs.Words.{own, value, slot, floor}
use Rattle.nodes.proofs.Access.{word_fact, fact_out}
use Rattle.nodes.proofs.Rows.{in_short}
use Rattle.nodes.proofs.Counts.{live_nonzero}
use Rattle.nodes.proofs.Sums.{cases}
use Rattle.paths.specs.Paths.{inside, whole, place}
use Rattle.tree.specs.Tree.{LiveOr0, look}
use Rattle.tree.specs.Cells.{cube_path}
use Rattle.arena.specs.Tables.{Tables, cap, W, WellFormed}
use Rattle.arena.specs.Calls.{fits, live_of, live_or_empty}
use Rattle.arena.proofs.Fits.{sized_fits, live_is}
use Rattle.read_cell.specs.Reading.{cube_of}
use Rattle.read_cell.specs.Calls.{look_no, look_of, expand_no, expanded, expand_of}
use Rattle.read_cell.proofs.Cube.{cube_cell, cube_length}
use Rattle.read_cell.proofs.Plain.{cell_whole}

-- ---- what refusal 4 lets pass is EMPTY or live, and nothing else

pub there_live : (t : Tables) (id : ℕ) → live_or_empty (cap t) (W t) id ≡ true → LiveOr0 (cap t) (W t) id
unfolding live_or_empty
there_live t id e =
    cases (ℕ_discrete id 0) (λ z. inl z)
    (λ z. inr (live_is t id (sym (pick_no (eqb id 0) true (live_of (cap t) (W t) id) (ne_eqb id 0 z)) ∙ e)))

pub live_there : (t : Tables) (id : ℕ) → LiveOr0 (cap t) (W t) id → live_or_empty (cap t) (W t) id ≡ true
unfolding live_or_empty live_of
live_there t id (inl z) = rw (eq-eqb id 0 z)
live_there t id (inr l) =
    rw (ne_eqb id 0 (live_nonzero l), lt-ltb (slot id) (cap t) l.low, le-leb floor id l.high) (eq-eqb (W t (slot id) own) id l.is)

-- ---- on well-formed tables no stored value has more than 16 bits

pub well_small : {n tallest : ℕ} {t : Tables} → WellFormed n tallest t → (s : ℕ) → W t s value < 2 ^ 16
well_small {t = t} w s =
    cases (dec_lt s (cap t))
    (λ l.
    cases (dec_lt (W t s own) floor)
    (λ h. omega (arith, (w.cleared s l h).words value (omega arith) (omega arith) (omega arith)))
    (λ h. omega (arith, (w.nodes s (l, omega arith)).small)))
    (λ l.
    let z = w.sized.facts in
    omega (arith, word_fact t.nodes s value (omega arith), fact_out t.nodes.facts s value (in_short 11 t.nodes.facts s (omega arith))))

-- ---- lookup as document 01 has it

module _ {n tallest : ℕ} {t : Tables} (w : WellFormed n tallest t) (id d x y z : ℕ) (hd : d ≤ deepest) (hx : x < 2 ^ d) (hy : y < 2 ^ d) (hz : z < 2 ^ d) where
  pub lookup_right : LiveOr0 (cap t) (W t) id
      → ((look_of t id d (place x y z)).no ≡ 0) × ((look_of t id d (place x y z)).value ≡ look (W t) (cube_path d x y z) id)
  unfolding look_of look_no inside whole
  lookup_right l =
      let k : look_no t id d (place x y z) ≡ 0 =
      rw (sized_fits w.sized, le-leb d deepest hd, lt-ltb x (2 ^ d) hx, lt-ltb y (2 ^ d) hy, lt-ltb z (2 ^ d) hz, live_there t id l) in
      rw (eq-eqb (look_no t id d (place x y z)) 0 k) (refl, cell_whole (W t) (well_small w) d id x y z)

-- ---- expansion writes every cell, and each equals lookup; a refused one writes none

module _ (t : Tables) (id d : ℕ) (l : List ℕ) where
  pub expand_refused_same : expand_no t id d (length l) ≢ 0 → (expand_of t id d l).cube ≡ l
  unfolding expand_of
  expand_refused_same h = rw (ne_eqb (expand_no t id d (length l)) 0 h)

  module _ (ok : expand_no t id d (length l) ≡ 0) where
    expand_is : expand_of t id d l ≡ expanded 0 (cube_of (W t) d id)
    unfolding expand_of
    expand_is = rw (eq-eqb (expand_no t id d (length l)) 0 ok)

    pub expand_length : length (expand_of t id d l).cube ≡ 8 ^ d
    expand_length = rw expand_is (cube_length (W t) d id)

    passed : (fits t ≡ true) × (leb d deepest_cube ≡ true) × (live_or_empty (cap t) (W t) id ≡ true)
    unfolding expand_no
    passed =
        let nine : ℕ = pick (eqb (length l) (8 ^ d)) 0 9 in
        let p = past_yes (fits t) (pick (leb d deepest_cube) (pick (live_or_empty (cap t) (W t) id) nine 4) 2) 1 0 (omega arith) ok in
        let q = past_yes (leb d deepest_cube) (pick (live_or_empty (cap t) (W t) id) nine 4) 2 0 (omega arith) p.1 in
        let r = past_yes (live_or_empty (cap t) (W t) id) nine 4 0 (omega arith) q.1 in
        (p.0, q.0, r.0)

    module _ (x y z : ℕ) (hx : x < 2 ^ d) (hy : y < 2 ^ d) (hz : z < 2 ^ d) where
      -- lookup accepts every cell of the cube
      pub look_accepts : look_no t id d (place x y z) ≡ 0
      unfolding look_no inside
      look_accepts =
          let h : leb d deepest ≡ true = le-leb d deepest (omega (arith, leb-true d deepest_cube passed.1)) in
          rw (passed.0, h, lt-ltb x (2 ^ d) hx, lt-ltb y (2 ^ d) hy, lt-ltb z (2 ^ d) hz, passed.2)

      pub expand_look : get_or (expand_of t id d l).cube (y * 4 ^ d + z * 2 ^ d + x) 0 ≡ (look_of t id d (place x y z)).value
      unfolding look_of whole
      expand_look =
          rw (expand_is, eq-eqb (look_no t id d (place x y z)) 0 look_accepts) (cube_cell (W t) d id x y z hx hy hz)
