-- A root's cube, as lookup answers it cell by cell and as expansion writes it.
use mathlib.Core.Path.{◌≡◌, sym, ap, ◌∙◌, subst}
use mathlib.Core.Logic.{◌≢◌}
use mathlib.Core.List.{List}
use Prim.Native.Nat.{ℕ, ◌^◌, ◌≤◌, ◌<◌}
use native.Mathlib.Decide.{ℕ_discrete}
use native.Mathlib.Omega.{arith}
use lib.ListN.{length, get_or, set}
use lib.Seq.{get_or-set_same, get_or-set_other}
use borrow.Author.Tests.{eq-eqb, le-leb}
use Rattle.basics.specs.Limits.{deepest, deepest_cube}
use Rattle.nodes.proofs.Sums.{cases}
use Rattle.tree.specs.Tree.{LiveOr0, look}
use Rattle.tree.specs.Cells.{At, way, Apart}
use Rattle.arena.specs.Tables.{Tables, cap, W, WellFormed}
use Rattle.arena.proofs.Fits.{sized_fits}
use Rattle.read_cell.specs.Reading.{cube_of}
use Rattle.read_cell.specs.Calls.{Expanded, expanded, expand_no, expand_of}
use Rattle.read_cell.proofs.Cube.{addr, addr_lt, addr_one, pow_four, pow_eight, cube_one}
use Rattle.read_cell.proofs.Plain.{cell_whole}
use Rattle.read_cell.proofs.Laws.{live_there, well_small, lookup_right, expand_length, expand_look}
use Rattle.calls.specs.Cells.{stands_at, Answers, Alike, Expands}

-- ## Lookup

pub answers_as : {d : ℕ} {t : Tables} {a : ℕ} {c : At d} {v w : ℕ} → Answers t a c v → v ≡ w → Answers t a c w
answers_as r e = record { accepted = r.accepted; value = r.value ∙ e }

pub answers_alike : {d : ℕ} {t u : Tables} {a b : ℕ} {c : At d} {v w : ℕ} → Answers u b c v → Answers t a c w → v ≡ w → Alike u b t a c
answers_alike r s e = record { number = r.accepted ∙ sym s.accepted; value = r.value ∙ e ∙ sym s.value }

-- what lookup answers at a cell is what the tree shows there
pub look_at_lem : {n tallest d : ℕ} {t : Tables} → WellFormed n tallest t → d ≤ deepest → (a : ℕ) → LiveOr0 (cap t) (W t) a → (c : At d)
    → Answers t a c (look (W t) (way c) a)
look_at_lem {d} {t} w h a l c =
    let r = lookup_right w a d c.x c.y c.z h c.in_x c.in_y c.in_z l in
    record { accepted = r.0; value = r.1 }

-- ## Expansion

stands_lt : {d : ℕ} (c : At d) → stands_at c < 8 ^ d
stands_lt {d} c = rw (pow_four d, pow_eight d) (addr_lt (2 ^ d) (2 ^ d) c.x c.y c.z c.in_x c.in_y c.in_z)

-- two cells that stand at one place are one
stands_one : {d : ℕ} (c e : At d) → stands_at c ≡ stands_at e → (c.x ≡ e.x) × (c.y ≡ e.y) × (c.z ≡ e.z)
stands_one {d} c e q =
    let s : addr (2 ^ d) (2 ^ d) c.x c.y c.z ≡ addr (2 ^ d) (2 ^ d) e.x e.y e.z = rw (pow_four d) at q in
    let r = addr_one (2 ^ d) (2 ^ d) c.x c.y c.z e.x e.y e.z c.in_x c.in_z e.in_x e.in_z s in
    (r.ex, r.ey, r.ez)

pub way_one : {d : ℕ} (c e : At d) → stands_at c ≡ stands_at e → way c ≡ way e
way_one c e q =
    let r = stands_one c e q in
    let x = r.0 in
    let y = r.1 in
    let z = r.2 in
    cc

pub stands_apart : {d : ℕ} (c e : At d) → stands_at c ≢ stands_at e → Apart c e
stands_apart c e n r =
    n
    (let x = r.0 in
    let y = r.1 in
    let z = r.2 in
    cc)

-- one cell of a list is set: x is what stands at s if it is v at that cell, and what stood there elsewhere
pub one_set : {d : ℕ} (c : At d) (v : ℕ) (m : List ℕ) → length m ≡ 8 ^ d → (s : At d) (x : ℕ) → (stands_at s ≡ stands_at c → x ≡ v)
    → (stands_at s ≢ stands_at c → x ≡ get_or m (stands_at s) 0) → get_or (set m (stands_at c) v) (stands_at s) 0 ≡ x
one_set c v m k s x here there = cases (ℕ_discrete (stands_at s) (stands_at c))
    (λ e.
    ap (λ (n : ℕ). get_or (set m (stands_at c) v) n 0) e ∙ get_or-set_same m (stands_at c) v 0 (subst (λ (n : ℕ). stands_at c < n) (sym k) (stands_lt c)) ∙ sym (here e))
    (λ n. get_or-set_other m (stands_at c) (stands_at s) v 0 n ∙ sym (there n))

module _ {n tallest d : ℕ} {t : Tables} (w : WellFormed n tallest t) (h : d ≤ deepest_cube) (a : ℕ) (there : LiveOr0 (cap t) (W t) a) (l : List ℕ) (e : length l ≡ 8 ^ d) where
  accepts : expand_no t a d (length l) ≡ 0
  unfolding expand_no
  accepts = rw (sized_fits w.sized, le-leb d deepest_cube h, live_there t a there, eq-eqb (length l) (8 ^ d) e)

  expand_is : expand_of t a d l ≡ expanded 0 (cube_of (W t) d a)
  unfolding expand_of
  expand_is = rw (eq-eqb (expand_no t a d (length l)) 0 accepts)

  -- what expansion writes is what the tree shows
  pub expand_at : Expands d t a l (λ c. look (W t) (way c) a)
  expand_at = record {
    accepted = ap (λ (o : Expanded). o.no) expand_is;
    size = expand_length t a d l accepts;
    cells = λ c.
        expand_look t a d l accepts c.x c.y c.z c.in_x c.in_y c.in_z ∙ (look_at_lem w (omega arith) a there c).value;
  }

  -- and a list of 8^d numbers that has at each cell what the tree shows there is the list that it writes
  pub expand_list : (m : List ℕ) → length m ≡ 8 ^ d → ((c : At d) → get_or m (stands_at c) 0 ≡ look (W t) (way c) a) → (expand_of t a d l).cube ≡ m
  expand_list m k f =
      ap (λ (o : Expanded). o.cube) expand_is
      ∙ sym (cube_one (W t) d a m k
      (λ x y z p q r.
      f (record { x = x; y = y; z = z; in_x = p; in_y = q; in_z = r }) ∙ sym (cell_whole (W t) (well_small w) d a x y z)))
