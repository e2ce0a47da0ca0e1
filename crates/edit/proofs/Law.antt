-- The edit of the code is the edit of the definition: on tables that are not sized refusal 1, on well-formed tables exactly.
use mathlib.Core.Path.{◌≡◌, refl, sym, ap, ◌∙◌}
use mathlib.Core.Logic.{◌≢◌, inl, inr}
use mathlib.Core.Bool.{true, false}
use Prim.Native.Nat.{ℕ, suc, ◌-◌, ◌%◌, ◌^◌, ◌≤◌, ◌<◌}
use native.Mathlib.Decide.{ℕ_discrete, dec_le}
use native.Mathlib.Omega.{arith}
use lib.Dec.{eqb, leb}
use borrow.Author.Tests.{eq-eqb, ne_eqb, le-leb, lt-leb, leb-true}
use Rattle.nodes.specs.Values.{height_at}
use Rattle.basics.specs.Limits.{deepest, cube_kids, largest_value}
use Rattle.basics.specs.Pick.{pick}
use Rattle.basics.proofs.Rungs.{past_yes}
use Rattle.nodes.specs.Words.{Nodes, holds, slot}
use Rattle.nodes.proofs.Sums.{cases, split}
use Rattle.paths.specs.declared.Cell.{Cell}
use Rattle.paths.specs.declared.IVec3.{IVec3}
use Rattle.paths.specs.Paths.{inside, whole, cell_from, to_cell}
use Rattle.tree.specs.Tree.{LiveOr0, look}
use Rattle.tree.specs.Lacks.{Need, have, lack}
use Rattle.tree.proofs.CellLaws.{cube_cell}
use Rattle.arena.specs.Tables.{live_in, Tables, tables, tables_of, cap, W, WellFormed}
use Rattle.arena.specs.Models.{bumped}
use Rattle.arena.specs.Calls.{live_or_empty, Out, said, refused, fits, Fair, full_of, held_at}
use Rattle.arena.proofs.Branching.{full_few}
use Rattle.arena.proofs.Places.{bumped_is}
use Rattle.read_cell.specs.Calls.{look_no}
use Rattle.read_cell.specs.Models.{look_no_at}
use Rattle.read_cell.proofs.Calls.{look_no_same, cell_same}
use Rattle.read_cell.proofs.Laws.{there_live, well_small}
use Rattle.read_cell.proofs.Plain.{cell_whole}
use Rattle.edit.specs.Edit.{plan_of, result_of, make_of, grant_no, granted, answer_of, cell_no, edit_cell, cell_at, edit_of}
use Rattle.edit_way.specs.Models.{way_of}
use Rattle.edit_way.specs.declared.Way.{Way}
use Rattle.edit_plan.specs.Models.{planned, plan_by, root_plan, result_by}
use Rattle.edit_plan.proofs.Plans.{plan_way}
use Rattle.edit_plan.specs.declared.Plan as planning
use Rattle.edit_make.specs.Models.{make_on, make_by}
use Rattle.edit_make.proofs.Steps.{make_way}
use Rattle.edit.specs.Models.{grant_by, answer_by, edit_past, edit_no_at, edit_by}
use Rattle.edit.proofs.Mirror.{Agree, agree_have, agree_lack, plan_agree, make_same}

-- ---- what a number 0 of lookup says

module _ (t : Tables) (root d : ℕ) (p : IVec3) (e : look_no t root d p ≡ 0) where
  abbrev inner : ℕ
  inner = pick (inside d p.x) (pick (inside d p.y) (pick (inside d p.z) (pick (live_or_empty (cap t) (W t) root) 0 4) 3) 3) 3

  past : (fits t ≡ true) × (leb d deepest ≡ true) × (inner ≡ 0)
  unfolding look_no
  past =
      let a = past_yes (fits t) (pick (leb d deepest) inner 2) 1 0 (omega arith) e in
      let b = past_yes (leb d deepest) inner 2 0 (omega arith) a.1 in
      (a.0, b.0, b.1)

  pub deep : d ≤ deepest
  deep = leb-true d deepest past.1

  pub root_there : LiveOr0 (cap t) (W t) root
  root_there =
      let x = past_yes (inside d p.x) (pick (inside d p.y) (pick (inside d p.z) (pick (live_or_empty (cap t) (W t) root) 0 4) 3) 3) 3 0 (omega arith) past.2 in
      let y = past_yes (inside d p.y) (pick (inside d p.z) (pick (live_or_empty (cap t) (W t) root) 0 4) 3) 3 0 (omega arith) x.1 in
      let z = past_yes (inside d p.z) (pick (live_or_empty (cap t) (W t) root) 0 4) 3 0 (omega arith) y.1 in
      there_live t root (past_yes (live_or_empty (cap t) (W t) root) 0 4 0 (omega arith) z.1).0

unsized_no : (t : Tables) (root d : ℕ) (p : IVec3) → fits t ≡ false → look_no t root d p ≡ 1
unfolding look_no
unsized_no t root d p u = rw u

-- ---- the two ladders

module _ (t : Tables) (root d v : ℕ) (p : IVec3) where
  no_same : look_no_at t root (to_cell p d) ≡ look_no t root d p
  no_same = look_no_same t.arena t.nodes.kids t.nodes.facts t.find root d p

  refused_same : look_no t root d p ≢ 0 → edit_by t root (to_cell p d) v ≡ edit_of t root d p v
  unfolding edit_by edit_of edit_no_at
  refused_same n = rw (no_same, ne_eqb (look_no t root d p) 0 n, ne_eqb (look_no t root d p) 0 n)

  tall_same : look_no t root d p ≡ 0 → leb (height_at (W t) root) d ≡ false → edit_by t root (to_cell p d) v ≡ edit_of t root d p v
  unfolding edit_by edit_of edit_no_at edit_cell cell_no
  tall_same n h = rw (no_same, eq-eqb (look_no t root d p) 0 n, h)

  low_by : look_no t root d p ≡ 0 → leb (height_at (W t) root) d ≡ true
      → edit_by t root (to_cell p d) v ≡ edit_past t v (way_of (W t) (to_cell p d) root) d (result_by t v (to_cell p d) root)
  unfolding edit_by edit_no_at
  low_by n h = rw (no_same, eq-eqb (look_no t root d p) 0 n, h) (ap (edit_past t v (way_of (W t) (to_cell p d) root) d) (plan_way t v root (to_cell p d)))

-- the definition, once the first refusals are past, as a function of the result r
abbrev ended : Tables → Need → Out → Out
ended t r new = pick (eqb (grant_no t r) 0) (answer_of t r new) (refused (grant_no t r) t)

low_of : (t : Tables) (root d v : ℕ) (p : IVec3) → look_no t root d p ≡ 0 → leb (height_at (W t) root) d ≡ true
    → edit_of t root d p v ≡ ended t (result_of cube_kids t v (cell_at d p) root) (make_of cube_kids t v (cell_at d p) root 1 0)
unfolding edit_of edit_cell cell_no
low_of t root d v p n h = rw (eq-eqb (look_no t root d p) 0 n, h)

-- ---- the ends

grant_same : (t : Tables) (r : ℕ) → (r ≢ 0 → W t (slot r) holds < 1000000) → tables t.arena t.nodes.kids (bumped holds t.nodes.facts r) t.find ≡ granted t r
unfolding granted held_at
grant_same t r h =
    ap (λ (x : Nodes). tables_of t.arena x t.find) (bumped_is holds t.nodes r (omega arith) (λ z. let b = h z in omega arith))
    ∙ split (eqb r 0) (λ z. rw z) (λ z. rw z)

grant_few : (t : Tables) (r : ℕ) → grant_no t (have r) ≡ 0 → r ≢ 0 → W t (slot r) holds < 1000000
unfolding grant_no
grant_few t r e d = split (full_of (W t) (slot r))
    (λ f. absurd (let z : ◌≡◌ {A = ℕ} 10 0 = (rw (ne_eqb r 0 d, f) at e) in omega arith))
    (λ f. full_few t (slot r) f)

have_end : (t : Tables) (v : ℕ) (w : Way) (d r : ℕ) (new : Out) → edit_past t v w d (planned 0 r) ≡ ended t (have r) new
unfolding edit_past grant_by grant_no answer_by answer_of
have_end t v w d r new = cases (ℕ_discrete (grant_no t (have r)) 0)
    (λ e. ap (λ (u : Tables). pick (eqb (grant_no t (have r)) 0) (said 0 r u) (refused (grant_no t (have r)) t)) (grant_same t r (grant_few t r e)))
    (λ e. rw (ne_eqb (grant_no t (have r)) 0 e))

lack_end : (t : Tables) (v : ℕ) (w : Way) (d k s : ℕ) (new : Out) → 1 ≤ k → (k ≤ cap t - 1 - live_in t.arena → make_on t v w d (planned k s) ≡ new)
    → edit_past t v w d (planned k s) ≡ ended t (lack k) new
unfolding edit_past grant_by grant_no answer_by answer_of
lack_end t v w d k s new one h = cases (dec_le k (cap t - 1 - live_in t.arena))
    (λ l. rw (ne_eqb k 0 (omega arith), le-leb k (cap t - 1 - live_in t.arena) l) (h l))
    (λ l. rw (ne_eqb k 0 (omega arith), lt-leb k (cap t - 1 - live_in t.arena) (omega arith)))

-- ---- the whole

module _ (t : Tables) (root d v : ℕ) (p : IVec3) (high : v ≤ largest_value) where
  abbrev C : Cell
  C = cell_from d (whole p.x) (whole p.y) (whole p.z)

  result_same : WellFormed cube_kids deepest t → look_no t root d p ≡ 0 → height_at (W t) root ≤ d
      → edit_past t v (way_of (W t) C root) d (result_by t v C root) ≡ ended t (result_of cube_kids t v (cell_at d p) root) (make_of cube_kids t v (cell_at d p) root 1 0)
  unfolding result_by root_plan result_of
  result_same w n low =
      let l = le-leb d deepest (deep t root d p n) in
      let whole-look : look (W t) (cell_at d p) root % 2 ^ 16 ≡ look (W t) (cell_at d p) root = cell_whole (W t) (well_small w) d root C.x C.y C.z in
      cases (ℕ_discrete (look (W t) (cell_at d p) root) v)
      (λ z. rw (l, whole-look, eq-eqb (look (W t) (cell_at d p) root) v z) (have_end t v (way_of (W t) C root) d root (make_of cube_kids t v (cell_at d p) root 1 0)))
      (λ z. rw (l, whole-look, ne_eqb (look (W t) (cell_at d p) root) v z)
      (go w n low (plan_by t v (cell_at d p) root) (plan_of cube_kids t v (cell_at d p) root) refl refl
      (plan_agree w v high root (root_there t root d p n) low (let h = deep t root d p n in omega arith) (cube_cell d C.x C.y C.z))))
    where
      go : WellFormed cube_kids deepest t → look_no t root d p ≡ 0 → height_at (W t) root ≤ d → (b : planning.Plan) (r : Need) → plan_by t v (cell_at d p) root ≡ b
          → plan_of cube_kids t v (cell_at d p) root ≡ r → Agree (suc d) b r → edit_past t v (way_of (W t) C root) d b ≡ ended t r (make_of cube_kids t v (cell_at d p) root 1 0)
      go w n low b r eb er (agree_have {r = s}) = have_end t v (way_of (W t) C root) d s (make_of cube_kids t v (cell_at d p) root 1 0)
      go w n low b r eb er (agree_lack {k = k} {s = s} one most) =
          lack_end t v (way_of (W t) C root) d k s (make_of cube_kids t v (cell_at d p) root 1 0) one
          (λ l. make_way t v root C k s (deep t root d p n) one most
          ∙ ap (λ (i : planning.Plan). make_by t v (cell_at d p) root i 1 0) (sym eb)
          ∙ make_same (omega arith) w v high root k 1 0 (root_there t root d p n) low (deep t root d p n) (cube_cell d C.x C.y C.z) er
          (let z = w.sized.least in omega arith) (omega arith) (omega arith))

  -- a cell that is not refused is inside, where a coordinate's number is the coordinate
  past_same : look_no t root d p ≡ 0
      → edit_past t v (way_of (W t) (to_cell p d) root) d (result_by t v (to_cell p d) root) ≡ edit_past t v (way_of (W t) C root) d (result_by t v C root)
  past_same n = ap (λ (c : Cell). edit_past t v (way_of (W t) c root) d (result_by t v c root)) (cell_same t.arena t.nodes.kids t.nodes.facts t.find root d p n)

  well_same : WellFormed cube_kids deepest t → edit_by t root (to_cell p d) v ≡ edit_of t root d p v
  well_same w = cases (ℕ_discrete (look_no t root d p) 0)
      (λ n. cases (dec_le (height_at (W t) root) d)
      (λ l. low_by t root d v p n (le-leb (height_at (W t) root) d l) ∙ past_same n
      ∙ result_same w n l ∙ sym (low_of t root d v p n (le-leb (height_at (W t) root) d l)))
      (λ l. tall_same t root d v p n (lt-leb (height_at (W t) root) d (omega arith))))
      (λ n. refused_same t root d v p n)

  edit_same : Fair cube_kids deepest t → edit_by t root (to_cell p d) v ≡ edit_of t root d p v
  edit_same (inl u) = refused_same t root d v p (λ n. let e = unsized_no t root d p u in omega arith)
  edit_same (inr w) = well_same w

-- the contract of the code
pub voxel_law : {t : Tables} (root d : ℕ) (p : IVec3) (v : ℕ) (c : Cell) (r : Out) → v < 65536 → c ≡ to_cell p d → r ≡ edit_by t root c v → Fair cube_kids deepest t → r ≡ edit_of t root d p v
voxel_law {t} root d p v c r hv ec er fair = er ∙ ap (λ (i : Cell). edit_by t root i v) ec ∙ edit_same t root d v p (omega arith) fair
