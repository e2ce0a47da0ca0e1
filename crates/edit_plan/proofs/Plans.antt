-- The steps of the dry run, and that along the way to the cell it is the dry run by the cell's path.
use mathlib.Core.Path.{◌≡◌, refl, sym, ap, ap₂, ◌∙◌}
use mathlib.Core.Logic.{inl, inr}
use mathlib.Core.Bool.{Bool, true, false}
use mathlib.Core.List.{List, ◌∷◌}
use Prim.Native.Nat.{ℕ, zero, suc, ◌+◌, ◌-◌, ◌/◌, ◌%◌, ◌^◌, ◌≤◌, ◌<◌}
use native.Mathlib.Omega.{arith}
use lib.Dec.{eqb, leb}
use lib.ListN.{get_or, set, length-replicate}
use borrow.Author.Tests.{eq-eqb, ne_eqb, le-leb, lt-leb, leb-true}
use Rattle.basics.specs.Limits.{deepest}
use Rattle.ids.specs.Ids.{invalid}
use Rattle.nodes.specs.Words.{Words, fact_of, word_of, nodes, kid_of}
use Rattle.nodes.specs.Values.{value_at}
use Rattle.nodes.proofs.Sums.{split}
use Rattle.find_hash.specs.Hash.{leaf_hash, rekids_hash}
use Rattle.find.specs.Cells.{leaf_cell, kids_cell}
use Rattle.find.proofs.Contents.{leaf_facts}
use Rattle.paths.specs.declared.Cell.{Cell}
use Rattle.tree.specs.Tree.{look, Flat, Kind, empty, leaf, branch, kind}
use Rattle.tree.specs.Cells.{path_by, path_to}
use Rattle.tree.specs.Anew.{part}
use Rattle.tree.proofs.Canon.{look_branch, look_end, look_flat}
use Rattle.tree.proofs.CellLaws.{octant_lt}
use Rattle.tree.proofs.Making.{part_flat, part_branch}
use Rattle.arena.specs.Models.{more_of}
use Rattle.arena.specs.Tables.{State, Tables, tables, W}
use Rattle.arena.proofs.Places.{more_few}
use Rattle.edit_way.specs.Models.{end_down, octants, way_of, eight_parts, hash_over}
use Rattle.edit_way.proofs.Words.{hash_facts, part_kids, parts_kids}
use Rattle.edit_way.specs.declared.Way.{Way}
use Rattle.edit_way.proofs.Ways.{Rises, top, step, down_rises}
use Rattle.edit_plan.specs.Models.{planned, slot_plan, leaf_found, cell_plan, whole_of, hash_with, kids_found, need_plan, up_plan, plan_up, plan_on, plan_by, root_plan, result_by}
use Rattle.edit_plan.specs.declared.Plan.{Plan}

module _ (k f : List ℕ) where
  pub slot_facts : (found s : ℕ) → slot_plan (fact_of f) found s ≡ slot_plan (word_of (nodes k f)) found s
  unfolding slot_plan word_of
  slot_facts found s = refl

  pub value_facts : (id : ℕ) → value_at (fact_of f) id ≡ value_at (word_of (nodes k f)) id
  unfolding value_at word_of
  value_facts id = refl

-- ---- the cell, a node, and the call

module _ (a : State) (k f e : List ℕ) (v : ℕ) where
  pub cell_nothing : v ≡ 0 → planned 0 0 ≡ cell_plan (tables a k f e) v
  unfolding cell_plan
  cell_nothing z = rw (eq-eqb v 0 z)

  pub cell_found : (h s p : ℕ) (r : Plan) → (v ≡ 0 → ⊥) → h ≡ leaf_hash v → p ≡ leaf_cell e a.capacity (fact_of f) h v → s ≡ get_or e p 0
      → r ≡ slot_plan (fact_of f) s 0 → r ≡ cell_plan (tables a k f e) v
  unfolding cell_plan leaf_found
  cell_found h s p r d eh ep es er =
      let q : p ≡ leaf_cell e a.capacity (word_of (nodes k f)) (leaf_hash v) v =
      ep ∙ ap (λ (y : ℕ). leaf_cell e a.capacity (fact_of f) y v) eh ∙ leaf_facts e a.capacity k f (leaf_hash v) v in
      rw (ne_eqb v 0 d)
      (er ∙ slot_facts k f s 0 ∙ ap (λ (x : ℕ). slot_plan (word_of (nodes k f)) x 0) (es ∙ ap (λ (x : ℕ). get_or e x 0) q))

module _ (a : State) (k f e ks all : List ℕ) (old c s : ℕ) (ek : ks ≡ eight_parts (kid_of k) old) (ea : all ≡ set ks c s) (b : Bool) (eb : b ≡ whole_of all s) where
  kids_are : all ≡ set (eight_parts (word_of (nodes k f)) old) c s
  kids_are = ea ∙ ap (λ (l : List ℕ). set l c s) (ek ∙ parts_kids k f old)

  test : b ≡ whole_of (set (eight_parts (word_of (nodes k f)) old) c s) s
  test = eb ∙ ap (λ (l : List ℕ). whole_of l s) kids_are

  pub node_whole : b ≡ true → planned 0 s ≡ need_plan (tables a k f e) old c s
  unfolding need_plan
  node_whole h = rw (sym test ∙ h)

  pub node_found : (y x v p i : ℕ) (r : Plan) → c < 8 → b ≡ false → y ≡ hash_over (fact_of f) old → x ≡ part (kid_of k) old c → v ≡ rekids_hash y c x s
      → p ≡ kids_cell e a.capacity (word_of (nodes k f)) v all → i ≡ get_or e p 0 → r ≡ slot_plan (fact_of f) i s → r ≡ need_plan (tables a k f e) old c s
  unfolding need_plan kids_found hash_with
  node_found y x v p i r l h ey ex ev ep ei er =
      let q : v ≡ hash_with (word_of (nodes k f)) old c s =
      ev ∙ ap (λ (z : ℕ). rekids_hash z c x s) (ey ∙ hash_facts k f old) ∙ ap (λ (z : ℕ). rekids_hash (hash_over (word_of (nodes k f)) old) c z s) (ex ∙ part_kids k f old c l) in
      rw (sym test ∙ h) (er ∙ slot_facts k f i s ∙ ap (λ (z : ℕ). slot_plan (word_of (nodes k f)) z s)
      (ei ∙ ap (λ (z : ℕ). get_or e z 0) (ep ∙ ap (λ (z : ℕ). kids_cell e a.capacity (word_of (nodes k f)) z all) q
      ∙ ap (kids_cell e a.capacity (word_of (nodes k f)) (hash_with (word_of (nodes k f)) old c s)) kids_are)))

module _ (a : State) (k f e : List ℕ) (root v : ℕ) (c : Cell) (w : Way) where
  pub edit_deep : deepest < c.depth → planned 0 invalid ≡ plan_on (tables a k f e) v c root w
  unfolding plan_on
  edit_deep l = rw (lt-leb c.depth deepest l)

  module _ (x : ℕ) (l : c.depth ≤ deepest) (ex : x ≡ value_at (fact_of f) w.end) where
    value_is : x ≡ value_at (word_of (nodes k f)) w.end
    value_is = ex ∙ value_facts k f w.end

    pub edit_same : x % 2 ^ 16 ≡ v → planned 0 root ≡ plan_on (tables a k f e) v c root w
    unfolding plan_on
    edit_same h = rw (le-leb c.depth deepest l, eq-eqb (value_at (word_of (nodes k f)) w.end % 2 ^ 16) v (ap (λ (i : ℕ). i % 2 ^ 16) (sym value_is) ∙ h))

    pub edit_other : (r : Plan) → (x % 2 ^ 16 ≡ v → ⊥) → r ≡ plan_up (tables a k f e) w.ids c.depth 0 w.path (cell_plan (tables a k f e) v) → r ≡ plan_on (tables a k f e) v c root w
    unfolding plan_on
    edit_other r h er =
        rw (le-leb c.depth deepest l, ne_eqb (value_at (word_of (nodes k f)) w.end % 2 ^ 16) v (λ q. h (ap (λ (i : ℕ). i % 2 ^ 16) value_is ∙ q))) er

-- ---- at most one node is to be made at a level

slot_one : (U : Words) (found s : ℕ) → (slot_plan U found s).new ≤ 1
unfolding slot_plan
slot_one U found s = split (eqb found 0) (λ e. rw e (omega arith)) (λ e. rw e (omega arith))

pub cell_one : (t : Tables) (x : ℕ) (b : Plan) → b ≡ cell_plan t x → b.new ≤ 1
unfolding cell_plan
cell_one t x b q = rw q (split (eqb x 0) (λ e. rw e (omega arith)) (λ e. rw e (slot_one (W t) _ 0)))

pub need_one : (t : Tables) (a c s : ℕ) (b : Plan) → b ≡ need_plan t a c s → b.new ≤ 1
unfolding need_plan
need_one t a c s b q = rw q (split (whole_of (set (eight_parts (W t) a) c s) s) (λ e. rw e (omega arith)) (λ e. rw e (slot_one (W t) _ s)))

-- ---- the loop upward

-- over a part that is to be made each node is
pub up_lacks : (t : Tables) (ids : List ℕ) (k l p j s : ℕ) → j + k ≤ 1000 → plan_up t ids k l p (planned (suc j) s) ≡ planned (suc j + k) s
unfolding plan_up up_plan
up_lacks t ids zero l p j s h = let e : suc j ≡ suc j + 0 = omega arith in ap (λ (n : ℕ). planned n s) e
up_lacks t ids (suc k) l p j s h =
    let m = more_few (suc j) (omega arith) in
    let e : more_of (suc j) ≡ suc (suc j) = omega arith in
    let q : suc (suc j) + k ≡ suc j + suc k = omega arith in
    rw (ne_eqb (suc j) 0 (omega arith), e) (up_lacks t ids k (suc l) (p / 8) (suc j) s (omega arith) ∙ ap (λ (n : ℕ). planned n s) q)

module _ (t : Tables) (ids : List ℕ) (depth path : ℕ) (low : Plan) where
  -- what is left of the loop gives what the whole gives
  abbrev pub Climbs : ℕ → ℕ → Plan → Type 0
  Climbs l p b = plan_up t ids (depth - l) l p b ≡ plan_up t ids depth 0 path low

  pub climb_start : (b : Plan) → b ≡ low → Climbs 0 path b
  climb_start b q = let e : depth - 0 ≡ depth = omega arith in ap₂ (λ (k : ℕ) (y : Plan). plan_up t ids k 0 path y) e q

  module _ (l p : ℕ) (b : Plan) (climbs : Climbs l p b) where
    pub climb_end : depth ≤ l → b ≡ plan_up t ids depth 0 path low
    unfolding plan_up
    climb_end h = let e : depth - l ≡ 0 = omega arith in sym (ap (λ (k : ℕ). plan_up t ids k l p b) e) ∙ climbs

    pub climb_on : (r : Plan) → l < depth → b.new ≡ 0 → r ≡ need_plan t (get_or ids l 0) (p % 8) b.id → Climbs (l + 1) (p / 8) r
    unfolding plan_up up_plan
    climb_on r h z er =
        let n : ℕ = depth - (l + 1) in
        let e : depth - l ≡ suc n = omega arith in
        let i : l + 1 ≡ suc l = omega arith in
        let up : up_plan t (get_or ids l 0) (p % 8) b ≡ r = rw (eq-eqb b.new 0 z) (sym er) in
        ap (λ (j : ℕ). plan_up t ids n j (p / 8) r) i ∙ sym (ap (plan_up t ids n (suc l) (p / 8)) up) ∙ sym (ap (λ (k : ℕ). plan_up t ids k l p b) e) ∙ climbs

    pub climb_stop : l < depth → depth ≤ deepest → b.new ≤ 1 → (b.new ≡ 0 → ⊥) → planned (1 + (depth - l)) b.id ≡ plan_up t ids depth 0 path low
    climb_stop h d one z =
        let e : b.new ≡ 1 = omega arith in
        let is : b ≡ planned 1 b.id = ap (λ (n : ℕ). planned n b.id) e in
        sym (up_lacks t ids (depth - l) l p 0 b.id (omega arith)) ∙ sym (ap (plan_up t ids (depth - l) l p) is) ∙ climbs

-- ---- along the way to the cell

plan_here : (t : Tables) (x : ℕ) (f : ℕ → ℕ) (a : ℕ) → plan_by t x (path_by f 0) a ≡ cell_plan t x
unfolding plan_by path_by
plan_here t x f a = refl

plan_above : (t : Tables) (x : ℕ) (f : ℕ → ℕ) (l b y i : ℕ) → part (W t) b (f l) ≡ y → i ≡ f l → up_plan t b i (plan_by t x (path_by f l) y) ≡ plan_by t x (path_by f (suc l)) b
unfolding plan_by path_by
plan_above t x f l b y i q m = ap₂ (λ (j z : ℕ). up_plan t b j (plan_by t x (path_by f l) z)) m (sym q)

rises_plan : (t : Tables) (x : ℕ) {f : ℕ → ℕ} {ids : List ℕ} {d root p l a : ℕ} → Rises (W t) f ids d root p l a
    → plan_up t ids (d - l) l p (plan_by t x (path_by f l) a) ≡ plan_by t x (path_by f d) root
unfolding plan_up
rises_plan t x {d = d} (top {p = p}) = let e : d - d ≡ 0 = omega arith in rw e
rises_plan t x {f} {ids} {d} {root} {p} {l} {a} (step h digit up r) =
    let e : d - l ≡ suc (d - suc l) = omega arith in
    rw e (ap (plan_up t ids (d - suc l) (suc l) (p / 8)) (plan_above t x f l (get_or ids l 0) a (p % 8) up digit) ∙ rises_plan t x r)

look_part : (U : Words) (c : ℕ) (p : List ℕ) (a : ℕ) → look U (c ∷ p) a ≡ look U p (part U a c)
look_part U c p a = go (kind a)
  where
    flat : Flat a → look U (c ∷ p) a ≡ look U p (part U a c)
    flat h = look_flat U (c ∷ p) a h ∙ sym (look_flat U p a h) ∙ ap (look U p) (sym (part_flat U a c h))

    go : Kind a → look U (c ∷ p) a ≡ look U p (part U a c)
    go (empty h) = flat (inl h)
    go (leaf h) = flat (inr h)
    go (branch h) = look_branch U c p a h ∙ ap (look U p) (sym (part_branch U a c h))

look_down : (U : Words) (f : ℕ → ℕ) (d a : ℕ) → look U (path_by f d) a ≡ value_at U (end_down U f a d)
unfolding path_by end_down
look_down U f zero a = look_end U a
look_down U f (suc d) a = look_part U (f d) (path_by f d) a ∙ look_down U f d (part U a (f d))

-- the way up from the cell
pub way_rises : (U : Words) (c : Cell) (root : ℕ) → c.depth ≤ deepest
    → Rises U (octants c) (way_of U c root).ids c.depth root (way_of U c root).path 0 (way_of U c root).end
unfolding way_of
way_rises U c root h =
    rw (le-leb c.depth deepest h) (down_rises c.depth (λ b. octant_lt b c.x c.y c.z) (omega (arith, length-replicate 6 root)) top)

way_end : (U : Words) (c : Cell) (root : ℕ) → c.depth ≤ deepest → (way_of U c root).end ≡ end_down U (octants c) root c.depth
unfolding way_of
way_end U c root h = rw (le-leb c.depth deepest h)

-- the dry run along the way is that by the path
pub plan_way : (t : Tables) (v root : ℕ) (c : Cell) → plan_on t v c root (way_of (W t) c root) ≡ result_by t v c root
unfolding plan_on result_by root_plan
plan_way t v root c = split (leb c.depth deepest)
    (λ e.
    let h = leb-true c.depth deepest e in
    let w : Way = way_of (W t) c root in
    let z : c.depth - 0 ≡ c.depth = omega arith in
    let worth : value_at (W t) w.end ≡ look (W t) (path_to c) root = ap (value_at (W t)) (way_end (W t) c root h) ∙ sym (look_down (W t) (octants c) c.depth root) in
    let up : plan_up t w.ids c.depth 0 w.path (cell_plan t v) ≡ plan_by t v (path_to c) root =
    sym (ap (λ (k : ℕ). plan_up t w.ids k 0 w.path (cell_plan t v)) z) ∙ sym (ap (plan_up t w.ids (c.depth - 0) 0 w.path) (plan_here t v (octants c) w.end)) ∙ rises_plan t v (way_rises (W t) c root h) in
    rw (e, worth, up))
    (λ e. rw e)
