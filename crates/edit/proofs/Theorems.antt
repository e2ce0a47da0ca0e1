-- What a caller may rely on, over the calls themselves.
use mathlib.Core.Path.{◌≡◌, refl, sym, ap, ◌∙◌, subst}
use mathlib.Core.Logic.{◌≢◌}
use mathlib.Core.List.{List}
use Prim.Native.Nat.{ℕ, ◌-◌, ◌≤◌, ◌<◌}
use native.Mathlib.Decide.{ℕ_discrete, dec_le}
use native.Mathlib.Omega.{arith}
use lib.ListN.{set, length-set}
use borrow.Author.Tests.{eq-eqb, ne_eqb, le-leb, lt-leb}
use Rattle.basics.specs.Limits.{deepest, cube_kids, largest_value}
use Rattle.nodes.specs.Values.{height_at}
use Rattle.nodes.specs.Words.{Words, slot}
use Rattle.nodes.proofs.Sums.{cases, split}
use Rattle.paths.specs.Paths.{whole}
use Rattle.tree.specs.Tree.{LiveOr0, WellMade, Root, look, Extends}
use Rattle.tree.specs.Anew.{Anew}
use Rattle.tree.specs.Edits.{Edited}
use Rattle.tree.specs.Cells.{At, way, Apart}
use Rattle.tree.specs.Lacks.{Need, have, lack, Lacks}
use Rattle.tree.proofs.Canon.{canon}
use Rattle.tree.proofs.CellLaws.{cube_cell, cube_one, cube_onto}
use Rattle.tree.proofs.Grow.{extends_keeps}
use Rattle.tree.proofs.Plan.{plan_lack}
use Rattle.tree.proofs.Room.{tables_bare, there_more, made_more, plan_wider}
use Rattle.arena.specs.Tables.{live_in, Tables, cap, W, WellFormed}
use Rattle.arena.specs.Calls.{full_of}
use Rattle.read_cell.specs.Calls.{look_of, expand_of}
use Rattle.read_cell.proofs.Meaning.{wf_made}
use Rattle.calls.specs.Cells.{spot, stands_at}
use Rattle.edit.specs.Edit.{plan_of, result_of, grant_no, cell_no, edit_no}
use Rattle.edit.specs.Promises.{Posed, then, gives, Reads}
use Rattle.edit.proofs.Planning.{plan_is}
use Rattle.edit.proofs.Law.{deep, root_there}
use Rattle.edit.proofs.Edits.{accepted_past, edit_right}
use Rattle.calls.proofs.Expanding.{look_at_lem, answers_as, answers_alike, way_one, stands_apart, one_set, expand_at, expand_list}
use Rattle.calls.proofs.Roots.{kept_reads}

-- ## Refusal 11

have_not_eleven : (t : Tables) (r : ℕ) → grant_no t (have r) ≡ 11 → ⊥
unfolding grant_no
have_not_eleven t r g = cases (ℕ_discrete r 0)
    (λ z. let y : ◌≡◌ {A = ℕ} 0 11 = (rw (eq-eqb r 0 z) at g) in omega arith)
    (λ z. split (full_of (W t) (slot r))
    (λ f. let y : ◌≡◌ {A = ℕ} 10 11 = (rw (ne_eqb r 0 z, f) at g) in omega arith)
    (λ f. let y : ◌≡◌ {A = ℕ} 0 11 = (rw (ne_eqb r 0 z, f) at g) in omega arith))

lack_eleven : (t : Tables) (k : ℕ) → grant_no t (lack k) ≡ 11 → cap t - 1 - live_in t.arena < k
unfolding grant_no
lack_eleven t k g = cases (dec_le k (cap t - 1 - live_in t.arena))
    (λ l. absurd (let y : ◌≡◌ {A = ℕ} 0 11 = (rw (le-leb k (cap t - 1 - live_in t.arena) l) at g) in omega arith)) (λ l. omega arith)

short_eleven : (t : Tables) (k : ℕ) → cap t - 1 - live_in t.arena < k → grant_no t (lack k) ≡ 11
unfolding grant_no
short_eleven t k h = rw (lt-leb k (cap t - 1 - live_in t.arena) h)

module _ {n tallest : ℕ} {t : Tables} {root d : ℕ} {cell : List ℕ} (q : Posed n tallest t root d cell) (v : ℕ) (low : height_at (W t) root ≤ d) where
  -- if the dry run lacks k nodes, then wherever the result r is made, in tables of that size or of any larger one, exactly k of its nodes are not live now
  pub lack_right : (k r c : ℕ) (W' : Words) → plan_of n t v cell root ≡ lack k → cap t ≤ c → WellMade n c W' → Extends n c (W t) W'
      → Anew n c W' v cell root r → Lacks n c (W t) W' r k
  lack_right k r c W' e h w' g a =
      let bare = tables_bare t.nodes (cap t) q.well.sized.facts in
      plan_lack n c q.several (W t) W' (made_more h bare (wf_made q.words q.well)) w' g v (there_more h q.there) low q.cell_is
      (plan_wider h bare (rw e at (plan_is q.words (omega arith) q.well v root q.there low q.cell_is))) a

  pub past_no : cell_no n t root d cell v ≡ grant_no t (result_of n t v cell root)
  unfolding cell_no
  past_no = rw (le-leb (height_at (W t) root) d low)

  pub result_new : look (W t) cell root ≢ v → result_of n t v cell root ≡ plan_of n t v cell root
  unfolding result_of
  result_new z = rw (ne_eqb (look (W t) cell root) v z)

  pub result_old : look (W t) cell root ≡ v → result_of n t v cell root ≡ have root
  unfolding result_of
  result_old z = rw (eq-eqb (look (W t) cell root) v z)

  -- refusal 11 is given exactly if the cell has another value and the result lacks more nodes than there are free slots
  pub eleven : cell_no n t root d cell v ≡ 11 → (look (W t) cell root ≢ v) × ((k : ℕ) × (plan_of n t v cell root ≡ lack k) × (cap t - 1 - live_in t.arena < k))
  eleven e = cases (ℕ_discrete (look (W t) cell root) v)
      (λ z. absurd (have_not_eleven t root (ap (grant_no t) (sym (result_old z)) ∙ sym past_no ∙ e)))
      (λ z. (z, go (plan_of n t v cell root) refl (ap (grant_no t) (sym (result_new z)) ∙ sym past_no ∙ e)))
    where
      go : (r : Need) → plan_of n t v cell root ≡ r → grant_no t r ≡ 11 → (k : ℕ) × (plan_of n t v cell root ≡ lack k) × (cap t - 1 - live_in t.arena < k)
      go (have r) p g = absurd (have_not_eleven t r g)
      go (lack k) p g = (k, p, lack_eleven t k g)

  pub eleven_given : (k : ℕ) → look (W t) cell root ≢ v → plan_of n t v cell root ≡ lack k → cap t - 1 - live_in t.arena < k → cell_no n t root d cell v ≡ 11
  eleven_given k z p h = past_no ∙ ap (grant_no t) (result_new z ∙ p) ∙ short_eleven t k h

-- ## Canonicity: what shows the same cube is the same id

pub one_id : {tallest d : ℕ} {t : Tables} → WellFormed cube_kids tallest t → d ≤ deepest → (a b : ℕ) → Root cube_kids (cap t) d (W t) a → Root cube_kids (cap t) d (W t) b
    → ((c : At d) → (look_of t a d (spot c)).value ≡ (look_of t b d (spot c)).value) → a ≡ b
one_id {d} {t} w h a b ra rb same = canon cube_kids (cap t) (W t) (wf_made (omega arith) w) (omega arith) d a b ra rb
    (λ q c.
    let k = cube_onto c in
    let at : At d = record { x = k.x; y = k.y; z = k.z; in_x = k.small_x; in_y = k.small_y; in_z = k.small_z } in
    subst (λ (l : List ℕ). look (W t) l a ≡ look (W t) l b) k.path
    (sym (look_at_lem w h a ra.there at).value ∙ same at ∙ (look_at_lem w h b rb.there at).value))

-- ## An edit of a cell of a cube

cell_edited : {d : ℕ} {t : Tables} → WellFormed cube_kids deepest t → (a : ℕ) (c : At d) (v : ℕ) → v ≤ largest_value → edit_no t a d (spot c) v ≡ 0
    → Edited cube_kids (cap t) d (W t) a (way c) v (W (then t a c v)) (gives t a c v)
unfolding whole
cell_edited {d} w a c v h ok = (edit_right w a d (spot c) v h ok).edited

apart_way : {d : ℕ} (c e : At d) → Apart c e → way c ≢ way e
apart_way {d} c e h k = h (cube_one d c.in_x c.in_y c.in_z e.in_x e.in_y e.in_z k)

-- ## Lookup after an accepted edit

pub edit_reads : {d : ℕ} {t : Tables} → WellFormed cube_kids deepest t → (a : ℕ) (c : At d) (v : ℕ) → v ≤ largest_value → edit_no t a d (spot c) v ≡ 0
    → Reads t a c v (then t a c v) (gives t a c v)
edit_reads {d} {t} w a c v high ok =
    let s = edit_right w a d (spot c) v high ok in
    let u = then t a c v in
    let r = gives t a c v in
    let e = cell_edited w a c v high ok in
    let z = s.size in
    let past = accepted_past t a d (spot c) v ok in
    let h = deep t a d (spot c) past.0 in
    let there = root_there t a d (spot c) past.0 in
    let there' : LiveOr0 (cap u) (W u) r = subst (λ (k : ℕ). LiveOr0 k (W u) r) (sym z) e.there in
    let elsewhere : (i : At d) → Apart i c → look (W u) (way i) r ≡ look (W t) (way i) a =
    (λ i q. e.others (way i) (cube_cell d i.x i.y i.z) (apart_way i c q)) in
    record {
      at = answers_as (look_at_lem s.well h r there' c) e.changed;
      elsewhere = λ i q. answers_alike (look_at_lem s.well h r there' i) (look_at_lem w h a there i) (elsewhere i q);
      cube = λ g l m el em.
          let x = expand_at w g a there m em in
          let old = (expand_of t a d m).cube in
          expand_list s.well g r there' l el (set old (stands_at c) v) (length-set old (stands_at c) v ∙ x.size)
          (λ i.
          one_set c v old x.size i (look (W u) (way i) r) (λ q. ap (λ (y : List ℕ). look (W u) y r) (way_one i c q) ∙ e.changed)
          (λ q. elsewhere i (stands_apart i c q) ∙ sym (x.cells i)));
      root = λ q. subst (λ (k : ℕ). Root cube_kids k d (W u) r) (sym z) (record { there = e.there; tidy = e.tidy q.tidy; low = e.low });
      others = λ b l f g i. kept_reads w l (record { well = s.well; size = z; keeps = extends_keeps e.grows b }) g i;
    }
