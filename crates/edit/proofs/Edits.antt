-- What an accepted edit does: well formed stays well formed, nothing that was there moves, and the answer is the edited root.
use mathlib.Core.Path.{◌≡◌, refl, sym, ap, ◌∙◌, subst}
use mathlib.Core.Logic.{◌≢◌, ◌⊎◌, inl, inr, ⊎_elim}
use mathlib.Core.Bool.{false}
use mathlib.Core.List.{List, [], ◌∷◌}
use Prim.Native.Nat.{ℕ, ◌-◌, ◌≤◌}
use native.Mathlib.Decide.{ℕ_discrete, dec_le}
use native.Mathlib.Omega.{arith}
use borrow.Author.Tests.{eq-eqb, ne_eqb, le-leb, lt-leb}
use Rattle.basics.specs.Limits.{deepest, cube_kids, kid_words, largest_value}
use Rattle.nodes.specs.Values.{height_at, value_at}
use Rattle.nodes.specs.Words.{own, value, height, holds, slot}
use Rattle.nodes.proofs.Access.{Within}
use Rattle.nodes.proofs.Counts.{live_nonzero, live_same}
use Rattle.nodes.proofs.Sums.{cases, split}
use Rattle.paths.specs.declared.IVec3.{IVec3}
use Rattle.paths.specs.Paths.{whole}
use Rattle.tree.specs.Tree.{LiveOr0, WellMade, look, Extends}
use Rattle.tree.specs.Anew.{Anew, Answer, asked, made}
use Rattle.tree.specs.Lacks.{Need, have, lack, Plan}
use Rattle.tree.proofs.CellLaws.{cube_cell}
use Rattle.tree.proofs.Making.{edited, renewed, anew_later}
use Rattle.tree.proofs.Plan.{plan_have, plan_lack}
use Rattle.tree.proofs.Room.{plan_some}
use Rattle.arena.specs.Tables.{State, live_in, Tables, cap, W, WellFormed}
use Rattle.arena.specs.Calls.{Out, refused, Fair, fits, full_of, held_at, fresh_node, leaf_anew, branch_anew}
use Rattle.arena.proofs.Inv.{inv_wf, sized_within}
use Rattle.arena.proofs.Leaves.{held_kept}
use Rattle.ledger.proofs.Writes.{held_word, held_here, held_there}
use Rattle.read_cell.specs.Calls.{look_no}
use Rattle.read_cell.proofs.Meaning.{wf_made}
use Rattle.edit.specs.Edit.{plan_of, result_of, make_of, grant_no, granted, answer_of, cell_no, edit_cell, cell_at, edit_no, edit_of}
use Rattle.edit.specs.Promises.{Posed, Effect, Right}
use Rattle.edit.proofs.Growing.{grown_extends}
use Rattle.edit.proofs.Planning.{plan_is}
use Rattle.edit.proofs.Wholes.{content_made}
use Rattle.edit.proofs.Upward.{have_lack, Done, make_done}
use Rattle.edit.proofs.Law.{deep, root_there}

make_no : (n : ℕ) (t : Tables) (x : ℕ) (p : List ℕ) (a h q : ℕ) → (make_of n t x p a h q).no ≡ 0
unfolding make_of leaf_anew branch_anew fresh_node
make_no n t x [] a h q = refl
make_no n t x (c ∷ p) a h q = refl

answer_no : (t : Tables) (r : Need) (new : Out) → new.no ≡ 0 → (answer_of t r new).no ≡ 0
unfolding answer_of
answer_no t (have r) new e = refl
answer_no t (lack k) new e = e

-- ---- one hold granted

granted_empty : (t : Tables) (r : ℕ) → r ≡ 0 → granted t r ≡ t
unfolding granted
granted_empty t r e = rw (eq-eqb r 0 e)

granted_node : (t : Tables) (r : ℕ) → r ≢ 0 → granted t r ≡ held_at t (slot r)
unfolding granted
granted_node t r e = rw (ne_eqb r 0 e)

-- only that count is written
pub granted_word : (t : Tables) (r s f : ℕ) → f ≢ holds → W (granted t r) s f ≡ W t s f
granted_word t r s f d = cases (ℕ_discrete r 0)
    (λ z. rw (granted_empty t r z))
    (λ z. ap (λ (u : Tables). W u s f) (granted_node t r z) ∙ held_word t (slot r) s f d)

pub granted_arena : (t : Tables) (r : ℕ) → (granted t r).arena ≡ t.arena
unfolding held_at
granted_arena t r = cases (ℕ_discrete r 0) (λ z. rw (granted_empty t r z)) (λ z. ap (λ (u : Tables). u.arena) (granted_node t r z))

pub granted_cap : (t : Tables) (r : ℕ) → cap (granted t r) ≡ cap t
granted_cap t r = ap (λ (a : State). a.capacity) (granted_arena t r)

pub granted_live : (t : Tables) (r : ℕ) → live_in (granted t r).arena ≡ live_in t.arena
granted_live t r = ap live_in (granted_arena t r)

granted_effect : {n tallest : ℕ} {t : Tables} (r : ℕ) → WellFormed n tallest t → LiveOr0 (cap t) (W t) r → Effect n t (granted t r) r
granted_effect {t} r w there = record {
  granted_one = λ d. rw (granted_node t r d) (held_here t (slot r) (within there d));
  no_other = λ s l o. other s o;
  only = λ y l. inl (live_same (cap t) (W (granted t r)) (W t) y (sym (granted_word t r (slot y) own (omega arith))) l);
  new = 0;
  count = (let e = granted_live t r in omega arith);
  lacked = inl refl;
}
  where
    within : LiveOr0 (cap t) (W t) r → r ≢ 0 → Within t.nodes (slot r)
    within (inl z) d = absurd (d z)
    within (inr l) d = sized_within (slot r) w.sized l.low

    other : (s : ℕ) → (r ≡ 0) ⊎ (s ≢ slot r) → W (granted t r) s holds ≡ W t s holds
    other s (inl z) = rw (granted_empty t r z)
    other s (inr q) = cases (ℕ_discrete r 0) (λ z. rw (granted_empty t r z)) (λ z. rw (granted_node t r z) (held_there t (slot r) s q))

pub granted_extends : (n : ℕ) (t : Tables) (r : ℕ) → n ≤ kid_words → Extends n (cap t) (W t) (W (granted t r))
unfolding value_at height_at
granted_extends n t r m a l =
    let z = ne_eqb a 0 (live_nonzero l) in
    record {
      still = record { low = l.low; is = granted_word t r (slot a) own (omega arith) ∙ l.is; high = l.high };
      kids = λ i h. sym (granted_word t r (slot a) i (omega arith));
      value = rw z (sym (granted_word t r (slot a) value (omega arith)));
      height = rw z (sym (granted_word t r (slot a) height (omega arith)));
    }

not_full : (t : Tables) (r : ℕ) → r ≢ 0 → grant_no t (have r) ≡ 0 → full_of (W t) (slot r) ≡ false
unfolding grant_no
not_full t r d e = split (full_of (W t) (slot r))
    (λ f. absurd (let z : ◌≡◌ {A = ℕ} 10 0 = (rw (ne_eqb r 0 d, f) at e) in omega arith))
    (λ f. f)

-- refusal 11 was not given: there is room for k nodes
pub grant_room : (t : Tables) (k : ℕ) → grant_no t (lack k) ≡ 0 → k ≤ cap t - 1 - live_in t.arena
unfolding grant_no
grant_room t k e = cases (dec_le k (cap t - 1 - live_in t.arena)) (λ l. l)
    (λ l. absurd (let z : ◌≡◌ {A = ℕ} 11 0 = (rw (lt-leb k (cap t - 1 - live_in t.arena) (omega arith)) at e) in omega arith))

granted_well : {n tallest : ℕ} → n ≤ kid_words → {t : Tables} (r : ℕ) → WellFormed n tallest t → LiveOr0 (cap t) (W t) r → grant_no t (have r) ≡ 0
    → WellFormed n tallest (granted t r)
granted_well m {t} r w (inl z) e = rw (granted_empty t r z) w
granted_well m {t} r w (inr l) e =
    let d = live_nonzero l in
    let o = l.is in
    let h = l.high in
    rw (granted_node t r d) (held_kept (slot r) m w (l.low, omega arith) (not_full t r d e))

-- ---- the number, on any tables

module _ (n : ℕ) (t : Tables) (root d : ℕ) (cell : List ℕ) (v : ℕ) where
  -- what the number 0 says
  pub cell_past : cell_no n t root d cell v ≡ 0 → (height_at (W t) root ≤ d) × (grant_no t (result_of n t v cell root) ≡ 0)
  unfolding cell_no
  cell_past e = cases (dec_le (height_at (W t) root) d)
      (λ l. (l, (rw (le-leb (height_at (W t) root) d l) at e)))
      (λ l. absurd (let z : ◌≡◌ {A = ℕ} 8 0 = (rw (lt-leb (height_at (W t) root) d (omega arith)) at e) in omega arith))

  -- a result that is not there is made as planned
  pub result_plan : (k : ℕ) → result_of n t v cell root ≡ lack k → plan_of n t v cell root ≡ lack k
  unfolding result_of
  result_plan k = cases (ℕ_discrete (look (W t) cell root) v)
      (λ z. rw (eq-eqb (look (W t) cell root) v z) (λ e. absurd (have_lack e)))
      (λ z. rw (ne_eqb (look (W t) cell root) v z) (λ e. e))

  pub cell_accepted : cell_no n t root d cell v ≡ 0 → edit_cell n t root d cell v ≡ answer_of t (result_of n t v cell root) (make_of n t v cell root 1 0)
  unfolding edit_cell
  cell_accepted e = rw (eq-eqb (cell_no n t root d cell v) 0 e)

  -- a refused one changes nothing
  pub cell_refused : cell_no n t root d cell v ≢ 0 → edit_cell n t root d cell v ≡ refused (cell_no n t root d cell v) t
  unfolding edit_cell
  cell_refused e = rw (ne_eqb (cell_no n t root d cell v) 0 e)

  -- the answer's number is the lowest refusal that applies, or 0
  pub cell_number_lem : (edit_cell n t root d cell v).no ≡ cell_no n t root d cell v
  cell_number_lem = cases (ℕ_discrete (cell_no n t root d cell v) 0)
      (λ e. ap (λ (o : Out). o.no) (cell_accepted e) ∙ answer_no t (result_of n t v cell root) (make_of n t v cell root 1 0) (make_no n t v cell root 1 0) ∙ sym e)
      (λ e. ap (λ (o : Out). o.no) (cell_refused e))

-- ---- an accepted edit

module _ {n tallest : ℕ} {t : Tables} {root d : ℕ} {cell : List ℕ} {v : ℕ} (q : Posed n tallest t root d cell) (high : v ≤ largest_value) where
  abbrev new : Out
  new = make_of n t v cell root 1 0

  made_t : WellMade n (cap t) (W t)
  made_t = wf_made q.words q.well

  module _ (low : height_at (W t) root ≤ d) where
    right : (u : Tables) (r : ℕ) → WellFormed n tallest u → cap u ≡ cap t → Extends n (cap t) (W t) (W u) → Answer n (cap t) (W t) (W u) root cell v r → Effect n t u r
        → Right n tallest t root d cell v u r
    right u r wu size ext ans eff = record {
      well = wu;
      size = size;
      edited = edited (omega arith) made_t q.there low q.cell_is ext (subst (λ (c : ℕ). WellMade n c (W u)) size (wf_made q.words wu)) ans;
      effect = eff;
      answer = ans;
    }

    -- an answer that was there
    there_right : (r : ℕ) → LiveOr0 (cap t) (W t) r → grant_no t (have r) ≡ 0 → Answer n (cap t) (W t) (W (granted t r)) root cell v r
        → Right n tallest t root d cell v (granted t r) r
    there_right r l g ans =
        right (granted t r) r (granted_well q.words r q.well l g) (granted_cap t r) (granted_extends n t r q.words) ans (granted_effect r q.well l)

    have_right : (r : ℕ) → look (W t) cell root ≢ v → plan_of n t v cell root ≡ have r → grant_no t (have r) ≡ 0 → Right n tallest t root d cell v (granted t r) r
    have_right r e pl g =
        let a : Anew n (cap t) (W t) v cell root r = plan_have (rw pl at (plan_is q.words (omega arith) q.well v root q.there low q.cell_is)) in
        let z = renewed n (cap t) (omega arith) (W t) made_t v q.there low q.cell_is a in
        there_right r z.there g (made e (anew_later made_t (granted_extends n t r q.words) q.there q.cell_is a))

    -- an answer that is made
    module _ (k : ℕ) (pl : plan_of n t v cell root ≡ lack k) where
      plan_lacks : Plan n (cap t) (W t) v cell root (lack k)
      plan_lacks = rw pl at (plan_is q.words (omega arith) q.well v root q.there low q.cell_is)

      pub lack_done : grant_no t (lack k) ≡ 0 → Done n tallest t v cell root k 1 0 new
      lack_done g =
          let l = grant_room t k g in
          let one = plan_some plan_lacks in
          make_done q.words q.several q.well v high root k 1 0 q.there low q.deep q.cell_is pl (omega arith) (omega arith) (omega arith)

      lack_effect : Done n tallest t v cell root k 1 0 new → Effect n t new.after new.id
      lack_effect r =
          let low-id = r.live.low in
          record {
            granted_one = λ d. r.held ∙ (let z = (q.well.cleared (slot new.id) low-id r.dead).words holds (omega arith) (omega arith) (omega arith) in omega arith);
            no_other = λ s l o. r.holds_kept s l (⊎_elim (λ z. absurd (live_nonzero r.live z)) (λ z. z) o);
            only = r.only;
            new = k;
            count = r.grown.lives;
            lacked = inr (plan_lack n (cap t) q.several (W t) (W new.after) made_t
                (subst (λ (c : ℕ). WellMade n c (W new.after)) r.grown.caps (content_made n tallest (cap new.after) (W new.after) q.words r.grown.inv.sized.most r.grown.content))
                (grown_extends r.grown q.words) v q.there low q.cell_is plan_lacks r.anew);
          }

      lack_right : look (W t) cell root ≢ v → grant_no t (lack k) ≡ 0 → Right n tallest t root d cell v new.after new.id
      lack_right e g =
          let r = lack_done g in
          right new.after new.id (inv_wf n tallest r.grown.inv r.grown.content) r.grown.caps (grown_extends r.grown q.words) (made e r.anew) (lack_effect r)

    answer_right : (r : Need) → look (W t) cell root ≢ v → plan_of n t v cell root ≡ r → grant_no t r ≡ 0
        → Right n tallest t root d cell v (answer_of t r new).after (answer_of t r new).id
    unfolding answer_of
    answer_right (have r) e pl g = have_right r e pl g
    answer_right (lack k) e pl g = lack_right k pl e g

    old : look (W t) cell root ≡ v → grant_no t (have root) ≡ 0 → Right n tallest t root d cell v (answer_of t (have root) new).after (answer_of t (have root) new).id
    unfolding answer_of
    old z g = there_right root q.there g (asked z refl)

    result_right : grant_no t (result_of n t v cell root) ≡ 0
        → Right n tallest t root d cell v (answer_of t (result_of n t v cell root) new).after (answer_of t (result_of n t v cell root) new).id
    unfolding result_of
    result_right g = cases (ℕ_discrete (look (W t) cell root) v)
        (λ z. rw (eq-eqb (look (W t) cell root) v z) (old z (rw (eq-eqb (look (W t) cell root) v z) at g)))
        (λ z. rw (ne_eqb (look (W t) cell root) v z) (answer_right (plan_of n t v cell root) z refl (rw (ne_eqb (look (W t) cell root) v z) at g)))

  -- an accepted edit of well-formed tables is right
  pub cell_right : cell_no n t root d cell v ≡ 0 → Right n tallest t root d cell v (edit_cell n t root d cell v).after (edit_cell n t root d cell v).id
  cell_right e =
      let a = cell_past n t root d cell v e in
      subst (λ (o : Out). Right n tallest t root d cell v o.after o.id) (sym (cell_accepted n t root d cell v e)) (result_right a.0 a.1)

  -- so every edit keeps well-formed tables well formed
  pub cell_well : WellFormed n tallest (edit_cell n t root d cell v).after
  cell_well = cases (ℕ_discrete (cell_no n t root d cell v) 0)
      (λ e. (cell_right e).well)
      (λ e. subst (λ (o : Out). WellFormed n tallest o.after) (sym (cell_refused n t root d cell v e)) q.well)

-- ---- the cube

pub posed : {t : Tables} → WellFormed cube_kids deepest t → (root d : ℕ) (p : IVec3) → look_no t root d p ≡ 0 → Posed cube_kids deepest t root d (cell_at d p)
posed {t} w root d p n = record {
  words = omega arith;
  several = omega arith;
  well = w;
  there = root_there t root d p n;
  deep = deep t root d p n;
  cell_is = cube_cell d (whole p.x) (whole p.y) (whole p.z);
}

module _ (t : Tables) (root d : ℕ) (p : IVec3) (v : ℕ) where
  -- past the refusals of a lookup it is the edit of the cell
  pub past_look : look_no t root d p ≡ 0
      → (edit_no t root d p v ≡ cell_no cube_kids t root d (cell_at d p) v) × (edit_of t root d p v ≡ edit_cell cube_kids t root d (cell_at d p) v)
  unfolding edit_no edit_of
  past_look n = (rw (eq-eqb (look_no t root d p) 0 n), rw (eq-eqb (look_no t root d p) 0 n))

  not_past : look_no t root d p ≢ 0 → (edit_no t root d p v ≡ look_no t root d p) × (edit_of t root d p v ≡ refused (look_no t root d p) t)
  unfolding edit_no edit_of
  not_past n = (rw (ne_eqb (look_no t root d p) 0 n), rw (ne_eqb (look_no t root d p) 0 n))

  -- the answer's number is the lowest refusal that applies, or 0
  pub edit_number : (edit_of t root d p v).no ≡ edit_no t root d p v
  edit_number = cases (ℕ_discrete (look_no t root d p) 0)
      (λ n. let e = past_look n in ap (λ (o : Out). o.no) e.1 ∙ cell_number_lem cube_kids t root d (cell_at d p) v ∙ sym e.0)
      (λ n. let e = not_past n in ap (λ (o : Out). o.no) e.1 ∙ sym e.0)

  -- a refused one changes nothing
  pub edit_refused : edit_no t root d p v ≢ 0 → edit_of t root d p v ≡ refused (edit_no t root d p v) t
  edit_refused h = cases (ℕ_discrete (look_no t root d p) 0)
      (λ n. let e = past_look n in e.1 ∙ cell_refused cube_kids t root d (cell_at d p) v (λ z. h (e.0 ∙ z)) ∙ ap (λ (k : ℕ). refused k t) (sym e.0))
      (λ n. let e = not_past n in e.1 ∙ ap (λ (k : ℕ). refused k t) (sym e.0))

  -- what the number 0 says
  pub accepted_past : edit_no t root d p v ≡ 0
      → (look_no t root d p ≡ 0) × (height_at (W t) root ≤ d) × (grant_no t (result_of cube_kids t v (cell_at d p) root) ≡ 0)
  accepted_past z = cases (ℕ_discrete (look_no t root d p) 0)
      (λ n. let a = cell_past cube_kids t root d (cell_at d p) v (sym (past_look n).0 ∙ z) in (n, a.0, a.1))
      (λ n. absurd (n (sym (not_past n).0 ∙ z)))

  -- what holds of a refusal, and of the edit of a cell, holds of the edit of a cube
  pub by_cell : WellFormed cube_kids deepest t → (P : Out → Type 0) → ((k : ℕ) → k ≢ 0 → P (refused k t))
      → (Posed cube_kids deepest t root d (cell_at d p) → P (edit_cell cube_kids t root d (cell_at d p) v)) → P (edit_of t root d p v)
  by_cell w P none some = cases (ℕ_discrete (look_no t root d p) 0)
      (λ n. subst P (sym (past_look n).1) (some (posed w root d p n)))
      (λ n. subst P (sym (not_past n).1) (none (look_no t root d p) n))

module _ {t : Tables} (w : WellFormed cube_kids deepest t) (root d : ℕ) (p : IVec3) (v : ℕ) (high : v ≤ largest_value) where
  -- an accepted edit of well-formed tables is right
  pub edit_right : edit_no t root d p v ≡ 0 → Right cube_kids deepest t root d (cell_at d p) v (edit_of t root d p v).after (edit_of t root d p v).id
  edit_right z =
      let n = (accepted_past t root d p v z).0 in
      let e = past_look t root d p v n in
      subst (λ (o : Out). Right cube_kids deepest t root d (cell_at d p) v o.after o.id) (sym e.1) (cell_right (posed w root d p n) high (sym e.0 ∙ z))

  -- so every edit keeps well-formed tables well formed
  pub edit_well : WellFormed cube_kids deepest (edit_of t root d p v).after
  edit_well = by_cell t root d p v w (λ o. WellFormed cube_kids deepest o.after) (λ k h. w) (λ q. cell_well q high)

-- ---- tables that are well formed or not sized

-- an edit of tables that are not sized is refused by 1
pub edit_unfit : (t : Tables) (root d : ℕ) (p : IVec3) (v : ℕ) → fits t ≡ false → edit_of t root d p v ≡ refused 1 t
unfolding edit_of look_no
edit_unfit t root d p v f = rw f

-- either stays so
pub edit_fair : {t : Tables} (root d : ℕ) (p : IVec3) (v : ℕ) → v ≤ largest_value → Fair cube_kids deepest t → Fair cube_kids deepest (edit_of t root d p v).after
edit_fair {t} root d p v h (inl f) = inl (ap (λ (o : Out). fits o.after) (edit_unfit t root d p v f) ∙ f)
edit_fair root d p v h (inr w) = inr (edit_well w root d p v h)
