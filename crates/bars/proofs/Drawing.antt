-- The cube that an accepted bar leaves, cell by cell.
use mathlib.Core.Path.{◌≡◌, refl, sym, ap, ◌∙◌, subst}
use Prim.Native.Nat.{ℕ, suc, ◌+◌, ◌^◌, ◌≤◌, ◌<◌}
use native.Mathlib.Decide.{ℕ_discrete, dec_lt}
use native.Mathlib.Omega.{arith}
use borrow.Author.Tests.{ltb-true}
use Rattle.basics.specs.Limits.{deepest, cube_kids, kid_words, largest_value}
use Rattle.paths.specs.declared.IVec3.{IVec3}
use Rattle.paths.specs.Paths.{place, inside}
use Rattle.nodes.specs.Values.{height_at}
use Rattle.nodes.specs.Words.{slot}
use Rattle.nodes.proofs.Sums.{cases}
use Rattle.tree.specs.Tree.{LiveOr0, Root}
use Rattle.tree.specs.Cells.{At}
use Rattle.tree.proofs.Grow.{root_later, height_later}
use Rattle.arena.specs.Calls.{Out}
use Rattle.arena.specs.Tables.{Tables, cap, W, WellFormed}
use Rattle.calls.specs.Cells.{spot, Answers, Alike}
use Rattle.calls.specs.Does.{Kept}
use Rattle.calls.proofs.Expanding.{look_at_lem, expand_at}
use Rattle.calls.proofs.Follows.{held_there, there_kept}
use Rattle.calls.proofs.Once.{ended_small}
use Rattle.calls.proofs.Roots.{kept_reads}
use Rattle.read_cell.specs.Calls.{look_of}
use Rattle.read_cell.proofs.Calls.{look_inside}
use Rattle.read_cell.proofs.Meaning.{wf_made}
use Rattle.edit.specs.Edit.{edit_no}
use Rattle.edit.proofs.Edits.{accepted_past, edit_right, edit_number}
use Rattle.edit.proofs.Law.{deep}
use Rattle.edit.proofs.Theorems.{edit_reads}
use Rattle.bars.specs.Bars.{pass_of, bar_of, Drawn}
use Rattle.bars.proofs.Ways.{edit_at, passed, pass_all, bar_by, bar_first}
use Rattle.bars.proofs.Does.{held_one, held_does, edited, answer_held, still_held, next_held, Ready, ready_first, ready_next}
use Rattle.bars.proofs.Theorems.{bar_accepted}

fit : cube_kids ≤ kid_words
fit = omega arith

-- ## One cell

-- what the number 0 of an edit says of the cell
module _ (t : Tables) (root d x y z v : ℕ) (ok : (edit_at d y z v t root x).no ≡ 0) where
  pub number : edit_no t root d (place x y z) v ≡ 0
  number = sym (edit_number t root d (place x y z) v) ∙ ok

  shallow : d ≤ deepest
  shallow = deep t root d (place x y z) (accepted_past t root d (place x y z) v number).0

  pub within : (x < 2 ^ d) × (y < 2 ^ d) × (z < 2 ^ d)
  unfolding inside
  within =
      let i = look_inside t.arena t.nodes.kids t.nodes.facts t.find root d (place x y z) (accepted_past t root d (place x y z) v number).0 in
      (ltb-true x (2 ^ d) i.0, ltb-true y (2 ^ d) i.1, ltb-true z (2 ^ d) i.2)

  abbrev pub cell : At d
  cell = record { x = x; y = y; z = z; in_x = within.0; in_y = within.1; in_z = within.2 }

-- ## From one root to another: k cells from x on are set

-- the cell s is one of them
abbrev Among : {d : ℕ} → ℕ → ℕ → ℕ → ℕ → At d → Type 0
Among y z x k s = (s.y ≡ y) × (s.z ≡ z) × (x ≤ s.x) × (s.x < x + k)

record Shown (d y z v x k : ℕ) (t : Tables) (a : ℕ) (u : Tables) (r : ℕ) : Type 0 where
  last : 1 ≤ k → x + k ≤ 2 ^ d
  at : (s : At d) → Among y z x k s → Answers u r s v
  elsewhere : (s : At d) → ¬ (Among y z x k s) → Alike u r t a s
  low : height_at (W t) a ≤ d → height_at (W u) r ≤ d
  tidy : Root cube_kids (cap t) d (W t) a → Root cube_kids (cap u) d (W u) r

-- a root that is kept shows what it showed
shown_kept : (d y z v x : ℕ) {t u : Tables} (a : ℕ) → d ≤ deepest → WellFormed cube_kids deepest t → LiveOr0 (cap t) (W t) a → Kept cube_kids deepest t u a
    → Shown d y z v x 0 t a u a
shown_kept d y z v x {t} {u} a h w there k =
    let made = wf_made fit w in
    record {
      last = λ i. absurd (omega arith);
      at = λ s i. absurd (let p = i.2 in let q = i.3 in omega arith);
      elsewhere = λ s i. kept_reads w there k h s;
      low = λ i. rw (← height_later cube_kids (cap t) (W t) (W u) made a there k.keeps) i;
      tidy = λ q. subst (λ (c : ℕ). Root cube_kids c d (W u) a) (sym k.size) (root_later cube_kids (cap t) (W t) (W u) made d a k.keeps q);
    }

-- first j cells, then k more
shown_then : (d y z v x j k : ℕ) {t : Tables} {a : ℕ} {u : Tables} {b : ℕ} {w : Tables} {c : ℕ}
    → Shown d y z v x j t a u b → Shown d y z v (x + j) k u b w c → Shown d y z v x (j + k) t a w c
shown_then d y z v x j k p q = record {
  last = λ h. cases (ℕ_discrete k 0)
      (λ e. let i : 1 ≤ j = omega arith in omega (arith, p.last i))
      (λ e. let i : 1 ≤ k = omega arith in omega (arith, q.last i));
  at = λ s h. let f = h.2 in let g = h.3 in cases (dec_lt s.x (x + j))
      (λ l.
      let e = q.elsewhere s (λ m. let o = m.2 in omega arith) in
      let i = p.at s (h.0, h.1, f, l) in
      record { accepted = e.number ∙ i.accepted; value = e.value ∙ i.value })
      (λ l. q.at s (h.0, h.1, omega arith, omega arith));
  elsewhere = λ s h.
      let e = q.elsewhere s (λ m. h (m.0, m.1, (let o = m.2 in omega arith), (let o = m.3 in omega arith))) in
      let i = p.elsewhere s (λ m. h (m.0, m.1, m.2, (let o = m.3 in omega arith))) in
      record { number = e.number ∙ i.number; value = e.value ∙ i.value };
  low = λ h. q.low (p.low h);
  tidy = λ h. q.tidy (p.tidy h);
}

-- an accepted edit is one cell
module _ {t : Tables} (w : WellFormed cube_kids deepest t) (root d x y z v : ℕ) (high : v ≤ largest_value) (ok : (edit_at d y z v t root x).no ≡ 0) where
  abbrev o : Out
  o = edit_at d y z v t root x

  pub edit_low : height_at (W o.after) o.id ≤ d
  edit_low = (edit_right w root d (place x y z) v high (number t root d x y z v ok)).edited.low

  edit_shown : Shown d y z v x 1 t root o.after o.id
  edit_shown =
      let c = cell t root d x y z v ok in
      let reads = edit_reads w root c v high (number t root d x y z v ok) in
      record {
        last = λ h. let i = c.in_x in omega arith;
        at = λ s h.
            let ex : s.x ≡ x = (let p = h.2 in let q = h.3 in omega arith) in
            let ey = h.0 in
            let ez = h.1 in
            let e : spot s ≡ place x y z = cc in
            record {
              accepted = ap (λ (p : IVec3). (look_of o.after o.id d p).no) e ∙ reads.at.accepted;
              value = ap (λ (p : IVec3). (look_of o.after o.id d p).value) e ∙ reads.at.value;
            };
        elsewhere = λ s h. reads.elsewhere s (λ m. h (m.1, m.2, (let e : s.x ≡ x = m.0 in omega arith), (let e : s.x ≡ x = m.0 in omega arith)));
        low = λ h. edit_low;
        tidy = reads.root;
      }

-- ## The whole bar

shown_more : (d y z v x k : ℕ) {t : Tables} {a : ℕ} {u : Tables} {b : ℕ} {w : Tables} {c : ℕ}
    → Shown d y z v x 1 t a u b → Shown d y z v (suc x) k u b w c → Shown d y z v x (suc k) t a w c
shown_more d y z v x k {t} {a} {u} {b} {w} {c} p q =
    let e : suc x ≡ x + 1 = omega arith in
    let n : 1 + k ≡ suc k = omega arith in
    subst (λ (m : ℕ). Shown d y z v x m t a w c) n (shown_then d y z v x 1 k p (subst (λ (m : ℕ). Shown d y z v m k u b w c) e q))

module _ (d y z v : ℕ) (high : v ≤ largest_value) where
  -- the release of the passing root keeps the next one
  answer_kept : (u : Tables) (r x : ℕ) → Ready u r → (edit_at d y z v u r x).no ≡ 0
      → Kept cube_kids deepest (edit_at d y z v u r x).after (passed d y z v u r x) (edit_at d y z v u r x).id
  answer_kept u r x (w, h) ok =
      let o = edit_at d y z v u r x in
      let e = edited d y z v high u r x w ok in
      there_kept fit e.well (held_does e.well r (still_held d y z v high u r x w ok h)) o.id
      (held_there o.after o.id (answer_held d y z v high u r x w ok)) (held_there (passed d y z v u r x) o.id (next_held d y z v high u r x w ok h))
      (let s = ended_small o.after (passed d y z v u r x) (slot o.id) in omega arith)

  -- the next root made and the passing one released: one cell
  step_shown : (u : Tables) (r x : ℕ) → Ready u r → (edit_at d y z v u r x).no ≡ 0 → Shown d y z v x 1 u r (passed d y z v u r x) (edit_at d y z v u r x).id
  step_shown u r x (w, h) ok =
      let o = edit_at d y z v u r x in
      shown_then d y z v x 1 0 (edit_shown w r d x y z v high ok)
      (shown_kept d y z v (x + 1) o.id (shallow u r d x y z v ok) (edited d y z v high u r x w ok).well
      (held_there o.after o.id (answer_held d y z v high u r x w ok)) (answer_kept u r x (w, h) ok))

  pub step_low : (u : Tables) (r x : ℕ) → Ready u r → (edit_at d y z v u r x).no ≡ 0 → height_at (W u) r ≤ d → height_at (W (passed d y z v u r x)) (edit_at d y z v u r x).id ≤ d
  step_low u r x i ok low = (step_shown u r x i ok).low low

  pass_shown : (k : ℕ) (u : Tables) (r x : ℕ) → Ready u r → (pass_of d y z v u r x k).no ≡ 0
      → Shown d y z v x k u r (pass_of d y z v u r x k).after (pass_of d y z v u r x k).id
  pass_shown =
      pass_all d y z v (λ u r x k. Ready u r) (λ u r x k o. o.no ≡ 0 → Shown d y z v x k u r o.after o.id)
      (λ u r x i ok. record {
        last = λ h. absurd (omega arith);
        at = λ s h. absurd (let p = h.2 in let q = h.3 in omega arith);
        elsewhere = λ s h. record { number = refl; value = refl };
        low = λ h. h;
        tidy = λ h. h;
      })
      (λ u r x k. ready_next d y z v high u r x) (λ u r x k o i e rest ok. shown_more d y z v x k (step_shown u r x i e) (rest ok))
      (λ u r x k i bad ok. absurd (bad ok))

  bar_shown : {t : Tables} → WellFormed cube_kids deepest t → (root x k : ℕ) → (bar_of t root d y z x k v).no ≡ 0
      → Shown d y z v x (suc k) t root (bar_of t root d y z x k v).after (bar_of t root d y z x k v).id
  bar_shown {t} w root x k =
      let o = edit_at d y z v t root x in
      bar_by d y z v t root x k (λ i. i.no ≡ 0 → Shown d y z v x (suc k) t root i.after i.id)
      (λ e ok. shown_more d y z v x k (edit_shown w root d x y z v high e) (pass_shown k o.after o.id (suc x) (ready_first d y z v high t root x w e) ok))
      (λ bad ok. absurd (bad ok))

-- The answer of an accepted bar shows the old cube with the cells of the bar set.
pub bar_drawn : {t : Tables} → WellFormed cube_kids deepest t → (root d y z x k v : ℕ) → v ≤ largest_value → (bar_of t root d y z x k v).no ≡ 0
    → Drawn d t root y z x (x + k) v (bar_of t root d y z x k v).after (bar_of t root d y z x k v).id
bar_drawn {t} w root d y z x k v high ok =
    let e = bar_first d y z v t root x k ok in
    let s = bar_shown d y z v high w root x k ok in
    let u = (bar_of t root d y z x k v).after in
    let r = (bar_of t root d y z x k v).id in
    let p = bar_accepted w root d y z x k v high ok in
    let i = cell t root d x y z v e in
    let one : 1 ≤ suc k = omega arith in
    let there = held_there u r (held_one u r (omega (arith, p.balance r))) in
    record {
      deep = shallow t root d x y z v e;
      inside = (i.in_y, i.in_z, omega (arith, s.last one));
      at = λ a q. s.at a (q.0, q.1, q.2, (let m = q.3 in omega arith));
      elsewhere = λ a q. s.elsewhere a (λ m. q (m.0, m.1, m.2, (let n = m.3 in omega arith)));
      cube = λ h l n.
          let c = expand_at p.well h r there l n in
          record { accepted = c.accepted; size = c.size; cells = λ a. c.cells a ∙ sym (look_at_lem p.well (shallow t root d x y z v e) r there a).value };
      there = there;
      low = s.low (accepted_past t root d (place x y z) v (number t root d x y z v e)).1;
      tidy = s.tidy;
    }
