-- Intern branch on well-formed tables: the code's answer is the definition's, and well formed stays well formed.
use mathlib.Core.Path.{◌≡◌, refl, sym, ap, ◌∙◌, subst}
use mathlib.Core.Logic.{◌≢◌, inl, inr}
use mathlib.Core.Bool.{Bool, true, false}
use mathlib.Core.List.{List, [], ◌++◌}
use Prim.Native.Nat.{ℕ, ◌+◌, ◌≤◌, ◌<◌}
use native.Mathlib.Decide.{ℕ_discrete, dec_lt}
use native.Mathlib.Omega.{arith}
use lib.Dec.{eqb, leb, ltb}
use lib.ListN.{length, get_or}
use borrow.Author.Tests.{eq-eqb, ne_eqb, eqb-true, leb-false, ltb-true, le-leb, lt-leb, lt-ltb, le-ltb}
use Rattle.basics.specs.Pick.{pick}
use Rattle.basics.proofs.Rungs.{past_yes, past_no}
use Rattle.ids.specs.Ids.{is_leaf}
use Rattle.nodes.specs.Tally.{kids_of, Live, occ}
use Rattle.nodes.specs.Values.{height_at}
use Rattle.nodes.specs.Words.{own, value, height, hash, holds, places, mark, word_of}
use Rattle.nodes.proofs.Counts.{kid_live, kid_placed}
use Rattle.nodes.proofs.Sums.{cases, split}
use Rattle.find_hash.specs.Hash.{kids_hash}
use Rattle.find.specs.Cells.{kids_cell}
use Rattle.find.specs.Content.{kids_are}
use Rattle.find.proofs.Contents.{kids_true, kids_words, kids_are_lem}
use Rattle.arena.specs.Calls.{Out, said, refused, fits, Fair, full_of, room_of, held_at, all_live, all_of, live_or_empty, enough_for, enough, none_of, branch_in, branch_slot, intern_branch_no, unheld, placed, branch_made, intern_branch_of}
use Rattle.arena.specs.Models.{branch_at, top_for, kids_for, sum_by, taken_by, late_no, first_no, lives_at, branch_new_by, branch_take_by, branch_by, intern_branch_by}
use Rattle.arena.specs.Node.{sum_for, value_for, height_for}
use Rattle.arena.specs.Tables.{tables_of, Tables, cap, W, LiveSlot, WellFormed}
use Rattle.arena.proofs.Branches.{alive, some_kid, branch_words, slot_lone, unheld_eased, unheld_inv, Placing, placing}
use Rattle.arena.proofs.Eight.{all_at, all_true}
use Rattle.arena.proofs.Fits.{live_is, is_live, sized_fits, room_yes}
use Rattle.arena.proofs.Fresh.{sum_same, value_same, height_same, sum_by_lem, branch_makes, search_ends, branch_fresh_lem}
use Rattle.arena.proofs.Inv.{Inv, Content, wf_inv, wf_content, inv_wf, content_recount}
use Rattle.arena.proofs.Ids.{node_leaf, node_branch, max_ext}
use Rattle.arena.proofs.Leaves.{held_kept, hit_is_held}
use Rattle.arena.proofs.Scan.{find_hit}
use Rattle.arena.proofs.Searched.{not_ground, kids_hash_lem, kids_one, search_hit, search_miss}
use Rattle.arena.proofs.Taking.{lasts_law, placed_taken, taken_unheld}

pub full_few : (t : Tables) (s : ℕ) → full_of (W t) s ≡ false → W t s holds < 1000000
unfolding full_of
full_few t s f = leb-false 1000000 (W t s holds) f

few_full : (t : Tables) (s : ℕ) → W t s holds < 1000000 → full_of (W t) s ≡ false
unfolding full_of
few_full t s h = lt-leb 1000000 (W t s holds) h

pub found_slot : (t : Tables) (ks : List ℕ) → branch_slot t ks ≢ 0 → (branch_in t ks (branch_slot t ks) ≡ true) × (branch_slot t ks < cap t)
unfolding branch_slot
found_slot t ks d = find_hit (branch_in t ks) (cap t) d

-- ---- whether it is there

module _ {n tallest : ℕ} {t : Tables} (m : n ≤ 8) (w : WellFormed n tallest t) (ks : List ℕ) (e : length ks ≡ 8) (some : none_of ks ≡ false) where
  abbrev same : ℕ → Bool
  same = kids_are (W t) (kids_hash ks) ks

  -- a live slot with these children has a branch, with their hash
  is_branch_lem : (s : ℕ) → LiveSlot t s → ((i : ℕ) → i < 8 → W t s i ≡ get_or ks i 0) → (is_leaf (W t s own) ≡ false) × (W t s hash ≡ kids_hash ks)
  is_branch_lem s l h = split (is_leaf (W t s own))
      (λ f. absurd (
      let k = some_kid ks some in
      let j = k.1 in
      k.2 (sym (h k.0 (omega arith)) ∙ (node_leaf m l.0 w.sized.most (w.nodes s l) f).bare k.0 (omega arith))))
      (λ f. (f, kids_hash_lem m w s l f ∙ ap kids_hash (kids_are_lem (W t) s ks e h)))

  slot_in : branch_slot t ks ≢ 0 → LiveSlot t (branch_slot t ks) × ((i : ℕ) → i < 8 → W t (branch_slot t ks) i ≡ get_or ks i 0)
  slot_in d =
      let r = found_slot t ks d in
      let b = branch_words t ks (branch_slot t ks) r.0 in
      ((r.1, b.0), (λ i j. let z : 0 + i ≡ i = omega arith in ap (word_of t.nodes (branch_slot t ks)) (sym z) ∙ b.1 i (omega arith)))

  no_branch : branch_slot t ks ≡ 0 → (x : ℕ) → 0 < x → LiveSlot t x → same x ≡ false
  no_branch z x p l = split (same x)
      (λ h. absurd (slot_lone t ks e z x l (omega arith) (kids_words (W t) (kids_hash ks) ks x e h).1))
      (λ h. h)

  found_law : branch_slot t ks ≢ 0 → branch_by n tallest t ks ≡ branch_at n tallest t ks (branch_slot t ks) (kids_for t ks)
  unfolding branch_by kids_cell
  found_law d =
      let q = slot_in d in
      let b = is_branch_lem (branch_slot t ks) q.0 q.1 in
      let r = search_hit m w same (kids_hash ks) (branch_slot t ks) q.0 b.1 (kids_true (W t) (kids_hash ks) ks (branch_slot t ks) e b.1 q.1)
      (λ x l h. kids_one m w x (branch_slot t ks) l q.0 b.0 (λ i j. (kids_words (W t) (kids_hash ks) ks x e h).1 i j ∙ sym (q.1 i j))) in
      rw r

  none_law : branch_slot t ks ≡ 0 → branch_by n tallest t ks ≡ branch_at n tallest t ks (branch_slot t ks) (kids_for t ks)
  unfolding branch_by kids_cell
  none_law z = let r = search_miss m w same (kids_hash ks) (no_branch z) in rw (r, z)

  -- where it is there its children live, and it is no taller than allowed
  there_live : branch_slot t ks ≢ 0 → all_live (cap t) (W t) ks ≡ true
  unfolding live_or_empty
  there_live d = all_true (live_or_empty (cap t) (W t)) ks (λ y o. cases (ℕ_discrete y 0)
      (λ z. rw (eq-eqb y 0 z))
      (λ z.
      let q = slot_in d in
      let k : kids_of 8 (W t) (branch_slot t ks) ≡ ks = kids_are_lem (W t) (branch_slot t ks) ks e q.1 in
      rw (ne_eqb y 0 z) (is_live t y (kid_live (wf_inv m w).counts (branch_slot t ks) y q.0.0 z (subst (λ (l : List ℕ). 1 ≤ occ y l) (sym k) o)))))

  there_low : branch_slot t ks ≢ 0 → height_for n (W t) ks ≤ tallest
  unfolding height_for
  there_low d =
      let q = slot_in d in
      let b = node_branch m q.0.0 w.sized.most (w.nodes (branch_slot t ks) q.0) (is_branch_lem (branch_slot t ks) q.0 q.1).0 in
      let l = b.low in
      let h = b.tall in
      let x = max_ext n (λ i. height_at (W t) (W t (branch_slot t ks) i)) (λ i. height_at (W t) (get_or ks i 0)) (λ i j. ap (height_at (W t)) (q.1 i (omega arith))) in
      omega arith

-- ---- what it comes to, its children live

module _ {n tallest : ℕ} {t : Tables} (m : n ≤ 8) (pos : 1 ≤ n) (w : WellFormed n tallest t) (ks : List ℕ) (e : length ks ≡ 8)
    (beyond : (i : ℕ) → n ≤ i → i < 8 → get_or ks i 0 ≡ 0) (some : none_of ks ≡ false) (lives : all_live (cap t) (W t) ks ≡ true) where
  inv : Inv t []
  inv = wf_inv m w

  kid_there : (y : ℕ) → y ≢ 0 → 1 ≤ occ y ks → Live (cap t) (W t) y
  kid_there y d o = live_is t y (alive t ks lives y d o)

  con : Content n tallest (cap t) (W t)
  con = wf_content w

  hold_few : full_of (W t) (branch_slot t ks) ≡ false → full_of (word_of (unheld t.nodes ks)) (branch_slot t ks) ≡ false
  hold_few f = few_full (tables_of t.arena (unheld t.nodes ks) t.find) (branch_slot t ks)
      (let p = (unheld_eased ks t.nodes).fewer (branch_slot t ks) in let q = full_few t (branch_slot t ks) f in omega arith)

  hit_kept : branch_slot t ks ≢ 0 → full_of (W t) (branch_slot t ks) ≡ false → WellFormed n tallest (held_at (tables_of t.arena (unheld t.nodes ks) t.find) (branch_slot t ks))
  hit_kept d f =
      let q = slot_in m w ks e some d in
      let k : kids_of 8 (W t) (branch_slot t ks) ≡ ks = kids_are_lem (W t) (branch_slot t ks) ks e q.1 in
      let eased = unheld_eased ks t.nodes in
      let u : Inv (tables_of t.arena (unheld t.nodes ks) t.find) [] = unheld_inv t.arena t.find [] ks t.nodes inv
      (λ y z o. (kid_there y z o, kid_placed inv.counts (branch_slot t ks) y q.0.0 z (subst (λ (l : List ℕ). 1 ≤ occ y l) (sym k) o))) in
      let well : WellFormed n tallest (tables_of t.arena (unheld t.nodes ks) t.find) = inv_wf n tallest u
      (content_recount n tallest (cap t) (W t) (word_of (unheld t.nodes ks)) m (λ b g j. eased.words b g (omega arith) (omega arith) (omega arith))
      (λ b l h. let x = eased.fewer b in let y = (w.nodes b (l, h)).few in omega arith) con) in
      held_kept (branch_slot t ks) m well
      (q.0.0, (let x = eased.words (branch_slot t ks) own (omega arith) (omega arith) (omega arith) in let y = q.0.1 in omega arith))
      (hold_few f)

  -- ---- there is none
  abbrev u : Tables
  u = tables_of t.arena (placed t.nodes ks) t.find

  place : Placing t.arena t.nodes t.find ks
  place = placing t.arena t.find ks t.nodes (omega arith) inv kid_there

  u_word : (b f : ℕ) → f ≤ mark → f ≢ holds → f ≢ places → W u b f ≡ W t b f
  u_word = place.eased.words

  u_live : (x : ℕ) → LiveSlot u x → LiveSlot t x
  u_live x l = let q = u_word x own (omega arith) (omega arith) (omega arith) in let h = l.1 in (l.0, omega arith)

  value_u : value_for n (W u) ks ≡ value_for n (W t) ks
  value_u = value_same n (W t) (W u) ks (λ b. u_word b value (omega arith) (omega arith) (omega arith))

  height_u : height_for n (W u) ks ≡ height_for n (W t) ks
  height_u = height_same n (W t) (W u) ks (λ b. u_word b height (omega arith) (omega arith) (omega arith))

  sum_u : sum_by n (W t) ks ≡ sum_for n (W u) ks
  sum_u = sum_by_lem n tallest m pos t ks e con kid_there ∙ sym (sum_same n (W t) (W u) ks (λ b. u_word b value (omega arith) (omega arith) (omega arith)))

  made_law : (top : ℕ) → height_for n (W t) ks ≡ top + 1 → branch_slot t ks ≡ 0 → room_of t.arena ≡ true
      → branch_new_by (tables_of t.arena (taken_by t.nodes ks) t.find) ks (value_for n (W t) ks) top (sum_by n (W t) ks) (kids_for t ks) ≡ branch_made n t ks
  unfolding branch_new_by branch_made kids_cell
  made_law top h z r =
      let room = room_yes t.arena r in
      rw (placed_taken t.nodes ks, place.same)
      (branch_fresh_lem (ks ++ []) place.inv room n ks (value_for n (W t) ks) (top + 1) (sum_by n (W t) ks) (kids_hash ks) 1 0 (kids_for t ks)
      (sym value_u) (sym h ∙ sym height_u) sum_u refl
      (search_ends (ks ++ []) place.inv room (kids_hash ks) (same m w ks e some) (λ x p l. no_branch m w ks e some z x p (u_live x l))))

  -- ---- well formed afterwards

  u_content : Content n tallest (cap t) (W u)
  u_content =
      content_recount n tallest (cap t) (W t) (W u) m (λ b g j. u_word b g (omega arith) (omega arith) (omega arith))
      (λ b l h. let x = place.eased.fewer b in let y = (w.nodes b (l, h)).few in omega arith) con

  pub made_kept : branch_slot t ks ≡ 0 → room_of t.arena ≡ true → height_for n (W t) ks ≤ tallest → WellFormed n tallest (branch_made n t ks).after
  unfolding branch_made
  made_kept z r low =
      let h = height_u in
      let g = (branch_makes n tallest m pos ks 1 0 e beyond some place.inv u_content (room_yes t.arena r) (omega arith) (omega arith) (omega arith)
      (λ x l k. slot_lone t ks e z x (u_live x l) (let o = not_ground w x (u_live x l) in omega arith)
      (λ j b. sym (u_word x j (omega arith) (omega arith) (omega arith)) ∙ k j b))).grown in
      inv_wf n tallest g.inv g.content

-- ---- the two theorems

pub height_top : (n : ℕ) (t : Tables) (ks : List ℕ) → height_for n (W t) ks ≡ top_for (W t) ks n + 1
unfolding height_for top_for
height_top n t ks = omega arith

-- refusal 1, and 7: of eight EMPTY ids each is EMPTY, and takes no hold
unsized_law : (n tallest : ℕ) (t : Tables) (ks : List ℕ) → fits t ≡ false → intern_branch_by n tallest t ks ≡ intern_branch_of n tallest t ks
unfolding intern_branch_by intern_branch_of intern_branch_no
unsized_law n tallest t ks u = rw u

module _ (n tallest : ℕ) (t : Tables) (ks : List ℕ) (none : none_of ks ≡ true) where
  all_none : (p : ℕ → Bool) → p 0 ≡ true → all_of p ks ≡ true
  unfolding none_of
  all_none p z = all_true p ks (λ y o. let q = eqb-true y 0 (all_at (λ k. eqb k 0) ks y none o) in rw q z)

  none_refused : fits t ≡ true → (intern_branch_by n tallest t ks ≡ intern_branch_of n tallest t ks) × (t ≡ (intern_branch_of n tallest t ks).after)
  unfolding intern_branch_by intern_branch_of intern_branch_no live_or_empty enough_for
  none_refused f = rw (f, none, all_none (live_or_empty (cap t) (W t)) refl, all_none (enough_for (W t) ks) refl) (refl, refl)

module _ {n tallest : ℕ} {t : Tables} (m : n ≤ 8) (pos : 1 ≤ n) (w : WellFormed n tallest t) (ks : List ℕ) (e : length ks ≡ 8)
    (beyond : (i : ℕ) → n ≤ i → i < 8 → get_or ks i 0 ≡ 0) (some : none_of ks ≡ false) where
  by_is : intern_branch_by n tallest t ks ≡ branch_by n tallest t ks
  unfolding intern_branch_by
  by_is = rw (sized_fits w.sized, some)

  -- the refusals after 5
  abbrev late : ℕ
  late = late_no tallest t.arena (W t) (branch_slot t ks) (top_for (W t) ks n)

  late_is : pick (leb (height_for n (W t) ks) tallest) (pick (eqb (branch_slot t ks) 0) (pick (room_of t.arena) 0 11) (pick (full_of (W t) (branch_slot t ks)) 10 0)) 8 ≡ late
  unfolding late_no
  late_is =
      let q = height_top n t ks in
      cases (ℕ_discrete (branch_slot t ks) 0)
      (λ z. cases (dec_lt (top_for (W t) ks n) tallest)
      (λ l. rw (eq-eqb (branch_slot t ks) 0 z, lt-ltb (top_for (W t) ks n) tallest l, le-leb (height_for n (W t) ks) tallest (omega arith)))
      (λ l. rw (eq-eqb (branch_slot t ks) 0 z, le-ltb (top_for (W t) ks n) tallest (omega arith), lt-leb (height_for n (W t) ks) tallest (omega arith))))
      (λ z. rw (ne_eqb (branch_slot t ks) 0 z, le-leb (height_for n (W t) ks) tallest (there_low m w ks e some z)))

  no_is : intern_branch_no n tallest t ks ≡ pick (all_live (cap t) (W t) ks) (pick (enough (W t) ks) late 5) 4
  unfolding intern_branch_no
  no_is = rw (sized_fits w.sized, some, late_is)

  lives_is : lives_at (cap t) (W t) ks (branch_slot t ks) ≡ all_live (cap t) (W t) ks
  unfolding lives_at
  lives_is = cases (ℕ_discrete (branch_slot t ks) 0) (λ z. rw (eq-eqb (branch_slot t ks) 0 z)) (λ z. rw (ne_eqb (branch_slot t ks) 0 z) (sym (there_live m w ks e some z)))

  abbrev taking : Out
  taking = branch_take_by n t ks (branch_slot t ks) (kids_for t ks)

  abbrev first : ℕ
  first = pick (eqb late 0) 0 (pick (enough (W t) ks) late 5)

  at_is : intern_branch_by n tallest t ks ≡ pick (all_live (cap t) (W t) ks) (pick (eqb first 0) taking (refused first t)) (refused 4 t)
  unfolding branch_at first_no
  at_is = by_is ∙ cases (ℕ_discrete (branch_slot t ks) 0) (none_law m w ks e some) (found_law m w ks e some) ∙ rw lives_is

  abbrev answer : ℕ → Out
  answer x = pick (eqb x 0) (pick (eqb (branch_slot t ks) 0) (branch_made n t ks) (said 0 (W t (branch_slot t ks) own) (held_at (tables_of t.arena (unheld t.nodes ks) t.find) (branch_slot t ks)))) (refused x t)

  of_is : intern_branch_of n tallest t ks ≡ answer (intern_branch_no n tallest t ks)
  unfolding intern_branch_of
  of_is = refl

  -- the code's answer, the definition's, and well formed
  abbrev Ends : Type 0
  Ends = (intern_branch_by n tallest t ks ≡ intern_branch_of n tallest t ks) × WellFormed n tallest (intern_branch_of n tallest t ks).after

  ends : (x : Out) (k : ℕ) → intern_branch_by n tallest t ks ≡ x → intern_branch_no n tallest t ks ≡ k → answer k ≡ x → WellFormed n tallest x.after → Ends
  ends x k a b c y =
      let q : x ≡ intern_branch_of n tallest t ks = sym c ∙ ap answer (sym b) ∙ sym of_is in
      (a ∙ q, subst (λ (o : Out). WellFormed n tallest o.after) q y)

  module _ (a : all_live (cap t) (W t) ks ≡ true) where
    few : enough (W t) ks ≡ false → pick (eqb first 0) taking (refused first t) ≡ refused 5 t
    unfolding branch_take_by
    few h = cases (ℕ_discrete late 0) (λ z. rw (eq-eqb late 0 z, lasts_law t ks a ∙ h)) (λ z. rw (ne_eqb late 0 z, h))

    module _ (h : enough (W t) ks ≡ true) (z : late ≡ 0) where
      fresh : branch_slot t ks ≡ 0 → Ends
      unfolding late_no branch_take_by
      fresh y =
          let q = height_top n t ks in
          let p = past_yes (ltb (top_for (W t) ks n) tallest) (pick (room_of t.arena) 0 11) 8 0 (omega arith) (rw (eq-eqb (branch_slot t ks) 0 y) at z) in
          let r = (past_yes (room_of t.arena) 0 11 0 (omega arith) p.1).0 in
          let l = ltb-true (top_for (W t) ks n) tallest p.0 in
          ends (branch_made n t ks) 0
          (at_is ∙ rw (a, eq-eqb late 0 z, lasts_law t ks a ∙ h, eq-eqb (branch_slot t ks) 0 y) (made_law m pos w ks e beyond some a (top_for (W t) ks n) q y r))
          (no_is ∙ rw (a, h) z) (rw (eq-eqb (branch_slot t ks) 0 y)) (made_kept m pos w ks e beyond some a y r (omega arith))

      found : branch_slot t ks ≢ 0 → Ends
      unfolding late_no branch_take_by
      found y =
          let u = tables_of t.arena (unheld t.nodes ks) t.find in
          let f = (past_no (full_of (W t) (branch_slot t ks)) 10 0 0 (omega arith) (rw (ne_eqb (branch_slot t ks) 0 y) at z)).0 in
          ends (said 0 (W t (branch_slot t ks) own) (held_at u (branch_slot t ks))) 0
          (at_is ∙ rw (a, eq-eqb late 0 z, lasts_law t ks a ∙ h, ne_eqb (branch_slot t ks) 0 y, taken_unheld t.nodes ks)
          (hit_is_held u (branch_slot t ks) (hold_few m pos w ks e beyond some a f)
          ∙ ap (λ (o : ℕ). said 0 o (held_at u (branch_slot t ks))) ((unheld_eased ks t.nodes).words (branch_slot t ks) own (omega arith) (omega arith) (omega arith))))
          (no_is ∙ rw (a, h) z) (rw (ne_eqb (branch_slot t ks) 0 y)) (hit_kept m pos w ks e beyond some a y f)

  done : Ends
  done = split (all_live (cap t) (W t) ks)
      (λ a. split (enough (W t) ks)
      (λ h. cases (ℕ_discrete late 0)
      (λ z. cases (ℕ_discrete (branch_slot t ks) 0) (fresh a h z) (found a h z))
      (λ z. ends (refused late t) late (at_is ∙ rw (a, h, ne_eqb late 0 z, ne_eqb late 0 z)) (no_is ∙ rw (a, h)) (rw (ne_eqb late 0 z)) w))
      (λ h. ends (refused 5 t) 5 (at_is ∙ rw a (few a h)) (no_is ∙ rw (a, h)) refl w))
      (λ a. ends (refused 4 t) 4 (at_is ∙ rw a) (no_is ∙ rw a) refl w)

-- the code's answer is the definition's
pub branch_law : {n tallest : ℕ} {t : Tables} (ks : List ℕ) (x : Out) → n ≤ 8 → 1 ≤ n → length ks ≡ 8 → ((i : ℕ) → n ≤ i → i < 8 → get_or ks i 0 ≡ 0)
    → x ≡ intern_branch_by n tallest t ks → Fair n tallest t → x ≡ intern_branch_of n tallest t ks
branch_law {n} {tallest} {t} ks x m pos e beyond q (inl u) = q ∙ unsized_law n tallest t ks u
branch_law {n} {tallest} {t} ks x m pos e beyond q (inr w) = split (none_of ks)
    (λ z. q ∙ (none_refused n tallest t ks z (sized_fits w.sized)).0)
    (λ z. q ∙ (done m pos w ks e beyond z).0)

-- and well formed stays well formed
pub branch_well : {n tallest : ℕ} {t : Tables} (ks : List ℕ) → n ≤ 8 → 1 ≤ n → length ks ≡ 8 → ((i : ℕ) → n ≤ i → i < 8 → get_or ks i 0 ≡ 0)
    → WellFormed n tallest t → WellFormed n tallest (intern_branch_of n tallest t ks).after
branch_well {n} {tallest} {t} ks m pos e beyond w = split (none_of ks)
    (λ z. subst (λ (u : Tables). WellFormed n tallest u) (none_refused n tallest t ks z (sized_fits w.sized)).1 w)
    (λ z. (done m pos w ks e beyond z).1)
