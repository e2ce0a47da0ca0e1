-- Intern leaf: the probe finds what the scan finds, and well formed stays well formed.
use mathlib.Core.Path.{◌≡◌, refl, sym, ap, ◌∙◌, subst}
use mathlib.Core.Logic.{◌≢◌, inl, inr, ⊎_elim}
use mathlib.Core.Bool.{true, false, true≢false}
use mathlib.Core.List.{[]}
use Prim.Native.Nat.{ℕ, ◌+◌, ◌≤◌, ◌<◌}
use native.Mathlib.Decide.{ℕ_discrete}
use native.Mathlib.Omega.{arith}
use lib.Dec.{eqb}
use borrow.Author.Tests.{eq-eqb, ne_eqb, eqb-true, leb-false}
use Rattle.ids.specs.Ids.{generation_of, is_leaf}
use Rattle.nodes.specs.Tally.{Live, occ}
use Rattle.nodes.specs.Words.{own, value, holds, places, floor, word_of, put_of}
use Rattle.nodes.proofs.Access.{put_same, put_field}
use Rattle.nodes.proofs.Counts.{live_own}
use Rattle.nodes.proofs.Sums.{cases, split}
use Rattle.find_hash.specs.Hash.{leaf_hash}
use Rattle.find.specs.Cells.{leaf_cell}
use Rattle.find.specs.Content.{leaf_is}
use Rattle.find.proofs.Contents.{leaf_true, leaf_words}
use Rattle.arena.specs.Calls.{empties, Out, said, refused, fits, Fair, full_of, room_of, held_at, leaf_in, leaf_slot, intern_leaf_no, leaf_made, intern_leaf_of}
use Rattle.arena.specs.Models.{leaf_at, leaf_for, hit_by, leaf_miss_by, leaf_by, intern_leaf_by}
use Rattle.arena.specs.Node.{LeafNode}
use Rattle.arena.specs.Tables.{tables_of, Tables, cap, W, LiveSlot, WellFormed}
use Rattle.arena.proofs.Dropping.{put_recounted}
use Rattle.arena.proofs.Fits.{both, sized_fits, room_yes}
use Rattle.arena.proofs.Fresh.{leaf_makes, search_ends, leaf_fresh_lem}
use Rattle.arena.proofs.Ids.{flag_floor, leaf_flag_lem, node_leaf, gen_small}
use Rattle.arena.proofs.Inv.{sized_within, Inv, Recounted, recounted_word, move_inv, wf_inv, wf_content, inv_wf, content_recount}
use Rattle.arena.proofs.Make.{Alone}
use Rattle.arena.proofs.Rows.{empties_at}
use Rattle.arena.proofs.Scan.{find_hit, find_miss}
use Rattle.arena.proofs.Searched.{not_ground, leaf_one, search_hit, search_miss}

-- ---- what the calls leave

-- one hold more on a live node
pub held_kept : {n tallest : ℕ} {t : Tables} (s : ℕ) → n ≤ 8 → WellFormed n tallest t → LiveSlot t s → full_of (W t) s ≡ false → WellFormed n tallest (held_at t s)
unfolding held_at full_of
held_kept {n} {tallest} {t} s m w l f =
    let few = leb-false 1000000 (W t s holds) f in
    let i = wf_inv m w in
    let id = i.counts.ids s l.0 l.1 in
    let live : Live (cap t) (W t) (W t s own) = live_own 8 (cap t) (W t) [] i.counts s l.0 l.1 in
    let r : Recounted s t.nodes (put_of t.nodes s holds (W t s holds + 1)) = put_recounted t.nodes s holds (W t s holds + 1) (inl refl) in
    let now : word_of (put_of t.nodes s holds (W t s holds + 1)) s holds ≡ W t s holds + 1 =
    put_same t.nodes s holds (W t s holds + 1) (sized_within s w.sized l.0) (omega arith) (omega arith) in
    let old : word_of (put_of t.nodes s holds (W t s holds + 1)) s places ≡ W t s places = put_field t.nodes s holds (W t s holds + 1) places (omega arith) in
    let v : Inv (tables_of t.arena (put_of t.nodes s holds (W t s holds + 1)) t.find) [] =
    move_inv t.arena t.nodes (put_of t.nodes s holds (W t s holds + 1)) t.find [] [] (W t s own) i live
    (subst (λ (z : ℕ). Recounted z t.nodes (put_of t.nodes s holds (W t s holds + 1))) (sym id) r) (λ y a b. refl)
    (subst (λ (z : ℕ). word_of (put_of t.nodes s holds (W t s holds + 1)) z places + occ (W t s own) [] ≡ W t z places + occ (W t s own) []) (sym id) (omega arith))
    (subst (λ (z : ℕ). 1 ≤ word_of (put_of t.nodes s holds (W t s holds + 1)) z holds + word_of (put_of t.nodes s holds (W t s holds + 1)) z places) (sym id) (omega arith)) in
    inv_wf n tallest v
    (content_recount n tallest (cap t) (W t) (word_of (put_of t.nodes s holds (W t s holds + 1))) m
    (λ b g k. recounted_word r b g (omega arith) (omega arith) (omega arith))
    (λ b k h. cases (ℕ_discrete b s)
    (λ (q : b ≡ s). subst (λ (z : ℕ). word_of (put_of t.nodes s holds (W t s holds + 1)) z holds ≤ 1000000) (sym q) (omega arith))
    (λ q. let e = r.others b holds q (omega arith) in let o = (w.nodes b (k, h)).few in omega arith))
    (wf_content w))

hit_is_full : (t : Tables) (s : ℕ) → full_of (W t) s ≡ true → hit_by t s ≡ refused 10 t
unfolding hit_by
hit_is_full t s f = rw f

pub hit_is_held : (t : Tables) (s : ℕ) → full_of (W t) s ≡ false → hit_by t s ≡ said 0 (W t s own) (held_at t s)
unfolding hit_by
hit_is_held t s f = rw f

module _ {n tallest : ℕ} {t : Tables} (m : n ≤ 8) (w : WellFormed n tallest t) (v : ℕ) (some : v ≢ 0) where
  pub leaf_in_lem : (s : ℕ) → s < cap t → leaf_in t v s ≡ true → LiveSlot t s × LeafNode (W t) s × (W t s value ≡ v)
  unfolding leaf_in
  leaf_in_lem s l h =
      let b = both (is_leaf (W t s own)) (eqb (W t s value) v) h in
      let live : floor ≤ W t s own = flag_floor (W t s own) b.0 in
      ((l, live), node_leaf m l w.sized.most (w.nodes s (l, live)) b.0, eqb-true (W t s value) v b.1)

  pub leaf_is_lem : (s : ℕ) → s < cap t → leaf_in t v s ≡ true → leaf_is (W t) (leaf_hash v) v s ≡ true
  leaf_is_lem s l h =
      let p = leaf_in_lem s l h in
      leaf_true (W t) (leaf_hash v) v s (p.1.hashed ∙ ap leaf_hash p.2) (leaf_flagged s p.0.0 p.1) p.2
    where
      leaf_flagged : (s : ℕ) → s < cap t → LeafNode (W t) s → is_leaf (W t s own) ≡ true
      leaf_flagged s l f =
          let most = w.sized.most in ap is_leaf f.id ∙ leaf_flag_lem s (generation_of (W t s own)) (omega arith) (gen_small (W t s own))

  pub is_leaf_lem : (s : ℕ) → leaf_is (W t) (leaf_hash v) v s ≡ true → leaf_in t v s ≡ true
  unfolding leaf_in
  is_leaf_lem s h = let c = leaf_words (W t) (leaf_hash v) v s h in rw c.1 (eq-eqb (W t s value) v c.2)

  pub no_leaf : leaf_slot t v ≡ 0 → (x : ℕ) → 0 < x → LiveSlot t x → leaf_is (W t) (leaf_hash v) v x ≡ false
  unfolding leaf_slot
  no_leaf z x p l = split (leaf_is (W t) (leaf_hash v) v x)
      (λ h. absurd (true≢false (sym (is_leaf_lem x h) ∙ find_miss (leaf_in t v) (cap t) z x l.0 (omega arith))))
      (λ h. h)

  -- a slot with no children has a leaf
  pub leaf_alone : leaf_slot t v ≡ 0 → Alone t empties v
  unfolding leaf_slot leaf_in
  leaf_alone z x l k q = ⊎_elim
      (λ f.
      let most = w.sized.most in
      let low = l.0 in
      let flag : is_leaf (W t x own) ≡ true = ap is_leaf f.id ∙ leaf_flag_lem x (generation_of (W t x own)) (omega arith) (gen_small (W t x own)) in
      let in-it : leaf_in t v x ≡ true = rw flag (eq-eqb (W t x value) v q) in
      let g = not_ground w x l in
      true≢false (sym in-it ∙ find_miss (leaf_in t v) (cap t) z x l.0 (omega arith)))
      (λ b. let j = b.some in let i = j.1 in j.2 (k j.0 (omega arith) ∙ empties_at j.0 (omega arith)))
      (w.nodes x l).kind

  -- the slot of the leaf
  pub leaf_slot_lem : leaf_slot t v ≢ 0 → (leaf_slot t v < cap t) × (leaf_in t v (leaf_slot t v) ≡ true)
  unfolding leaf_slot
  leaf_slot_lem d = let r = find_hit (leaf_in t v) (cap t) d in (r.1, r.0)

  -- ---- there is one
  hit_law : leaf_slot t v ≢ 0 → leaf_by t v ≡ hit_by t (leaf_slot t v)
  unfolding leaf_by leaf_at leaf_cell
  hit_law d =
      let q = leaf_slot_lem d in
      let p = leaf_in_lem (leaf_slot t v) q.0 q.1 in
      let i = leaf_is_lem (leaf_slot t v) q.0 q.1 in
      let r = search_hit m w (leaf_is (W t) (leaf_hash v) v) (leaf_hash v) (leaf_slot t v) p.0 (p.1.hashed ∙ ap leaf_hash p.2) i
      (λ x l h.
      let c = leaf_words (W t) (leaf_hash v) v x h in
      let e = leaf_words (W t) (leaf_hash v) v (leaf_slot t v) i in
      leaf_one m w x (leaf_slot t v) l p.0 c.1 e.1 (c.2 ∙ sym e.2)) in
      rw (r, ne_eqb (leaf_slot t v) 0 d)

  -- ---- there is none
  miss_law : leaf_slot t v ≡ 0 → leaf_by t v ≡ leaf_miss_by t v (leaf_for t v)
  unfolding leaf_by leaf_at leaf_cell
  miss_law z = let r = search_miss m w (leaf_is (W t) (leaf_hash v) v) (leaf_hash v) (no_leaf z) in rw r

  inv : Inv t []
  inv = wf_inv m w

  made_law : leaf_slot t v ≡ 0 → room_of t.arena ≡ true → leaf_miss_by t v (leaf_for t v) ≡ leaf_made t v
  unfolding leaf_miss_by leaf_made leaf_cell
  made_law z r =
      let room = room_yes t.arena r in
      rw r (leaf_fresh_lem [] inv room v 1 0 (leaf_for t v) (search_ends [] inv room (leaf_hash v) (leaf_is (W t) (leaf_hash v) v) (no_leaf z)))

  full_law : room_of t.arena ≡ false → leaf_miss_by t v (leaf_for t v) ≡ refused 11 t
  unfolding leaf_miss_by
  full_law r = rw r

  pub leaf_by_lem : intern_leaf_by t v ≡ intern_leaf_of t v
  unfolding intern_leaf_by intern_leaf_of intern_leaf_no
  leaf_by_lem =
      rw (sized_fits w.sized, ne_eqb v 0 some)
      (cases (ℕ_discrete (leaf_slot t v) 0)
      (λ z. split (room_of t.arena)
      (λ r. rw (eq-eqb (leaf_slot t v) 0 z, r) (miss_law z ∙ made_law z r))
      (λ r. rw (eq-eqb (leaf_slot t v) 0 z, r) (miss_law z ∙ full_law r)))
      (λ z. split (full_of (W t) (leaf_slot t v))
      (λ f. rw (ne_eqb (leaf_slot t v) 0 z, f) (hit_law z ∙ hit_is_full t (leaf_slot t v) f))
      (λ f. rw (ne_eqb (leaf_slot t v) 0 z, f) (hit_law z ∙ hit_is_held t (leaf_slot t v) f))))

  -- ---- well formed afterwards

  made_kept : v ≤ 65535 → leaf_slot t v ≡ 0 → room_of t.arena ≡ true → WellFormed n tallest (leaf_made t v).after
  unfolding leaf_made
  made_kept high z r =
      let g = (leaf_makes n tallest m v 1 0 inv (wf_content w) (room_yes t.arena r) some high (omega arith) (omega arith) (leaf_alone z)).grown in
      inv_wf n tallest g.inv g.content

  pub leaf_kept : v ≤ 65535 → WellFormed n tallest (intern_leaf_of t v).after
  unfolding intern_leaf_of intern_leaf_no
  leaf_kept high =
      rw (sized_fits w.sized, ne_eqb v 0 some)
      (cases (ℕ_discrete (leaf_slot t v) 0)
      (λ z. split (room_of t.arena)
      (λ r. rw (eq-eqb (leaf_slot t v) 0 z, r) (made_kept high z r))
      (λ r. rw (eq-eqb (leaf_slot t v) 0 z, r) w))
      (λ z. split (full_of (W t) (leaf_slot t v))
      (λ f. rw (ne_eqb (leaf_slot t v) 0 z, f) w)
      (λ f. rw (ne_eqb (leaf_slot t v) 0 z, f)
      (let q = leaf_slot_lem z in held_kept (leaf_slot t v) m w (leaf_in_lem (leaf_slot t v) q.0 q.1).0 f))))

leaf_unsized : (t : Tables) (v : ℕ) → fits t ≡ false → intern_leaf_by t v ≡ intern_leaf_of t v
unfolding intern_leaf_by intern_leaf_of intern_leaf_no
leaf_unsized t v u = rw u

leaf_nothing : {n tallest : ℕ} {t : Tables} (v : ℕ) → WellFormed n tallest t → v ≡ 0 → intern_leaf_by t v ≡ intern_leaf_of t v
unfolding intern_leaf_by intern_leaf_of intern_leaf_no
leaf_nothing v w z = rw (sized_fits w.sized, eq-eqb v 0 z)

leaf_nothing_is : {n tallest : ℕ} {t : Tables} (v : ℕ) → WellFormed n tallest t → v ≡ 0 → refused 6 t ≡ intern_leaf_of t v
unfolding intern_leaf_of intern_leaf_no
leaf_nothing_is v w z = rw (sized_fits w.sized, eq-eqb v 0 z)

-- ---- the two theorems

-- the code's answer is the definition's
pub leaf_law : {t : Tables} (v : ℕ) (x : Out) → x ≡ intern_leaf_by t v → {n tallest : ℕ} → n ≤ 8 → Fair n tallest t → x ≡ intern_leaf_of t v
leaf_law {t} v x e {n} {tallest} m (inl u) = e ∙ unsized
  where
    unsized : intern_leaf_by t v ≡ intern_leaf_of t v
    unsized = leaf_unsized t v u
leaf_law v x e {n} {tallest} m (inr w) = cases (ℕ_discrete v 0)
    (λ z. e ∙ leaf_nothing v w z)
    (λ z. e ∙ leaf_by_lem m w v z)

-- and well formed stays well formed
pub leaf_well : {n tallest : ℕ} {t : Tables} (v : ℕ) → n ≤ 8 → v ≤ 65535 → WellFormed n tallest t → WellFormed n tallest (intern_leaf_of t v).after
leaf_well {n} {tallest} v m high w = cases (ℕ_discrete v 0)
    (λ z. subst (λ (o : Out). WellFormed n tallest o.after) (leaf_nothing_is v w z) w)
    (λ z. leaf_kept m w v z high)
