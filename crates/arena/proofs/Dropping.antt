-- Recycling, and the recursive release over places that are owed: the invariant goes through, with a frame.
use mathlib.Core.Path.{◌≡◌, refl, sym, ap, ◌∙◌, subst}
use mathlib.Core.Logic.{◌≢◌, ◌⊎◌, inr, ⊎_elim}
use mathlib.Core.Bool.{true}
use mathlib.Core.List.{List, [], ◌∷◌, ◌++◌}
use Prim.Native.Nat.{ℕ, zero, suc, ◌+◌, ◌-◌, ◌*◌, ◌%◌, ◌^◌, ◌≤◌, ◌<◌}
use native.Mathlib.Decide.{ℕ_discrete, dec_lt}
use native.Mathlib.Omega.{arith}
use lib.ListN.{get_or}
use borrow.Author.Tests.{eq-eqb, ne_eqb, lt-ltb, le-ltb}
use Rattle.ids.specs.Ids.{generation_of}
use Rattle.nodes.specs.Tally.{kids_of, Live, Free, Freed, occ}
use Rattle.nodes.specs.Words.{own, value, height, spare, hash, holds, places, mark, entry, Nodes, slot, floor, word_of, put_of, written}
use Rattle.nodes.proofs.Access.{Within, SameSize, put_size, size_trans, within_size, written_size, written_others, written_entry, written_kid, written_own, written_fact, put_same, put_slot, put_field, put_keeps, written_kept}
use Rattle.nodes.proofs.Counts.{floor_pos, Others, Counts, recycle_counts, kid_occ, total_append, total_cons}
use Rattle.nodes.proofs.Frame.{Frame, frame_refl, frame_trans, frame_low}
use Rattle.nodes.proofs.Freeing.{push}
use Rattle.nodes.proofs.Sums.{cases, same_refl, occ_cons, occ_here, occ_there}
use Rattle.find.specs.Cells.{remove, Finds}
use Rattle.find.specs.Content.{home_at}
use Rattle.find.proofs.Contents.{home_same}
use Rattle.find.proofs.Finding.{finds_as, finds_remove}
use Rattle.find.proofs.Steps.{remove_length}
use Rattle.arena.specs.Calls.{dead_facts, empties, recycled, each}
use Rattle.arena.specs.Models.{unplaced, stays_of, gone_of, gone_by, bared, drop_one, drop_place, more_of, recycled_by}
use Rattle.arena.specs.Node.{next_generation}
use Rattle.arena.specs.Tables.{Tables, tables_of, cap, W, LiveSlot, Sized, Cleared}
use Rattle.arena.proofs.Eight.{each_idle}
use Rattle.arena.proofs.Ids.{next_gen_le_lem, dead_low, dead_seal, dead_gen}
use Rattle.arena.proofs.Inv.{sized_within, Clean, Inv, Recounted, move_inv, inv_empty}
use Rattle.arena.proofs.Rows.{dead_rest, dead_zero, empties_length, empties_at}

-- ---- the cases of a drop

module _ (gone : (Tables → ℕ → Tables) → Tables → ℕ → Tables) (rec : Tables → ℕ → Tables) (t : Tables) (x : ℕ) where
  pub one_empty : x ≡ 0 → drop_one gone rec t x ≡ t
  unfolding drop_one
  one_empty e = rw (eq-eqb x 0 e)

  one_stays : x ≢ 0 → stays_of (W t) (slot x) ≡ true → drop_one gone rec t x ≡ unplaced t (slot x)
  unfolding drop_one
  one_stays d e = rw (ne_eqb x 0 d, e)

  pub one_held : x ≢ 0 → W t (slot x) holds ≢ 0 → drop_one gone rec t x ≡ unplaced t (slot x)
  unfolding stays_of
  one_held d h = one_stays d (rw (ne_eqb (W t (slot x) holds) 0 h))

  pub one_more_lem : x ≢ 0 → W t (slot x) holds ≡ 0 → 1 < W t (slot x) places → drop_one gone rec t x ≡ unplaced t (slot x)
  unfolding stays_of
  one_more_lem d h m = one_stays d (rw (eq-eqb (W t (slot x) holds) 0 h, lt-ltb 1 (W t (slot x) places) m))

  pub one_last : x ≢ 0 → W t (slot x) holds ≡ 0 → W t (slot x) places ≤ 1 → drop_one gone rec t x ≡ gone rec t (slot x)
  unfolding drop_one stays_of
  one_last d h m = rw (ne_eqb x 0 d, eq-eqb (W t (slot x) holds) 0 h, le-ltb 1 (W t (slot x) places) m)

-- ---- one count word is written

pub put_recounted : (l : Nodes) (s f v : ℕ) → (f ≡ holds) ⊎ (f ≡ places) → Recounted s l (put_of l s f v)
put_recounted l s f v k = record {
  size = put_size l s f v;
  others = λ b g d j. put_slot l s f v b g d;
  same = λ g j a b. put_field l s f v g (⊎_elim (λ e. omega arith) (λ e. omega arith) k);
  entries = λ b. put_keeps l s f v b entry (⊎_elim (λ e. omega arith) (λ e. omega arith) k);
}

pub recycled_cap : (t : Tables) (s : ℕ) → cap (recycled t s) ≡ cap t
unfolding recycled
recycled_cap t s = refl

pub recycled_next : (t : Tables) (s : ℕ) → (recycled t s).arena.next ≡ t.arena.next
unfolding recycled
recycled_next t s = refl

-- ---- the steps

module _ {t : Tables} (x : ℕ) (debt : List ℕ) (v : Inv t (x ∷ debt)) (d : x ≢ 0) where
  pub debtor : Live (cap t) (W t) x
  debtor = v.counts.named x d (omega (arith, total_cons 8 (cap t) (W t) x x debt, same_refl x))

  within : Within t.nodes (slot x)
  within = sized_within (slot x) v.sized debtor.low

  was : floor ≤ W t (slot x) own
  was = let p = debtor.is in let q = debtor.high in omega arith

  pub unplaced_inv : 2 ≤ W t (slot x) holds + W t (slot x) places → Inv (unplaced t (slot x)) debt
  unfolding unplaced
  unplaced_inv two =
      let p = v.counts.placed x debtor in
      let one : 1 ≤ W t (slot x) places = omega (arith, total_cons 8 (cap t) (W t) x x debt, same_refl x) in
      let now : word_of (put_of t.nodes (slot x) places (W t (slot x) places - 1)) (slot x) places ≡ W t (slot x) places - 1 = put_same t.nodes (slot x) places (W t (slot x) places - 1) within (omega arith) (omega arith) in
      let old : word_of (put_of t.nodes (slot x) places (W t (slot x) places - 1)) (slot x) holds ≡ W t (slot x) holds = put_field t.nodes (slot x) places (W t (slot x) places - 1) holds (omega arith) in
      move_inv t.arena t.nodes (put_of t.nodes (slot x) places (W t (slot x) places - 1)) t.find (x ∷ debt) debt x v debtor
      (put_recounted t.nodes (slot x) places (W t (slot x) places - 1) (inr refl))
      (λ y z q. sym (occ_there y x debt q)) (omega (arith, occ_here x debt)) (omega arith)

  pub unplaced_frame : Frame (cap t) (W t) (W (unplaced t (slot x)))
  unfolding unplaced
  unplaced_frame =
      let same = put_keeps t.nodes (slot x) places (W t (slot x) places - 1) in
      record { kept = λ b l h f m q. same b f q; held = λ b l h k. let e = same b own (omega arith) in omega arith }

  -- the slot's number on the stack of freed slots, its own word, and the tables before the stack has its entry
  abbrev top : ℕ
  top = t.arena.freed

  abbrev gone : ℕ
  gone = next_generation (generation_of (W t (slot x) own)) * 2 ^ 32

  abbrev bare : Nodes
  bare = written t.nodes (slot x) empties (gone ∷ dead_rest top)

  recycled_words : (b f : ℕ) → f ≢ entry → W (recycled t (slot x)) b f ≡ word_of bare b f
  unfolding recycled dead_facts
  recycled_words b f q = put_keeps bare top entry (slot x) b f q

  recycle_size : SameSize t.nodes (recycled t (slot x)).nodes
  unfolding recycled dead_facts
  recycle_size = size_trans (written_size t.nodes (slot x) empties gone (dead_rest top) empties_length refl) (put_size bare top entry (slot x))

  pub recycle_others : Others (slot x) (W t) (W (recycled t (slot x)))
  recycle_others b f q m = recycled_words b f (omega arith) ∙ written_others t.nodes (slot x) empties gone (dead_rest top) empties_length refl b f q m

  -- the entries there were
  pub recycle_entries : (i : ℕ) → i < top → W (recycled t (slot x)) i entry ≡ W t i entry
  unfolding recycled dead_facts
  recycle_entries i l = put_slot bare top entry (slot x) i entry (omega arith) ∙ written_entry t.nodes (slot x) empties gone (dead_rest top) empties_length refl i

  -- the stack is shorter than the table: what is freed was given out
  top_low : top < cap t
  top_low = let c = v.freed.count in let f = v.freed.fits in omega arith

  pub recycle_top : W (recycled t (slot x)) top entry ≡ slot x
  unfolding recycled dead_facts
  recycle_top =
      put_same bare top entry (slot x)
      (within_size t.nodes bare top (written_size t.nodes (slot x) empties gone (dead_rest top) empties_length refl) (sized_within top v.sized top_low))
      (omega arith) (omega arith)

  recycle_kid : (i : ℕ) → i < 8 → W (recycled t (slot x)) (slot x) i ≡ 0
  recycle_kid i m = recycled_words (slot x) i (omega arith) ∙ written_kid t.nodes (slot x) empties gone (dead_rest top) empties_length refl within i m ∙ empties_at i m

  recycle_fact : (i : ℕ) → i < 8 → W (recycled t (slot x)) (slot x) (value + i) ≡ get_or (dead_rest top) i 0
  recycle_fact i m = recycled_words (slot x) (value + i) (omega arith) ∙ written_fact t.nodes (slot x) empties gone (dead_rest top) empties_length refl within i m

  pub recycle_own : W (recycled t (slot x)) (slot x) own ≡ gone
  recycle_own = recycled_words (slot x) own (omega arith) ∙ written_own t.nodes (slot x) empties gone (dead_rest top) empties_length refl within

  recycle_dead : W (recycled t (slot x)) (slot x) own < floor
  recycle_dead = let e = recycle_own in let p = dead_low (next_generation (generation_of (W t (slot x) own))) (next_gen_le_lem (generation_of (W t (slot x) own))) in omega arith

  recycle_zero : (f : ℕ) → f ≤ mark → f ≢ own → f ≢ mark → W (recycled t (slot x)) (slot x) f ≡ 0
  recycle_zero f m a b = cases (dec_lt f 8) (λ k. recycle_kid f k)
      (λ k.
      let e : f ≡ value + (f - value) = omega arith in
      ap (W (recycled t (slot x)) (slot x)) e ∙ recycle_fact (f - value) (omega arith) ∙ dead_zero top (f - value) (omega arith))

  pos : 0 < slot x
  pos = cases (ℕ_discrete (slot x) 0)
      (λ (e : slot x ≡ 0). absurd (let p : W t (slot x) own ≡ 0 = rw e v.freed.ground in let q = was in let r = floor_pos in omega arith))
      (λ e. omega arith)

  pub recycle_freed : Freed (cap t) (W (recycled t (slot x))) t.arena.next (suc top)
  recycle_freed =
      push (W (recycled t (slot x))) (slot x) v.freed recycle_others recycle_entries debtor.low was recycle_dead (recycle_fact 7 (omega arith)) recycle_top

  recycle_clean : Clean (cap t) t.arena.next (W (recycled t (slot x)))
  recycle_clean = record {
    cleared = λ s l h. cases (ℕ_discrete s (slot x))
        (λ (q : s ≡ slot x). subst (λ (k : ℕ). Cleared (W (recycled t (slot x))) k) (sym q)
        (record { words = recycle_zero; seal = ap (λ (k : ℕ). k % 2 ^ 32) recycle_own ∙ dead_seal (next_generation (generation_of (W t (slot x) own))) }))
        (λ q.
        let e = recycle_others s own q (omega arith) in
        let r = v.clean.cleared s l (omega arith) in
        record { words = λ f m a b. recycle_others s f q m ∙ r.words f m a b; seal = ap (λ (k : ℕ). k % 2 ^ 32) e ∙ r.seal });
    marked = λ s l h. cases (ℕ_discrete s (slot x))
        (λ (q : s ≡ slot x). subst (λ (k : ℕ). Free (W (recycled t (slot x))) t.arena.next k) (recycle_top ∙ sym q) (recycle_freed.only top (omega arith)))
        (λ q.
        let e = recycle_others s own q (omega arith) in
        let e13 = recycle_others s mark q (omega arith) in
        let r = v.clean.marked s l (omega arith) in
        record { given = r.given; below = r.below; dead = (let z = r.dead in omega arith) });
    spared = λ s l. cases (ℕ_discrete s (slot x))
        (λ (q : s ≡ slot x). subst (λ (k : ℕ). W (recycled t (slot x)) k spare ≡ 0) (sym q) (recycle_zero spare (omega arith) (omega arith) (omega arith)))
        (λ q. recycle_others s spare q (omega arith) ∙ v.clean.spared s l);
    gens = λ s l. cases (ℕ_discrete s (slot x))
        (λ (q : s ≡ slot x). subst (λ (k : ℕ). generation_of (W (recycled t (slot x)) k own) ≤ 0x7FFD) (sym q)
        (let p = next_gen_le_lem (generation_of (W t (slot x) own)) in let e = ap generation_of recycle_own ∙ dead_gen (next_generation (generation_of (W t (slot x) own))) p in omega arith))
        (λ q. let e = ap generation_of (recycle_others s own q (omega arith)) in let r = v.clean.gens s l in omega arith);
  }

  recycle_finds : Finds (home_at (cap t) (W (recycled t (slot x)))) (LiveSlot (recycled t (slot x))) (remove (home_at (cap t) (W t)) t.find (slot x))
  recycle_finds =
      finds_as (home_at (cap t) (W t)) (home_at (cap t) (W (recycled t (slot x)))) (λ s. LiveSlot t s × (s ≡ slot x → ⊥)) (LiveSlot (recycled t (slot x)))
      (remove (home_at (cap t) (W t)) t.find (slot x))
      (finds_remove (home_at (cap t) (W t)) (LiveSlot t) t.find v.finds (slot x) pos (debtor.low, was))
      (λ s p. (forth s, back s))
      (λ s p z. sym (home_same (cap t) (W t) (W (recycled t (slot x))) s (recycle_others s hash z.1 (omega arith))))
    where
      caps : cap (recycled t (slot x)) ≡ cap t
      caps = recycled_cap t (slot x)

      forth : (s : ℕ) → LiveSlot t s × (s ≡ slot x → ⊥) → LiveSlot (recycled t (slot x)) s
      forth s z = let e = recycle_others s own z.1 (omega arith) in let l = z.0.0 in let h = z.0.1 in (omega (arith, caps), omega arith)

      back : (s : ℕ) → LiveSlot (recycled t (slot x)) s → LiveSlot t s × (s ≡ slot x → ⊥)
      back s z =
          let n : s ≢ slot x = (λ (q : s ≡ slot x). let y : W (recycled t (slot x)) s own < floor = rw q recycle_dead in let h = z.1 in omega arith) in
          let e = recycle_others s own n (omega arith) in
          let l = z.0 in
          let h = z.1 in
          ((omega (arith, caps), omega arith), n)

  recycled_sized : Sized (recycled t (slot x))
  unfolding recycled dead_facts
  recycled_sized = record {
    least = v.sized.least;
    most = v.sized.most;
    kids = recycle_size.kids ∙ v.sized.kids;
    facts = recycle_size.facts ∙ v.sized.facts;
    cells = remove_length (home_at (cap t) (W t)) t.find (slot x) ∙ v.sized.cells;
  }

  freed_is : Freed (cap t) (W (recycled t (slot x))) t.arena.next (suc top) → Freed (cap (recycled t (slot x))) (W (recycled t (slot x))) (recycled t (slot x)).arena.next (recycled t (slot x)).arena.freed
  unfolding recycled
  freed_is r = let e : top + 1 ≡ suc top = omega arith in rw e r

  clean_is : Clean (cap t) t.arena.next (W (recycled t (slot x))) → Clean (cap (recycled t (slot x))) (recycled t (slot x)).arena.next (W (recycled t (slot x)))
  unfolding recycled
  clean_is r = r

  finds_is : Finds (home_at (cap t) (W (recycled t (slot x)))) (LiveSlot (recycled t (slot x))) (remove (home_at (cap t) (W t)) t.find (slot x))
      → Finds (home_at (cap (recycled t (slot x))) (W (recycled t (slot x)))) (LiveSlot (recycled t (slot x))) (recycled t (slot x)).find
  unfolding recycled
  finds_is r = r

  pub recycled_inv : W t (slot x) places ≤ 1 → Inv (recycled t (slot x)) (kids_of 8 (W t) (slot x) ++ debt)
  recycled_inv one = record {
    sized = recycled_sized;
    counts = subst (λ (c : ℕ). Counts 8 c (W (recycled t (slot x))) (kids_of 8 (W t) (slot x) ++ debt)) (sym (recycled_cap t (slot x)))
        (recycle_counts 8 (cap t) (W t) (W (recycled t (slot x))) x debt v.counts debtor one recycle_others recycle_dead
        (λ i m. recycle_zero i (omega arith) (omega arith) (omega arith)));
    freed = freed_is recycle_freed;
    clean = clean_is recycle_clean;
    finds = finds_is recycle_finds;
  }

  -- the code counts no further than 2^32
  whole : (more_of top ≡ top + 1) × (slot x % 2 ^ 32 ≡ slot x)
  unfolding more_of
  whole = let m = v.sized.most in let l = debtor.low in let z = top_low in (omega arith, omega arith)

  recycled_bared : bared (recycled_by t (slot x)) (slot x) ≡ recycled t (slot x)
  unfolding bared recycled_by recycled put_of written
  recycled_bared = let w = whole in rw (w.0, w.1)

  -- a node of height 0 has no children
  no_kid : W t (slot x) height ≡ 0 → (y : ℕ) → 1 ≤ occ y (kids_of 8 (W t) (slot x)) → y ≡ 0
  no_kid z y o = cases (ℕ_discrete y 0) (λ e. e) (λ e. absurd (let p = v.counts.tall (slot x) y debtor.low e o in omega arith))

  recycled_leaf : W t (slot x) height ≡ 0 → recycled_by t (slot x) ≡ recycled t (slot x)
  unfolding recycled_by recycled put_of dead_facts
  recycled_leaf z =
      let w = whole in
      let e = written_kept t.nodes (slot x) empties gone (dead_rest top) empties_length refl
      (λ i l. empties_at i l ∙ sym (no_kid z (W t (slot x) i) (kid_occ 8 (W t) (slot x) i l))) in
      rw (w.0, w.1)
      (ap (λ (l : Nodes). tables_of (record { capacity = cap t; next = t.arena.next; freed = top + 1 }) (put_of l top entry (slot x)) (remove (home_at (cap t) (W t)) t.find (slot x)))
      (sym e))

  gone_by_lem : (rec : Tables → ℕ → Tables) → ((u : Tables) → rec u 0 ≡ u) → gone_by rec t (slot x) ≡ gone_of rec t (slot x)
  unfolding gone_by
  gone_by_lem rec idle = cases (ℕ_discrete (W t (slot x) height) 0)
      (λ z.
      rw (eq-eqb (W t (slot x) height) 0 z)
      (recycled_leaf z ∙ sym (each_idle rec (recycled t (slot x)) (kids_of 8 (W t) (slot x)) (λ y o. ap (rec (recycled t (slot x))) (no_kid z y o) ∙ idle (recycled t (slot x))))))
      (λ z. rw (ne_eqb (W t (slot x) height) 0 z) (ap (λ (u : Tables). each rec u (kids_of 8 (W t) (slot x))) recycled_bared))

  pub recycled_frame : W t (slot x) holds ≡ 0 → Frame (cap t) (W t) (W (recycled t (slot x)))
  recycled_frame unheld = record {
    kept = λ b l h f m q. recycle_others b f (λ (e : b ≡ slot x). absurd (let z : W (recycled t (slot x)) b own < floor = rw e recycle_dead in omega arith)) m;
    held = λ b l h k.
        let n : b ≢ slot x = (λ (e : b ≡ slot x). absurd (let z : W t b holds ≡ 0 = rw e unheld in omega arith)) in
        let e = recycle_others b own n (omega arith) in
        omega arith;
  }

-- ---- the recursion

-- what `rec` has to do for one entry of the debt. The capacity stays
pub record Dropped (t t' : Tables) (debt : List ℕ) : Type 0 where
  pub inv : Inv t' debt
  pub frame : Frame (cap t) (W t) (W t')
  pub size : cap t' ≡ cap t
  pub next : t'.arena.next ≡ t.arena.next

dropped_trans : {t t' t'' : Tables} {d d' : List ℕ} → Dropped t t' d → Dropped t' t'' d' → Dropped t t'' d'
dropped_trans {t'} {t''} p q = record {
  inv = q.inv;
  frame = frame_trans p.frame (subst (λ (c : ℕ). Frame c (W t') (W t'')) p.size q.frame);
  size = q.size ∙ p.size;
  next = q.next ∙ p.next;
}

dropped_refl : {t : Tables} (d : List ℕ) → Inv t d → Dropped t t d
dropped_refl {t} d v = record { inv = v; frame = frame_refl (cap t) (W t); size = refl; next = refl }

-- and that `more`, the code's, which goes as deep or deeper, does the same
abbrev Good : (Tables → ℕ → Tables) → (Tables → ℕ → Tables) → ℕ → Type 0
Good rec more k = (t : Tables) (x : ℕ) (debt : List ℕ) → Inv t (x ∷ debt) → (x ≢ 0 → W t (slot x) height < k) → Dropped t (rec t x) debt × (more t x ≡ rec t x)

each_good : (rec more : Tables → ℕ → Tables) (k : ℕ) → Good rec more k → (ys : List ℕ) {t : Tables} (debt : List ℕ) → Inv t (ys ++ debt)
    → ((y : ℕ) → y ≢ 0 → 1 ≤ occ y ys → W t (slot y) height < k)
    → Dropped t (each rec t ys) debt × (each more t ys ≡ each rec t ys)
unfolding each
each_good rec more k g [] {t} debt v h = (dropped_refl debt v, refl)
each_good rec more k g (y ∷ ys) {t} debt v h =
    let first = g t y (ys ++ debt) v (λ z. h y z (omega (arith, occ_here y ys))) in
    let r : Dropped t (rec t y) (ys ++ debt) = first.0 in
    let rest = each_good rec more k g ys debt r.inv
    (λ z d m.
    let w : Live (cap (rec t y)) (W (rec t y)) z = r.inv.counts.named z d (omega (arith, total_append 8 (cap (rec t y)) (W (rec t y)) z ys debt)) in
    frame_low (cap t) (W t) (W (rec t y)) k z r.frame (subst (λ (c : ℕ). Live c (W (rec t y)) z) r.size w) (h z d (omega (arith, occ_cons z y ys)))) in
    (dropped_trans r rest.0, ap (λ (u : Tables). each more u ys) first.1 ∙ rest.1)

recycled_dropped : {t : Tables} (x : ℕ) (debt : List ℕ) (v : Inv t (x ∷ debt)) (d : x ≢ 0) → W t (slot x) holds ≡ 0 → W t (slot x) places ≤ 1
    → Dropped t (recycled t (slot x)) (kids_of 8 (W t) (slot x) ++ debt)
recycled_dropped {t} x debt v d u one = record {
  inv = recycled_inv x debt v d one;
  frame = recycled_frame x debt v d u;
  size = recycled_cap t (slot x);
  next = recycled_next t (slot x);
}

unplaced_dropped : {t : Tables} (x : ℕ) (debt : List ℕ) (v : Inv t (x ∷ debt)) (d : x ≢ 0) → 2 ≤ W t (slot x) holds + W t (slot x) places
    → Dropped t (unplaced t (slot x)) debt
unfolding unplaced
unplaced_dropped x debt v d two = record { inv = unplaced_inv x debt v d two; frame = unplaced_frame x debt v d; size = refl; next = refl }

one_good : (rec more : Tables → ℕ → Tables) (k : ℕ) → Good rec more k → ((u : Tables) → more u 0 ≡ u) → Good (drop_one gone_of rec) (drop_one gone_by more) (suc k)
one_good rec more k g idle t x debt v h = cases (ℕ_discrete x 0)
    (λ (e : x ≡ 0).
    both (one_empty gone_of rec t x e) (one_empty gone_by more t x e) (dropped_refl debt (inv_empty debt (subst (λ (z : ℕ). Inv t (z ∷ debt)) e v))) refl)
    (λ d.
    let live = debtor x debt v d in
    let alive = v.counts.alive x live in
    cases (ℕ_discrete (W t (slot x) holds) 0)
    (λ u. cases (dec_lt 1 (W t (slot x) places))
    (λ m. both (one_more_lem gone_of rec t x d u m) (one_more_lem gone_by more t x d u m) (unplaced_dropped x debt v d (omega arith)) refl)
    (λ m.
    let one : W t (slot x) places ≤ 1 = omega arith in
    let i = recycled_dropped x debt v d u one in
    let r = each_good rec more k g (kids_of 8 (W t) (slot x)) debt i.inv
    (λ y z m.
    let w : Live (cap (recycled t (slot x))) (W (recycled t (slot x))) y =
    i.inv.counts.named y z (omega (arith, total_append 8 (cap (recycled t (slot x))) (W (recycled t (slot x))) y (kids_of 8 (W t) (slot x)) debt)) in
    let p = v.counts.tall (slot x) y live.low z m in
    let q = h d in
    frame_low (cap t) (W t) (W (recycled t (slot x))) k y i.frame (subst (λ (c : ℕ). Live c (W (recycled t (slot x))) y) i.size w) (omega arith)) in
    both (one_last gone_of rec t x d u one) (one_last gone_by more t x d u one ∙ gone_by_lem x debt v d more idle) (dropped_trans i r.0) r.1))
    (λ u.
    let p = v.counts.placed x live in
    let two : 2 ≤ W t (slot x) holds + W t (slot x) places = omega (arith, total_cons 8 (cap t) (W t) x x debt, same_refl x) in
    both (one_held gone_of rec t x d u) (one_held gone_by more t x d u) (unplaced_dropped x debt v d two) refl))
  where
    both : {a b : Tables} → drop_one gone_of rec t x ≡ a → drop_one gone_by more t x ≡ b → Dropped t a debt → b ≡ a → Dropped t (drop_one gone_of rec t x) debt × (drop_one gone_by more t x ≡ drop_one gone_of rec t x)
    both p q r e = (subst (λ (u : Tables). Dropped t u debt) (sym p) r, q ∙ e ∙ sym p)

-- EMPTY owes nothing
pub drop_empty : (gone : (Tables → ℕ → Tables) → Tables → ℕ → Tables) (k : ℕ) (t : Tables) (x : ℕ) → x ≡ 0 → drop_place gone k t x ≡ t
unfolding drop_place
drop_empty gone zero t x e = refl
drop_empty gone (suc k) t x e = one_empty gone (drop_place gone k) t x e

-- k levels are enough for a node below k, and so are more
drop_goods : (k j : ℕ) → k ≤ j → Good (drop_place gone_of k) (drop_place gone_by j) k
unfolding drop_place
drop_goods zero j l t x debt v h = cases (ℕ_discrete x 0)
    (λ (e : x ≡ 0). (dropped_refl debt (inv_empty debt (subst (λ (z : ℕ). Inv t (z ∷ debt)) e v)), drop_empty gone_by j t x e))
    (λ d. absurd (let p = h d in omega arith))
drop_goods (suc k) zero l t x debt v h = absurd (omega arith)
drop_goods (suc k) (suc j) l t x debt v h = one_good (drop_place gone_of k) (drop_place gone_by j) k (drop_goods k j (omega arith)) (λ u. drop_empty gone_by j u 0 refl) t x debt v h

module _ (k : ℕ) {t : Tables} (x : ℕ) (debt : List ℕ) (v : Inv t (x ∷ debt)) (h : x ≢ 0 → W t (slot x) height < k) where
  pub drop_good : Dropped t (drop_place gone_of k t x) debt
  drop_good = (drop_goods k k (omega arith) t x debt v h).0

  pub drop_enough : (j : ℕ) → k ≤ j → drop_place gone_by j t x ≡ drop_place gone_of k t x
  drop_enough j l = (drop_goods k j l t x debt v h).1
