-- Release: the code's way (a hold becomes a place that is owed, and that is dropped) is the definition's; well formed stays well formed;
-- and a node lives on exactly if it is held, or stands below one that is.
use mathlib.Core.Path.{◌≡◌, refl, sym, ap, ap₂, ◌∙◌, subst}
use mathlib.Core.Logic.{◌≢◌, inl, inr, ◌↔◌}
use mathlib.Core.Bool.{true, false}
use mathlib.Core.List.{List, [], ◌∷◌}
use Prim.Native.Nat.{ℕ, zero, suc, ◌+◌, ◌-◌, ◌*◌, ◌^◌, ◌≤◌, ◌<◌}
use native.Mathlib.Decide.{ℕ_discrete, dec_lt}
use native.Mathlib.Omega.{arith}
use lib.ListN.{length}
use borrow.Author.Tests.{eq-eqb, ne_eqb, lt-ltb, le-ltb}
use Rattle.ids.specs.Ids.{generation_of}
use Rattle.nodes.specs.Tally.{kids_of, Live, occ, Under, here, down}
use Rattle.nodes.specs.Words.{own, height, hash, holds, places, mark, entry, Nodes, written, slot, floor, Words, word_of, put_of}
use Rattle.nodes.proofs.Access.{Within, put_size, size_trans, within_size, written_over, put_same, put_slot, put_field, put_keeps, put_put, put_word, put_less}
use Rattle.nodes.proofs.Counts.{floor_pos, kids_same, Counts, live_same, total_bound}
use Rattle.nodes.proofs.Frame.{Frame, lives_iff}
use Rattle.nodes.proofs.Sums.{cases, occ_nil, occ_here, occ_there}
use Rattle.find.specs.Cells.{remove}
use Rattle.find.specs.Content.{home_at}
use Rattle.find.proofs.Contents.{home_same}
use Rattle.arena.specs.Calls.{dead_facts, empties, Out, did, fits, Fair, recycled, less_of, unused_of, each, takes, release_no, release_of}
use Rattle.arena.specs.Models.{settled_n, unplaced, gone_of, drop_one, drop_place, more_of, settled, release_by, release_any}
use Rattle.arena.specs.Node.{next_generation}
use Rattle.arena.specs.Tables.{State, tables_of, Tables, cap, W, WellFormed}
use Rattle.arena.proofs.Dropping.{one_empty, one_held, one_more_lem, one_last, Dropped, drop_good, drop_enough}
use Rattle.arena.proofs.Fits.{live_is, release_live}
use Rattle.arena.proofs.Ids.{node_low}
use Rattle.arena.proofs.Inv.{sized_within, Inv, Content, Recounted, recounted_word, move_inv, wf_inv, wf_content, inv_wf, content_recount, content_frame}
use Rattle.arena.proofs.Rows.{dead_rest, empties_length}

-- ---- tables that differ in counts of one slot are the same once it is recycled

recycled_same : (a : State) (l m : Nodes) (f : List ℕ) (s : ℕ) → word_of m s own ≡ word_of l s own → ((b : ℕ) → word_of m b hash ≡ word_of l b hash)
    → ((o : ℕ) (row : List ℕ) → length row ≡ 8 → written m s empties (o ∷ row) ≡ written l s empties (o ∷ row)) → recycled (tables_of a m f) s ≡ recycled (tables_of a l f) s
unfolding recycled dead_facts
recycled_same a l m f s mine e over =
    let home : home_at a.capacity (word_of m) ≡ home_at a.capacity (word_of l) = (λ i b. home_same a.capacity (word_of l) (word_of m) b (e b) i) in
    let row = over (next_generation (generation_of (word_of l s own)) * 2 ^ 32) (dead_rest a.freed) refl in
    rw mine
    (λ i. tables_of (record { capacity = a.capacity; next = a.next; freed = a.freed + 1 }) (put_of (row i) a.freed entry s) (remove (home i) f s))

put_over : (l : Nodes) (s f v o : ℕ) (row : List ℕ) → f ≤ mark → length row ≡ 8 → written (put_of l s f v) s empties (o ∷ row) ≡ written l s empties (o ∷ row)
put_over l s f v o row h e = written_over l s empties o row empties_length e f v h

pub less_recycled : (f : ℕ) (t : Tables) (id : ℕ) → holds ≤ f → f ≤ mark → recycled (less_of f t id) (slot id) ≡ recycled t (slot id)
unfolding less_of
less_recycled f t id k h =
    recycled_same t.arena t.nodes (put_of t.nodes (slot id) f (W t (slot id) f - 1)) t.find (slot id)
    (put_keeps t.nodes (slot id) f (W t (slot id) f - 1) (slot id) own (omega arith))
    (λ b. put_keeps t.nodes (slot id) f (W t (slot id) f - 1) b hash (omega arith))
    (λ o row e. put_over t.nodes (slot id) f (W t (slot id) f - 1) o row h e)

pub less_word : (f : ℕ) (t : Tables) (id b g : ℕ) → g ≢ f → W (less_of f t id) b g ≡ W t b g
unfolding less_of
less_word f t id b g d = put_keeps t.nodes (slot id) f (W t (slot id) f - 1) b g d

pub less_at : (f : ℕ) (t : Tables) (id : ℕ) → own < f → f ≤ mark → W (less_of f t id) (slot id) f ≡ W t (slot id) f - 1
unfolding less_of
less_at f t id m k = put_less t.nodes (slot id) f m (omega arith)

pub less_kids : (f : ℕ) (t : Tables) (id : ℕ) → height ≤ f → kids_of 8 (W (less_of f t id)) (slot id) ≡ kids_of 8 (W t) (slot id)
less_kids f t id k = kids_same 8 (W t) (W (less_of f t id)) (slot id) (λ i j. less_word f t id (slot id) i (omega arith))

-- ---- the cases of `takes`

module _ (k f : ℕ) (t : Tables) (id : ℕ) where
  pub takes_empty : id ≡ 0 → takes (suc k) f t id ≡ t
  unfolding takes
  takes_empty e = rw (eq-eqb id 0 e)

  pub takes_left : id ≢ 0 → unused_of (less_of f t id) id ≡ false → takes (suc k) f t id ≡ less_of f t id
  unfolding takes
  takes_left d u = rw (ne_eqb id 0 d, u)

  pub takes_gone : id ≢ 0 → unused_of (less_of f t id) id ≡ true → takes (suc k) f t id ≡ each (takes k places) (recycled (less_of f t id) (slot id)) (kids_of 8 (W (less_of f t id)) (slot id))
  unfolding takes
  takes_gone d u = rw (ne_eqb id 0 d, u)

used_hold : (t : Tables) (id : ℕ) → W t (slot id) holds ≢ 0 → unused_of t id ≡ false
unfolding unused_of
used_hold t id d = rw (ne_eqb (W t (slot id) holds) 0 d)

used_place : (t : Tables) (id : ℕ) → W t (slot id) holds ≡ 0 → W t (slot id) places ≢ 0 → unused_of t id ≡ false
unfolding unused_of
used_place t id e d = rw (eq-eqb (W t (slot id) holds) 0 e, ne_eqb (W t (slot id) places) 0 d)

unused_both : (t : Tables) (id : ℕ) → W t (slot id) holds ≡ 0 → W t (slot id) places ≡ 0 → unused_of t id ≡ true
unfolding unused_of
unused_both t id e d = rw (eq-eqb (W t (slot id) holds) 0 e, eq-eqb (W t (slot id) places) 0 d)

unplaced_less : (t : Tables) (id : ℕ) → unplaced t (slot id) ≡ less_of places t id
unfolding unplaced less_of
unplaced_less t id = refl

-- taking a place is the code's drop, on any tables
takes_drop_step : (k : ℕ) → ((t : Tables) (x : ℕ) → takes k places t x ≡ drop_place gone_of k t x) → (t : Tables) (x : ℕ) → takes (suc k) places t x ≡ drop_one gone_of (drop_place gone_of k) t x
takes_drop_step k ih t x = cases (ℕ_discrete x 0)
    (λ e. takes_empty k places t x e ∙ sym (one_empty gone_of (drop_place gone_of k) t x e))
    (λ d.
    let h = less_word places t x (slot x) holds (omega arith) in
    let p = less_at places t x (omega arith) (omega arith) in
    cases (ℕ_discrete (W t (slot x) holds) 0)
    (λ z. cases (dec_lt 1 (W t (slot x) places))
    (λ m.
    takes_left k places t x d (used_place (less_of places t x) x (h ∙ z) (omega arith))
    ∙ sym (one_more_lem gone_of (drop_place gone_of k) t x d z m ∙ unplaced_less t x))
    (λ m.
    takes_gone k places t x d (unused_both (less_of places t x) x (h ∙ z) (omega arith))
    ∙ ap₂ (λ (u : Tables) (l : List ℕ). each (takes k places) u l) (less_recycled places t x (omega arith) (omega arith)) (less_kids places t x (omega arith))
    ∙ ap (λ (r : Tables → ℕ → Tables). each r (recycled t (slot x)) (kids_of 8 (W t) (slot x))) (λ i u y. ih u y i)
    ∙ sym (one_last gone_of (drop_place gone_of k) t x d z (omega arith))))
    (λ z.
    takes_left k places t x d (used_hold (less_of places t x) x (λ y. z (sym h ∙ y)))
    ∙ sym (one_held gone_of (drop_place gone_of k) t x d z ∙ unplaced_less t x)))

takes_zero : (f : ℕ) (t : Tables) (x : ℕ) → takes 0 f t x ≡ t
unfolding takes
takes_zero f t x = refl

pub takes_drop : (k : ℕ) (t : Tables) (x : ℕ) → takes k places t x ≡ drop_place gone_of k t x
unfolding drop_place
takes_drop zero t x = takes_zero places t x
takes_drop (suc k) t x = takes_drop_step k (takes_drop k) t x

-- ---- the hold that becomes an owed place

-- it is dropped
abbrev dropped_by : ℕ → Tables → ℕ → Tables
dropped_by k t id = drop_place gone_of (suc k) (settled t (slot id)) id

module _ (t : Tables) (id : ℕ) (d : id ≢ 0) (within : Within t.nodes (slot id)) (held : 1 ≤ W t (slot id) holds) (few : W t (slot id) places < (2 ^ 32 - 1)) where
  abbrev s : ℕ
  s = slot id

  abbrev one : Nodes
  one = put_of t.nodes s holds (W t s holds - 1)

  one_places : word_of one s places ≡ W t s places
  one_places = put_field t.nodes s holds (W t s holds - 1) places (omega arith)

  one_within : Within one s
  one_within = within_size t.nodes one s (put_size t.nodes s holds (W t s holds - 1)) within

  more_places : more_of (W t s places) ≡ W t s places + 1
  unfolding more_of
  more_places = omega arith

  settled_places : W (settled t s) s places ≡ W t s places + 1
  unfolding settled settled_n
  settled_places = put_same one s places (more_of (W t s places)) one_within (omega arith) (omega arith) ∙ more_places

  settled_holds : W (settled t s) s holds ≡ W t s holds - 1
  unfolding settled settled_n
  settled_holds = put_field one s places (more_of (W t s places)) holds (omega arith) ∙ put_same t.nodes s holds (W t s holds - 1) within (omega arith) (omega arith)

  settled_recounted : Recounted s t.nodes (settled t s).nodes
  unfolding settled settled_n
  settled_recounted = record {
    size = size_trans (put_size t.nodes s holds (W t s holds - 1)) (put_size one s places (more_of (W t s places)));
    others = λ b f q m. put_slot one s places (more_of (W t s places)) b f q ∙ put_slot t.nodes s holds (W t s holds - 1) b f q;
    same = λ f m a b. put_field one s places (more_of (W t s places)) f b ∙ put_field t.nodes s holds (W t s holds - 1) f a;
    entries = λ b. put_keeps one s places (more_of (W t s places)) b entry (omega arith) ∙ put_keeps t.nodes s holds (W t s holds - 1) b entry (omega arith);
  }

  settled_word : (b f : ℕ) → f ≤ mark → f ≢ holds → f ≢ places → W (settled t s) b f ≡ W t b f
  settled_word = recounted_word settled_recounted

  settled_unplaced : unplaced (settled t s) s ≡ less_of holds t id
  unfolding unplaced less_of settled settled_n
  settled_unplaced =
      let e : word_of (put_of one s places (more_of (W t s places))) s places - 1 ≡ word_of one s places = (let p = put_same one s places (more_of (W t s places)) one_within (omega arith) (omega arith) in let q = more_places in let r = one_places in omega arith) in
      ap (λ (l : Nodes). tables_of t.arena l t.find)
      (put_put one s places (more_of (W t s places)) (word_of (put_of one s places (more_of (W t s places))) s places - 1) ∙ put_word one s places (word_of (put_of one s places (more_of (W t s places))) s places - 1) e)

  settled_recycled : recycled (settled t s) s ≡ recycled t s
  unfolding settled settled_n
  settled_recycled =
      recycled_same t.arena t.nodes (put_of one s places (more_of (W t s places))) t.find s
      (put_keeps one s places (more_of (W t s places)) s own (omega arith) ∙ put_keeps t.nodes s holds (W t s holds - 1) s own (omega arith))
      (λ b. put_keeps one s places (more_of (W t s places)) b hash (omega arith) ∙ put_keeps t.nodes s holds (W t s holds - 1) b hash (omega arith))
      (λ o row e. put_over one s places (more_of (W t s places)) o row (omega arith) e ∙ put_over t.nodes s holds (W t s holds - 1) o row (omega arith) e)

  settled_kids : kids_of 8 (W (settled t s)) s ≡ kids_of 8 (W t) s
  settled_kids = kids_same 8 (W t) (W (settled t s)) s (λ i j. settled_word s i (omega arith) (omega arith) (omega arith))

  release_step : (k : ℕ) → drop_one gone_of (drop_place gone_of k) (settled t s) id ≡ takes (suc k) holds t id
  release_step k =
      let h = less_at holds t id (omega arith) (omega arith) in
      let p = less_word holds t id s places (omega arith) in
      let u11 = settled_holds in
      let u12 = settled_places in
      cases (ℕ_discrete (W t s holds - 1) 0)
      (λ z. cases (ℕ_discrete (W t s places) 0)
      (λ y.
      one_last gone_of (drop_place gone_of k) (settled t s) id d (u11 ∙ z) (omega arith)
      ∙ ap₂ (λ (u : Tables) (l : List ℕ). each (drop_place gone_of k) u l) (settled_recycled ∙ sym (less_recycled holds t id (omega arith) (omega arith))) (settled_kids ∙ sym (less_kids holds t id (omega arith)))
      ∙ ap (λ (r : Tables → ℕ → Tables). each r (recycled (less_of holds t id) s) (kids_of 8 (W (less_of holds t id)) s)) (λ i u y. sym (takes_drop k u y) i)
      ∙ sym (takes_gone k holds t id d (unused_both (less_of holds t id) id (h ∙ z) (p ∙ y))))
      (λ y.
      one_more_lem gone_of (drop_place gone_of k) (settled t s) id d (u11 ∙ z) (omega arith) ∙ settled_unplaced
      ∙ sym (takes_left k holds t id d (used_place (less_of holds t id) id (h ∙ z) (λ q. y (sym p ∙ q))))))
      (λ z.
      one_held gone_of (drop_place gone_of k) (settled t s) id d (λ q. z (sym u11 ∙ q)) ∙ settled_unplaced
      ∙ sym (takes_left k holds t id d (used_hold (less_of holds t id) id (λ q. z (sym h ∙ q)))))

  pub release_takes : (k : ℕ) → dropped_by k t id ≡ takes (suc k) holds t id
  unfolding drop_place
  release_takes = release_step

-- ---- on well-formed tables

less_slot : (t : Tables) (id b : ℕ) → b ≢ slot id → W (less_of holds t id) b holds ≡ W t b holds
unfolding less_of
less_slot t id b q = put_slot t.nodes (slot id) holds (W t (slot id) holds - 1) b holds q

-- standing below depends on the children alone
pub under_map : (W W' : Words) → ((b f : ℕ) → f < 8 → W' b f ≡ W b f) → (a y : ℕ) → Under W a y → Under W' a y
under_map W W' e a y (here) = here
under_map W W' e a y (down {b = b} u z o) =
    down (under_map W W' e a b u) z (subst (λ (l : List ℕ). 1 ≤ occ y l) (sym (kids_same 8 W W' (slot b) (λ i j. e (slot b) i j))) o)

-- the tables after a release of a live node that is held: well formed; every node that lives on keeps all its words but the places, and its hold
-- apart the released one keeps its own; and a node lives on exactly if, the hold given back, it stands at or below a held one
pub record Released (n tallest : ℕ) (t : Tables) (id : ℕ) (t' : Tables) : Type 0 where
  pub well : WellFormed n tallest t'
  pub size : cap t' ≡ cap t
  pub frame : Frame (cap t) (W (less_of holds t id)) (W t')
  pub lives : (y : ℕ) → Live (cap t) (W t') y
      ↔ ((a : ℕ) × Live (cap t) (W t) a × (1 ≤ W (less_of holds t id) (slot a) holds) × Under (W t) a y)

module _ {n tallest : ℕ} {t : Tables} (m : n ≤ 8) (w : WellFormed n tallest t) (id : ℕ) (live : Live (cap t) (W t) id) (held : 1 ≤ W t (slot id) holds) where
  inv : Inv t []
  inv = wf_inv m w

  some : id ≢ 0
  some e = let p = floor_pos in let q = live.high in omega arith

  inside : Within t.nodes (slot id)
  inside = sized_within (slot id) w.sized live.low

  few : W t (slot id) places < (2 ^ 32 - 1)
  few = let p = inv.counts.placed id live in let q = w.sized.most in omega (arith, total_bound 8 (cap t) (W t) [] id)

  pub release_by_lem : (k : ℕ) → dropped_by k t id ≡ takes (suc k) holds t id
  release_by_lem = release_takes t id some inside held few

  pub u_word : (b f : ℕ) → f ≤ mark → f ≢ holds → f ≢ places → W (settled t (slot id)) b f ≡ W t b f
  u_word = settled_word t id some inside held few

  pub u_less : less_of places (settled t (slot id)) id ≡ less_of holds t id
  unfolding less_of
  u_less = sym (unplaced_less (settled t (slot id)) id) ∙ settled_unplaced t id some inside held few

  pub u_inv : Inv (settled t (slot id)) (id ∷ [])
  unfolding settled settled_n
  u_inv =
      let e11 = settled_holds t id some inside held few in
      let e12 = settled_places t id some inside held few in
      settle_inv t.arena t.nodes t.find id (settled t (slot id)).nodes inv live (settled_recounted t id some inside held few)
      (omega arith) (omega arith)
    where
      settle_inv : (a : State) (l : Nodes) (f : List ℕ) (x : ℕ) (l' : Nodes) → Inv (tables_of a l f) [] → Live a.capacity (word_of l) x → Recounted (slot x) l l'
          → word_of l' (slot x) places ≡ word_of l (slot x) places + 1 → 1 ≤ word_of l' (slot x) holds + word_of l' (slot x) places → Inv (tables_of a l' f) (x ∷ [])
      settle_inv a l f x l' v lv r e k =
          move_inv a l l' f [] (x ∷ []) x v lv r (λ y z q. occ_there y x [] q) (omega (arith, occ_here x [], occ_nil x)) k

  u_cap : cap (settled t (slot id)) ≡ cap t
  unfolding settled settled_n
  u_cap = refl

  u_content : Content n tallest (cap t) (W (settled t (slot id)))
  u_content =
      content_recount n tallest (cap t) (W t) (W (settled t (slot id))) m (λ b f k. u_word b f (omega arith) (omega arith) (omega arith))
      (λ b k h. let o = (w.nodes b (k, h)).few in cases (ℕ_discrete b (slot id))
      (λ (q : b ≡ slot id). subst (λ (z : ℕ). W (settled t (slot id)) z holds ≤ 1000000) (sym q)
      (let e = settled_holds t id some inside held few in let o2 : W t (slot id) holds ≤ 1000000 = subst (λ (z : ℕ). W t z holds ≤ 1000000) q o in omega arith))
      (λ q. let e = (settled_recounted t id some inside held few).others b holds q (omega arith) in omega arith))
      (wf_content w)

  pub u_low : (b : ℕ) → b < cap t → floor ≤ W (settled t (slot id)) b own → W (settled t (slot id)) b height < suc tallest
  u_low b l h =
      let e = u_word b own (omega arith) (omega arith) (omega arith) in
      let e10 = u_word b height (omega arith) (omega arith) (omega arith) in
      let p = node_low m l w.sized.most (w.nodes b (l, omega arith)) in
      omega arith

  pub u_short : W (settled t (slot id)) (slot id) height < suc tallest
  u_short = u_low (slot id) live.low (let e = u_word (slot id) own (omega arith) (omega arith) (omega arith) in let i = live.is in let h = live.high in omega arith)

  dropped : Dropped (settled t (slot id)) (dropped_by tallest t id) []
  dropped = drop_good (suc tallest) id [] u_inv (λ d. u_short)

  -- to go deeper than the tallest node changes nothing
  pub release_enough : (k : ℕ) → tallest ≤ k → release_by k t id ≡ dropped_by tallest t id
  unfolding release_by
  release_enough k l = drop_enough (suc tallest) id [] u_inv (λ d. u_short) (suc k) (omega arith)

  -- a hold less, and a place more
  less_u : (b f : ℕ) → f ≤ mark → f ≢ places → W (settled t (slot id)) b f ≡ W (less_of holds t id) b f
  less_u b f k d = cases (ℕ_discrete f holds)
      (λ (q : f ≡ holds). subst (λ (z : ℕ). W (settled t (slot id)) b z ≡ W (less_of holds t id) b z) (sym q) (same_holds b))
      (λ q. u_word b f k q d ∙ sym (less_word holds t id b f q))
    where
      same_holds : (b : ℕ) → W (settled t (slot id)) b holds ≡ W (less_of holds t id) b holds
      same_holds b = cases (ℕ_discrete b (slot id))
          (λ (q : b ≡ slot id). subst (λ (z : ℕ). W (settled t (slot id)) z holds ≡ W (less_of holds t id) z holds) (sym q) (settled_holds t id some inside held few ∙ sym (less_at holds t id (omega arith) (omega arith))))
          (λ q. (settled_recounted t id some inside held few).others b holds q (omega arith) ∙ sym (less_slot t id b q))

  after_frame : Frame (cap t) (W (settled t (slot id))) (W (dropped_by tallest t id))
  after_frame = subst (λ (c : ℕ). Frame c (W (settled t (slot id))) (W (dropped_by tallest t id))) u_cap dropped.frame

  after_cap : cap (dropped_by tallest t id) ≡ cap t
  after_cap = dropped.size ∙ u_cap

  after_counts : Counts 8 (cap t) (W (dropped_by tallest t id)) []
  after_counts = subst (λ (c : ℕ). Counts 8 c (W (dropped_by tallest t id)) []) after_cap dropped.inv.counts

  pub release_good : Released n tallest t id (dropped_by tallest t id)
  release_good = record {
    well = inv_wf n tallest dropped.inv
        (subst (λ (c : ℕ). Content n tallest c (W (dropped_by tallest t id))) (sym after_cap)
        (content_frame n tallest (cap t) (W (settled t (slot id))) (W (dropped_by tallest t id)) [] m after_counts after_frame u_content));
    size = after_cap;
    frame = record {
      kept = λ b l h f k d. after_frame.kept b l h f k d ∙ less_u b f k d;
      held = λ b l h k.
          let e = less_u b own (omega arith) (omega arith) in
          let e11 = less_u b holds (omega arith) (omega arith) in
          after_frame.held b l (omega arith) (omega arith);
    };
    lives = λ y.
        let r = lives_iff (cap t) (W (settled t (slot id))) (W (dropped_by tallest t id)) after_counts after_frame (suc tallest) u_low y in (
          (λ v.
              let q = r.0 v in (
                q.0,
                live_same (cap t) (W (settled t (slot id))) (W t) q.0 (sym (u_word (slot q.0) own (omega arith) (omega arith) (omega arith))) q.1,
                (let e = less_u (slot q.0) holds (omega arith) (omega arith) in let z = q.2 in omega arith),
                under_map (W (settled t (slot id))) (W t) (λ b f k. sym (u_word b f (omega arith) (omega arith) (omega arith))) q.0 y q.3,
              )),
          (λ q. r.1 (
            q.0,
            live_same (cap t) (W t) (W (settled t (slot id))) q.0 (u_word (slot q.0) own (omega arith) (omega arith) (omega arith)) q.1,
            (let e = less_u (slot q.0) holds (omega arith) (omega arith) in let z = q.2 in omega arith),
            under_map (W t) (W (settled t (slot id))) (λ b f k. u_word b f (omega arith) (omega arith) (omega arith)) q.0 y q.3,
          )),
        );
  }

-- ---- the theorems

module _ (tallest : ℕ) (t : Tables) (id : ℕ) where
  release_refused : (k : ℕ) → release_no t id ≢ 0 → release_any k t id ≡ release_of tallest t id
  unfolding release_any release_of
  release_refused k d = rw (ne_eqb (release_no t id) 0 d)

  release_empty : (k : ℕ) → id ≡ 0 → release_any k t id ≡ release_of tallest t id
  unfolding release_any release_of
  release_empty k e = let q = takes_empty tallest holds t id e in rw (eq-eqb id 0 e, q)

  module _ (k : ℕ) (z : release_no t id ≡ 0) (d : id ≢ 0) where
    -- another hold is left
    release_left : 1 < W t (slot id) holds → release_any k t id ≡ release_of tallest t id
    unfolding release_any release_of
    release_left l =
        let h = less_at holds t id (omega arith) (omega arith) in
        let q = takes_left tallest holds t id d (used_hold (less_of holds t id) id (omega arith)) in
        rw (eq-eqb (release_no t id) 0 z, ne_eqb id 0 d, lt-ltb 1 (W t (slot id) holds) l, q)

    release_last : W t (slot id) holds ≤ 1 → release_by k t id ≡ takes (suc tallest) holds t id → release_any k t id ≡ release_of tallest t id
    unfolding release_any release_of
    release_last l e = rw (eq-eqb (release_no t id) 0 z, ne_eqb id 0 d, le-ltb 1 (W t (slot id) holds) l) (ap (did 0) e)

  release_after_refused : release_no t id ≢ 0 → t ≡ (release_of tallest t id).after
  unfolding release_of
  release_after_refused d = rw (ne_eqb (release_no t id) 0 d)

  release_after_empty : release_no t id ≡ 0 → id ≡ 0 → t ≡ (release_of tallest t id).after
  unfolding release_of
  release_after_empty z e = rw (eq-eqb (release_no t id) 0 z) (sym (takes_empty tallest holds t id e))

  release_after : release_no t id ≡ 0 → takes (suc tallest) holds t id ≡ (release_of tallest t id).after
  unfolding release_of
  release_after z = rw (eq-eqb (release_no t id) 0 z)

release_unsized : (t : Tables) (id : ℕ) → fits t ≡ false → release_no t id ≢ 0
unfolding release_no
release_unsized t id u z = let y : ◌≡◌ {A = ℕ} 1 0 = (rw u at z) in omega arith

-- the code's answer, of k levels, is the definition's in every arena whose nodes are no taller
pub release_law : (k : ℕ) {t : Tables} (id : ℕ) (x : Out) → x ≡ release_any k t id → {n tallest : ℕ} → n ≤ 8 → tallest ≤ k → Fair n tallest t → x ≡ release_of tallest t id
release_law k {t} id x e {n} {tallest} m low (inl u) = e ∙ release_refused tallest t id k (release_unsized t id u)
release_law k {t} id x e {n} {tallest} m low (inr w) = e ∙ cases (ℕ_discrete (release_no t id) 0)
    (λ z. cases (ℕ_discrete id 0)
    (λ y. release_empty tallest t id k y)
    (λ y.
    let r = release_live t id z y in
    let v = live_is t id r.0 in
    cases (dec_lt 1 (W t (slot id) holds)) (release_left tallest t id k z y)
    (λ l. release_last tallest t id k z y (omega arith) (release_enough m w id v r.1 k low ∙ release_by_lem m w id v r.1 tallest))))
    (λ z. release_refused tallest t id k z)

-- an accepted release of a node
pub release_released : {n tallest : ℕ} {t : Tables} (id : ℕ) → n ≤ 8 → WellFormed n tallest t → release_no t id ≡ 0 → id ≢ 0 → Released n tallest t id (release_of tallest t id).after
release_released {n} {tallest} {t} id m w z y =
    let r = release_live t id z y in
    subst (λ (u : Tables). Released n tallest t id u) (release_by_lem m w id (live_is t id r.0) r.1 tallest ∙ release_after tallest t id z)
    (release_good m w id (live_is t id r.0) r.1)

-- and well formed stays well formed
pub release_well : {n tallest : ℕ} {t : Tables} (id : ℕ) → n ≤ 8 → WellFormed n tallest t → WellFormed n tallest (release_of tallest t id).after
release_well {n} {tallest} {t} id m w = cases (ℕ_discrete (release_no t id) 0)
    (λ z. cases (ℕ_discrete id 0)
    (λ y. subst (λ (u : Tables). WellFormed n tallest u) (release_after_empty tallest t id z y) w)
    (λ y. (release_released id m w z y).well))
    (λ z. subst (λ (u : Tables). WellFormed n tallest u) (release_after_refused tallest t id z) w)
