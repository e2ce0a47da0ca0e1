-- What a caller may rely on.
use mathlib.Core.Path.{◌≡◌, ◌∙◌, refl, sym, ap, ap₂, subst}
use mathlib.Core.Logic.{◌≢◌, ◌↔◌}
use mathlib.Core.Bool.{Bool, true, false}
use mathlib.Core.List.{List, [], ◌∷◌, map}
use Prim.Native.Nat.{ℕ, ◌+◌, ◌*◌, ◌-◌, ◌^◌, ◌≤◌, ◌<◌}
use native.Mathlib.Decide.{ℕ_discrete}
use native.Mathlib.Omega.{arith}
use borrow.Author.Tests.{lt-ltb, le-leb, lt-leb, eq-eqb, ne_eqb, leb-true, eqb-true, leb-false}
use lib.Dec.{leb, eqb}
use lib.ListN.{length, get_or}
use Rattle.basics.specs.Limits.{deepest, cube_kids}
use Rattle.basics.specs.Pick.{pick}
use Rattle.basics.specs.Puts.{puts_from}
use Rattle.basics.specs.Sums.{sum_to}
use Rattle.basics.proofs.Puts.{puts_length}
use Rattle.basics.proofs.Rungs.{past_yes, past_no}
use Rattle.nodes.specs.Values.{height_at}
use Rattle.nodes.proofs.Sums.{cases}
use Rattle.paths.specs.Paths.{inside, whole, path_of}
use Rattle.tree.specs.Tree.{LiveOr0, Tidy, Root}
use Rattle.tree.specs.Cells.{At, way}
use Rattle.arena.specs.Tables.{Tables, cap, W, WellFormed}
use Rattle.arena.specs.Calls.{fits, live_or_empty}
use Rattle.arena.proofs.Fits.{sized_fits}
use Rattle.read_cell.specs.Calls.{look_no, looked, look_of}
use Rattle.read_cell.specs.declared.Looked.{Looked}
use Rattle.read_cell.proofs.Ends.{never}
use Rattle.read_cell.proofs.Laws.{there_live, live_there, well_small}
use Rattle.read_cell.proofs.Meaning.{wf_made}
use Rattle.calls.specs.Cells.{spot}
use Rattle.compare_pairs.specs.Differing.{Differs, cell_of, reads}
use Rattle.compare_pairs.proofs.Exact.{Entry, Exact, exact}
use Rattle.compare_pairs.proofs.Pairs.{count_is, equal_list, equal_unopened, swap, swapped, swapped_opened}
use Rattle.compare_pairs.proofs.Work as trees
use Rattle.compare.specs.Compare.{Outcome, outcome, roots_no, compare_no, listed, compare_of, cells_of, opened_of}
use Rattle.compare.specs.Promises.{shows, Listed, Compares, exchanged}
use Rattle.compare.proofs.Codes.{path_small, path_cell, coded_cell}
use Rattle.compare.proofs.Listing.{none, mem_place, place_mem, rising_lt, map_length, written_at, written_past}

-- ---- what the numbers say

-- none of the refusals 1, 2, 4 and 8 applies; the list's parts are c, l and r long
pub record Passed (t : Tables) (a b d c l r : ℕ) : Type 0 where
  pub fit : fits t ≡ true
  pub lefts : l ≡ c
  pub rights : r ≡ c
  pub deep : d ≤ deepest
  pub there_a : live_or_empty (cap t) (W t) a ≡ true
  pub there_b : live_or_empty (cap t) (W t) b ≡ true
  pub low_a : height_at (W t) a ≤ d
  pub low_b : height_at (W t) b ≤ d

-- two numbers of a ladder
other : (x y : ℕ) → eqb x y ≡ false → x ≡ y → ⊥
other x y n e = never (sym (eq-eqb x y e) ∙ n)

module _ (t : Tables) (a b d c l r : ℕ) where
  -- how the number ends where none of them applies
  abbrev last : ℕ
  last = pick (leb (length (cells_of t a b d)) c) 0 15

  past : (k : ℕ) → eqb 1 k ≡ false → eqb 2 k ≡ false → eqb 4 k ≡ false → eqb 8 k ≡ false → compare_no t a b d c l r ≡ k
      → Passed t a b d c l r × (last ≡ k)
  unfolding compare_no roots_no
  past k n1 n2 n4 n8 e =
      let p0 = past_yes (fits t) _ 1 k (other 1 k n1) e in
      let p1 = past_yes (eqb l c) _ 1 k (other 1 k n1) p0.1 in
      let p2 = past_yes (eqb r c) _ 1 k (other 1 k n1) p1.1 in
      let p3 = past_yes (leb d deepest) _ 2 k (other 2 k n2) p2.1 in
      let p4 = past_yes (live_or_empty (cap t) (W t) a) _ 4 k (other 4 k n4) p3.1 in
      let p5 = past_yes (live_or_empty (cap t) (W t) b) _ 4 k (other 4 k n4) p4.1 in
      let p6 = past_yes (leb (height_at (W t) a) d) _ 8 k (other 8 k n8) p5.1 in
      let p7 = past_yes (leb (height_at (W t) b) d) _ 8 k (other 8 k n8) p6.1 in (
        record {
          fit = p0.0;
          lefts = eqb-true l c p1.0;
          rights = eqb-true r c p2.0;
          deep = leb-true d deepest p3.0;
          there_a = p4.0;
          there_b = p5.0;
          low_a = leb-true _ d p6.0;
          low_b = leb-true _ d p7.0;
        },
        p7.1,
      )

  ends : Passed t a b d c l r → compare_no t a b d c l r ≡ last
  unfolding compare_no roots_no
  ends p =
      rw (
        p.fit,
        eq-eqb l c p.lefts,
        eq-eqb r c p.rights,
        le-leb d deepest p.deep,
        p.there_a,
        p.there_b,
        le-leb (height_at (W t) a) d p.low_a,
        le-leb (height_at (W t) b) d p.low_b,
      )

  -- Accepted exactly if no other refusal applies and the list has room for the cells that differ; 15 exactly if none applies and it has not.
  pub accepted_exactly : (compare_no t a b d c l r ≡ 0) ↔ (Passed t a b d c l r × (length (cells_of t a b d) ≤ c))
  accepted_exactly = (
    λ e.
        let (p, q) = past 0 refl refl refl refl e in
        (p, leb-true _ c (past_yes (leb (length (cells_of t a b d)) c) 0 15 0 (other 15 0 refl) q).0),
    λ k. ends k.0 ∙ rw (le-leb (length (cells_of t a b d)) c k.1),
  )

  pub fifteen_exactly : (compare_no t a b d c l r ≡ 15) ↔ (Passed t a b d c l r × (c < length (cells_of t a b d)))
  fifteen_exactly = (
    λ e.
        let (p, q) = past 15 refl refl refl refl e in
        (p, leb-false _ c (past_no (leb (length (cells_of t a b d)) c) 0 15 15 (other 0 15 refl) q).0),
    λ k. ends k.0 ∙ rw (lt-leb (length (cells_of t a b d)) c k.1),
  )

-- what is read below a at the cell of the path code e, in a cube of depth d
abbrev reads_at : Tables → ℕ → ℕ → ℕ → ℕ
reads_at t a d e = reads (W t) (cell_of cube_kids d e) a

-- lookup of a cell, where its root passes: what is read at its path code
shown : (t : Tables) (a d : ℕ) (s : At d) → fits t ≡ true → d ≤ deepest → live_or_empty (cap t) (W t) a ≡ true → shows t a s ≡ reads_at t a d (path_of (spot s))
unfolding look_of look_no inside whole
shown t a d s f h e =
    let k : look_no t a d (spot s) ≡ 0 =
    rw (f, le-leb d deepest h, lt-ltb s.x (2 ^ d) s.in_x, lt-ltb s.y (2 ^ d) s.in_y, lt-ltb s.z (2 ^ d) s.in_z, e) in
    let q : look_of t a d (spot s) ≡ looked 0 (reads (W t) (way s) a) = rw (eq-eqb (look_no t a d (spot s)) 0 k) in
    ap (λ (v : Looked). v.value) q ∙ ap (λ (p : List ℕ). reads (W t) p a) (sym (path_cell (omega arith) s))

module _ (t : Tables) (a b d : ℕ) (c l r : List ℕ) where
  abbrev number : ℕ
  number = compare_no t a b d (length c) (length l) (length r)

  pub number_is : (compare_of t a b d c l r).no ≡ compare_no t a b d (length c) (length l) (length r)
  unfolding compare_of listed
  number_is = cases (ℕ_discrete number 0) (λ e. rw (eq-eqb number 0 e) (sym e)) (λ e. rw (ne_eqb number 0 e))

  -- ---- a refused comparison changes nothing, and counts nothing

  pub refused_same : compare_no t a b d (length c) (length l) (length r) ≢ 0
      → compare_of t a b d c l r ≡ outcome (compare_no t a b d (length c) (length l) (length r)) 0 0 c l r
  unfolding compare_of
  refused_same h = rw (ne_eqb number 0 h)

  -- ---- an accepted one lists the differing cells

  module _ (ok : compare_no t a b d (length c) (length l) (length r) ≡ 0) where
    abbrev ds : List Differs
    ds = cells_of t a b d

    pub accepted_is : compare_of t a b d c l r ≡ listed (cells_of t a b d) (opened_of t a b d) c l r
    unfolding compare_of
    accepted_is = rw (eq-eqb number 0 ok)

    p : Passed t a b d (length c) (length l) (length r)
    p = ((accepted_exactly t a b d (length c) (length l) (length r)).0 ok).0

    room : length ds ≤ length c
    room = ((accepted_exactly t a b d (length c) (length l) (length r)).0 ok).1

    ten : d ≤ 10
    ten = omega (arith, p.deep)

    in_a : (s : At d) → shows t a s ≡ reads_at t a d (path_of (spot s))
    in_a s = shown t a d s p.fit p.deep p.there_a

    in_b : (s : At d) → shows t b s ≡ reads_at t b d (path_of (spot s))
    in_b s = shown t b d s p.fit p.deep p.there_b

    abbrev o : Outcome
    o = listed ds (opened_of t a b d) c l r

    -- the entry of the path code of s at place i is that cell's place
    at : (s : At d) (i : ℕ) → i < length ds
        → Entry (cube_kids ^ d) (reads_at t a d) (reads_at t b d) (get_or ds i none)
        → (get_or ds i none).code ≡ path_of (spot s) → Listed t a b o s i
    unfolding listed
    at s i h w e =
        let ea : reads_at t a d (get_or ds i none).code ≡ shows t a s = ap (reads_at t a d) e ∙ sym (in_a s) in
        let eb : reads_at t b d (get_or ds i none).code ≡ shows t b s = ap (reads_at t b d) e ∙ sym (in_b s) in
        record {
          within = h;
          code = written_at (λ e. e.code) refl ds c room i h ∙ e;
          left = written_at (λ e. e.left) refl ds l (omega (arith, room, p.lefts)) i h ∙ w.left ∙ ea;
          right = written_at (λ e. e.right) refl ds r (omega (arith, room, p.rights)) i h ∙ w.right ∙ eb;
          apart = λ z. w.apart (ea ∙ z ∙ sym eb);
        }

    x : Exact (cube_kids ^ d) (reads_at t a d) (reads_at t b d) ds
    x = exact cube_kids (W t) d a b

    listed_right : Compares d t a b c l r o
    unfolding listed
    listed_right =
        record {
          accepted = refl;
          cells = λ i h.
              let w = x.only (get_or ds i none) (place_mem ds i h) in
              let (s, e) = coded_cell ten (get_or ds i none).code w.small in
              (s, at s i h w (sym e));
          places = λ s n.
              let (i, h, e) = mem_place (x.all (path_of (spot s)) (path_small ten s) (λ z. n (in_a s ∙ z ∙ sym (in_b s)))) in
              (i, at s i h (x.only (get_or ds i none) (place_mem ds i h)) (ap (λ (y : Differs). y.code) e));
          rising = λ i j h k.
              let q : (get_or ds i none).code < (get_or ds j none).code = rising_lt 0 (cube_kids ^ d) ds i j x.rising h k in
              omega (arith, written_at (λ e. e.code) refl ds c room i (omega arith), written_at (λ e. e.code) refl ds c room j k);
          rest = λ i h. (written_past (λ e. e.code) ds c i h, written_past (λ e. e.left) ds l i h, written_past (λ e. e.right) ds r i h);
          sizes = (puts_length c 0 (map (λ e. e.code) ds), puts_length l 0 (map (λ e. e.left) ds), puts_length r 0 (map (λ e. e.right) ds));
        }

    -- Each place below the count has a differing cell, each differing cell has a place, codes rise, and places past the last are as they were. On any tables.
    pub compare_right : Compares d t a b c l r (compare_of t a b d c l r)
    compare_right = subst (λ (o : Outcome). Compares d t a b c l r o) (sym accepted_is) listed_right

    -- the count is the number of path codes whose cells differ
    pub count_cells : (compare_of t a b d c l r).count
        ≡ sum_to (cube_kids ^ d) (λ e. pick (eqb (reads (W t) (cell_of cube_kids d e) a) (reads (W t) (cell_of cube_kids d e) b)) 0 1)
    unfolding listed
    count_cells = rw accepted_is (count_is cube_kids (W t) d a b)

    -- ---- the work is bounded by the change

    root_a : Tidy cube_kids (W t) a → Root cube_kids (cap t) d (W t) a
    root_a y = record { there = there_live t a p.there_a; tidy = y; low = p.low_a }

    root_b : Tidy cube_kids (W t) b → Root cube_kids (cap t) d (W t) b
    root_b y = record { there = there_live t b p.there_b; tidy = y; low = p.low_b }

    pub work_bounded : WellFormed cube_kids deepest t → Tidy cube_kids (W t) a → Tidy cube_kids (W t) b
        → (compare_of t a b d c l r).opened ≤ d * (compare_of t a b d c l r).count
    unfolding listed
    work_bounded w ta tb =
        rw accepted_is (trees.work cube_kids (cap t) (W t) (wf_made (omega arith) w) (omega arith) (well_small w) d a b (root_a ta) (root_b tb))

-- ---- equal roots: nothing listed, nothing opened, and always room

module _ (t : Tables) (a d : ℕ) where
  pub equal_roots : (c l r : List ℕ) → compare_no t a a d (length c) (length l) (length r) ≡ 0 → compare_of t a a d c l r ≡ outcome 0 0 0 c l r
  unfolding listed puts_from
  equal_roots c l r ok = accepted_is t a a d c l r ok ∙ rw (equal_list cube_kids (W t) d a, equal_unopened cube_kids (W t) d a)

  pub equal_room : (c l r : ℕ) → compare_no t a a d c l r ≢ 15
  equal_room c l r e = omega (arith, ((fifteen_exactly t a a d c l r).0 e).1, ap length (equal_list cube_kids (W t) d a))

-- ---- the sides exchanged

pick_two : {A : Type 0} (x y : Bool) (u v : A) → pick x (pick y u v) v ≡ pick y (pick x u v) v
pick_two true true u v = refl
pick_two true false u v = refl
pick_two false true u v = refl
pick_two false false u v = refl

map_swap : (f g : Differs → ℕ) → ((e : Differs) → f (swap e) ≡ g e) → (ds : List Differs) → map f (map swap ds) ≡ map g ds
map_swap f g h [] = refl
map_swap f g h (e ∷ ds) = ap₂ (λ (x : ℕ) (m : List ℕ). x ∷ m) (h e) (map_swap f g h ds)

module _ (t : Tables) (a b d : ℕ) where
  swapped_count : length (cells_of t b a d) ≡ length (cells_of t a b d)
  swapped_count = ap length (swapped cube_kids (W t) d a b) ∙ map_length swap (cells_of t a b d)

  swapped_roots : (k : ℕ) → roots_no t b a d k ≡ roots_no t a b d k
  unfolding roots_no
  swapped_roots k =
      pick_two (live_or_empty (cap t) (W t) b) (live_or_empty (cap t) (W t) a) _ 4
      ∙ ap (λ (x : ℕ). pick (live_or_empty (cap t) (W t) a) (pick (live_or_empty (cap t) (W t) b) x 4) 4)
      (pick_two (leb (height_at (W t) b) d) (leb (height_at (W t) a) d) k 8)

  swapped_no : (c l r : ℕ) → compare_no t b a d c r l ≡ compare_no t a b d c l r
  unfolding compare_no
  swapped_no c l r =
      rw (swapped_count, swapped_roots (pick (leb (length (cells_of t a b d)) c) 0 15))
      (ap (λ (x : ℕ). pick (fits t) x 1) (pick_two (eqb r c) (eqb l c) _ 1))

  swapped_listed : (ds : List Differs) (o : ℕ) (c l r : List ℕ) → listed (map swap ds) o c r l ≡ exchanged (listed ds o c l r)
  unfolding listed
  swapped_listed ds o c l r =
      rw (
        map_length swap ds,
        map_swap (λ e. e.code) (λ e. e.code) (λ e. refl) ds,
        map_swap (λ e. e.left) (λ e. e.right) (λ e. refl) ds,
        map_swap (λ e. e.right) (λ e. e.left) (λ e. refl) ds,
      )

  -- Comparing b with a is comparing a with b with the sides exchanged, refusals included; the lent parts are exchanged too.
  pub exchange : (c l r : List ℕ) → compare_of t b a d c r l ≡ exchanged (compare_of t a b d c l r)
  unfolding compare_of
  exchange c l r =
      rw (
        swapped_no (length c) (length l) (length r),
        swapped cube_kids (W t) d a b,
        swapped_opened cube_kids (W t) d a b,
        swapped_listed (cells_of t a b d) (opened_of t a b d) c l r,
      )
      (go (eqb (compare_no t a b d (length c) (length l) (length r)) 0) (listed (cells_of t a b d) (opened_of t a b d) c l r) (compare_no t a b d (length c) (length l) (length r)))
    where
      go : (x : Bool) (o : Outcome) (k : ℕ) → pick x (exchanged o) (outcome k 0 0 c r l) ≡ exchanged (pick x o (outcome k 0 0 c l r))
      go true o k = refl
      go false o k = refl

-- ---- over well-formed tables

module _ {t : Tables} (w : WellFormed cube_kids deepest t) (d a b : ℕ) where
  -- The number of pairs opened is the same at every depth that both roots fit in.
  pub opened_deeper : (e : ℕ) → d ≤ e → LiveOr0 (cap t) (W t) a → LiveOr0 (cap t) (W t) b → height_at (W t) a ≤ d → height_at (W t) b ≤ d
      → opened_of t a b e ≡ opened_of t a b d
  opened_deeper e h la lb ha hb =
      let q : e ≡ (e - d) + d = omega arith in
      ap (opened_of t a b) q ∙ trees.opened_deeper cube_kids (cap t) (W t) (wf_made (omega arith) w) (e - d) d a b la lb ha hb

  -- Two different tidy roots no taller than d differ in some cell.
  pub roots_differ : d ≤ deepest → Root cube_kids (cap t) d (W t) a → Root cube_kids (cap t) d (W t) b → a ≢ b
      → (s : At d) × (shows t a s ≢ shows t b s)
  roots_differ h ra rb n =
      let one : 1 ≤ length ds = trees.some_cell_differs cube_kids (cap t) (W t) (wf_made (omega arith) w) (omega arith) (well_small w) d a b ra rb n in
      let k = (exact cube_kids (W t) d a b).only (get_or ds 0 none) (place_mem ds 0 one) in
      let (s, e) = coded_cell (omega arith) (get_or ds 0 none).code k.small in
      let at_a : shows t a s ≡ reads_at t a d (get_or ds 0 none).code = shown t a d s (sized_fits w.sized) h (live_there t a ra.there) ∙ ap (reads_at t a d) e in
      let at_b : shows t b s ≡ reads_at t b d (get_or ds 0 none).code = shown t b d s (sized_fits w.sized) h (live_there t b rb.there) ∙ ap (reads_at t b d) e in
      (s, λ z. k.apart (sym at_a ∙ z ∙ at_b))
    where
      ds : List Differs
      ds = cells_of t a b d
