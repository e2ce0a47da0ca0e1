-- The numbers of a comparison: each is given exactly if it is the lowest that applies. On any tables.
use mathlib.Core.Path.{◌≡◌, refl, sym, ap, ◌∙◌}
use mathlib.Core.Logic.{◌≢◌, ◌⊎◌, inl, inr, ⊎_elim}
use mathlib.Core.Bool.{Bool, true, false, not, true≢false}
use mathlib.Core.List.Memᴰ
use mathlib.Core.List.{List, [], ◌∷◌, map}
use Prim.Native.Nat.{ℕ, zero, suc, ◌≤◌, ◌<◌}
use native.Mathlib.Decide.{ℕ_discrete, dec_le, dec_lt}
use native.Mathlib.Omega.{arith}
use lib.Dec.{leb, eqb}
use lib.ListN.{length, get_or}
use lib.Pow.{pow_pos}
use borrow.Author.Tests.{leb-true, eqb-false, eq-eqb, ne_eqb}
use Rattle.basics.specs.Limits.{deepest}
use Rattle.basics.specs.Ladder.{ladder, order, Decides, Listed}
use Rattle.basics.specs.Pick.{pick}
use Rattle.basics.proofs.Ladder.{rung_not, on, via}
use Rattle.nodes.specs.Values.{height_at}
use Rattle.nodes.proofs.Sums.{cases}
use Rattle.paths.specs.Paths.{path_of}
use Rattle.tree.specs.Cells.{At, Apart}
use Rattle.arena.specs.Tables.{Tables, cap, W, Sized}
use Rattle.arena.specs.Calls.{fits, live_or_empty}
use Rattle.ledger.specs.Fates.{Lives}
use Rattle.ledger.specs.Refusals.{Exactly}
use Rattle.ledger.proofs.Exact.{exactly, exactly_as}
use Rattle.ledger.proofs.Refusals.{unsized, dead}
use Rattle.calls.specs.Cells.{spot}
use Rattle.compare.specs.Compare.{Outcome, cells_of, roots_no, compare_no, listed, compare_of}
use Rattle.compare.specs.Promises.{Listed as InList, Compares}
use Rattle.compare.proofs.Codes.{code_one}
use Rattle.compare.proofs.Listing.{map_length}
use Rattle.compare.proofs.Theorems.{accepted_exactly, accepted_is, number_is, compare_right}
use Rattle.refusals.specs.Why.{MoreDiffer, CompareWhy, unsized_compare, uneven_lefts, uneven_rights, deep_compare, dead_left, dead_right, tall_left, tall_right, overfull}
use Rattle.refusals.specs.Rungs.{lent_well, both_there, both_low, compare_rungs}
use Rattle.refusals.proofs.Reading.{fails, above, none}

-- ---- two tests with one number

both_rung : (a b : Bool) (x k : ℕ) → pick a (pick b x k) k ≡ pick (pick a b false) x k
both_rung true b x k = refl
both_rung false b x k = refl

both_fail : {R S : Type 0} (a b : Bool) → Decides (not a) R → Decides (not b) S → Decides (not (pick a b false)) (R ⊎ S)
both_fail true b r s = ((λ e. inr (s.0 e)), λ q. ⊎_elim (λ i. absurd (true≢false (sym (r.1 i)))) s.1 q)
both_fail false b r s = ((λ e. inl (r.0 refl)), λ q. refl)

unlike : (l c : ℕ) → Decides (not (eqb l c)) (l ≢ c)
unlike l c = fails (eqb l c) (eqb-false l c) (ne_eqb l c)

-- ---- different numbers below n are no more than n

few : (n m : ℕ) (f : ℕ → ℕ) → ((i : ℕ) → i < m → f i < n) → ((i j : ℕ) → i < j → j < m → f i ≢ f j) → m ≤ n
few n zero f low one = omega arith
few zero (suc m) f low one = absurd (let h = low 0 (omega arith) in omega arith)
few (suc n) (suc m) f low one = let h = few n m g g_low g_one in omega arith
  where
    -- the last of them takes the place of n
    g : ℕ → ℕ
    g i = pick (eqb (f i) n) (f m) (f i)

    g_is : (i : ℕ) → f i ≡ n → g i ≡ f m
    g_is i e = rw (eq-eqb (f i) n e)

    g_not : (i : ℕ) → f i ≢ n → g i ≡ f i
    g_not i e = rw (ne_eqb (f i) n e)

    g_low : (i : ℕ) → i < m → g i < n
    g_low i h = cases (ℕ_discrete (f i) n)
        (λ e. let k = one i m h (omega arith) in let j = low m (omega arith) in let z : f m ≢ n = (λ q. k (e ∙ sym q)) in omega (arith, g_is i e))
        (λ e. let j = low i (omega arith) in omega (arith, g_not i e))

    g_one : (i j : ℕ) → i < j → j < m → g i ≢ g j
    g_one i j u h q = cases (ℕ_discrete (f i) n)
        (λ e. cases (ℕ_discrete (f j) n)
        (λ k. one i j u (omega arith) (e ∙ sym k))
        (λ k. one j m h (omega arith) (sym (g_not j k) ∙ sym q ∙ g_is i e)))
        (λ e. cases (ℕ_discrete (f j) n)
        (λ k. one i m (omega arith) (omega arith) (sym (g_not i e) ∙ q ∙ g_is j k))
        (λ k. one i j u (omega arith) (sym (g_not i e) ∙ q ∙ g_not j k)))

-- ---- more cells differ than a number, and more are listed

origin : (d : ℕ) → At d
origin d = record { x = 0; y = 0; z = 0; in_x = pow_pos d; in_y = pow_pos d; in_z = pow_pos d }

same_code : {d : ℕ} (s c : At d) → (s.x ≡ c.x) × (s.y ≡ c.y) × (s.z ≡ c.z) → path_of (spot s) ≡ path_of (spot c)
same_code s c e =
    let x = e.0 in
    let y = e.1 in
    let z = e.2 in
    cc

module _ {d : ℕ} {t : Tables} {a b : ℕ} {c l r : List ℕ} {o : Outcome} (x : Compares d t a b c l r o) where
  -- a cell that is listed at place i
  cell_at : (i : ℕ) → Dec (i < o.count) → At d
  cell_at i (yes h) = (x.cells i h).0
  cell_at i (no h) = origin d

  cell_at_lem : (i : ℕ) (q : Dec (i < o.count)) → i < o.count → InList t a b o (cell_at i q) i
  unfolding cell_at
  cell_at_lem i (yes h) k = (x.cells i h).1
  cell_at_lem i (no h) k = absurd (h k)

  more_differ : (k : ℕ) → k < o.count → MoreDiffer d t a b k
  more_differ k m =
      let at : (i : ℕ) → i ≤ k → InList t a b o (cell_at i (dec_lt i o.count)) i = (λ i h. cell_at_lem i (dec_lt i o.count) (omega arith)) in
      record {
        cell = λ i. cell_at i (dec_lt i o.count);
        differ = λ i h. (at i (omega arith)).apart;
        apart = λ i j u h e.
            let p = (at i (omega arith)).code in
            let q = (at j (omega arith)).code in
            omega (arith, x.rising i j u (omega arith), same_code (cell_at i (dec_lt i o.count)) (cell_at j (dec_lt j o.count)) e);
      }

  -- a place at which the cell i is listed
  module _ (deep : d ≤ deepest) (k : ℕ) (m : MoreDiffer d t a b k) where
    placed : (i : ℕ) → i ≤ k → (n : ℕ) × InList t a b o (m.cell i) n
    placed i h = x.places (m.cell i) (m.differ i (omega arith))

    place_of : (i : ℕ) → Dec (i ≤ k) → ℕ
    place_of i (yes h) = (placed i h).0
    place_of i (no h) = 0

    place_of_lem : (i : ℕ) (q : Dec (i ≤ k)) → i ≤ k → InList t a b o (m.cell i) (place_of i q)
    unfolding place_of
    place_of_lem i (yes h) l = (placed i h).1
    place_of_lem i (no h) l = absurd (h l)

    more_listed : k < o.count
    more_listed = few o.count (suc k) (λ i. place_of i (dec_le i k)) (λ i h. (place_of_lem i (dec_le i k) (omega arith)).within)
        (λ i j u h e.
        m.apart i j u (omega arith)
        (code_one (omega arith) (m.cell i) (m.cell j)
        (sym (place_of_lem i (dec_le i k) (omega arith)).code ∙ ap (λ (n : ℕ). get_or o.codes n 0) e ∙ (place_of_lem j (dec_le j k) (omega arith)).code)))

module _ (t : Tables) (a b d c l r : ℕ) where
  abbrev Why : ℕ → Type 0
  Why = CompareWhy t a b d c l r

  compare_ladder : compare_no t a b d c l r ≡ ladder (compare_rungs t a b d c l r)
  unfolding compare_no roots_no lent_well both_there both_low
  compare_ladder =
      let la = live_or_empty (cap t) (W t) a in
      let lb = live_or_empty (cap t) (W t) b in
      let ha = leb (height_at (W t) a) d in
      let hb = leb (height_at (W t) b) d in
      rw (both_rung (eqb l c) (eqb r c), both_rung (fits t) (pick (eqb l c) (eqb r c) false), both_rung ha hb, both_rung la lb)
      (rung_not (lent_well t c l r) _ 1 _ (rung_not (leb d deepest) _ 2 _ (rung_not (both_there t a b) _ 4 _ (rung_not (both_low t a b d) _ 8 _ (rung_not (leb (length (cells_of t a b d)) c) 0 15 [] none)))))

  why_1 : Why 1 → (Sized t → ⊥) ⊎ ((l ≢ c) ⊎ (r ≢ c))
  why_1 (unsized_compare u) = inl u
  why_1 (uneven_lefts h) = inr (inl h)
  why_1 (uneven_rights h) = inr (inr h)

  why_2 : Why 2 → deepest < d
  why_2 (deep_compare h) = h

  why_4 : Why 4 → ((a ≢ 0) × (Lives t a → ⊥)) ⊎ ((b ≢ 0) × (Lives t b → ⊥))
  why_4 (dead_left z h) = inl (z, h)
  why_4 (dead_right z h) = inr (z, h)

  why_8 : Why 8 → (d < height_at (W t) a) ⊎ (d < height_at (W t) b)
  why_8 (tall_left h) = inl h
  why_8 (tall_right h) = inr h

  why_15 : Why 15 → MoreDiffer d t a b c
  why_15 (overfull m) = m

  compare_listed : Listed Why (order (compare_rungs t a b d c l r))
  compare_listed j (unsized_compare h) = Memᴰ.head refl
  compare_listed j (uneven_lefts h) = Memᴰ.head refl
  compare_listed j (uneven_rights h) = Memᴰ.head refl
  compare_listed j (deep_compare h) = Memᴰ.tail (Memᴰ.head refl)
  compare_listed j (dead_left z h) = Memᴰ.tail (Memᴰ.tail (Memᴰ.head refl))
  compare_listed j (dead_right z h) = Memᴰ.tail (Memᴰ.tail (Memᴰ.head refl))
  compare_listed j (tall_left h) = Memᴰ.tail (Memᴰ.tail (Memᴰ.tail (Memᴰ.head refl)))
  compare_listed j (tall_right h) = Memᴰ.tail (Memᴰ.tail (Memᴰ.tail (Memᴰ.head refl)))
  compare_listed j (overfull m) = Memᴰ.tail (Memᴰ.tail (Memᴰ.tail (Memᴰ.tail (Memᴰ.head refl))))

  uneven : Decides (not (lent_well t c l r)) (Why 1)
  unfolding lent_well
  uneven = via (not (lent_well t c l r)) (both_fail (fits t) (pick (eqb l c) (eqb r c) false) (unsized t) (both_fail (eqb l c) (eqb r c) (unlike l c) (unlike r c)))
      (λ q. ⊎_elim unsized_compare (λ i. ⊎_elim uneven_lefts uneven_rights i) q) why_1

  gone : Decides (not (both_there t a b)) (Why 4)
  unfolding both_there
  gone = via (not (both_there t a b)) (both_fail (live_or_empty (cap t) (W t) a) (live_or_empty (cap t) (W t) b) (dead t a) (dead t b))
      (λ q. ⊎_elim (λ i. dead_left i.0 i.1) (λ i. dead_right i.0 i.1) q) why_4

  tall : Decides (not (both_low t a b d)) (Why 8)
  unfolding both_low
  tall = via (not (both_low t a b d)) (both_fail (leb (height_at (W t) a) d) (leb (height_at (W t) b) d) (above (height_at (W t) a) d) (above (height_at (W t) b) d))
      (λ q. ⊎_elim tall_left tall_right q) why_8

  -- ---- 15, where no lower number applies

  module _ (one : Why 1 → ⊥) (two : Why 2 → ⊥) (four : Why 4 → ⊥) (eight : Why 8 → ⊥) where
    abbrev n : ℕ
    n = length (cells_of t a b d)

    -- a list that holds the differing cells
    abbrev wide : List ℕ
    wide = map (λ e. e.code) (cells_of t a b d)

    is_wide : length wide ≡ n
    is_wide = map_length (λ e. e.code) (cells_of t a b d)

    deep : d ≤ deepest
    deep = leb-true d deepest (on (leb d deepest) (above d deepest) (λ h. two (deep_compare h)))

    accepts : compare_no t a b d (length wide) (length wide) (length wide) ≡ 0
    accepts = (accepted_exactly t a b d (length wide) (length wide) (length wide)).1 (
      record {
        fit = on (fits t) (unsized t) (λ h. one (unsized_compare h));
        lefts = refl;
        rights = refl;
        deep = deep;
        there_a = on (live_or_empty (cap t) (W t) a) (dead t a) (λ h. four (dead_left h.0 h.1));
        there_b = on (live_or_empty (cap t) (W t) b) (dead t b) (λ h. four (dead_right h.0 h.1));
        low_a = leb-true (height_at (W t) a) d (on (leb (height_at (W t) a) d) (above (height_at (W t) a) d) (λ h. eight (tall_left h)));
        low_b = leb-true (height_at (W t) b) d (on (leb (height_at (W t) b) d) (above (height_at (W t) b) d) (λ h. eight (tall_right h)));
      },
      (let e = is_wide in omega arith),
    )

    counts : (compare_of t a b d wide wide wide).count ≡ n
    unfolding listed
    counts = ap (λ (o : Outcome). o.count) (accepted_is t a b d wide wide wide accepts)

    over : Decides (not (leb n c)) (Why 15)
    over =
        let x = compare_right t a b d wide wide wide accepts in
        let e = counts in
        via (not (leb n c)) (above n c) (λ h. overfull (more_differ x c (omega arith))) (λ m. let k = more_listed x deep c (why_15 m) in omega arith)

  compare_no_refusals : Exactly Why (compare_no t a b d c l r)
  compare_no_refusals = exactly Why (compare_rungs t a b d c l r) (compare_no t a b d c l r) compare_ladder
      (omega arith) compare_listed (
        uneven,
        λ i. (
          via (not (leb d deepest)) (above d deepest) deep_compare why_2,
          λ j. (gone, λ k. (tall, λ m. (over i j k m, λ _. tt))),
        ),
      )

-- Comparison: refusals 1, 2, 4, 8 and 15, each given exactly if it is the lowest that applies.
pub compare_refusals : (t : Tables) (a b d : ℕ) (c l r : List ℕ) → Exactly (CompareWhy t a b d (length c) (length l) (length r)) (compare_of t a b d c l r).no
compare_refusals t a b d c l r =
    exactly_as (CompareWhy t a b d (length c) (length l) (length r)) (number_is t a b d c l r) (compare_no_refusals t a b d (length c) (length l) (length r))
