-- The tally of all nodes in one pass: a counter in the mark word of live slots, 0 before and 0 again after.
use mathlib.Core.Path.{◌≡◌, refl, sym, ap, ◌∙◌, subst}
use mathlib.Core.Logic.{◌≢◌}
use mathlib.Core.List.{List, [], ◌∷◌}
use Prim.Native.Nat.{ℕ, zero, suc, ◌+◌, ◌-◌, ◌*◌, ◌^◌, ◌≤◌, ◌<◌}
use native.Mathlib.Decide.{ℕ_discrete, dec_lt}
use native.Mathlib.Omega.{arith}
use lib.ListN.{length, get_or}
use lib.Seq.{ext_get_or}
use borrow.Author.Tests.{eq-eqb, ne_eqb, le-leb, lt-leb}
use Rattle.basics.specs.Sums.{sum_to}
use Rattle.nodes.specs.Words.{Words, own, places, mark, row_at, in_facts, nodes, kid_of, fact_of, fact_put, word_of, put_of, slot, floor}
use Rattle.nodes.specs.Tally.{same, occ, kids_of, tally, Live}
use Rattle.nodes.proofs.Access.{Within, word_fact, kids_word, fact_row, put_row, put_size, put_same, put_slot, put_keeps}
use Rattle.nodes.proofs.Counts.{live_inj, live_nonzero}
use Rattle.nodes.proofs.Rows.{facts_laid, facts_all, cell_in_lem, cell_other}
use Rattle.nodes.proofs.Sums.{cases, same_refl, same_diff, occ_nil, occ_cons, occ_here, occ_length, sum_to_ext_lem, tab_from_length_lem}
use Rattle.arena.specs.Calls.{each}
use Rattle.arena.specs.Models.{bumped, more_of}
use Rattle.arena.proofs.Places.{more_few}
use Rattle.check_freed.specs.Models.{all_in, up_to}
use Rattle.check_freed.proofs.Ladders.{Tells, tells_eq, tells_le, tells_map, tells_then}
use Rattle.check_freed.proofs.Passes.{tells_all, each_keep, turns_keep}
use Rattle.check_places.specs.Models.{kids_bumped, count_to, unmarked, clear_to, agree_at}

bumped_empty : (f : List ℕ) (y : ℕ) → y ≡ 0 → bumped mark f y ≡ f
unfolding bumped
bumped_empty f y e = rw (eq-eqb y 0 e)

bumped_node : (f : List ℕ) (y : ℕ) → y ≢ 0 → bumped mark f y ≡ fact_put f (slot y) mark (more_of (fact_of f (slot y) mark))
unfolding bumped
bumped_node f y e = rw (ne_eqb y 0 e)

module _ (k : List ℕ) where
  abbrev U : List ℕ → Words
  U f = word_of (nodes k f)

  unmarked_live : (f : List ℕ) (s : ℕ) → floor ≤ U f s own → unmarked f s ≡ fact_put f s mark 0
  unfolding unmarked
  unmarked_live f s h = let w = word_fact (nodes k f) s own (omega arith) in rw (le-leb floor (fact_of f s own) (omega arith))

  unmarked_dead : (f : List ℕ) (s : ℕ) → U f s own < floor → unmarked f s ≡ f
  unfolding unmarked
  unmarked_dead f s h = let w = word_fact (nodes k f) s own (omega arith) in rw (lt-leb floor (fact_of f s own) (omega arith))

  -- ---- one mark written

  put_here : (f : List ℕ) (s x : ℕ) → Within (nodes k f) s → U (fact_put f s mark x) s mark ≡ x
  unfolding put_of
  put_here f s x w = put_same (nodes k f) s mark x w (omega arith) (omega arith)

  put_there : (f : List ℕ) (s x b : ℕ) → b ≢ s → U (fact_put f s mark x) b mark ≡ U f b mark
  unfolding put_of
  put_there f s x b d = put_slot (nodes k f) s mark x b mark d

  bumped_there : (f : List ℕ) (y b : ℕ) → (y ≢ 0 → b ≢ slot y) → U (bumped mark f y) b mark ≡ U f b mark
  bumped_there f y b d = cases (ℕ_discrete y 0)
      (λ z. rw (bumped_empty f y z) refl)
      (λ z. rw (bumped_node f y z) (put_there f (slot y) (more_of (fact_of f (slot y) mark)) b (d z)))

  unmarked_there : (f : List ℕ) (s b : ℕ) → b ≢ s → U (unmarked f s) b mark ≡ U f b mark
  unmarked_there f s b d = cases (dec_lt (U f s own) floor)
      (λ h. rw (unmarked_dead f s h) refl)
      (λ h. rw (unmarked_live f s (omega arith)) (put_there f s 0 b d))

  -- all words but the mark stay, which is word 9 of a slot

  record Scratched (f g : List ℕ) : Type 0 where
    size : length g ≡ length f
    words : (b w : ℕ) → w ≢ mark → U g b w ≡ U f b w
    rows : (b p : ℕ) → p ≢ 9 → row_at 11 in_facts g b p ≡ row_at 11 in_facts f b p

  module _ (f : List ℕ) where
    none : Scratched f f
    none = record { size = refl; words = λ b w d. refl; rows = λ b p d. refl }

    put_scratched : (g : List ℕ) (s x : ℕ) → Scratched f g → Scratched f (fact_put g s mark x)
    unfolding put_of
    put_scratched g s x r = record {
      size = (put_size (nodes k g) s mark x).facts ∙ r.size;
      words = λ b w d. put_keeps (nodes k g) s mark x b w d ∙ r.words b w d;
      rows = λ b p d. rw (put_row g s mark x (omega arith)) (cell_other 11 in_facts facts_laid g s 9 x b p (λ e. d) ∙ r.rows b p d);
    }

    bumped_scratched : (g : List ℕ) (y : ℕ) → Scratched f g → Scratched f (bumped mark g y)
    bumped_scratched g y r = cases (ℕ_discrete y 0)
        (λ z. rw (bumped_empty g y z) r) (λ z. rw (bumped_node g y z) (put_scratched g (slot y) (more_of (fact_of g (slot y) mark)) r))

    unmarked_scratched : (g : List ℕ) (s : ℕ) → Scratched f g → Scratched f (unmarked g s)
    unmarked_scratched g s r = cases (dec_lt (U g s own) floor)
        (λ h. rw (unmarked_dead g s h) r) (λ h. rw (unmarked_live g s (omega arith)) (put_scratched g s 0 r))

    count_scratched : (b : ℕ) → Scratched f (count_to k f b)
    unfolding kids_bumped
    count_scratched b =
        turns_keep (Scratched f) (kids_bumped k) b
        (λ g s l. each_keep (Scratched f) (bumped mark) (λ y. y ≡ y) (λ x y q r. bumped_scratched x y r) (kids_of 8 (kid_of k) s) g (λ y o. refl)) f none b (omega arith)

    clear_scratched : (g : List ℕ) → Scratched f g → (b : ℕ) → Scratched f (clear_to g b)
    clear_scratched g r b = turns_keep (Scratched f) unmarked b (λ x s l q. unmarked_scratched x s q) g r b (omega arith)

  module _ (c : ℕ) (f : List ℕ) (eight : length k ≡ 8 * c) (eleven : length f ≡ 11 * c) (small : c ≤ 65536) where
    inside : (g : List ℕ) (s : ℕ) → Scratched f g → s < c → Within (nodes k g) s
    inside g s r l =
        let e = r.size in
        record { kids = record { small = omega arith; room = omega arith }; facts = record { small = omega arith; room = omega arith } }

    -- ---- a place more that names y

    module _ (x : ℕ) (lx : Live c (U f) x) where
      bumped_count : (g : List ℕ) (y : ℕ) → Scratched f g → (y ≢ 0 → Live c (U f) y) → U g (slot x) mark < 2 ^ 32 - 1
          → U (bumped mark g y) (slot x) mark ≡ U g (slot x) mark + same x y
      bumped_count g y r ly few = cases (ℕ_discrete y x)
          (λ (q : y ≡ x).
          let w : U g (slot x) mark ≡ fact_of g (slot x) mark = word_fact (nodes k g) (slot x) mark (omega arith) in
          let m = more_few (fact_of g (slot x) mark) (omega arith) in
          let p = put_here g (slot x) (more_of (fact_of g (slot x) mark)) (inside g (slot x) r lx.low) in
          let o = same_refl x in
          rw (q, bumped_node g x (live_nonzero lx)) (omega arith))
          (λ q.
          let o = same_diff x y (λ e. q (sym e)) in
          let p = bumped_there g y (slot x) (λ d e. q (live_inj (ly d) lx (sym e))) in
          omega arith)

      bumps_count : (ys g : List ℕ) → Scratched f g → ((y : ℕ) → y ≢ 0 → 1 ≤ occ y ys → Live c (U f) y) → U g (slot x) mark + length ys < 2 ^ 32 - 1
          → U (each (bumped mark) g ys) (slot x) mark ≡ U g (slot x) mark + occ x ys
      unfolding each
      bumps_count [] g r h few = omega (arith, occ_nil x)
      bumps_count (y ∷ ys) g r h few =
          let p = bumped_count g y r (λ d. h y d (omega (arith, occ_here y ys))) (omega arith) in
          let o = occ_length x (y ∷ []) in
          let ih = bumps_count ys (bumped mark g y) (bumped_scratched f g y r) (λ z d q. h z d (omega (arith, occ_cons z y ys)))
          (omega (arith, occ_cons x y [], occ_nil x)) in
          omega (arith, occ_cons x y ys)

    -- ---- the whole pass

    module _ (h : (b : ℕ) → b < c → (y : ℕ) → y ≢ 0 → 1 ≤ occ y (kids_of 8 (kid_of k) b) → Live c (U f) y) where
      kids_eight : (b : ℕ) → length (kids_of 8 (kid_of k) b) ≡ 8
      unfolding kids_of
      kids_eight b = tab_from_length_lem 8 0 (kid_of k b)

      -- after it each live node's counter is its tally
      count_sum : (x : ℕ) → Live c (U f) x → U f (slot x) mark ≡ 0 → (b : ℕ) → b ≤ c
          → (U (count_to k f b) (slot x) mark ≡ sum_to b (λ s. occ x (kids_of 8 (kid_of k) s))) × (sum_to b (λ s. occ x (kids_of 8 (kid_of k) s)) ≤ 8 * b)
      unfolding sum_to up_to kids_bumped
      count_sum x lx z zero m = (z, omega arith)
      count_sum x lx z (suc b) m =
          let r = count_sum x lx z b (omega arith) in
          let e = r.0 in
          let j = r.1 in
          let o = occ_length x (kids_of 8 (kid_of k) b) in
          let len = kids_eight b in
          let q = bumps_count x lx (kids_of 8 (kid_of k) b) (count_to k f b) (count_scratched f b) (h b (omega arith)) (omega arith) in
          (omega arith, omega arith)

      count_tally : (x : ℕ) → Live c (U f) x → U f (slot x) mark ≡ 0 → U (count_to k f c) (slot x) mark ≡ tally 8 c (U f) x
      unfolding tally
      count_tally x lx z =
          (count_sum x lx z c (omega arith)).0
          ∙ sum_to_ext_lem c (λ s. occ x (kids_of 8 (kid_of k) s)) (λ s. occ x (kids_of 8 (U f) s)) (λ s m. ap (occ x) (kids_word 8 (nodes k f) s (omega arith)))

      -- a slot that is not live is not written
      count_dead : (s : ℕ) → U f s own < floor → U (count_to k f c) s mark ≡ U f s mark
      unfolding kids_bumped
      count_dead s dead =
          turns_keep (λ g. U g s mark ≡ U f s mark) (kids_bumped k) c
          (λ g b l. each_keep (λ g. U g s mark ≡ U f s mark) (bumped mark) (λ y. y ≢ 0 → Live c (U f) y)
          (λ x y v e. bumped_there x y s (λ d q. apart y (v d) q) ∙ e) (kids_of 8 (kid_of k) b) g (λ y o d. h b l y d o)) f refl c (omega arith)
        where
          apart : (y : ℕ) → Live c (U f) y → s ≢ slot y
          apart y v q = let j : U f (slot y) own < floor = subst (λ (b : ℕ). U f b own < floor) q dead in let i = v.is in let g = v.high in omega arith

    -- ---- and 0 again: the counter of a live slot is 0, of a dead slot as it was

    clear_before : (g : List ℕ) (s : ℕ) → U (clear_to g s) s mark ≡ U g s mark
    clear_before g s = turns_keep (λ x. U x s mark ≡ U g s mark) unmarked s (λ x b l e. unmarked_there x b s (omega arith) ∙ e) g refl s (omega arith)

    clear_after : (g : List ℕ) (s b : ℕ) → s < b → U (clear_to g b) s mark ≡ U (unmarked (clear_to g s) s) s mark
    unfolding up_to
    clear_after g s zero l = absurd (omega arith)
    clear_after g s (suc b) l = cases (ℕ_discrete s b)
        (λ (q : s ≡ b). rw q refl) (λ q. unmarked_there (clear_to g b) b s q ∙ clear_after g s b (omega arith))

    module _ (g : List ℕ) (r : Scratched f g) (s : ℕ) (l : s < c) where
      same_own : U (clear_to g s) s own ≡ U f s own
      same_own = (clear_scratched f g r s).words s own (omega arith)

      clear_live : floor ≤ U f s own → U (clear_to g c) s mark ≡ 0
      clear_live h =
          let e = same_own in
          clear_after g s c l ∙ rw (unmarked_live (clear_to g s) s (omega arith)) (put_here (clear_to g s) s 0 (inside (clear_to g s) s (clear_scratched f g r s) l))

      clear_dead : U f s own < floor → U (clear_to g c) s mark ≡ U g s mark
      clear_dead h = let e = same_own in clear_after g s c l ∙ rw (unmarked_dead (clear_to g s) s (omega arith)) (clear_before g s)

  -- two tables with the same words are the same list
  rows_ext : (c : ℕ) (f g : List ℕ) → length f ≡ 11 * c → length g ≡ 11 * c → c ≤ 65536 → ((s p : ℕ) → s < c → p < 11 → row_at 11 in_facts f s p ≡ row_at 11 in_facts g s p) → f ≡ g
  rows_ext c f g n m small h = ext_get_or 0 f g (n ∙ sym m)
      (λ q l. facts_all c (length f) q n l (λ s p a b e.
      subst (λ (x : ℕ). get_or f x 0 ≡ get_or g x 0) e
      (sym (cell_in_lem 11 in_facts f s p (record { small = omega arith; room = omega arith }) b) ∙ h s p a b
      ∙ cell_in_lem 11 in_facts g s p (record { small = omega arith; room = omega arith }) b ∙ ap (λ (x : ℕ). get_or g (in_facts x s p) 0) (m ∙ sym n))))

  mark_row : (f : List ℕ) (s : ℕ) → U f s mark ≡ row_at 11 in_facts f s 9
  mark_row f s = word_fact (nodes k f) s mark (omega arith) ∙ fact_row f s mark (omega arith)

  -- ---- what the comparison says

  agree_tells : (f : List ℕ) (s : ℕ) → Tells (agree_at f s) (floor ≤ U f s own → U f s places ≡ U f s mark)
  unfolding agree_at word_of
  agree_tells f s = tells_then (tells_le floor (fact_of f s own)) (λ l. tells_eq (fact_of f s places) (fact_of f s mark))

  module _ (c : ℕ) (f : List ℕ) (eight : length k ≡ 8 * c) (eleven : length f ≡ 11 * c) (small : c ≤ 65536)
      (h : (b : ℕ) → b < c → (y : ℕ) → y ≢ 0 → 1 ≤ occ y (kids_of 8 (kid_of k) b) → Live c (U f) y)
      (plain : (s : ℕ) → s < c → floor ≤ U f s own → (U f s mark ≡ 0) × (slot (U f s own) ≡ s)) where
    scratch : Scratched f (count_to k f c)
    scratch = count_scratched f c

    -- the pass and the clearing leave the table as it was
    pub count_restored : clear_to (count_to k f c) c ≡ f
    count_restored =
        let q = clear_scratched f (count_to k f c) scratch c in
        rows_ext c (clear_to (count_to k f c) c) f (q.size ∙ eleven) eleven small
        (λ s p m l. cases (ℕ_discrete p 9)
        (λ (z : p ≡ 9). rw z (sym (mark_row (clear_to (count_to k f c) c) s) ∙ marks s m ∙ mark_row f s))
        (λ z. q.rows s p z))
      where
        marks : (s : ℕ) → s < c → U (clear_to (count_to k f c) c) s mark ≡ U f s mark
        marks s m = cases (dec_lt (U f s own) floor)
            (λ d. clear_dead c f eight eleven small (count_to k f c) scratch s m d ∙ count_dead c f eight eleven small h s d)
            (λ d. clear_live c f eight eleven small (count_to k f c) scratch s m (omega arith) ∙ sym (plain s m (omega arith)).0)

    counted : (s : ℕ) → s < c → floor ≤ U f s own → U (count_to k f c) s mark ≡ tally 8 c (U f) (U f s own)
    counted s m j =
        let e = (plain s m j).1 in
        let x : Live c (U f) (U f s own) = record { low = omega arith; is = ap (λ (b : ℕ). U f b own) e; high = j } in
        subst (λ (b : ℕ). U (count_to k f c) b mark ≡ tally 8 c (U f) (U f s own)) e
        (count_tally c f eight eleven small h (U f s own) x (ap (λ (b : ℕ). U f b mark) e ∙ (plain s m j).0))

    -- the code's answer: the places of every live node are its tally
    pub tallies_law : Tells (all_in 0 c (agree_at (count_to k f c))) ((s : ℕ) → s < c → floor ≤ U f s own → U f s places ≡ tally 8 c (U f) (U f s own))
    tallies_law =
        tells_map (λ q s m. q s (omega arith) m) (λ q s a m. q s m)
        (tells_all (agree_at (count_to k f c)) (λ s. floor ≤ U f s own → U f s places ≡ tally 8 c (U f) (U f s own)) 0 c
        (λ s a m.
        let w = scratch.words s own (omega arith) in
        let p = scratch.words s places (omega arith) in
        tells_map (λ r j. sym p ∙ r (omega arith) ∙ counted s m j) (λ r j. p ∙ r (omega arith) ∙ sym (counted s m (omega arith))) (agree_tells (count_to k f c) s)))
