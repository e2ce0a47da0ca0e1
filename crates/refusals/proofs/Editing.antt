-- The numbers of the edit: each is given exactly if it is the lowest that applies. On tables that are not sized, or well formed.
use mathlib.Core.Path.{◌≡◌, refl, sym, ap, ◌∙◌, subst}
use mathlib.Core.Logic.{◌≢◌, inl, inr}
use mathlib.Core.Bool.{Bool, true, false, not, true≢false}
use mathlib.Core.List.Memᴰ
use mathlib.Core.List.{[], ◌∷◌}
use Prim.Native.Nat.{ℕ, ◌-◌, ◌≤◌, ◌<◌}
use native.Mathlib.Decide.{ℕ_discrete}
use native.Mathlib.Omega.{arith}
use lib.Dec.{leb, eqb}
use borrow.Author.Tests.{leb-true, leb-false, le-leb, eq-eqb, ne_eqb}
use Rattle.basics.specs.Limits.{deepest, cube_kids, most_holds}
use Rattle.basics.specs.Ladder.{ladder, order, Decides, Listed}
use Rattle.basics.specs.Pick.{pick}
use Rattle.basics.proofs.Ladder.{ladder_then, rung_not, via}
use Rattle.nodes.specs.Values.{height_at}
use Rattle.nodes.specs.Words.{holds, slot}
use Rattle.nodes.proofs.Counts.{live_nonzero}
use Rattle.nodes.proofs.Sums.{cases, split}
use Rattle.paths.specs.declared.IVec3.{IVec3}
use Rattle.tree.specs.Tree.{LiveOr0}
use Rattle.tree.specs.Lacks.{Need, have, lack}
use Rattle.arena.specs.Tables.{live_in, Tables, cap, W, Sized, WellFormed}
use Rattle.arena.specs.Calls.{Fair, fits, live_or_empty, full_of}
use Rattle.arena.proofs.Fits.{sized_fits}
use Rattle.ledger.specs.Fates.{Lives}
use Rattle.ledger.specs.Refusals.{Full, Exactly}
use Rattle.ledger.proofs.Exact.{exactly, exactly_as}
use Rattle.ledger.proofs.Refusals.{unsized, dead}
use Rattle.read_cell.specs.Calls.{look_no}
use Rattle.edit.specs.Edit.{result_of, grant_no, cell_no, cell_at, edit_no, edit_of}
use Rattle.edit.specs.Promises.{Posed}
use Rattle.edit.proofs.Edits.{edit_number, posed}
use Rattle.edit.proofs.Theorems.{past_no}
use Rattle.edit.proofs.Lacking.{missing_some, eleven_right, result_there, result_one, result_dead}
use Rattle.refusals.specs.Why.{Beyond, LookWhy, unsized_look, deep_look, beyond_look, dead_look, EditWhy, unsized_edit, deep_edit, beyond_edit, dead_edit, tall_edit, full_edit, crowded_edit}
use Rattle.refusals.specs.Rungs.{all_inside, look_rungs, ten_of, eleven_of, edit_rungs}
use Rattle.refusals.proofs.Reading.{above, beyond, look_ladder, look_no_refusals}

-- ---- the number as a ladder

grant_ladder : (t : Tables) (r : Need) → grant_no t r ≡ ladder ((ten_of t r, 10) ∷ (eleven_of t r, 11) ∷ [])
unfolding grant_no ten_of eleven_of ladder
grant_ladder t (have r) = split (eqb r 0) (λ z. rw z) (λ z. split (full_of (W t) (slot r)) (λ f. rw (z, f)) (λ f. rw (z, f)))
grant_ladder t (lack k) = split (leb k (cap t - 1 - live_in t.arena)) (λ l. rw l) (λ l. rw l)

-- 10 is not given where the result isn't there, nor where it is EMPTY
ten_have : (t : Tables) (r : ℕ) → ten_of t (have r) ≡ true → (r ≢ 0) × Full t r
unfolding ten_of full_of
ten_have t r e = cases (ℕ_discrete r 0)
    (λ z. absurd (true≢false (sym (rw (eq-eqb r 0 z) at e))))
    (λ z. (z, leb-true most_holds (W t (slot r) holds) (rw (ne_eqb r 0 z) at e)))

have_ten : (t : Tables) (r : ℕ) → r ≢ 0 → Full t r → ten_of t (have r) ≡ true
unfolding ten_of full_of
have_ten t r z f = rw (ne_eqb r 0 z) (le-leb most_holds (W t (slot r) holds) f)

ten_lack : (t : Tables) (k : ℕ) → ten_of t (lack k) ≡ true → ⊥
unfolding ten_of
ten_lack t k e = true≢false (sym e)

-- 11 is given exactly if the grant's number is
eleven_is : (t : Tables) (r : Need) → Decides (eleven_of t r) (grant_no t r ≡ 11)
unfolding eleven_of grant_no
eleven_is t (have r) = ((λ e. absurd (true≢false (sym e))), (λ e. absurd (never (eqb r 0) (full_of (W t) (slot r)) e)))
  where
    never : (a b : Bool) → ◌≡◌ {A = ℕ} (pick a 0 (pick b 10 0)) 11 → ⊥
    never true b e = omega arith
    never false true e = omega arith
    never false false e = omega arith
eleven_is t (lack k) = go (leb k (cap t - 1 - live_in t.arena))
  where
    go : (b : Bool) → Decides (not b) (◌≡◌ {A = ℕ} (pick b 0 11) 11)
    go true = ((λ e. absurd (true≢false (sym e))), (λ e. absurd (omega arith)))
    go false = ((λ e. refl), (λ e. refl))

module _ (t : Tables) (root d : ℕ) (p : IVec3) (v : ℕ) where
  abbrev result : Need
  result = result_of cube_kids t v (cell_at d p) root

  abbrev Why : ℕ → Type 0
  Why = EditWhy t root d p v

  edit_ladder : edit_no t root d p v ≡ ladder (edit_rungs t root d p v)
  unfolding edit_no cell_no
  edit_ladder = rw (look_ladder t root d p)
      (ap (λ (x : ℕ). pick (eqb (ladder (look_rungs t root d p)) 0) x (ladder (look_rungs t root d p))) (rung_not (leb (height_at (W t) root) d) _ 8 _ (grant_ladder t result))
      ∙ ladder_then (look_rungs t root d p) _ (omega arith))

  why_1 : Why 1 → Sized t → ⊥
  why_1 (unsized_edit u) = u

  why_2 : Why 2 → deepest < d
  why_2 (deep_edit h) = h

  why_3 : Why 3 → Beyond d p
  why_3 (beyond_edit b) = b

  why_4 : Why 4 → (root ≢ 0) × (Lives t root → ⊥)
  why_4 (dead_edit z l) = (z, l)

  why_8 : Why 8 → d < height_at (W t) root
  why_8 (tall_edit h) = h

  edit_listed : Listed Why (order (edit_rungs t root d p v))
  edit_listed j (unsized_edit h) = Memᴰ.head refl
  edit_listed j (deep_edit h) = Memᴰ.tail (Memᴰ.head refl)
  edit_listed j (beyond_edit h) = Memᴰ.tail (Memᴰ.tail (Memᴰ.head refl))
  edit_listed j (dead_edit z h) = Memᴰ.tail (Memᴰ.tail (Memᴰ.tail (Memᴰ.head refl)))
  edit_listed j (tall_edit h) = Memᴰ.tail (Memᴰ.tail (Memᴰ.tail (Memᴰ.tail (Memᴰ.head refl))))
  edit_listed j (full_edit c U r i l f) = Memᴰ.tail (Memᴰ.tail (Memᴰ.tail (Memᴰ.tail (Memᴰ.tail (Memᴰ.head refl)))))
  edit_listed j (crowded_edit k m h) = Memᴰ.tail (Memᴰ.tail (Memᴰ.tail (Memᴰ.tail (Memᴰ.tail (Memᴰ.tail (Memᴰ.head refl))))))

  -- ---- 10 and 11, where no lower number applies

  module _ (w : WellFormed cube_kids deepest t) (n : look_no t root d p ≡ 0) (low : height_at (W t) root ≤ d) where
    abbrev q : Posed cube_kids deepest t root d (cell_at d p)
    q = posed w root d p n

    ten_to : (r : Need) → result ≡ r → ten_of t r ≡ true → Why 10
    ten_to (have r) i e =
        let h = result_there q v low r i in
        let f = ten_have t r e in
        full_edit (cap t) (W t) r h.1 (lives r f.0 h.0) f.1
      where
        lives : (y : ℕ) → y ≢ 0 → LiveOr0 (cap t) (W t) y → Lives t y
        lives y z (inl e) = absurd (z e)
        lives y z (inr l) = l
    ten_to (lack k) i e = absurd (ten_lack t k e)

    ten_from : (r : Need) → result ≡ r → Why 10 → ten_of t r ≡ true
    ten_from (have r) j (full_edit c U s i l f) =
        let e : s ≡ r = result_one q v low r c U s j i in
        subst (λ (y : ℕ). ten_of t (have y) ≡ true) e (have_ten t s (live_nonzero l) f)
    ten_from (lack k) j (full_edit c U s i l f) = absurd (result_dead q v low k c U s j i l)

    ten : Decides (ten_of t result) (Why 10)
    ten = (ten_to result refl, ten_from result refl)

    eleven : Decides (eleven_of t result) (Why 11)
    eleven = (to, from)
      where
        is : cell_no cube_kids t root d (cell_at d p) v ≡ grant_no t result
        is = past_no q v low

        to : eleven_of t result ≡ true → Why 11
        to e =
            let m = missing_some q v low (let h = q.deep in omega arith) in
            crowded_edit m.0 m.1 ((eleven_right q v low m.0 m.1).0 (is ∙ (eleven_is t result).0 e))

        from : Why 11 → eleven_of t result ≡ true
        from (crowded_edit k m h) = (eleven_is t result).1 (sym is ∙ (eleven_right q v low k m).1 h)

  module _ (fair : Fair cube_kids deepest t) where
    well : (Why 1 → ⊥) → Fair cube_kids deepest t → WellFormed cube_kids deepest t
    well n (inl f) = absurd (n (unsized_edit (λ s. true≢false (sym (sized_fits s) ∙ f))))
    well n (inr w) = w

    past : (Why 1 → ⊥) → (Why 2 → ⊥) → (Why 3 → ⊥) → (Why 4 → ⊥) → look_no t root d p ≡ 0
    past a b c e = (look_no_refusals t root d p).accepted.1 none
      where
        none : (k : ℕ) → LookWhy t root d p k → ⊥
        none k (unsized_look u) = a (unsized_edit u)
        none k (deep_look h) = b (deep_edit h)
        none k (beyond_look h) = c (beyond_edit h)
        none k (dead_look z l) = e (dead_edit z l)

    low : (Why 8 → ⊥) → height_at (W t) root ≤ d
    low n = split (leb (height_at (W t) root) d) (λ e. leb-true (height_at (W t) root) d e) (λ e. absurd (n (tall_edit (leb-false (height_at (W t) root) d e))))

    edit_no_refusals : Exactly Why (edit_no t root d p v)
    edit_no_refusals = exactly Why (edit_rungs t root d p v) (edit_no t root d p v) edit_ladder
        (omega arith) edit_listed (
          via (not (fits t)) (unsized t) unsized_edit why_1,
          λ a. (
            via (not (leb d deepest)) (above d deepest) deep_edit why_2,
            λ b. (
              via (not (all_inside d p)) (beyond d p) beyond_edit why_3,
              λ c. (
                via (not (live_or_empty (cap t) (W t) root)) (dead t root) (λ n. dead_edit n.0 n.1) why_4,
                λ e. (
                  via (not (leb (height_at (W t) root) d)) (above (height_at (W t) root) d) tall_edit why_8,
                  λ f. (
                    ten (well a fair) (past a b c e) (low f),
                    λ _. (eleven (well a fair) (past a b c e) (low f), λ _. tt),
                  ),
                ),
              ),
            ),
          ),
        )

    -- The edit: refusals 1, 2, 3, 4, 8, 10 and 11, each given exactly if it is the lowest that applies.
    pub edit_refusals : Exactly (EditWhy t root d p v) (edit_of t root d p v).no
    edit_refusals = exactly_as Why (edit_number t root d p v) edit_no_refusals
