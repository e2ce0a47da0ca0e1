-- The check says yes exactly if the tables are well formed, on any tables, and leaves them as before.
use mathlib.Core.Path.{◌≡◌, sym, ◌∙◌, subst}
use mathlib.Core.Logic.{◌≢◌, ◌↔◌}
use mathlib.Core.Bool.{Bool, true, false}
use mathlib.Core.List.{List}
use Prim.Native.Nat.{ℕ, ◌≤◌, ◌<◌}
use native.Mathlib.Decide.{dec_lt}
use native.Mathlib.Omega.{arith}
use Rattle.basics.specs.Limits.{deepest, cube_kids}
use Rattle.basics.proofs.Rungs.{via_yes, via_no}
use Rattle.nodes.specs.Words.{Words, own, mark, nodes, kid_of, word_of, slot, floor}
use Rattle.nodes.specs.Tally.{occ, kids_of, Live}
use Rattle.nodes.proofs.Access.{word_kid}
use Rattle.nodes.proofs.Counts.{occ_kid}
use Rattle.nodes.proofs.Sums.{cases}
use Rattle.arena.specs.Tables.{State, Tables, tables, WellFormed}
use Rattle.arena.proofs.Fits.{fits_sized, sized_fits}
use Rattle.arena.proofs.Ids.{node_slot, node_child}
use Rattle.check_freed.specs.Models.{all_in}
use Rattle.check_places.specs.Models.{count_to, clear_to, agree_at}
use Rattle.check_freed.proofs.Ladders.{Tells, tells_le, tells_map, tells_and}
use Rattle.check_places.proofs.Tallying.{count_restored, tallies_law}
use Rattle.check_freed.proofs.Freed.{state_tells}
use Rattle.check_find.proofs.Searching.{find_tells}
use Rattle.check_arena.specs.Models.{ranged_by, sound_by, check_by}
use Rattle.check_arena.proofs.Slots.{slots_tell}
use Rattle.check_arena.proofs.Checking.{Sound, Tallied, well_sound, sound_well}

module _ (a : State) (k f e : List ℕ) where
  abbrev t : Tables
  t = tables a k f e

  abbrev X : Words
  X = word_of (nodes k f)

  abbrev c : ℕ
  c = a.capacity

  sound_tells : Tells (sound_by a k f e) (Sound cube_kids deepest t)
  unfolding sound_by ranged_by
  sound_tells =
      tells_map
      (λ r. record {
        sized = r.0;
        some = r.1.0.0;
        fits = r.1.0.1;
        slots = r.1.1.0;
        count = r.1.1.1.0.0;
        entries = r.1.1.1.0.1;
        seated = r.1.1.1.1.0;
        found = r.1.1.1.1.1;
      })
      (λ w. (w.sized, ((w.some, w.fits), (w.slots, ((w.count, w.entries), (w.seated, w.found))))))
      (tells_and (fits_sized t, sized_fits)
      (λ z. tells_and (tells_and (tells_le 1 a.next) (λ l. tells_le a.next c))
      (λ l. tells_and (slots_tell k f c a.next z.most) (λ g. tells_and (state_tells a k f) (λ s. find_tells c k f e)))))

  -- ---- what the tally wants

  module _ (w : Sound cube_kids deepest t) where
    good_kid : (s i : ℕ) → s < c → i < 8 → X s i ≢ 0 → Live c X (X s i)
    good_kid s i l m d = let g = w.slots s l in cases (dec_lt (X s own) floor)
        (λ h. absurd (d ((g.cleared h).words i (omega arith) (omega arith) (omega arith))))
        (λ h. (node_child (omega arith) l w.sized.most (g.node (omega arith)) i m d).0)

    alive : (b : ℕ) → b < c → (y : ℕ) → y ≢ 0 → 1 ≤ occ y (kids_of 8 (kid_of k) b) → Live c X y
    alive b l y d o =
        let r = occ_kid 8 (kid_of k) b y o in
        let q : X b r.0 ≡ y = word_kid (nodes k f) b r.0 r.1 ∙ r.2 in
        subst (λ (z : ℕ). Live c X z) q (good_kid b r.0 l r.1 (λ z. d (sym q ∙ z)))

    plain : (s : ℕ) → s < c → floor ≤ X s own → (X s mark ≡ 0) × (slot (X s own) ≡ s)
    plain s l h = let g = w.slots s l in (g.plain h, node_slot (omega arith) l w.sized.most (g.node h))

    sound_kept : clear_to (count_to k f c) c ≡ f
    sound_kept = count_restored k c f w.sized.kids w.sized.facts w.sized.most alive plain

    tally_tells : Tells (all_in 0 c (agree_at (count_to k f c))) (Tallied t)
    tally_tells = tallies_law k c f w.sized.kids w.sized.facts w.sized.most alive plain

  -- ---- the theorem

  pub check_tells : Tells (check_by a k f e) (WellFormed cube_kids deepest t)
  unfolding check_by
  check_tells =
      tells_map (λ r. sound_well (omega arith) r.0 r.1) (λ v. (well_sound (omega arith) v, (λ s l h. v.tallied s (l, h)))) (tells_and sound_tells tally_tells)

  -- ---- as the code meets it

  answer : (r : Bool) → r ≡ check_by a k f e → (r ≡ true) ↔ WellFormed cube_kids deepest t
  answer r d = ((λ q. check_tells.0 (sym d ∙ q)), (λ v. d ∙ check_tells.1 v))

  module _ (s : Bool) (is : s ≡ sound_by a k f e) where
    pub refused : s ≡ false → (s ≡ true) ↔ WellFormed cube_kids deepest t
    unfolding check_by
    refused h = answer s (via_no (sound_by a k f e) _ false s s is h h)

    pub answered : (r : Bool) → s ≡ true → r ≡ all_in 0 c (agree_at (count_to k f c)) → (r ≡ true) ↔ WellFormed cube_kids deepest t
    unfolding check_by
    answered r h d = answer r (via_yes (sound_by a k f e) _ false s r is h d)

    pub kept : (g : List ℕ) → s ≡ true → g ≡ clear_to (count_to k f c) c → g ≡ f
    kept g h d = d ∙ sound_kept (sound_tells.0 (sym is ∙ h))
