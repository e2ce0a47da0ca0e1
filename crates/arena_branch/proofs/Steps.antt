-- What `branch_at` comes to on each way through the code: s is the slot of the branch, or 0 where it is not there.
use mathlib.Core.Path.{◌≡◌, refl, sym, ap, ◌∙◌}
use mathlib.Core.Logic.{◌≢◌}
use mathlib.Core.Bool.{true, false}
use mathlib.Core.List.{List}
use Prim.Native.Nat.{ℕ, ◌+◌, ◌≤◌, ◌<◌, ◌%◌, ◌^◌}
use native.Mathlib.Omega.{arith}
use lib.Dec.{ltb}
use lib.ListN.{length}
use borrow.Author.Tests.{eq-eqb, ne_eqb, le-leb, lt-leb, ltb-true}
use Rattle.basics.specs.Limits.{cube_kids, deepest, kid_words}
use Rattle.basics.specs.Pick.{pick}
use Rattle.ids.specs.declared.BlockId.{BlockId}
use Rattle.nodes.specs.Words.{Words, fact_of, holds, places, word_of}
use Rattle.nodes.proofs.Sums.{split}
use Rattle.find_hash.specs.Hash.{kids_hash}
use Rattle.arena.specs.Calls.{Out, Fair, all_live, each, enough, enough_for, full_of, intern_branch_of, live_of, live_or_empty, raw_ids, refused}
use Rattle.arena.specs.Models.{branch_at, branch_new_by, branch_take_by, branch_with, bumped, first_no, hit_by, intern_branch_by, lasts, late_no, lives_at, sum_by, taken_one, top_for}
use Rattle.arena.specs.Node.{kid_mask, kid_types, sum_for, value_for}
use Rattle.arena.specs.Tables.{State, Tables, cap, tables, W}
use Rattle.arena.proofs.Branching.{branch_law}
use Rattle.arena.proofs.Eight.{raw_length}
use Rattle.new_value.proofs.Facts.{sum_facts, top_facts, value_facts}

module _ (a : State) (k f e ks : List ℕ) (s at : ℕ) where
  abbrev t : Tables
  t = tables a k f e

  abbrev top : ℕ
  top = top_for (W t) ks cube_kids

  abbrev answer : Out
  answer = branch_at cube_kids deepest t ks s at

  same_enough : enough (fact_of f) ks ≡ enough (W t) ks
  unfolding enough_for word_of
  same_enough = refl

  same_live : all_live a.capacity (fact_of f) ks ≡ all_live (cap t) (W t) ks
  unfolding live_or_empty live_of word_of
  same_live = refl

  -- the node has as many holds as it may have, or fewer
  pub full : s ≢ 0 → 1000000 ≤ fact_of f s holds → 10 ≡ late_no deepest a (W t) s top
  unfolding late_no full_of word_of
  full n h = rw (ne_eqb s 0 n, le-leb 1000000 (fact_of f s holds) h)

  pub fewer : s ≢ 0 → fact_of f s holds < 1000000 → late_no deepest a (W t) s top ≡ 0
  unfolding late_no full_of word_of
  fewer n h = rw (ne_eqb s 0 n, lt-leb 1000000 (fact_of f s holds) h)

  -- what the code knows of the height of a branch that is not there
  pub tall : (x : ℕ) → x ≡ top_for (fact_of f) ks cube_kids → late_no deepest a (W t) s x ≡ late_no deepest a (W t) s top
  tall x e = ap (λ (y : ℕ). late_no deepest a (W t) s y) (e ∙ top_facts k f ks)

  -- where the branch is not there its children may be dead
  pub dead : s ≡ 0 → all_live a.capacity (fact_of f) ks ≡ false → refused 4 t ≡ answer
  unfolding branch_at lives_at
  dead z d = rw (eq-eqb s 0 z, sym same_live ∙ d)

  pub lives_there : s ≢ 0 → lives_at (cap t) (W t) ks s ≡ true
  unfolding lives_at
  lives_there n = rw (ne_eqb s 0 n)

  pub lives_all : s ≡ 0 → all_live a.capacity (fact_of f) ks ≡ true → lives_at (cap t) (W t) ks s ≡ true
  unfolding lives_at
  lives_all z l = rw (eq-eqb s 0 z, sym same_live ∙ l)

  module _ (lives : lives_at (cap t) (W t) ks s ≡ true) where
    pub late : (n : ℕ) → n ≡ late_no deepest a (W t) s top → n ≢ 0 → refused (pick (enough (fact_of f) ks) n 5) t ≡ answer
    unfolding branch_at first_no
    late n el d = split (enough (W t) ks)
        (λ q. rw (lives, sym el, ne_eqb n 0 d, q, ne_eqb n 0 d, same_enough, q))
        (λ q. rw (lives, sym el, ne_eqb n 0 d, q, same_enough, q))

    module _ (none : late_no deepest a (W t) s top ≡ 0) where
      taken : branch_take_by cube_kids t ks s at ≡ answer
      unfolding branch_at first_no
      taken = rw (lives, none)

      pub few : lasts f ks ≡ false → refused 5 t ≡ answer
      unfolding branch_take_by
      few l = (rw l) ∙ taken

      pub there : s ≢ 0 → lasts f ks ≡ true → hit_by (tables a k (each taken_one f ks) e) s ≡ answer
      unfolding branch_take_by
      there n l = (rw (l, ne_eqb s 0 n)) ∙ taken

      pub new : s ≡ 0 → lasts f ks ≡ true
          → branch_new_by (tables a k (each taken_one f ks) e) ks (value_for cube_kids (fact_of f) ks) (top_for (fact_of f) ks cube_kids) (sum_for cube_kids (fact_of f) ks % 2 ^ 32) at ≡ answer
      unfolding branch_take_by sum_by
      new z l = (rw (l, eq-eqb s 0 z, value_facts k f ks, top_facts k f ks, sum_facts k f ks)) ∙ taken

-- a branch that may be made is not too tall
pub low : (a : State) (U : Words) (x : ℕ) → late_no deepest a U 0 x ≡ 0 → x < deepest
unfolding late_no
low a U x e = split (ltb x deepest) (λ q. ltb-true x deepest q) (λ q. absurd (let z : 8 ≡ 0 = rw q at e in omega arith))

-- the fresh branch, once the code has counted the places and made the bytes
pub fresh : (a : State) (k f e ks m : List ℕ) (v top sm kh at ty ma : ℕ) (x : Out) → m ≡ each (bumped places) f ks → kh ≡ kids_hash ks → ty ≡ kid_types ks → ma ≡ kid_mask ks
    → x ≡ branch_with (tables a k m e) ks ty ma v (top + 1) (sm % 2 ^ 32) kh 1 0 at → x ≡ branch_new_by (tables a k f e) ks v top (sm % 2 ^ 32) at
unfolding branch_new_by
fresh a k f e ks m v top sm kh at ty ma x em ek et ea ex = ex ∙ (λ i. branch_with (tables a k (em i) e) ks (et i) (ea i) v (top + 1) (sm % 2 ^ 32) (ek i) 1 0 at)

-- a cube's children fill the words of a row: no id stands beyond them
pub cube_law : {t : Tables} (ids : List BlockId) (ks : List ℕ) (x : Out) → length ids ≡ kid_words → ks ≡ raw_ids ids
    → x ≡ intern_branch_by cube_kids deepest t ks → Fair cube_kids deepest t → x ≡ intern_branch_of cube_kids deepest t (raw_ids ids)
cube_law {t} ids ks x e r q f =
    branch_law (raw_ids ids) x (omega arith) (omega arith) (raw_length ids ∙ e) (λ i a b. absurd (omega arith))
    (q ∙ ap (intern_branch_by cube_kids deepest t) r) f
