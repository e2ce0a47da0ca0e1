-- The refusals and the ends of the call, in the forms in which the code has them.
use mathlib.Core.Path.{◌≡◌, ◌∙◌, refl, sym, ap}
use mathlib.Core.Bool.{Bool, true, false}
use mathlib.Core.List.{List}
use Prim.Native.Nat.{ℕ, ◌*◌, ◌%◌, ◌^◌, ◌≤◌, ◌<◌}
use native.Mathlib.Omega.{arith}
use borrow.Author.Tests.{le-leb, lt-leb, eq-eqb, ne_eqb, leb-true, eqb-true}
use lib.Dec.{leb, eqb}
use lib.ListN.{length}
use Rattle.basics.specs.Limits.{deepest, cube_kids}
use Rattle.basics.specs.Pick.{pick}
use Rattle.basics.proofs.Rungs.{rung_yes, rung_no, via_yes, via_no, past_yes}
use Rattle.nodes.specs.Words.{Words, nodes, fact_of, word_of}
use Rattle.nodes.specs.Values.{height_at}
use Rattle.arena.specs.Tables.{State, Tables, tables, cap, W}
use Rattle.arena.specs.Calls.{fits, live_of, live_or_empty}
use Rattle.compare_pairs.specs.Differing.{differing}
use Rattle.compare_pairs.proofs.Pairs.{count_le}
use Rattle.read_cell.proofs.Cube.{cells_shift}
use Rattle.compare_count.specs.Count.{count_of}
use Rattle.compare_list.specs.List.{Written, wrote, cells_written, written_of}
use Rattle.compare_list.specs.declared.Found.{Found}
use Rattle.compare.specs.Compare.{outcome, cells_of, roots_no, compare_no, listed, compare_of}
use Rattle.compare.specs.Models.{roots_by, first_no}

-- ---- refusals

-- for a ladder whose tests are flags of callees, or orders
pub ruleset climb = (via_yes, via_no, rung_yes, rung_no, le-leb, lt-leb, eq-eqb, ne_eqb)

pub height_low : (U : Words) (id d h : ℕ) → h ≡ height_at U id → h ≤ d → leb (height_at U id) d ≡ true
height_low U id d h e l = le-leb (height_at U id) d (omega arith)

pub height_high : (U : Words) (id d h : ℕ) → h ≡ height_at U id → d < h → leb (height_at U id) d ≡ false
height_high U id d h e l = lt-leb (height_at U id) d (omega arith)

pub roots_facts : (m : ℕ) (ks fs : List ℕ) (a b d k : ℕ) → k ≡ roots_by m (fact_of fs) a b d → k ≡ roots_by m (word_of (nodes ks fs)) a b d
unfolding roots_by live_or_empty live_of height_at word_of
roots_facts m ks fs a b d k e = e

-- ---- room

module _ (ks fs : List ℕ) (a b d room : ℕ) (h : d ≤ deepest) where
  pub room_whole : 1 * 2 ^ (3 * d) % 2 ^ 64 ≤ room → leb (1 * 2 ^ (3 * d) % 2 ^ 64) room ≡ leb (length (differing cube_kids (word_of (nodes ks fs)) d a b)) room
  room_whole g =
      let few : length (differing cube_kids (word_of (nodes ks fs)) d a b) ≤ room = omega (arith, count_le cube_kids (word_of (nodes ks fs)) d a b, cells_shift 64 d (omega arith)) in
      le-leb (1 * 2 ^ (3 * d) % 2 ^ 64) room g ∙ sym (le-leb (length (differing cube_kids (word_of (nodes ks fs)) d a b)) room few)

  pub room_counted : (m : ℕ) → m ≡ count_of (word_of (nodes ks fs)) a b d → leb m room ≡ leb (length (differing cube_kids (word_of (nodes ks fs)) d a b)) room
  unfolding count_of
  room_counted m e = ap (λ (i : ℕ). leb i room) (e ∙ rw (le-leb d deepest h))

-- ---- the call

-- a ladder that stops before its end stops there whatever the end is, and one that does not comes to its end

abbrev ladder_to : Bool → Bool → Bool → Bool → Bool → Bool → Bool → Bool → ℕ → ℕ
ladder_to f i j g a b x z y = pick f (pick i (pick j (pick g (pick a (pick b (pick x (pick z y 8) 8) 4) 4) 2) 1) 1) 1

stops : (f i j g a b x z : Bool) (y : ℕ) → (ladder_to f i j g a b x z 0 ≡ 0 → ⊥)
    → ladder_to f i j g a b x z y ≡ ladder_to f i j g a b x z 0
stops true true true true true true true true y h = absurd (h refl)
stops true true true true true true true false y h = refl
stops true true true true true true false z y h = refl
stops true true true true true false x z y h = refl
stops true true true true false b x z y h = refl
stops true true true false a b x z y h = refl
stops true true false g a b x z y h = refl
stops true false j g a b x z y h = refl
stops false i j g a b x z y h = refl

passes : (f i j g a b x z : Bool) (y : ℕ) → ladder_to f i j g a b x z 0 ≡ 0
    → ladder_to f i j g a b x z y ≡ y
passes true true true true true true true true y h = refl
passes true true true true true true true false y h = absurd (omega arith)
passes true true true true true true false z y h = absurd (omega arith)
passes true true true true true false x z y h = absurd (omega arith)
passes true true true true false b x z y h = absurd (omega arith)
passes true true true false a b x z y h = absurd (omega arith)
passes true true false g a b x z y h = absurd (omega arith)
passes true false j g a b x z y h = absurd (omega arith)
passes false i j g a b x z y h = absurd (omega arith)

module _ (T : Tables) (a b d c l r k : ℕ) (e : k ≡ first_no T a b d c l r) where
  no_stops : (k ≡ 0 → ⊥) → compare_no T a b d c l r ≡ k
  unfolding compare_no roots_no first_no roots_by
  no_stops h =
      stops (fits T) (eqb l c) (eqb r c) (leb d deepest) (live_or_empty (cap T) (W T) a) (live_or_empty (cap T) (W T) b) (leb (height_at (W T) a) d)
      (leb (height_at (W T) b) d) (pick (leb (length (cells_of T a b d)) c) 0 15) (λ q. h (e ∙ q))
      ∙ sym e

  no_passes : k ≡ 0 → compare_no T a b d c l r ≡ pick (leb (length (cells_of T a b d)) c) 0 15
  unfolding compare_no roots_no first_no roots_by
  no_passes h =
      passes (fits T) (eqb l c) (eqb r c) (leb d deepest) (live_or_empty (cap T) (W T) a) (live_or_empty (cap T) (W T) b) (leb (height_at (W T) a) d)
      (leb (height_at (W T) b) d) (pick (leb (length (cells_of T a b d)) c) 0 15) (sym e ∙ h)

  lent : k ≡ 0 → (l ≡ c) × (r ≡ c) × (d ≤ deepest)
  unfolding first_no
  lent h =
      let p = past_yes (fits T) _ 1 0 (omega arith) (sym e ∙ h) in
      let i = past_yes (eqb l c) _ 1 0 (omega arith) p.1 in
      let j = past_yes (eqb r c) _ 1 0 (omega arith) i.1 in
      let z = past_yes (leb d deepest) _ 2 0 (omega arith) j.1 in
      (eqb-true l c i.0, eqb-true r c j.0, leb-true d deepest z.0)

  pub deep_enough : k ≡ 0 → d ≤ deepest
  deep_enough h = (lent h).2

module _ (A : State) (ks fs es : List ℕ) (a b d k : ℕ) (c l r : List ℕ) (e : k ≡ first_no (tables A ks fs es) a b d (length c) (length l) (length r)) where
  refuses : (n : ℕ) → compare_no (tables A ks fs es) a b d (length c) (length l) (length r) ≡ n → (n ≡ 0 → ⊥)
      → outcome n 0 0 c l r ≡ compare_of (tables A ks fs es) a b d c l r
  unfolding compare_of
  refuses n m h = rw (m, ne_eqb n 0 h)

  pub call_refused : (k ≡ 0 → ⊥) → outcome k 0 0 c l r ≡ compare_of (tables A ks fs es) a b d c l r
  call_refused h = refuses k (no_stops (tables A ks fs es) a b d (length c) (length l) (length r) k e h) h

  module _ (t : Bool) (u : t ≡ leb (length (differing cube_kids (word_of (nodes ks fs)) d a b)) (length c)) (h : k ≡ 0) where
    pub call_fifteen : t ≡ false → outcome 15 0 0 c l r ≡ compare_of (tables A ks fs es) a b d c l r
    call_fifteen g =
        refuses 15 (no_passes (tables A ks fs es) a b d (length c) (length l) (length r) k e h ∙ rw (sym u ∙ g)) (omega arith)

    pub call_listed : (f : Found) (c' l' r' : List ℕ) → wrote f c' l' r' ≡ written_of (word_of (nodes ks fs)) a b d c l r → t ≡ true
        → outcome 0 f.cells f.opened c' l' r' ≡ compare_of (tables A ks fs es) a b d c l r
    unfolding compare_of written_of cells_written listed
    call_listed f c' l' r' w g =
        let z = lent (tables A ks fs es) a b d (length c) (length l) (length r) k e h in
        let m : compare_no (tables A ks fs es) a b d (length c) (length l) (length r) ≡ 0 =
        no_passes (tables A ks fs es) a b d (length c) (length l) (length r) k e h ∙ rw (sym u ∙ g) in
        let v = rw (eq-eqb (length l) (length c) z.0, eq-eqb (length r) (length c) z.1, le-leb d deepest z.2) at w in
        rw m (ap (λ (i : Written). outcome 0 i.count i.opened i.codes i.lefts i.rights) v)
