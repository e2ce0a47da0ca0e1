-- One place taken from a node, as the code takes it, is one drop of `drop_place`.
use mathlib.Core.Path.{◌≡◌, refl, sym, ap, ap₂, ◌∙◌}
use mathlib.Core.Bool.{Bool, true, false}
use mathlib.Core.List.{List, [], ◌∷◌}
use Prim.Native.Nat.{ℕ, suc, ◌+◌, ◌-◌, ◌≤◌, ◌<◌}
use native.Mathlib.Decide.{ℕ_discrete}
use native.Mathlib.Numerals.{add-one}
use native.Mathlib.Omega.{arith}
use lib.Dec.{eqb}
use lib.ListN.{length, get_or, drop}
use borrow.Author.Tests.{eq-eqb, ne_eqb, lt-ltb, le-ltb}
use Rattle.basics.specs.Limits.{deepest}
use Rattle.basics.specs.Pick.{pick}
use Rattle.nodes.specs.Tally.{kids_of}
use Rattle.nodes.specs.Words.{fact_of, fact_put, height, holds, kid_of, nodes, places, put_of, row_put, slot, word_of}
use Rattle.nodes.proofs.Access.{kids_word, word_fact}
use Rattle.nodes.proofs.Sums.{cases, split}
use Rattle.arena.specs.Calls.{each, empties}
use Rattle.arena.specs.Models.{bared, drop_one, drop_place, gone_by, more_of, recycled_by, release_by, settled, settled_n, stays_of, unplaced}
use Rattle.arena.specs.Tables.{State, state_in, Tables, tables}
use Rattle.arena.proofs.Eight.{each_idle, each_on}
use Rattle.arena_release.specs.Drop.{Took, took, take_of, drop_slot}

-- ---- what `take_place_unless_last` answers and leaves

module _ (f : List ℕ) (id : ℕ) where
  pub take_empty : id ≡ 0 → took false f ≡ take_of f id
  unfolding take_of
  take_empty z = rw (eq-eqb id 0 z)

  module _ (s p : ℕ) (d : id ≡ 0 → ⊥) (es : s ≡ slot id) (ep : p ≡ fact_of f s places) where
    take_stays : (m : List ℕ) (v : ℕ) → stays_of (fact_of f) s ≡ true → v ≡ p - 1 → m ≡ fact_put f s places v → took false m ≡ take_of f id
    unfolding take_of
    take_stays m v e ev em = rw (ne_eqb id 0 d, sym es, e) (ap (took false) (em ∙ ap (fact_put f s places) (ev ∙ ap (λ (x : ℕ). x - 1) ep)))

    -- another place is left
    pub take_more : (m : List ℕ) → 1 < p → m ≡ fact_put f s places (p - 1) → took false m ≡ take_of f id
    unfolding stays_of
    take_more m l em =
        take_stays m (p - 1) (split (eqb (fact_of f s holds) 0) (λ h. rw (h, lt-ltb 1 (fact_of f s places) (omega arith))) (λ h. rw h)) refl em

    -- none is left, but a hold
    pub take_held : (m : List ℕ) (h : ℕ) → m ≡ fact_put f s places 0 → h ≡ fact_of f s holds → (h ≡ 0 → ⊥) → p ≤ 1 → took false m ≡ take_of f id
    unfolding stays_of
    take_held m h em eh n l = take_stays m 0 (rw (ne_eqb (fact_of f s holds) 0 (λ z. n (eh ∙ z)))) (omega arith) em

    -- nothing is left
    pub take_last : (m : List ℕ) (h : ℕ) → m ≡ f → h ≡ fact_of f s holds → h ≡ 0 → p ≤ 1 → took true m ≡ take_of f id
    unfolding take_of stays_of
    take_last m h em eh z l = rw (ne_eqb id 0 d, sym es, eq-eqb (fact_of f s holds) 0 (sym eh ∙ z), le-ltb 1 (fact_of f s places) (omega arith)) (ap (took true) em)

-- what `take_place_unless_last` needs
pub ruleset taking = (take_empty, take_more, take_held, take_last)

-- ---- and what that comes to

module _ (levels : ℕ) (a : State) (k f e : List ℕ) (id : ℕ) where
  -- it goes, or it stays
  abbrev drop_took : Took → Tables
  drop_took o = pick o.last (drop_slot levels (tables a k o.facts e) (slot id)) (tables a k o.facts e)

  drop_by : drop_place gone_by (levels + 1) (tables a k f e) id ≡ drop_took (take_of f id)
  unfolding drop_place drop_one take_of stays_of unplaced put_of word_of
  drop_by = rw (add-one levels) (cases (ℕ_discrete id 0)
      (λ (n : id ≡ 0). rw (eq-eqb id 0 n))
      (λ d. split (stays_of (fact_of f) (slot id)) (λ q. rw (ne_eqb id 0 d, q)) (λ q. rw (ne_eqb id 0 d, q))))

  module _ (r : Bool) (m : List ℕ) (eo : took r m ≡ take_of f id) where
    drop_as : drop_took (took r m) ≡ drop_place gone_by (levels + 1) (tables a k f e) id
    drop_as = ap drop_took eo ∙ sym drop_by

    pub drop_taken : r ≡ false → tables a k m e ≡ drop_place gone_by (levels + 1) (tables a k f e) id
    drop_taken z = rw z at drop_as

    pub drop_last : (s : ℕ) (x : Tables) → r ≡ true → s ≡ slot id → x ≡ drop_slot levels (tables a k m e) s → x ≡ drop_place gone_by (levels + 1) (tables a k f e) id
    drop_last s x z es ex = ex ∙ ap (drop_slot levels (tables a k m e)) es ∙ (rw z at drop_as)

-- ---- a slot, then its children

module _ (levels s h : ℕ) (c slots r : ℕ) (k f e f' e' : List ℕ) (eh : h ≡ fact_of f s height)
    (er : (j : List ℕ) → tables (state_in c r) j f' e' ≡ recycled_by (tables (state_in c slots) j f e) s) where
  abbrev t : Tables
  t = tables (state_in c slots) k f e

  -- a leaf
  pub slot_leaf : h ≡ 0 → tables (state_in c r) k f' e' ≡ drop_slot levels t s
  unfolding gone_by word_of
  slot_leaf z = rw (eq-eqb (fact_of f s height) 0 (sym eh ∙ z)) (er k)

  -- a branch, whose children are l
  module _ (l k' : List ℕ) (el : l ≡ kids_of 8 (kid_of k) s) (ek : k' ≡ row_put 8 k s (0 ∷ 0 ∷ 0 ∷ 0 ∷ 0 ∷ 0 ∷ 0 ∷ 0 ∷ [])) (d : h ≡ 0 → ⊥) where
    abbrev u : Tables
    u = tables (state_in c r) k' f' e'

    bare : u ≡ bared (recycled_by t s) s
    unfolding bared empties
    bare = ap (λ (j : List ℕ). tables (state_in c r) j f' e') ek ∙ ap (λ (x : Tables). tables x.arena (row_put 8 x.nodes.kids s empties) x.nodes.facts x.find) (er k)

    slot_by : (x : Tables) → x ≡ each (drop_place gone_by levels) u l → x ≡ drop_slot levels t s
    unfolding gone_by
    slot_by x ex =
        rw (ne_eqb (word_of (nodes k f) s height) 0 (λ z. d (eh ∙ sym (word_fact (nodes k f) s height (omega arith)) ∙ z)))
        (ex ∙ ap₂ (each (drop_place gone_by levels)) bare (el ∙ kids_word 8 (nodes k f) s (omega arith)))

    pub slot_none : levels ≡ 0 → u ≡ drop_slot levels t s
    unfolding drop_place
    slot_none z = slot_by u (rw z (sym (each_idle (drop_place gone_by 0) u l (λ x o. refl))))

    pub slot_all : (x : Tables) → (levels ≡ 0 → ⊥) → x ≡ each (drop_place gone_by (levels - 1 + 1)) u l → x ≡ drop_slot levels t s
    slot_all x n ex = let q : levels - 1 + 1 ≡ levels = omega arith in slot_by x (ex ∙ ap (λ (j : ℕ). each (drop_place gone_by j) u l) q)

-- ---- the loop over eight ids

module _ (levels c w i : ℕ) (k f e l : List ℕ) (t₀ : Tables) (eight : length l ≡ 8) (low : i < 8)
    (inv : each (drop_place gone_by (levels + 1)) t₀ l ≡ each (drop_place gone_by (levels + 1)) (tables (state_in c w) k f e) (drop i l)) (r : Bool) (m : List ℕ)
    (eo : took r m ≡ take_of f (get_or l i 0)) where
  pub again_taken : r ≡ false → each (drop_place gone_by (levels + 1)) t₀ l ≡ each (drop_place gone_by (levels + 1)) (tables (state_in c w) k m e) (drop (i + 1) l)
  again_taken z =
      each_on (drop_place gone_by (levels + 1)) t₀ (tables (state_in c w) k f e) l i eight inv (tables (state_in c w) k m e) low
      (drop_taken levels (state_in c w) k f e (get_or l i 0) r m eo z)

  pub again_last : (s : ℕ) (x : Tables) → r ≡ true → s ≡ slot (get_or l i 0) → x ≡ drop_slot levels (tables (state_in c w) k m e) s
      → each (drop_place gone_by (levels + 1)) t₀ l ≡ each (drop_place gone_by (levels + 1)) x (drop (i + 1) l)
  again_last s x z es ex =
      each_on (drop_place gone_by (levels + 1)) t₀ (tables (state_in c w) k f e) l i eight inv x low
      (drop_last levels (state_in c w) k f e (get_or l i 0) r m eo s x z es ex)

-- ---- a hold

module _ (a : State) (k f e : List ℕ) (id s : ℕ) (m m' : List ℕ) (r : Bool) (es : s ≡ slot id)
    (em : m ≡ fact_put (fact_put f s holds (fact_of f s holds - 1)) s places (more_of (fact_of f s places))) (eo : took r m' ≡ take_of m id) where
  settled_is : tables a k m e ≡ settled (tables a k f e) (slot id)
  unfolding settled settled_n put_of word_of
  settled_is = ap (λ (l : List ℕ). tables a k l e) (em ∙ ap (λ (z : ℕ). fact_put (fact_put f z holds (fact_of f z holds - 1)) z places (more_of (fact_of f z places))) es)

  by_drop : (x : Tables) → x ≡ drop_place gone_by (suc deepest) (tables a k m e) id → x ≡ release_by deepest (tables a k f e) id
  unfolding release_by
  by_drop x ex = ex ∙ ap (λ (t : Tables). drop_place gone_by (suc deepest) t id) settled_is

  pub hold_stays : r ≡ false → tables a k m' e ≡ release_by deepest (tables a k f e) id
  hold_stays z = by_drop (tables a k m' e) (drop_taken deepest a k m e id r m' eo z)

  pub hold_goes : (x : Tables) → r ≡ true → x ≡ drop_slot deepest (tables a k m' e) s → x ≡ release_by deepest (tables a k f e) id
  hold_goes x z ex = by_drop x (drop_last deepest a k m e id r m' eo s x z es ex)
