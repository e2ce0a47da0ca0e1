-- The steps of the making, and that along the way to the cell it is the making by the cell's path.
use mathlib.Core.Path.{◌≡◌, refl, sym, ap, ap₂, ◌∙◌, subst}
use mathlib.Core.Bool.{Bool, true, false}
use mathlib.Core.List.{List, [], ◌∷◌}
use Prim.Native.Nat.{ℕ, zero, suc, ◌+◌, ◌-◌, ◌*◌, ◌/◌, ◌%◌, ◌^◌, ◌≤◌, ◌<◌}
use native.Mathlib.Nat.{mul-le-mul_right, div-add-mod', pow-succ', div-div-eq-div-mul}
use native.Mathlib.Decide.{dec_lt}
use native.Mathlib.Omega.{arith}
use lib.Dec.{eqb}
use lib.ListN.{length, get_or, drop}
use mir.Val.{bool_byte}
use borrow.Author.Tests.{eq-eqb, ne_eqb, lt-ltb, le-ltb, le-leb}
use Rattle.basics.specs.Limits.{deepest}
use Rattle.basics.specs.Pick.{pick}
use Rattle.nodes.specs.Words.{Nodes, Words, fact_of, fact_put, places, put_of, slot, word_of, nodes}
use Rattle.nodes.specs.Tally.{one_if}
use Rattle.nodes.specs.Values.{value_at, height_at}
use Rattle.nodes.proofs.Access.{put_word, word_fact}
use Rattle.nodes.proofs.Sums.{cases, split}
use Rattle.find_hash.specs.Hash.{leaf_hash, home_in}
use Rattle.find.specs.Cells.{probe}
use Rattle.paths.specs.declared.Cell.{Cell}
use Rattle.tree.specs.Cells.{path_by, path_to}
use Rattle.tree.specs.Anew.{part}
use Rattle.arena.specs.Calls.{Out, said, fresh_slot}
use Rattle.arena.specs.Models.{branch_with, leaf_fresh, more_of, top_for}
use Rattle.arena.specs.Tables.{State, Tables, tables, W}
use Rattle.arena.proofs.Eight.{drop_at, drop_none}
use Rattle.edit_way.specs.Models.{octants, way_of}
use Rattle.edit_way.specs.declared.Way.{Way}
use Rattle.edit_way.proofs.Ways.{Rises, top, step}
use Rattle.edit_plan.specs.Models.{planned}
use Rattle.edit_plan.proofs.Plans.{way_rises}
use Rattle.edit_make.specs.Models.{owed_by, place_for, sum_over, height_over, placed_if, placed_where, leaf_anew_by, branch_anew_by, up_by, hold_at, make_up, passed, from_of, low_of, make_on, make_by}

-- ---- by the facts and by the words

-- the fresh slot by the facts alone is that by the words
pub place_facts : (a : State) (k f e : List ℕ) (y : ℕ) → probe (eqb (fresh_slot a (fact_of f))) e (home_in a.capacity y) ≡ place_for (tables a k f e) y
unfolding fresh_slot word_of
place_facts a k f e y = refl

module _ (k f : List ℕ) where
  pub height_facts : (ks : List ℕ) (y g : ℕ) → height_over (fact_of f) ks y g ≡ height_over (word_of (nodes k f)) ks y g
  unfolding height_over height_at top_for word_of
  height_facts ks y g = refl

  pub tall_facts : (y : ℕ) → height_at (fact_of f) y ≡ height_at (word_of (nodes k f)) y
  unfolding height_at word_of
  tall_facts y = refl

  pub sum_facts : (y : ℕ) → sum_over (fact_of f) y ≡ sum_over (word_of (nodes k f)) y
  unfolding sum_over value_at word_of
  sum_facts y = refl

-- ---- nodes made anew

pub leaf_done : (a : State) (k f e : List ℕ) (v h q y at : ℕ) (r : Out) → y ≡ leaf_hash v → at ≡ probe (eqb (fresh_slot a (fact_of f))) e (home_in a.capacity y)
    → r ≡ leaf_fresh (tables a k f e) v y h q at → r ≡ leaf_anew_by (tables a k f e) v h q
unfolding leaf_anew_by
leaf_done a k f e v h q y at r ey ea er =
    er ∙ ap₂ (λ (i p : ℕ). leaf_fresh (tables a k f e) v i h q p) ey
    (ea ∙ ap (λ (i : ℕ). probe (eqb (fresh_slot a (fact_of f))) e (home_in a.capacity i)) ey ∙ place_facts a k f e (leaf_hash v))

pub branch_done : (a : State) (k f e ks : List ℕ) (ty ma up sum y h q at : ℕ) (r : Out) → at ≡ probe (eqb (fresh_slot a (fact_of f))) e (home_in a.capacity y)
    → r ≡ branch_with (tables a k f e) ks ty ma (sum / 8) up sum y h q at → r ≡ branch_anew_by (tables a k f e) ks ty ma up sum y h q
unfolding branch_anew_by
branch_done a k f e ks ty ma up sum y h q at r ea er = er ∙ ap (branch_with (tables a k f e) ks ty ma (sum / 8) up sum y h q) (ea ∙ place_facts a k f e y)

-- ---- one place more

-- what was there written again
again : (l : List ℕ) (s : ℕ) → fact_put l s places (fact_of l s places) ≡ l
unfolding put_of
again l s = ap (λ (x : Nodes). x.facts) (put_word (nodes [] l) s places (fact_of l s places) (sym (word_fact (nodes [] l) s places (omega arith))))

pub place_done : (l l' : List ℕ) (k s p q : ℕ) (on : Bool) → s ≡ slot k → p ≡ fact_of l s places → q ≡ pick on (more_of p) p → l' ≡ fact_put l s places q → l' ≡ placed_if l k on
unfolding placed_if
place_done l l' k s p q on es ep eq el =
    el ∙ rw (es, eq, ep, es) (split on (λ h. rw h) (λ h. rw h (again l (slot k))))

-- ---- the loop over the places

module _ (ks l₀ : List ℕ) (m₀ : ℕ) where
  -- what is left of the loop gives what the whole gives
  abbrev pub Places : ℕ → List ℕ → ℕ → Type 0
  Places i l m = placed_where l (drop i ks) m ≡ placed_where l₀ ks m₀

  module _ (i : ℕ) (l : List ℕ) (m : ℕ) (eight : length ks ≡ 8) (rest : Places i l m) where
    pub place_on : (l' : List ℕ) (b : Bool) → i < 8 → b ≡ eqb (m % 2) 1 → l' ≡ placed_if l (get_or ks i 0) b → Places (i + 1) l' (m / 2)
    unfolding placed_where
    place_on l' b h eb el =
        let e : placed_where l (get_or ks i 0 ∷ drop (i + 1) ks) m ≡ placed_where l (drop i ks) m = sym (ap (λ (x : List ℕ). placed_where l x m) (drop_at ks i eight h)) in
        ap (λ (x : List ℕ). placed_where x (drop (i + 1) ks) (m / 2)) (el ∙ ap (placed_if l (get_or ks i 0)) eb) ∙ e ∙ rest

    pub place_end : 8 ≤ i → l ≡ placed_where l₀ ks m₀
    unfolding placed_where
    place_end h = sym (ap (λ (x : List ℕ). placed_where l x m) (drop_none ks i eight h)) ∙ rest

-- ---- the loop over levels

module _ (ids : List ℕ) (d from path : ℕ) (o₀ : Out) where
  abbrev pub Makes : ℕ → ℕ → Out → Type 0
  Makes l p o = make_up ids d (d - l) l p o ≡ make_up ids d (d - from) from path o₀

  module _ (l p : ℕ) (o : Out) (rest : Makes l p o) where
    pub make_on_lem : (r : Out) (h : ℕ) → l < d → h ≡ hold_at (l + 1) d → r ≡ up_by o (get_or ids l 0) (p % 8) h (1 - h) → Makes (l + 1) (p / 8) r
    unfolding make_up
    make_on_lem r h u eh er =
        let n : ℕ = d - (l + 1) in
        let e : d - l ≡ suc n = omega arith in
        let i : l + 1 ≡ suc l = omega arith in
        let q : h ≡ hold_at (suc l) d = eh ∙ ap (λ (x : ℕ). hold_at x d) i in
        let up : up_by o (get_or ids l 0) (p % 8) (hold_at (suc l) d) (1 - hold_at (suc l) d) ≡ r = sym (er ∙ ap (λ (x : ℕ). up_by o (get_or ids l 0) (p % 8) x (1 - x)) q) in
        ap (λ (j : ℕ). make_up ids d n j (p / 8) r) i ∙ sym (ap (make_up ids d n (suc l) (p / 8)) up) ∙ sym (ap (λ (k : ℕ). make_up ids d k l p o) e) ∙ rest

    pub make_end : d ≤ l → o ≡ make_up ids d (d - from) from path o₀
    unfolding make_up
    make_end h = let e : d - l ≡ 0 = omega arith in sym (ap (λ (k : ℕ). make_up ids d k l p o) e) ∙ rest

-- ---- along the way to the cell

pub make_zero : (t : Tables) (x : ℕ) (p : List ℕ) (a s h q : ℕ) → make_by t x p a (planned 0 s) h q ≡ said 0 s (owed_by t (s ∷ []))
unfolding make_by
make_zero t x [] a s h q = refl
make_zero t x (c ∷ p) a s h q = refl

pub make_more : (t : Tables) (x c : ℕ) (p : List ℕ) (a k s h q : ℕ) → make_by t x (c ∷ p) a (planned (suc k) s) h q ≡ up_by (make_by t x p (part (W t) a c) (planned k s) 0 1) a c h q
unfolding make_by
make_more t x c p a k s h q = let e : suc k - 1 ≡ k = omega arith in rw (e, ne_eqb (suc k) 0 (omega arith))

pub make_leaf : (t : Tables) (x a k s h q : ℕ) → make_by t x [] a (planned (suc k) s) h q ≡ leaf_anew_by t x h q
unfolding make_by
make_leaf t x a k s h q = rw (ne_eqb (suc k) 0 (omega arith))

hold_top : (d : ℕ) → hold_at d d ≡ 1
unfolding hold_at
hold_top d = rw (eq-eqb d d refl)

hold_under : (l d : ℕ) → l < d → hold_at l d ≡ 0
unfolding hold_at
hold_under l d h = rw (ne_eqb l d (λ e. omega arith))

make_above : (t : Tables) (x s : ℕ) (f : ℕ → ℕ) (l b y i j h q : ℕ) → part (W t) b (f l) ≡ y → i ≡ f l
    → up_by (make_by t x (path_by f l) y (planned j s) 0 1) b i h q ≡ make_by t x (path_by f (suc l)) b (planned (suc j) s) h q
unfolding path_by
make_above t x s f l b y i j h q e m =
    ap₂ (λ (k z : ℕ). up_by (make_by t x (path_by f l) z (planned j s) 0 1) b k h q) m (sym e) ∙ sym (make_more t x (f l) (path_by f l) b j s h q)

rises_make : (t : Tables) (x s : ℕ) {f : ℕ → ℕ} {ids : List ℕ} {d root p l a : ℕ} (j : ℕ) → Rises (W t) f ids d root p l a
    → make_up ids d (d - l) l p (make_by t x (path_by f l) a (planned j s) (hold_at l d) (1 - hold_at l d)) ≡ make_by t x (path_by f d) root (planned (j + (d - l)) s) 1 0
unfolding make_up
rises_make t x s {d = d} j (top {p = p}) =
    let e : d - d ≡ 0 = omega arith in
    let z : j + 0 ≡ j = omega arith in
    rw (e, hold_top d, z)
rises_make t x s {f} {ids} {d} {root} {p} {l} {a} j (step h digit up r) =
    let e : d - l ≡ suc (d - suc l) = omega arith in
    let z : suc j + (d - suc l) ≡ j + suc (d - suc l) = omega arith in
    let hq : ℕ = hold_at (suc l) d in
    rw (e, hold_under l d h)
    (ap (make_up ids d (d - suc l) (suc l) (p / 8)) (make_above t x s f l (get_or ids l 0) a (p % 8) j hq (1 - hq) up digit)
    ∙ rises_make t x s (suc j) r ∙ ap (λ (n : ℕ). make_by t x (path_by f d) root (planned n s) 1 0) z)

-- n levels up
rises_passed : {U : Words} {f : ℕ → ℕ} {ids : List ℕ} {d root p l a : ℕ} (n : ℕ) → l + n ≤ d → Rises U f ids d root p l a → (b : ℕ) × Rises U f ids d root (passed p n) (l + n) b
unfolding passed
rises_passed {U} {f} {ids} {d} {root} {p} {l} {a} zero h r = let e : l ≡ l + 0 = omega arith in (a, subst (λ (i : ℕ). Rises U f ids d root p i a) e r)
rises_passed (suc n) h top = absurd (omega arith)
rises_passed {U} {f} {ids} {d} {root} {p} {l} {a} (suc n) h (step b digit up r) =
    let e : suc l + n ≡ l + suc n = omega arith in
    let z = rises_passed {p = p / 8} n (omega arith) r in
    (z.0, subst (λ (i : ℕ). Rises U f ids d root (passed (p / 8) n) i z.0) e z.1)

module _ (t : Tables) (v root : ℕ) (c : Cell) (k s : ℕ) where
  abbrev w : Way
  w = way_of (W t) c root

  abbrev d : ℕ
  d = c.depth

  upward : (m a j : ℕ) → Rises (W t) (octants c) w.ids d root (passed w.path m) m a → j + (d - m) ≡ k
      → make_up w.ids d (d - m) m (passed w.path m) (make_by t v (path_by (octants c) m) a (planned j s) (hold_at m d) (1 - hold_at m d)) ≡ make_by t v (path_to c) root (planned k s) 1 0
  upward m a j r e = rises_make t v s j r ∙ ap (λ (n : ℕ). make_by t v (path_to c) root (planned n s) 1 0) e

  leaf_here : (a : ℕ) → make_by t v (path_by (octants c) 0) a (planned 1 s) (hold_at 0 d) (1 - hold_at 0 d) ≡ leaf_anew_by t v (hold_at 0 d) (1 - hold_at 0 d)
  unfolding path_by
  leaf_here a = make_leaf t v a 0 s (hold_at 0 d) (1 - hold_at 0 d)

  none_passed : passed w.path 0 ≡ w.path
  unfolding passed
  none_passed = refl

  -- the making along the way is that by the path
  pub make_way : d ≤ deepest → 1 ≤ k → k ≤ suc d → make_on t v w d (planned k s) ≡ make_by t v (path_to c) root (planned k s) 1 0
  unfolding make_on from_of low_of
  make_way deep one most =
      let r = way_rises (W t) c root deep in
      cases (dec_lt d k)
      (λ h. rw (le-leb d deepest deep, lt-ltb d k h)
      (sym (ap (make_up w.ids d (d - 0) 0 (passed w.path 0)) (leaf_here w.end))
      ∙ upward 0 w.end 1 (subst (λ (p : ℕ). Rises (W t) (octants c) w.ids d root p 0 w.end) (sym none_passed) r) (omega arith)))
      (λ h.
      let m : ℕ = d - k in
      let z : 0 + m ≡ m = omega arith in
      let y = rises_passed m (omega arith) r in
      rw (le-leb d deepest deep, le-ltb d k (omega arith))
      (sym (ap (make_up w.ids d (d - m) m (passed w.path m)) (make_zero t v (path_by (octants c) m) y.0 s (hold_at m d) (1 - hold_at m d)))
      ∙ upward m y.0 0 (subst (λ (i : ℕ). Rises (W t) (octants c) w.ids d root (passed w.path m) i y.0) z y.1) (omega arith)))

-- ---- numbers of bits

-- a bit of a number is no more than the number
pub bit_fits : (m c : ℕ) → m / 2 ^ c % 2 * 2 ^ c ≤ m
bit_fits m c =
    let low : m / 2 ^ c % 2 ≤ m / 2 ^ c = omega arith in
    let a : m / 2 ^ c % 2 * 2 ^ c ≤ m / 2 ^ c * 2 ^ c = mul-le-mul_right (2 ^ c) low in
    let b = div-add-mod' m (2 ^ c) in
    omega arith

-- an octal digit is three bits
pub shift_passed : (p n : ℕ) → p / 2 ^ (3 * n) ≡ passed p n
unfolding passed
shift_passed p zero = let e : 2 ^ (3 * 0) ≡ 1 = refl in rw e (omega arith)
shift_passed p (suc n) =
    let three : 3 * suc n ≡ suc (suc (suc (3 * n))) = omega arith in
    let eight : 2 ^ (3 * suc n) ≡ 8 * 2 ^ (3 * n) = ap (λ (k : ℕ). 2 ^ k) three ∙ omega (arith, pow-succ' 2 (suc (suc (3 * n))), pow-succ' 2 (suc (3 * n)), pow-succ' 2 (3 * n)) in
    ap (λ (k : ℕ). p / k) eight ∙ sym (div-div-eq-div-mul p 8 (2 ^ (3 * n))) ∙ shift_passed (p / 8) n

-- a flag as a number
pub flag_one : (b : Bool) → bool_byte b ≡ one_if b
unfolding one_if
flag_one true = refl
flag_one false = refl

pub flag_hold : (l d : ℕ) → bool_byte (eqb l d) ≡ hold_at l d
unfolding hold_at
flag_hold l d = flag_pick (eqb l d)
  where
    flag_pick : (b : Bool) → bool_byte b ≡ pick b 1 0
    flag_pick true = refl
    flag_pick false = refl
