-- Counts with a debt. `Counts n cap W debt`: the places of each live node are what the tables name it, and as often as it stands in `debt`,
-- the list of the places that are still to be taken back.
use mathlib.Core.Path.{◌≡◌, refl, sym, ap, ◌∙◌, subst}
use mathlib.Core.Logic.{◌≢◌}
use mathlib.Core.List.{List, ◌∷◌, ◌++◌}
use Prim.Native.Nat.{ℕ, zero, suc, ◌+◌, ◌-◌, ◌*◌, ◌≤◌, ◌<◌}
use native.Mathlib.Decide.{ℕ_discrete, dec_lt}
use native.Mathlib.Omega.{arith}
use lib.ListN.{length}
use Rattle.nodes.specs.Tally.{same, occ, tab_from, kids_of, tally, Live}
use Rattle.nodes.specs.Words.{own, height, holds, places, floor, slot, Words, mark}
use Rattle.nodes.proofs.Sums.{cases, same_refl, same_diff, sum_to_ext_lem, sum_to_upd_lem, sum_to_le_lem, sum_to_pos_lem, occ_cons, occ_there, occ_append, tab_from_ext_lem, occ_tab, tab_occ, occ_tab_zero, sum_to_mono_lem, sum_to_const_lem, tab_from_length_lem, occ_length}

pub floor_pos : 1 ≤ floor
unfolding floor
floor_pos = omega arith

-- with what is still to be dropped
unfoldable pub total : ℕ → ℕ → Words → List ℕ → ℕ → ℕ
total n cap W debt y = tally n cap W y + occ y debt

pub record Counts (n cap : ℕ) (W : Words) (debt : List ℕ) : Type 0 where
  pub small : n ≤ 8
  pub ids : (s : ℕ) → s < cap → floor ≤ W s own → slot (W s own) ≡ s
  pub bare : (s : ℕ) → s < cap → W s own < floor → (i : ℕ) → i < n → W s i ≡ 0
  pub named : (y : ℕ) → y ≢ 0 → 1 ≤ total n cap W debt y → Live cap W y
  pub placed : (y : ℕ) → Live cap W y → W (slot y) places ≡ total n cap W debt y
  pub alive : (y : ℕ) → Live cap W y → 1 ≤ W (slot y) holds + W (slot y) places
  pub tall : (b y : ℕ) → b < cap → y ≢ 0 → 1 ≤ occ y (kids_of n W b) → W (slot y) height < W b height

-- all slots but s are as they were
abbrev pub Others : ℕ → Words → Words → Type 0
Others s W W' = (b f : ℕ) → b ≢ s → f ≤ mark → W' b f ≡ W b f

-- ---- the live

pub live_nonzero : {cap : ℕ} {W : Words} {y : ℕ} → Live cap W y → y ≢ 0
live_nonzero v e = let p : 1 ≤ floor = floor_pos in omega arith

pub live_inj : {cap : ℕ} {W : Words} {x y : ℕ} → Live cap W x → Live cap W y → slot x ≡ slot y → x ≡ y
live_inj {W = W} v w e = sym v.is ∙ ap (λ (s : ℕ). W s own) e ∙ w.is

-- a live slot's own id is live
pub live_own : (n cap : ℕ) (W : Words) (debt : List ℕ) → Counts n cap W debt → (s : ℕ) → s < cap → floor ≤ W s own → Live cap W (W s own)
live_own n cap W debt c s l h =
    let e : slot (W s own) ≡ s = c.ids s l h in
    record { low = omega arith; is = ap (λ (b : ℕ). W b own) e; high = h }

pub live_same : (cap : ℕ) (W W' : Words) (y : ℕ) → W' (slot y) own ≡ W (slot y) own → Live cap W y → Live cap W' y
live_same cap W W' y e v = record { low = v.low; is = e ∙ v.is; high = v.high }

-- ---- how the tally changes

pub kids_same : (n : ℕ) (W W' : Words) (b : ℕ) → ((i : ℕ) → i < n → W' b i ≡ W b i) → kids_of n W' b ≡ kids_of n W b
unfolding kids_of
kids_same n W W' b h = tab_from_ext_lem n 0 (W' b) (W b) (λ j p q. h j (omega arith))

pub tally_same : (n cap : ℕ) (W W' : Words) (y : ℕ) → ((b i : ℕ) → b < cap → i < n → W' b i ≡ W b i) → tally n cap W' y ≡ tally n cap W y
unfolding tally
tally_same n cap W W' y h = sum_to_ext_lem cap (λ b. occ y (kids_of n W' b)) (λ b. occ y (kids_of n W b)) (λ b l. ap (occ y) (kids_same n W W' b (λ i m. h b i l m)))

pub total_same : (n cap : ℕ) (W W' : Words) (d : List ℕ) (y : ℕ) → ((b i : ℕ) → b < cap → i < n → W' b i ≡ W b i) → total n cap W' d y ≡ total n cap W d y
unfolding total
total_same n cap W W' d y h = ap (λ (k : ℕ). k + occ y d) (tally_same n cap W W' y h)

-- one node's children are written
pub tally_upd : (n cap : ℕ) (W W' : Words) (s y : ℕ) → n ≤ 8 → s < cap → Others s W W'
    → tally n cap W' y + occ y (kids_of n W s) ≡ tally n cap W y + occ y (kids_of n W' s)
unfolding tally
tally_upd n cap W W' s y m l h =
    sum_to_upd_lem cap s (λ b. occ y (kids_of n W' b)) (λ b. occ y (kids_of n W b)) l
    (λ b k d. ap (occ y) (kids_same n W W' b (λ i j. h b i d (omega arith))))

pub occ_bare : (n : ℕ) (W : Words) (b y : ℕ) → y ≢ 0 → ((i : ℕ) → i < n → W b i ≡ 0) → occ y (kids_of n W b) ≡ 0
unfolding kids_of
occ_bare n W b y d h = occ_tab_zero n 0 (W b) y d (λ j p q. h j (omega arith))

-- children that are EMPTY from the k-th on need not be looked at
occ_fewer : (k j i : ℕ) (f : ℕ → ℕ) (y : ℕ) → y ≢ 0 → ((x : ℕ) → i + k ≤ x → x < i + k + j → f x ≡ 0) → occ y (tab_from (k + j) i f) ≡ occ y (tab_from k i f)
unfolding tab_from occ
occ_fewer zero j i f y d z = let e : 0 + j ≡ j = omega arith in rw e (occ_tab_zero j i f y d (λ x p q. z x (omega arith) (omega arith)))
occ_fewer (suc k) j i f y d z =
    let e : suc k + j ≡ suc (k + j) = omega arith in
    rw e (ap (λ (x : ℕ). same y (f i) + x) (occ_fewer k j (suc i) f y d (λ x p q. z x (omega arith) (omega arith))))

pub kids_fewer : (n m : ℕ) (W : Words) (s y : ℕ) → n ≤ m → y ≢ 0 → ((i : ℕ) → n ≤ i → i < m → W s i ≡ 0) → occ y (kids_of m W s) ≡ occ y (kids_of n W s)
unfolding kids_of
kids_fewer n m W s y l d z =
    let e : n + (m - n) ≡ m = omega arith in
    ap (λ (x : ℕ). occ y (tab_from x 0 (W s))) (sym e) ∙ occ_fewer n (m - n) 0 (W s) y d (λ x p q. z x (omega arith) (omega arith))

pub occ_le_tally : (n cap : ℕ) (W : Words) (b y : ℕ) → b < cap → occ y (kids_of n W b) ≤ tally n cap W y
unfolding tally
occ_le_tally n cap W b y l = sum_to_le_lem cap b (λ b. occ y (kids_of n W b)) l

pub tally_pos : (n cap : ℕ) (W : Words) (y : ℕ) → 1 ≤ tally n cap W y → (b : ℕ) × (b < cap) × (1 ≤ occ y (kids_of n W b))
unfolding tally
tally_pos n cap W y h = sum_to_pos_lem cap (λ b. occ y (kids_of n W b)) h

pub kid_occ : (n : ℕ) (W : Words) (b i : ℕ) → i < n → 1 ≤ occ (W b i) (kids_of n W b)
unfolding kids_of
kid_occ n W b i l = occ_tab n 0 (W b) i (omega arith) (omega arith)

pub occ_kid : (n : ℕ) (W : Words) (b y : ℕ) → 1 ≤ occ y (kids_of n W b) → (i : ℕ) × (i < n) × (W b i ≡ y)
unfolding kids_of
occ_kid n W b y h = let r = tab_occ n 0 (W b) y h in (r.0, omega arith, r.3)

pub total_cons : (n cap : ℕ) (W : Words) (x y : ℕ) (debt : List ℕ) → total n cap W (x ∷ debt) y ≡ same y x + total n cap W debt y
unfolding total
total_cons n cap W x y debt = omega (arith, occ_cons y x debt)

pub total_append : (n cap : ℕ) (W : Words) (y : ℕ) (k debt : List ℕ) → total n cap W (k ++ debt) y ≡ occ y k + total n cap W debt y
unfolding total
total_append n cap W y k debt = omega (arith, occ_append y k debt)

pub total_split : (n cap : ℕ) (W : Words) (d d' : List ℕ) (y : ℕ) → total n cap W d y + occ y d' ≡ total n cap W d' y + occ y d
unfolding total
total_split n cap W d d' y = omega arith

pub tally_le_total : (n cap : ℕ) (W : Words) (debt : List ℕ) (y : ℕ) → tally n cap W y ≤ total n cap W debt y
unfolding total
tally_le_total n cap W debt y = omega arith

pub tally_bound : (n cap : ℕ) (W : Words) (y : ℕ) → tally n cap W y ≤ cap * n
unfolding tally kids_of
tally_bound n cap W y =
    let r = sum_to_mono_lem cap (λ b. occ y (tab_from n 0 (W b))) (λ b. n)
    (λ b l. let e = tab_from_length_lem n 0 (W b) in omega (arith, occ_length y (tab_from n 0 (W b)))) in
    omega (arith, sum_to_const_lem cap n)

pub total_bound : (n cap : ℕ) (W : Words) (debt : List ℕ) (y : ℕ) → total n cap W debt y ≤ cap * n + length debt
unfolding total
total_bound n cap W debt y = omega (arith, tally_bound n cap W y, occ_length y debt)

pub total_upd : (n cap : ℕ) (W W' : Words) (s : ℕ) (debt : List ℕ) (y : ℕ) → n ≤ 8 → s < cap → Others s W W'
    → total n cap W' debt y + occ y (kids_of n W s) ≡ total n cap W debt y + occ y (kids_of n W' s)
unfolding total
total_upd n cap W W' s debt y m l h = omega (arith, tally_upd n cap W W' s y m l h)

-- a child of a live branch, or of any slot, is live
pub kid_live : {n cap : ℕ} {W : Words} {debt : List ℕ} → Counts n cap W debt → (b y : ℕ) → b < cap → y ≢ 0 → 1 ≤ occ y (kids_of n W b) → Live cap W y
unfolding total
kid_live {n} {cap} {W} {debt} c b y l d h = c.named y d (omega (arith, occ_le_tally n cap W b y l))

-- ---- only counts are written

pub recount : (n cap : ℕ) (W W' : Words) (d d' : List ℕ) → Counts n cap W d
    → ((b f : ℕ) → f < holds → W' b f ≡ W b f)
    → ((y : ℕ) → y ≢ 0 → 1 ≤ total n cap W d' y → Live cap W y)
    → ((y : ℕ) → Live cap W y → W' (slot y) places ≡ total n cap W d' y)
    → ((y : ℕ) → Live cap W y → 1 ≤ W' (slot y) holds + W' (slot y) places)
    → Counts n cap W' d'
recount n cap W W' d d' c e named placed alive = record {
  small = c.small;
  ids = λ s l h. let p = e s own (omega arith) in ap slot p ∙ c.ids s l (omega arith);
  bare = λ s l h i m. let p = e s own (omega arith) in let z = c.small in e s i (omega arith) ∙ c.bare s l (omega arith) i m;
  named = λ y z h. to y (named y z (rw (← tot y) h));
  placed = λ y v. placed y (from y v) ∙ sym (tot y);
  alive = λ y v. alive y (from y v);
  tall = λ b y l z h. let p = e (slot y) height (omega arith) in let q = e b height (omega arith) in let r = c.tall b y l z (rw (← kid b) h) in omega arith;
}
  where
    kid : (b : ℕ) → kids_of n W' b ≡ kids_of n W b
    kid b = let z = c.small in kids_same n W W' b (λ i m. e b i (omega arith))

    tot : (y : ℕ) → total n cap W' d' y ≡ total n cap W d' y
    tot y = let z = c.small in total_same n cap W W' d' y (λ b i l m. e b i (omega arith))

    to : (y : ℕ) → Live cap W y → Live cap W' y
    to y v = live_same cap W W' y (e (slot y) own (omega arith)) v

    from : (y : ℕ) → Live cap W' y → Live cap W y
    from y v = live_same cap W' W y (sym (e (slot y) own (omega arith))) v

-- the debt counts by what stands in it, EMPTY aside: its order does not matter
pub counts_debt : (n cap : ℕ) (W : Words) (d d' : List ℕ) → ((y : ℕ) → y ≢ 0 → occ y d ≡ occ y d') → Counts n cap W d → Counts n cap W d'
unfolding total
counts_debt n cap W d d' e c =
    recount n cap W W d d' c (λ b f l. refl)
    (λ y z h. let p = e y z in c.named y z (omega arith))
    (λ y v. let p = e y (live_nonzero v) in let q = c.placed y v in omega arith)
    (λ y v. c.alive y v)

-- an EMPTY to be dropped counts nowhere
pub drop_empty : (n cap : ℕ) (W : Words) (debt : List ℕ) → Counts n cap W (0 ∷ debt) → Counts n cap W debt
drop_empty n cap W debt c = counts_debt n cap W (0 ∷ debt) debt (λ y z. occ_there y 0 debt z) c

-- a child of any slot has a place, so a hold on it may end
pub kid_placed : {n cap : ℕ} {W : Words} {debt : List ℕ} → Counts n cap W debt → (b y : ℕ) → b < cap → y ≢ 0 → 1 ≤ occ y (kids_of n W b) → 1 ≤ W (slot y) places
kid_placed {n} {cap} {W} {debt} c b y l d h =
    let v = kid_live c b y l d h in
    let p = c.placed y v in
    omega (arith, occ_le_tally n cap W b y l, tally_le_total n cap W debt y)

-- the counts of x alone are written, and the debt grows by a list in which only x stands, or shrinks by it:
-- with `more` and `less` how often, places and debt move together. Every move between a hold, a place that is owed and nothing is this:
-- owe (0 holds, +1 place), settle (-1, +1), grant from owed (+1, -1), take back (0, -1)
pub move_counts : (n cap : ℕ) (W W' : Words) (x : ℕ) (d d' : List ℕ) → Counts n cap W d → Live cap W x
    → Others (slot x) W W' → ((f : ℕ) → f < holds → W' (slot x) f ≡ W (slot x) f)
    → ((y : ℕ) → y ≢ 0 → y ≢ x → occ y d' ≡ occ y d)
    → W' (slot x) places + occ x d ≡ W (slot x) places + occ x d'
    → 1 ≤ W' (slot x) holds + W' (slot x) places
    → Counts n cap W' d'
unfolding total
move_counts n cap W W' x d d' c live o e same-debt move kept =
    recount n cap W W' d d' c
    (λ b f l. cases (ℕ_discrete b (slot x)) (λ (q : b ≡ slot x). rw q (e f l)) (λ q. o b f q (omega arith)))
    (λ y z k. cases (ℕ_discrete y x) (λ q. rw q live) (λ q. let p = same-debt y z q in c.named y z (omega arith)))
    (λ y v. cases (ℕ_discrete (slot y) (slot x))
    (λ q. let r : y ≡ x = live_inj v live q in
    let p = c.placed x live in
    let s : W' (slot x) places ≡ tally n cap W x + occ x d' = omega arith in
    subst (λ (z : ℕ). W' (slot z) places ≡ tally n cap W z + occ z d') (sym r) s)
    (λ q. let p = c.placed y v in
    let s = o (slot y) places q (omega arith) in
    let t = same-debt y (live_nonzero v) (λ r. q (ap slot r)) in
    omega arith))
    (λ y v. cases (ℕ_discrete (slot y) (slot x))
    (λ q. subst (λ (z : ℕ). 1 ≤ W' z holds + W' z places) (sym q) kept)
    (λ q. let s = o (slot y) places q (omega arith) in let t = o (slot y) holds q (omega arith) in let p = c.alive y v in omega arith))

-- the last place is taken back: the slot dies, and its children are owed
pub recycle_counts : (n cap : ℕ) (W W' : Words) (x : ℕ) (debt : List ℕ) → Counts n cap W (x ∷ debt) → Live cap W x
    → W (slot x) places ≤ 1 → Others (slot x) W W' → W' (slot x) own < floor → ((i : ℕ) → i < n → W' (slot x) i ≡ 0)
    → Counts n cap W' (kids_of n W (slot x) ++ debt)
recycle_counts n cap W W' x debt c live one o dead clear = record {
  small = c.small;
  ids = λ s l h. cases (ℕ_discrete s (slot x))
      (λ q. absurd (gone s q h))
      (λ d. let p = o s own d (omega arith) in ap slot p ∙ c.ids s l (omega arith));
  bare = λ s l h i m. cases (ℕ_discrete s (slot x))
      (λ (q : s ≡ slot x). rw q (clear i m))
      (λ d. let p = o s own d (omega arith) in let z = c.small in o s i d (omega arith) ∙ c.bare s l (omega arith) i m);
  named = λ y z h.
      let d : y ≢ x = (λ r. let e : same y x ≡ 1 = rw r (same_refl x) in let w : total n cap W debt y ≡ 0 = rw r none in omega (arith, tot y z)) in
      let v : Live cap W y = c.named y z (omega (arith, tot y z, total_cons n cap W x y debt)) in
      to y (λ q. d (live_inj v live q)) v;
  placed = λ y v.
      let d : slot y ≢ slot x = away y v in
      let w : Live cap W y = from y d v in
      let p = c.placed y w in
      let q = o (slot y) places d (omega arith) in
      omega (arith, tot y (live_nonzero w), total_cons n cap W x y debt, same_diff y x (λ r. d (ap slot r)));
  alive = λ y v.
      let d : slot y ≢ slot x = away y v in
      let w : Live cap W y = from y d v in
      let p = c.alive y w in
      let q = o (slot y) places d (omega arith) in
      let r = o (slot y) holds d (omega arith) in
      omega arith;
  tall = λ b y l z h. cases (ℕ_discrete b (slot x))
      (λ (q : b ≡ slot x). absurd (let e : occ y (kids_of n W' b) ≡ 0 = rw q (occ_bare n W' (slot x) y z clear) in omega arith))
      (λ d.
      let k : kids_of n W' b ≡ kids_of n W b = (let z = c.small in kids_same n W W' b (λ i m. o b i d (omega arith))) in
      let g : 1 ≤ occ y (kids_of n W b) = (rw (← k) h) in
      let v : Live cap W y = kid_live c b y l z g in
      let nx : y ≢ x = (λ r. let u : 1 ≤ tally n cap W y = omega (arith, occ_le_tally n cap W b y l) in let u' : tally n cap W y ≡ 0 = rw r none_tally in omega arith) in
      let e = o (slot y) height (λ q. nx (live_inj v live q)) (omega arith) in
      let e' = o b height d (omega arith) in
      let r = c.tall b y l z g in
      omega arith);
}
  where
    none : total n cap W debt x ≡ 0
    none = let p = c.placed x live in omega (arith, total_cons n cap W x x debt, same_refl x)

    none_tally : tally n cap W x ≡ 0
    none_tally = omega (arith, none, tally_le_total n cap W debt x)

    gone : (s : ℕ) → s ≡ slot x → floor ≤ W' s own → ⊥
    gone s q h = let p : W' s own < floor = rw q dead in omega arith

    tot : (y : ℕ) → y ≢ 0 → total n cap W' (kids_of n W (slot x) ++ debt) y ≡ total n cap W debt y
    tot y z =
        omega (arith, total_append n cap W' y (kids_of n W (slot x)) debt, total_upd n cap W W' (slot x) debt y c.small live.low o, occ_bare n W' (slot x) y z clear)

    to : (y : ℕ) → slot y ≢ slot x → Live cap W y → Live cap W' y
    to y d v = live_same cap W W' y (o (slot y) own d (omega arith)) v

    away : (y : ℕ) → Live cap W' y → slot y ≢ slot x
    away y v q = let p : W' (slot y) own < floor = rw q dead in let e = v.is in let g = v.high in omega arith

    from : (y : ℕ) → slot y ≢ slot x → Live cap W' y → Live cap W y
    from y d v = live_same cap W' W y (sym (o (slot y) own d (omega arith))) v

-- a dead slot s becomes a node: the children that were owed now stand in its child places. Its own first place, if it has one, is owed in debt'
pub fresh_counts : (n cap : ℕ) (W W' : Words) (s : ℕ) (debt debt' : List ℕ) → Counts n cap W (kids_of n W' s ++ debt)
    → s < cap → W s own < floor → Others s W W'
    → slot (W' s own) ≡ s → floor ≤ W' s own → 1 ≤ W' s holds + W' s places
    → ((y : ℕ) → y ≢ 0 → y ≢ W' s own → occ y debt' ≡ occ y debt) → W' s places + occ (W' s own) debt ≡ occ (W' s own) debt'
    → ((y : ℕ) → y ≢ 0 → 1 ≤ occ y (kids_of n W' s) → W (slot y) height < W' s height)
    → Counts n cap W' debt'
fresh_counts n cap W W' s debt debt' c l dead o id high held same-debt owed taller = record {
  small = c.small;
  ids = λ b m h. cases (ℕ_discrete b s)
      (λ (q : b ≡ s). ap (λ (k : ℕ). slot (W' k own)) q ∙ id ∙ sym q)
      (λ d. let p = o b own d (omega arith) in ap slot p ∙ c.ids b m (omega arith));
  bare = λ b m h i j. cases (ℕ_discrete b s)
      (λ q. absurd (let p : W' b own ≡ W' s own = ap (λ (k : ℕ). W' k own) q in omega arith))
      (λ d. let p = o b own d (omega arith) in let z = c.small in o b i d (omega arith) ∙ c.bare b m (omega arith) i j);
  named = λ y z h. cases (ℕ_discrete y (W' s own))
      (λ q. subst (λ (x : ℕ). Live cap W' x) (sym q) self)
      (λ q. let v : Live cap W y = c.named y z (omega (arith, tot y z q)) in to y (away y v) v);
  placed = λ y v. cases (ℕ_discrete (slot y) s)
      (λ q.
      let e : y ≡ W' s own = live_inj v self (q ∙ sym id) in
      let p : W' s places ≡ total n cap W' debt' (W' s own) = omega (arith, mine) in
      subst (λ (x : ℕ). W' (slot x) places ≡ total n cap W' debt' x) (sym e) (ap (λ (k : ℕ). W' k places) id ∙ p))
      (λ d.
      let w : Live cap W y = from y d v in
      let p = c.placed y w in
      let e = o (slot y) places d (omega arith) in
      omega (arith, tot y (live_nonzero v) (λ r. d (ap slot r ∙ id))));
  alive = λ y v. cases (ℕ_discrete (slot y) s)
      (λ q. subst (λ (k : ℕ). 1 ≤ W' k holds + W' k places) (sym q) held)
      (λ d.
      let p = c.alive y (from y d v) in
      let q = o (slot y) places d (omega arith) in
      let r = o (slot y) holds d (omega arith) in
      omega arith);
  tall = λ b y m z h. cases (ℕ_discrete b s)
      (λ q.
      let g : 1 ≤ occ y (kids_of n W' s) = (rw q at h) in
      let v : Live cap W y = c.named y z (omega (arith, total_append n cap W y (kids_of n W' s) debt)) in
      let e = o (slot y) height (away y v) (omega arith) in
      let p : W' b height ≡ W' s height = ap (λ (k : ℕ). W' k height) q in
      let r = taller y z g in
      omega arith)
      (λ d.
      let k : kids_of n W' b ≡ kids_of n W b = (let z = c.small in kids_same n W W' b (λ i m. o b i d (omega arith))) in
      let g : 1 ≤ occ y (kids_of n W b) = (rw (← k) h) in
      let v : Live cap W y = kid_live c b y m z g in
      let e = o (slot y) height (away y v) (omega arith) in
      let e' = o b height d (omega arith) in
      let r = c.tall b y m z g in
      omega arith);
}
  where
    away : (y : ℕ) → Live cap W y → slot y ≢ s
    away y v q = let p : W (slot y) own ≡ W s own = ap (λ (k : ℕ). W k own) q in let e = v.is in let g = v.high in omega arith

    self : Live cap W' (W' s own)
    self = record { low = omega (arith, id); is = ap (λ (k : ℕ). W' k own) id; high = high }

    none : total n cap W (kids_of n W' s ++ debt) (W' s own) ≡ 0
    none = cases (dec_lt 0 (total n cap W (kids_of n W' s ++ debt) (W' s own)))
        (λ h. absurd (away (W' s own) (c.named (W' s own) (live_nonzero self) h) id))
        (λ h. omega arith)

    base : (y : ℕ) → y ≢ 0 → total n cap W' debt y ≡ total n cap W (kids_of n W' s ++ debt) y
    base y z =
        omega (arith, total_append n cap W y (kids_of n W' s) debt, total_upd n cap W W' s debt y c.small l o, occ_bare n W s y z (c.bare s l dead))

    tot : (y : ℕ) → y ≢ 0 → y ≢ W' s own → total n cap W' debt' y ≡ total n cap W (kids_of n W' s ++ debt) y
    tot y z q = let p = same-debt y z q in omega (arith, base y z, total_split n cap W' debt debt' y)

    mine : total n cap W' debt' (W' s own) ≡ W' s places
    mine = omega (arith, base (W' s own) (live_nonzero self), none, total_split n cap W' debt debt' (W' s own))

    to : (y : ℕ) → slot y ≢ s → Live cap W y → Live cap W' y
    to y d v = live_same cap W W' y (o (slot y) own d (omega arith)) v

    from : (y : ℕ) → slot y ≢ s → Live cap W' y → Live cap W y
    from y d v = live_same cap W' W y (sym (o (slot y) own d (omega arith))) v
