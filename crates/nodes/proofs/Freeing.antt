-- The freed slots: push, pop, a slot never used, what a write elsewhere leaves alone; the live counted; each slot given out and not live is on the stack once.
use mathlib.Core.Path.{◌≡◌, refl, sym, ap, ◌∙◌, subst}
use mathlib.Core.Logic.{◌≢◌}
use mathlib.Core.List.{List, [], ◌∷◌}
use Prim.Native.Nat.{ℕ, zero, suc, ◌+◌, ◌-◌, ◌≤◌, ◌<◌}
use native.Mathlib.Decide.{ℕ_discrete, dec_lt}
use native.Mathlib.Omega.{arith}
use lib.Dec.{leb, leb→le, le→leb}
use lib.ListN.{length}
use Rattle.basics.specs.Sums.{sum_to}
use Rattle.nodes.specs.Tally.{Free, Freed, freed_list, live_bit, live_count, same, occ}
use Rattle.nodes.specs.Words.{own, mark, entry, floor, Words}
use Rattle.nodes.proofs.Counts.{floor_pos, Others}
use Rattle.nodes.proofs.Sums.{cases, one_if_true_lem, one_if_false_lem, same_refl, same_diff, sum_to_ext_lem, sum_to_upd_lem, sum_to_add_lem, sum_to_const_lem, sum_to_tight_lem, occ_nil, occ_cons, occ_here, occ_there}

-- ---- the live counted

pub live_one : (x : ℕ) → floor ≤ x → live_bit x ≡ 1
unfolding live_bit
live_one x h = one_if_true_lem (leb floor x) (le→leb floor x h)

pub live_zero : (x : ℕ) → x < floor → live_bit x ≡ 0
unfolding live_bit
live_zero x h = one_if_false_lem (leb floor x) (λ t. let p = leb→le floor x t in omega arith)

pub live_upd : (cap : ℕ) (W W' : Words) (s : ℕ) → s < cap → Others s W W' → live_count cap W' + live_bit (W s own) ≡ live_count cap W + live_bit (W' s own)
unfolding live_count
live_upd cap W W' s l o = sum_to_upd_lem cap s (λ b. live_bit (W' b own)) (λ b. live_bit (W b own)) l (λ b m d. ap live_bit (o b own d (omega arith)))

pub live_keep : (cap : ℕ) (W W' : Words) → ((b : ℕ) → W' b own ≡ W b own) → live_count cap W' ≡ live_count cap W
unfolding live_count
live_keep cap W W' e = sum_to_ext_lem cap (λ b. live_bit (W' b own)) (λ b. live_bit (W b own)) (λ b m. ap live_bit (e b))

pub none_live : (cap : ℕ) (W : Words) → ((b : ℕ) → W b own ≡ 0) → live_count cap W ≡ 0
unfolding live_count
none_live cap W e =
    sum_to_ext_lem cap (λ b. live_bit (W b own)) (λ b. 0) (λ b m. let p = e b in live_zero (W b own) (omega (arith, floor_pos))) ∙ sum_to_const_lem cap 0 ∙ omega arith

-- a list of numbers below k is as long as the sum of what stands in it
occ_sum : (k : ℕ) (l : List ℕ) → ((s : ℕ) → 1 ≤ occ s l → s < k) → sum_to k (λ s. occ s l) ≡ length l
occ_sum k [] h = sum_to_ext_lem k (λ s. occ s []) (λ s. 0) (λ s m. occ_nil s) ∙ sum_to_const_lem k 0 ∙ omega arith
occ_sum k (a ∷ l) h =
    let r : sum_to k (λ s. occ s l) ≡ length l = occ_sum k l (λ s m. h s (omega (arith, occ_cons s a l))) in
    let u : sum_to k (λ s. occ s (a ∷ l)) + occ a l ≡ sum_to k (λ s. occ s l) + occ a (a ∷ l) =
    sum_to_upd_lem k a (λ s. occ s (a ∷ l)) (λ s. occ s l) (h a (omega (arith, occ_here a l))) (λ i m d. occ_there i a l d) in
    omega (arith, occ_here a l)

-- the sum over all slots, where those from `next` on count nothing
sum_to_cut_lem : (j k : ℕ) (f : ℕ → ℕ) → ((s : ℕ) → j ≤ s → s < j + k → f s ≡ 0) → sum_to (j + k) f ≡ sum_to j f
unfolding sum_to
sum_to_cut_lem j zero f h = let e : j + 0 ≡ j = omega arith in ap (λ (x : ℕ). sum_to x f) e
sum_to_cut_lem j (suc k) f h =
    let e : j + suc k ≡ suc (j + k) = omega arith in
    let r : sum_to (j + k) f ≡ sum_to j f = sum_to_cut_lem j k f (λ s a b. h s a (omega arith)) in
    let z : f (j + k) ≡ 0 = h (j + k) (omega arith) (omega arith) in
    ap (λ (x : ℕ). sum_to x f) e ∙ omega arith

-- what stands in a list of slots given out, the live and slot 0, all counted over 0 .. next-1
pub parts : (cap : ℕ) (W : Words) (next : ℕ) (l : List ℕ) → 1 ≤ next → next ≤ cap → ((s : ℕ) → next ≤ s → s < cap → W s own ≡ 0)
    → ((s : ℕ) → 1 ≤ occ s l → s < next) → sum_to next (λ s. occ s l + live_bit (W s own) + same s 0) ≡ length l + live_count cap W + 1
unfolding live_count
parts cap W next l some fits unused below =
    let a : sum_to next (λ s. occ s l) ≡ length l = occ_sum next l below in
    let b : sum_to cap (λ s. live_bit (W s own)) ≡ sum_to next (λ s. live_bit (W s own)) =
    (let e : next + (cap - next) ≡ cap = omega arith in
    ap (λ (k : ℕ). sum_to k (λ s. live_bit (W s own))) (sym e)
    ∙ sum_to_cut_lem next (cap - next) (λ s. live_bit (W s own)) (λ s m k. let z = unused s m (omega arith) in live_zero (W s own) (omega (arith, floor_pos)))) in
    let z : sum_to next (λ s. same s 0) + 0 ≡ sum_to next (λ s. 0) + same 0 0 =
    sum_to_upd_lem next 0 (λ s. same s 0) (λ s. 0) some (λ i m d. same_diff i 0 d) in
    let w : sum_to next (λ s. 0) ≡ 0 = sum_to_const_lem next 0 ∙ omega arith in
    let v = sum_to_add_lem next (λ s. occ s l + live_bit (W s own)) (λ s. same s 0) in
    let x = sum_to_add_lem next (λ s. occ s l) (λ s. live_bit (W s own)) in
    omega (arith, same_refl 0)

pub live_bit_le_lem : (x : ℕ) → live_bit x ≤ 1
live_bit_le_lem x = cases (dec_lt x floor) (λ h. omega (arith, live_zero x h)) (λ h. omega (arith, live_one x (omega arith)))

-- ---- the stack

-- a fresh arena
pub freed_fresh : (cap : ℕ) (W : Words) → 1 ≤ cap → ((b : ℕ) → W b own ≡ 0) → Freed cap W 1 0
freed_fresh cap W l e = record {
  some = omega arith;
  fits = l;
  only = λ i m. absurd (omega arith);
  knows = λ i m. absurd (omega arith);
  count = omega (arith, none_live cap W e);
  unused = λ s m k. e s;
  ground = e 0;
}

-- own ids and entries are as they were, and so is a dead slot's number
pub freed_same : {cap : ℕ} {W : Words} (W' : Words) {next freed : ℕ} → Freed cap W next freed → ((b : ℕ) → W' b own ≡ W b own)
    → ((i : ℕ) → i < freed → W' i entry ≡ W i entry) → ((b : ℕ) → W b own < floor → W' b mark ≡ W b mark) → Freed cap W' next freed
freed_same {cap} {W} W' {next} {freed} r e n h = record {
  some = r.some;
  fits = r.fits;
  only = λ i m. let q = r.only i m in let p = e (W i entry) in rw (n i m) (record { given = q.given; below = q.below; dead = omega arith });
  knows = λ i m. rw (n i m) (h (W i entry) (r.only i m).dead ∙ r.knows i m);
  count = omega (arith, r.count, live_keep cap W W' e);
  unused = λ s m k. e s ∙ r.unused s m k;
  ground = e 0 ∙ r.ground;
}

-- a live slot lies between 1 and next
module _ {cap : ℕ} {W : Words} {next freed : ℕ} (s : ℕ) (r : Freed cap W next freed) (l : s < cap) (live : floor ≤ W s own) where
  pub live_given : 1 ≤ s
  live_given = cases (ℕ_discrete s 0) (λ (q : s ≡ 0). absurd (let p : W s own ≡ 0 = rw q r.ground in let f = floor_pos in omega arith)) (λ d. omega arith)

  pub live_below : s < next
  live_below = cases (dec_lt s next) (λ h. h) (λ d. absurd (let p = r.unused s (omega arith) l in let f = floor_pos in omega arith))

-- slot s is written, and no entry below freed: an entry of another slot stays what it was
entry_only : {cap : ℕ} {W : Words} (W' : Words) {next freed : ℕ} (s i : ℕ) → Freed cap W next freed → Others s W W'
    → i < freed → W' i entry ≡ W i entry → W i entry ≢ s → Free W' next (W' i entry) × (W' (W' i entry) mark ≡ i)
entry_only {cap} {W} W' {next} s i r o m e d =
    let q = r.only i m in
    let p = o (W i entry) own d (omega arith) in
    rw e ((record { given = q.given; below = q.below; dead = omega arith }), o (W i entry) mark d (omega arith) ∙ r.knows i m)

module _ {cap : ℕ} {W : Words} (W' : Words) {next freed : ℕ} (s : ℕ) (r : Freed cap W next freed) (o : Others s W W')
    (kept : (i : ℕ) → i < freed → W' i entry ≡ W i entry) (l : s < cap) (live : floor ≤ W s own) (dead : W' s own < floor) where
  -- of the entries there were
  before : (i : ℕ) → i < freed → Free W' next (W' i entry) × (W' (W' i entry) mark ≡ i)
  before i m = entry_only W' s i r o m (kept i m) (λ e. let q = (r.only i m).dead in let p : W (W i entry) own ≡ W s own = ap (λ (b : ℕ). W b own) e in omega arith)

  fewer : live_count cap W' + 1 ≡ live_count cap W
  fewer = omega (arith, live_upd cap W W' s l o, live_one (W s own) live, live_zero (W' s own) dead)

  unused_still : (b : ℕ) → next ≤ b → b < cap → W' b own ≡ 0
  unused_still b m k = o b own (omega (arith, live_below s r l live)) (omega arith) ∙ r.unused b m k

  ground_still : W' 0 own ≡ 0
  ground_still = o 0 own (omega (arith, live_given s r l live)) (omega arith) ∙ r.ground

  -- a live slot dies, and is pushed
  pub push : W' s mark ≡ freed → W' freed entry ≡ s → Freed cap W' next (suc freed)
  push number top = record {
    some = r.some;
    fits = r.fits;
    only = λ i m. (at i m).0;
    knows = λ i m. (at i m).1;
    count = omega (arith, r.count, fewer);
    unused = unused_still;
    ground = ground_still;
  }
    where
      at : (i : ℕ) → i < suc freed → Free W' next (W' i entry) × (W' (W' i entry) mark ≡ i)
      at i m = cases (ℕ_discrete i freed)
          (λ (e : i ≡ freed). rw (e, top) (record { given = live_given s r l live; below = live_below s r l live; dead = dead }, number))
          (λ d. before i (omega arith))

-- the slot freed last
pub top_free : {cap : ℕ} {W : Words} {next freed : ℕ} → Freed cap W next (suc freed) → Free W next (W freed entry)
top_free {freed = freed} r = r.only freed (omega arith)

-- no two entries are one slot
pub entry_apart : {cap : ℕ} {W : Words} {next freed : ℕ} → Freed cap W next freed → (i j : ℕ) → i < freed → j < freed → W i entry ≡ W j entry → i ≡ j
entry_apart {W = W} r i j a b e = sym (r.knows i a) ∙ ap (λ (s : ℕ). W s mark) e ∙ r.knows j b

-- it is given out again
pub pop : {cap : ℕ} {W : Words} (W' : Words) {next freed : ℕ} → Freed cap W next (suc freed) → Others (W freed entry) W W'
    → ((i : ℕ) → i < freed → W' i entry ≡ W i entry) → floor ≤ W' (W freed entry) own → Freed cap W' next freed
pop {cap} {W} W' {next} {freed} r o kept live = record {
  some = r.some;
  fits = r.fits;
  only = λ i m. (at i m).0;
  knows = λ i m. (at i m).1;
  count = (let b = q.below in let f = r.fits in let d = q.dead in
      omega (arith, r.count, live_upd cap W W' (W freed entry) (omega arith) o, live_one (W' (W freed entry) own) live, live_zero (W (W freed entry) own) d));
  unused = λ b m k. (let l = q.below in o b own (omega arith) (omega arith)) ∙ r.unused b m k;
  ground = (let g = q.given in o 0 own (omega arith) (omega arith)) ∙ r.ground;
}
  where
    q : Free W next (W freed entry)
    q = top_free r

    at : (i : ℕ) → i < freed → Free W' next (W' i entry) × (W' (W' i entry) mark ≡ i)
    at i m = entry_only W' (W freed entry) i r o (omega arith) (kept i m) (λ e. let z = entry_apart r i freed (omega arith) (omega arith) e in omega arith)

pub pop_top : {cap : ℕ} {W : Words} (W' : Words) {next freed : ℕ} → Freed cap W next freed → freed ≢ 0 → Others (W (freed - 1) entry) W W'
    → ((i : ℕ) → i < freed → W' i entry ≡ W i entry) → floor ≤ W' (W (freed - 1) entry) own → Freed cap W' next (freed - 1)
pop_top W' {freed = zero} r d o kept live = absurd (d refl)
pop_top W' {freed = suc k} r d o kept live =
    let e : suc k - 1 ≡ k = omega arith in
    rw e (pop W' r (rw e at o) (λ i m. kept i (omega arith)) (rw e at live))

-- the lowest slot never used is given out
pub bump : {cap : ℕ} {W : Words} (W' : Words) {next freed : ℕ} → Freed cap W next freed → Others next W W'
    → ((i : ℕ) → i < freed → W' i entry ≡ W i entry) → next < cap → floor ≤ W' next own → Freed cap W' (suc next) freed
bump {cap} {W} W' {next} {freed} r o kept l live = record {
  some = omega arith;
  fits = omega arith;
  only = λ i m. let q = (at i m).0 in record { given = q.given; below = (let b = q.below in omega arith); dead = q.dead };
  knows = λ i m. (at i m).1;
  count = (let z = r.unused next (omega arith) l in
      omega (arith, r.count, live_upd cap W W' next l o, live_one (W' next own) live, live_zero (W next own) (omega (arith, floor_pos))));
  unused = λ b m k. o b own (omega arith) (omega arith) ∙ r.unused b (omega arith) k;
  ground = (let p = r.some in o 0 own (omega arith) (omega arith)) ∙ r.ground;
}
  where
    at : (i : ℕ) → i < freed → Free W' next (W' i entry) × (W' (W' i entry) mark ≡ i)
    at i m = entry_only W' next i r o m (kept i m) (λ e. let b = (r.only i m).below in omega arith)

-- how many live
pub live_is : {cap : ℕ} {W : Words} {next freed : ℕ} → Freed cap W next freed → live_count cap W ≡ next - 1 - freed
live_is r = omega (arith, r.count)

-- ---- each slot given out and not live is on the stack, once

-- what stands on the stack is an entry
list_entry : (W : Words) (k s : ℕ) → 1 ≤ occ s (freed_list W k) → (i : ℕ) × (i < k) × (W i entry ≡ s)
unfolding freed_list
list_entry W zero s h = absurd (omega (arith, occ_nil s))
list_entry W (suc k) s h = cases (ℕ_discrete s (W k entry))
    (λ e. (k, omega arith, sym e))
    (λ d. let r = list_entry W k s (omega (arith, occ_there s (W k entry) (freed_list W k) d)) in (r.0, (let l = r.1 in omega arith), r.2))

-- a stack of different slots has each at most once
list_once : (W : Words) (k s : ℕ) → ((a b : ℕ) → a < b → b < k → W a entry ≡ W b entry → ⊥) → occ s (freed_list W k) ≤ 1
unfolding freed_list
list_once W zero s h = omega (arith, occ_nil s)
list_once W (suc k) s h = cases (ℕ_discrete s (W k entry))
    (λ (e : s ≡ W k entry). cases (dec_lt 0 (occ s (freed_list W k)))
    (λ m. absurd (let t = list_entry W k s m in h t.0 k t.1 (omega arith) (t.2 ∙ e)))
    (λ m. let z : same s (W k entry) ≡ 1 = rw e (same_refl (W k entry)) in omega (arith, occ_cons s (W k entry) (freed_list W k))))
    (λ d. omega (arith, occ_there s (W k entry) (freed_list W k) d, list_once W k s (λ a b l m. h a b l (omega arith))))

pub list_length : (W : Words) (k : ℕ) → length (freed_list W k) ≡ k
unfolding freed_list
list_length W zero = refl
list_length W (suc k) = ap suc (list_length W k)

module _ {cap : ℕ} {W : Words} {next freed : ℕ} (r : Freed cap W next freed) where
  pub freed_only : (s : ℕ) → 1 ≤ occ s (freed_list W freed) → Free W next s
  freed_only s m = let t = list_entry W freed s m in subst (λ (z : ℕ). Free W next z) t.2 (r.only t.0 t.1)

  freed_most : (s : ℕ) → occ s (freed_list W freed) ≤ 1
  freed_most s = list_once W freed s (λ a b l m e. let z = entry_apart r a b (omega arith) (omega arith) e in omega arith)

  pub freed_once : (s : ℕ) → Free W next s → occ s (freed_list W freed) ≡ 1
  freed_once s f =
      let g = f.given in
      let h = f.dead in
      omega (arith, sum_to_tight_lem next all (λ i. 1) most full s f.below, same_diff s 0 (omega arith), live_zero (W s own) h)
    where
      all : ℕ → ℕ
      all s = occ s (freed_list W freed) + live_bit (W s own) + same s 0

      most : (s : ℕ) → s < next → all s ≤ 1
      most s m = cases (dec_lt 0 (occ s (freed_list W freed)))
          (λ h.
          let f = freed_only s h in
          let d = f.dead in
          let g = f.given in
          omega (arith, freed_most s, live_zero (W s own) d, same_diff s 0 (omega arith)))
          (λ h. cases (ℕ_discrete s 0)
          (λ q.
          let g : W s own ≡ 0 = rw q r.ground in
          let e : same s 0 ≡ 1 = rw q (same_refl 0) in
          omega (arith, live_zero (W s own) (omega (arith, floor_pos))))
          (λ q. omega (arith, live_bit_le_lem (W s own), same_diff s 0 q)))

      full : sum_to next all ≡ sum_to next (λ i. 1)
      full =
          let c = sum_to_const_lem next 1 in
          omega (arith, parts cap W next (freed_list W freed) r.some r.fits r.unused (λ s m. (freed_only s m).below), list_length W freed, r.count)
