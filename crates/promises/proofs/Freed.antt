-- Fresh slot: the last one freed, else the lowest never used. Over any calls since a fresh arena.
use mathlib.Core.Path.{◌≡◌, refl, sym, ap, ◌∙◌, subst}
use mathlib.Core.Logic.{inl, inr, ⊎_elim}
use mathlib.Core.List.{List, [], ◌∷◌, ◌++◌}
use Prim.Native.Nat.{ℕ, zero, suc, ◌+◌, ◌-◌, ◌≤◌, ◌<◌}
use native.Mathlib.Decide.{ℕ_discrete, dec_lt}
use native.Mathlib.Omega.{arith}
use lib.ListN.{drop}
use Rattle.basics.specs.Limits.{deepest, cube_kids, kid_words, largest_value}
use Rattle.nodes.specs.Words.{slot}
use Rattle.nodes.proofs.Sums.{cases, split}
use Rattle.paths.specs.Paths.{place}
use Rattle.arena.specs.Calls.{Out, empties, fits, fresh_in, hold_no, intern_leaf_of, intern_branch_of}
use Rattle.arena.specs.Tables.{live_in, Tables, LiveSlot, WellFormed}
use Rattle.ledger.specs.Fates.{HasContent}
use Rattle.ledger.specs.Refusals.{HasIds}
use Rattle.ledger.specs.Stack.{Stack, pushed, last_freed, left_of, slot_after, Draws, recycled_by}
use Rattle.ledger.proofs.Balance.{fresh_next}
use Rattle.ledger.proofs.Stack.{fresh_stack, fresh_last, release_stack, release_gives_none, leaf_takes, branch_takes, leaf_draws, branch_draws, hold_draws, next_after, pushed_append, live_given, newly_given}
use Rattle.calls.specs.Does.{Since, now, then as onward, Fresh, fresh, History}
use Rattle.calls.proofs.Follows.{fresh_made}
use Rattle.edit.proofs.Slots.{edit_draws}
use Rattle.basics.specs.Bytes.{Bytes}
use Rattle.metres.specs.Record.{aim_of}
use Rattle.std.specs.declared.option.Option.{Option}
use Rattle.std.specs.declared.option.Option.TheVariants.{Some, None}
use Rattle.std.specs.declared.result.Result.{Result}
use Rattle.std.specs.declared.result.Result.TheVariants.{Ok, Err}
use Rattle.basics.specs.declared.Refusal.{Refusal}
use Rattle.metres.specs.declared.Cells.{Cells}
use Rattle.bars.specs.Bars.{bar_of}
use Rattle.bars.proofs.Ways.{edit_at, pass_all, bar_by}
use Rattle.readings.specs.Enter.{pause_of, asked_of, enter_of}
use Rattle.readings.proofs.Aims.{Sound, aim_sound}
use Rattle.readings.proofs.Law.{paused, unpaused, enter_unsized, enter_sized}
use Rattle.promises.specs.Freed.{freed_after, Freeing, bare, then, Used}
use Rattle.promises.specs.Promises.{Call, leaf, branch, hold, release, voxel, Handed, outcome, Step, call, entry, NoRelease, Unreleased, none, and}
use Rattle.promises.proofs.Calls.{call_does}

fit : cube_kids ≤ kid_words
fit = omega arith

-- ## One call

module _ {t : Tables} (w : WellFormed cube_kids deepest t) (fs : List ℕ) (s : Stack t fs) where
  -- A call that is no release, accepted or refused: each node that it makes takes the last slot freed, else the lowest never used.
  pub call_draws : (c : Call) → Handed c → NoRelease c → Draws t fs (outcome t c)
  call_draws (leaf v) h n = leaf_draws fit w fs s v
  call_draws (branch ks) h n = branch_draws fit w fs s ks h
  call_draws (hold b) h n = hold_draws t b fs s
  call_draws (release b) h n = absurd n
  call_draws (voxel b e p v) h n = edit_draws w fs s b e p v h

  -- any call
  call_stack : (c : Call) → Handed c → Stack (outcome t c).after (freed_after t fs c)
  call_stack (leaf v) h = (call_draws (leaf v) h tt).left
  call_stack (branch ks) h = (call_draws (branch ks) h tt).left
  call_stack (hold b) h = (call_draws (hold b) h tt).left
  call_stack (release b) h = release_stack fit w b fs s
  call_stack (voxel b e p v) h = (call_draws (voxel b e p v) h tt).left

-- ## Any calls since a fresh arena

-- The slots freed and not given out again are those on the stack of the tables, in the same order.
pub freeing_stack : {t : Tables} {fs : List ℕ} → Freeing t fs → WellFormed cube_kids deepest t × Stack t fs
freeing_stack (bare (fresh c k f e z)) =
    let w = (fresh_made cube_kids deepest fit (fresh c k f e z)).0 in
    (w, fresh_stack c k f e w)
freeing_stack (then {t = t} {fs = fs} h c k) =
    let r = freeing_stack h in
    ((call_does r.0 c k).well, call_stack r.0 fs r.1 c k)

abbrev Frees : Tables → Type 0
Frees t = (gs : List ℕ) × Freeing t gs

after_call : {t : Tables} → Frees t → (c : Call) → Handed c → Frees (outcome t c).after
after_call {t} (fs, h) c k = (freed_after t fs c, then h c k)

-- a bar is edits and releases
bar_freeing : {t : Tables} → Frees t → (root d y z x k v : ℕ) → v ≤ largest_value → Frees (bar_of t root d y z x k v).after
bar_freeing {t} s root d y z x k v high =
    let o = edit_at d y z v t root x in
    bar_by d y z v t root x k (λ i. Frees i.after)
    (λ e.
    pass_all d y z v (λ u r x k. Frees u) (λ u r x k i. Frees i.after) (λ u r x i. i)
    (λ u r x k i e. after_call (after_call i (voxel r d (place x y z) v) high) (release r) tt) (λ u r x k i p e h. h)
    (λ u r x k i bad. after_call i (release r) tt) k o.after o.id (suc x) (after_call s (voxel root d (place x y z) v) high))
    (λ bad. s)

-- a pause is a hold, or nothing
pause_freeing : {t : Tables} → Frees t → (root : ℕ) → Frees (pause_of t root).after
pause_freeing {t} s root = cases (ℕ_discrete (hold_no t root) 0)
    (λ z. subst (λ (o : Out). Frees o.after) (sym (paused t root z)) (after_call s (hold root) tt))
    (λ z. subst (λ (o : Out). Frees o.after) (sym (unpaused t root z)) s)

asked_freeing : {t : Tables} → Frees t → (root d : ℕ) (m : Result (Option Cells) Refusal) → Sound d m → Frees (asked_of t root d m).after
unfolding asked_of
asked_freeing s root d (Ok None) g = pause_freeing s root
asked_freeing s root d (Ok (Some c)) g = bar_freeing s root d c.y c.z c.first (c.last - c.first) c.value g.small
asked_freeing s root d (Err refusal) g = s

entry_freeing : {t : Tables} → Frees t → (root d k : ℕ) (l : List ℕ) → Bytes l → Frees (enter_of t root d k l).after
entry_freeing {t} s root d k l bytes = split (fits t)
    (λ f. subst (λ (o : Out). Frees o.after) (enter_sized t root d k l f) (asked_freeing s root d (aim_of l k d) (aim_sound l k d bytes)))
    (λ f. subst (λ (o : Out). Frees o.after) (enter_unsized t root d k l f) s)

step_freeing : {t u : Tables} {g k j : ℕ → ℕ} → Frees t → Step t u g k j → Frees u
step_freeing s (call c k) = after_call s c k
step_freeing s (entry b e i l h) = entry_freeing s b e i l h

since_freeing : {t u : Tables} {g k j : ℕ → ℕ} → Fresh t → Since Step t u g k j → Frees u
since_freeing f now = ([], bare f)
since_freeing f (onward r c) = step_freeing (since_freeing f r) c

-- Whatever the calls were, there are such.
pub history_freeing : {t : Tables} {granted taken : ℕ → ℕ} → History Step t granted taken → (fs : List ℕ) × Freeing t fs
history_freeing h = since_freeing h.bare h.since

-- ## The fresh slot

module _ {t : Tables} {fs : List ℕ} (h : Freeing t fs) where
  w : WellFormed cube_kids deepest t
  w = (freeing_stack h).0

  s : Stack t fs
  s = (freeing_stack h).1

  -- The slot that is given out next is the last one freed, else `next`.
  pub next_slot : fresh_in t ≡ last_freed fs t.arena.next
  next_slot = fresh_last t fs s

  -- So a leaf or a branch that is interned, and was not there, has that slot ..
  pub leaf_next : (v : ℕ) → (intern_leaf_of t v).no ≡ 0 → ((y : ℕ) → HasContent t y empties v → ⊥)
      → slot (intern_leaf_of t v).id ≡ last_freed fs t.arena.next
  leaf_next v z new = (leaf_takes fit w fs s v z new).0

  pub branch_next : (ks : List ℕ) → Handed (branch ks) → (intern_branch_of cube_kids deepest t ks).no ≡ 0 → ((y : ℕ) → HasIds t y ks → ⊥)
      → slot (intern_branch_of cube_kids deepest t ks).id ≡ last_freed fs t.arena.next
  branch_next ks e z new = (branch_takes fit w fs s ks e z new).0

  -- .. and a call that makes k nodes and one more, as an edit does, leaf first and upward, answers the last of them: it has the slot that the k leave.
  pub made_next : (c : Call) → Handed c → NoRelease c → (k : ℕ) → live_in (outcome t c).after.arena ≡ live_in t.arena + suc k
      → slot (outcome t c).id ≡ slot_after k fs t.arena.next
  made_next c e n = (call_draws w fs s c e n).given

-- ## After calls that release nothing

drop_none : (k : ℕ) → ◌≡◌ {A = List ℕ} (drop k []) []
drop_none zero = refl
drop_none (suc k) = refl

drop_drop : (i j k : ℕ) (fs : List ℕ) → i + j ≡ k → drop j (drop i fs) ≡ drop k fs
drop_drop zero j k fs e = let z : j ≡ k = omega arith in ap (λ (i : ℕ). drop i fs) z
drop_drop (suc i) j k [] e = drop_none j ∙ sym (drop_none k)
drop_drop (suc i) j zero (f ∷ fs) e = absurd (omega arith)
drop_drop (suc i) j (suc k) (f ∷ fs) e = drop_drop i j k fs (omega arith)

-- each node that they make has taken the top one
unreleased_left : {t u : Tables} (fs : List ℕ) → WellFormed cube_kids deepest t → Stack t fs → Unreleased t u
    → WellFormed cube_kids deepest u × (live_in t.arena ≤ live_in u.arena) × Stack u (left_of t u fs)
unreleased_left {t} fs w s none = let z : 0 ≡ live_in t.arena - live_in t.arena = omega arith in (w, omega arith, subst (λ (k : ℕ). Stack t (drop k fs)) z s)
unreleased_left {t} {u} fs w s (and c h n r) =
    let v = (outcome t c).after in
    let g = call_draws w fs s c h n in
    let x = g.grows in
    let e = unreleased_left (left_of t v fs) (call_does w c h).well g.left r in
    let y = e.1 in
    let z = drop_drop (live_in v.arena - live_in t.arena) (live_in u.arena - live_in v.arena) (live_in u.arena - live_in t.arena) fs (omega arith) in
    (e.0, omega arith, subst (λ (l : List ℕ). Stack u l) z e.2)

-- From t on calls that release nothing have made k nodes: the slot that is given out next.
pub unreleased_next : {t u : Tables} {fs : List ℕ} → Freeing t fs → Unreleased t u → (k : ℕ) → live_in u.arena ≡ live_in t.arena + k
    → fresh_in u ≡ slot_after k fs t.arena.next
unreleased_next {t} {u} {fs} h r k e =
    let w = (freeing_stack h).0 in
    let s = (freeing_stack h).1 in
    let x = unreleased_left fs w s r in
    let z : live_in u.arena - live_in t.arena ≡ k = omega arith in
    let y : Stack u (drop k fs) = subst (λ (i : ℕ). Stack u (drop i fs)) z x.2 in
    fresh_last u (drop k fs) y ∙ ap (last_freed (drop k fs)) (next_after t u fs k e s y)

-- A release recycled slots, s the last of them; calls after it released nothing and made no node: s is given out next.
pub release_next : {t u : Tables} {fs : List ℕ} → Freeing t fs → (id : ℕ) (ss : List ℕ) (s : ℕ) → recycled_by deepest t id ≡ ss ++ (s ∷ [])
    → Unreleased (outcome t (release id)).after u → live_in u.arena ≡ live_in (outcome t (release id)).after.arena → fresh_in u ≡ s
release_next {t} {fs} h id ss s e r same =
    let v = (outcome t (release id)).after in
    let z : pushed (recycled_by deepest t id) fs ≡ s ∷ pushed ss fs = ap (λ (l : List ℕ). pushed l fs) e ∙ pushed_append ss (s ∷ []) fs in
    unreleased_next (then h (release id) tt) r 0 (omega arith) ∙ ap (λ (l : List ℕ). slot_after 0 l v.arena.next) z

-- ## The lowest never used

-- `next` is what it was or higher, and every slot that it passed lives
abbrev GivesOut : Tables → Tables → Type 0
GivesOut t u = (t.arena.next ≤ u.arena.next) × ((s : ℕ) → t.arena.next ≤ s → s < u.arena.next → LiveSlot u s)

module _ {t : Tables} (w : WellFormed cube_kids deepest t) (fs : List ℕ) (k : Stack t fs) where
  making_gives : (c : Call) → Handed c → NoRelease c → GivesOut t (outcome t c).after
  making_gives c h n =
      let u = (outcome t c).after in
      let made = live_in u.arena - live_in t.arena in
      let d = call_draws w fs k c h n in
      let x = d.grows in
      let e = next_after t u fs made (omega arith) k d.left in
      (omega arith, newly_given t u fs made k d.left)

  call_gives : (c : Call) → Handed c → GivesOut t (outcome t c).after
  call_gives (leaf v) h = making_gives (leaf v) h tt
  call_gives (branch ks) h = making_gives (branch ks) h tt
  call_gives (hold b) h = making_gives (hold b) h tt
  call_gives (release b) h = let e = release_gives_none fit w b in (omega arith, λ s i j. absurd (omega arith))
  call_gives (voxel b e p v) h = making_gives (voxel b e p v) h tt

-- `next` is the lowest slot never used: none from it on was, and every one from 1 up to it.
pub never_used : {t : Tables} {fs : List ℕ} (h : Freeing t fs) (s : ℕ) → t.arena.next ≤ s → Used h s → ⊥
unfolding Used
never_used (bare f) s i u = u
never_used (then {t = t} {fs = fs} h c k) s i u =
    let r = freeing_stack h in
    let x = (call_gives r.0 fs r.1 c k).0 in
    ⊎_elim (λ l. let y = live_given (outcome t c).after (freed_after t fs c) (call_stack r.0 fs r.1 c k) s l in absurd (omega arith))
    (λ l. never_used h s (omega arith) l) u

pub used_below : {t : Tables} {fs : List ℕ} (h : Freeing t fs) (s : ℕ) → 1 ≤ s → s < t.arena.next → Used h s
unfolding Used
used_below (bare (fresh c k f e z)) s i j = absurd (omega (arith, fresh_next c k f e))
used_below (then {t = t} {fs = fs} h c k) s i j =
    let r = freeing_stack h in
    cases (dec_lt s t.arena.next) (λ l. inr (used_below h s i l)) (λ l. inl ((call_gives r.0 fs r.1 c k).1 s (omega arith) j))
