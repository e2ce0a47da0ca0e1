-- The freed slots as a stack: a release puts the slots that it recycles on top, in order; a fresh node takes the top one, else the lowest never used.
use mathlib.Core.Path.{◌≡◌, refl, sym, ap, ap₂, ◌∙◌, subst}
use mathlib.Core.Logic.{◌≢◌}
use mathlib.Core.Bool.{true}
use mathlib.Core.List.{List, [], ◌∷◌, ◌++◌}
use Prim.Native.Nat.{ℕ, zero, suc, ◌+◌, ◌-◌, ◌≤◌, ◌<◌}
use native.Mathlib.Decide.{ℕ_discrete, dec_lt}
use native.Mathlib.Omega.{arith}
use lib.Dec.{eqb}
use lib.ListN.{length, drop, length-drop}
use borrow.Author.Tests.{eq-eqb, ne_eqb}
use Rattle.basics.specs.Pick.{pick}
use Rattle.nodes.specs.Tally.{Freed, freed_list, live_count, occ}
use Rattle.nodes.specs.Words.{Words, put_of, own, holds, places, mark, entry, slot, floor}
use Rattle.nodes.proofs.Access.{put_keeps}
use Rattle.nodes.proofs.Counts.{Others}
use Rattle.nodes.proofs.Freeing.{freed_same, pop_top, bump, live_is as count_is, live_below, list_length, freed_only, freed_once}
use Rattle.nodes.proofs.Sums.{cases, split, occ_cons}
use Rattle.arena.specs.Calls.{Out, said, did, refused, empties, fresh_slot, fresh_in, slot_given, room_of, recycled, less_of, takes, release_no, release_of, held_at, leaf_slot, leaf_made, intern_leaf_of, unheld, placed, branch_slot, branch_made, intern_branch_of, hold_of, fit_of, fresh_of}
use Rattle.arena.specs.Models.{more_of, settled_n, settled}
use Rattle.arena.specs.Tables.{State, live_in, Tables, tables_of, cap, W, LiveSlot, freed_of, WellFormed}
use Rattle.arena.proofs.Branches.{unheld_eased}
use Rattle.arena.proofs.Dropping.{recycle_entries, recycle_top, recycle_freed, recycled_cap, recycled_next}
use Rattle.arena.proofs.Fits.{live_is, release_live, room_yes}
use Rattle.arena.proofs.Inv.{Inv, wf_inv}
use Rattle.arena.proofs.Fresh.{Fresh}
use Rattle.arena.proofs.Make.{fresh_free}
use Rattle.arena.proofs.Releasing.{less_word, takes_empty, u_word}
use Rattle.ledger.specs.Fates.{Lives, HasContent}
use Rattle.ledger.specs.Refusals.{HasIds}
use Rattle.ledger.specs.Stack.{Stack, pushed, popped, last_freed, slot_after, Draws, recycled_by}
use Rattle.ledger.proofs.Balance.{leaf_one, branch_one, placings}
use Rattle.ledger.proofs.Found.{leaf_found_lem, leaf_missing, branch_found, branch_missing}
use Rattle.ledger.proofs.Ladders.{Fine, branch_held, leaf_ways, branch_ways, hold_ways, release_ways}
use Rattle.ledger.proofs.Recycling.{goes_empty, release_goes}
use Rattle.ledger.proofs.Writes.{held_arena, held_word}

-- ---- its entries from the top down

list_same : (U U' : Words) (k : ℕ) → ((i : ℕ) → i < k → U' i entry ≡ U i entry) → freed_list U' k ≡ freed_list U k
unfolding freed_list
list_same U U' zero h = refl
list_same U U' (suc k) h = ap₂ ◌∷◌ (h k (omega arith)) (list_same U U' k (λ i l. h i (omega arith)))

list_pushed : (U U' : Words) (k s : ℕ) → U' k entry ≡ s → ((i : ℕ) → i < k → U' i entry ≡ U i entry) → freed_list U' (suc k) ≡ s ∷ freed_list U k
unfolding freed_list
list_pushed U U' k s e h = ap₂ ◌∷◌ e (list_same U U' k h)

list_popped : (U U' : Words) (k : ℕ) → ((i : ℕ) → U' i entry ≡ U i entry) → freed_list U' (k - 1) ≡ popped (freed_list U k)
unfolding freed_list
list_popped U U' zero h = refl
list_popped U U' (suc k) h = let e : suc k - 1 ≡ k = omega arith in rw e (list_same U U' k (λ i l. h i))

list_last : (U : Words) (next k : ℕ) → pick (eqb k 0) next (U (k - 1) entry) ≡ last_freed (freed_list U k) next
unfolding freed_list
list_last U next zero = refl
list_last U next (suc k) = let e : suc k - 1 ≡ k = omega arith in rw (ne_eqb (suc k) 0 (omega arith), e)

-- In well-formed tables the freed slots are the stack.
pub wf_stack : {n tallest : ℕ} {t : Tables} → WellFormed n tallest t → Stack t (freed_of t)
wf_stack w = record { well = w.stack; slots = refl }

-- how many are freed
stack_length : {t : Tables} {fs : List ℕ} → Stack t fs → t.arena.freed ≡ length fs
stack_length {t} s = sym (list_length (W t) t.arena.freed) ∙ ap length s.slots

-- What was given out is slot 0, freed or live.
pub stack_count : {t : Tables} {fs : List ℕ} → Stack t fs → length fs + live_in t.arena + 1 ≡ t.arena.next
unfolding live_in
stack_count {t} s = let c = s.well.count in omega (arith, stack_length s)

-- The state's number of live nodes is how many live.
pub live_counted : {n tallest : ℕ} {t : Tables} → WellFormed n tallest t → live_in t.arena ≡ live_count (cap t) (W t)
unfolding live_in
live_counted w = sym (count_is w.stack)

-- ---- what leaves the stack

-- state, own words, numbers and entries as they were
pub same_stack : (t u : Tables) (fs : List ℕ) → u.arena ≡ t.arena → ((b : ℕ) → W u b own ≡ W t b own) → ((b : ℕ) → W u b mark ≡ W t b mark)
    → ((i : ℕ) → W u i entry ≡ W t i entry) → Stack t fs → Stack u fs
same_stack t u fs a o l e s = record {
  well = subst (λ (x : State). Freed x.capacity (W u) x.next x.freed) (sym a) (freed_same (W u) s.well o (λ i m. e i) (λ b d. l b));
  slots = ap (λ (x : State). freed_list (W u) x.freed) a ∙ list_same (W t) (W u) t.arena.freed (λ i m. e i) ∙ s.slots;
}

held_stack : (t : Tables) (s : ℕ) (fs : List ℕ) → Stack t fs → Stack (held_at t s) fs
held_stack t s fs =
    same_stack t (held_at t s) fs (held_arena t s) (λ b. held_word t s b own (omega arith)) (λ b. held_word t s b mark (omega arith)) (λ i. held_word t s i entry (omega arith))

-- ---- a slot recycled stands on top

recycled_freed : (t : Tables) (s : ℕ) → (recycled t s).arena.freed ≡ suc t.arena.freed
unfolding recycled
recycled_freed t s = omega arith

recycled_stack : (t : Tables) (x : ℕ) (debt : List ℕ) → Inv t (x ∷ debt) → x ≢ 0 → (fs : List ℕ) → Stack t fs → Stack (recycled t (slot x)) (slot x ∷ fs)
recycled_stack t x debt v d fs s = record {
  well = more (recycle_freed x debt v d);
  slots = ap (freed_list (W (recycled t (slot x)))) one
      ∙ list_pushed (W t) (W (recycled t (slot x))) t.arena.freed (slot x) (recycle_top x debt v d) (recycle_entries x debt v d) ∙ ap (λ (l : List ℕ). slot x ∷ l) s.slots;
}
  where
    one : (recycled t (slot x)).arena.freed ≡ suc t.arena.freed
    one = recycled_freed t (slot x)

    more : Freed (cap t) (W (recycled t (slot x))) t.arena.next (suc t.arena.freed)
        → Freed (cap (recycled t (slot x))) (W (recycled t (slot x))) (recycled t (slot x)).arena.next (recycled t (slot x)).arena.freed
    more r =
        subst (λ (k : ℕ). Freed (cap (recycled t (slot x))) (W (recycled t (slot x))) (recycled t (slot x)).arena.next k) (sym one)
        (subst (λ (k : ℕ). Freed (cap (recycled t (slot x))) (W (recycled t (slot x))) k (suc t.arena.freed)) (sym (recycled_next t (slot x)))
        (subst (λ (k : ℕ). Freed k (W (recycled t (slot x))) t.arena.next (suc t.arena.freed)) (sym (recycled_cap t (slot x))) r))

pub pushed_append : (ss rs fs : List ℕ) → pushed (ss ++ rs) fs ≡ pushed rs (pushed ss fs)
pushed_append [] rs fs = refl
pushed_append (s ∷ ss) rs fs = pushed_append ss rs (s ∷ fs)

abbrev Pushes : Tables → Tables → List ℕ → Type 0
Pushes t u ss = (fs : List ℕ) → Stack t fs → Stack u (pushed ss fs)

less_pushes : (t : Tables) (x : ℕ) → Pushes t (less_of places t x) []
unfolding less_of
less_pushes t x fs =
    same_stack t (less_of places t x) fs refl (λ b. less_word places t x b own (omega arith)) (λ b. less_word places t x b mark (omega arith))
    (λ i. less_word places t x i entry (omega arith))

settled_entry : (t : Tables) (s i : ℕ) → W (settled t s) i entry ≡ W t i entry
unfolding settled settled_n
settled_entry t s i =
    put_keeps (put_of t.nodes s holds (W t s holds - 1)) s places (more_of (W t s places)) i entry (omega arith)
    ∙ put_keeps t.nodes s holds (W t s holds - 1) i entry (omega arith)

settled_stack : {n tallest : ℕ} {t : Tables} → n ≤ 8 → WellFormed n tallest t → (id : ℕ) → Lives t id → 1 ≤ W t (slot id) holds → (fs : List ℕ)
    → Stack t fs → Stack (settled t (slot id)) fs
unfolding settled
settled_stack {t = t} m w id v held fs =
    same_stack t (settled t (slot id)) fs refl (λ b. u_word m w id v held b own (omega arith) (omega arith) (omega arith))
    (λ b. u_word m w id v held b mark (omega arith) (omega arith) (omega arith)) (settled_entry t (slot id))

-- A release puts the slots that it recycles on top, in the order in which it recycles them; where it is refused or recycles none, nothing.
pub release_stack : {n tallest : ℕ} {t : Tables} → n ≤ 8 → WellFormed n tallest t → (id : ℕ) (fs : List ℕ) → Stack t fs
    → Stack (release_of tallest t id).after (pushed (recycled_by tallest t id) fs)
unfolding release_of recycled_by
release_stack {n} {tallest} {t} m w id fs s = cases (ℕ_discrete (release_no t id) 0)
    (λ z. rw (eq-eqb (release_no t id) 0 z) (cases (ℕ_discrete id 0)
    (λ y. subst (λ (l : List ℕ). Stack (takes (suc tallest) holds t id) (pushed l fs)) (sym (goes_empty tallest holds t id y)) (subst (λ (u : Tables). Stack u fs) (sym (takes_empty tallest holds t id y)) s))
    (λ y.
    let r = release_live t id z y in
    let v = live_is t id r.0 in
    release_goes Pushes (λ t fs s. s)
    (λ t u v ss rs p q fs s. subst (λ (l : List ℕ). Stack v l) (sym (pushed_append ss rs fs)) (q (pushed ss fs) (p fs s)))
    less_pushes recycled_stack n tallest t m w id v r.1 fs (settled_stack m w id v r.1 fs s))))
    (λ z. rw (ne_eqb (release_no t id) 0 z) s)

-- a release gives none out
abbrev Next-kept : Tables → Tables → List ℕ → Type 0
Next-kept t u ss = u.arena.next ≡ t.arena.next

less_next : (t : Tables) (x : ℕ) → (less_of places t x).arena.next ≡ t.arena.next
unfolding less_of
less_next t x = refl

settled_next : (t : Tables) (s : ℕ) → (settled t s).arena.next ≡ t.arena.next
unfolding settled
settled_next t s = refl

pub release_gives_none : {n tallest : ℕ} {t : Tables} → n ≤ 8 → WellFormed n tallest t → (id : ℕ) → (release_of tallest t id).after.arena.next ≡ t.arena.next
release_gives_none {n} {tallest} {t} m w id =
    release_ways tallest t id (λ f e. ends (did 1 t) e refl) (λ f z e. ends (did 0 t) e refl) (λ f z l e. ends (did 4 t) e refl) (λ f z l h e. ends (did 5 t) e refl)
    (λ f z l h no e. ends (did 0 (takes (suc tallest) holds t id)) e
    (release_goes Next-kept (λ t. refl) (λ t u v ss rs p q. q ∙ p) less_next (λ t x debt v d. recycled_next t (slot x)) n tallest t m w id (live_is t id l) (omega arith)
    ∙ settled_next t (slot id)))
  where
    ends : (o : Out) → release_of tallest t id ≡ o → o.after.arena.next ≡ t.arena.next → (release_of tallest t id).after.arena.next ≡ t.arena.next
    ends o e k = ap (λ (r : Out). r.after.arena.next) e ∙ k

-- ---- the slot given out

fresh_freed : (c : ℕ) (k f e : List ℕ) → (fresh_of c k f e).after.arena.freed ≡ 0
unfolding fresh_of
fresh_freed c k f e = split (fit_of c (length k) (length f) (length e)) (λ r. rw r) (λ r. rw r)

list_none : (U : Words) (k : ℕ) → k ≡ 0 → freed_list U k ≡ []
unfolding freed_list
list_none U k z = rw z

-- A fresh arena has none freed.
pub fresh_stack : {n tallest : ℕ} (c : ℕ) (k f e : List ℕ) → WellFormed n tallest (fresh_of c k f e).after → Stack (fresh_of c k f e).after []
fresh_stack c k f e w =
    let u = (fresh_of c k f e).after in
    record { well = w.stack; slots = list_none (W u) u.arena.freed (fresh_freed c k f e) }

-- The fresh slot is the last one freed, else the lowest never used.
pub fresh_last : (t : Tables) (fs : List ℕ) → Stack t fs → fresh_in t ≡ last_freed fs t.arena.next
unfolding fresh_slot
fresh_last t fs s = list_last (W t) t.arena.next t.arena.freed ∙ ap (λ (l : List ℕ). last_freed l t.arena.next) s.slots

-- Where there is room, it is a slot of the arena that is not live, and not slot 0.
pub fresh_some : {n tallest : ℕ} {t : Tables} → n ≤ 8 → WellFormed n tallest t → room_of t.arena ≡ true
    → (1 ≤ fresh_in t) × (fresh_in t < cap t) × (W t (fresh_in t) own < floor)
fresh_some {t = t} m w r = fresh_free [] (wf_inv m w) (room_yes t.arena r)

-- After a release that recycled slots, the last of them is the fresh one.
pub release_last : {n tallest : ℕ} {t : Tables} → n ≤ 8 → WellFormed n tallest t → (id : ℕ) (ss : List ℕ) (s : ℕ) → recycled_by tallest t id ≡ ss ++ (s ∷ [])
    → fresh_in (release_of tallest t id).after ≡ s
release_last {tallest = tallest} {t = t} m w id ss s e =
    let k : Stack (release_of tallest t id).after (s ∷ pushed ss (freed_of t)) =
    subst (λ (l : List ℕ). Stack (release_of tallest t id).after l) (ap (λ (l : List ℕ). pushed l (freed_of t)) e ∙ pushed_append ss (s ∷ []) (freed_of t)) (release_stack m w id (freed_of t) (wf_stack w)) in
    fresh_last (release_of tallest t id).after (s ∷ pushed ss (freed_of t)) k

-- each of the two
fresh_lowest : (t : Tables) → t.arena.freed ≡ 0 → fresh_in t ≡ t.arena.next
unfolding fresh_slot
fresh_lowest t z = rw (eq-eqb t.arena.freed 0 z)

fresh_top : (t : Tables) → t.arena.freed ≢ 0 → fresh_in t ≡ W t (t.arena.freed - 1) entry
unfolding fresh_slot
fresh_top t z = rw (ne_eqb t.arena.freed 0 z)

-- a node made in the slot given out
made_stack : {t u : Tables} {r : ℕ} {ks : List ℕ} {v h q : ℕ} → live_in t.arena + 1 < cap t → Fresh t u r ks v h q → (fs : List ℕ) → Stack t fs → Stack u (popped fs)
unfolding slot_given
made_stack {t} {u} {r} room f fs s = record {
  well = subst (λ (x : State). Freed x.capacity (W u) x.next x.freed) (sym f.given) (cases (ℕ_discrete t.arena.freed 0)
      (λ z.
      let e : slot r ≡ t.arena.next = f.lies ∙ fresh_lowest t z in
      let i = f.live.is in
      let h = f.live.high in
      let b = bump (W u) s.well (subst (λ (x : ℕ). Others x (W t) (W u)) e f.others) (λ i m. f.entries i) (low z) (subst (λ (x : ℕ). floor ≤ W u x own) e (omega arith)) in
      let j : suc t.arena.next ≡ t.arena.next + 1 = omega arith in
      let k : t.arena.freed ≡ t.arena.freed - 1 = omega arith in
      rw (eq-eqb t.arena.freed 0 z) (subst (λ (x : ℕ). Freed (cap t) (W u) x (t.arena.freed - 1)) j (subst (λ (x : ℕ). Freed (cap t) (W u) (suc t.arena.next) x) k b)))
      (λ z.
      let e : slot r ≡ W t (t.arena.freed - 1) entry = f.lies ∙ fresh_top t z in
      let i = f.live.is in
      let h = f.live.high in
      rw (ne_eqb t.arena.freed 0 z)
      (pop_top (W u) s.well z (subst (λ (x : ℕ). Others x (W t) (W u)) e f.others) (λ i m. f.entries i) (subst (λ (x : ℕ). floor ≤ W u x own) e (omega arith)))));
  slots = ap (λ (x : State). freed_list (W u) x.freed) f.given ∙ list_popped (W t) (W u) t.arena.freed f.entries ∙ ap popped s.slots;
}
  where
    low : t.arena.freed ≡ 0 → t.arena.next < cap t
    low z = omega (arith, stack_count s, stack_length s)

-- A fresh node takes the last slot freed, else the lowest never used, and then the one freed before it is the last. On any tables.
pub fresh_takes : {t u : Tables} {r : ℕ} {ks : List ℕ} {v h q : ℕ} → live_in t.arena + 1 < cap t → Fresh t u r ks v h q → (fs : List ℕ) → Stack t fs → (slot r ≡ last_freed fs t.arena.next) × Stack u (popped fs)
fresh_takes {t} room f fs s = (f.lies ∙ fresh_last t fs s, made_stack room f fs s)

-- what a call that makes a node answers and leaves
abbrev Takes : Tables → List ℕ → Out → Type 0
Takes t fs o = (slot o.id ≡ last_freed fs t.arena.next) × Stack o.after (popped fs)

module _ {n tallest : ℕ} {t : Tables} (m : n ≤ 8) (w : WellFormed n tallest t) (fs : List ℕ) (s : Stack t fs) where
  leaf_made_takes : (v : ℕ) → live_in t.arena + 1 < cap t → Takes t fs (leaf_made t v)
  leaf_made_takes v room = fresh_takes room (leaf_one m w room v) fs s

  branch_made_takes : (ks : List ℕ) → length ks ≡ 8 → Fine n tallest t ks → live_in t.arena + 1 < cap t → Takes t fs (branch_made n t ks)
  branch_made_takes ks e8 fine room =
      let p = placings m w ks e8 fine in
      let put = tables_of t.arena (placed t.nodes ks) t.find in
      let same : (b f : ℕ) → f ≤ mark → f ≢ holds → f ≢ places → W put b f ≡ W t b f = p.eased.words in
      fresh_takes room (branch_one m w ks e8 fine room) fs
      (same_stack t put fs refl (λ b. same b own (omega arith) (omega arith) (omega arith)) (λ b. same b mark (omega arith) (omega arith) (omega arith)) p.eased.entries s)

  -- Interning a leaf of a value that is not there, accepted: its slot is the last one freed, else the lowest never used, and then the one freed before
  -- it is the last.
  pub leaf_takes : (v : ℕ) → (intern_leaf_of t v).no ≡ 0 → ((y : ℕ) → HasContent t y empties v → ⊥)
      → (slot (intern_leaf_of t v).id ≡ last_freed fs t.arena.next) × Stack (intern_leaf_of t v).after (popped fs)
  leaf_takes v z none =
      leaf_ways (λ o. o.no ≡ 0 → Takes t fs o) t v (λ k d y. absurd (d y)) (λ x r y. leaf_made_takes v (room_yes t.arena r))
      (λ x y. absurd (none (W t (leaf_slot t v) own) (leaf_found_lem m w v x).1)) z

  -- Interning a branch of ids that are not there, accepted: the same.
  pub branch_takes : (ks : List ℕ) → length ks ≡ 8 → (intern_branch_of n tallest t ks).no ≡ 0 → ((y : ℕ) → HasIds t y ks → ⊥)
      → (slot (intern_branch_of n tallest t ks).id ≡ last_freed fs t.arena.next) × Stack (intern_branch_of n tallest t ks).after (popped fs)
  branch_takes ks e8 z none =
      branch_ways (λ o. o.no ≡ 0 → Takes t fs o) n tallest t ks (λ k d y. absurd (d y)) (λ f x r y. branch_made_takes ks e8 f (room_yes t.arena r))
      (λ f x y. absurd (let h = (branch_found m w ks e8 f.some x).1 in none (W t (branch_slot t ks) own) (h.live, h.kids))) z

  -- Interning what is there leaves the freed slots as they were; so does a refusal, which changes nothing.
  pub leaf_spares : (v y : ℕ) → HasContent t y empties v → Stack (intern_leaf_of t v).after fs
  leaf_spares v y h =
      leaf_ways (λ o. Stack o.after fs) t v (λ k d. s) (λ x r. absurd (leaf_missing m w v x y h)) (λ x. held_stack t (leaf_slot t v) fs s)

  -- the branch that is there, held
  branch_held_stack : (ks : List ℕ) → Stack (branch_held t ks).after fs
  branch_held_stack ks =
      held_stack eased (branch_slot t ks) fs
      (same_stack t eased fs refl (λ b. words b own (omega arith) (omega arith) (omega arith)) (λ b. words b mark (omega arith) (omega arith) (omega arith))
      (unheld_eased ks t.nodes).entries s)
    where
      eased : Tables
      eased = tables_of t.arena (unheld t.nodes ks) t.find

      words : (b f : ℕ) → f ≤ mark → f ≢ holds → f ≢ places → W eased b f ≡ W t b f
      words = (unheld_eased ks t.nodes).words

  pub branch_spares : (ks : List ℕ) → length ks ≡ 8 → (y : ℕ) → HasIds t y ks → Stack (intern_branch_of n tallest t ks).after fs
  branch_spares ks e8 y h =
      branch_ways (λ o. Stack o.after fs) n tallest t ks (λ k d. s) (λ f x r. absurd (branch_missing m w ks e8 x y h.0 h.1))
      (λ f x. branch_held_stack ks)

-- Holding leaves them too. On any tables.
pub hold_spares : (t : Tables) (id : ℕ) (fs : List ℕ) → Stack t fs → Stack (hold_of t id).after fs
hold_spares t id fs s = hold_ways (λ o. Stack o.after fs) t id (λ k d. s) (λ z. s) (λ z l. held_stack t (slot id) fs s)

-- ---- each call that ends no node: one slot for each node that it makes

pub popped_drop : (k : ℕ) (fs : List ℕ) → popped (drop k fs) ≡ drop (suc k) fs
popped_drop zero [] = refl
popped_drop zero (f ∷ fs) = refl
popped_drop (suc k) [] = refl
popped_drop (suc k) (f ∷ fs) = popped_drop k fs

-- what was given out and is not freed lives, so that the lowest never used is told by the freed ones and the live
pub next_after : (t u : Tables) (fs : List ℕ) (k : ℕ) → live_in u.arena ≡ live_in t.arena + k → Stack t fs → Stack u (drop k fs)
    → u.arena.next ≡ t.arena.next + (k - length fs)
next_after t u fs k e s r = omega (arith, stack_count s, stack_count r, length-drop k fs)

-- no node is made
pub draws_none : (t : Tables) (fs : List ℕ) (o : Out) → live_in o.after.arena ≡ live_in t.arena → Stack o.after fs → Draws t fs o
draws_none t fs o e s =
    let z : 0 ≡ live_in o.after.arena - live_in t.arena = omega arith in
    record { grows = omega arith; left = subst (λ (k : ℕ). Stack o.after (drop k fs)) z s; given = λ k g. absurd (omega arith) }

-- k and one more are made, the answer last
pub draws_more : (t : Tables) (fs : List ℕ) (o : Out) (k : ℕ) → live_in o.after.arena ≡ live_in t.arena + suc k → slot o.id ≡ slot_after k fs t.arena.next
    → Stack o.after (drop (suc k) fs) → Draws t fs o
draws_more t fs o k e a s =
    let z : suc k ≡ live_in o.after.arena - live_in t.arena = omega arith in
    record {
      grows = omega arith;
      left = subst (λ (j : ℕ). Stack o.after (drop j fs)) z s;
      given = λ j g. a ∙ (let same : k ≡ j = omega arith in ap (λ (i : ℕ). slot_after i fs t.arena.next) same);
    }

draws_one : (t : Tables) (fs : List ℕ) (o : Out) → live_in o.after.arena ≡ live_in t.arena + 1 → Takes t fs o → Draws t fs o
draws_one t fs o e r =
    let z : t.arena.next ≡ t.arena.next + (0 - length fs) = omega arith in
    draws_more t fs o 0 e (r.0 ∙ ap (last_freed fs) z) (subst (λ (l : List ℕ). Stack o.after l) (popped_drop 0 fs) r.1)

fresh_live : {t u : Tables} {r : ℕ} {ks : List ℕ} {v h q : ℕ} → t.arena.freed < t.arena.next → Fresh t u r ks v h q → live_in u.arena ≡ live_in t.arena + 1
unfolding slot_given live_in
fresh_live {t} l f = ap live_in f.given ∙ cases (ℕ_discrete t.arena.freed 0)
    (λ z. rw (eq-eqb t.arena.freed 0 z) (omega arith))
    (λ z. rw (ne_eqb t.arena.freed 0 z) (omega arith))

held_live : (t : Tables) (s : ℕ) → live_in (held_at t s).arena ≡ live_in t.arena
held_live t s = ap live_in (held_arena t s)

module _ {n tallest : ℕ} {t : Tables} (m : n ≤ 8) (w : WellFormed n tallest t) (fs : List ℕ) (s : Stack t fs) where
  freed_low : t.arena.freed < t.arena.next
  freed_low = omega (arith, stack_count s, stack_length s)

  -- Interning a leaf, accepted or refused, made or there.
  pub leaf_draws : (v : ℕ) → Draws t fs (intern_leaf_of t v)
  leaf_draws v =
      leaf_ways (Draws t fs) t v (λ k d. draws_none t fs (refused k t) refl s)
      (λ x r.
      let room = room_yes t.arena r in
      draws_one t fs (leaf_made t v) (fresh_live freed_low (leaf_one m w room v)) (leaf_made_takes m w fs s v room))
      (λ x. draws_none t fs (said 0 (W t (leaf_slot t v) own) (held_at t (leaf_slot t v))) (held_live t (leaf_slot t v)) (held_stack t (leaf_slot t v) fs s))

  -- Interning a branch: the same.
  pub branch_draws : (ks : List ℕ) → length ks ≡ 8 → Draws t fs (intern_branch_of n tallest t ks)
  branch_draws ks e8 =
      branch_ways (Draws t fs) n tallest t ks (λ k d. draws_none t fs (refused k t) refl s)
      (λ f x r.
      let room = room_yes t.arena r in
      draws_one t fs (branch_made n t ks) (fresh_live freed_low (branch_one m w ks e8 f room)) (branch_made_takes m w fs s ks e8 f room))
      (λ f x. draws_none t fs (branch_held t ks) (held_live (tables_of t.arena (unheld t.nodes ks) t.find) (branch_slot t ks)) (branch_held_stack m w fs s ks))

-- Holding makes none. On any tables.
pub hold_draws : (t : Tables) (id : ℕ) (fs : List ℕ) → Stack t fs → Draws t fs (hold_of t id)
hold_draws t id fs s =
    hold_ways (Draws t fs) t id (λ k d. draws_none t fs (did k t) refl s) (λ z. draws_none t fs (did 0 t) refl s)
    (λ z l. draws_none t fs (did 0 (held_at t (slot id))) (held_live t (slot id)) (held_stack t (slot id) fs s))

-- ---- never used

-- What lives was given out.
pub live_given : (t : Tables) (fs : List ℕ) → Stack t fs → (s : ℕ) → LiveSlot t s → s < t.arena.next
live_given t fs k s l = live_below s k.well l.0 l.1

occ_drop : (y k : ℕ) (fs : List ℕ) → occ y (drop k fs) ≤ occ y fs
occ_drop y zero fs = omega arith
occ_drop y (suc k) [] = omega arith
occ_drop y (suc k) (f ∷ fs) = omega (arith, occ_drop y k fs, occ_cons y f fs)

-- A slot that nodes made from t to u were the first to get lives in u.
pub newly_given : (t u : Tables) (fs : List ℕ) (k : ℕ) → Stack t fs → Stack u (drop k fs) → (s : ℕ) → t.arena.next ≤ s → s < u.arena.next → LiveSlot u s
newly_given t u fs k a b s low high = cases (dec_lt (W u s own) floor)
    (λ dead. absurd (
    let one = freed_once b.well s (record { given = (let g = a.well.some in omega arith); below = high; dead = dead }) in
    let there = ap (occ s) b.slots in
    let here = ap (occ s) a.slots in
    let in-t = (freed_only a.well s (omega (arith, occ_drop s k fs))).below in
    omega arith))
    (λ live. ((let f = b.well.fits in omega arith), omega arith))
