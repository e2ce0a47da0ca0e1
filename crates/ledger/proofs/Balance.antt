-- The holds in each call: those afterwards and those it takes are those before and those it grants.
use mathlib.Core.Path.{◌≡◌, refl, sym, ap, ◌∙◌, subst}
use mathlib.Core.Logic.{◌≢◌, ◌⊎◌}
use mathlib.Core.Bool.{true≢false}
use mathlib.Core.List.{List}
use Prim.Native.Nat.{ℕ, suc, ◌+◌, ◌-◌, ◌≤◌, ◌<◌}
use native.Mathlib.Decide.{ℕ_discrete, dec_lt}
use native.Mathlib.Omega.{arith}
use lib.Dec.{eqb}
use lib.ListN.{length}
use borrow.Author.Tests.{eq-eqb, ne_eqb}
use Rattle.basics.specs.Pick.{pick}
use Rattle.ids.specs.Ids.{invalid, empty, generation_of}
use Rattle.nodes.specs.Tally.{Live, occ, tally}
use Rattle.nodes.specs.Words.{own, value, holds, places, mark, slot, word_of}
use Rattle.nodes.proofs.Access.{put_keeps, put_less, put_slot}
use Rattle.nodes.proofs.Counts.{live_same, live_inj, live_nonzero, floor_pos}
use Rattle.nodes.proofs.Sums.{cases, split}
use Rattle.arena.specs.Calls.{Out, said, held_at, empties, leaf_made, intern_leaf_of, leaf_slot, less_of, takes, release_of, hold_of, fresh_of, unheld, each, placed_kid, placed, branch_anew, branch_made, branch_slot, intern_branch_of, fit_of, live_of, counts_of}
use Rattle.arena.specs.Node.{value_for}
use Rattle.arena.specs.Tables.{live_in, Tables, tables_of, cap, W, WellFormed, Sized}
use Rattle.arena.proofs.Branches.{alive, affords, Placing, placing, unheld_eased}
use Rattle.arena.proofs.Fits.{live_is, room_yes, sized_fits}
use Rattle.arena.proofs.Fresh.{Fresh, fresh_gens, leaf_new, branch_new, value_same}
use Rattle.arena.proofs.Inv.{wf_inv}
use Rattle.arena.proofs.Releasing.{Released, release_released}
use Rattle.arena.proofs.Rows.{empties_length}
use Rattle.ledger.specs.Ledger.{on, if_accepted, holds_on, Balanced}
use Rattle.ledger.specs.Fates.{Lives, SameNode, Grew, HasContent}
use Rattle.ledger.proofs.Effects.{live_true, by_life, holds_live, holds_dead, on_zero, on_same, on_diff, accepted, unaccepted, counted_holds, was_live}
use Rattle.ledger.proofs.Found.{leaf_found_lem, branch_found, slot_own}
use Rattle.ledger.proofs.Ladders.{Fine, branch_held, leaf_made_no, branch_made_no, leaf_ways, branch_ways, hold_ways, release_ways}
use Rattle.ledger.proofs.Writes.{held_cap, held_grew, held_balance, unheld_holds, new_grew, new_only, new_has, new_gens, new_balance}

-- ---- what each call grants and takes

-- interning grants one hold on its answer, a hold one on the id; a branch takes one for each child place that isn't EMPTY, and a release one
abbrev pub LeafBalance : Tables → Out → Type 0
LeafBalance t o = Balanced t o.after (λ y. if_accepted o (on y o.id)) (λ y. 0)

abbrev pub BranchBalance : List ℕ → Tables → Out → Type 0
BranchBalance ks t o = Balanced t o.after (λ y. if_accepted o (on y o.id)) (λ y. if_accepted o (pick (eqb y 0) 0 (occ y ks)))

abbrev pub HoldBalance : ℕ → Tables → Out → Type 0
HoldBalance id t o = Balanced t o.after (λ y. if_accepted o (on y id)) (λ y. 0)

abbrev pub ReleaseBalance : ℕ → Tables → Out → Type 0
ReleaseBalance id t o = Balanced t o.after (λ y. 0) (λ y. if_accepted o (on y id))

-- ---- a refusal, and EMPTY

no_effect : (t : Tables) (g k : ℕ → ℕ) → ((y : ℕ) → g y ≡ 0) → ((y : ℕ) → k y ≡ 0) → Balanced t t g k
no_effect t g k eg ek y = omega (arith, eg y, ek y)

-- ---- hold

hold_nothing : (t : Tables) (id k : ℕ) → ((y : ℕ) → if_accepted (said k empty t) (on y id) ≡ 0) → HoldBalance id t (said k empty t)
hold_nothing t id k z = no_effect t (λ y. if_accepted (said k empty t) (on y id)) (λ y. 0) z (λ y. refl)

node_held : {t : Tables} (id : ℕ) → Sized t → Lives t id → HoldBalance id t (said 0 empty (held_at t (slot id)))
node_held {t} id z v y = omega (arith, accepted (said 0 empty (held_at t (slot id))) (on y id) refl, held_balance (slot id) id z v refl y)

pub hold_balanced : {n tallest : ℕ} {t : Tables} → WellFormed n tallest t → (id : ℕ) → HoldBalance id t (hold_of t id)
hold_balanced {t = t} w id =
    hold_ways (HoldBalance id t) t id (λ k d. hold_nothing t id k (λ y. unaccepted (said k empty t) (on y id) d))
    (λ z. hold_nothing t id 0 (λ y. accepted (said 0 empty t) (on y id) refl ∙ on_zero y id z)) (λ z l. node_held id w.sized (live_is t id l))

-- ---- intern leaf

-- the leaf that is there, held
there_held : {t : Tables} (s id : ℕ) → Sized t → Lives t id → slot id ≡ s → LeafBalance t (said 0 id (held_at t s))
there_held {t} s id z l e y = omega (arith, accepted (said 0 id (held_at t s)) (on y id) refl, held_balance s id z l e y)

module _ {n tallest : ℕ} {t : Tables} (m : n ≤ 8) (w : WellFormed n tallest t) (room : live_in t.arena + 1 < cap t) where
  pub leaf_one : (v : ℕ) → Fresh t (leaf_made t v).after (leaf_made t v).id empties v 1 0
  unfolding leaf_made
  leaf_one v = leaf_new (wf_inv m w) room v 1 0

  pub leaf_grew : (v : ℕ) → Grew t (leaf_made t v).after
  leaf_grew v = new_grew t t (leaf_made t v).id empties v empties_length refl (λ b f l. refl) (leaf_one v)

  leaf_balance : (v y : ℕ) → holds_on (leaf_made t v).after y + 0 ≡ holds_on t y + on y (leaf_made t v).id
  leaf_balance v y = new_balance t t (leaf_made t v).id empties v empties_length refl (λ b f l. refl) (leaf_one v) y 0 (λ l. omega arith) (λ d. refl)

  -- the only new one; its content; and it was not there before
  pub leaf_adds : (v y : ℕ) → Lives (leaf_made t v).after y → (y ≡ (leaf_made t v).id) ⊎ Lives t y
  leaf_adds v = new_only t t (leaf_made t v).id empties v empties_length refl (λ b f l. refl) (leaf_one v)

  pub leaf_has : (v : ℕ) → HasContent (leaf_made t v).after (leaf_made t v).id empties v × (Lives t (leaf_made t v).id → ⊥)
  leaf_has v = new_has t t (leaf_made t v).id empties v empties_length refl (λ b f l. refl) (leaf_one v)

  pub leaf_gens : (v b : ℕ) → generation_of (W (leaf_made t v).after b own) ≡ generation_of (W t b own)
  leaf_gens v = fresh_gens (leaf_one v)

  leaf_made_lem : (v : ℕ) → LeafBalance t (leaf_made t v)
  leaf_made_lem v y = omega (arith, accepted (leaf_made t v) (on y (leaf_made t v).id) (leaf_made_no t v), leaf_balance v y)

leaf_nothing : (t : Tables) (k : ℕ) → k ≢ 0 → LeafBalance t (said k invalid t)
leaf_nothing t k d =
    no_effect t (λ y. if_accepted (said k invalid t) (on y invalid)) (λ y. 0) (λ y. unaccepted (said k invalid t) (on y invalid) d) (λ y. refl)

pub leaf_balanced : {n tallest : ℕ} {t : Tables} → n ≤ 8 → WellFormed n tallest t → (v : ℕ) → LeafBalance t (intern_leaf_of t v)
leaf_balanced {t = t} m w v =
    leaf_ways (LeafBalance t) t v (leaf_nothing t) (λ s r. leaf_made_lem m w (room_yes t.arena r) v)
    (λ s.
    let h = leaf_found_lem m w v s in
    there_held (leaf_slot t v) (W t (leaf_slot t v) own) w.sized h.1.live (slot_own m w (leaf_slot t v) h.0))

-- ---- intern branch

module _ {n tallest : ℕ} {t : Tables} (m : n ≤ 8) (w : WellFormed n tallest t) (ks : List ℕ) (e : length ks ≡ 8) (fine : Fine n tallest t ks) where
  pub kid_lives : (y : ℕ) → y ≢ 0 → 1 ≤ occ y ks → Lives t y
  kid_lives y d o = live_is t y (alive t ks fine.live y d o)

  -- the holds on y that the call takes
  abbrev used : ℕ → ℕ
  used y = pick (eqb y 0) 0 (occ y ks)

  used_live : (y : ℕ) → Lives t y → used y ≡ occ y ks
  used_live y v = rw (ne_eqb y 0 (live_nonzero v))

  used_dead : (y : ℕ) → (Lives t y → ⊥) → used y ≡ 0
  used_dead y d = cases (ℕ_discrete y 0)
      (λ z. rw (eq-eqb y 0 z))
      (λ z. rw (ne_eqb y 0 z) (cases (dec_lt 0 (occ y ks)) (λ o. absurd (d (kid_lives y z o))) (λ o. omega arith)))

  kid_held : (y : ℕ) → Lives t y → occ y ks ≤ W t (slot y) holds
  kid_held y v = cases (dec_lt 0 (occ y ks)) (λ o. affords (W t) ks fine.held y (live_nonzero v) o) (λ o. omega arith)

  apart : (y : ℕ) → Lives t y → (k : ℕ) → k ≢ 0 → 1 ≤ occ k ks → slot y ≡ slot k → y ≡ k
  apart y v k z o q = live_inj v (kid_lives k z o) q

  -- on a hit those holds just end
  pub eased_word : (b f : ℕ) → f < holds → word_of (unheld t.nodes ks) b f ≡ W t b f
  eased_word b f l = (unheld_eased ks t.nodes).words b f (omega arith) (omega arith) (omega arith)

  eased_balance : (y : ℕ) → holds_on (tables_of t.arena (unheld t.nodes ks) t.find) y + used y ≡ holds_on t y + 0
  eased_balance y =
      counted_holds t (tables_of t.arena (unheld t.nodes ks) t.find) refl y 0 (used y) (eased_word (slot y) own (omega arith))
      (λ v. let h = kid_held y v in omega (arith, used_live y v, unheld_holds y (live_nonzero v) ks t.nodes (apart y v)))
      (used_dead y)

  pub eased_grew : Grew t (tables_of t.arena (unheld t.nodes ks) t.find)
  eased_grew = record {
    size = refl;
    stays = λ y v. (live_same (cap t) (W t) (word_of (unheld t.nodes ks)) y (eased_word (slot y) own (omega arith)) v, (λ f l. eased_word (slot y) f l));
  }

  eased_sized : Sized (tables_of t.arena (unheld t.nodes ks) t.find)
  eased_sized =
      let z = (unheld_eased ks t.nodes).size in
      record { least = w.sized.least; most = w.sized.most; kids = z.kids ∙ w.sized.kids; facts = z.facts ∙ w.sized.facts; cells = w.sized.cells }

  abbrev spotted : ℕ
  spotted = branch_slot t ks

  pub branch_held_grew : Grew t (branch_held t ks).after
  branch_held_grew =
      let u = tables_of t.arena (unheld t.nodes ks) t.find in
      let g = held_grew u spotted in
      record {
        size = held_cap u spotted;
        stays = λ y v.
            let p = eased_grew.stays y v in
            let q = g.stays y p.0 in
            (q.0, (λ f l. q.1 f l ∙ p.1 f l));
      }

  branch_held_lem : branch_slot t ks ≢ 0 → BranchBalance ks t (branch_held t ks)
  branch_held_lem d =
      let h = branch_found m w ks e fine.some d in
      let u = tables_of t.arena (unheld t.nodes ks) t.find in
      let id = W t spotted own in
      λ y.
      omega (
        arith,
        accepted (branch_held t ks) (on y id) refl,
        accepted (branch_held t ks) (used y) refl,
        held_balance spotted id eased_sized (eased_grew.stays id h.1.live).0 (slot_own m w spotted h.0) y,
        eased_balance y,
      )

  -- on a fresh node they become places
  pub placings : Placing t.arena t.nodes t.find ks
  placings = placing t.arena t.find ks t.nodes (omega arith) (wf_inv m w) kid_lives

  abbrev put : Tables
  put = tables_of t.arena (placed t.nodes ks) t.find

  placed_word : (b f : ℕ) → f < holds → W put b f ≡ W t b f
  placed_word b f l = placings.eased.words b f (omega arith) (omega arith) (omega arith)

  module _ (room : live_in t.arena + 1 < cap t) where
    pub branch_one : Fresh put (branch_made n t ks).after (branch_made n t ks).id ks (value_for n (W t) ks) 1 0
    unfolding branch_made
    branch_one =
        subst (λ (v : ℕ). Fresh put (branch_anew n put ks 1 0).after (branch_anew n put ks 1 0).id ks v 1 0)
        (value_same n (W t) (W put) ks (λ b. placed_word b value (omega arith))) (branch_new n ks e fine.some placings.inv room 1 0)

    pub branch_grew : Grew t (branch_made n t ks).after
    branch_grew = new_grew t put (branch_made n t ks).id ks (value_for n (W t) ks) e refl placed_word branch_one

    branch_balance : (y : ℕ) → holds_on (branch_made n t ks).after y + used y ≡ holds_on t y + on y (branch_made n t ks).id
    branch_balance y =
        new_balance t put (branch_made n t ks).id ks (value_for n (W t) ks) e refl placed_word branch_one y (used y)
        (λ v. let h = kid_held y v in omega (arith, used_live y v, placings.held (slot y), unheld_holds y (live_nonzero v) ks (each placed_kid t.nodes ks) (apart y v)))
        (used_dead y)

    pub branch_adds : (y : ℕ) → Lives (branch_made n t ks).after y → (y ≡ (branch_made n t ks).id) ⊎ Lives t y
    branch_adds = new_only t put (branch_made n t ks).id ks (value_for n (W t) ks) e refl placed_word branch_one

    pub branch_has : HasContent (branch_made n t ks).after (branch_made n t ks).id ks (value_for n (W t) ks) × (Lives t (branch_made n t ks).id → ⊥)
    branch_has = new_has t put (branch_made n t ks).id ks (value_for n (W t) ks) e refl placed_word branch_one

    pub branch_gens : (b : ℕ) → generation_of (W (branch_made n t ks).after b own) ≡ generation_of (W t b own)
    branch_gens = new_gens t put (branch_made n t ks).id ks (value_for n (W t) ks) e refl placed_word branch_one

    branch_made_lem : BranchBalance ks t (branch_made n t ks)
    branch_made_lem y =
        omega (
          arith,
          accepted (branch_made n t ks) (on y (branch_made n t ks).id) (branch_made_no n t ks),
          accepted (branch_made n t ks) (used y) (branch_made_no n t ks),
          branch_balance y,
        )

branch_nothing : (t : Tables) (ks : List ℕ) (k : ℕ) → k ≢ 0 → BranchBalance ks t (said k invalid t)
branch_nothing t ks k d =
    no_effect t (λ y. if_accepted (said k invalid t) (on y invalid)) (λ y. if_accepted (said k invalid t) (pick (eqb y 0) 0 (occ y ks)))
    (λ y. unaccepted (said k invalid t) (on y invalid) d) (λ y. unaccepted (said k invalid t) (pick (eqb y 0) 0 (occ y ks)) d)

pub branch_balanced : {n tallest : ℕ} {t : Tables} → n ≤ 8 → WellFormed n tallest t → (ks : List ℕ) → length ks ≡ 8 → BranchBalance ks t (intern_branch_of n tallest t ks)
branch_balanced {n} {tallest} {t} m w ks e8 =
    branch_ways (BranchBalance ks t) n tallest t ks (branch_nothing t ks) (λ f s r. branch_made_lem m w ks e8 f (room_yes t.arena r))
    (branch_held_lem m w ks e8)

-- ---- release

less_word : (t : Tables) (id b f : ℕ) → f ≢ holds → W (less_of holds t id) b f ≡ W t b f
unfolding less_of
less_word t id b f d = put_keeps t.nodes (slot id) holds (W t (slot id) holds - 1) b f d

less_here : (t : Tables) (id : ℕ) → W (less_of holds t id) (slot id) holds ≡ W t (slot id) holds - 1
unfolding less_of
less_here t id = put_less t.nodes (slot id) holds (omega arith) (omega arith)

less_there : (t : Tables) (id b : ℕ) → b ≢ slot id → W (less_of holds t id) b holds ≡ W t b holds
unfolding less_of
less_there t id b d = put_slot t.nodes (slot id) holds (W t (slot id) holds - 1) b holds d

release_nothing : (t : Tables) (id k : ℕ) → ((y : ℕ) → if_accepted (said k empty t) (on y id) ≡ 0) → ReleaseBalance id t (said k empty t)
release_nothing t id k z = no_effect t (λ y. 0) (λ y. if_accepted (said k empty t) (on y id)) (λ y. refl) z

module _ {n tallest : ℕ} {t u : Tables} (id : ℕ) (r : Released n tallest t id u) (v : Lives t id) (held : W t (slot id) holds ≢ 0) where
  -- the hold given back, as many are left
  pub less_on : (y : ℕ) → Lives t y → W (less_of holds t id) (slot y) holds + on y id ≡ W t (slot y) holds
  less_on y l = cases (ℕ_discrete (slot y) (slot id))
      (λ q.
      let e : y ≡ id = live_inj l v q in
      let h : W (less_of holds t id) (slot y) holds ≡ W t (slot y) holds - 1 = subst (λ (x : ℕ). W (less_of holds t id) x holds ≡ W t x holds - 1) (sym q) (less_here t id) in
      let p : W t (slot y) holds ≢ 0 = subst (λ (x : ℕ). W t x holds ≢ 0) (sym q) held in
      omega (arith, on_same y id (live_nonzero v) e))
      (λ q. omega (arith, less_there t id (slot y) q, on_diff y id (λ e. q (ap slot e))))

  abbrev Still : ℕ → Type 0
  Still y = Live (cap t) (W u) y

  to_still : (y : ℕ) → Lives u y → Still y
  to_still y l = subst (λ (c : ℕ). Live c (W u) y) r.size l

  of_still : (y : ℕ) → Still y → Lives u y
  of_still y l = subst (λ (c : ℕ). Live c (W u) y) (sym r.size) l

  -- what lives after lived before, and keeps all but its counts
  pub released_word : (y : ℕ) → Lives u y → (f : ℕ) → f ≤ mark → f ≢ places → W u (slot y) f ≡ W (less_of holds t id) (slot y) f
  released_word y l f a b =
      let s = to_still y l in
      let i = s.is in
      let h = s.high in
      r.frame.kept (slot y) s.low (omega arith) f a b

  pub released_kept : (y : ℕ) → Lives u y → SameNode t u y
  released_kept y l f k = released_word y l f (omega arith) (omega arith) ∙ less_word t id (slot y) f (omega arith)

  pub released_old : (y : ℕ) → Lives u y → Lives t y
  released_old y l = was_live t u r.size y (released_kept y l own (omega arith)) l

  -- a node that nobody gave back lives on while it is held
  released_held : (y : ℕ) → Lives t y → 1 ≤ W (less_of holds t id) (slot y) holds → Lives u y
  released_held y l h =
      let a = less_word t id (slot y) own (omega arith) in
      let i = l.is in
      let g = l.high in
      let k = r.frame.held (slot y) l.low (omega arith) h in
      let s = r.size in
      let j = l.low in
      record { low = omega arith; is = r.frame.kept (slot y) l.low k own (omega arith) (omega arith) ∙ a ∙ i; high = g }

  released_balance : (y : ℕ) → holds_on u y + on y id ≡ holds_on t y
  released_balance y = by_life t y
      (λ l. by_life u y
      (λ s. omega (arith, holds_live t y l, holds_live u y s, less_on y l, released_word y s holds (omega arith) (omega arith)))
      (λ d. cases (dec_lt 0 (W (less_of holds t id) (slot y) holds))
      (λ h. absurd (d (released_held y l h)))
      (λ h. omega (arith, holds_live t y l, holds_dead u y d, less_on y l))))
      (λ d. omega (arith, holds_dead t y d, holds_dead u y (λ l. d (released_old y l)), on_diff y id (λ e. d (subst (λ (x : ℕ). Lives t x) (sym e) v))))

  node_released : ReleaseBalance id t (said 0 empty u)
  node_released y = omega (arith, accepted (said 0 empty u) (on y id) refl, released_balance y)

pub release_balanced : {n tallest : ℕ} {t : Tables} → n ≤ 8 → WellFormed n tallest t → (id : ℕ) → ReleaseBalance id t (release_of tallest t id)
release_balanced {n} {tallest} {t} m w id =
    release_ways tallest t id
    (λ f e. to e (release_nothing t id 1 (λ y. unaccepted (said 1 empty t) (on y id) (omega arith))))
    (λ f z e. to e (release_nothing t id 0 (λ y. accepted (said 0 empty t) (on y id) refl ∙ on_zero y id z)))
    (λ f z l e. to e (release_nothing t id 4 (λ y. unaccepted (said 4 empty t) (on y id) (omega arith))))
    (λ f z l r e. to e (release_nothing t id 5 (λ y. unaccepted (said 5 empty t) (on y id) (omega arith))))
    (λ f z l r k e.
    let d : Released n tallest t id (takes (suc tallest) holds t id) = subst (λ (o : Out). Released n tallest t id o.after) e (release_released id m w k z) in
    to e (node_released id d (live_is t id l) r))
  where
    to : {o : Out} → release_of tallest t id ≡ o → ReleaseBalance id t o → ReleaseBalance id t (release_of tallest t id)
    to e x = subst (λ (o : Out). ReleaseBalance id t o) (sym e) x

-- ---- what a call of counts says

-- The holds that counts answers are the holds on that id: of a live node, and 0 of EMPTY or where it refuses.
pub counts_holds : {t : Tables} (y : ℕ) → Sized t → (counts_of t y).holds ≡ holds_on t y
unfolding counts_of
counts_holds {t} y z =
    let f = sized_fits z in
    cases (ℕ_discrete y 0)
    (λ e. rw (f, eq-eqb y 0 e) (sym (holds_dead t y (λ v. live_nonzero v e))))
    (λ e. split (live_of (cap t) (W t) y)
    (λ l. rw (f, ne_eqb y 0 e, l) (sym (holds_live t y (live_is t y l))))
    (λ l. rw (f, ne_eqb y 0 e, l) (sym (holds_dead t y (λ v. true≢false (sym (live_true t y v) ∙ l))))))

-- The places that counts answers of a live node are the true tally of the child places that name it.
pub counts_places : {n tallest : ℕ} {t : Tables} → WellFormed n tallest t → (y : ℕ) → Lives t y → (counts_of t y).places ≡ tally 8 (cap t) (W t) y
unfolding counts_of
counts_places {t = t} w y v =
    let i = v.is in
    let h = v.high in
    rw (sized_fits w.sized, ne_eqb y 0 (live_nonzero v), live_true t y v) (w.tallied (slot y) (v.low, omega arith) ∙ ap (tally 8 (cap t) (W t)) i)

-- ---- a fresh arena has no node

pub fresh_next : (c : ℕ) (k f e : List ℕ) → (fresh_of c k f e).after.arena.next ≡ 1
unfolding fresh_of
fresh_next c k f e = split (fit_of c (length k) (length f) (length e)) (λ r. rw r) (λ r. rw r)

pub fresh_bare : {n tallest : ℕ} (c : ℕ) (k f e : List ℕ) → WellFormed n tallest (fresh_of c k f e).after → (y : ℕ) → Lives (fresh_of c k f e).after y → ⊥
fresh_bare c k f e w y v =
    let u = (fresh_of c k f e).after in
    let o : W u (slot y) own ≡ 0 = cases (ℕ_discrete (slot y) 0)
    (λ q. ap (λ (b : ℕ). W u b own) q ∙ w.stack.ground)
    (λ q. w.stack.unused (slot y) (let x = fresh_next c k f e in omega arith) v.low) in
    let i = v.is in
    let h = v.high in
    let p = floor_pos in
    omega arith
