-- The ways that each call can end: its tests one after the other, and the outcome at the end of each way.
use mathlib.Core.Path.{◌≡◌, refl, sym, ap, ◌∙◌}
use mathlib.Core.Logic.{◌≢◌}
use mathlib.Core.Bool.{true, false}
use mathlib.Core.List.{List}
use Prim.Native.Nat.{ℕ, suc, ◌≤◌}
use native.Mathlib.Decide.{ℕ_discrete}
use native.Mathlib.Omega.{arith}
use lib.Dec.{leb}
use lib.ListN.{length}
use borrow.Author.Tests.{eq-eqb, ne_eqb, leb-true}
use Rattle.nodes.specs.Words.{own, holds, slot}
use Rattle.nodes.proofs.Sums.{cases, split}
use Rattle.arena.specs.Calls.{Out, said, did, refused, fits, fit_of, live_of, full_of, room_of, held_at, fresh_node, leaf_anew, branch_anew, leaf_slot, intern_leaf_no, leaf_made, intern_leaf_of, takes, release_no, release_of, hold_no, hold_of, fresh, fresh_of, all_live, enough, none_of, branch_slot, intern_branch_no, unheld, branch_made, intern_branch_of}
use Rattle.arena.specs.Node.{height_for}
use Rattle.arena.specs.Tables.{Tables, tables, tables_of, cap, W}

-- a node made is an acceptance
pub leaf_made_no : (t : Tables) (v : ℕ) → (leaf_made t v).no ≡ 0
unfolding leaf_made leaf_anew fresh_node
leaf_made_no t v = refl

pub branch_made_no : (n : ℕ) (t : Tables) (ks : List ℕ) → (branch_made n t ks).no ≡ 0
unfolding branch_made branch_anew fresh_node
branch_made_no n t ks = refl

-- ---- the ways

-- P of what a call answers and leaves: of each refusal, and of each way to be accepted
pub leaf_ways : (P : Out → Type 0) (t : Tables) (v : ℕ) → ((k : ℕ) → k ≢ 0 → P (refused k t))
    → (leaf_slot t v ≡ 0 → room_of t.arena ≡ true → P (leaf_made t v))
    → (leaf_slot t v ≢ 0 → P (said 0 (W t (leaf_slot t v) own) (held_at t (leaf_slot t v)))) → P (intern_leaf_of t v)
unfolding intern_leaf_of intern_leaf_no
leaf_ways P t v refusal made held =
    split (fits t)
    (λ f. cases (ℕ_discrete v 0)
    (λ z. rw (f, eq-eqb v 0 z) (refusal 6 (omega arith)))
    (λ z. cases (ℕ_discrete (leaf_slot t v) 0)
    (λ s. split (room_of t.arena)
    (λ r. rw (f, ne_eqb v 0 z, eq-eqb (leaf_slot t v) 0 s, r) (made s r))
    (λ r. rw (f, ne_eqb v 0 z, eq-eqb (leaf_slot t v) 0 s, r) (refusal 11 (omega arith))))
    (λ s. split (full_of (W t) (leaf_slot t v))
    (λ r. rw (f, ne_eqb v 0 z, ne_eqb (leaf_slot t v) 0 s, r) (refusal 10 (omega arith)))
    (λ r. rw (f, ne_eqb v 0 z, ne_eqb (leaf_slot t v) 0 s, r) (held s)))))
    (λ f. rw f (refusal 1 (omega arith)))

-- what refusals 1, 4, 5, 7 and 8 leave of a list of children
pub record Fine (n tallest : ℕ) (t : Tables) (ks : List ℕ) : Type 0 where
  pub fit : fits t ≡ true
  pub live : all_live (cap t) (W t) ks ≡ true
  pub held : enough (W t) ks ≡ true
  pub some : none_of ks ≡ false
  pub low : height_for n (W t) ks ≤ tallest

-- the branch that is there, once the holds have ended
abbrev pub branch_held : Tables → List ℕ → Out
branch_held t ks = said 0 (W t (branch_slot t ks) own) (held_at (tables_of t.arena (unheld t.nodes ks) t.find) (branch_slot t ks))

pub branch_ways : (P : Out → Type 0) (n tallest : ℕ) (t : Tables) (ks : List ℕ) → ((k : ℕ) → k ≢ 0 → P (refused k t))
    → (Fine n tallest t ks → branch_slot t ks ≡ 0 → room_of t.arena ≡ true → P (branch_made n t ks))
    → (Fine n tallest t ks → branch_slot t ks ≢ 0 → P (branch_held t ks)) → P (intern_branch_of n tallest t ks)
unfolding intern_branch_of intern_branch_no
branch_ways P n tallest t ks refusal made held =
    split (fits t)
    (λ f. split (all_live (cap t) (W t) ks)
    (λ a. split (enough (W t) ks)
    (λ b. split (none_of ks)
    (λ c. rw (f, a, b, c) (refusal 7 (omega arith)))
    (λ c. split (leb (height_for n (W t) ks) tallest)
    (λ h.
    let fine : Fine n tallest t ks = record { fit = f; live = a; held = b; some = c; low = leb-true (height_for n (W t) ks) tallest h } in
    cases (ℕ_discrete (branch_slot t ks) 0)
    (λ s. split (room_of t.arena)
    (λ r. rw (f, a, b, c, h, eq-eqb (branch_slot t ks) 0 s, r) (made fine s r))
    (λ r. rw (f, a, b, c, h, eq-eqb (branch_slot t ks) 0 s, r) (refusal 11 (omega arith))))
    (λ s. split (full_of (W t) (branch_slot t ks))
    (λ r. rw (f, a, b, c, h, ne_eqb (branch_slot t ks) 0 s, r) (refusal 10 (omega arith)))
    (λ r. rw (f, a, b, c, h, ne_eqb (branch_slot t ks) 0 s, r) (held fine s))))
    (λ h. rw (f, a, b, c, h) (refusal 8 (omega arith)))))
    (λ b. rw (f, a, b) (refusal 5 (omega arith))))
    (λ a. rw (f, a) (refusal 4 (omega arith))))
    (λ f. rw f (refusal 1 (omega arith)))

pub hold_ways : (P : Out → Type 0) (t : Tables) (id : ℕ) → ((k : ℕ) → k ≢ 0 → P (did k t)) → (id ≡ 0 → P (did 0 t))
    → (id ≢ 0 → live_of (cap t) (W t) id ≡ true → P (did 0 (held_at t (slot id)))) → P (hold_of t id)
unfolding hold_of hold_no
hold_ways P t id refusal none held =
    split (fits t)
    (λ f. cases (ℕ_discrete id 0)
    (λ z. rw (f, eq-eqb id 0 z) (none z))
    (λ z. split (live_of (cap t) (W t) id)
    (λ l. split (full_of (W t) (slot id))
    (λ r. rw (f, ne_eqb id 0 z, l, r) (refusal 10 (omega arith)))
    (λ r. rw (f, ne_eqb id 0 z, l, r) (held z l)))
    (λ l. rw (f, ne_eqb id 0 z, l) (refusal 4 (omega arith)))))
    (λ f. rw f (refusal 1 (omega arith)))

takes_none : (k f : ℕ) (t : Tables) (id : ℕ) → id ≡ 0 → takes (suc k) f t id ≡ t
unfolding takes
takes_none k f t id e = rw (eq-eqb id 0 e)

pub release_ways : {A : Type 0} (tallest : ℕ) (t : Tables) (id : ℕ)
    → (fits t ≡ false → release_of tallest t id ≡ did 1 t → A)
    → (fits t ≡ true → id ≡ 0 → release_of tallest t id ≡ did 0 t → A)
    → (fits t ≡ true → id ≢ 0 → live_of (cap t) (W t) id ≡ false → release_of tallest t id ≡ did 4 t → A)
    → (fits t ≡ true → id ≢ 0 → live_of (cap t) (W t) id ≡ true → W t (slot id) holds ≡ 0 → release_of tallest t id ≡ did 5 t → A)
    → (fits t ≡ true → id ≢ 0 → live_of (cap t) (W t) id ≡ true → W t (slot id) holds ≢ 0 → release_no t id ≡ 0 → release_of tallest t id ≡ did 0 (takes (suc tallest) holds t id) → A) → A
unfolding release_of release_no
release_ways tallest t id unsized none dead unheld done =
    split (fits t)
    (λ f. cases (ℕ_discrete id 0)
    (λ z. none f z (rw (f, eq-eqb id 0 z) (ap (did 0) (takes_none tallest holds t id z))))
    (λ z. split (live_of (cap t) (W t) id)
    (λ l. cases (ℕ_discrete (W t (slot id) holds) 0)
    (λ r. unheld f z l r (rw (f, ne_eqb id 0 z, l, eq-eqb (W t (slot id) holds) 0 r)))
    (λ r. done f z l r (rw (f, ne_eqb id 0 z, l, ne_eqb (W t (slot id) holds) 0 r)) (rw (f, ne_eqb id 0 z, l, ne_eqb (W t (slot id) holds) 0 r))))
    (λ l. dead f z l (rw (f, ne_eqb id 0 z, l)))))
    (λ f. unsized f (rw f))

pub fresh_ways : {A : Type 0} (c : ℕ) (k f e : List ℕ)
    → (fit_of c (length k) (length f) (length e) ≡ true → (fresh_of c k f e).no ≡ 0 → A)
    → (fit_of c (length k) (length f) (length e) ≡ false → fresh_of c k f e ≡ did 1 (tables (fresh c) k f e) → A) → A
unfolding fresh_of
fresh_ways c k f e good bad = split (fit_of c (length k) (length f) (length e)) (λ r. good r (rw r)) (λ r. bad r (rw r))

-- ---- the number that a call answers is the one that its ladder of tests gives

pub leaf_no : (t : Tables) (v : ℕ) → (intern_leaf_of t v).no ≡ intern_leaf_no t v
unfolding intern_leaf_of
leaf_no t v = cases (ℕ_discrete (intern_leaf_no t v) 0)
    (λ z. cases (ℕ_discrete (leaf_slot t v) 0)
    (λ s. rw (eq-eqb (intern_leaf_no t v) 0 z, eq-eqb (leaf_slot t v) 0 s) (leaf_made_no t v ∙ sym z))
    (λ s. rw (eq-eqb (intern_leaf_no t v) 0 z, ne_eqb (leaf_slot t v) 0 s) (sym z)))
    (λ z. rw (ne_eqb (intern_leaf_no t v) 0 z))

pub branch_no : (n tallest : ℕ) (t : Tables) (ks : List ℕ) → (intern_branch_of n tallest t ks).no ≡ intern_branch_no n tallest t ks
unfolding intern_branch_of
branch_no n tallest t ks = cases (ℕ_discrete (intern_branch_no n tallest t ks) 0)
    (λ z. cases (ℕ_discrete (branch_slot t ks) 0)
    (λ s. rw (eq-eqb (intern_branch_no n tallest t ks) 0 z, eq-eqb (branch_slot t ks) 0 s) (branch_made_no n t ks ∙ sym z))
    (λ s. rw (eq-eqb (intern_branch_no n tallest t ks) 0 z, ne_eqb (branch_slot t ks) 0 s) (sym z)))
    (λ z. rw (ne_eqb (intern_branch_no n tallest t ks) 0 z))

pub hold_no_lem : (t : Tables) (id : ℕ) → (hold_of t id).no ≡ hold_no t id
unfolding hold_of
hold_no_lem t id = cases (ℕ_discrete (hold_no t id) 0) (λ z. rw (eq-eqb (hold_no t id) 0 z) (sym z)) (λ z. rw (ne_eqb (hold_no t id) 0 z))

pub release_no_lem : (tallest : ℕ) (t : Tables) (id : ℕ) → (release_of tallest t id).no ≡ release_no t id
unfolding release_of
release_no_lem tallest t id = cases (ℕ_discrete (release_no t id) 0) (λ z. rw (eq-eqb (release_no t id) 0 z) (sym z)) (λ z. rw (ne_eqb (release_no t id) 0 z))
