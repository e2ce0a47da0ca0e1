-- What a bar does, as any call: one hold granted on its answer if it is accepted, none taken, and slots recycled by the releases of the passing roots.
use mathlib.Core.Path.{◌≡◌, refl, sym, ap, ◌∙◌, subst}
use mathlib.Core.Logic.{◌≢◌, inl, inr}
use Prim.Native.Nat.{ℕ, suc, ◌≤◌}
use native.Mathlib.Decide.{ℕ_discrete}
use native.Mathlib.Omega.{arith}
use Rattle.basics.specs.Limits.{deepest, cube_kids, kid_words, largest_value}
use Rattle.paths.specs.declared.IVec3.{IVec3}
use Rattle.paths.specs.Paths.{place}
use Rattle.nodes.proofs.Sums.{cases}
use Rattle.arena.specs.Calls.{Out, said, refused, Fair, fits, release_of}
use Rattle.arena.specs.Tables.{Tables, WellFormed}
use Rattle.ledger.specs.Ledger.{on, if_accepted, holds_on}
use Rattle.ledger.specs.Fates.{ended}
use Rattle.ledger.proofs.Effects.{on_zero, on_same, on_diff, accepted, unaccepted}
use Rattle.calls.specs.Does.{Does, Held}
use Rattle.calls.proofs.Arena.{release_does}
use Rattle.calls.proofs.Compose.{does_none, does_as, does_both, does_net}
use Rattle.calls.proofs.Living.{held_released}
use Rattle.calls.proofs.Once.{ended_small, grown_ends_none}
use Rattle.edit.specs.Edit.{edit_of}
use Rattle.edit.proofs.Does.{edit_grows, edit_does}
use Rattle.bars.specs.Bars.{pass_of, bar_of, pass_ends, bar_ends}
use Rattle.bars.proofs.Ways.{edit_at, passed, pass_all, ends_none, ends_on, ends_stop, bar_ends_on, bar_ends_stop, bar_by, bar_unsized}

fit : cube_kids ≤ kid_words
fit = omega arith

-- ## Holds

on_held : (t : Tables) (r : ℕ) → Held t r → (a : ℕ) → on a r ≤ holds_on t a
on_held t r (inl z) a = omega (arith, on_zero a r z)
on_held t r (inr k) a = cases (ℕ_discrete a r)
    (λ e.
    let l : 1 ≤ holds_on t a = subst (λ (b : ℕ). 1 ≤ holds_on t b) (sym e) k in
    cases (ℕ_discrete r 0) (λ z. omega (arith, on_zero a r z)) (λ z. omega (arith, on_same a r z e)))
    (λ e. omega (arith, on_diff a r e))

-- EMPTY, or a hold on r
pub held_one : (t : Tables) (r : ℕ) → on r r ≤ holds_on t r → Held t r
held_one t r h = cases (ℕ_discrete r 0) (λ z. inl z) (λ z. inr (omega (arith, on_same r r z refl)))

-- what was granted a hold is held
pub granted_held : {t u : Tables} {r : ℕ} {times : ℕ → ℕ} → Does cube_kids deepest t u (λ a. on a r) (λ a. 0) times → Held u r
granted_held {u = u} {r = r} d = held_one u r (omega (arith, d.balance r))

-- the release of a root that is held takes that hold
pub held_does : {t : Tables} → WellFormed cube_kids deepest t → (r : ℕ) → Held t r
    → Does cube_kids deepest t (release_of deepest t r).after (λ y. 0) (λ y. on y r) (λ s. ended t (release_of deepest t r).after s)
held_does {t} w r h =
    does_as cube_kids deepest fit (λ y. 0) (λ y. on y r) (λ s. ended t (release_of deepest t r).after s) (release_does fit w r)
    (λ y. refl) (λ y. accepted (release_of deepest t r) (on y r) (held_released fit w r h)) (λ s l. refl)

-- ## One edit

module _ {t : Tables} (w : WellFormed cube_kids deepest t) (root d : ℕ) (p : IVec3) (v : ℕ) (high : v ≤ largest_value) (ok : (edit_of t root d p v).no ≡ 0) where
  -- an accepted edit grants one hold and recycles no slot
  pub edit_grants : Does cube_kids deepest t (edit_of t root d p v).after (λ a. on a (edit_of t root d p v).id) (λ a. 0) (λ s. 0)
  edit_grants =
      let o = edit_of t root d p v in
      does_as cube_kids deepest fit (λ a. on a o.id) (λ a. 0) (λ s. 0) (edit_does w root d p v high)
      (λ a. accepted o (on a o.id) ok) (λ a. refl) (λ s l. grown_ends_none fit o.after w (edit_grows w root d p v high).1 s l)

  -- its answer is held
  pub edit_held : Held (edit_of t root d p v).after (edit_of t root d p v).id
  edit_held = granted_held edit_grants

  module _ (h : Held t root) where
    root_held : Held (edit_of t root d p v).after root
    root_held = held_one (edit_of t root d p v).after root (omega (arith, edit_grants.balance root, on_held t root h root))

    -- then the root is released: that is accepted, and takes its hold
    pub edit_passes : Does cube_kids deepest t (release_of deepest (edit_of t root d p v).after root).after (λ a. on a (edit_of t root d p v).id) (λ a. on a root)
        (λ s. ended (edit_of t root d p v).after (release_of deepest (edit_of t root d p v).after root).after s)
    edit_passes =
        let o = edit_of t root d p v in
        does_as cube_kids deepest fit (λ a. on a o.id) (λ a. on a root) (λ s. ended o.after (release_of deepest o.after root).after s)
        (does_both cube_kids deepest fit w edit_grants (held_does edit_grants.well root root_held))
        (λ a. omega arith) (λ a. omega arith) (λ s l. omega arith)

    pub passes_held : Held (release_of deepest (edit_of t root d p v).after root).after (edit_of t root d p v).id
    passes_held =
        let o = edit_of t root d p v in
        held_one (release_of deepest o.after root).after o.id (omega (arith, edit_passes.balance o.id, on_held t root h o.id))

-- before each edit: well formed, and someone holds the passing root
abbrev pub Ready : Tables → ℕ → Type 0
Ready u r = WellFormed cube_kids deepest u × Held u r

module _ (d y z v : ℕ) (high : v ≤ largest_value) where
  -- ## One cell

  module _ (u : Tables) (r x : ℕ) (w : WellFormed cube_kids deepest u) (ok : (edit_at d y z v u r x).no ≡ 0) where
    abbrev o : Out
    o = edit_at d y z v u r x

    pub edited : Does cube_kids deepest u o.after (λ a. on a o.id) (λ a. 0) (λ s. 0)
    edited = edit_grants w r d (place x y z) v high ok

    pub answer_held : Held o.after o.id
    answer_held = edit_held w r d (place x y z) v high ok

    module _ (h : Held u r) where
      pub still_held : Held o.after r
      still_held = root_held w r d (place x y z) v high ok h

      pub stepped : Does cube_kids deepest u (passed d y z v u r x) (λ a. on a o.id) (λ a. on a r) (λ s. ended o.after (passed d y z v u r x) s)
      stepped = edit_passes w r d (place x y z) v high ok h

      pub next_held : Held (passed d y z v u r x) o.id
      next_held = passes_held w r d (place x y z) v high ok h

  -- ## From a passing root on

  pub ready_first : (u : Tables) (r x : ℕ) → WellFormed cube_kids deepest u → (edit_at d y z v u r x).no ≡ 0 → Ready (edit_at d y z v u r x).after (edit_at d y z v u r x).id
  ready_first u r x w ok = ((edited u r x w ok).well, answer_held u r x w ok)

  pub ready_next : (u : Tables) (r x : ℕ) → Ready u r → (edit_at d y z v u r x).no ≡ 0 → Ready (passed d y z v u r x) (edit_at d y z v u r x).id
  ready_next u r x (w, h) ok = ((stepped u r x w ok h).well, next_held u r x w ok h)

  abbrev Passes : Tables → ℕ → ℕ → ℕ → Out → Type 0
  Passes u r x k i = Does cube_kids deepest u i.after (λ a. if_accepted i (on a i.id)) (λ a. on a r) (pass_ends d y z v u r x k)

  -- The rest of a bar takes the hold on the passing root, and grants one on its answer.
  pub pass_does : (k : ℕ) (u : Tables) (r x : ℕ) → Ready u r → Passes u r x k (pass_of d y z v u r x k)
  pass_does = pass_all d y z v (λ u r x k. Ready u r) Passes none (λ u r x k. ready_next u r x) more stop
    where
      none : (u : Tables) (r x : ℕ) → Ready u r → Passes u r x 0 (said 0 r u)
      none u r x (w, h) =
          let n = does_none cube_kids deepest fit u w in
          does_as cube_kids deepest fit (λ a. if_accepted (said 0 r u) (on a r)) (λ a. on a r) (pass_ends d y z v u r x 0)
          (record { well = w; size = refl; balance = λ a. refl; turns = n.turns; keeps = n.keeps; spares = λ a l. refl })
          (λ a. sym (accepted (said 0 r u) (on a r) refl)) (λ a. refl) (λ s l. sym (ends_none d y z v u r x s))

      more : (u : Tables) (r x k : ℕ) (i : Out) → Ready u r → (edit_at d y z v u r x).no ≡ 0 → Passes (passed d y z v u r x) (edit_at d y z v u r x).id (suc x) k i → Passes u r x (suc k) i
      more u r x k i (w, h) ok rest =
          let o = edit_at d y z v u r x in
          does_as cube_kids deepest fit (λ a. if_accepted i (on a i.id)) (λ a. on a r) (pass_ends d y z v u r x (suc k))
          (does_net cube_kids deepest fit (λ a. if_accepted i (on a i.id)) (λ a. on a r) (λ a. on a o.id) w (stepped u r x w ok h) rest
          (λ a. (omega arith, omega arith, omega arith, omega arith)))
          (λ a. refl) (λ a. refl) (λ s l. sym (ends_on d y z v u r x k s ok))

      stop : (u : Tables) (r x k : ℕ) → Ready u r → (edit_at d y z v u r x).no ≢ 0
          → Passes u r x (suc k) (refused (edit_at d y z v u r x).no (release_of deepest u r).after)
      stop u r x k (w, h) bad =
          let i = refused (edit_at d y z v u r x).no (release_of deepest u r).after in
          does_as cube_kids deepest fit (λ a. if_accepted i (on a i.id)) (λ a. on a r) (pass_ends d y z v u r x (suc k)) (held_does w r h)
          (λ a. sym (unaccepted i (on a i.id) bad)) (λ a. refl) (λ s l. sym (ends_stop d y z v u r x k s bad))

-- ## The whole bar

module _ {t : Tables} (w : WellFormed cube_kids deepest t) (root d y z x k v : ℕ) (high : v ≤ largest_value) where
  -- A bar grants one hold on its answer if it is accepted, and takes none.
  pub bar_does : Does cube_kids deepest t (bar_of t root d y z x k v).after (λ a. if_accepted (bar_of t root d y z x k v) (on a (bar_of t root d y z x k v).id)) (λ a. 0)
      (λ s. bar_ends t root d y z x k v s)
  bar_does = bar_by d y z v t root x k
      (λ i. Does cube_kids deepest t i.after (λ a. if_accepted i (on a i.id)) (λ a. 0) (λ s. bar_ends t root d y z x k v s))
      (λ ok.
      let o = edit_at d y z v t root x in
      let i = pass_of d y z v o.after o.id (suc x) k in
      let rest = pass_does d y z v high k o.after o.id (suc x) (ready_first d y z v high t root x w ok) in
      does_as cube_kids deepest fit (λ a. if_accepted i (on a i.id)) (λ a. 0) (λ s. bar_ends t root d y z x k v s)
      (does_net cube_kids deepest fit (λ a. if_accepted i (on a i.id)) (λ a. 0) (λ a. on a o.id) w (edited d y z v high t root x w ok) rest
      (λ a. (omega arith, omega arith, omega arith, omega arith)))
      (λ a. refl) (λ a. refl) (λ s l. omega (arith, bar_ends_on d y z v t root x k s ok)))
      (λ bad.
      let i = refused (edit_at d y z v t root x).no t in
      does_as cube_kids deepest fit (λ a. if_accepted i (on a i.id)) (λ a. 0) (λ s. bar_ends t root d y z x k v s) (does_none cube_kids deepest fit t w)
      (λ a. sym (unaccepted i (on a i.id) bad)) (λ a. refl) (λ s l. sym (bar_ends_stop d y z v t root x k s bad)))

pass_ends_few : (d y z v k : ℕ) (u : Tables) (r x s : ℕ) → pass_ends d y z v u r x k s ≤ k
pass_ends_few d y z v k u r x s =
    pass_all d y z v (λ u r x k. Unit) (λ u r x k o. pass_ends d y z v u r x k s ≤ k)
    (λ u r x i. omega (arith, ends_none d y z v u r x s)) (λ u r x k i e. tt)
    (λ u r x k o i e h. omega (arith, ends_on d y z v u r x k s e, ended_small (edit_at d y z v u r x).after (passed d y z v u r x) s))
    (λ u r x k i e. omega (arith, ends_stop d y z v u r x k s e, ended_small u (release_of deepest u r).after s)) k u r x tt

-- Each slot is recycled at most once for each cell after the first: by each release of a passing root. On any tables.
pub bar_ends_few : (t : Tables) (root d y z x k v s : ℕ) → bar_ends t root d y z x k v s ≤ k
bar_ends_few t root d y z x k v s = cases (ℕ_discrete (edit_at d y z v t root x).no 0)
    (λ e. let o = edit_at d y z v t root x in omega (arith, bar_ends_on d y z v t root x k s e, pass_ends_few d y z v k o.after o.id (suc x) s))
    (λ e. omega (arith, bar_ends_stop d y z v t root x k s e))

-- Tables that are well formed or not sized stay so.
pub bar_fair : {t : Tables} (root d y z x k v : ℕ) → v ≤ largest_value → Fair cube_kids deepest t → Fair cube_kids deepest (bar_of t root d y z x k v).after
bar_fair {t} root d y z x k v high (inl f) = inl (ap (λ (o : Out). fits o.after) (bar_unsized t root d y z x v k f) ∙ f)
bar_fair root d y z x k v high (inr w) = inr (bar_does w root d y z x k v high).well
