-- The ways of a bar: what it comes to by the number of each edit, and induction over its cells.
use mathlib.Core.Path.{◌≡◌, refl, sym, ap, ◌∙◌, subst}
use mathlib.Core.Logic.{◌≢◌}
use mathlib.Core.Bool.{false}
use Prim.Native.Nat.{ℕ, zero, suc, ◌+◌}
use native.Mathlib.Decide.{ℕ_discrete}
use native.Mathlib.Omega.{arith}
use borrow.Author.Tests.{eq-eqb, ne_eqb}
use Rattle.basics.specs.Limits.{deepest}
use Rattle.paths.specs.Paths.{place}
use Rattle.nodes.proofs.Sums.{cases}
use Rattle.arena.specs.Calls.{Out, said, refused, fits, release_of}
use Rattle.arena.specs.Tables.{Tables}
use Rattle.ledger.specs.Fates.{ended}
use Rattle.edit.specs.Edit.{edit_no, edit_of}
use Rattle.edit.proofs.Edits.{edit_number, edit_refused, edit_unfit}
use Rattle.bars.specs.Bars.{pass_of, bar_of, pass_ends, bar_ends}

module _ (d y z v : ℕ) where
  -- the edit of the cell at x of the root r in u
  abbrev pub edit_at : Tables → ℕ → ℕ → Out
  edit_at u r x = edit_of u r d (place x y z) v

  -- and then r released
  abbrev pub passed : Tables → ℕ → ℕ → Tables
  passed u r x = (release_of deepest (edit_at u r x).after r).after

  -- a refused edit is its number, INVALID, and the tables as they were
  pub edit_stays : (u : Tables) (r x : ℕ) → (edit_at u r x).no ≢ 0 → edit_at u r x ≡ refused (edit_at u r x).no u
  edit_stays u r x n =
      let e = edit_number u r d (place x y z) v in
      edit_refused u r d (place x y z) v (λ q. n (e ∙ q)) ∙ ap (λ (k : ℕ). refused k u) (sym e)

  -- ## From a passing root on

  pub pass_none : (u : Tables) (r x : ℕ) → pass_of d y z v u r x 0 ≡ said 0 r u
  unfolding pass_of
  pass_none u r x = refl

  pub pass_on : (u : Tables) (r x k : ℕ) → (edit_at u r x).no ≡ 0 → pass_of d y z v u r x (suc k) ≡ pass_of d y z v (passed u r x) (edit_at u r x).id (suc x) k
  unfolding pass_of
  pass_on u r x k e = rw (eq-eqb (edit_at u r x).no 0 e)

  pub pass_stop : (u : Tables) (r x k : ℕ) → (edit_at u r x).no ≢ 0 → pass_of d y z v u r x (suc k) ≡ refused (edit_at u r x).no (release_of deepest u r).after
  unfolding pass_of
  pass_stop u r x k e = rw (ne_eqb (edit_at u r x).no 0 e)

  pub ends_none : (u : Tables) (r x s : ℕ) → pass_ends d y z v u r x 0 s ≡ 0
  unfolding pass_ends
  ends_none u r x s = refl

  pub ends_on : (u : Tables) (r x k s : ℕ) → (edit_at u r x).no ≡ 0
      → pass_ends d y z v u r x (suc k) s ≡ ended (edit_at u r x).after (passed u r x) s + pass_ends d y z v (passed u r x) (edit_at u r x).id (suc x) k s
  unfolding pass_ends
  ends_on u r x k s e = rw (eq-eqb (edit_at u r x).no 0 e)

  pub ends_stop : (u : Tables) (r x k s : ℕ) → (edit_at u r x).no ≢ 0 → pass_ends d y z v u r x (suc k) s ≡ ended u (release_of deepest u r).after s
  unfolding pass_ends
  ends_stop u r x k s e = rw (ne_eqb (edit_at u r x).no 0 e)

  -- Induction over the cells: `Inv` is so before each edit, and `Good` is then so of what the rest comes to.
  module _ (Inv : Tables → ℕ → ℕ → ℕ → Type 0) (Good : Tables → ℕ → ℕ → ℕ → Out → Type 0)
      (none : (u : Tables) (r x : ℕ) → Inv u r x 0 → Good u r x 0 (said 0 r u))
      (next : (u : Tables) (r x k : ℕ) → Inv u r x (suc k) → (edit_at u r x).no ≡ 0 → Inv (passed u r x) (edit_at u r x).id (suc x) k)
      (more : (u : Tables) (r x k : ℕ) (o : Out) → Inv u r x (suc k) → (edit_at u r x).no ≡ 0 → Good (passed u r x) (edit_at u r x).id (suc x) k o → Good u r x (suc k) o)
      (stop : (u : Tables) (r x k : ℕ) → Inv u r x (suc k) → (edit_at u r x).no ≢ 0 → Good u r x (suc k) (refused (edit_at u r x).no (release_of deepest u r).after)) where
    pub pass_all : (k : ℕ) (u : Tables) (r x : ℕ) → Inv u r x k → Good u r x k (pass_of d y z v u r x k)
    pass_all zero u r x i = subst (Good u r x 0) (sym (pass_none u r x)) (none u r x i)
    pass_all (suc k) u r x i = cases (ℕ_discrete (edit_at u r x).no 0)
        (λ e. subst (Good u r x (suc k)) (sym (pass_on u r x k e))
        (more u r x k (pass_of d y z v (passed u r x) (edit_at u r x).id (suc x) k) i e (pass_all k (passed u r x) (edit_at u r x).id (suc x) (next u r x k i e))))
        (λ e. subst (Good u r x (suc k)) (sym (pass_stop u r x k e)) (stop u r x k i e))

  -- ## The whole bar

  module _ (t : Tables) (root x k : ℕ) where
    pub bar_on : (edit_at t root x).no ≡ 0 → bar_of t root d y z x k v ≡ pass_of d y z v (edit_at t root x).after (edit_at t root x).id (suc x) k
    unfolding bar_of
    bar_on e = rw (eq-eqb (edit_at t root x).no 0 e)

    pub bar_stop : (edit_at t root x).no ≢ 0 → bar_of t root d y z x k v ≡ refused (edit_at t root x).no t
    unfolding bar_of
    bar_stop e = rw (ne_eqb (edit_at t root x).no 0 e)

    pub bar_ends_on : (s : ℕ) → (edit_at t root x).no ≡ 0 → bar_ends t root d y z x k v s ≡ pass_ends d y z v (edit_at t root x).after (edit_at t root x).id (suc x) k s
    unfolding bar_ends
    bar_ends_on s e = rw (eq-eqb (edit_at t root x).no 0 e)

    pub bar_ends_stop : (s : ℕ) → (edit_at t root x).no ≢ 0 → bar_ends t root d y z x k v s ≡ 0
    unfolding bar_ends
    bar_ends_stop s e = rw (ne_eqb (edit_at t root x).no 0 e)

    -- its first edit is refused, or it is what passes on from there
    pub bar_by : (P : Out → Type 0) → ((edit_at t root x).no ≡ 0 → P (pass_of d y z v (edit_at t root x).after (edit_at t root x).id (suc x) k))
        → ((edit_at t root x).no ≢ 0 → P (refused (edit_at t root x).no t)) → P (bar_of t root d y z x k v)
    bar_by P on stop = cases (ℕ_discrete (edit_at t root x).no 0) (λ e. subst P (sym (bar_on e)) (on e)) (λ e. subst P (sym (bar_stop e)) (stop e))

    -- a bar that is accepted had its first cell accepted
    pub bar_first : (bar_of t root d y z x k v).no ≡ 0 → (edit_at t root x).no ≡ 0
    bar_first ok = cases (ℕ_discrete (edit_at t root x).no 0) (λ e. e) (λ e. absurd (e (sym (ap (λ (o : Out). o.no) (bar_stop e)) ∙ ok)))

-- ## On any tables

module _ (t : Tables) (root d y z x v : ℕ) where
  -- A bar of one cell is the edit.
  pub bar_one : bar_of t root d y z x 0 v ≡ edit_of t root d (place x y z) v
  bar_one =
      let o = edit_at d y z v t root x in
      bar_by d y z v t root x 0 (λ b. b ≡ o)
      (λ e. pass_none d y z v o.after o.id (suc x) ∙ ap (λ (k : ℕ). said k o.id o.after) (sym e))
      (λ e. sym (edit_stays d y z v t root x e))

  -- On tables that are not sized it is refused by 1.
  pub bar_unsized : (k : ℕ) → fits t ≡ false → bar_of t root d y z x k v ≡ refused 1 t
  bar_unsized k f =
      let q = ap (λ (o : Out). o.no) (edit_unfit t root d (place x y z) v f) in
      bar_stop d y z v t root x k (λ e. omega (arith, q, e)) ∙ ap (λ (n : ℕ). refused n t) q

  -- A first cell that is refused is the bar's refusal, and nothing changed.
  pub bar_number : (k : ℕ) → edit_no t root d (place x y z) v ≢ 0
      → ((bar_of t root d y z x k v).no ≡ edit_no t root d (place x y z) v) × ((bar_of t root d y z x k v).after ≡ t)
  bar_number k n =
      let e = edit_number t root d (place x y z) v in
      let q = bar_stop d y z v t root x k (λ z. n (sym e ∙ z)) in
      (ap (λ (o : Out). o.no) q ∙ e, ap (λ (o : Out). o.after) q)
