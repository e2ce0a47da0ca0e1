-- Bars among the calls: a bar is a run of calls; its answer stands for the old root's plain cube, painted, and every other root for the cube that it stood for.
use mathlib.Core.Path.{◌≡◌, ap, ◌∙◌, subst}
use Prim.Native.Nat.{ℕ, suc, ◌+◌, ◌≤◌}
use native.Mathlib.Omega.{arith}
use Rattle.basics.specs.Limits.{deepest, cube_kids, kid_words, largest_value}
use Rattle.paths.specs.Paths.{place}
use Rattle.tree.proofs.Grow.{extends_keeps}
use Rattle.arena.specs.Calls.{Out, release_of}
use Rattle.arena.specs.Tables.{Tables, WellFormed}
use Rattle.ledger.specs.Ledger.{on}
use Rattle.calls.specs.Does.{Does, now, then, There}
use Rattle.calls.proofs.Compose.{does_net}
use Rattle.calls.proofs.Follows.{held_there}
use Rattle.calls.proofs.Lasting.{untaken_extends}
use Rattle.calls.proofs.Roots.{kept_there}
use Rattle.bars.specs.Bars.{bar_of, pass_of}
use Rattle.bars.proofs.Ways.{edit_at, passed, pass_all, bar_by}
use Rattle.bars.proofs.Does.{edited, held_does, granted_held, stepped, next_held, Ready, ready_first, ready_next}
use Rattle.bars.proofs.Drawing.{number, cell}
use Rattle.promises.specs.Promises.{Cube, changed, Stands, release, voxel, call, other, edit}
use Rattle.promises.specs.Bars.{After, painted}
use Rattle.promises.proofs.Cubes.{stands_well, stands_there}
use Rattle.promises.proofs.Painting.{painted_none, painted_first}

fit : cube_kids ≤ kid_words
fit = omega arith

-- ## A bar is a run of calls

module _ (d y z v : ℕ) (high : v ≤ largest_value) where
  after_edit : {t u : Tables} (r x : ℕ) → After t u → After t (edit_at d y z v u r x).after
  after_edit {u = u} r x (g, k, j, s) = (_, _, _, then s (call (voxel r d (place x y z) v) high))

  after_release : {t u : Tables} (r : ℕ) → After t u → After t (release_of deepest u r).after
  after_release {u = u} r (g, k, j, s) = (_, _, _, then s (call (release r) tt))

-- Calls lead from t to what the bar leaves: what is proved of any calls is true with bars among them. On any tables.
pub bar_calls : (t : Tables) (root d y z x k v : ℕ) → v ≤ largest_value → After t (bar_of t root d y z x k v).after
bar_calls t root d y z x k v high =
    let start : After t t = (_, _, _, now) in
    let o = edit_at d y z v t root x in
    bar_by d y z v t root x k (λ i. After t i.after)
    (λ e.
    pass_all d y z v (λ u r x k. After t u) (λ u r x k i. After t i.after) (λ u r x i. i)
    (λ u r x k i e. after_release d y z v high r (after_edit d y z v high r x i)) (λ u r x k i p e h. h)
    (λ u r x k i bad. after_release d y z v high r i) k o.after o.id (suc x) (after_edit d y z v high root x start))
    (λ bad. start)

-- ## Its own root

module _ (d y z b v : ℕ) (high : v ≤ largest_value) where
  -- the cells from x to b are left
  abbrev Until : Tables → ℕ → ℕ → ℕ → Type 0
  Until u r x k = Ready u r × (x + k ≡ suc b)

  abbrev Paints : Tables → ℕ → ℕ → ℕ → Out → Type 0
  Paints u r x k o = o.no ≡ 0 → (F : Cube d) → Stands d u r F → Stands d o.after o.id (painted F y z x b v)

  pub edit_stands : (u : Tables) (r x : ℕ) {F : Cube d} → Stands d u r F → (ok : (edit_at d y z v u r x).no ≡ 0)
      → Stands d (edit_at d y z v u r x).after (edit_at d y z v u r x).id (changed F (cell u r d x y z v ok) v)
  edit_stands u r x s ok = edit (cell u r d x y z v ok) v high (number u r d x y z v ok) s

  none : (u : Tables) (r x : ℕ) → Until u r x 0 → (F : Cube d) → Stands d u r F → Stands d u r (painted F y z x b v)
  none u r x (i, e) F =
      let q : suc b ≡ x = omega arith in
      subst (λ (G : Cube d). Stands d u r G) (painted_none F y z b v ∙ ap (λ (n : ℕ). painted F y z n b v) q)

  more : (u : Tables) (r x k : ℕ) (o : Out) → Until u r x (suc k) → (edit_at d y z v u r x).no ≡ 0 → Paints (passed d y z v u r x) (edit_at d y z v u r x).id (suc x) k o
      → Paints u r x (suc k) o
  more u r x k o ((w, h), e) fine rest ok F s =
      let c = cell u r d x y z v fine in
      let next = (edit_at d y z v u r x).id in
      let there = held_there (passed d y z v u r x) next (next_held d y z v high u r x w fine h) in
      subst (λ (G : Cube d). Stands d o.after o.id G) (painted_first F c b v (omega arith))
      (rest ok (changed F c v) (other (release r) tt there (edit_stands u r x s fine)))

  pub pass_stands : (k : ℕ) (u : Tables) (r x : ℕ) → Until u r x k → Paints u r x k (pass_of d y z v u r x k)
  pass_stands =
      pass_all d y z v Until Paints (λ u r x i ok. none u r x i) (λ u r x k i e. let q = i.1 in (ready_next d y z v high u r x i.0 e, omega arith)) more
      (λ u r x k i bad ok. absurd (bad ok))

-- The root of an accepted bar stood for F: its answer stands for F with the cells of the bar painted.
pub bar_stands : {d : ℕ} {t : Tables} {root : ℕ} {F : Cube d} → Stands d t root F → (y z x k v : ℕ) → v ≤ largest_value → (bar_of t root d y z x k v).no ≡ 0
    → Stands d (bar_of t root d y z x k v).after (bar_of t root d y z x k v).id (painted F y z x (x + k) v)
bar_stands {d} {t} {root} {F} s y z x k v high =
    let o = edit_at d y z v t root x in
    bar_by d y z v t root x k (λ i. i.no ≡ 0 → Stands d i.after i.id (painted F y z x (x + k) v))
    (λ e ok.
    let c = cell t root d x y z v e in
    let i = pass_of d y z v o.after o.id (suc x) k in
    subst (λ (G : Cube d). Stands d i.after i.id G) (painted_first F c (x + k) v (omega arith))
    (pass_stands d y z (x + k) v high k o.after o.id (suc x) (ready_first d y z v high t root x (stands_well s) e, omega arith) ok (changed F c v)
    (edit_stands d y z (x + k) v high t root x s e)))
    (λ bad ok. absurd (bad ok))

-- ## Other roots

module _ {t : Tables} (w : WellFormed cube_kids deepest t) (b : ℕ) (there : There t b) where
  -- where no hold is taken what was there is there
  still_there : {u : Tables} {granted times : ℕ → ℕ} → Does cube_kids deepest t u granted (λ a. 0) times → There u b
  still_there d = kept_there fit w there (record { well = d.well; size = d.size; keeps = extends_keeps (untaken_extends fit w d) b })

  -- one hold was granted since t, on the passing root
  abbrev Passed : Tables → ℕ → Type 0
  Passed u r = (times : ℕ → ℕ) × Does cube_kids deepest t u (λ a. on a r) (λ a. 0) times

  module _ (d y z v : ℕ) (high : v ≤ largest_value) (u : Tables) (r : ℕ) (p : Passed u r) where
    released_there : There (release_of deepest u r).after b
    released_there =
        let e = p.1 in
        still_there (does_net cube_kids deepest fit (λ a. 0) (λ a. 0) (λ a. on a r) w e (held_does e.well r (granted_held e))
        (λ a. (omega arith, omega arith, omega arith, omega arith)))

    module _ (x : ℕ) (ok : (edit_at d y z v u r x).no ≡ 0) where
      edited_there : There (edit_at d y z v u r x).after b
      edited_there =
          let e = p.1 in
          still_there (does_net cube_kids deepest fit (λ a. on a r + on a (edit_at d y z v u r x).id) (λ a. 0) (λ a. 0) w e (edited d y z v high u r x e.well ok)
          (λ a. (omega arith, omega arith, omega arith, omega arith)))

      passed_next : Passed (passed d y z v u r x) (edit_at d y z v u r x).id
      passed_next =
          let e = p.1 in (
            _,
            does_net cube_kids deepest fit (λ a. on a (edit_at d y z v u r x).id) (λ a. 0) (λ a. on a r) w e (stepped d y z v high u r x e.well ok (granted_held e))
                (λ a. (omega arith, omega arith, omega arith, omega arith)),
          )

-- Every root that stood for a cube stands for it after a bar, accepted or refused.
pub bar_others : {e : ℕ} {t : Tables} {b : ℕ} {F : Cube e} → Stands e t b F → (root d y z x k v : ℕ) → v ≤ largest_value → Stands e (bar_of t root d y z x k v).after b F
bar_others {e} {t} {b} {F} s root d y z x k v high =
    let w = stands_well s in
    let there = stands_there s in
    let o = edit_at d y z v t root x in
    bar_by d y z v t root x k (λ i. Stands e i.after b F)
    (λ ok.
    let first = edited d y z v high t root x w ok in
    pass_all d y z v (λ u r x k. Passed w b there u r) (λ u r x k i. Stands e u b F → Stands e i.after b F) (λ u r x p q. q)
    (λ u r x k p ok. passed_next w b there d y z v high u r p x ok)
    (λ u r x k i p ok rest q.
    rest (other (release r) tt (still_there w b there (passed_next w b there d y z v high u r p x ok).1)
    (other (voxel r d (place x y z) v) high (edited_there w b there d y z v high u r p x ok) q)))
    (λ u r x k p bad q. other (release r) tt (released_there w b there d y z v high u r p) q) k o.after o.id (suc x) (_, first)
    (other (voxel root d (place x y z) v) high (still_there w b there first) s))
    (λ bad. s)
