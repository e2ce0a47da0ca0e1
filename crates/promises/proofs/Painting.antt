-- A painted cube, cell by cell; and that the answer of an accepted bar shows it.
use mathlib.Core.Path.{◌≡◌, sym, ◌∙◌, fun_ext}
use mathlib.Core.Bool.{true, false, true≢false}
use Prim.Native.Nat.{ℕ, suc, ◌+◌, ◌≤◌}
use native.Mathlib.Decide.{ℕ_discrete}
use native.Mathlib.Omega.{arith}
use lib.Dec.{eqb, leb}
use borrow.Author.Tests.{eq-eqb, eqb-true, le-leb, leb-true}
use Rattle.basics.specs.Limits.{largest_value}
use Rattle.basics.specs.Pick.{pick}
use Rattle.nodes.proofs.Sums.{cases, split}
use Rattle.tree.specs.Cells.{At}
use Rattle.arena.specs.Tables.{Tables}
use Rattle.arena.proofs.Fits.{both}
use Rattle.bars.specs.Bars.{OnBar, bar_of}
use Rattle.bars.proofs.Drawing.{bar_drawn}
use Rattle.bars.proofs.Theorems.{bar_accepted}
use Rattle.calls.proofs.Expanding.{look_at_lem}
use Rattle.promises.specs.Promises.{Cube, changed}
use Rattle.promises.specs.Bars.{on_bar, painted}
use Rattle.promises.proofs.Spots.{changed_at, changed_elsewhere}
use Rattle.promises.proofs.Shows.{Shows}

-- ## On the bar and off it

bar_true : {d : ℕ} (y z a b : ℕ) (s : At d) → OnBar y z a b s → on_bar y z a b s ≡ true
unfolding on_bar
bar_true y z a b s (ey, ez, la, lb) = rw (eq-eqb s.y y ey, eq-eqb s.z z ez, le-leb a s.x la) (le-leb s.x b lb)

true_bar : {d : ℕ} (y z a b : ℕ) (s : At d) → on_bar y z a b s ≡ true → OnBar y z a b s
unfolding on_bar
true_bar y z a b s e =
    let p = both (eqb s.y y) (pick (eqb s.z z) (pick (leb a s.x) (leb s.x b) false) false) e in
    let q = both (eqb s.z z) (pick (leb a s.x) (leb s.x b) false) p.1 in
    let r = both (leb a s.x) (leb s.x b) q.1 in
    (eqb-true s.y y p.0, eqb-true s.z z q.0, leb-true a s.x r.0, leb-true s.x b r.1)

module _ {d : ℕ} (F : Cube d) (y z a b v : ℕ) (s : At d) where
  -- A cell of the bar has the value, and every other the number that it had.
  pub painted_on : OnBar y z a b s → painted F y z a b v s ≡ v
  unfolding painted
  painted_on h = rw (bar_true y z a b s h)

  pub painted_off : ¬ (OnBar y z a b s) → painted F y z a b v s ≡ F s
  unfolding painted
  painted_off h = split (on_bar y z a b s) (λ e. absurd (h (true_bar y z a b s e))) (λ e. rw e)

by_bar : {A : Type 0} {d : ℕ} (y z a b : ℕ) (s : At d) → (OnBar y z a b s → A) → (¬ (OnBar y z a b s) → A) → A
by_bar y z a b s f g = split (on_bar y z a b s) (λ e. f (true_bar y z a b s e)) (λ e. g (λ h. true≢false (sym (bar_true y z a b s h) ∙ e)))

-- ## Cell by cell

-- no cell is left
pub painted_none : {d : ℕ} (F : Cube d) (y z b v : ℕ) → F ≡ painted F y z (suc b) b v
painted_none F y z b v = fun_ext (λ s. sym (painted_off F y z (suc b) b v s (λ h. let p = h.2 in let q = h.3 in omega arith)))

-- the first cell, and then the rest
pub painted_first : {d : ℕ} (F : Cube d) (c : At d) (b v : ℕ) → c.x ≤ b → painted (changed F c v) c.y c.z (suc c.x) b v ≡ painted F c.y c.z c.x b v
painted_first F c b v low = fun_ext (λ s.
    let rest = painted_off (changed F c v) c.y c.z (suc c.x) b v s in
    by_bar c.y c.z c.x b s
    (λ h.
    let p = h.2 in
    cases (ℕ_discrete s.x c.x)
    (λ e. rest (λ m. let n = m.2 in omega arith) ∙ changed_at F c v s (e, h.0, h.1))
    (λ e. painted_on (changed F c v) c.y c.z (suc c.x) b v s (h.0, h.1, omega arith, h.3))
    ∙ sym (painted_on F c.y c.z c.x b v s h))
    (λ h.
    rest (λ m. h (m.0, m.1, (let n = m.2 in omega arith), m.3))
    ∙ changed_elsewhere F c v s (λ m. h (m.1, m.2, (let n = m.0 in omega arith), (let n = m.0 in omega arith)))
    ∙ sym (painted_off F c.y c.z c.x b v s h)))

-- ## A bar

-- The answer of an accepted bar shows the cube of the old root, painted.
pub bar_shows : {d : ℕ} {t : Tables} {root : ℕ} {F : Cube d} → Shows d t root F → (y z x k v : ℕ) → v ≤ largest_value → (bar_of t root d y z x k v).no ≡ 0
    → Shows d (bar_of t root d y z x k v).after (bar_of t root d y z x k v).id (painted F y z x (x + k) v)
bar_shows {d} {t} {root} {F} s y z x k v high ok =
    let p = bar_accepted s.well root d y z x k v high ok in
    let drawn = bar_drawn s.well root d y z x k v high ok in
    let u = (bar_of t root d y z x k v).after in
    let r = (bar_of t root d y z x k v).id in
    record {
      well = p.well;
      there = drawn.there;
      low = drawn.low;
      cells = λ c.
          sym (look_at_lem p.well drawn.deep r drawn.there c).value
          ∙ by_bar y z x (x + k) c
          (λ h. (drawn.at c h).value ∙ sym (painted_on F y z x (x + k) v c h))
          (λ h. (drawn.elsewhere c h).value ∙ (look_at_lem s.well drawn.deep root s.there c).value ∙ s.cells c ∙ sym (painted_off F y z x (x + k) v c h));
    }
