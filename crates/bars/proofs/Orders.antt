-- Any way to the same cube: however the cells of a bar are entered, the answer is the same id.
use mathlib.Core.Path.{◌≡◌, sym, ◌∙◌, subst}
use mathlib.Core.Logic.{◌⊎◌, inl, inr, ⊎_elim}
use Prim.Native.Nat.{ℕ, ◌+◌, ◌≤◌}
use native.Mathlib.Decide.{ℕ_discrete, dec_lt}
use native.Mathlib.Omega.{arith}
use Rattle.basics.specs.Limits.{deepest, cube_kids, kid_words, largest_value}
use Rattle.nodes.proofs.Sums.{cases}
use Rattle.tree.specs.Cells.{At}
use Rattle.tree.specs.Tree.{Root}
use Rattle.tree.proofs.Grow.{root_later}
use Rattle.arena.specs.Tables.{Tables, cap, W, WellFormed}
use Rattle.calls.specs.Cells.{Answers, Alike}
use Rattle.calls.specs.Does.{Kept}
use Rattle.calls.proofs.Roots.{kept_reads}
use Rattle.read_cell.proofs.Meaning.{wf_made}
use Rattle.edit.proofs.Theorems.{one_id}
use Rattle.bars.specs.Bars.{OnBar, bar_of}
use Rattle.bars.proofs.Does.{bar_does}
use Rattle.bars.proofs.Drawing.{bar_drawn}

fit : cube_kids ≤ kid_words
fit = omega arith

on_bar_or_not : {d : ℕ} (y z a b : ℕ) (s : At d) → OnBar y z a b s ⊎ (¬ (OnBar y z a b s))
on_bar_or_not y z a b s = cases (ℕ_discrete s.y y)
    (λ p. cases (ℕ_discrete s.z z)
    (λ q. cases (dec_lt s.x a)
    (λ r. inr (λ o. let i = o.2 in omega arith))
    (λ r. cases (dec_lt b s.x) (λ e. inr (λ o. let i = o.3 in omega arith)) (λ e. inl (p, q, omega arith, omega arith))))
    (λ q. inr (λ o. q o.1)))
    (λ p. inr (λ o. p o.0))

-- Whatever calls are made after the bar, while its answer is kept: a tidy root that shows the bar's cube, however it was made, is the bar's answer. (Of the
-- cells one by one: `bar_any_order` in crate `promises`.)
pub bar_any_way : {t : Tables} → WellFormed cube_kids deepest t → (root d y z x k v : ℕ) → v ≤ largest_value → Root cube_kids (cap t) d (W t) root
    → (bar_of t root d y z x k v).no ≡ 0 → (u : Tables) → Kept cube_kids deepest (bar_of t root d y z x k v).after u (bar_of t root d y z x k v).id
    → (a : ℕ) → Root cube_kids (cap u) d (W u) a → ((s : At d) → OnBar y z x (x + k) s → Answers u a s v) → ((s : At d) → ¬ (OnBar y z x (x + k) s) → Alike u a t root s)
    → a ≡ (bar_of t root d y z x k v).id
bar_any_way {t} w root d y z x k v high tidy ok u kept a ra at elsewhere =
    let o = bar_of t root d y z x k v in
    let drawn = bar_drawn w root d y z x k v high ok in
    let wo = (bar_does w root d y z x k v high).well in
    let rr : Root cube_kids (cap u) d (W u) o.id = subst (λ (c : ℕ). Root cube_kids c d (W u) o.id) (sym kept.size)
    (root_later cube_kids (cap o.after) (W o.after) (W u) (wf_made fit wo) d o.id kept.keeps (drawn.tidy tidy)) in
    one_id kept.well drawn.deep a o.id ra rr
    (λ s.
    let read = kept_reads wo drawn.there kept drawn.deep s in
    ⊎_elim (λ i. (at s i).value ∙ sym (read.value ∙ (drawn.at s i).value)) (λ i. (elsewhere s i).value ∙ sym (read.value ∙ (drawn.elsewhere s i).value))
    (on_bar_or_not y z x (x + k) s))
