-- The dry run counts the nodes that an edit has still to make, and its count is one.
use mathlib.Core.Path.{◌≡◌, refl, sym, ap, subst, ◌∙◌}
use mathlib.Core.Logic.{◌≢◌, ◌⊎◌, inl, inr, ⊎_elim}
use mathlib.Core.List.Memᴰ
use mathlib.Core.List.{List, [], ◌∷◌, Memᴰ}
use native.Mathlib.Nat.{le_refl, le_trans, le_of_lt}
use Prim.Native.Nat.{ℕ, suc, ◌≤◌, ◌<◌}
use native.Mathlib.Decide.{ℕ_discrete}
use native.Mathlib.Omega.{arith}
use Rattle.nodes.specs.Words.{Words}
use Rattle.nodes.specs.Tally.{Live}
use Rattle.nodes.proofs.Counts.{live_nonzero}
use Rattle.tree.specs.Tree.{Branch, LiveOr0, child_of, WellMade, Below, self, under, Cell, here, down, Extends}
use Rattle.nodes.specs.Values.{height_at}
use Rattle.tree.specs.Anew.{part, replace, All, Mixed, Has, HasValue, Makes, nothing, whole, node, Anew, gone, set, step}
use Rattle.tree.specs.Lacks.{Need, have, lack, Plan, plan_gone, plan_set, plan_leaf, plan_step, plan_branch, plan_more, Once, NewNodes, Lacks}
use Rattle.tree.proofs.Canon.{live, kid_lower, below_inv}
use Rattle.tree.proofs.Grow.{below_live, below_earlier, extends_keeps}
use Rattle.tree.proofs.Making.{part_there, part_low, part_later, replace_same, replace_other, replace_all, renewed, makes_one, makes_ext, anew_later, anew_one, replace_later}

-- ## What the plan has is what is made anew

pub plan_have : {n cap : ℕ} {W : Words} {x : ℕ} {p : List ℕ} {a r : ℕ} → Plan n cap W x p a (have r) → Anew n cap W x p a r
plan_have (plan_gone z) = gone z refl
plan_have (plan_set z m) = set z m
plan_have (plan_step u m) = step (plan_have u) m

-- and what is not to be had is made of so many new nodes
below_height : {n cap : ℕ} {W : Words} {a b : ℕ} → WellMade n cap W → LiveOr0 cap W a → Below n W a b → height_at W b ≤ height_at W a
below_height w l self = le_refl _
below_height {n} {cap} {W} w l (under {a = a} i k h u) =
    let m : Live cap W a = live l k.0 in
    le_trans (below_height w ((w.branches a m k).kids i h) u) (le_of_lt (kid_lower n cap W w a i m k h))

module _ (n cap : ℕ) (n≥2 : 1 < n) (W W' : Words) (w : WellMade n cap W) (w' : WellMade n cap W') (g : Extends n cap W W') where
  -- what is at or below an old node is old
  old : {a b : ℕ} → LiveOr0 cap W a → Below n W' a b → Live cap W' b → Live cap W b
  old {a} {b} l u m =
      live (below_live w l (below_earlier n cap W W' w l (extends_keeps g a) u)) (live_nonzero m)

  one_leaf_lem : (x r : ℕ) → ((s : ℕ) → ¬ (HasValue cap W x s)) → HasValue cap W' x r → NewNodes n cap W W' r (r ∷ [])
  one_leaf_lem x r h m =
      record {
        now = m.live;
        new = new;
        below = λ t k. rw (Memᴰ.eq_of_singleton k) (self, m.live, new);
        all = λ b u l. inr (at u);
        once = (λ k. Memᴰ.not-nil k, tt);
      }
    where
      new : ¬ (Live cap W r)
      new l = h r (record { live = l; is_leaf = m.is_leaf; value = (g r l).value ∙ m.value })

      at : {b : ℕ} → Below n W' r b → Memᴰ b (r ∷ [])
      at u = ⊎_elim (λ e. Memᴰ.head (sym e)) (λ t. absurd (omega (arith, m.is_leaf, t.1.1))) (below_inv u)

  -- a new branch over children below which the new nodes are ts
  one_more_lem : (f : ℕ → ℕ) (r : ℕ) (ts : List ℕ) → Has n cap W' f r → ¬ (Live cap W r)
      → ((t : ℕ) → Memᴰ t ts → Below n W' r t × Live cap W' t × ¬ (Live cap W t))
      → ((i : ℕ) → i < n → (b : ℕ) → Below n W' (f i) b → Live cap W' b → Live cap W b ⊎ Memᴰ b ts)
      → ¬ (Memᴰ r ts) → Once ts → NewNodes n cap W W' r (r ∷ ts)
  one_more_lem f r ts m new below all other once =
      record {
        now = m.live;
        new = new;
        below = λ t k. ⊎_elim (λ e. rw e (self, m.live, new)) (below t) (Memᴰ.cases_cons k);
        all = λ b u l. at b l (below_inv u);
        once = (other, once);
      }
    where
      at : (b : ℕ) → Live cap W' b → (r ≡ b) ⊎ ((i : ℕ) × Branch r × (i < n) × Below n W' (child_of W' r i) b)
          → Live cap W b ⊎ Memᴰ b (r ∷ ts)
      at b l (inl e) = inr (Memᴰ.head (sym e))
      at b l (inr t) =
          let u : Below n W' (f t.0) b = rw (m.kids t.0 t.2) at t.3 in
          ⊎_elim (λ o. inl o) (λ k. inr (Memᴰ.tail k)) (all t.0 t.2 b u l)

  one_branch_lem : (f : ℕ → ℕ) (r : ℕ) → ((i : ℕ) → i < n → LiveOr0 cap W (f i)) → ((s : ℕ) → ¬ (Has n cap W f s)) → Has n cap W' f r
      → NewNodes n cap W W' r (r ∷ [])
  one_branch_lem f r l h m =
      one_more_lem f r [] m
      (λ o.
      h r (record { live = o; is_branch = m.is_branch; kids = λ i k. (g r o).kids i k ∙ m.kids i k }))
      (λ t k. absurd (Memᴰ.not-nil k)) (λ i k b u o. inl (old (l i k) u o)) (λ k. Memᴰ.not-nil k) tt

  -- a branch over a new child is new
  more_branch : (f : ℕ → ℕ) (c r : ℕ) (ts : List ℕ) → c < n → ((i : ℕ) → i < n → i ≢ c → LiveOr0 cap W (f i))
      → NewNodes n cap W W' (f c) ts → Has n cap W' f r → NewNodes n cap W W' r (r ∷ ts)
  more_branch f c r ts k l s m =
      one_more_lem f r ts m
      (λ o.
      s.new
      (live
      (rw ((g r o).kids c k ∙ m.kids c k) at ((w.branches r o m.is_branch).kids c k))
      (live_nonzero s.now)))
      (λ t q. let b = s.below t q in (under c m.is_branch k (rw (m.kids c k) b.0), b.1, b.2))
      (λ i h b. at i h b (ℕ_discrete i c))
      (λ q. omega (arith, below_height w' (inr s.now) (s.below r q).0, kid)) s.once
    where
      kid : height_at W' (f c) < height_at W' r
      kid = rw (m.kids c k) at (kid_lower n cap W' w' r c m.live m.is_branch k)

      at : (i : ℕ) → i < n → (b : ℕ) → Dec (i ≡ c) → Below n W' (f i) b → Live cap W' b → Live cap W b ⊎ Memᴰ b ts
      at i h b (yes e) u o = s.all b (rw e at u) o
      at i h b (no e) u o = inl (old (l i h e) u o)

  -- n times a new leaf is not made, since another part is old
  not_whole : (f : ℕ → ℕ) (c r : ℕ) (ts : List ℕ) → c < n → ((i : ℕ) → i < n → i ≢ c → LiveOr0 cap W (f i))
      → NewNodes n cap W W' (f c) ts → All n f r → ⊥
  not_whole f c r ts k l s a = go (ℕ_discrete c 0)
    where
      other : (i : ℕ) → i < n → i ≢ c → ⊥
      other i h e =
          s.new (live (rw (a i h ∙ sym (a c k)) at (l i h e)) (live_nonzero s.now))

      go : Dec (c ≡ 0) → ⊥
      go (yes e) = other 1 n≥2 (λ z. omega arith)
      go (no e) = other 0 (omega arith) (λ z. e (sym z))

module _ (n cap : ℕ) (n≥2 : 1 < n) (W W' : Words) (w : WellMade n cap W) (w' : WellMade n cap W') (g : Extends n cap W W') (x : ℕ) where
  lack_branch : (d a c s s' r : ℕ) (p : List ℕ) → LiveOr0 cap W a → height_at W a ≤ suc d → c < n → Cell n d p
      → Plan n cap W x p (part W a c) (have s) → Mixed n (replace (part W a) c s)
      → ((r : ℕ) → ¬ (Has n cap W (replace (part W a) c s) r))
      → Anew n cap W' x p (part W' a c) s' → Makes n cap W' (replace (part W' a) c s') r → Lacks n cap W W' r 1
  lack_branch d a c s s' r p l h k t u y z u' m' = go m
    where
      n≥1 : 0 < n
      n≥1 = omega arith

      f : ℕ → ℕ
      f = replace (part W a) c s

      there : (i : ℕ) → i < n → LiveOr0 cap W (f i)
      there i q =
          replace_all (LiveOr0 cap W) (part W a) c s i
          (renewed n cap n≥1 W w x (part_there n cap W w a c l k) (part_low n cap W w a c l k d h) t (plan_have u)).there
          (part_there n cap W w a i l q)

      same : s ≡ s'
      same =
          anew_one n≥1 w' (anew_later w g (part_there n cap W w a c l k) t (plan_have u))
          (subst (λ (b : ℕ). Anew n cap W' x p b s') (sym (part_later w g a c l k)) u')

      m : Makes n cap W' f r
      m =
          makes_ext (λ i q. sym (replace_later w g a c s l i q))
          (subst (λ (b : ℕ). Makes n cap W' (replace (part W' a) c b) r) (sym same) m')

      go : Makes n cap W' f r → Lacks n cap W W' r 1
      go (nothing a e) = absurd (y.not_empty a)
      go (whole b a) = absurd (y.not_leaf r b a)
      go (node q b) = record { nodes = r ∷ []; many = refl; new = one_branch_lem n cap n≥2 W W' w w' g f r there z b }

  lack_more : (d a c s r k : ℕ) → LiveOr0 cap W a → c < n → Lacks n cap W W' s k → Makes n cap W' (replace (part W' a) c s) r
      → Lacks n cap W W' r (suc k)
  lack_more d a c s r k l h t m' = go (makes_ext (λ i q. sym (replace_later w g a c s l i q)) m')
    where
      f : ℕ → ℕ
      f = replace (part W a) c s

      at_c : f c ≡ s
      at_c = replace_same (part W a) c s c refl

      there : (i : ℕ) → i < n → i ≢ c → LiveOr0 cap W (f i)
      there i q e = rw (replace_other (part W a) c s i e) (part_there n cap W w a i l q)

      new : NewNodes n cap W W' (f c) t.nodes
      new = rw at_c t.new

      go : Makes n cap W' f r → Lacks n cap W W' r (suc k)
      go (nothing a e) = absurd (live_nonzero new.now (a c h))
      go (whole b a) = absurd (not_whole n cap n≥2 W W' w w' g f c r t.nodes h there new a)
      go (node q b) =
          record {
            nodes = r ∷ t.nodes;
            many = ap suc t.many;
            new = more_branch n cap n≥2 W W' w w' g f c r t.nodes h there new b;
          }

  pub plan_lack : {d : ℕ} {p : List ℕ} {a r k : ℕ} → LiveOr0 cap W a → height_at W a ≤ d → Cell n d p → Plan n cap W x p a (lack k)
      → Anew n cap W' x p a r → Lacks n cap W W' r k
  plan_lack l h here (plan_leaf z q) (gone y e) = absurd (z y)
  plan_lack l h here (plan_leaf z q) (set {r = r} y m) =
      record { nodes = r ∷ []; many = refl; new = one_leaf_lem n cap n≥2 W W' w w' g x r q m }
  plan_lack l h (down {d = d} k t) (plan_branch {c = c} {p = p} {a = a} {s = s} u y z) (step {s = s'} {r = r} u' m) =
      lack_branch d a c s s' r p l h k t u y z u' m
  plan_lack l h (down {d = d} e t) (plan_more {c = c} {p = p} {a = a} {k = k} u) (step {s = s} {r = r} u' m) =
      lack_more d a c s r k l e
      (plan_lack (part_there n cap W w a c l e) (part_low n cap W w a c l e d h) t u
      (subst (λ (b : ℕ). Anew n cap W' x p b s) (sym (part_later w g a c l e)) u'))
      m

-- ## A plan is one

have_inj : {r s : ℕ} → have r ≡ have s → r ≡ s
have_inj e = cc

have_lack : {r k : ℕ} → have r ≡ lack k → ⊥
have_lack e = let z : ◌≡◌ {A = ℕ} 0 1 = cc in omega arith

-- what mixed parts make is the branch that has them
made_has : {n cap : ℕ} {W : Words} {f : ℕ → ℕ} {r : ℕ} → Makes n cap W f r → Mixed n f → Has n cap W f r
made_has (nothing a e) y = absurd (y.not_empty a)
made_has {r = r} (whole b a) y = absurd (y.not_leaf r b a)
made_has (node q b) y = b

module _ {n cap : ℕ} {W : Words} (n≥1 : 0 < n) (w : WellMade n cap W) where
  pub plan_one : {x : ℕ} {p : List ℕ} {a : ℕ} {m m' : Need} → Plan n cap W x p a m → Plan n cap W x p a m' → m ≡ m'
  plan_one (plan_gone z) (plan_gone y) = refl
  plan_one (plan_gone z) (plan_set y h) = absurd (y z)
  plan_one (plan_gone z) (plan_leaf y h) = absurd (y z)
  plan_one (plan_set y h) (plan_gone z) = absurd (y z)
  plan_one (plan_set {r = r} y h) (plan_set {r = s} z k) =
      ap have (w.one_leaf r s h.live k.live h.is_leaf k.is_leaf (h.value ∙ sym k.value))
  plan_one (plan_set {r = r} y h) (plan_leaf z k) = absurd (k r h)
  plan_one (plan_leaf y h) (plan_gone z) = absurd (y z)
  plan_one (plan_leaf y h) (plan_set {r = r} z k) = absurd (h r k)
  plan_one (plan_leaf y h) (plan_leaf z k) = refl
  plan_one (plan_step {c = c} {a = a} {s = s} u m) (plan_step {s = s'} {r = r} u' m') =
      let e : s ≡ s' = have_inj (plan_one u u') in
      ap have (makes_one n≥1 w m (subst (λ (t : ℕ). Makes n cap W (replace (part W a) c t) r) (sym e) m'))
  plan_one (plan_step {c = c} {a = a} {s = s} {r = r} u m) (plan_branch {s = s'} u' y h) =
      let e : s ≡ s' = have_inj (plan_one u u') in
      absurd (h r (made_has (subst (λ (t : ℕ). Makes n cap W (replace (part W a) c t) r) e m) y))
  plan_one (plan_step u m) (plan_more u') = absurd (have_lack (plan_one u u'))
  plan_one (plan_branch {c = c} {a = a} {s = s} u y h) (plan_step {s = s'} {r = r} u' m') =
      let e : s ≡ s' = have_inj (plan_one u u') in
      absurd (h r (made_has (subst (λ (t : ℕ). Makes n cap W (replace (part W a) c t) r) (sym e) m') y))
  plan_one (plan_branch u y h) (plan_branch u' y' h') = refl
  plan_one (plan_branch u y h) (plan_more u') = absurd (have_lack (plan_one u u'))
  plan_one (plan_more u) (plan_step u' m) = absurd (have_lack (sym (plan_one u u')))
  plan_one (plan_more u) (plan_branch u' y h) = absurd (have_lack (sym (plan_one u u')))
  plan_one (plan_more {k = k} u) (plan_more {k = j} u') =
      let e : lack k ≡ lack j = plan_one u u' in
      cc
