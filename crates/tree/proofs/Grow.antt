-- What later tables keep of a root: its cube, its height, that it is tidy.
use mathlib.Core.Path.{◌≡◌, sym, ap, subst, ◌∙◌}
use mathlib.Core.Logic.{inl, inr}
use mathlib.Core.List.{List, ◌∷◌}
use Prim.Native.Nat.{ℕ, ◌<◌}
use Rattle.nodes.specs.Words.{Words}
use Rattle.nodes.specs.Tally.{Live}
use Rattle.nodes.proofs.Counts.{live_nonzero}
use Rattle.tree.specs.Tree.{Branch, Kind, empty, leaf, branch, kind, LiveOr0, child_of, WellMade, Below, self, under, Tidy, Cell, here, down, look, Root, Same, Extends, Keeps}
use Rattle.nodes.specs.Values.{value_at, height_at}
use Rattle.tree.proofs.Canon.{look_empty, look_leaf, look_branch, look_end, live, value_empty, height_empty}

pub extends_keeps : {n cap : ℕ} {W W' : Words} → Extends n cap W W' → (a : ℕ) → Keeps n cap W W' a
extends_keeps e a b u l = e b l

pub extends_trans : {n cap : ℕ} {W W' W'' : Words} → Extends n cap W W' → Extends n cap W' W'' → Extends n cap W W''
extends_trans e f a l =
    let s = e a l in
    let t = f a s.still in
    record {
      still = t.still;
      kids = λ i h. s.kids i h ∙ t.kids i h;
      value = s.value ∙ t.value;
      height = s.height ∙ t.height;
    }

-- what is at or below a live node is live or EMPTY
pub below_live : {n cap : ℕ} {W : Words} {a b : ℕ} → WellMade n cap W → LiveOr0 cap W a → Below n W a b → LiveOr0 cap W b
below_live w l self = l
below_live w l (under {a = a} i k h u) = below_live w ((w.branches a (live l k.0) k).kids i h) u

module _ (n cap : ℕ) (W W' : Words) (w : WellMade n cap W) where
  -- at or below means the same in both
  pub below_later : {a b : ℕ} → LiveOr0 cap W a → Keeps n cap W W' a → Below n W a b → Below n W' a b
  below_later l s self = self
  below_later l s (under {a = a} {b = b} i k h u) =
      let m : Live cap W a = live l k.0 in
      under i k h
      (subst (λ (c : ℕ). Below n W' c b) ((s a self m).kids i h)
      (below_later ((w.branches a m k).kids i h) (λ c t. s c (under i k h t)) u))

  pub below_earlier : {a b : ℕ} → LiveOr0 cap W a → Keeps n cap W W' a → Below n W' a b → Below n W a b
  below_earlier l s self = self
  below_earlier l s (under {a = a} {b = b} i k h u) =
      let m : Live cap W a = live l k.0 in
      let e : child_of W a i ≡ child_of W' a i = (s a self m).kids i h in
      under i k h
      (subst (λ (c : ℕ). Below n W c b) (sym e)
      (below_earlier (rw e at ((w.branches a m k).kids i h)) (λ c t. s c (under i k h (rw e t))) u))

  pub there_later : (a : ℕ) → LiveOr0 cap W a → Keeps n cap W W' a → LiveOr0 cap W' a
  there_later a (inl e) s = inl e
  there_later a (inr l) s = inr (s a self l).still

  pub value_later : (a : ℕ) → LiveOr0 cap W a → Keeps n cap W W' a → value_at W a ≡ value_at W' a
  value_later a (inl e) s = value_empty W a e ∙ sym (value_empty W' a e)
  value_later a (inr l) s = (s a self l).value

  pub height_later : (a : ℕ) → LiveOr0 cap W a → Keeps n cap W W' a → height_at W a ≡ height_at W' a
  height_later a (inl e) s = height_empty W a e ∙ sym (height_empty W' a e)
  height_later a (inr l) s = (s a self l).height

  -- a child of a kept branch is there and is kept
  pub kept_kid : (a i : ℕ) → LiveOr0 cap W a → Keeps n cap W W' a → Branch a → i < n
      → LiveOr0 cap W (child_of W a i) × Keeps n cap W W' (child_of W a i) × (child_of W a i ≡ child_of W' a i)
  kept_kid a i l s k h =
      let m : Live cap W a = live l k.0 in
      ((w.branches a m k).kids i h, λ c t. s c (under i k h t), (s a self m).kids i h)

  look_later_step : (a c : ℕ) (p : List ℕ) → LiveOr0 cap W a → Keeps n cap W W' a → c < n
      → ((b : ℕ) → LiveOr0 cap W b → Keeps n cap W W' b → look W p b ≡ look W' p b)
      → look W (c ∷ p) a ≡ look W' (c ∷ p) a
  look_later_step a c p l s h ih = go (kind a)
    where
      go : Kind a → look W (c ∷ p) a ≡ look W' (c ∷ p) a
      go (empty e) = look_empty W c p a e ∙ sym (look_empty W' c p a e)
      go (leaf e) = look_leaf W c p a e ∙ value_later a l s ∙ sym (look_leaf W' c p a e)
      go (branch b) =
          let (m, t, e) = kept_kid a c l s b h in
          look_branch W c p a b ∙ ih (child_of W a c) m t ∙ ap (look W' p) e ∙ sym (look_branch W' c p a b)

  -- A kept root shows the same cube at every depth, also at those below its height ..
  pub look_later : {d : ℕ} {p : List ℕ} (a : ℕ) → LiveOr0 cap W a → Keeps n cap W W' a → Cell n d p → look W p a ≡ look W' p a
  look_later a l s here = look_end W a ∙ value_later a l s ∙ sym (look_end W' a)
  look_later a l s (down {c = c} {p = p} h t) = look_later_step a c p l s h (λ b m u. look_later b m u t)

  -- .. and stays tidy
  pub tidy_later : (a : ℕ) → LiveOr0 cap W a → Keeps n cap W W' a → Tidy n W a → Tidy n W' a
  tidy_later a l s t b u k c f all =
      let u₀ : Below n W a b = below_earlier l s u in
      let m : Live cap W b = live (below_live w l u₀) k.0 in
      t b u₀ k c f (λ i h. (s b u₀ m).kids i h ∙ all i h)

  pub root_later : (d a : ℕ) → Keeps n cap W W' a → Root n cap d W a → Root n cap d W' a
  root_later d a s r =
      record {
        there = there_later a r.there s;
        tidy = tidy_later a r.there s r.tidy;
        low = rw (← height_later a r.there s) r.low;
      }

  pub keeps_trans : (W'' : Words) (a : ℕ) → LiveOr0 cap W a → Keeps n cap W W' a → Keeps n cap W' W'' a → Keeps n cap W W'' a
  keeps_trans W'' a l s t b u m =
      let x = s b u m in
      let y = t b (below_later l s u) x.still in
      record {
        still = y.still;
        kids = λ i h. x.kids i h ∙ y.kids i h;
        value = x.value ∙ y.value;
        height = x.height ∙ y.height;
      }

-- What release does: it makes nothing, so every live node after it was live before it, with the same content. Then
-- every root that is still there after it is kept. (W is before, W' after.)
pub shrink_keeps : {n cap : ℕ} {W W' : Words} → WellMade n cap W' → Extends n cap W' W → (a : ℕ) → LiveOr0 cap W' a → Keeps n cap W W' a
shrink_keeps {n} {cap} {W} {W'} w e a l b u m = same (live (down_to l u) (live_nonzero m))
  where
    down_to : {x y : ℕ} → LiveOr0 cap W' x → Below n W x y → LiveOr0 cap W' y
    down_to l self = l
    down_to l (under {a = x} i k h u) =
        let t : Live cap W' x = live l k.0 in
        down_to (rw ((e x t).kids i h) at ((w.branches x t k).kids i h)) u

    same : Live cap W' b → Same n cap W W' b
    same t =
        let s = e b t in
        record {
          still = t;
          kids = λ i h. sym (s.kids i h);
          value = sym s.value;
          height = sym s.height;
        }
