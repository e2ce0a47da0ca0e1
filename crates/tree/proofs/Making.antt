-- What is made anew is the edited root.
use mathlib.Core.Path.{◌≡◌, refl, sym, ap, subst, ◌∙◌}
use mathlib.Core.Logic.{◌≢◌, inl, inr}
use mathlib.Core.List.{List, [], ◌∷◌}
use Prim.Native.Nat.{ℕ, zero, suc, ◌≤◌, ◌<◌, suc-le-suc}
use native.Mathlib.Nat.{max-le}
use native.Mathlib.Decide.{ℕ_discrete}
use native.Mathlib.Omega.{arith}
use Rattle.nodes.specs.Words.{Words}
use Rattle.tree.specs.Tree.{EMPTY, Leaf, Branch, Kind, empty, leaf, branch, kind, LiveOr0, child_of, AllKids, WellMade, Below, self, under, Tidy, Cell, here, down, look, Extends, Keeps, Flat}
use Rattle.nodes.specs.Values.{height_at, max_to}
use Rattle.tree.specs.Edits.{Edited}
use Rattle.tree.specs.Anew.{part, replace, All, Mixed, Has, HasValue, Makes, nothing, whole, node, Anew, gone, set, step, Answer, asked, made}
use Rattle.tree.proofs.Canon.{look_branch, look_end, value_empty, height_empty, live, live_leaf, look_flat, flat_below, kid_lower, flat_low}
use Rattle.tree.proofs.Grow.{extends_keeps, extends_trans, look_later, there_later, height_later, tidy_later}

-- ## Parts

pub part_flat : (W : Words) (a i : ℕ) → Flat a → part W a i ≡ a
unfolding part
part_flat W a i f = go (kind a) f
  where
    go : (k : Kind a) → Flat a → ◌≡◌ {A = ℕ} (elim k [ empty _ ↦ EMPTY | leaf _ ↦ a | branch _ ↦ child_of W a i ]) a
    go (empty h) f = sym h
    go (leaf h) f = refl
    go (branch h) (inl e) = absurd (h.0 e)
    go (branch h) (inr l) = absurd (omega arith)

pub part_branch : (W : Words) (a i : ℕ) → Branch a → part W a i ≡ child_of W a i
unfolding part
part_branch W a i b = go (kind a)
  where
    go : (k : Kind a) → elim k [ empty _ ↦ EMPTY | leaf _ ↦ a | branch _ ↦ child_of W a i ] ≡ child_of W a i
    go (empty h) = absurd (b.0 h)
    go (leaf h) = absurd (omega arith)
    go (branch h) = refl

-- to look in an id is to look in its part
pub look_part : (W : Words) (c : ℕ) (p : List ℕ) (a : ℕ) → look W (c ∷ p) a ≡ look W p (part W a c)
look_part W c p a = go (kind a)
  where
    flat : Flat a → look W (c ∷ p) a ≡ look W p (part W a c)
    flat f = look_flat W (c ∷ p) a f ∙ sym (look_flat W p a f) ∙ ap (look W p) (sym (part_flat W a c f))

    go : Kind a → look W (c ∷ p) a ≡ look W p (part W a c)
    go (empty h) = flat (inl h)
    go (leaf h) = flat (inr h)
    go (branch h) = look_branch W c p a h ∙ ap (look W p) (sym (part_branch W a c h))

pub replace_same : (f : ℕ → ℕ) (c s i : ℕ) → i ≡ c → replace f c s i ≡ s
unfolding replace
replace_same f c s i h = go (ℕ_discrete i c)
  where
    go : (k : Dec (i ≡ c)) → elim k [ yes _ ↦ s | no _ ↦ f i ] ≡ s
    go (yes k) = refl
    go (no k) = absurd (k h)

pub replace_other : (f : ℕ → ℕ) (c s i : ℕ) → i ≢ c → replace f c s i ≡ f i
unfolding replace
replace_other f c s i h = go (ℕ_discrete i c)
  where
    go : (k : Dec (i ≡ c)) → elim k [ yes _ ↦ s | no _ ↦ f i ] ≡ f i
    go (yes k) = absurd (h k)
    go (no k) = refl

-- what holds of s and of every part holds of every replaced part
pub replace_all {ℓ} : (P : ℕ → Type ℓ) (f : ℕ → ℕ) (c s i : ℕ) → P s → P (f i) → P (replace f c s i)
replace_all P f c s i a b = go (ℕ_discrete i c)
  where
    go : Dec (i ≡ c) → P (replace f c s i)
    go (yes k) = rw (replace_same f c s i k) a
    go (no k) = rw (replace_other f c s i k) b

-- a root's part is a root one level lower
module _ (n cap : ℕ) (W : Words) (w : WellMade n cap W) (a i : ℕ) (l : LiveOr0 cap W a) (h : i < n) where
  pub part_there : LiveOr0 cap W (part W a i)
  part_there = go (kind a)
    where
      go : Kind a → LiveOr0 cap W (part W a i)
      go (empty e) = rw (part_flat W a i (inl e)) l
      go (leaf e) = rw (part_flat W a i (inr e)) l
      go (branch b) = rw (part_branch W a i b) ((w.branches a (live l b.0) b).kids i h)

  pub part_low : (d : ℕ) → height_at W a ≤ suc d → height_at W (part W a i) ≤ d
  part_low d k = go (kind a)
    where
      flat : Flat a → height_at W (part W a i) ≤ d
      flat f = rw (part_flat W a i f) (omega (arith, flat_low n cap W w a l f))

      go : Kind a → height_at W (part W a i) ≤ d
      go (empty e) = flat (inl e)
      go (leaf e) = flat (inr e)
      go (branch b) = rw (part_branch W a i b) (omega (arith, kid_lower n cap W w a i (live l b.0) b h))

  pub part_tidy : Tidy n W a → Tidy n W (part W a i)
  part_tidy t = go (kind a)
    where
      go : Kind a → Tidy n W (part W a i)
      go (empty e) = rw (part_flat W a i (inl e)) t
      go (leaf e) = rw (part_flat W a i (inr e)) t
      go (branch b) = rw (part_branch W a i b) (λ c u. t c (under i b h u))

-- ## What n parts make

max_to_le_lem : (n : ℕ) (f : ℕ → ℕ) (d : ℕ) → ((i : ℕ) → i < n → f i ≤ d) → max_to n f ≤ d
unfolding max_to
max_to_le_lem zero f d h = omega arith
max_to_le_lem (suc n) f d h = max-le (max_to_le_lem n f d (λ i k. h i (omega arith))) (h n (omega arith))

-- a branch is tidy if its children are, and are not n times one leaf
tidy_node : (n : ℕ) (W : Words) {a b : ℕ} → ((l : ℕ) → Leaf l → ¬ (AllKids n W a l))
    → ((i : ℕ) → i < n → Tidy n W (child_of W a i)) → Below n W a b → Branch b → (l : ℕ) → Leaf l → ¬ (AllKids n W b l)
tidy_node n W y h self g = y
tidy_node n W {b = b} y h (under i p z u) g = h i z b u g

module _ (n cap : ℕ) (W : Words) (f : ℕ → ℕ) (r : ℕ) (m : Makes n cap W f r) where
  -- to look in it is to look in the part
  pub look_makes : (c : ℕ) (p : List ℕ) → c < n → look W (c ∷ p) r ≡ look W p (f c)
  look_makes c p h = go m
    where
      flat : Flat r → f c ≡ r → look W (c ∷ p) r ≡ look W p (f c)
      flat k e = look_flat W (c ∷ p) r k ∙ sym (look_flat W p r k) ∙ ap (look W p) (sym e)

      go : Makes n cap W f r → look W (c ∷ p) r ≡ look W p (f c)
      go (nothing a e) = flat (inl e) (a c h ∙ sym e)
      go (whole l a) = flat (inr l) (a c h)
      go (node x y) = look_branch W c p r y.is_branch ∙ ap (look W p) (y.kids c h)

  pub makes_there : 0 < n → ((i : ℕ) → i < n → LiveOr0 cap W (f i)) → LiveOr0 cap W r
  makes_there h a = go m
    where
      go : Makes n cap W f r → LiveOr0 cap W r
      go (nothing x e) = inl e
      go (whole l e) = rw (e 0 h) at (a 0 h)
      go (node x y) = inr y.live

  module _ (w : WellMade n cap W) where
    pub makes_low : (d : ℕ) → LiveOr0 cap W r → ((i : ℕ) → i < n → height_at W (f i) ≤ d) → height_at W r ≤ suc d
    makes_low d t h = go m
      where
        go : Makes n cap W f r → height_at W r ≤ suc d
        go (nothing x e) = omega (arith, height_empty W r e)
        go (whole l e) = omega (arith, (w.leaves r (live_leaf t l) l).flat)
        go (node x y) =
            rw (w.branches r y.live y.is_branch).tall
            (suc-le-suc (max_to_le_lem n (λ i. height_at W (child_of W r i)) d (λ i g. rw (y.kids i g) (h i g))))

    pub makes_tidy : ((i : ℕ) → i < n → Tidy n W (f i)) → Tidy n W r
    makes_tidy h b u = go m u
      where
        go : Makes n cap W f r → Below n W r b → Branch b → (l : ℕ) → Leaf l → ¬ (AllKids n W b l)
        go (nothing x e) u k = absurd (flat_below n W (inl e) u k)
        go (whole l e) u k = absurd (flat_below n W (inr l) u k)
        go (node x y) u g =
            tidy_node n W (λ l q all. x.not_leaf l q (λ i z. sym (y.kids i z) ∙ all i z))
            (λ i z. rw (y.kids i z) (h i z)) u g

-- ## What is made anew is there, no taller, tidy if the old root was, reads x at the cell, and elsewhere as before

pub record Renewed (n cap d : ℕ) (W : Words) (p : List ℕ) (x a r : ℕ) : Type 0 where
  pub there : LiveOr0 cap W r
  pub low : height_at W r ≤ d
  pub tidy : Tidy n W a → Tidy n W r
  pub changed : look W p r ≡ x
  pub others : (q : List ℕ) → Cell n d q → q ≢ p → look W q r ≡ look W q a

module _ (n cap : ℕ) (n≥1 : 0 < n) (W : Words) (w : WellMade n cap W) (x : ℕ) where
  only_here : (q : List ℕ) → Cell n 0 q → q ≡ []
  only_here q here = refl

  renew_gone : (a r : ℕ) → x ≡ 0 → r ≡ EMPTY → Renewed n cap 0 W [] x a r
  renew_gone a r h e =
      record {
        there = inl e;
        low = omega (arith, height_empty W r e);
        tidy = λ t b u k. absurd (flat_below n W (inl e) u k);
        changed = look_end W r ∙ value_empty W r e ∙ sym h;
        others = λ q c k. absurd (k (only_here q c));
      }

  renew_set : (a r : ℕ) → HasValue cap W x r → Renewed n cap 0 W [] x a r
  renew_set a r l =
      record {
        there = inr l.live;
        low = omega (arith, (w.leaves r l.live l.is_leaf).flat);
        tidy = λ t b u j. absurd (flat_below n W (inr l.is_leaf) u j);
        changed = look_end W r ∙ l.value;
        others = λ q c k. absurd (k (only_here q c));
      }

  renew_step : (d c a s r : ℕ) (p : List ℕ) → LiveOr0 cap W a → height_at W a ≤ suc d → c < n
      → Renewed n cap d W p x (part W a c) s → Makes n cap W (replace (part W a) c s) r → Renewed n cap (suc d) W (c ∷ p) x a r
  renew_step d c a s r p l h k t m =
      record {
        there = there';
        low =
            makes_low n cap W f r m w d there'
            (λ i g. replace_all (λ (b : ℕ). height_at W b ≤ d) (part W a) c s i t.low (part_low n cap W w a i l g d h));
        tidy = λ y.
            makes_tidy n cap W f r m w
            (λ i g.
            replace_all (Tidy n W) (part W a) c s i (t.tidy (part_tidy n cap W w a c l k y)) (part_tidy n cap W w a i l g y));
        changed = look_makes n cap W f r m c p k ∙ ap (look W p) (replace_same (part W a) c s c refl) ∙ t.changed;
        others = others';
      }
    where
      f : ℕ → ℕ
      f = replace (part W a) c s

      there' : LiveOr0 cap W r
      there' =
          makes_there n cap W f r m n≥1
          (λ i g. replace_all (LiveOr0 cap W) (part W a) c s i t.there (part_there n cap W w a i l g))

      at : (i : ℕ) (q : List ℕ) → i < n → Cell n d q → ((i ∷ q) ≢ (c ∷ p)) → Dec (i ≡ c) → look W (i ∷ q) r ≡ look W (i ∷ q) a
      at i q g z y (yes e) =
          look_makes n cap W f r m i q g ∙ ap (look W q) (replace_same (part W a) c s i e)
          ∙ t.others q z (λ u. y (cc)) ∙ ap (λ (j : ℕ). look W q (part W a j)) (sym e) ∙ sym (look_part W i q a)
      at i q g z y (no e) =
          look_makes n cap W f r m i q g ∙ ap (look W q) (replace_other (part W a) c s i e) ∙ sym (look_part W i q a)

      others' : (q : List ℕ) → Cell n (suc d) q → q ≢ (c ∷ p) → look W q r ≡ look W q a
      others' q (down {c = i} {p = q'} g z) y = at i q' g z y (ℕ_discrete i c)

  pub renewed : {d : ℕ} {p : List ℕ} {a r : ℕ} → LiveOr0 cap W a → height_at W a ≤ d → Cell n d p → Anew n cap W x p a r
      → Renewed n cap d W p x a r
  renewed l h here (gone {a = a} {r = r} z e) = renew_gone a r z e
  renewed l h here (set {a = a} {r = r} z m) = renew_set a r m
  renewed l h (down {d = d} k t) (step {c = c} {p = p} {a = a} {s = s} {r = r} u m) =
      renew_step d c a s r p l h k (renewed (part_there n cap W w a c l k) (part_low n cap W w a c l k d h) t u) m

-- ## The whole edit: the old root where the cell has the value already, else made anew in tables that only grew

module _ (n cap d : ℕ) (n≥1 : 0 < n) (W W' : Words) (w : WellMade n cap W) (root : ℕ) (p : List ℕ) (x : ℕ) (l : LiveOr0 cap W root)
    (h : height_at W root ≤ d) (c : Cell n d p) where
  pub edited_same : Extends n cap W W' → WellMade n cap W' → look W p root ≡ x → Edited n cap d W root p x W' root
  edited_same g w' e =
      let s : Keeps n cap W W' root = extends_keeps g root in
      record {
        grows = g;
        made = w';
        there = there_later n cap W W' w root l s;
        low = rw (height_later n cap W W' w root l s) at h;
        tidy = tidy_later n cap W W' w root l s;
        changed = sym (look_later n cap W W' w root l s c) ∙ e;
        others = λ q z k. sym (look_later n cap W W' w root l s z);
      }

  edited_anew : (r : ℕ) → Extends n cap W W' → WellMade n cap W' → Anew n cap W' x p root r → Edited n cap d W root p x W' r
  edited_anew r g w' m =
      let s : Keeps n cap W W' root = extends_keeps g root in
      let t =
      renewed n cap n≥1 W' w' x (there_later n cap W W' w root l s) (rw (height_later n cap W W' w root l s) at h) c m in
      record {
        grows = g;
        made = w';
        there = t.there;
        low = t.low;
        tidy = λ y. t.tidy (tidy_later n cap W W' w root l s y);
        changed = t.changed;
        others = λ q z k. t.others q z k ∙ sym (look_later n cap W W' w root l s z);
      }

-- so the answer of an edit that keeps the tables well made and moves no node is the edited root
pub edited : {n cap d : ℕ} {W W' : Words} {root x r : ℕ} {p : List ℕ} → 0 < n → WellMade n cap W → LiveOr0 cap W root
    → height_at W root ≤ d → Cell n d p → Extends n cap W W' → WellMade n cap W' → Answer n cap W W' root p x r
    → Edited n cap d W root p x W' r
edited {n} {cap} {d} {W} {W'} {root} {x} {r} {p} n≥1 w l h c g w' (made z m) =
    edited_anew n cap d n≥1 W W' w root p x l h c r g w' m
edited {n} {cap} {d} {W} {W'} {root} {x} {r} {p} n≥1 w l h c g w' (asked e k) =
    subst (λ (s : ℕ). Edited n cap d W root p x W' s) (sym k) (edited_same n cap d n≥1 W W' w root p x l h c g w' e)

-- ## What is made stays made, and is one

-- equal parts make the same
pub makes_ext : {n cap : ℕ} {W : Words} {f f' : ℕ → ℕ} {r : ℕ} → ((i : ℕ) → i < n → f i ≡ f' i) → Makes n cap W f r → Makes n cap W f' r
makes_ext e (nothing a h) = nothing (λ i k. sym (e i k) ∙ a i k) h
makes_ext e (whole l a) = whole l (λ i k. sym (e i k) ∙ a i k)
makes_ext e (node x y) =
    node
    (record {
      not_empty = λ a. x.not_empty (λ i h. e i h ∙ a i h);
      not_leaf = λ t q a. x.not_leaf t q (λ i h. e i h ∙ a i h);
    })
    (record { live = y.live; is_branch = y.is_branch; kids = λ i h. y.kids i h ∙ e i h })

pub has_later : {n cap : ℕ} {W W' : Words} {f : ℕ → ℕ} {r : ℕ} → Extends n cap W W' → Has n cap W f r → Has n cap W' f r
has_later {r = r} g y =
    let s = g r y.live in
    record { live = s.still; is_branch = y.is_branch; kids = λ i h. sym (s.kids i h) ∙ y.kids i h }

pub value_has_later : {n cap : ℕ} {W W' : Words} {x r : ℕ} → Extends n cap W W' → HasValue cap W x r → HasValue cap W' x r
value_has_later {r = r} g y =
    let s = g r y.live in
    record { live = s.still; is_leaf = y.is_leaf; value = sym s.value ∙ y.value }

pub makes_later : {n cap : ℕ} {W W' : Words} {f : ℕ → ℕ} {r : ℕ} → Extends n cap W W' → Makes n cap W f r → Makes n cap W' f r
makes_later g (nothing a h) = nothing a h
makes_later g (whole l a) = whole l a
makes_later g (node x y) = node x (has_later g y)

module _ {n cap : ℕ} {W W' : Words} (w : WellMade n cap W) (g : Extends n cap W W') where
  pub part_later : (a i : ℕ) → LiveOr0 cap W a → i < n → part W a i ≡ part W' a i
  part_later a i l h = go (kind a)
    where
      flat : Flat a → part W a i ≡ part W' a i
      flat f = part_flat W a i f ∙ sym (part_flat W' a i f)

      go : Kind a → part W a i ≡ part W' a i
      go (empty e) = flat (inl e)
      go (leaf e) = flat (inr e)
      go (branch b) = part_branch W a i b ∙ (g a (live l b.0)).kids i h ∙ sym (part_branch W' a i b)

  pub replace_later : (a c s : ℕ) → LiveOr0 cap W a → (i : ℕ) → i < n → replace (part W a) c s i ≡ replace (part W' a) c s i
  replace_later a c s l i h = go (ℕ_discrete i c)
    where
      go : Dec (i ≡ c) → replace (part W a) c s i ≡ replace (part W' a) c s i
      go (yes k) = replace_same (part W a) c s i k ∙ sym (replace_same (part W' a) c s i k)
      go (no k) = replace_other (part W a) c s i k ∙ part_later a i l h ∙ sym (replace_other (part W' a) c s i k)

  pub anew_later : {d x : ℕ} {p : List ℕ} {a r : ℕ} → LiveOr0 cap W a → Cell n d p → Anew n cap W x p a r → Anew n cap W' x p a r
  anew_later l here (gone z e) = gone z e
  anew_later l here (set z m) = set z (value_has_later g m)
  anew_later {x = x} l (down k t) (step {c = c} {p = p} {a = a} {s = s} {r = r} u m) =
      step (subst (λ (b : ℕ). Anew n cap W' x p b s) (part_later a c l k) (anew_later (part_there n cap W w a c l k) t u))
      (makes_ext (replace_later a c s l) (makes_later g m))

-- One level of the code: the part c of a was made anew on the way from W to W₁, and then the parts, read at the start, made
-- r on the way to W₂.
pub anew_up : {n cap d x : ℕ} {W W₁ W₂ : Words} {c a s r : ℕ} {p : List ℕ} → WellMade n cap W → WellMade n cap W₁ → Extends n cap W W₁
    → Extends n cap W₁ W₂ → LiveOr0 cap W a → c < n → Cell n d p → Anew n cap W₁ x p (part W a c) s
    → Makes n cap W₂ (replace (part W a) c s) r → Anew n cap W₂ x (c ∷ p) a r
anew_up {n} {cap} {x = x} {W} {W₁} {W₂} {c} {a} {s} {r} {p} w w₁ g g₁ l k t u m =
    let g₂ : Extends n cap W W₂ = extends_trans g g₁ in
    let there : LiveOr0 cap W₁ (part W a c) =
    there_later n cap W W₁ w (part W a c) (part_there n cap W w a c l k) (extends_keeps g (part W a c)) in
    step (subst (λ (b : ℕ). Anew n cap W₂ x p b s) (part_later w g₂ a c l k) (anew_later w₁ g₁ there t u))
    (makes_ext (replace_later w g₂ a c s l) m)

-- the parts decide the answer
pub makes_one : {n cap : ℕ} {W : Words} {f : ℕ → ℕ} {r s : ℕ} → 0 < n → WellMade n cap W → Makes n cap W f r → Makes n cap W f s → r ≡ s
makes_one h w (nothing a e) (nothing b k) = e ∙ sym k
makes_one h w (nothing a e) (whole l b) = e ∙ sym (a 0 h) ∙ b 0 h
makes_one h w (nothing a e) (node x y) = absurd (x.not_empty a)
makes_one h w (whole l b) (nothing a e) = sym (b 0 h) ∙ a 0 h ∙ sym e
makes_one h w (whole l a) (whole k b) = sym (a 0 h) ∙ b 0 h
makes_one {r = r} h w (whole l a) (node x y) = absurd (x.not_leaf r l a)
makes_one h w (node x y) (nothing a e) = absurd (x.not_empty a)
makes_one {s = s} h w (node x y) (whole l a) = absurd (x.not_leaf s l a)
makes_one {r = r} {s = s} h w (node x y) (node x' y') =
    w.one_branch r s y.live y'.live y.is_branch y'.is_branch (λ i z. y.kids i z ∙ sym (y'.kids i z))

pub anew_one : {n cap : ℕ} {W : Words} {x : ℕ} {p : List ℕ} {a r s : ℕ} → 0 < n → WellMade n cap W → Anew n cap W x p a r
    → Anew n cap W x p a s → r ≡ s
anew_one h w (gone z e) (gone y k) = e ∙ sym k
anew_one h w (gone z e) (set y k) = absurd (y z)
anew_one h w (set y k) (gone z e) = absurd (y z)
anew_one h w (set {r = r} y l) (set {r = s} y' l') =
    w.one_leaf r s l.live l'.live l.is_leaf l'.is_leaf (l.value ∙ sym l'.value)
anew_one {n} {cap} {W} {s = r'} h w (step {c = c} {a = a} {s = s} u m) (step {s = s'} u' m') =
    let e : s ≡ s' = anew_one h w u u' in
    makes_one h w m (subst (λ (t : ℕ). Makes n cap W (replace (part W a) c t) r') (sym e) m')

-- ## The three ways are decided

all_dec : (n : ℕ) (f : ℕ → ℕ) (c : ℕ) → Dec (All n f c)
all_dec zero f c = yes (λ i h. absurd (omega arith))
all_dec (suc n) f c = go (all_dec n f c) (ℕ_discrete (f n) c)
  where
    both : All n f c → f n ≡ c → (i : ℕ) → Dec (i ≡ n) → i < suc n → f i ≡ c
    both a e i (yes k) h = ap f k ∙ e
    both a e i (no k) h = a i (omega arith)

    go : Dec (All n f c) → Dec (f n ≡ c) → Dec (All (suc n) f c)
    go (yes a) (yes e) = yes (λ i. both a e i (ℕ_discrete i n))
    go (yes a) (no e) = no (λ b. e (b n (omega arith)))
    go (no a) k = no (λ b. a (λ i h. b i (omega arith)))

-- what the parts call for: EMPTY, a leaf that is there, or the branch
pub data Call (n : ℕ) (f : ℕ → ℕ) : Type 0 where
  for_nothing : All n f EMPTY → Call n f
  for_leaf : Leaf (f 0) → All n f (f 0) → Call n f
  for_branch : Mixed n f → Call n f

pub call : (n : ℕ) → 0 < n → (f : ℕ → ℕ) → Call n f
call n h f = go (all_dec n f (f 0)) (kind (f 0))
  where
    go : Dec (All n f (f 0)) → Kind (f 0) → Call n f
    go (yes a) (empty e) = for_nothing (λ i k. a i k ∙ e)
    go (yes a) (leaf l) = for_leaf l a
    go (yes a) (branch b) =
        for_branch
        (record { not_empty = λ z. b.0 (z 0 h); not_leaf = λ l k z. let e = z 0 h in omega (arith, k, b.1) })
    go (no a) k =
        for_branch
        (record {
          not_empty = λ z. a (λ i g. z i g ∙ sym (z 0 h));
          not_leaf = λ l q z. a (λ i g. z i g ∙ sym (z 0 h));
        })
