-- Canonicity: in a well-made tree two tidy roots that show the same cube are the same id.
use mathlib.Core.Path.{◌≡◌, refl, sym, ◌∙◌}
use mathlib.Core.Logic.{◌≢◌, ◌⊎◌, inl, inr, ⊎_elim}
use mathlib.Core.List.{List, [], ◌∷◌, ◌++◌}
use Prim.Native.Nat.{ℕ, zero, suc, ◌≤◌, ◌<◌, suc-le-suc}
use native.Mathlib.Nat.{le-max_left, le-max_right, le_trans, le-suc_iff, suc_inj}
use native.Mathlib.Omega.{arith}
use Rattle.nodes.specs.Words.{Words}
use Rattle.nodes.specs.Tally.{Live}
use Rattle.tree.specs.Tree.{EMPTY, Leaf, Branch, Kind, empty, leaf, branch, kind, LiveOr0, child_of, AllKids, WellMade, Below, self, under, Cell, here, down, look, SameCube, Root, Flat}
use Rattle.nodes.specs.Values.{value_at, height_at, max_to}

-- ## The three clauses of lookup

pub look_empty : (W : Words) (c : ℕ) (p : List ℕ) (a : ℕ) → a ≡ EMPTY → look W (c ∷ p) a ≡ 0
unfolding look
look_empty W c p a e = go (kind a)
  where
    go : (k : Kind a) → ◌≡◌ {A = ℕ} (elim k [ empty _ ↦ 0 | leaf _ ↦ value_at W a | branch _ ↦ look W p (child_of W a c) ]) 0
    go (empty h) = refl
    go (leaf h) = absurd (omega arith)
    go (branch h) = absurd (h.0 e)

pub look_leaf : (W : Words) (c : ℕ) (p : List ℕ) (a : ℕ) → Leaf a → look W (c ∷ p) a ≡ value_at W a
unfolding look
look_leaf W c p a e = go (kind a)
  where
    go : (k : Kind a) → elim k [ empty _ ↦ 0 | leaf _ ↦ value_at W a | branch _ ↦ look W p (child_of W a c) ] ≡ value_at W a
    go (empty h) = absurd (omega arith)
    go (leaf h) = refl
    go (branch h) = absurd (omega arith)

pub look_branch : (W : Words) (c : ℕ) (p : List ℕ) (a : ℕ) → Branch a → look W (c ∷ p) a ≡ look W p (child_of W a c)
unfolding look
look_branch W c p a e = go (kind a)
  where
    go : (k : Kind a) → elim k [ empty _ ↦ 0 | leaf _ ↦ value_at W a | branch _ ↦ look W p (child_of W a c) ] ≡ look W p (child_of W a c)
    go (empty h) = absurd (e.0 h)
    go (leaf h) = absurd (omega arith)
    go (branch h) = refl

pub look_end : (W : Words) (a : ℕ) → look W [] a ≡ value_at W a
unfolding look
look_end W a = refl

-- ## What EMPTY, leaves and branches are in a well-made tree

pub value_empty : (W : Words) (a : ℕ) → a ≡ EMPTY → value_at W a ≡ 0
unfolding value_at
value_empty W a e = rw e

pub height_empty : (W : Words) (a : ℕ) → a ≡ EMPTY → height_at W a ≡ 0
unfolding height_at
height_empty W a e = rw e

-- an id that is there and is no EMPTY is live
pub live : {cap : ℕ} {W : Words} {a : ℕ} → LiveOr0 cap W a → a ≢ EMPTY → Live cap W a
live (inl e) h = absurd (h e)
live (inr l) h = l

pub live_leaf : {cap : ℕ} {W : Words} {a : ℕ} → LiveOr0 cap W a → Leaf a → Live cap W a
live_leaf l k = live l (λ e. omega arith)

-- each is at most the largest
pub le_max_to_lem : (n : ℕ) (f : ℕ → ℕ) (i : ℕ) → i < n → f i ≤ max_to n f
unfolding max_to
le_max_to_lem zero f i h = absurd (omega arith)
le_max_to_lem (suc n) f i h =
    ⊎_elim (λ l. le_trans (le_max_to_lem n f i l) (le-max_left _ _))
    (λ e. let k : i ≡ n = suc_inj e in rw k (le-max_right _ _))
    (le-suc_iff.0 h)

-- ## A leaf or EMPTY reads the same at every cell

pub look_flat : (W : Words) (p : List ℕ) (a : ℕ) → Flat a → look W p a ≡ value_at W a
look_flat W [] a k = look_end W a
look_flat W (c ∷ p) a (inl e) = look_empty W c p a e ∙ sym (value_empty W a e)
look_flat W (c ∷ p) a (inr l) = look_leaf W c p a l

-- what is at or below a is a, or at or below a child of the branch a
pub below_inv : {n : ℕ} {W : Words} {a b : ℕ} → Below n W a b
    → (a ≡ b) ⊎ ((i : ℕ) × Branch a × (i < n) × Below n W (child_of W a i) b)
below_inv self = inl refl
below_inv (under i k h u) = inr (i, k, h, u)

-- no branch is at or below them
pub flat_below : (n : ℕ) (W : Words) {a b : ℕ} → Flat a → Below n W a b → Branch b → ⊥
flat_below n W (inl e) self k = k.0 e
flat_below n W (inr l) self k = omega arith
flat_below n W (inl e) (under i b h u) k = b.0 e
flat_below n W (inr l) (under i b h u) k = omega arith

-- with n at least 1 there is a cell at every depth
pub some_cell : (n d : ℕ) → 0 < n → (p : List ℕ) × Cell n d p
some_cell n zero h = ([], here)
some_cell n (suc d) h = let (p, c) = some_cell n d h in (0 ∷ p, down h c)

module _ (n cap : ℕ) (W : Words) (w : WellMade n cap W) where
  -- a child is lower than its branch
  pub kid_lower : (a i : ℕ) → Live cap W a → Branch a → i < n → height_at W (child_of W a i) < height_at W a
  kid_lower a i l b h =
      rw (w.branches a l b).tall (suc-le-suc (le_max_to_lem n (λ j. height_at W (child_of W a j)) i h))

  -- so what has height 0 is EMPTY or a leaf, and what is EMPTY or a leaf has height 0
  pub low_flat : (a : ℕ) → LiveOr0 cap W a → height_at W a ≡ 0 → Flat a
  low_flat a l h = go (kind a)
    where
      go : Kind a → Flat a
      go (empty e) = inl e
      go (leaf k) = inr k
      go (branch b) = absurd (omega (arith, (w.branches a (live l b.0) b).tall))

  pub flat_low : (a : ℕ) → LiveOr0 cap W a → Flat a → height_at W a ≡ 0
  flat_low a l (inl e) = height_empty W a e
  flat_low a l (inr k) = (w.leaves a (live_leaf l k) k).flat

  -- a tidy root's child is a root one level lower
  pub kid_root : (d a i : ℕ) → Root n cap (suc d) W a → Branch a → i < n → Root n cap d W (child_of W a i)
  kid_root d a i r b h =
      let l : Live cap W a = live r.there b.0 in
      record {
        there = (w.branches a l b).kids i h;
        tidy = λ c u. r.tidy c (under i b h u);
        low = omega (arith, kid_lower a i l b h, r.low);
      }

  -- a leaf or EMPTY is a root at every depth
  pub flat_root : (d a : ℕ) → LiveOr0 cap W a → Flat a → Root n cap d W a
  flat_root d a l k =
      record { there = l; tidy = λ b u c. absurd (flat_below n W k u c); low = omega (arith, flat_low a l k) }

  -- two flat ids of one value are one
  pub flat_one : (a b : ℕ) → LiveOr0 cap W a → LiveOr0 cap W b → Flat a → Flat b → value_at W a ≡ value_at W b → a ≡ b
  flat_one a b la lb (inl e) (inl f) h = e ∙ sym f
  flat_one a b la lb (inl e) (inr f) h =
      absurd ((w.leaves b (live_leaf lb f) f).something (sym h ∙ value_empty W a e))
  flat_one a b la lb (inr e) (inl f) h = absurd ((w.leaves a (live_leaf la e) e).something (h ∙ value_empty W b f))
  flat_one a b la lb (inr e) (inr f) h = w.one_leaf a b (live_leaf la e) (live_leaf lb f) e f h

  -- no branch of a tidy root shows what a flat id shows
  branch_not_flat : (d a b : ℕ)
      → ((x y : ℕ) → Root n cap d W x → Root n cap d W y → SameCube n d W x W y → x ≡ y)
      → Root n cap (suc d) W a → LiveOr0 cap W b → Branch a → Flat b → SameCube n (suc d) W a W b → ⊥
  branch_not_flat d a b ih r l k f e = refuse f
    where
      all_b : AllKids n W a b
      all_b i h =
          ih (child_of W a i) b (kid_root d a i r k h) (flat_root d b l f)
          (λ p c. sym (look_branch W i p a k) ∙ e (i ∷ p) (down h c) ∙ look_flat W (i ∷ p) b f ∙ sym (look_flat W p b f))

      refuse : Flat b → ⊥
      refuse (inl e) = (w.branches a (live r.there k.0) k).not_all_empty (λ i h. all_b i h ∙ e)
      refuse (inr m) = r.tidy a self k b m all_b

  module _ (n≥1 : 0 < n) where
    -- Two tidy roots no taller than d that show the same cube at depth d are the same id.
    canon_step : (d : ℕ)
        → ((x y : ℕ) → Root n cap d W x → Root n cap d W y → SameCube n d W x W y → x ≡ y)
        → (a b : ℕ) → Root n cap (suc d) W a → Root n cap (suc d) W b → SameCube n (suc d) W a W b → a ≡ b
    canon_step d ih a b ra rb e = go (kind a) (kind b)
      where
        flats : Flat a → Flat b → a ≡ b
        flats f g =
            let (p, c) = some_cell n (suc d) n≥1 in
            flat_one a b ra.there rb.there f g (sym (look_flat W p a f) ∙ e p c ∙ look_flat W p b g)

        go : Kind a → Kind b → a ≡ b
        go (empty h) (empty k) = flats (inl h) (inl k)
        go (empty h) (leaf k) = flats (inl h) (inr k)
        go (leaf h) (empty k) = flats (inr h) (inl k)
        go (leaf h) (leaf k) = flats (inr h) (inr k)
        go (branch h) (empty k) = absurd (branch_not_flat d a b ih ra rb.there h (inl k) e)
        go (branch h) (leaf k) = absurd (branch_not_flat d a b ih ra rb.there h (inr k) e)
        go (empty h) (branch k) = absurd (branch_not_flat d b a ih rb ra.there k (inl h) (λ p c. sym (e p c)))
        go (leaf h) (branch k) = absurd (branch_not_flat d b a ih rb ra.there k (inr h) (λ p c. sym (e p c)))
        go (branch h) (branch k) =
            w.one_branch a b (live ra.there h.0) (live rb.there k.0) h k
            (λ i l.
            ih (child_of W a i) (child_of W b i) (kid_root d a i ra h l) (kid_root d b i rb k l)
            (λ p c. sym (look_branch W i p a h) ∙ e (i ∷ p) (down l c) ∙ look_branch W i p b k))

    pub canon : (d a b : ℕ) → Root n cap d W a → Root n cap d W b → SameCube n d W a W b → a ≡ b
    canon zero a b ra rb e =
        flat_one a b ra.there rb.there (low_flat a ra.there (omega (arith, ra.low)))
        (low_flat b rb.there (omega (arith, rb.low))) (sym (look_end W a) ∙ e [] here ∙ look_end W b)
    canon (suc d) a b ra rb e = canon_step d (canon d) a b ra rb e

  -- A cell of a root no taller than d reads the same with more levels below it.
  deeper_step : (d a c : ℕ) (p q : List ℕ) → LiveOr0 cap W a → height_at W a ≤ suc d → c < n
      → ((b : ℕ) → LiveOr0 cap W b → height_at W b ≤ d → look W (p ++ q) b ≡ look W p b)
      → look W (c ∷ p ++ q) a ≡ look W (c ∷ p) a
  deeper_step d a c p q l h k ih = go (kind a)
    where
      go : Kind a → look W (c ∷ p ++ q) a ≡ look W (c ∷ p) a
      go (empty e) = look_empty W c (p ++ q) a e ∙ sym (look_empty W c p a e)
      go (leaf e) = look_leaf W c (p ++ q) a e ∙ sym (look_leaf W c p a e)
      go (branch b) =
          let m : Live cap W a = live l b.0 in
          look_branch W c (p ++ q) a b
          ∙ ih (child_of W a c) ((w.branches a m b).kids c k) (omega (arith, kid_lower a c m b k))
          ∙ sym (look_branch W c p a b)

  pub look_deeper : {d : ℕ} {p : List ℕ} (a : ℕ) (q : List ℕ) → LiveOr0 cap W a → height_at W a ≤ d → Cell n d p
      → look W (p ++ q) a ≡ look W p a
  look_deeper a q l h here =
      let f : Flat a = low_flat a l (omega arith) in
      look_flat W q a f ∙ sym (look_end W a)
  look_deeper a q l h (down {d = d} {c = c} {p = p} k t) =
      deeper_step d a c p q l h k (λ b m g. look_deeper b q m g t)
