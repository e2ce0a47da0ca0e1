-- Tables with more slots: what an edit lacks always has room in them, and it is as many nodes in all of them.
use mathlib.Core.Path.{◌≡◌, refl, sym, ap, subst, ◌∙◌}
use mathlib.Core.Logic.{◌≢◌, ◌⊎◌, inl, inr, ⊎_elim}
use mathlib.Core.List.Memᴰ
use mathlib.Core.List.{List, [], ◌∷◌, Memᴰ}
use Prim.Native.Nat.{ℕ, suc, ◌+◌, ◌*◌, ◌/◌, ◌^◌, ◌≤◌, ◌<◌}
use native.Mathlib.Decide.{ℕ_discrete, dec_lt}
use native.Mathlib.Omega.{arith}
use lib.Dec.{eqb, ltb}
use lib.ListN.{length}
use borrow.Author.Tests.{eq-eqb, ne_eqb, lt-ltb}
use Rattle.basics.specs.Pick.{pick}
use Rattle.basics.specs.Sums.{average}
use Rattle.ids.specs.Ids.{index_of}
use Rattle.nodes.specs.Words.{Words, Nodes, word_of, own, value, height, slot, floor}
use Rattle.nodes.specs.Values.{value_at, height_at, max_to}
use Rattle.nodes.specs.Tally.{Live}
use Rattle.nodes.proofs.Access.{word_fact, fact_out}
use Rattle.nodes.proofs.Rows.{in_short}
use Rattle.nodes.proofs.Counts.{floor_pos, live_nonzero}
use Rattle.nodes.proofs.Sums.{cases, sum_to_ext_lem}
use Rattle.tree.specs.Tree.{Branch, LiveOr0, child_of, WellMade, Cell, here, down, Extends}
use Rattle.tree.specs.Anew.{part, replace, All, Mixed, Has, HasValue, Makes, nothing, whole, node, Anew, gone, set, step}
use Rattle.tree.specs.Lacks.{Need, lack, Plan, plan_gone, plan_set, plan_leaf, plan_step, plan_branch, plan_more, Once, Lacks, Newly}
use Rattle.tree.specs.Room.{Bare, Room}
use Rattle.tree.proofs.Canon.{live}
use Rattle.tree.proofs.Grow.{extends_keeps, extends_trans, there_later, below_live, below_earlier}
use Rattle.tree.proofs.Making.{part_there, part_low, replace_same, replace_other, replace_all, renewed, anew_up}
use Rattle.tree.proofs.OneNode.{Added, added_extends, added_live, added_made, fresh_branch, max_to_cong_lem}
use Rattle.tree.proofs.Plan.{plan_have}

-- ## Dead slots more change nothing

-- what lies outside the tables reads 0
pub tables_bare : (x : Nodes) (cap : ℕ) → length x.facts ≡ 11 * cap → Bare cap (word_of x)
tables_bare x cap e s h =
    let z : word_of x s own ≡ 0 = word_fact x s own (omega arith) ∙ fact_out x.facts s own (in_short 11 x.facts s (omega arith)) in
    omega (arith, floor_pos)

module _ {cap c : ℕ} {W : Words} where
  pub live_more : {y : ℕ} → cap ≤ c → Live cap W y → Live c W y
  live_more h l = record { low = omega (arith, l.low); is = l.is; high = l.high }

  pub live_less : {y : ℕ} → Bare cap W → Live c W y → Live cap W y
  live_less {y} b l = cases (dec_lt (slot y) cap) (λ h. record { low = h; is = l.is; high = l.high })
      (λ h. absurd (let z = b (slot y) (omega arith) in omega (arith, l.is, l.high)))

  pub there_more : {y : ℕ} → cap ≤ c → LiveOr0 cap W y → LiveOr0 c W y
  there_more h (inl e) = inl e
  there_more h (inr l) = inr (live_more h l)

  has_more : {n : ℕ} {f : ℕ → ℕ} {r : ℕ} → cap ≤ c → Has n cap W f r → Has n c W f r
  has_more h y = record { live = live_more h y.live; is_branch = y.is_branch; kids = y.kids }

  has_less : {n : ℕ} {f : ℕ → ℕ} {r : ℕ} → Bare cap W → Has n c W f r → Has n cap W f r
  has_less b y = record { live = live_less b y.live; is_branch = y.is_branch; kids = y.kids }

  value_more : {x r : ℕ} → cap ≤ c → HasValue cap W x r → HasValue c W x r
  value_more h y = record { live = live_more h y.live; is_leaf = y.is_leaf; value = y.value }

  value_less : {x r : ℕ} → Bare cap W → HasValue c W x r → HasValue cap W x r
  value_less b y = record { live = live_less b y.live; is_leaf = y.is_leaf; value = y.value }

  makes_more : {n : ℕ} {f : ℕ → ℕ} {r : ℕ} → cap ≤ c → Makes n cap W f r → Makes n c W f r
  makes_more h (nothing a e) = nothing a e
  makes_more h (whole l a) = whole l a
  makes_more h (node x y) = node x (has_more h y)

  pub made_more : {n : ℕ} → cap ≤ c → Bare cap W → WellMade n cap W → WellMade n c W
  made_more h b w =
      record {
        leaves = λ a l. w.leaves a (live_less b l);
        branches = λ a l k.
            let m = w.branches a (live_less b l) k in
            record { kids = λ i q. there_more h (m.kids i q); not_all_empty = m.not_all_empty; averaged = m.averaged; tall = m.tall };
        one_leaf = λ a e l m. w.one_leaf a e (live_less b l) (live_less b m);
        one_branch = λ a e l m. w.one_branch a e (live_less b l) (live_less b m);
      }

  pub extends_more : {n : ℕ} {W' : Words} → cap ≤ c → Bare cap W → Extends n cap W W' → Extends n c W W'
  extends_more h b g a l =
      let s = g a (live_less b l) in
      let o = s.still in
      record {
        still = record { low = omega (arith, o.low); is = o.is; high = o.high };
        kids = s.kids;
        value = s.value;
        height = s.height;
      }

  pub anew_more : {n x : ℕ} {p : List ℕ} {a r : ℕ} → cap ≤ c → Anew n cap W x p a r → Anew n c W x p a r
  anew_more h (gone z e) = gone z e
  anew_more h (set z m) = set z (value_more h m)
  anew_more h (step u m) = step (anew_more h u) (makes_more h m)

  -- the dry run comes to the same
  pub plan_wider : {n x : ℕ} {p : List ℕ} {a : ℕ} {m : Need} → cap ≤ c → Bare cap W → Plan n cap W x p a m → Plan n c W x p a m
  plan_wider h b (plan_gone z) = plan_gone z
  plan_wider h b (plan_set z m) = plan_set z (value_more h m)
  plan_wider h b (plan_leaf z q) = plan_leaf z (λ r m. q r (value_less b m))
  plan_wider h b (plan_step u m) = plan_step (plan_wider h b u) (makes_more h m)
  plan_wider h b (plan_branch u y z) = plan_branch (plan_wider h b u) y (λ r m. z r (has_less b m))
  plan_wider h b (plan_more u) = plan_more (plan_wider h b u)

-- at most one node a level
pub plan_few : {n cap d : ℕ} {W : Words} {x : ℕ} {p : List ℕ} {a k : ℕ} → Cell n d p → Plan n cap W x p a (lack k) → k ≤ suc d
plan_few here (plan_leaf z q) = omega arith
plan_few (down h t) (plan_branch u y z) = omega arith
plan_few (down h t) (plan_more u) = let i = plan_few t u in omega arith

-- and at least one
pub plan_some : {n cap : ℕ} {W : Words} {x : ℕ} {p : List ℕ} {a k : ℕ} → Plan n cap W x p a (lack k) → 1 ≤ k
plan_some (plan_leaf z q) = omega arith
plan_some (plan_branch u y z) = omega arith
plan_some (plan_more u) = omega arith

-- ## One slot more, with a node in it

-- the slot s has the words g
unfoldable filled : Words → ℕ → (ℕ → ℕ) → Words
filled W s g i f = pick (eqb i s) (g f) (W i f)

-- the words of a node: its children, its id, its value, its height
unfoldable node_words : (ℕ → ℕ) → ℕ → ℕ → ℕ → ℕ → ℕ
node_words k id v h f = pick (ltb f 8) (k f) (pick (eqb f own) id (pick (eqb f value) v h))

filled_here : (W : Words) (s : ℕ) (g : ℕ → ℕ) (i f : ℕ) → i ≡ s → filled W s g i f ≡ g f
unfolding filled
filled_here W s g i f e = rw (eq-eqb i s e)

filled_other : (W : Words) (s : ℕ) (g : ℕ → ℕ) (i f : ℕ) → i ≢ s → filled W s g i f ≡ W i f
unfolding filled
filled_other W s g i f e = rw (ne_eqb i s e)

node_kid : (k : ℕ → ℕ) (id v h i : ℕ) → i < 8 → node_words k id v h i ≡ k i
unfolding node_words
node_kid k id v h i l = rw (lt-ltb i 8 l)

node_own : (k : ℕ → ℕ) (id v h : ℕ) → node_words k id v h own ≡ id
unfolding node_words
node_own k id v h = refl

node_value : (k : ℕ → ℕ) (id v h : ℕ) → node_words k id v h value ≡ v
unfolding node_words
node_value k id v h = refl

node_height : (k : ℕ → ℕ) (id v h : ℕ) → node_words k id v h height ≡ h
unfolding node_words
node_height k id v h = refl

-- an id in the slot s: a leaf's, a branch's
abbrev leaf_in : ℕ → ℕ
leaf_in s = 2 ^ 63 + s

abbrev branch_in : ℕ → ℕ
branch_in s = 2 ^ 47 + s

leaf_slot_lem : (s : ℕ) → s < 2 ^ 32 → slot (leaf_in s) ≡ s
unfolding slot index_of
leaf_slot_lem s h = omega arith

branch_slot_lem : (s : ℕ) → s < 2 ^ 32 → slot (branch_in s) ≡ s
unfolding slot index_of
branch_slot_lem s h = omega arith

leaf_high : (s : ℕ) → floor ≤ leaf_in s
unfolding floor
leaf_high s = omega arith

branch_high : (s : ℕ) → floor ≤ branch_in s
unfolding floor
branch_high s = omega arith

value_read : (W : Words) (y : ℕ) → y ≢ 0 → value_at W y ≡ W (slot y) value
unfolding value_at
value_read W y d = rw (ne_eqb y 0 d)

height_read : (W : Words) (y : ℕ) → y ≢ 0 → height_at W y ≡ W (slot y) height
unfolding height_at
height_read W y d = rw (ne_eqb y 0 d)

-- no live branch names the id
abbrev Unnamed : ℕ → ℕ → Words → ℕ → Type 0
Unnamed n cap W r = (y : ℕ) → Live cap W y → Branch y → (i : ℕ) → i < n → child_of W y i ≢ r

-- W' is W with the node r in the slot cap, which no branch names
record Next (n cap : ℕ) (W W' : Words) (r : ℕ) : Type 0 where
  made : WellMade n (suc cap) W'
  bare : Bare (suc cap) W'
  grows : Extends n (suc cap) W W'
  now : Live (suc cap) W' r
  stands : slot r ≡ cap
  unnamed : Unnamed n (suc cap) W' r
  kept : (s : ℕ) → s < cap → (f : ℕ) → W' s f ≡ W s f

module _ (n cap : ℕ) (n≤8 : n ≤ 8) (W : Words) (w : WellMade n cap W) (b : Bare cap W) (few : cap < 2 ^ 32) where
  more : WellMade n (suc cap) W
  more = made_more (omega arith) b w

  module _ (id : ℕ) (stands : slot id ≡ cap) (high : floor ≤ id) (k : ℕ → ℕ) (v h : ℕ) where
    abbrev later : Words
    later = filled W cap (node_words k id v h)

    at : (f : ℕ) → later (slot id) f ≡ node_words k id v h f
    at f = filled_here W cap (node_words k id v h) (slot id) f stands

    elsewhere : (s f : ℕ) → s ≢ cap → later s f ≡ W s f
    elsewhere s f d = filled_other W cap (node_words k id v h) s f d

    nonzero : id ≢ 0
    nonzero e = let z = floor_pos in omega arith

    now : Live (suc cap) later id
    now = record { low = omega arith; is = at own ∙ node_own k id v h; high = high }

    added : Added (suc cap) W later id
    added = record { dead = b (slot id) (omega arith); now = now; rest = λ s d f q. elsewhere s f (λ e. d (e ∙ sym stands)) }

    kid : (i : ℕ) → i < n → child_of later id i ≡ k i
    kid i q = at i ∙ node_kid k id v h i (omega arith)

    value_is : value_at later id ≡ v
    value_is = value_read later id nonzero ∙ at value ∙ node_value k id v h

    height_is : height_at later id ≡ h
    height_is = height_read later id nonzero ∙ at height ∙ node_height k id v h

    -- what is there in the old tables is not the new node
    old_not : (y : ℕ) → LiveOr0 cap W y → y ≢ id
    old_not y (inl e) z = nonzero (sym z ∙ e)
    old_not y (inr l) z = let q = l.low in let u : slot y ≡ slot id = ap slot z in omega arith

    next : (Branch id → (i : ℕ) → i < n → LiveOr0 cap W (k i)) → WellMade n (suc cap) later → Next n cap W later id
    next kids made = record {
      made = made;
      bare = λ s q. let e = elsewhere s own (omega arith) in let z = b s (omega arith) in omega arith;
      grows = added_extends n≤8 more added;
      now = now;
      stands = stands;
      unnamed = λ y l q i j. unnamed y q i j (added_live n≤8 more added l);
      kept = λ s q f. elsewhere s f (omega arith);
    }
      where
        unnamed : (y : ℕ) → Branch y → (i : ℕ) → i < n → (y ≡ id) ⊎ Live (suc cap) W y → child_of later y i ≢ id
        unnamed y q i j (inl e) z =
            old_not (k i) (kids (subst (λ (u : ℕ). Branch u) e q) i j) (sym (kid i j) ∙ ap (λ (u : ℕ). child_of later u i) (sym e) ∙ z)
        unnamed y q i j (inr l) z =
            old_not (child_of W y i) ((w.branches y (live_less b l) q).kids i j) ((added_extends n≤8 more added y l).kids i j ∙ z)

  -- a leaf of a value that no leaf has
  next_leaf : (x : ℕ) → x ≢ 0 → ((r : ℕ) → ¬ (HasValue cap W x r)) → (W' : Words) × Next n cap W W' (leaf_in cap) × HasValue (suc cap) W' x (leaf_in cap)
  next_leaf x z q =
      let s = leaf_slot_lem cap few in
      let g = leaf_high cap in
      let W' = later (leaf_in cap) s g (λ i. 0) x 0 in
      let v = value_is (leaf_in cap) s g (λ i. 0) x 0 in (
        W',
        next (leaf_in cap) s g (λ i. 0) x 0 (λ u. absurd (omega (arith, u.1)))
            (added_made n≤8 more (added (leaf_in cap) s g (λ i. 0) x 0)
            (λ l. record { something = λ e. z (sym v ∙ e); flat = height_is (leaf_in cap) s g (λ i. 0) x 0 })
            (λ u. absurd (omega (arith, u.1)))
            (λ y l f u e. q y (record { live = live_less b l; is_leaf = f; value = e ∙ v }))
            (λ y l f u. absurd (omega (arith, u.1)))),
        record { live = now (leaf_in cap) s g (λ i. 0) x 0; is_leaf = omega arith; value = v },
      )

  -- a branch of parts that are there, which no branch has
  next_branch : (f : ℕ → ℕ) → Mixed n f → ((i : ℕ) → i < n → LiveOr0 cap W (f i)) → ((r : ℕ) → ¬ (Has n cap W f r))
      → (W' : Words) × Next n cap W W' (branch_in cap) × Makes n (suc cap) W' f (branch_in cap)
  next_branch f y there q =
      let s = branch_slot_lem cap few in
      let g = branch_high cap in
      let v = average n (λ i. value_at W (f i)) in
      let h = suc (max_to n (λ i. height_at W (f i))) in
      let W' = later (branch_in cap) s g f v h in
      let k = kid (branch_in cap) s g f v h in
      let o : Branch (branch_in cap) = (λ e. nonzero (branch_in cap) s g f v h e, omega arith) in
      let t = added (branch_in cap) s g f v h in (
        W',
        next (branch_in cap) s g f v h (λ u. there)
            (added_made n≤8 more t (λ l. absurd (omega (arith, l)))
            (λ u. fresh_branch n≤8 more t (λ i j. rw (k i j) (there_more (omega arith) (there i j))) (λ e. y.not_empty (λ i j. sym (k i j) ∙ e i j))
            (value_is (branch_in cap) s g f v h ∙ ap (λ (z : ℕ). z / n) (sum_to_ext_lem n _ _ (λ i j. ap (value_at W) (sym (k i j)))))
            (height_is (branch_in cap) s g f v h ∙ ap suc (max_to_cong_lem n _ _ (λ i j. ap (height_at W) (sym (k i j))))))
            (λ c l j u. absurd (omega (arith, u)))
            (λ c l j u e. q c (record { live = live_less b l; is_branch = j; kids = λ i z. e i z ∙ k i z }))),
        node y (record { live = now (branch_in cap) s g f v h; is_branch = o; kids = k }),
      )

-- ## As many slots more as nodes are lacking

module _ (n cap : ℕ) (n≥2 : 1 < n) (n≤8 : n ≤ 8) (W : Words) (w : WellMade n cap W) (b : Bare cap W) (x : ℕ) where
  -- the cell itself
  room_leaf : (a : ℕ) → x ≢ 0 → ((r : ℕ) → ¬ (HasValue cap W x r)) → cap < 2 ^ 32 → Room n cap W x [] a 1
  room_leaf a z q few =
      let t = next_leaf n cap n≤8 W w b few x z q in
      let m = t.1 in
      let e = m.stands in
      record {
        slots = suc cap;
        words = t.0;
        id = leaf_in cap;
        size = omega arith;
        made = m.made;
        bare = m.bare;
        grows = m.grows;
        anew = set z t.2;
        now = m.now;
        new = omega arith;
        unnamed = m.unnamed;
        kept = m.kept;
      }

  -- one level up: the part s was made anew in W₁, which has k slots more
  room_up : (d c a s k c₁ : ℕ) (W₁ : Words) (p : List ℕ) → LiveOr0 cap W a → c < n → Cell n d p → c₁ ≡ cap + k → c₁ < 2 ^ 32 → WellMade n c₁ W₁
      → Bare c₁ W₁ → Extends n c₁ W W₁ → ((i : ℕ) → i < cap → (f : ℕ) → W₁ i f ≡ W i f) → Anew n c₁ W₁ x p (part W a c) s → LiveOr0 c₁ W₁ s
      → Mixed n (replace (part W a) c s) → ((r : ℕ) → ¬ (Has n c₁ W₁ (replace (part W a) c s) r)) → Room n cap W x (c ∷ p) a (suc k)
  room_up d c a s k c₁ W₁ p l h t size few w₁ b₁ g kept u ls y q =
      let wide : WellMade n c₁ W = made_more (omega arith) b w in
      let there : (i : ℕ) → i < n → LiveOr0 c₁ W₁ (replace (part W a) c s i) = λ i j.
      replace_all (LiveOr0 c₁ W₁) (part W a) c s i ls
      (there_later n c₁ W W₁ wide (part W a i) (there_more (omega arith) (part_there n cap W w a i l j)) (extends_keeps g (part W a i))) in
      let o = next_branch n c₁ n≤8 W₁ w₁ b₁ few (replace (part W a) c s) y there q in
      let m = o.1 in
      let e = m.stands in
      let b₂ : Bare c₁ W = λ i j. b i (omega arith) in
      let g₁ : Extends n (suc c₁) W W₁ = extends_more (omega arith) b₂ g in
      record {
        slots = suc c₁;
        words = o.0;
        id = branch_in c₁;
        size = omega arith;
        made = m.made;
        bare = m.bare;
        grows = extends_trans g₁ m.grows;
        anew = anew_up (made_more (omega arith) b w) (made_more (omega arith) b₁ w₁) g₁ m.grows (there_more (omega arith) l) h t (anew_more (omega arith) u) o.2;
        now = m.now;
        new = omega arith;
        unnamed = m.unnamed;
        kept = λ i j f. m.kept i (omega arith) f ∙ kept i j f;
      }

  -- over a new part
  room_more : (d c a k : ℕ) (p : List ℕ) → LiveOr0 cap W a → c < n → Cell n d p → cap + suc k ≤ 2 ^ 32 → Room n cap W x p (part W a c) k
      → Room n cap W x (c ∷ p) a (suc k)
  room_more d c a k p l h t few o =
      let e = o.size in
      room_up d c a o.id k o.slots o.words p l h t o.size (omega arith) o.made o.bare o.grows o.kept o.anew (inr o.now)
      (record { not_empty = λ all. live_nonzero o.now (sym at_c ∙ all c h); not_leaf = λ y q all. whole_not y all (ℕ_discrete c 0) })
      (λ r m. o.unnamed r m.live m.is_branch c h (m.kids c h ∙ at_c))
    where
      at_c : replace (part W a) c o.id c ≡ o.id
      at_c = replace_same (part W a) c o.id c refl

      old_not : (y : ℕ) → LiveOr0 cap W y → y ≢ o.id
      old_not y (inl e) z = live_nonzero o.now (sym z ∙ e)
      old_not y (inr m) z = let q = m.low in let u : slot y ≡ slot o.id = ap slot z in let v = o.new in omega arith

      other : (y i : ℕ) → i < n → i ≢ c → All n (replace (part W a) c o.id) y → ⊥
      other y i j z all =
          old_not (part W a i) (part_there n cap W w a i l j) (sym (replace_other (part W a) c o.id i z) ∙ all i j ∙ sym (all c h) ∙ at_c)

      whole_not : (y : ℕ) → All n (replace (part W a) c o.id) y → Dec (c ≡ 0) → ⊥
      whole_not y all (yes e) = other y 1 n≥2 (λ z. omega arith) all
      whole_not y all (no e) = other y 0 (omega arith) (λ z. e (sym z)) all

  -- there is room for what the dry run lacks
  pub room : {d : ℕ} {p : List ℕ} {a k : ℕ} → LiveOr0 cap W a → height_at W a ≤ d → Cell n d p → cap + k ≤ 2 ^ 32 → Plan n cap W x p a (lack k)
      → Room n cap W x p a k
  room l h here few (plan_leaf {a = a} z q) = room_leaf a z q (omega arith)
  room l h (down {d = d} k t) few (plan_branch {c = c} {p = p} {a = a} {s = s} u y z) =
      let m = part_there n cap W w a c l k in
      room_up d c a s 0 cap W p l k t (omega arith) (omega arith) w b (λ i j. record { still = j; kids = λ q f. refl; value = refl; height = refl }) (λ i j f. refl)
      (plan_have u) (renewed n cap (omega arith) W w x m (part_low n cap W w a c l k d h) t (plan_have u)).there y z
  room l h (down {d = d} e t) few (plan_more {c = c} {p = p} {a = a} {k = k} u) =
      room_more d c a k p l e t few (room (part_there n cap W w a c l e) (part_low n cap W w a c l e d h) t (omega arith) u)

-- ## The number of new nodes is one

pub lacks_newly : {n cap : ℕ} {W W' : Words} {r k : ℕ} → Lacks n cap W W' r k → Newly n cap W W' r k
lacks_newly s = let m = s.new in record { nodes = s.nodes; many = s.many; new = m.below; all = m.all; once = m.once }

-- a list without one place of t
without : {t : ℕ} {us : List ℕ} → Memᴰ t us → (vs : List ℕ) × (length us ≡ suc (length vs)) × ((y : ℕ) → Memᴰ y us → y ≢ t → Memᴰ y vs)
without {t} (Memᴰ.head {x = x} {xs = xs} e) =
    (xs, refl, λ y m d. ⊎_elim (λ z. absurd (d (z ∙ sym e))) (λ z. z) (Memᴰ.cases_cons m))
without {t} (Memᴰ.tail {x = x} {xs = xs} m) =
    let r = without m in
    (x ∷ r.0, ap suc r.1, λ y q d. ⊎_elim (λ z. Memᴰ.head z) (λ z. Memᴰ.tail (r.2 y z d)) (Memᴰ.cases_cons q))

once_le : (ts us : List ℕ) → Once ts → ((y : ℕ) → Memᴰ y ts → Memᴰ y us) → length ts ≤ length us
once_le [] us o h = omega arith
once_le (t ∷ ts) us o h =
    let r = without (h t (Memᴰ.head refl)) in
    let e = r.1 in
    let i = once_le ts r.0 o.1 (λ y m. r.2 y (h y (Memᴰ.tail m)) (λ z. o.0 (Memᴰ.cast (sym z) m))) in
    omega arith

module _ {n cap : ℕ} {W W' : Words} {r : ℕ} where
  newly_le : {k j : ℕ} → Newly n cap W W' r k → Newly n cap W W' r j → k ≤ j
  newly_le s t =
      let e = s.many in
      let f = t.many in
      let h = once_le s.nodes t.nodes s.once
      (λ y m. let u = s.new y m in ⊎_elim (λ l. absurd (u.2 l)) (λ z. z) (t.all y u.0 u.1)) in
      omega arith

  pub newly_one : {k j : ℕ} → Newly n cap W W' r k → Newly n cap W W' r j → k ≡ j
  newly_one s t = let a = newly_le s t in let b = newly_le t s in omega arith

-- a node that was there has no new nodes
pub newly_old : {n cap : ℕ} {W W' : Words} {r : ℕ} → WellMade n cap W → Extends n cap W W' → LiveOr0 cap W r → Newly n cap W W' r 0
newly_old {n} {cap} {W} {W'} {r} w g l = record {
  nodes = [];
  many = refl;
  new = λ t m. absurd (Memᴰ.not-nil m);
  all = λ b u m. inl (live (below_live w l (below_earlier n cap W W' w l (extends_keeps g r) u)) (live_nonzero m));
  once = tt;
}
