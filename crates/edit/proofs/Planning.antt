-- The dry run of the definition is the plan of crate tree: what is there already, and what is not.
use mathlib.Core.Path.{◌≡◌, refl, sym, ap, ◌∙◌}
use mathlib.Core.Logic.{◌≢◌, ◌⊎◌, inl, inr, ⊎_elim}
use mathlib.Core.Bool.{true, false, true≢false}
use mathlib.Core.List.{List, [], ◌∷◌}
use Prim.Native.Nat.{ℕ, zero, suc, ◌+◌, ◌^◌, ◌≤◌, ◌<◌}
use native.Mathlib.Decide.{ℕ_discrete, dec_lt}
use native.Mathlib.Omega.{arith}
use lib.Dec.{eqb, ltb}
use lib.ListN.{length, get_or}
use borrow.Author.Tests.{eq-eqb, ne_eqb, eqb-true, lt-ltb, le-ltb}
use Rattle.basics.specs.Limits.{kid_words}
use Rattle.nodes.specs.Values.{height_at, value_at}
use Rattle.basics.specs.Pick.{pick}
use Rattle.ids.specs.Ids.{is_leaf, leaf_flag, generation_of}
use Rattle.nodes.specs.Words.{own, value, slot}
use Rattle.nodes.specs.Tally.{tab_from, Live}
use Rattle.nodes.proofs.Counts.{live_own, live_nonzero, floor_pos}
use Rattle.nodes.proofs.Sums.{cases, split, occ_tab, tab_from_length_lem}
use Rattle.tree.specs.Tree.{LiveOr0, Leaf, Branch, WellMade, Cell, here, down}
use Rattle.tree.specs.Anew.{part, replace, All, Mixed, Has, HasValue, nothing, whole, node}
use Rattle.tree.specs.Lacks.{Need, have, lack, Plan, plan_gone, plan_set, plan_leaf, plan_step, plan_branch, plan_more}
use Rattle.tree.proofs.Making.{part_there, part_low, replace_all, renewed}
use Rattle.tree.proofs.Plan.{plan_have}
use Rattle.arena.specs.Tables.{Tables, cap, W, LiveSlot, WellFormed}
use Rattle.arena.specs.Calls.{all_of, find_slot, leaf_in, leaf_slot, branch_in, branch_slot}
use Rattle.arena.proofs.Branches.{branch_words, slot_lone}
use Rattle.arena.proofs.Eight.{all_at}
use Rattle.arena.proofs.Fits.{both}
use Rattle.arena.proofs.Ids.{leaf_flag_lem, branch_flag, gen_small}
use Rattle.arena.proofs.Inv.{wf_inv, wf_content}
use Rattle.arena.proofs.Leaves.{leaf_in_lem, leaf_slot_lem}
use Rattle.arena.proofs.Scan.{find_hit, find_miss}
use Rattle.read_cell.proofs.Meaning.{leaf_above, wf_made}
use Rattle.edit.specs.Edit.{words_of, one_leaf, need_of, cell_need, up_need, plan_of}
use Rattle.edit_way.proofs.Words.{tab_get}
use Rattle.edit.proofs.Wholes.{leaf_node, branch_node, is_branch_lem}

-- ---- the eight words of n parts

module _ (n : ℕ) (f : ℕ → ℕ) where
  pub words_length : length (words_of n f) ≡ kid_words
  unfolding words_of
  words_length = tab_from_length_lem kid_words 0 (λ i. pick (ltb i n) (f i) 0)

  word_get : (i : ℕ) → i < kid_words → get_or (words_of n f) i 0 ≡ pick (ltb i n) (f i) 0
  unfolding words_of
  word_get i l = let z : 0 + i ≡ i = omega arith in tab_get kid_words 0 (λ i. pick (ltb i n) (f i) 0) i l ∙ ap (λ (j : ℕ). pick (ltb j n) (f j) 0) z

  pub words_at : (i : ℕ) → i < kid_words → i < n → get_or (words_of n f) i 0 ≡ f i
  words_at i l h = word_get i l ∙ rw (lt-ltb i n h)

  pub words_past : (i : ℕ) → n ≤ i → i < kid_words → get_or (words_of n f) i 0 ≡ 0
  words_past i h l = word_get i l ∙ rw (le-ltb i n h)

  all_true : (k : ℕ) → all_of (eqb k) (tab_from n 0 f) ≡ true → All n f k
  all_true k e i l = sym (eqb-true k (f i) (all_at (eqb k) (tab_from n 0 f) (f i) e (occ_tab n 0 f i (omega arith) (omega arith))))

pub all_yes : (k n i : ℕ) (f : ℕ → ℕ) → ((j : ℕ) → i ≤ j → j < i + n → f j ≡ k) → all_of (eqb k) (tab_from n i f) ≡ true
unfolding all_of tab_from
all_yes k zero i f h = refl
all_yes k (suc n) i f h =
    rw (eq-eqb k (f i) (sym (h i (omega arith) (omega arith)))) (all_yes k n (suc i) f (λ j a b. h j (omega arith) (omega arith)))

pub leaf_both : (n : ℕ) (f : ℕ → ℕ) → one_leaf n f ≡ true → (is_leaf (f 0) ≡ true) × (all_of (eqb (f 0)) (tab_from n 0 f) ≡ true)
unfolding one_leaf
leaf_both n f q = both (is_leaf (f 0)) (all_of (eqb (f 0)) (tab_from n 0 f)) q

nothing_flag : is_leaf 0 ≡ false
unfolding is_leaf leaf_flag
nothing_flag = refl

-- what n parts come to
pub data Came (n : ℕ) (t : Tables) (f : ℕ → ℕ) : Type 0 where
  came_none : All n f 0 → need_of n t f ≡ have 0 → Came n t f
  came_leaf : Leaf (f 0) → All n f (f 0) → need_of n t f ≡ have (f 0) → Came n t f
  came_node : (r : ℕ) → Mixed n f → Has n (cap t) (W t) f r → need_of n t f ≡ have r → Came n t f
  came_lack : Mixed n f → branch_slot t (words_of n f) ≡ 0 → ((r : ℕ) → ¬ (Has n (cap t) (W t) f r)) → need_of n t f ≡ lack 1 → Came n t f

module _ {n tallest : ℕ} {t : Tables} (m : n ≤ kid_words) (pos : 1 ≤ n) (w : WellFormed n tallest t) where
  -- a live id has the leaf flag exactly if it is a leaf's
  pub flag_leaf : (a : ℕ) → LiveOr0 (cap t) (W t) a → is_leaf a ≡ true → Leaf a
  flag_leaf a (inl z) e = absurd (true≢false (sym e ∙ ap is_leaf z ∙ nothing_flag))
  flag_leaf a (inr l) e =
      ⊎_elim (λ b. b) (λ b. absurd (true≢false (sym e ∙ branch_no b))) (kind_of (dec_lt a (2 ^ 63)))
    where
      kind_of : Dec (a < 2 ^ 63) → Leaf a ⊎ Branch a
      kind_of (yes h) = inr (live_nonzero l, h)
      kind_of (no h) = inl (omega arith)

      branch_no : Branch a → is_leaf a ≡ false
      branch_no b =
          let v = branch_node n tallest (cap t) (W t) m w.sized.most (wf_content w) a l b in
          let low = l.low in
          let most = w.sized.most in
          ap is_leaf (sym l.is ∙ v.id) ∙ branch_flag (W t) (slot a) (generation_of (W t (slot a) own)) (omega arith) (gen_small (W t (slot a) own))

  pub leaf_flagged : (a : ℕ) → LiveOr0 (cap t) (W t) a → Leaf a → is_leaf a ≡ true
  leaf_flagged a (inl z) h = absurd (omega arith)
  leaf_flagged a (inr l) h =
      let v = leaf_node n tallest (cap t) (W t) m w.sized.most (wf_content w) a l h in
      let low = l.low in
      let most = w.sized.most in
      ap is_leaf (sym l.is ∙ v.id) ∙ leaf_flag_lem (slot a) (generation_of (W t (slot a) own)) (omega arith) (gen_small (W t (slot a) own))

  own_live : (s : ℕ) → LiveSlot t s → Live (cap t) (W t) (W t s own) × (slot (W t s own) ≡ s)
  own_live s l =
      let i = wf_inv m w in
      (live_own kid_words (cap t) (W t) [] i.counts s l.0 l.1, i.counts.ids s l.0 l.1)

  module _ (f : ℕ → ℕ) (there : (i : ℕ) → i < n → LiveOr0 (cap t) (W t) (f i)) where
    -- a live slot with those eight words is a branch that has the parts
    in_has : (s : ℕ) → LiveSlot t s → ((j : ℕ) → j < kid_words → W t s j ≡ get_or (words_of n f) j 0) → ¬ (All n f 0) → Has n (cap t) (W t) f (W t s own)
    in_has s l h d =
        let o = own_live s l in
        let at : (i : ℕ) → i < n → W t (slot (W t s own)) i ≡ f i = (λ i k. ap (λ (b : ℕ). W t b i) o.1 ∙ h i (omega arith) ∙ words_at n f i (omega arith) k) in
        record { live = o.0; is_branch = kids_branch (W t s own) o.0 at d; kids = at }
      where
        first : (k : ℕ) → ((i : ℕ) → i < k → f i ≡ 0) ⊎ ((i : ℕ) × (i < k) × (f i ≢ 0))
        first zero = inl (λ i h. absurd (omega arith))
        first (suc k) = ⊎_elim
            (λ a. cases (ℕ_discrete (f k) 0)
            (λ z. inl (λ i h. cases (ℕ_discrete i k) (λ q. ap f q ∙ z) (λ q. a i (omega arith))))
            (λ z. inr (k, omega arith, z)))
            (λ a. inr (a.0, (let b = a.1 in omega arith), a.2)) (first k)

        kids_branch : (a : ℕ) → Live (cap t) (W t) a → ((i : ℕ) → i < n → W t (slot a) i ≡ f i) → ¬ (All n f 0) → Branch a
        kids_branch a l at d = ⊎_elim
            (λ z. absurd (d z))
            (λ z. let b = z.1 in is_branch_lem n tallest (cap t) (W t) m w.sized.most (wf_content w) a z.0 l (omega arith) (λ q. z.2 (sym (at z.0 z.1) ∙ q)))
            (first n)

    mixed : all_of (eqb 0) (tab_from n 0 f) ≡ false → one_leaf n f ≡ false → Mixed n f
    unfolding one_leaf
    mixed e q = record {
      not_empty = λ a. true≢false (sym (all_yes 0 n 0 f (λ j p l. a j (omega arith))) ∙ e);
      not_leaf = λ l h a.
          let z : f 0 ≡ l = a 0 pos in
          let b : Leaf (f 0) = omega arith in
          let g = leaf_flagged (f 0) (there 0 pos) b in
          let y = all_yes (f 0) n 0 f (λ j p k. a j (omega arith) ∙ sym z) in
          true≢false (sym (rw g y) ∙ q);
    }

    -- and the branch that has the parts is a live slot with those eight words
    slot_lack : Mixed n f → branch_slot t (words_of n f) ≡ 0 → (r : ℕ) → ¬ (Has n (cap t) (W t) f r)
    slot_lack x z r h =
        let v = branch_node n tallest (cap t) (W t) m w.sized.most (wf_content w) r h.live h.is_branch in
        let o = h.live.is in
        let g = h.live.high in
        let ground = w.stack.ground in
        slot_lone t (words_of n f) (words_length n f) z (slot r) (h.live.low, omega arith)
        (λ (q : slot r ≡ 0). let y : W t (slot r) own ≡ 0 = ap (λ (b : ℕ). W t b own) q ∙ ground in let p = floor_pos in omega arith)
        (λ j l. cases (dec_lt j n) (λ b. h.kids j b ∙ sym (words_at n f j l b)) (λ b. v.beyond j (omega arith) l ∙ sym (words_past n f j (omega arith) l)))

    slot_has : Mixed n f → branch_slot t (words_of n f) ≢ 0 → Has n (cap t) (W t) f (W t (branch_slot t (words_of n f)) own)
    unfolding branch_slot
    slot_has x d =
        let r = find_hit (branch_in t (words_of n f)) (cap t) d in
        let z = words_length n f in
        let b = branch_words t (words_of n f) (find_slot (branch_in t (words_of n f)) (cap t)) r.0 in
        in_has (find_slot (branch_in t (words_of n f)) (cap t)) (r.1, b.0)
        (λ j l. let q : 0 + j ≡ j = omega arith in rw q at (b.1 j (omega arith))) x.not_empty

    pub need_came : Came n t f
    unfolding need_of
    need_came = split (all_of (eqb 0) (tab_from n 0 f))
        (λ e. came_none (all_true n f 0 e) (rw e))
        (λ e. split (one_leaf n f)
        (λ q. let b = leaf_both n f q in came_leaf (flag_leaf (f 0) (there 0 pos) b.0) (all_true n f (f 0) b.1) (rw (e, q)))
        (λ q. let x = mixed e q in cases (ℕ_discrete (branch_slot t (words_of n f)) 0)
        (λ z. came_lack x z (slot_lack x z) (rw (e, q, eq-eqb (branch_slot t (words_of n f)) 0 z)))
        (λ z. came_node (W t (branch_slot t (words_of n f)) own) x (slot_has x z) (rw (e, q, ne_eqb (branch_slot t (words_of n f)) 0 z)))))

-- ---- the cell itself

leaf_found_lem : (t : Tables) (x r : ℕ) → W t (slot r) own ≡ r → r ≢ 0 → is_leaf r ≡ true → value_at (W t) r ≡ x → leaf_in t x (slot r) ≡ true
unfolding leaf_in value_at
leaf_found_lem t x r o d h v =
    let f : is_leaf (W t (slot r) own) ≡ true = ap is_leaf o ∙ h in
    let e : W t (slot r) value ≡ x = (rw (ne_eqb r 0 d) at v) in
    rw f (eq-eqb (W t (slot r) value) x e)

-- where the value has no live leaf, or has one
pub data Cell-came (n : ℕ) (t : Tables) (x : ℕ) : Type 0 where
  cell_none : x ≡ 0 → cell_need t x ≡ have 0 → Cell-came n t x
  cell_leaf : (r : ℕ) → x ≢ 0 → HasValue (cap t) (W t) x r → cell_need t x ≡ have r → Cell-came n t x
  cell_lack : x ≢ 0 → leaf_slot t x ≡ 0 → ((r : ℕ) → ¬ (HasValue (cap t) (W t) x r)) → cell_need t x ≡ lack 1 → Cell-came n t x

module _ {n tallest : ℕ} {t : Tables} (m : n ≤ kid_words) (pos : 1 ≤ n) (w : WellFormed n tallest t) (x : ℕ) where
  slot_value : x ≢ 0 → leaf_slot t x ≢ 0 → HasValue (cap t) (W t) x (W t (leaf_slot t x) own)
  unfolding value_at
  slot_value d z =
      let q = leaf_slot_lem m w x d z in
      let b = leaf_in_lem m w x d (leaf_slot t x) q.0 q.1 in
      let o = own_live m pos w (leaf_slot t x) b.0 in
      let f = b.1 in
      record {
        live = o.0;
        is_leaf = omega (arith, f.id, leaf_above (leaf_slot t x) (generation_of (W t (leaf_slot t x) own)));
        value = rw (ne_eqb (W t (leaf_slot t x) own) 0 (live_nonzero o.0), o.1) b.2;
      }

  value_lack : leaf_slot t x ≡ 0 → (r : ℕ) → ¬ (HasValue (cap t) (W t) x r)
  unfolding leaf_slot
  value_lack z r h =
      let o = h.live.is in
      let g = h.live.high in
      let ground = w.stack.ground in
      true≢false (sym (value_in_lem r h) ∙ find_miss (leaf_in t x) (cap t) z (slot r) h.live.low
      (λ (q : slot r ≡ 0). let y : W t (slot r) own ≡ 0 = ap (λ (b : ℕ). W t b own) q ∙ ground in let p = floor_pos in omega arith))
    where
      value_in_lem : (r : ℕ) → HasValue (cap t) (W t) x r → leaf_in t x (slot r) ≡ true
      value_in_lem r h = leaf_found_lem t x r h.live.is (live_nonzero h.live) (leaf_flagged m pos w r (inr h.live) h.is_leaf) h.value

  pub cell_came : Cell-came n t x
  unfolding cell_need
  cell_came = cases (ℕ_discrete x 0)
      (λ z. cell_none z (rw (eq-eqb x 0 z)))
      (λ d. cases (ℕ_discrete (leaf_slot t x) 0)
      (λ z. cell_lack d z (value_lack z) (rw (ne_eqb x 0 d, eq-eqb (leaf_slot t x) 0 z)))
      (λ z. cell_leaf (W t (leaf_slot t x) own) d (slot_value d z) (rw (ne_eqb x 0 d, ne_eqb (leaf_slot t x) 0 z))))

  -- ---- the plan

  cell_plan_lem : (a : ℕ) → Cell-came n t x → Plan n (cap t) (W t) x [] a (cell_need t x)
  cell_plan_lem a (cell_none z e) = rw e (plan_gone z)
  cell_plan_lem a (cell_leaf r d h e) = rw e (plan_set d h)
  cell_plan_lem a (cell_lack d z h e) = rw e (plan_leaf d h)

  need_plan_lem : (c a s : ℕ) (p : List ℕ) → Plan n (cap t) (W t) x p (part (W t) a c) (have s) → Came n t (replace (part (W t) a) c s)
      → Plan n (cap t) (W t) x (c ∷ p) a (need_of n t (replace (part (W t) a) c s))
  need_plan_lem c a s p u (came_none h e) = rw e (plan_step u (nothing h refl))
  need_plan_lem c a s p u (came_leaf l h e) = rw e (plan_step u (whole l h))
  need_plan_lem c a s p u (came_node r x h e) = rw e (plan_step u (node x h))
  need_plan_lem c a s p u (came_lack x z h e) = rw e (plan_branch u x h)

  abbrev made : WellMade n (cap t) (W t)
  made = wf_made m w

  -- the parts with one replaced are EMPTY or live
  pub parts_there : (d c a s : ℕ) (p : List ℕ) → LiveOr0 (cap t) (W t) a → height_at (W t) a ≤ suc d → c < n → Cell n d p
      → Plan n (cap t) (W t) x p (part (W t) a c) (have s) → (i : ℕ) → i < n → LiveOr0 (cap t) (W t) (replace (part (W t) a) c s i)
  parts_there d c a s p l h k q u i z =
      replace_all (LiveOr0 (cap t) (W t)) (part (W t) a) c s i
      (renewed n (cap t) pos (W t) made x (part_there n (cap t) (W t) made a c l k) (part_low n (cap t) (W t) made a c l k d h) q (plan_have u)).there
      (part_there n (cap t) (W t) made a i l z)

  plan_up_lem : (d c a : ℕ) (p : List ℕ) → LiveOr0 (cap t) (W t) a → height_at (W t) a ≤ suc d → c < n → Cell n d p → (r : Need)
      → Plan n (cap t) (W t) x p (part (W t) a c) r
      → Plan n (cap t) (W t) x (c ∷ p) a (up_need (λ s. need_of n t (replace (part (W t) a) c s)) r)
  unfolding up_need
  plan_up_lem d c a p l h k q (have s) u =
      need_plan_lem c a s p u (need_came m pos w (replace (part (W t) a) c s) (parts_there d c a s p l h k q u))
  plan_up_lem d c a p l h k q (lack j) u = plan_more u

  -- the dry run of the definition is the plan
  pub plan_is : {d : ℕ} {p : List ℕ} (a : ℕ) → LiveOr0 (cap t) (W t) a → height_at (W t) a ≤ d → Cell n d p
      → Plan n (cap t) (W t) x p a (plan_of n t x p a)
  unfolding plan_of
  plan_is a l h here = cell_plan_lem a cell_came
  plan_is a l h (down {d = d} {c = c} {p = p} k q) =
      plan_up_lem d c a p l h k q (plan_of n t x p (part (W t) a c))
      (plan_is (part (W t) a c) (part_there n (cap t) (W t) made a c l k) (part_low n (cap t) (W t) made a c l k d h) q)
