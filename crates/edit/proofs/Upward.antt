-- The making, leaf first and upward: it leaves the rules kept, moves no node, and its answer is the node made anew.
use mathlib.Core.Path.{◌≡◌, refl, sym, ap, ◌∙◌, subst}
use mathlib.Core.Logic.{◌≢◌, ◌⊎◌, inl, inr, ⊎_elim}
use mathlib.Core.Bool.{false}
use mathlib.Core.List.{List, [], ◌∷◌, ◌++◌}
use Prim.Native.Nat.{ℕ, zero, suc, ◌+◌, ◌≤◌, ◌<◌}
use native.Mathlib.Decide.{ℕ_discrete, dec_lt}
use native.Mathlib.Omega.{arith}
use lib.Dec.{eqb}
use Rattle.basics.specs.Limits.{kid_words, largest_value, most_holds}
use Rattle.basics.specs.Pick.{pick}
use lib.ListN.{length, get_or, set, replicate, length-set}
use borrow.Author.Tests.{eqb-true, ne_eqb}
use Rattle.nodes.specs.Words.{own, value, height, holds, places, slot, floor, Words}
use Rattle.nodes.specs.Tally.{kids_of, occ, Live}
use Rattle.nodes.proofs.Counts.{live_inj, live_same, live_own, live_nonzero, total, kid_occ, occ_le_tally}
use Rattle.nodes.proofs.Sums.{cases, split, occ_nil, occ_cons, occ_here, occ_append, same_diff}
use Rattle.tree.specs.Tree.{LiveOr0, Branch, WellMade, Cell, here, down, Extends, Below, self, under}
use Rattle.tree.specs.Anew.{part, replace, Mixed, node, Anew, set as anew-set}
use Rattle.tree.specs.Lacks.{Need, have, lack, Plan, plan_leaf}
use Rattle.tree.proofs.Grow.{below_later, extends_keeps, there_later, height_later}
use Rattle.tree.proofs.Making.{part_there, part_low, replace_same, replace_other, replace_all, renewed, anew_later, anew_up}
use Rattle.tree.proofs.Plan.{plan_have}
use Rattle.arena.specs.Node.{height_for, value_for}
use Rattle.nodes.specs.Values.{height_at, max_to, value_at}
use Rattle.arena.specs.Tables.{live_in, Tables, cap, W, LiveSlot, WellFormed}
use Rattle.arena.specs.Calls.{Out, said, none_of, each, empties, leaf_anew, branch_anew, branch_slot}
use Rattle.arena.proofs.Branches.{some_kid, occ_at, occ_in, slot_lone}
use Rattle.arena.proofs.Eight.{all_at}
use Rattle.arena.proofs.Fresh.{Grown, Fresh, Makes-one, leaf_new, leaf_makes, branch_makes}
use Rattle.arena.proofs.Inv.{Inv, Content, wf_inv, wf_content}
use Rattle.arena.proofs.Leaves.{leaf_alone}
use Rattle.arena.proofs.Searched.{not_ground}
use Rattle.arena.proofs.Rows.{empties_at}
use Rattle.read_cell.proofs.Meaning.{wf_made}
use Rattle.edit.specs.Edit.{words_of, need_of, up_need, plan_of, owed, low_of, make_of}
use Rattle.edit.proofs.Growing.{grown_live, grown_debt, grown_trans, grown_extends, owed_grown, owed_word, each_grown, each_nil, each_cons, each_word, each_cap}
use Rattle.edit.proofs.Wholes.{content_made, is_leaf_lem, is_branch_lem}
use Rattle.edit.proofs.Planning.{words_length, words_at, words_past, Came, came_none, came_leaf, came_node, came_lack, need_came, Cell-came, cell_none, cell_leaf, cell_lack, cell_came, plan_is, parts_there}

pub have_lack : {r k : ℕ} → have r ≡ lack k → ⊥
have_lack e = let z : ◌≡◌ {A = ℕ} 0 1 = cc in omega arith

pub lack_inj : {j k : ℕ} → lack j ≡ lack k → j ≡ k
lack_inj e = cc

leaf_lacks : {n cap : ℕ} {U : Words} {x a k : ℕ} → Plan n cap U x [] a (lack k) → 1 ≡ k
leaf_lacks (plan_leaf z q) = refl

-- ---- one of a list replaced

occ_set : (ks : List ℕ) (c s y : ℕ) → c < length ks → get_or ks c 0 ≡ s → y ≢ 0 → occ y (set ks c 0) + occ y (s ∷ []) ≡ occ y ks
occ_set [] c s y l e d = absurd (omega arith)
occ_set (k ∷ ks) zero s y l e d =
    let z : occ y (k ∷ ks) ≡ occ y (s ∷ ks) = ap (λ (x : ℕ). occ y (x ∷ ks)) e in
    omega (arith, occ_cons y 0 ks, occ_cons y s ks, occ_cons y s [], occ_nil y, same_diff y 0 d)
occ_set (k ∷ ks) (suc c) s y l e d = let r = occ_set ks c s y (omega arith) e d in omega (arith, occ_cons y k (set ks c 0), occ_cons y k ks)

pub set_at : (ks : List ℕ) (c v : ℕ) → c < length ks → get_or (set ks c v) c 0 ≡ v
set_at [] c v l = absurd (omega arith)
set_at (k ∷ ks) zero v l = refl
set_at (k ∷ ks) (suc c) v l = set_at ks c v (omega arith)

pub set_other : (ks : List ℕ) (c v j : ℕ) → j ≢ c → get_or (set ks c v) j 0 ≡ get_or ks j 0
set_other [] c v j d = refl
set_other (k ∷ ks) zero v zero d = absurd (d refl)
set_other (k ∷ ks) zero v (suc j) d = refl
set_other (k ∷ ks) (suc c) v zero d = refl
set_other (k ∷ ks) (suc c) v (suc j) d = set_other ks c v j (λ e. d (ap suc e))

pub max_under : (n : ℕ) (f : ℕ → ℕ) (d : ℕ) → ((i : ℕ) → i < n → f i ≤ d) → max_to n f ≤ d
unfolding max_to
max_under zero f d h = omega arith
max_under (suc n) f d h = let a = max_under n f d (λ i k. h i (omega arith)) in let b = h n (omega arith) in omega arith

value_node : (U : Words) (y : ℕ) → y ≢ 0 → value_at U y ≡ U (slot y) value
unfolding value_at
value_node U y d = rw (ne_eqb y 0 d)

-- a child number other than c
pub other_than : (n c : ℕ) → 1 < n → (i : ℕ) × (i < n) × (i ≢ c)
other_than n zero h = (1, h, (λ z. omega arith))
other_than n (suc c) h = (0, omega arith, (λ z. omega arith))

-- ---- what is made

-- the node a with its cell p made anew with the value x: k fresh nodes, the answer one of them, with h holds and q places
pub record Done (n tallest : ℕ) (t : Tables) (x : ℕ) (p : List ℕ) (a k h q : ℕ) (o : Out) : Type 0 where
  pub grown : Grown n tallest t o.after (replicate q o.id) k
  pub anew : Anew n (cap t) (W o.after) x p a o.id
  pub live : Live (cap t) (W o.after) o.id
  pub dead : W t (slot o.id) own < floor
  pub held : W o.after (slot o.id) holds ≡ h
  pub put : W o.after (slot o.id) places ≡ q
  -- no other slot's holds change
  pub holds_kept : (s : ℕ) → s < cap t → s ≢ slot o.id → W o.after s holds ≡ W t s holds
  -- what lives was live, or is at or below the answer
  pub only : (y : ℕ) → Live (cap t) (W o.after) y → Live (cap t) (W t) y ⊎ Below n (W o.after) o.id y

-- the part below: it is there, or made, and has the place that the branch over it will have
pub record Low (n tallest : ℕ) (t : Tables) (x : ℕ) (p : List ℕ) (a c j : ℕ) (o : Out) : Type 0 where
  pub grown : Grown n tallest t o.after (o.id ∷ []) j
  pub anew : Anew n (cap t) (W o.after) x p (part (W t) a c) o.id
  pub mixed : Mixed n (replace (part (W t) a) c o.id)
  pub holds_kept : (s : ℕ) → s < cap t → W o.after s holds ≡ W t s holds
  pub only : (y : ℕ) → Live (cap t) (W o.after) y → Live (cap t) (W t) y ⊎ Below n (W o.after) o.id y
  pub lone : (s : ℕ) → LiveSlot o.after s → ((i : ℕ) → i < kid_words → W o.after s i ≡ get_or (words_of n (replace (part (W t) a) c o.id)) i 0) → ⊥

module _ {n tallest : ℕ} {t : Tables} (m : n ≤ kid_words) (two : 1 < n) (w : WellFormed n tallest t) (x : ℕ) (small : x ≤ largest_value) where
  pos : 1 ≤ n
  pos = omega arith

  made : WellMade n (cap t) (W t)
  made = wf_made m w

  inv : Inv t []
  inv = wf_inv m w

  con : Content n tallest (cap t) (W t)
  con = wf_content w

  -- every state on the way is well made
  grown_made : {u : Tables} {d : List ℕ} {k : ℕ} → Grown n tallest t u d k → WellMade n (cap t) (W u)
  grown_made {u} g = subst (λ (c : ℕ). WellMade n c (W u)) g.caps (content_made n tallest (cap u) (W u) m g.inv.sized.most g.content)

  -- ---- the leaf
  leaf_done : (a k h q : ℕ) → plan_of n t x [] a ≡ lack k → live_in t.arena + k < cap t → h ≤ most_holds → 1 ≤ h + q → Done n tallest t x [] a k h q (make_of n t x [] a h q)
  unfolding plan_of make_of
  leaf_done a k h q e room few held = go (cell_came m pos w x)
    where
      go : Cell-came n t x → Done n tallest t x [] a k h q (leaf_anew t x h q)
      go (cell_none z r) = absurd (have_lack (sym r ∙ e))
      go (cell_leaf r d g s) = absurd (have_lack (sym s ∙ e))
      go (cell_lack d z g s) =
          let one : 1 ≡ k = lack_inj (sym s ∙ e) in
          let r = leaf_makes n tallest m x h q inv con (omega arith) d small few held (leaf_alone m w x d z) in
          let g = r.grown in
          let f = r.fresh in
          let lu : Live (cap (leaf_anew t x h q).after) (W (leaf_anew t x h q).after) (leaf_anew t x h q).id =
          subst (λ (c : ℕ). Live c (W (leaf_anew t x h q).after) (leaf_anew t x h q).id) (sym g.caps) f.live in
          let lf = is_leaf_lem n tallest (cap (leaf_anew t x h q).after) (W (leaf_anew t x h q).after) m g.inv.sized.most g.content (leaf_anew t x h q).id lu
          (λ i l. f.kid i l ∙ empties_at i l) in
          record {
            grown = subst (λ (j : ℕ). Grown n tallest t (leaf_anew t x h q).after (replicate q (leaf_anew t x h q).id) j) one g;
            anew = anew-set d (record { live = f.live; is_leaf = lf; value = value_node (W (leaf_anew t x h q).after) (leaf_anew t x h q).id (live_nonzero f.live) ∙ f.worth });
            live = f.live;
            dead = f.dead;
            held = f.held;
            put = f.put;
            holds_kept = λ b lb d. f.others b holds d (omega arith);
            only = λ y ly. cases (ℕ_discrete (slot y) (slot (leaf_anew t x h q).id))
                (λ e. inr (subst (λ (i : ℕ). Below n (W (leaf_anew t x h q).after) (leaf_anew t x h q).id i) (live_inj f.live ly (sym e)) self))
                (λ e. inl (live_same (cap t) (W (leaf_anew t x h q).after) (W t) y (sym (f.others (slot y) own e (omega arith))) ly));
          }

  -- ---- the part below is there
  pub low_have : (d c a s k : ℕ) (p : List ℕ) → LiveOr0 (cap t) (W t) a → height_at (W t) a ≤ suc d → c < n → Cell n d p
      → Plan n (cap t) (W t) x p (part (W t) a c) (have s) → need_of n t (replace (part (W t) a) c s) ≡ lack k
      → Low n tallest t x p a c 0 (said 0 s (owed t s)) × (1 ≡ k)
  low_have d c a s k p l h b q u e = go (need_came m pos w f there)
    where
      f : ℕ → ℕ
      f = replace (part (W t) a) c s

      there : (i : ℕ) → i < n → LiveOr0 (cap t) (W t) (f i)
      there = parts_there m pos w x d c a s p l h b q u

      part_s : LiveOr0 (cap t) (W t) s
      part_s = subst (λ (y : ℕ). LiveOr0 (cap t) (W t) y) (replace_same (part (W t) a) c s c refl) (there c b)

      g : Grown n tallest t (owed t s) (s ∷ []) 0
      g = owed_grown n tallest m [] inv con s part_s

      go : Came n t f → Low n tallest t x p a c 0 (said 0 s (owed t s)) × (1 ≡ k)
      go (came_none y z) = absurd (have_lack (sym z ∙ e))
      go (came_leaf y v z) = absurd (have_lack (sym z ∙ e))
      go (came_node r y v z) = absurd (have_lack (sym z ∙ e))
      go (came_lack y z v o) = (
        record {
          grown = g;
          anew = anew_later made (grown_extends g m) (part_there n (cap t) (W t) made a c l b) q (plan_have u);
          mixed = y;
          holds_kept = λ i li. owed_word t s i holds (omega arith);
          only = λ i li. inl (live_same (cap t) (W (owed t s)) (W t) i (sym (owed_word t s (slot i) own (omega arith))) li);
          lone = λ i lv same. lone_have i lv same z;
        },
        lack_inj (sym o ∙ e),
      )
        where
          lone_have : (i : ℕ) → LiveSlot (owed t s) i → ((j : ℕ) → j < kid_words → W (owed t s) i j ≡ get_or (words_of n f) j 0) → branch_slot t (words_of n f) ≡ 0 → ⊥
          lone_have i lv same z =
              let o = owed_word t s i own (omega arith) in
              let c = g.caps in
              let a = lv.0 in
              let b = lv.1 in
              let lt : LiveSlot t i = (omega arith, omega arith) in
              let ground = not_ground w i lt in
              slot_lone t (words_of n f) (words_length n f) z i lt (omega arith) (λ j k. sym (owed_word t s i j (omega arith)) ∙ same j k)

  -- ---- the part below was made
  pub low_lack : (d c a j : ℕ) (p : List ℕ) (o : Out) → LiveOr0 (cap t) (W t) a → c < n → Done n tallest t x p (part (W t) a c) j 0 1 o → Low n tallest t x p a c j o
  unfolding total
  low_lack d c a j p o l b r = record {
    grown = r.grown;
    anew = r.anew;
    mixed = record {
      not_empty = λ all. live_nonzero r.live (sym (replace_same (part (W t) a) c o.id c refl) ∙ all c b);
      not_leaf = λ y h all.
          let i = other_than n c two in
          let same : part (W t) a i.0 ≡ o.id =
          sym (replace_other (part (W t) a) c o.id i.0 i.2) ∙ all i.0 i.1 ∙ sym (all c b) ∙ replace_same (part (W t) a) c o.id c refl in
          new (subst (λ (z : ℕ). LiveOr0 (cap t) (W t) z) same (part_there n (cap t) (W t) made a i.0 l i.1));
    };
    holds_kept = λ s ls. cases (ℕ_discrete s (slot o.id))
        (λ (z : s ≡ slot o.id).
        let g = r.held in
        let k : W o.after s holds ≡ 0 = ap (λ (i : ℕ). W o.after i holds) z ∙ g in
        k ∙ sym ((w.cleared s ls (subst (λ (i : ℕ). W t i own < floor) (sym z) r.dead)).words holds (omega arith) (omega arith) (omega arith)))
        (λ z. r.holds_kept s ls z);
    only = r.only;
    lone = λ s lv same.
        let i = r.grown.inv in
        let lo : Live (cap o.after) (W o.after) o.id = subst (λ (z : ℕ). Live z (W o.after) o.id) (sym r.grown.caps) r.live in
        let pl = i.counts.placed o.id lo in
        let pu = r.put in
        let kid : W o.after s c ≡ o.id = same c (omega arith) ∙ words_at n (replace (part (W t) a) c o.id) c (omega arith) b ∙ replace_same (part (W t) a) c o.id c refl in
        let oc : 1 ≤ occ o.id (kids_of kid_words (W o.after) s) = subst (λ (z : ℕ). 1 ≤ occ z (kids_of kid_words (W o.after) s)) kid (kid_occ kid_words (W o.after) s c (omega arith)) in
        omega (arith, occ_le_tally kid_words (cap o.after) (W o.after) s o.id lv.0, occ_here o.id [], occ_nil o.id);
  }
    where
      new : LiveOr0 (cap t) (W t) o.id → ⊥
      new (inl z) = live_nonzero r.live z
      new (inr z) = let a = z.is in let b = z.high in let d = r.dead in omega arith

  -- ---- the branch over it

  module _ (d c a j h q : ℕ) (p : List ℕ) (o : Out) (l : LiveOr0 (cap t) (W t) a) (low : height_at (W t) a ≤ suc d) (b : c < n) (cell : Cell n d p)
      (tall : suc d ≤ tallest) (room : live_in t.arena + suc j < cap t) (few : h ≤ most_holds) (held : 1 ≤ h + q) (r : Low n tallest t x p a c j o) where
    abbrev f : ℕ → ℕ
    f = replace (part (W t) a) c o.id

    abbrev ks : List ℕ
    ks = words_of n f

    abbrev u : Tables
    u = o.after

    abbrev v : Tables
    v = each owed u (set ks c 0)

    pub eight : length ks ≡ kid_words
    eight = words_length n f

    at_c : get_or ks c 0 ≡ o.id
    at_c = words_at n f c (omega arith) b ∙ replace_same (part (W t) a) c o.id c refl

    made_u : WellMade n (cap t) (W u)
    made_u = grown_made r.grown

    ext_u : Extends n (cap t) (W t) (W u)
    ext_u = grown_extends r.grown m

    -- the part made anew, in the tables where it was made
    new_part : (LiveOr0 (cap t) (W u) o.id) × (height_at (W u) o.id ≤ d)
    new_part =
        let b₀ = part_there n (cap t) (W t) made a c l b in
        let k = extends_keeps ext_u (part (W t) a c) in
        let z = renewed n (cap t) pos (W u) made_u x (there_later n (cap t) (W t) (W u) made (part (W t) a c) b₀ k)
        (rw (height_later n (cap t) (W t) (W u) made (part (W t) a c) b₀ k) at (part_low n (cap t) (W t) made a c l b d low)) cell r.anew in
        (z.there, z.low)

    -- each part is there, and no taller than d
    pub part_fine : (i : ℕ) → i < n → (LiveOr0 (cap t) (W u) (f i)) × (height_at (W u) (f i) ≤ d)
    part_fine i z = replace_all (λ (y : ℕ). (LiveOr0 (cap t) (W u) y) × (height_at (W u) y ≤ d)) (part (W t) a) c o.id i new_part
        (let b₀ = part_there n (cap t) (W t) made a i l z in
        let k = extends_keeps ext_u (part (W t) a i) in
        (there_later n (cap t) (W t) (W u) made (part (W t) a i) b₀ k, rw (height_later n (cap t) (W t) (W u) made (part (W t) a i) b₀ k) at (part_low n (cap t) (W t) made a i l z d low)))

    live_u : (y : ℕ) → LiveOr0 (cap t) (W u) y → y ≢ 0 → Live (cap u) (W u) y
    live_u y (inl z) e = absurd (e z)
    live_u y (inr z) e = subst (λ (k : ℕ). Live k (W u) y) (sym r.grown.caps) z

    pub others_live : (y : ℕ) → y ≢ 0 → 1 ≤ occ y (set ks c 0) → Live (cap u) (W u) y
    others_live y e z =
        let k = occ_in (set ks c 0) y z in
        let i = k.0 in
        let g : length (set ks c 0) ≡ kid_words = length-set ks c 0 ∙ eight in
        let in_words : i < kid_words = (let q = k.1 in omega arith) in
        let ne : i ≢ c = (λ (s : i ≡ c). e (sym k.2 ∙ ap (λ (z : ℕ). get_or (set ks c 0) z 0) s ∙ set_at ks c 0 (omega (arith, eight)))) in
        let w₁ : get_or ks i 0 ≡ y = sym (set_other ks c 0 i ne) ∙ k.2 in
        let i-n : i < n = cases (dec_lt i n) (λ s. s) (λ s. absurd (e (sym w₁ ∙ words_past n f i (omega arith) in_words))) in
        let fy : f i ≡ y = sym (words_at n f i in_words i-n) ∙ w₁ in
        live_u y (subst (λ (z : ℕ). LiveOr0 (cap t) (W u) z) fy (part_fine i i-n).0) e

    pub placed : Grown n tallest u v (ks ++ []) 0
    placed =
        grown_debt (each_grown n tallest m (set ks c 0) (o.id ∷ []) r.grown.inv r.grown.content others_live) (ks ++ [])
        (λ y e. omega (arith, occ_append y (set ks c 0) (o.id ∷ []), occ_append y ks [], occ_nil y, occ_set ks c o.id y (omega (arith, eight)) at_c e))

    pub some : none_of ks ≡ false
    unfolding none_of
    some = split (none_of ks)
        (λ e. absurd (r.mixed.not_empty (λ i z. sym (words_at n f i (omega arith) z)
        ∙ eqb-true (get_or ks i 0) 0 (all_at (λ (k : ℕ). eqb k 0) ks (get_or ks i 0) e (occ_at ks i (let g = eight in omega arith))))))
        (λ e. e)

    height_v : (y : ℕ) → height_at (W v) y ≡ height_at (W u) y
    unfolding height_at
    height_v y = ap (λ (z : ℕ). pick (eqb y 0) 0 z) (each_word (set ks c 0) u (slot y) height (omega arith))

    pub lowers : height_for n (W v) ks ≤ tallest
    unfolding height_for
    lowers =
        let z = max_under n (λ i. height_at (W v) (get_or ks i 0)) d (λ i k.
        let e = ap (height_at (W v)) (words_at n f i (omega arith) k) ∙ height_v (f i) in
        let g = (part_fine i k).1 in
        omega arith) in
        omega arith

    lone_v : (s : ℕ) → LiveSlot v s → ((i : ℕ) → i < kid_words → W v s i ≡ get_or ks i 0) → ⊥
    lone_v s lv same =
        let e = each_word (set ks c 0) u s own (omega arith) in
        let z = each_cap (set ks c 0) u in
        let y = lv.0 in
        let g = lv.1 in
        r.lone s (omega arith, omega arith) (λ i k. sym (each_word (set ks c 0) u s i (omega arith)) ∙ same i k)

    one : Makes-one n tallest v ks (value_for n (W v) ks) h q (branch_anew n v ks h q)
    one =
        branch_makes n tallest m pos ks h q eight (words_past n f) some placed.inv placed.content
        (let e = placed.lives in let g = r.grown.lives in let y = placed.caps in let z = r.grown.caps in omega arith) lowers few held lone_v

    abbrev end : Out
    end = branch_anew n v ks h q

    all_grown : Grown n tallest t end.after (replicate q end.id) (suc j)
    all_grown =
        let e : j + (0 + 1) ≡ suc j = omega arith in
        subst (λ (k : ℕ). Grown n tallest t end.after (replicate q end.id) k) e (grown_trans r.grown (grown_trans placed one.grown))

    ext_end : Extends n (cap t) (W u) (W end.after)
    ext_end = subst (λ (k : ℕ). Extends n k (W u) (W end.after)) r.grown.caps (grown_extends (grown_trans placed one.grown) m)

    live_end : Live (cap t) (W end.after) end.id
    live_end = subst (λ (k : ℕ). Live k (W end.after) end.id) (placed.caps ∙ r.grown.caps) one.fresh.live

    kids_end : (i : ℕ) → i < n → W end.after (slot end.id) i ≡ f i
    kids_end i z = one.fresh.kid i (omega arith) ∙ words_at n f i (omega arith) z

    branch_end : Branch end.id
    branch_end =
        let g = one.grown in
        let s = some_kid ks some in
        let in_words : s.0 < kid_words = (let q = s.1 in let e = eight in omega arith) in
        is_branch_lem n tallest (cap end.after) (W end.after) m g.inv.sized.most g.content end.id s.0
        (subst (λ (k : ℕ). Live k (W end.after) end.id) (sym g.caps) one.fresh.live) in_words
        (λ e. s.2 (sym (one.fresh.kid s.0 in_words) ∙ e))

    -- its slot was dead: what was live in t is live in v, and there its slot is dead
    dead_end : W t (slot end.id) own < floor
    dead_end = cases (dec_lt (W t (slot end.id) own) floor) (λ z. z)
        (λ z.
        let s = slot end.id in
        let i = wf_inv m w in
        let low = live_end.low in
        let lv = live_own kid_words (cap t) (W t) [] i.counts s low (omega arith) in
        let e = i.counts.ids s low (omega arith) in
        let g = grown_live (grown_trans r.grown placed) (W t s own) lv in
        let y : W v s own ≡ W t s own = ap (λ (k : ℕ). W v k own) (sym e) ∙ g.is in
        let d = one.fresh.dead in
        absurd (omega arith))

    only_end : (y : ℕ) → Live (cap t) (W end.after) y → Live (cap t) (W t) y ⊎ Below n (W end.after) end.id y
    only_end y ly = cases (ℕ_discrete (slot y) (slot end.id))
        (λ e. inr (subst (λ (i : ℕ). Below n (W end.after) end.id i) (live_inj live_end ly (sym e)) self))
        (λ e.
        let lu : Live (cap t) (W u) y =
        live_same (cap t) (W end.after) (W u) y (sym (one.fresh.others (slot y) own e (omega arith) ∙ each_word (set ks c 0) u (slot y) own (omega arith))) ly in
        ⊎_elim (λ z. inl z)
        (λ z.
        let b₁ = below_later n (cap t) (W u) (W end.after) made_u new_part.0 (extends_keeps ext_end o.id) z in
        let kid : W end.after (slot end.id) c ≡ o.id = kids_end c b ∙ replace_same (part (W t) a) c o.id c refl in
        inr (under c branch_end b (subst (λ (i : ℕ). Below n (W end.after) i y) (sym kid) b₁)))
        (r.only y lu))

    up_done : Done n tallest t x (c ∷ p) a (suc j) h q end
    up_done = record {
      grown = all_grown;
      anew = anew_up made made_u ext_u ext_end l b cell r.anew (node r.mixed (record { live = live_end; is_branch = branch_end; kids = kids_end }));
      live = live_end;
      dead = dead_end;
      held = one.fresh.held;
      put = one.fresh.put;
      holds_kept = λ s ls d. one.fresh.others s holds d (omega arith) ∙ each_word (set ks c 0) u s holds (omega arith) ∙ r.holds_kept s ls;
      only = only_end;
    }

  -- ---- the whole way up

  -- the branch over the part o
  abbrev pub over : ℕ → ℕ → ℕ → ℕ → Out → Out
  over c a h q o =
      branch_anew n (each owed o.after (set (words_of n (replace (part (W t) a) c o.id)) c 0)) (words_of n (replace (part (W t) a) c o.id)) h q

  up_step : (d c a k h q : ℕ) (p : List ℕ) → LiveOr0 (cap t) (W t) a → height_at (W t) a ≤ suc d → c < n → Cell n d p → suc d ≤ tallest
      → (pl : Need) (new : Out) → Plan n (cap t) (W t) x p (part (W t) a c) pl
      → ((j : ℕ) → pl ≡ lack j → live_in t.arena + j < cap t → Done n tallest t x p (part (W t) a c) j 0 1 new)
      → up_need (λ s. need_of n t (replace (part (W t) a) c s)) pl ≡ lack k → live_in t.arena + k < cap t → h ≤ most_holds → 1 ≤ h + q
      → Done n tallest t x (c ∷ p) a k h q (over c a h q (low_of t pl new))
  unfolding up_need low_of
  up_step d c a k h q p l low b cell tall (have s) new u ih e room few held =
      let r = low_have d c a s k p l low b cell u e in
      let one = r.1 in
      subst (λ (j : ℕ). Done n tallest t x (c ∷ p) a j h q (over c a h q (said 0 s (owed t s)))) one
      (up_done d c a 0 h q p (said 0 s (owed t s)) l low b cell tall (omega arith) few held r.0)
  up_step d c a k h q p l low b cell tall (lack j) new u ih e room few held =
      let one : suc j ≡ k = lack_inj e in
      subst (λ (i : ℕ). Done n tallest t x (c ∷ p) a i h q (over c a h q new)) one
      (up_done d c a j h q p new l low b cell tall (omega arith) few held (low_lack d c a j p new l b (ih j refl (omega arith))))

  -- what the making leaves
  pub make_done : {d : ℕ} {p : List ℕ} (a k h q : ℕ) → LiveOr0 (cap t) (W t) a → height_at (W t) a ≤ d → d ≤ tallest → Cell n d p
      → plan_of n t x p a ≡ lack k → live_in t.arena + k < cap t → h ≤ most_holds → 1 ≤ h + q → Done n tallest t x p a k h q (make_of n t x p a h q)
  unfolding make_of plan_of
  make_done a k h q l low tall here e room few held = leaf_done a k h q e room few held
  make_done a k h q l low tall (down {d = d} {c = c} {p = p} b cell) e room few held =
      up_step d c a k h q p l low b cell tall (plan_of n t x p (part (W t) a c)) (make_of n t x p (part (W t) a c) 0 1)
      (plan_is m pos w x (part (W t) a c) (part_there n (cap t) (W t) made a c l b) (part_low n (cap t) (W t) made a c l b d low) cell)
      (λ j z y. make_done (part (W t) a c) j 0 1 (part_there n (cap t) (W t) made a c l b) (part_low n (cap t) (W t) made a c l b d low) (omega arith) cell z y (omega arith) (omega arith))
      e room few held

  -- ---- what each fresh node brings

  -- Q is of tables in which so many nodes were made, P of an answer. Q holds of t, and stays where a place is owed; a fresh node brings P of one node more, and P
  -- is Q of what it leaves. Then P holds of what is made.
  module _ (Q : ℕ → Tables → Type 0) (P : ℕ → Out → Type 0) (first : Q 0 t) (owing : (j : ℕ) (u : Tables) (s : ℕ) → Q j u → Q j (owed u s))
      (brings : (j : ℕ) (v : Tables) (o : Out) (ks : List ℕ) (y h q : ℕ) → Q j v → live_in v.arena ≡ live_in t.arena + j
      → live_in v.arena + 1 < cap v → Fresh v o.after o.id ks y h q → P (suc j) o)
      (leaves : (j : ℕ) (o : Out) → P j o → Q j o.after) where
    all_owing : (j : ℕ) (ks : List ℕ) (u : Tables) → Q j u → Q j (each owed u ks)
    all_owing j [] u z = subst (Q j) (sym (each_nil u)) z
    all_owing j (k ∷ ks) u z = subst (Q j) (sym (each_cons u k ks)) (all_owing j ks (owed u k) (owing j u k z))

    over_brings : (d c a j h q : ℕ) (p : List ℕ) (o : Out) → LiveOr0 (cap t) (W t) a → height_at (W t) a ≤ suc d → c < n → Cell n d p → suc d ≤ tallest
        → live_in t.arena + suc j < cap t → h ≤ most_holds → 1 ≤ h + q → Low n tallest t x p a c j o → Q j o.after → P (suc j) (over c a h q o)
    over_brings d c a j h q p o l low b cell tall room few held r z =
        let ks = words_of n (replace (part (W t) a) c o.id) in
        let v = each owed o.after (set ks c 0) in
        let g = placed d c a j h q p o l low b cell tall room few held r in
        let f = (one d c a j h q p o l low b cell tall room few held r).fresh in
        let y = g.lives in
        let k = r.grown.lives in
        let u = g.caps in
        let e = r.grown.caps in
        brings j v (over c a h q o) ks (value_for n (W v) ks) h q (all_owing j (set ks c 0) o.after z) (omega arith) (omega arith) f

    step_brings : (d c a k h q : ℕ) (p : List ℕ) → LiveOr0 (cap t) (W t) a → height_at (W t) a ≤ suc d → c < n → Cell n d p → suc d ≤ tallest
        → (pl : Need) (new : Out) → Plan n (cap t) (W t) x p (part (W t) a c) pl
        → ((j : ℕ) → pl ≡ lack j → live_in t.arena + j < cap t → Done n tallest t x p (part (W t) a c) j 0 1 new × P j new)
        → up_need (λ s. need_of n t (replace (part (W t) a) c s)) pl ≡ lack k → live_in t.arena + k < cap t → h ≤ most_holds → 1 ≤ h + q
        → P k (over c a h q (low_of t pl new))
    unfolding up_need low_of
    step_brings d c a k h q p l low b cell tall (have s) new u ih e room few held =
        let r = low_have d c a s k p l low b cell u e in
        let one = r.1 in
        subst (λ (i : ℕ). P i (over c a h q (said 0 s (owed t s)))) one
        (over_brings d c a 0 h q p (said 0 s (owed t s)) l low b cell tall (omega arith) few held r.0 (owing 0 t s first))
    step_brings d c a k h q p l low b cell tall (lack j) new u ih e room few held =
        let one : suc j ≡ k = lack_inj e in
        let r = ih j refl (omega arith) in
        subst (λ (i : ℕ). P i (over c a h q new)) one
        (over_brings d c a j h q p new l low b cell tall (omega arith) few held (low_lack d c a j p new l b r.0) (leaves j new r.1))

    pub make_brings : {d : ℕ} {p : List ℕ} (a k h q : ℕ) → LiveOr0 (cap t) (W t) a → height_at (W t) a ≤ d → d ≤ tallest → Cell n d p
        → plan_of n t x p a ≡ lack k → live_in t.arena + k < cap t → h ≤ most_holds → 1 ≤ h + q → P k (make_of n t x p a h q)
    unfolding make_of plan_of
    make_brings a k h q l low tall here e room few held =
        let one = leaf_lacks (rw e at (plan_is m pos w x a l low here)) in
        subst (λ (i : ℕ). P i (leaf_anew t x h q)) one (brings 0 t (leaf_anew t x h q) empties x h q first (omega arith) (omega arith) (leaf_new inv (omega arith) x h q))
    make_brings a k h q l low tall (down {d = d} {c = c} {p = p} b cell) e room few held =
        let lb = part_there n (cap t) (W t) made a c l b in
        let hb = part_low n (cap t) (W t) made a c l b d low in
        step_brings d c a k h q p l low b cell tall (plan_of n t x p (part (W t) a c)) (make_of n t x p (part (W t) a c) 0 1)
        (plan_is m pos w x (part (W t) a c) lb hb cell)
        (λ j z y. (
          make_done (part (W t) a c) j 0 1 lb hb (omega arith) cell z y (omega arith) (omega arith),
          make_brings (part (W t) a c) j 0 1 lb hb (omega arith) cell z y (omega arith) (omega arith),
        ))
        e room few held
