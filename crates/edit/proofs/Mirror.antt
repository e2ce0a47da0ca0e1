-- The code's way is the definition's, on well-formed tables.
use mathlib.Core.Path.{◌≡◌, refl, sym, ap, ap₂, ◌∙◌, subst}
use mathlib.Core.Logic.{◌≢◌, ◌⊎◌, inl, inr, ⊎_elim}
use mathlib.Core.Bool.{Bool, true, false, not, true≢false}
use mathlib.Core.List.{List, [], ◌∷◌, ◌++◌}
use Prim.Native.Nat.{ℕ, zero, suc, ◌+◌, ◌-◌, ◌/◌, ◌≤◌, ◌<◌}
use native.Mathlib.Decide.{ℕ_discrete}
use native.Mathlib.Omega.{arith}
use lib.Dec.{eqb, ltb}
use lib.ListN.{length, get_or, set, length-set}
use borrow.Author.Tests.{eqb-true, eq-eqb, ne_eqb, lt-ltb}
use Rattle.basics.specs.Limits.{cube_kids, kid_words, largest_value, most_holds}
use Rattle.basics.specs.Pick.{pick}
use Rattle.ids.specs.Ids.{is_leaf}
use Rattle.nodes.specs.Words.{Nodes, nodes, Words, own, hash}
use Rattle.nodes.specs.Tally.{tab_from, occ, Live}
use Rattle.nodes.proofs.Counts.{total_append}
use Rattle.nodes.proofs.Sums.{cases, split, tab_from_ext_lem, tab_from_length_lem, tab_list, occ_nil, occ_there, occ_tab}
use Rattle.find_hash.specs.Hash.{leaf_hash, kids_hash, rekids_hash}
use Rattle.find.specs.Cells.{leaf_cell, kids_cell}
use Rattle.find.specs.Content.{leaf_is, kids_are}
use Rattle.find.proofs.Contents.{leaf_words, kids_true, kids_words, kids_are_lem}
use Rattle.tree.specs.Tree.{LiveOr0, WellMade, Cell, here, down}
use Rattle.tree.specs.Anew.{part, replace}
use Rattle.tree.specs.Lacks.{Need, have, lack, Plan}
use Rattle.tree.proofs.Grow.{extends_keeps, value_later, height_later}
use Rattle.tree.proofs.Making.{part_there, part_low, replace_same, replace_other}
use Rattle.arena.specs.Node.{kid_types, kid_mask, sum_for, value_for, height_for}
use Rattle.nodes.specs.Values.{height_at, value_at}
use Rattle.arena.specs.Tables.{live_in, Tables, tables_of, cap, W, LiveSlot, WellFormed}
use Rattle.arena.specs.Calls.{Out, said, all_of, each, placed_kid, leaf_anew, branch_anew, leaf_slot, branch_slot}
use Rattle.arena.specs.Models.{more_of, branch_with, kids_for, sum_by}
use Rattle.arena.proofs.Branches.{branch_words, slot_lone}
use Rattle.arena.proofs.Eight.{all_at}
use Rattle.arena.proofs.Fits.{both}
use Rattle.arena.proofs.Fresh.{sum_by_lem, number_ends, leaf_fresh_lem, branch_fresh_lem}
use Rattle.arena.proofs.Ids.{node_leaf}
use Rattle.arena.proofs.Inv.{Inv, wf_inv}
use Rattle.arena.proofs.Places.{more_few, owing}
use Rattle.arena.proofs.Leaves.{no_leaf, leaf_in_lem, leaf_is_lem, leaf_slot_lem}
use Rattle.arena.proofs.Searched.{kids_hash_lem, leaf_one, kids_one, search_hit, search_miss}
use Rattle.arena.proofs.Branching.{found_slot}
use Rattle.read_cell.proofs.Meaning.{wf_made}
use Rattle.edit.specs.Edit.{words_of, one_leaf, need_of, cell_need, up_need, plan_of, owed, low_of, make_of}
use Rattle.ids.specs.Ids.{is_end}
use Rattle.edit_way.specs.Models.{eight_parts, hash_over}
use Rattle.edit_plan.specs.Models.{planned, leaf_found, whole_of, hash_with, kids_found, slot_plan, cell_plan, need_plan, up_plan, plan_by}
use Rattle.edit_plan.specs.declared.Plan as planning
use Rattle.tree.proofs.Ends.{end_flat}
use Rattle.edit_way.proofs.Words.{end_leaf, tab_get}
use Rattle.edit_make.specs.Models.{owed_by, sum_over, height_over, resum, with_bit, types_over, mask_over, place_for, placed_over, leaf_anew_by, branch_anew_by, up_by, make_by}
use Rattle.edit_make.proofs.Steps.{make_zero, make_more, make_leaf}
use Rattle.edit.proofs.Growing.{each_nil, each_cons, grown_trans, grown_extends}
use Rattle.edit.proofs.Kept.{types_set, mask_set, small_value, hash_over_lem, sum_over_lem, sum_fits, hash_set, resum_set, height_set, part_stays, parts_stay, hash_stays, value_stays, height_stays, sum_stays, others_placed}
use Rattle.edit.proofs.Planning.{all_yes, leaf_both, flag_leaf, leaf_flagged, words_length, words_at, Cell-came, cell_none, cell_leaf, cell_lack, cell_came, plan_is, parts_there}
use Rattle.edit.proofs.Upward.{Low, Done, low_have, low_lack, placed, lowers, eight, others_live, set_at, set_other, lack_inj, have_lack, over, make_done}

-- ---- the eight words of a node's parts, one replaced

words_set : (U : Words) (a c s : ℕ) → c < cube_kids → set (eight_parts U a) c s ≡ words_of cube_kids (replace (part U a) c s)
unfolding eight_parts words_of
words_set U a c s l =
    let e : length (set (tab_from kid_words 0 (part U a)) c s) ≡ kid_words = length-set (tab_from kid_words 0 (part U a)) c s ∙ tab_from_length_lem kid_words 0 (part U a) in
    sym (subst (λ (k : ℕ). tab_from k 0 (λ i. pick (ltb i cube_kids) (replace (part U a) c s i) 0) ≡ set (tab_from kid_words 0 (part U a)) c s) e
    (tab_list (set (tab_from kid_words 0 (part U a)) c s) 0 (λ i. pick (ltb i cube_kids) (replace (part U a) c s i) 0) (λ j h. at j (omega arith))))
  where
    at : (j : ℕ) → j < cube_kids → pick (ltb (0 + j) cube_kids) (replace (part U a) c s (0 + j)) 0 ≡ get_or (set (tab_from kid_words 0 (part U a)) c s) j 0
    at j h =
        let z : 0 + j ≡ j = omega arith in
        let n = tab_from_length_lem kid_words 0 (part U a) in
        rw (z, lt-ltb j cube_kids h) (cases (ℕ_discrete j c)
        (λ (q : j ≡ c). replace_same (part U a) c s j q ∙ sym (ap (λ (i : ℕ). get_or (set (tab_from kid_words 0 (part U a)) c s) i 0) q ∙ set_at (tab_from kid_words 0 (part U a)) c s (omega arith)))
        (λ q. replace_other (part U a) c s j q ∙ sym (set_other (tab_from kid_words 0 (part U a)) c s j q ∙ tab_get kid_words 0 (part U a) j h ∙ ap (part U a) z)))

words_tab : (f : ℕ → ℕ) → words_of cube_kids f ≡ tab_from cube_kids 0 f
unfolding words_of
words_tab f = tab_from_ext_lem cube_kids 0 (λ i. pick (ltb i cube_kids) (f i) 0) f (λ j p q. let l : j < cube_kids = omega arith in rw (lt-ltb j cube_kids l))

set_twice : (ks : List ℕ) (c x y : ℕ) → set (set ks c x) c y ≡ set ks c y
set_twice [] c x y = refl
set_twice (k ∷ ks) zero x y = refl
set_twice (k ∷ ks) (suc c) x y = ap (λ (l : List ℕ). k ∷ l) (set_twice ks c x y)

-- ---- the dry run

-- the code's plan says the same: what is there, or how many are to be made, at most B
pub data Agree (B : ℕ) : planning.Plan → Need → Type 0 where
  agree_have : {r : ℕ} → Agree B (planned 0 r) (have r)
  agree_lack : {k s : ℕ} → 1 ≤ k → k ≤ B → Agree B (planned k s) (lack k)

module _ {tallest : ℕ} {t : Tables} (w : WellFormed cube_kids tallest t) where
  abbrev m : cube_kids ≤ kid_words
  m = omega arith

  abbrev pos : 1 ≤ cube_kids
  pos = omega arith

  -- the search finds what the scan finds
  find_leaf : (x : ℕ) → x ≢ 0 → leaf_found t x ≡ leaf_slot t x
  unfolding leaf_found leaf_cell
  find_leaf x d = cases (ℕ_discrete (leaf_slot t x) 0)
      (λ z. search_miss m w (leaf_is (W t) (leaf_hash x) x) (leaf_hash x) (no_leaf m w x d z) ∙ sym z)
      (λ z.
      let q = leaf_slot_lem m w x d z in
      let p = leaf_in_lem m w x d (leaf_slot t x) q.0 q.1 in
      let i = leaf_is_lem m w x d (leaf_slot t x) q.0 q.1 in
      let e = leaf_words (W t) (leaf_hash x) x (leaf_slot t x) i in
      search_hit m w (leaf_is (W t) (leaf_hash x) x) (leaf_hash x) (leaf_slot t x) p.0 (p.1.hashed ∙ ap leaf_hash p.2) i
      (λ y l h. let c = leaf_words (W t) (leaf_hash x) x y h in leaf_one m w y (leaf_slot t x) l p.0 c.1 e.1 (c.2 ∙ sym e.2)))

  module _ (f : ℕ → ℕ) (e : all_of (eqb 0) (tab_from cube_kids 0 f) ≡ false) where
    abbrev ks : List ℕ
    ks = words_of cube_kids f

    abbrev same : ℕ → Bool
    same = kids_are (W t) (kids_hash ks) ks

    -- a live slot with those children has a branch, with their hash
    slot_branch : (s : ℕ) → LiveSlot t s → ((j : ℕ) → j < kid_words → W t s j ≡ get_or ks j 0) → (is_leaf (W t s own) ≡ false) × (W t s hash ≡ kids_hash ks)
    slot_branch s l h = split (is_leaf (W t s own))
        (λ b. absurd (true≢false (sym (all_yes 0 cube_kids 0 f
        (λ j p q. sym (words_at cube_kids f j (omega arith) (omega arith)) ∙ sym (h j (omega arith)) ∙ (node_leaf m l.0 w.sized.most (w.nodes s l) b).bare j (omega arith))) ∙ e)))
        (λ b. (b, kids_hash_lem m w s l b ∙ ap kids_hash (kids_are_lem (W t) s ks (words_length cube_kids f) h)))

    find_branch : kids_found t (kids_hash ks) ks ≡ branch_slot t ks
    unfolding kids_found kids_cell
    find_branch = cases (ℕ_discrete (branch_slot t ks) 0) (λ z. search_miss m w same (kids_hash ks) (none z) ∙ sym z) (λ z. hit z)
      where
        none : branch_slot t ks ≡ 0 → (s : ℕ) → 0 < s → LiveSlot t s → same s ≡ false
        none z s p l = split (same s)
            (λ q. absurd (slot_lone t ks (words_length cube_kids f) z s l (omega arith) (kids_words (W t) (kids_hash ks) ks s (words_length cube_kids f) q).1))
            (λ q. q)

        hit : branch_slot t ks ≢ 0 → get_or t.find (kids_for t ks) 0 ≡ branch_slot t ks
        hit z =
            let r = found_slot t ks z in
            let n = words_length cube_kids f in
            let b = branch_words t ks (branch_slot t ks) r.0 in
            let l : LiveSlot t (branch_slot t ks) = (r.1, b.0) in
            let k : (j : ℕ) → j < kid_words → W t (branch_slot t ks) j ≡ get_or ks j 0 = (λ j h. let q : 0 + j ≡ j = omega arith in rw q at (b.1 j (omega arith))) in
            let o = slot_branch (branch_slot t ks) l k in
            search_hit m w same (kids_hash ks) (branch_slot t ks) l o.1 (kids_true (W t) (kids_hash ks) ks (branch_slot t ks) n o.1 k)
            (λ x lx h. kids_one m w x (branch_slot t ks) lx l o.0 (λ i j. (kids_words (W t) (kids_hash ks) ks x n h).1 i j ∙ sym (k i j)))

  -- ---- what the parts of a come to with number c replaced by s, by the code

  module _ (a c s : ℕ) (l : LiveOr0 (cap t) (W t) a) (b : c < cube_kids) (there : (i : ℕ) → i < cube_kids → LiveOr0 (cap t) (W t) (replace (part (W t) a) c s i)) where
    abbrev f : ℕ → ℕ
    f = replace (part (W t) a) c s

    abbrev fs : List ℕ
    fs = set (eight_parts (W t) a) c s

    in_tab : fs ≡ tab_from cube_kids 0 f
    in_tab = words_set (W t) a c s b ∙ words_tab f

    at_c : f c ≡ s
    at_c = replace_same (part (W t) a) c s c refl

    -- all of them are one
    all_same : (k : ℕ) → all_of (eqb k) (tab_from cube_kids 0 f) ≡ true → (i : ℕ) → i < cube_kids → k ≡ f i
    all_same k e i h = eqb-true k (f i) (all_at (eqb k) (tab_from cube_kids 0 f) (f i) e (occ_tab cube_kids 0 f i (omega arith) (omega arith)))

    whole_end : is_end s ≡ true → all_of (eqb s) (tab_from cube_kids 0 f) ≡ true → whole_of fs s ≡ true
    unfolding whole_of
    whole_end h e = rw (h, in_tab) e

    whole_none : all_of (eqb 0) (tab_from cube_kids 0 f) ≡ true → (whole_of fs s ≡ true) × (s ≡ 0)
    whole_none e =
        let z : s ≡ 0 = sym (all_same 0 e c b ∙ at_c) in
        (whole_end (end_flat s (inl z)) (subst (λ (k : ℕ). all_of (eqb k) (tab_from cube_kids 0 f) ≡ true) (sym z) e), z)

    whole_leaf : one_leaf cube_kids f ≡ true → (whole_of fs s ≡ true) × (s ≡ f 0)
    whole_leaf q =
        let r = leaf_both cube_kids f q in
        let z : s ≡ f 0 = sym (all_same (f 0) r.1 c b ∙ at_c) in
        let h = flag_leaf m pos w (f 0) (there 0 (omega arith)) r.0 in
        (whole_end (end_flat s (inr (omega arith))) (subst (λ (k : ℕ). all_of (eqb k) (tab_from cube_kids 0 f) ≡ true) (sym z) r.1), z)

    whole_not : all_of (eqb 0) (tab_from cube_kids 0 f) ≡ false → one_leaf cube_kids f ≡ false → whole_of fs s ≡ false
    unfolding whole_of one_leaf
    whole_not e q = split (whole_of fs s) (λ h. absurd (no h)) (λ h. h)
      where
        no : whole_of fs s ≡ true → ⊥
        no h =
            let r = both (is_end s) (all_of (eqb s) fs) h in
            let all : all_of (eqb s) (tab_from cube_kids 0 f) ≡ true = subst (λ (ks : List ℕ). all_of (eqb s) ks ≡ true) in_tab r.1 in
            let z : s ≡ f 0 = all_same s all 0 (omega arith) in
            cases (ℕ_discrete s 0)
            (λ y. true≢false (sym (subst (λ (k : ℕ). all_of (eqb k) (tab_from cube_kids 0 f) ≡ true) y all) ∙ e))
            (λ y.
            let g = end_leaf s r.0 y in
            let i = leaf_flagged m pos w (f 0) (there 0 (omega arith)) (omega arith) in
            true≢false (sym (rw (i, ← z) all) ∙ q))

    found_same : all_of (eqb 0) (tab_from cube_kids 0 f) ≡ false → kids_found t (hash_with (W t) a c s) fs ≡ branch_slot t (words_of cube_kids f)
    unfolding hash_with
    found_same e =
        let k = hash_set (W t) (W t) a c s b (hash_over (W t) a) (hash_over_lem w a l) in
        ap (λ (y : ℕ). kids_found t y fs) k ∙ ap (λ (ks : List ℕ). kids_found t (kids_hash ks) ks) (words_set (W t) a c s b) ∙ find_branch f e

    need_by : ((r : ℕ) × (need_of cube_kids t f ≡ have r) × (need_plan t a c s ≡ planned 0 r)) ⊎ ((need_of cube_kids t f ≡ lack 1) × (need_plan t a c s ≡ planned 1 s))
    unfolding need_of need_plan slot_plan
    need_by = split (all_of (eqb 0) (tab_from cube_kids 0 f))
        (λ e. let y = whole_none e in inl (0, rw e, rw y.0 (ap (planned 0) y.1)))
        (λ e. split (one_leaf cube_kids f)
        (λ q. let y = whole_leaf q in inl (f 0, rw (e, q), rw y.0 (ap (planned 0) y.1)))
        (λ q. cases (ℕ_discrete (branch_slot t (words_of cube_kids f)) 0)
        (λ z. inr (rw (e, q, eq-eqb (branch_slot t (words_of cube_kids f)) 0 z), rw (whole_not e q, found_same e, eq-eqb (branch_slot t (words_of cube_kids f)) 0 z)))
        (λ z. inl (W t (branch_slot t (words_of cube_kids f)) own, rw (e, q, ne_eqb (branch_slot t (words_of cube_kids f)) 0 z), rw (whole_not e q, found_same e, ne_eqb (branch_slot t (words_of cube_kids f)) 0 z)))))

  module _ (x : ℕ) (small : x ≤ largest_value) where
    cell_agree : Agree 1 (cell_plan t x) (cell_need t x)
    unfolding cell_plan cell_need slot_plan
    cell_agree = cases (ℕ_discrete x 0)
        (λ z. rw (eq-eqb x 0 z) agree_have)
        (λ d. cases (ℕ_discrete (leaf_slot t x) 0)
        (λ z. rw (ne_eqb x 0 d, find_leaf x d, eq-eqb (leaf_slot t x) 0 z) (agree_lack {k = 1} {s = 0} (omega arith) (omega arith)))
        (λ z. rw (ne_eqb x 0 d, find_leaf x d, ne_eqb (leaf_slot t x) 0 z) agree_have))

    -- one level up
    up_have : (a c s : ℕ) → up_plan t a c (planned 0 s) ≡ need_plan t a c s
    unfolding up_plan
    up_have a c s = refl

    up_lack : (a c k s : ℕ) → 1 ≤ k → k ≤ 1000 → up_plan t a c (planned k s) ≡ planned (suc k) s
    unfolding up_plan
    up_lack a c k s l h =
        let e : more_of k ≡ suc k = (let z = more_few k (omega arith) in omega arith) in
        rw (ne_eqb k 0 (omega arith)) (ap (λ (z : ℕ). planned z s) e)

    up_agree : (B a c : ℕ) (b : planning.Plan) (r : Need) → B ≤ 1000 → LiveOr0 (cap t) (W t) a → c < cube_kids
        → ((s : ℕ) → r ≡ have s → (i : ℕ) → i < cube_kids → LiveOr0 (cap t) (W t) (replace (part (W t) a) c s i)) → Agree B b r
        → Agree (suc B) (up_plan t a c b) (up_need (λ s. need_of cube_kids t (replace (part (W t) a) c s)) r)
    unfolding up_need
    up_agree B a c b r l y h there (agree_have {r = s}) =
        rw (up_have a c s) (⊎_elim
        (λ z. rw (z.1, z.2) agree_have)
        (λ z. rw (z.0, z.1) (agree_lack {k = 1} {s = s} (omega arith) (omega arith)))
        (need_by a c s y h (there s refl)))
    up_agree B a c b r l y h there (agree_lack {k = k} {s = s} i z) = rw (up_lack a c k s i (omega arith)) (agree_lack {k = suc k} {s = s} (omega arith) (omega arith))

    -- the code's dry run is the definition's
    pub plan_agree : {d : ℕ} {p : List ℕ} (a : ℕ) → LiveOr0 (cap t) (W t) a → height_at (W t) a ≤ d → d ≤ 900 → Cell cube_kids d p → Agree (suc d) (plan_by t x p a) (plan_of cube_kids t x p a)
    unfolding plan_by plan_of
    plan_agree a l low h here = cell_agree
    plan_agree a l low h (down {d = d} {c = c} {p = p} b q) =
        let made = wf_made m w in
        let lb = part_there cube_kids (cap t) (W t) made a c l b in
        let hb = part_low cube_kids (cap t) (W t) made a c l b d low in
        up_agree (suc d) a c (plan_by t x p (part (W t) a c)) (plan_of cube_kids t x p (part (W t) a c)) (omega arith) l b
        (λ s e. parts_there m pos w x d c a s p l low b q (rw e at (plan_is m pos w x (part (W t) a c) lb hb q)))
        (plan_agree (part (W t) a c) lb hb (omega arith) q)

-- ---- places that are owed

owed_all : (ks : List ℕ) (t : Tables) → tables_of t.arena (each placed_kid t.nodes ks) t.find ≡ each owed t ks
unfolding each owed
owed_all [] t = refl
owed_all (k ∷ ks) t = owed_all ks (owed t k)

pub each_same : (ks : List ℕ) {t : Tables} (d : List ℕ) → length d + length ks ≤ 1000 → Inv t d → ((y : ℕ) → y ≢ 0 → 1 ≤ occ y ks → Live (cap t) (W t) y) → owed_by t ks ≡ each owed t ks
each_same ks {t} d n i h = ap (λ (x : Nodes). tables_of t.arena x t.find) (owing t.arena t.find ks t.nodes d n i h).same ∙ owed_all ks t

-- ---- a fresh node

leaf_same : {t : Tables} (d : List ℕ) (x h q : ℕ) → Inv t d → live_in t.arena + 1 < cap t → leaf_anew_by t x h q ≡ leaf_anew t x h q
unfolding leaf_anew_by
leaf_same d x h q i room = leaf_fresh_lem d i room x h q _ (number_ends d i room (leaf_hash x))

-- the branch over a part, by what the tables and the parts are
up_is : (low : Out) (a c h q : ℕ) (ks all : List ℕ) (v : Tables) (was k s x g : ℕ) → eight_parts (W low.after) a ≡ ks → part (W low.after) a c ≡ was
    → hash_over (W low.after) a ≡ k → sum_over (W low.after) a ≡ s → value_at (W low.after) was ≡ x → height_at (W low.after) a ≡ g
    → tables_of low.after.arena (nodes low.after.nodes.kids (placed_over low.after.nodes.facts ks a c)) low.after.find ≡ v → set ks c low.id ≡ all
    → up_by low a c h q ≡ branch_anew_by v all (with_bit (types_over a) c (is_leaf low.id)) (with_bit (mask_over a) c (not (eqb low.id 0))) (height_over (W v) all low.id g) (resum s x (value_at (W v) low.id)) (rekids_hash k c was low.id) h q
unfolding up_by
up_is low a c h q ks all v was k s x g eks ewas ek es ex eg ev eall =
    rw (ek, es, eg, eks, ewas, ex, eall)
    (ap (λ (y : Tables). branch_anew_by y all (with_bit (types_over a) c (is_leaf low.id)) (with_bit (mask_over a) c (not (eqb low.id 0))) (height_over (W y) all low.id g) (resum s x (value_at (W y) low.id)) (rekids_hash k c was low.id) h q) ev)

value_sum : (U : Words) (ks : List ℕ) (s : ℕ) → s ≡ sum_for cube_kids U ks → s / 8 ≡ value_for cube_kids U ks
unfolding sum_for value_for
value_sum U ks s e = ap (λ (z : ℕ). z / 8) e

branch_same : {t : Tables} (d ks : List ℕ) (ty ma up s k h q : ℕ) → Inv t d → live_in t.arena + 1 < cap t
    → up ≡ height_for cube_kids (W t) ks → s ≡ sum_for cube_kids (W t) ks → k ≡ kids_hash ks → ty ≡ kid_types ks → ma ≡ kid_mask ks → branch_anew_by t ks ty ma up s k h q ≡ branch_anew cube_kids t ks h q
unfolding branch_anew_by
branch_same {t} d ks ty ma up s k h q i room eu es ek et em =
    ap₂ (λ (x y : ℕ). branch_with t ks x y (s / 8) up s k h q (place_for t k)) et em ∙ branch_fresh_lem d i room cube_kids ks (s / 8) up s k h q _ (value_sum (W t) ks s es) eu es ek (number_ends d i room k)

kids_fit : cube_kids ≤ kid_words
kids_fit = omega arith

kids_some : 1 ≤ cube_kids
kids_some = omega arith

-- no live leaf of the value
lack_plan : {tallest : ℕ} {t : Tables} (w : WellFormed cube_kids tallest t) (x : ℕ) → x ≢ 0 → leaf_slot t x ≡ 0 → cell_plan t x ≡ planned 1 0
unfolding cell_plan slot_plan
lack_plan {t = t} w x d z = rw (ne_eqb x 0 d, find_leaf w x d, eq-eqb (leaf_slot t x) 0 z)

-- ---- the making

module _ {tallest : ℕ} (high : tallest ≤ 900) {t : Tables} (w : WellFormed cube_kids tallest t) (x : ℕ) (small : x ≤ largest_value) where
  two : 1 < cube_kids
  two = omega arith

  inv : Inv t []
  inv = wf_inv kids_fit w

  made : WellMade cube_kids (cap t) (W t)
  made = wf_made kids_fit w

  -- the branch over a part
  over_same : (d c a j h q : ℕ) (p : List ℕ) (o : Out) → LiveOr0 (cap t) (W t) a → height_at (W t) a ≤ suc d → c < cube_kids → Cell cube_kids d p → suc d ≤ tallest
      → live_in t.arena + suc j < cap t → h ≤ most_holds → 1 ≤ h + q → Low cube_kids tallest t x p a c j o
      → up_by o a c h q ≡ over kids_fit two w x small c a h q o
  over_same d c a j h q p o l low b cell tall room few held r =
      let ks = words_of cube_kids (replace (part (W t) a) c o.id) in
      let e : set (eight_parts (W t) a) c o.id ≡ ks = words_set (W t) a c o.id b in
      let z : set (eight_parts (W t) a) c 0 ≡ set ks c 0 = sym (set_twice (eight_parts (W t) a) c o.id 0) ∙ ap (λ (l : List ℕ). set l c 0) e in
      let n = eight kids_fit two w x small d c a j h q p o l low b cell tall room few held r in
      let live = others_live kids_fit two w x small d c a j h q p o l low b cell tall room few held r in
      let g = placed kids_fit two w x small d c a j h q p o l low b cell tall room few held r in
      let u = o.after in
      let v = each owed u (set ks c 0) in
      let same : owed_by u (set (eight_parts (W t) a) c 0) ≡ v =
      ap (λ (m : List ℕ). owed_by u m) z ∙ each_same (set ks c 0) (o.id ∷ []) (omega (arith, length-set ks c 0)) r.grown.inv live in
      let put : tables_of u.arena (nodes u.nodes.kids (placed_over u.nodes.facts (eight_parts (W t) a) a c)) u.find ≡ v =
      ap (λ (fs : List ℕ). tables_of u.arena (nodes u.nodes.kids fs) u.find) (others_placed w r.grown a c l b) ∙ same in
      let es : sum_by cube_kids (W v) ks ≡ sum_for cube_kids (W v) ks =
      sum_by_lem cube_kids tallest kids_fit kids_some v ks n g.content (λ y a b. g.inv.counts.named y a (omega (arith, total_append kid_words (cap v) (W v) y ks []))) in
      let hl = lowers kids_fit two w x small d c a j h q p o l low b cell tall room few held r in
      let ext = grown_extends (grown_trans r.grown g) kids_fit in
      let there : (i : ℕ) → i < cube_kids → LiveOr0 (cap t) (W t) (part (W t) a i) = (λ i k. part_there cube_kids (cap t) (W t) made a i l k) in
      let worth : (i : ℕ) → i < cube_kids → value_at (W v) (part (W t) a i) ≡ value_at (W t) (part (W t) a i) =
      (λ i k. sym (value_later cube_kids (cap t) (W t) (W v) made (part (W t) a i) (there i k) (extends_keeps ext (part (W t) a i)))) in
      let under : (i : ℕ) → i < cube_kids → height_at (W v) (part (W t) a i) ≤ height_at (W t) a - 1 =
      (λ i k.
      let z = height_later cube_kids (cap t) (W t) (W v) made (part (W t) a i) (there i k) (extends_keeps ext (part (W t) a i)) in
      let y = part_low cube_kids (cap t) (W t) made a i l k (height_at (W t) a - 1) (omega arith) in
      omega arith) in
      let at : (f : List ℕ → ℕ) → f (set (eight_parts (W t) a) c o.id) ≡ f ks = (λ f. ap f e) in
      let eu = height_set (W t) (W v) a c o.id b under (omega (arith, at (height_for cube_kids (W v)))) in
      let et = resum_set (W t) (W v) a c o.id b (sum_over (W t) a) (sum_over_lem w a l) worth (omega (arith, at (sum_for cube_kids (W v)), sum_fits cube_kids (W v) ks es))
      (small_value w (part (W t) a c) (there c b)) in
      let ek = hash_set (W t) (W v) a c o.id b (hash_over (W t) a) (hash_over_lem w a l) in
      up_is o a c h q (eight_parts (W t) a) ks v (part (W t) a c) (hash_over (W t) a) (sum_over (W t) a) (value_at (W t) (part (W t) a c)) (height_at (W t) a)
      (parts_stay kids_fit made r.grown a l) (part_stays kids_fit made r.grown a l c b) (hash_stays kids_fit made r.grown a l) (sum_stays kids_fit made r.grown a l)
      (value_stays kids_fit made r.grown a l (part (W t) a c) (there c b)) (height_stays kids_fit made r.grown a l) put e
      ∙ (branch_same (ks ++ []) ks _ _ _ _ _ h q g.inv (let y = g.lives in let k = r.grown.lives in let u = g.caps in let f = r.grown.caps in omega arith)
      (rw e at eu) (rw e at et) (rw e at ek) (rw e at (types_set w a l c o.id b)) (rw e at (mask_set w a l c o.id b)))

  -- the code's making is the definition's
  module _ (d c a k h q : ℕ) (p : List ℕ) (l : LiveOr0 (cap t) (W t) a) (low : height_at (W t) a ≤ suc d) (b : c < cube_kids) (cell : Cell cube_kids d p) (tall : suc d ≤ tallest)
      (room : live_in t.arena + k < cap t) (few : h ≤ most_holds) (held : 1 ≤ h + q) (new : Out) where
    part_s : (s : ℕ) → Plan cube_kids (cap t) (W t) x p (part (W t) a c) (have s) → LiveOr0 (cap t) (W t) s
    part_s s u =
        subst (λ (y : ℕ). LiveOr0 (cap t) (W t) y) (replace_same (part (W t) a) c s c refl) (parts_there kids_fit kids_some w x d c a s p l low b cell u c b)

    owed_live : (s : ℕ) → LiveOr0 (cap t) (W t) s → (y : ℕ) → y ≢ 0 → 1 ≤ occ y (s ∷ []) → Live (cap t) (W t) y
    owed_live s (inl z) y e o = absurd (omega (arith, occ_there y s [] (λ q. e (q ∙ z)), occ_nil y))
    owed_live s (inr z) y e o = cases (ℕ_discrete y s) (λ q. subst (λ (i : ℕ). Live (cap t) (W t) i) (sym q) z) (λ q. absurd (omega (arith, occ_there y s [] q, occ_nil y)))

    step_have : (s : ℕ) → Plan cube_kids (cap t) (W t) x p (part (W t) a c) (have s) → need_of cube_kids t (replace (part (W t) a) c s) ≡ lack k
        → make_by t x (c ∷ p) a (up_plan t a c (planned 0 s)) h q
        ≡ over kids_fit two w x small c a h q (said 0 s (owed t s))
    step_have s u e =
        let r = low_have kids_fit two w x small d c a s k p l low b cell u e in
        let one = r.1 in
        let z : up_plan t a c (planned 0 s) ≡ planned 1 s =
        up_have w x small a c s ∙ ⊎_elim (λ y. absurd (have_lack (sym y.1 ∙ e))) (λ y. y.1) (need_by w a c s l b (parts_there kids_fit kids_some w x d c a s p l low b cell u)) in
        let o : make_by t x p (part (W t) a c) (planned 0 s) 0 1 ≡ said 0 s (owed t s) =
        make_zero t x p (part (W t) a c) s 0 1
        ∙ ap (said 0 s) (each_same (s ∷ []) [] (omega arith) inv (owed_live s (part_s s u)) ∙ each_cons t s [] ∙ each_nil (owed t s)) in
        rw z (make_more t x c p a 0 s h q ∙ ap (λ (y : Out). up_by y a c h q) o
        ∙ over_same d c a 0 h q p (said 0 s (owed t s)) l low b cell tall (omega arith) few held r.0)

    step_lack : (j s : ℕ) → 1 ≤ j → j ≤ 1000 → suc j ≡ k → Done cube_kids tallest t x p (part (W t) a c) j 0 1 new → make_by t x p (part (W t) a c) (planned j s) 0 1 ≡ new
        → make_by t x (c ∷ p) a (up_plan t a c (planned j s)) h q
        ≡ over kids_fit two w x small c a h q new
    step_lack j s one top e done ih =
        rw (up_lack w x small a c j s one top) (make_more t x c p a j s h q ∙ ap (λ (y : Out). up_by y a c h q) ih
        ∙ over_same d c a j h q p new l low b cell tall (omega arith) few held (low_lack kids_fit two w x small d c a j p new l b done))

    step_same : (B : ℕ) (bp : planning.Plan) (r : Need) → B ≤ 1000 → Agree B bp r → Plan cube_kids (cap t) (W t) x p (part (W t) a c) r
        → ((j : ℕ) → r ≡ lack j → live_in t.arena + j < cap t → Done cube_kids tallest t x p (part (W t) a c) j 0 1 new)
        → ((j : ℕ) → r ≡ lack j → live_in t.arena + j < cap t → make_by t x p (part (W t) a c) bp 0 1 ≡ new)
        → up_need (λ s. need_of cube_kids t (replace (part (W t) a) c s)) r ≡ lack k
        → make_by t x (c ∷ p) a (up_plan t a c bp) h q ≡ over kids_fit two w x small c a h q (low_of t r new)
    unfolding up_need low_of
    step_same B bp r top (agree_have {r = s}) u done ih e = step_have s u e
    step_same B bp r top (agree_lack {k = j} {s = s} one most) u done ih e =
        let z : suc j ≡ k = lack_inj e in
        step_lack j s one (omega arith) z (done j refl (omega arith)) (ih j refl (omega arith))

  leaf_case : (a k h q : ℕ) → cell_need t x ≡ lack k → live_in t.arena + k < cap t → make_by t x [] a (cell_plan t x) h q ≡ leaf_anew t x h q
  leaf_case a k h q e room = go (cell_came kids_fit kids_some w x) (cell_agree w x small)
    where
      go : Cell-came cube_kids t x → Agree 1 (cell_plan t x) (cell_need t x) → make_by t x [] a (cell_plan t x) h q ≡ leaf_anew t x h q
      go (cell_none z r) g = absurd (have_lack (sym r ∙ e))
      go (cell_leaf r d y s) g = absurd (have_lack (sym s ∙ e))
      go (cell_lack d z y s) g =
          let one : 1 ≡ k = lack_inj (sym s ∙ e) in
          rw (lack_plan w x d z) (make_leaf t x a 0 0 h q ∙ leaf_same [] x h q inv (omega arith))

  pub make_same : {d : ℕ} {p : List ℕ} (a k h q : ℕ) → LiveOr0 (cap t) (W t) a → height_at (W t) a ≤ d → d ≤ tallest → Cell cube_kids d p
      → plan_of cube_kids t x p a ≡ lack k → live_in t.arena + k < cap t → h ≤ most_holds → 1 ≤ h + q
      → make_by t x p a (plan_by t x p a) h q ≡ make_of cube_kids t x p a h q
  unfolding plan_by plan_of make_of
  make_same a k h q l low tall here e room few held = leaf_case a k h q e room
  make_same a k h q l low tall (down {d = d} {c = c} {p = p} b cell) e room few held =
      let lb = part_there cube_kids (cap t) (W t) made a c l b in
      let hb = part_low cube_kids (cap t) (W t) made a c l b d low in
      step_same d c a k h q p l low b cell tall room few held (make_of cube_kids t x p (part (W t) a c) 0 1)
      (suc d) (plan_by t x p (part (W t) a c)) (plan_of cube_kids t x p (part (W t) a c)) (omega arith) (plan_agree w x small (part (W t) a c) lb hb (omega arith) cell)
      (plan_is kids_fit kids_some w x (part (W t) a c) lb hb cell)
      (λ j z y. make_done kids_fit two w x small (part (W t) a c) j 0 1 lb hb (omega arith) cell z y (omega arith) (omega arith))
      (λ j z y. make_same (part (W t) a c) j 0 1 lb hb (omega arith) cell z y (omega arith) (omega arith)) e
