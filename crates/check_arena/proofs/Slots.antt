-- One slot: what the code tests is what the rules say.
use mathlib.Core.Path.{◌≡◌, sym, ap, ◌∙◌}
use mathlib.Core.Logic.{◌≢◌, ◌⊎◌, inl, inr, ⊎_elim}
use mathlib.Core.List.{List}
use Prim.Native.Nat.{ℕ, suc, ◌+◌, ◌-◌, ◌/◌, ◌%◌, ◌^◌, ◌≤◌, ◌<◌}
use native.Mathlib.Decide.{ℕ_discrete, dec_lt}
use native.Mathlib.Omega.{arith}
use lib.Dec.{eqb, leb}
use lib.ListN.{get_or}
use Rattle.basics.specs.Limits.{deepest, cube_kids}
use Rattle.basics.specs.Pick.{pick}
use Rattle.basics.specs.Sums.{sum_to, average}
use Rattle.ids.specs.Ids.{generation_of}
use Rattle.nodes.specs.Words.{Words, own, value, height, sum, spare, hash, holds, places, mark, nodes, kid_of, fact_of, word_of, slot, floor}
use Rattle.nodes.specs.Tally.{kids_of, Live}
use Rattle.nodes.specs.Values.{value_at, height_at, max_to}
use Rattle.nodes.proofs.Access.{word_fact, kids_word}
use Rattle.nodes.proofs.Sums.{cases, split, sum_to_ext_lem}
use Rattle.find_hash.specs.Hash.{leaf_hash, kids_hash}
use Rattle.arena.specs.Calls.{none_of, live_of, live_or_empty, all_live}
use Rattle.arena.specs.Models.{top_for}
use Rattle.arena.specs.Node.{leaf_id, branch_id, sum_for, value_for, LeafNode, BranchNode, Node}
use Rattle.arena.specs.Tables.{Cleared}
use Rattle.arena.proofs.Branches.{some_kid}
use Rattle.arena.proofs.Ids.{new_leaf_lem, new_branch_lem, max_ext}
use Rattle.new_value.proofs.Facts.{sum_facts, value_facts, top_facts}
use Rattle.check_freed.specs.Models.{all_in}
use Rattle.check_freed.proofs.Ladders.{Tells, tells_eq, tells_le, tells_lt, tells_map, tells_and, tells_if, tells_else, tells_not}
use Rattle.check_freed.proofs.Passes.{tells_tab, tells_all}
use Rattle.find.proofs.Searched.{kids_at, kids_length}
use Rattle.check_freed.proofs.Freed.{given_tells}
use Rattle.check_arena.specs.Models.{fact_zero, blank_at, rests_at, dead_fine, counts_fine, leaf_named, kept_at, leaf_fine, branch_named, tall_at, branch_fine, kind_fine, live_fine, plain_at, slot_fine}

-- ---- the children

module _ (c : ℕ) (W : Words) (s : ℕ) where
  none_tells : Tells (none_of (kids_of 8 W s)) ((i : ℕ) → i < 8 → W s i ≡ 0)
  unfolding none_of kids_of
  none_tells =
      tells_map (λ q i l. q i (omega arith) (omega arith)) (λ q i a l. q i (omega arith))
      (tells_tab (λ y. eqb y 0) (λ i. W s i ≡ 0) (W s) 8 0 (λ i a l. tells_eq (W s i) 0))

  some_child : (((i : ℕ) → i < 8 → W s i ≡ 0) → ⊥) → (i : ℕ) × (i < 8) × (W s i ≢ 0)
  some_child n = split (none_of (kids_of 8 W s)) (λ y. absurd (n (none_tells.0 y)))
      (λ y.
      let r = some_kid (kids_of 8 W s) y in
      let l : r.0 < 8 = (let a = r.1 in omega (arith, kids_length W s)) in
      (r.0, l, (λ z. r.2 (sym (kids_at W s r.0 l) ∙ z))))

  live_tells : (y : ℕ) → Tells (live_of c W y) (Live c W y)
  unfolding live_of
  live_tells y =
      tells_map (λ r. record { low = r.0; is = r.1.1; high = r.1.0 }) (λ v. (v.low, (v.high, v.is)))
      (tells_and (tells_lt (slot y) c) (λ l. tells_and (tells_le floor y) (λ h. tells_eq (W (slot y) own) y)))

  kids_tell : Tells (all_live c W (kids_of 8 W s)) ((i : ℕ) → i < 8 → W s i ≢ 0 → Live c W (W s i))
  unfolding live_or_empty kids_of
  kids_tell =
      tells_map (λ q i l. q i (omega arith) (omega arith)) (λ q i a l. q i (omega arith))
      (tells_tab (live_or_empty c W) (λ i. W s i ≢ 0 → Live c W (W s i)) (W s) 8 0 (λ i a l. tells_else (tells_eq (W s i) 0) (λ n. live_tells (W s i))))

  -- what the code works out of the list of the children
  sum_kids : sum_for cube_kids W (kids_of 8 W s) ≡ sum_to cube_kids (λ i. value_at W (W s i))
  unfolding sum_for
  sum_kids =
      sum_to_ext_lem cube_kids (λ i. value_at W (get_or (kids_of 8 W s) i 0)) (λ i. value_at W (W s i))
      (λ i l. ap (value_at W) (sym (kids_at W s i (omega arith))))

  value_kids : value_for cube_kids W (kids_of 8 W s) ≡ average cube_kids (λ i. value_at W (W s i))
  unfolding value_for sum_for
  value_kids = ap (λ (x : ℕ). x / cube_kids) sum_kids

  top_kids : top_for W (kids_of 8 W s) cube_kids ≡ max_to cube_kids (λ i. height_at W (W s i))
  unfolding top_for
  top_kids =
      max_ext cube_kids (λ i. height_at W (get_or (kids_of 8 W s) i 0)) (λ i. height_at W (W s i))
      (λ i l. ap (height_at W) (sym (kids_at W s i (omega arith))))

-- ---- the words, as the code reads them

module _ (k f : List ℕ) (s : ℕ) where
  abbrev U : Words
  U = word_of (nodes k f)

  abbrev gen : ℕ
  gen = generation_of (U s own)

  kids_same : kids_of 8 (kid_of k) s ≡ kids_of 8 U s
  kids_same = kids_word 8 (nodes k f) s (omega arith)

  -- ---- a live slot

  module _ (small : s < 65536) (young : gen ≤ 0x7FFD) where
    leaf_named_lem : Tells (leaf_named f s) (U s own ≡ leaf_id s gen)
    unfolding leaf_named word_of
    leaf_named_lem = let e : s % 2 ^ 32 ≡ s = omega arith in rw (e, new_leaf_lem s gen (omega arith)) (tells_eq (U s own) (leaf_id s gen))

    branch_named_lem : (ks : List ℕ) → Tells (branch_named f ks s) (U s own ≡ branch_id ks s gen)
    unfolding branch_named word_of
    branch_named_lem ks = let e : s % 2 ^ 32 ≡ s = omega arith in rw (e, new_branch_lem ks s gen (omega arith)) (tells_eq (U s own) (branch_id ks s gen))

    kept_tells : (total h : ℕ) → Tells (kept_at f total h s) ((U s sum ≡ total) × (U s hash ≡ h))
    unfolding kept_at word_of
    kept_tells total h = tells_and (tells_eq (U s sum) total) (λ e. tells_eq (U s hash) h)

    leaf_tells : Tells (leaf_fine f s)
        ((U s own ≡ leaf_id s gen) × ((U s value ≢ 0) × ((U s height ≡ 0) × ((U s sum ≡ 0) × (U s hash ≡ leaf_hash (U s value))))))
    unfolding leaf_fine word_of
    leaf_tells =
        tells_and leaf_named_lem (λ e. tells_not (tells_eq (U s value) 0) (tells_and (tells_eq (U s height) 0) (λ h. kept_tells 0 (leaf_hash (U s value)))))

    tall_tells : (top : ℕ) → Tells (tall_at f top s) ((U s height ≡ suc top) × (U s height ≤ deepest))
    unfolding tall_at word_of
    tall_tells top =
        tells_map (λ r. let d = r.0 in cases (ℕ_discrete (U s height) 0) (λ z. absurd (d z)) (λ z. omega arith)) (λ r. ((λ z. omega arith), (r.1, omega arith)))
        (tells_not (tells_eq (U s height) 0) (tells_and (tells_le (U s height) deepest) (λ l. tells_eq (U s height - 1) top)))

    module _ (c : ℕ) where
      abbrev Parts : Type 0
      Parts =
          (U s own ≡ branch_id (kids_of 8 U s) s gen)
          × (((i : ℕ) → i < 8 → U s i ≢ 0 → Live c U (U s i))
          × ((U s value ≡ average cube_kids (λ i. value_at U (U s i)))
          × (((U s sum ≡ sum_to cube_kids (λ i. value_at U (U s i))) × (U s hash ≡ kids_hash (kids_of 8 U s)))
          × ((U s height ≡ suc (max_to cube_kids (λ i. height_at U (U s i)))) × (U s height ≤ deepest)))))

      each_tells : Tells (all_live c (fact_of f) (kids_of 8 U s)) ((i : ℕ) → i < 8 → U s i ≢ 0 → Live c U (U s i))
      unfolding live_or_empty live_of word_of
      each_tells = kids_tell c U s

      value_tells : Tells (eqb (fact_of f s value) (value_for cube_kids (fact_of f) (kids_of 8 U s))) (U s value ≡ average cube_kids (λ i. value_at U (U s i)))
      value_tells =
          rw (value_facts k f (kids_of 8 U s), value_kids c U s, sym (word_fact (nodes k f) s value (omega arith)))
          (tells_eq (U s value) (average cube_kids (λ i. value_at U (U s i))))

      kids_kept : Tells (kept_at f (sum_for cube_kids (fact_of f) (kids_of 8 U s)) (kids_hash (kids_of 8 U s)) s)
          ((U s sum ≡ sum_to cube_kids (λ i. value_at U (U s i))) × (U s hash ≡ kids_hash (kids_of 8 U s)))
      kids_kept = rw (sum_facts k f (kids_of 8 U s), sum_kids c U s) (kept_tells (sum_to cube_kids (λ i. value_at U (U s i))) (kids_hash (kids_of 8 U s)))

      branch_tells : Tells (branch_fine f c (kids_of 8 U s) s) Parts
      unfolding branch_fine
      branch_tells =
          tells_and (branch_named_lem (kids_of 8 U s))
          (λ e. tells_and each_tells
          (λ l. tells_and value_tells
          (λ v. tells_and kids_kept
          (λ h. rw (top_facts k f (kids_of 8 U s), top_kids c U s) (tall_tells (max_to cube_kids (λ i. height_at U (U s i))))))))

      -- without children it is a leaf, else a branch
      kind_tells : Tells (kind_fine f c (kids_of 8 U s) s) (LeafNode U s ⊎ BranchNode cube_kids deepest c U s)
      unfolding kind_fine
      kind_tells =
          tells_if (none_tells c U s)
          (λ e. tells_map
          (λ r. inl (record {
            id = r.0;
            some = (let d = r.1.0 in cases (ℕ_discrete (U s value) 0) (λ z. absurd (d z)) (λ z. omega arith));
            bare = e;
            flat = r.1.1.0;
            summed = r.1.1.1.0;
            hashed = r.1.1.1.1;
          }))
          (⊎_elim (λ l. (l.id, ((λ z. let q = l.some in omega arith), (l.flat, (l.summed, l.hashed)))))
          (λ b. absurd (b.some.2 (e b.some.0 b.some.1))))
          leaf_tells)
          (λ n. tells_map
          (λ r. inr (record {
            id = r.0;
            children = r.1.0;
            some = some_child c U s n;
            beyond = λ i a l. absurd (omega arith);
            averaged = r.1.1.0;
            tall = r.1.1.1.1.0;
            low = r.1.1.1.1.1;
            summed = r.1.1.1.0.0;
            hashed = r.1.1.1.0.1;
          }))
          (⊎_elim (λ l. absurd (n l.bare)) (λ b. (b.id, (b.children, (b.averaged, ((b.summed, b.hashed), (b.tall, b.low)))))))
          branch_tells)

      live_fine_lem : Tells (live_fine k f c s)
          (((U s holds ≤ 1000000) × ((1 ≤ U s holds + U s places) × (U s mark ≡ 0))) × (LeafNode U s ⊎ BranchNode cube_kids deepest c U s))
      unfolding live_fine counts_fine word_of
      live_fine_lem =
          tells_and
          (tells_and (tells_le (U s holds) 1000000) (λ a. tells_and (tells_le 1 (U s holds + U s places)) (λ b. tells_eq (U s mark) 0)))
          (λ e. rw kids_same kind_tells)

  -- ---- a slot that is not live

  dead_tells : Tells (dead_fine k f s) (Cleared U s)
  unfolding dead_fine blank_at fact_zero
  dead_tells =
      tells_map
      (λ r. record {
        words = λ g l d h. cases (dec_lt g 8) (λ m. r.1.0 g m)
            (λ m. word_fact (nodes k f) s g (omega arith) ∙ r.1.1 g (omega arith) (omega arith));
        seal = seal ∙ r.0;
      })
      (λ v. (
        sym seal ∙ v.seal,
        (
          (λ i l. v.words i (omega arith) (omega arith) (omega arith)),
          (λ g a l. sym (word_fact (nodes k f) s g (omega arith)) ∙ v.words g (omega arith) (omega arith) (omega arith)),
        ),
      ))
      (tells_and (tells_eq (fact_of f s own % 2 ^ 32) 0)
      (λ e. tells_and kids (λ n. tells_all (fact_zero f s) (λ g. fact_of f s g ≡ 0) value mark (λ g a l. tells_eq (fact_of f s g) 0))))
    where
      seal : U s own % 2 ^ 32 ≡ fact_of f s own % 2 ^ 32
      seal = ap (λ (x : ℕ). x % 2 ^ 32) (word_fact (nodes k f) s own (omega arith))

      kids : Tells (none_of (kids_of 8 (kid_of k) s)) ((i : ℕ) → i < 8 → U s i ≡ 0)
      kids = rw kids_same (none_tells 0 U s)

  -- ---- given out, or not; and the words that every slot has

  rest_tells : (next : ℕ) → Tells (rests_at f next s) (((s ≢ 0) × (s < next) → ⊥) → (U s own ≡ 0) × (U s mark ≡ 0))
  unfolding rests_at word_of
  rest_tells next = tells_else (given_tells next s) (λ n. tells_and (tells_eq (U s own) 0) (λ e. tells_eq (U s mark) 0))

  plain_tells : Tells (plain_at f s) ((U s spare ≡ 0) × ((U s value ≤ 65535) × (gen ≤ 0x7FFD)))
  unfolding plain_at word_of
  plain_tells = tells_and (tells_eq (U s spare) 0) (λ e. tells_and (tells_le (U s value) 65535) (λ l. tells_le gen 0x7FFD))

-- ---- one slot: its own words, its children's, and the state

pub record GoodSlot (n tallest c next : ℕ) (W : Words) (s : ℕ) : Type 0 where
  pub node : floor ≤ W s own → Node n tallest c W s
  pub used : floor ≤ W s own → 1 ≤ W s holds + W s places
  pub plain : floor ≤ W s own → W s mark ≡ 0
  pub cleared : W s own < floor → Cleared W s
  pub blank : (s ≡ 0) ⊎ (next ≤ s) → (W s own ≡ 0) × (W s mark ≡ 0)
  pub spared : W s spare ≡ 0
  pub gens : generation_of (W s own) ≤ 0x7FFD

module _ (k f : List ℕ) (c next : ℕ) where
  abbrev X : Words
  X = word_of (nodes k f)

  abbrev Good : ℕ → Type 0
  Good s = GoodSlot cube_kids deepest c next X s

  -- a good slot has a small value
  good_small : (s : ℕ) → Good s → X s value ≤ 65535
  good_small s g = cases (dec_lt (X s own) floor)
      (λ h. let w = (g.cleared h).words value (omega arith) (omega arith) (omega arith) in omega arith)
      (λ h. (g.node (omega arith)).small)

  slot_tells : (s : ℕ) → s < 65536 → Tells (slot_fine k f c next s) (Good s)
  unfolding slot_fine
  slot_tells s low =
      tells_map
      (λ r. record {
        node = λ h. let v = r.1.1.0 h in record { kind = v.1; small = r.0.1.0; few = v.0.0 };
        used = λ h. (r.1.1.0 h).0.1.0;
        plain = λ h. (r.1.1.0 h).0.1.1;
        cleared = r.1.1.1;
        blank = λ z. r.1.0 (λ g. let l = g.1 in ⊎_elim g.0 (λ q. omega arith) z);
        spared = r.0.0;
        gens = r.0.1.1;
      })
      (λ g. (
        (g.spared, (good_small s g, g.gens)),
        (
          (λ n. g.blank (cases (ℕ_discrete s 0) inl (λ d. inr (cases (dec_lt s next) (λ l. absurd (n (d, l))) (λ l. omega arith))))),
          ((λ h. let m = g.node h in ((m.few, (g.used h, g.plain h)), m.kind)), g.cleared),
        ),
      ))
      (tells_and (plain_tells k f s) (λ p. tells_and (rest_tells k f s next) (λ q. either p.1.1)))
    where
      either : generation_of (X s own) ≤ 0x7FFD → Tells (pick (leb floor (fact_of f s own)) (live_fine k f c s) (dead_fine k f s))
          ((floor ≤ X s own → ((X s holds ≤ 1000000) × ((1 ≤ X s holds + X s places) × (X s mark ≡ 0))) × (LeafNode X s ⊎ BranchNode cube_kids deepest c X s)) × (X s own < floor → Cleared X s))
      either young =
          let e : X s own ≡ fact_of f s own = word_fact (nodes k f) s own (omega arith) in
          tells_if (tells_le floor (fact_of f s own))
          (λ h. tells_map (λ r. ((λ a. r), (λ a. absurd (omega arith)))) (λ r. r.0 (omega arith)) (live_fine_lem k f s low young c))
          (λ h. tells_map (λ r. ((λ a. absurd (h (omega arith))), (λ a. r))) (λ r. r.1 (cases (dec_lt (X s own) floor) (λ l. l) (λ l. absurd (h (omega arith))))) (dead_tells k f s))

  pub slots_tell : c ≤ 65536 → Tells (all_in 0 c (slot_fine k f c next)) ((s : ℕ) → s < c → Good s)
  slots_tell most =
      tells_map (λ q s l. q s (omega arith) l) (λ q s a l. q s l) (tells_all (slot_fine k f c next) Good 0 c (λ s a l. slot_tells s (omega arith)))
