-- A fresh leaf and a fresh branch, with h holds and q places: what they leave, and that the code's way comes to it. Interning and the edit both
-- make their nodes by these.
use mathlib.Core.Path.{◌≡◌, refl, sym, ap, ap₂, ◌∙◌, subst}
use mathlib.Core.Logic.{◌≢◌, inl, inr}
use mathlib.Core.Bool.{Bool, false}
use mathlib.Core.List.{List, [], ◌++◌}
use Prim.Native.Nat.{ℕ, suc, ◌+◌, ◌*◌, ◌/◌, ◌%◌, ◌^◌, ◌≤◌, ◌<◌}
use native.Mathlib.Nat.{div-lt_iff_lt-mul}
use native.Mathlib.Decide.{ℕ_discrete, dec_lt}
use native.Mathlib.Omega.{arith}
use lib.Dec.{eqb}
use lib.ListN.{length, get_or, set, replicate}
use borrow.Author.Tests.{eq-eqb, ne_eqb}
use Rattle.basics.specs.Pick.{pick}
use Rattle.basics.specs.Sums.{sum_to}
use Rattle.ids.specs.Ids.{generation_of}
use Rattle.nodes.specs.Tally.{Live, occ}
use Rattle.nodes.specs.Values.{value_at, height_at}
use Rattle.nodes.specs.Words.{own, value, height, holds, places, mark, entry, slot, floor, Words, word_of, facts_put, written}
use Rattle.nodes.proofs.Access.{written_kept}
use Rattle.nodes.proofs.Counts.{live_same, total_append}
use Rattle.nodes.proofs.Sums.{cases, occ_nil, occ_append, sum_to_ext_lem, sum_to_mono_lem, sum_to_const_lem}
use Rattle.find_hash.specs.Hash.{leaf_hash, kids_hash, home_in}
use Rattle.find.specs.Cells.{insert_at, probe, cell}
use Rattle.find.proofs.Contents.{kids_are_lem, probe_as}
use Rattle.arena.specs.Calls.{Out, said, empties, none_of, fresh_in, fresh_facts, given_by, slot_given, named, fresh_node, leaf_anew, branch_anew}
use Rattle.arena.specs.Models.{more_of, fresh_at, leaf_fresh, branch_with, branch_fresh, sum_by}
use Rattle.arena.specs.Node.{leaf_id, branch_id, sum_for, value_for, height_for, Node}
use Rattle.arena.specs.Tables.{live_in, Tables, tables, cap, W, LiveSlot}
use Rattle.arena.proofs.Branches.{some_kid, occ_at, occ_in}
use Rattle.arena.proofs.Ids.{new_leaf_lem, new_branch_lem, value_node, value_zero, height_node, height_zero, max_le, max_ext}
use Rattle.arena.proofs.Inv.{Inv, Content, inv_debt}
use Rattle.arena.proofs.Make.{fresh_free, fresh_small, fresh_bumps, given_lives, Called, spot, leaf_own, branch_own, leaf_called, branch_called, Row, Alone, made_row, made_old, made_inv, made_content}
use Rattle.arena.proofs.Places.{more_few}
use Rattle.arena.proofs.Outs.{said_path, tables_path, state_path}
use Rattle.arena.proofs.Rows.{fresh_rest, empties_none, empties_length, empties_at}

-- From t to u: u keeps the rules with the debt, it has k nodes more, and every node of t is as it was but for its places.
pub record Grown (n tallest : ℕ) (t u : Tables) (debt : List ℕ) (k : ℕ) : Type 0 where
  pub inv : Inv u debt
  pub content : Content n tallest (cap u) (W u)
  pub caps : cap u ≡ cap t
  pub lives : live_in u.arena ≡ live_in t.arena + k
  pub old : (y f : ℕ) → Live (cap t) (W t) y → f ≤ mark → f ≢ places → W u (slot y) f ≡ W t (slot y) f

-- the node of id r is fresh in u: no slot of t had it
pub record Fresh (t u : Tables) (r : ℕ) (ks : List ℕ) (v h p : ℕ) : Type 0 where
  pub caps : cap u ≡ cap t
  pub given : u.arena ≡ slot_given t.arena
  pub lies : slot r ≡ fresh_in t
  pub live : Live (cap t) (W u) r
  pub dead : W t (slot r) own < floor
  pub kid : (j : ℕ) → j < 8 → W u (slot r) j ≡ get_or ks j 0
  pub worth : W u (slot r) value ≡ v
  pub held : W u (slot r) holds ≡ h
  pub put : W u (slot r) places ≡ p
  -- it has its slot's generation
  pub gen : generation_of r ≡ generation_of (W t (slot r) own)
  -- every other slot is as it was, and so are the entries of the stack of freed slots
  pub others : (s f : ℕ) → s ≢ slot r → f ≤ mark → W u s f ≡ W t s f
  pub entries : (i : ℕ) → W u i entry ≡ W t i entry

-- what a fresh node leaves, as an answer
pub record Makes-one (n tallest : ℕ) (t : Tables) (ks : List ℕ) (v h q : ℕ) (o : Out) : Type 0 where
  pub grown : Grown n tallest t o.after (replicate q o.id) 1
  pub fresh : Fresh t o.after o.id ks v h q

-- ---- any fresh node

abbrev words : Tables → ℕ → List ℕ → ℕ → ℕ → ℕ → ℕ → ℕ → ℕ → Words
words t id ks v up sm kh h q = word_of (written t.nodes (spot t) ks (fresh_facts id v up sm kh h q))

module _ {t : Tables} (id : ℕ) (ks : List ℕ) (v up sm kh h q : ℕ) (e : length ks ≡ 8) (i : Inv t (ks ++ [])) (room : live_in t.arena + 1 < cap t)
    (called : Called t id) where
  node_new : Fresh t (fresh_node t id ks v up sm kh h q).after id ks v h q
  unfolding fresh_node slot_given
  node_new =
      let o = called.spot in
      let U' = words t id ks v up sm kh h q in
      let free = fresh_free (ks ++ []) i room in
      let row : Row (W t) U' (spot t) id ks v up sm kh h q = made_row id ks v up sm kh h q e i room called in
      record {
        caps = refl;
        given = refl;
        lies = o;
        live = record { low = (let a = free.1 in omega arith); is = ap (λ (b : ℕ). U' b own) o ∙ row.self; high = called.high };
        dead = subst (λ (b : ℕ). W t b own < floor) (sym o) free.2;
        kid = λ j l. ap (λ (b : ℕ). U' b j) o ∙ row.kid j l;
        worth = ap (λ (b : ℕ). U' b value) o ∙ row.worth;
        held = ap (λ (b : ℕ). U' b holds) o ∙ row.held;
        put = ap (λ (b : ℕ). U' b places) o ∙ row.put;
        gen = called.gen ∙ ap (λ (b : ℕ). generation_of (W t b own)) (sym o);
        others = λ b f d l. row.others b f (λ z. d (z ∙ sym o)) l;
        entries = row.entries;
      }

  node_grown : (n tallest : ℕ) → n ≤ 8 → Content n tallest (cap t) (W t) → Alone t ks v → 1 ≤ h + q → ((y : ℕ) → y ≢ 0 → 1 ≤ occ y ks → W t (slot y) height < up)
      → Node n tallest (cap t) (words t id ks v up sm kh h q) (spot t) → Grown n tallest t (fresh_node t id ks v up sm kh h q).after (replicate q id) 1
  unfolding fresh_node slot_given
  node_grown n tallest m c alone held taller node = record {
    inv = made_inv id ks v up sm kh h q e i room called held taller;
    content = made_content id ks v up sm kh h q e i room called n tallest m alone node c;
    caps = refl;
    lives = given_lives (ks ++ []) i room;
    old = λ y f l a b. made_old id ks v up sm kh h q e i room called y f l a;
  }

-- every slot has the generation that it had
pub fresh_gens : {t u : Tables} {r : ℕ} {ks : List ℕ} {v h p : ℕ} → Fresh t u r ks v h p → (b : ℕ) → generation_of (W u b own) ≡ generation_of (W t b own)
fresh_gens {r} f b = cases (ℕ_discrete b (slot r))
    (λ (z : b ≡ slot r). rw z (ap generation_of f.live.is ∙ f.gen))
    (λ z. ap generation_of (f.others b own z (omega arith)))

-- ---- a fresh leaf

empty_debt : {t : Tables} → Inv t [] → Inv t (empties ++ [])
empty_debt j = inv_debt [] (empties ++ []) (λ y d. omega (arith, occ_nil y, occ_append y empties [], empties_none y d)) j

pub leaf_new : {t : Tables} → Inv t [] → live_in t.arena + 1 < cap t → (x h q : ℕ) → Fresh t (leaf_anew t x h q).after (leaf_anew t x h q).id empties x h q
unfolding leaf_anew fresh_node
leaf_new {t} j room x h q = node_new (leaf_own t) empties x 0 0 (leaf_hash x) h q empties_length (empty_debt j) room (leaf_called [] j room)

module _ (n tallest : ℕ) (m : n ≤ 8) {t : Tables} (x h q : ℕ) (j : Inv t []) (c : Content n tallest (cap t) (W t)) (room : live_in t.arena + 1 < cap t)
    (some : x ≢ 0) (small : x ≤ 65535) (few : h ≤ 1000000) (held : 1 ≤ h + q) (alone : Alone t empties x) where
  leaf_row : Node n tallest (cap t) (words t (leaf_own t) empties x 0 0 (leaf_hash x) h q) (spot t)
  leaf_row =
      let called = leaf_called [] j room in
      let r = made_row (leaf_own t) empties x 0 0 (leaf_hash x) h q empties_length (empty_debt j) room called in
      let o = r.worth in
      let f = r.held in
      record {
        kind = inl (record {
          id = r.self ∙ ap (leaf_id (spot t)) (sym (ap generation_of r.self ∙ called.gen));
          some = omega arith;
          bare = λ k b. r.kid k b ∙ empties_at k b;
          flat = r.tall;
          summed = r.summed;
          hashed = r.hashed ∙ ap leaf_hash (sym o);
        });
        small = omega arith;
        few = omega arith;
      }

  leaf_grown : Grown n tallest t (leaf_anew t x h q).after (replicate q (leaf_anew t x h q).id) 1
  unfolding leaf_anew fresh_node
  leaf_grown = node_grown (leaf_own t) empties x 0 0 (leaf_hash x) h q empties_length (empty_debt j) room (leaf_called [] j room) n tallest m c alone held
      (λ y a b. absurd (let z = empties_none y a in omega arith)) leaf_row

  pub leaf_makes : Makes-one n tallest t empties x h q (leaf_anew t x h q)
  leaf_makes = record { grown = leaf_grown; fresh = leaf_new j room x h q }

-- ---- a fresh branch over children whose places are owed

sum_bound : (n : ℕ) (f : ℕ → ℕ) → ((i : ℕ) → i < n → f i ≤ 65535) → sum_to n f ≤ n * 65535
sum_bound n f h = omega (arith, sum_to_mono_lem n f (λ i. 65535) h, sum_to_const_lem n 65535)

value_bound : (n : ℕ) (f : ℕ → ℕ) → 1 ≤ n → ((i : ℕ) → i < n → f i ≤ 65535) → sum_to n f / n ≤ 65535
value_bound n f pos h =
    let r = sum_bound n f h in
    let q : sum_to n f / n < 65536 = (div-lt_iff_lt-mul pos).1 (omega arith) in
    omega arith

-- the sum, the stored value and the height of a branch are read from the children's
module _ (n : ℕ) (U U' : Words) (ks : List ℕ) where
  pub sum_same : ((b : ℕ) → U' b value ≡ U b value) → sum_for n U' ks ≡ sum_for n U ks
  unfolding sum_for value_at
  sum_same h = sum_to_ext_lem n (λ i. value_at U' (get_or ks i 0)) (λ i. value_at U (get_or ks i 0)) (λ i l. ap (λ (x : ℕ). pick (eqb (get_or ks i 0) 0) 0 x) (h (slot (get_or ks i 0))))

  pub value_same : ((b : ℕ) → U' b value ≡ U b value) → value_for n U' ks ≡ value_for n U ks
  unfolding value_for value_at
  value_same h = ap (λ (x : ℕ). x / n) (sum_to_ext_lem n (λ i. value_at U' (get_or ks i 0)) (λ i. value_at U (get_or ks i 0)) (λ i l. ap (λ (x : ℕ). pick (eqb (get_or ks i 0) 0) 0 x) (h (slot (get_or ks i 0)))))

  pub height_same : ((b : ℕ) → U' b height ≡ U b height) → height_for n U' ks ≡ height_for n U ks
  unfolding height_for height_at
  height_same h = ap suc (max_ext n (λ i. height_at U' (get_or ks i 0)) (λ i. height_at U (get_or ks i 0)) (λ i l. ap (λ (x : ℕ). pick (eqb (get_or ks i 0) 0) 0 x) (h (slot (get_or ks i 0)))))

-- the children's values and their average fit 16 bits, so that the code's sum is not cut
module _ (n tallest : ℕ) (m : n ≤ 8) (pos : 1 ≤ n) (t : Tables) (ks : List ℕ) (e : length ks ≡ 8) (c : Content n tallest (cap t) (W t))
    (live : (y : ℕ) → y ≢ 0 → 1 ≤ occ y ks → Live (cap t) (W t) y) where
  kid_small : (k : ℕ) → k < n → value_at (W t) (get_or ks k 0) ≤ 65535
  kid_small k l = cases (ℕ_discrete (get_or ks k 0) 0)
      (λ (z : get_or ks k 0 ≡ 0). rw z (let p = value_zero (W t) in omega arith))
      (λ z.
      let y = live (get_or ks k 0) z (occ_at ks k (omega arith)) in
      let yi = y.is in
      let yh = y.high in
      let b = (c.nodes (slot (get_or ks k 0)) y.low (omega arith)).small in
      let p = value_node (W t) (get_or ks k 0) z in
      omega arith)

  pub value_small : value_for n (W t) ks ≤ 65535
  unfolding value_for
  value_small = value_bound n (λ k. value_at (W t) (get_or ks k 0)) pos kid_small

  pub sum_by_lem : sum_by n (W t) ks ≡ sum_for n (W t) ks
  unfolding sum_by sum_for
  sum_by_lem = let r = sum_bound n (λ k. value_at (W t) (get_or ks k 0)) kid_small in omega arith

pub branch_new : (n : ℕ) {t : Tables} (ks : List ℕ) → length ks ≡ 8 → none_of ks ≡ false → Inv t (ks ++ []) → live_in t.arena + 1 < cap t → (h q : ℕ)
    → Fresh t (branch_anew n t ks h q).after (branch_anew n t ks h q).id ks (value_for n (W t) ks) h q
unfolding branch_anew fresh_node
branch_new n {t} ks e some i room h q =
    node_new (branch_own t ks) ks (value_for n (W t) ks) (height_for n (W t) ks) (sum_for n (W t) ks) (kids_hash ks) h q e i room (branch_called (ks ++ []) i room ks some)

module _ (n tallest : ℕ) (m : n ≤ 8) (pos : 1 ≤ n) {t : Tables} (ks : List ℕ) (h q : ℕ) (e : length ks ≡ 8)
    (beyond : (i : ℕ) → n ≤ i → i < 8 → get_or ks i 0 ≡ 0) (some : none_of ks ≡ false) (i : Inv t (ks ++ [])) (c : Content n tallest (cap t) (W t))
    (room : live_in t.arena + 1 < cap t) (lowers : height_for n (W t) ks ≤ tallest) (few : h ≤ 1000000) (held : 1 ≤ h + q)
    (lone : (x : ℕ) → LiveSlot t x → ((j : ℕ) → j < 8 → W t x j ≡ get_or ks j 0) → ⊥) where
  abbrev id : ℕ
  id = branch_own t ks

  abbrev v : ℕ
  v = value_for n (W t) ks

  abbrev up : ℕ
  up = height_for n (W t) ks

  abbrev sm : ℕ
  sm = sum_for n (W t) ks

  abbrev U' : Words
  U' = words t id ks v up sm (kids_hash ks) h q

  called : Called t id
  called = branch_called (ks ++ []) i room ks some

  r : Row (W t) U' (spot t) id ks v up sm (kids_hash ks) h q
  r = made_row id ks v up sm (kids_hash ks) h q e i room called

  old : (y f : ℕ) → Live (cap t) (W t) y → f ≤ mark → U' (slot y) f ≡ W t (slot y) f
  old = made_old id ks v up sm (kids_hash ks) h q e i room called

  kid_live : (y : ℕ) → y ≢ 0 → 1 ≤ occ y ks → Live (cap t) (W t) y
  kid_live y d o = i.counts.named y d (omega (arith, total_append 8 (cap t) (W t) y ks []))

  below : (k : ℕ) → k < 8 → get_or ks k 0 ≢ 0 → k < n
  below k l d = cases (dec_lt k n) (λ z. z) (λ z. absurd (d (beyond k (omega arith) l)))

  kid_lower : (y : ℕ) → y ≢ 0 → 1 ≤ occ y ks → W t (slot y) height < up
  unfolding height_for
  kid_lower y d o =
      let z = occ_in ks y o in
      let k = z.0 in
      let l = z.1 in
      let b = below k (omega arith) (λ a. d (sym z.2 ∙ a)) in
      let p = max_le n (λ z. height_at (W t) (get_or ks z 0)) k b in
      let a : height_at (W t) (get_or ks k 0) ≡ W t (slot y) height = ap (height_at (W t)) z.2 ∙ height_node (W t) y d in
      omega arith

  kid_value : (k : ℕ) → k < n → value_at U' (U' (spot t) k) ≡ value_at (W t) (get_or ks k 0)
  kid_value k l =
      let p = r.kid k (omega arith) in
      rw p (cases (ℕ_discrete (get_or ks k 0) 0)
      (λ (z : get_or ks k 0 ≡ 0). rw z (value_zero U' ∙ sym (value_zero (W t))))
      (λ z. value_node U' (get_or ks k 0) z ∙ old (get_or ks k 0) value (kid_live (get_or ks k 0) z (occ_at ks k (omega arith))) (omega arith) ∙ sym (value_node (W t) (get_or ks k 0) z)))

  kid_tall : (k : ℕ) → k < n → height_at U' (U' (spot t) k) ≡ height_at (W t) (get_or ks k 0)
  kid_tall k l =
      let p = r.kid k (omega arith) in
      rw p (cases (ℕ_discrete (get_or ks k 0) 0)
      (λ (z : get_or ks k 0 ≡ 0). rw z (height_zero U' ∙ sym (height_zero (W t))))
      (λ z. height_node U' (get_or ks k 0) z ∙ old (get_or ks k 0) height (kid_live (get_or ks k 0) z (occ_at ks k (omega arith))) (omega arith) ∙ sym (height_node (W t) (get_or ks k 0) z)))

  branch_row : Node n tallest (cap t) U' (spot t)
  unfolding value_for height_for sum_for
  branch_row =
      let o = r.worth in
      let a = r.tall in
      let f = r.held in
      let vs = value_small n tallest m pos t ks e c kid_live in
      record {
        kind = inr (record {
          id = r.self ∙ ap₂ (λ (x : List ℕ) (y : ℕ). branch_id x (spot t) y) (sym (kids_are_lem U' (spot t) ks e r.kid)) (sym (ap generation_of r.self ∙ called.gen));
          children = λ k l d.
              let p = r.kid k (omega arith) in
              let z : get_or ks k 0 ≢ 0 = (λ o. d (p ∙ o)) in
              let b = kid_live (get_or ks k 0) z (occ_at ks k (omega arith)) in
              subst (λ (y : ℕ). Live (cap t) U' y) (sym p) (live_same (cap t) (W t) U' (get_or ks k 0) (old (get_or ks k 0) own b (omega arith)) b);
          some =
              let k = some_kid ks some in
              let l = k.1 in
              (k.0, below k.0 (omega arith) k.2, (λ z. k.2 (sym (r.kid k.0 (omega arith)) ∙ z)));
          beyond = λ k a b. r.kid k b ∙ beyond k a b;
          averaged = o ∙ ap (λ (x : ℕ). x / n) (sym (sum_to_ext_lem n (λ k. value_at U' (U' (spot t) k)) (λ k. value_at (W t) (get_or ks k 0)) kid_value));
          tall = a ∙ ap suc (sym (max_ext n (λ k. height_at U' (U' (spot t) k)) (λ k. height_at (W t) (get_or ks k 0)) kid_tall));
          low = omega arith;
          summed = r.summed ∙ sym (sum_to_ext_lem n (λ k. value_at U' (U' (spot t) k)) (λ k. value_at (W t) (get_or ks k 0)) kid_value);
          hashed = r.hashed ∙ ap kids_hash (sym (kids_are_lem U' (spot t) ks e r.kid));
        });
        small = omega arith;
        few = omega arith;
      }

  branch_grown : Grown n tallest t (branch_anew n t ks h q).after (replicate q (branch_anew n t ks h q).id) 1
  unfolding branch_anew fresh_node
  branch_grown = node_grown id ks v up sm (kids_hash ks) h q e i room called n tallest m c (λ x l a b. lone x l a) held kid_lower branch_row

  pub branch_makes : Makes-one n tallest t ks v h q (branch_anew n t ks h q)
  branch_makes = record { grown = branch_grown; fresh = branch_new n ks e some i room h q }

-- ---- the code's way

module _ {t : Tables} (d : List ℕ) (i : Inv t d) (room : live_in t.arena + 1 < cap t) where
  given_is : given_by more_of t.arena ≡ slot_given t.arena
  unfolding slot_given
  given_is =
      let most = i.sized.most in
      cases (ℕ_discrete t.arena.freed 0)
      (λ z. let b = (fresh_bumps d i room z).1 in let x = more_few t.arena.next (omega arith) in rw (eq-eqb t.arena.freed 0 z) (state_path _ _ _ _ _ _ refl x refl))
      (λ z. rw (ne_eqb t.arena.freed 0 z))

  -- the slot named in the cell `at` stands in the first empty cell from the home of its hash on
  abbrev pub Ends : ℕ → ℕ → Type 0
  Ends k at = set t.find at (spot t % 65536) ≡ named t k (spot t)

  -- so it is where a search ended that met no slot that it looks for
  pub search_ends : (k : ℕ) (same : ℕ → Bool) → ((x : ℕ) → 0 < x → LiveSlot t x → same x ≡ false) → Ends k (probe same t.find (home_in (cap t) k))
  unfolding named insert_at
  search_ends k same none =
      let l = fresh_small d i room in
      let whole : spot t % 65536 ≡ spot t = omega arith in
      ap₂ (λ (x y : ℕ). set t.find x y)
      (probe_as same (λ x. false) t.find (home_in (cap t) k) (λ c a. none (cell t.find c) a ((i.finds.names (cell t.find c) a).0 (c, refl)))) whole

  -- no cell has the number of a slot that is not live
  pub number_ends : (k : ℕ) → Ends k (probe (eqb (spot t)) t.find (home_in (cap t) k))
  number_ends k = search_ends k (eqb (spot t)) (λ x p l. ne_eqb (spot t) x (λ z.
      let dead : W t x own < floor = subst (λ (y : ℕ). W t y own < floor) z (fresh_free d i room).2 in
      let live = l.1 in
      omega arith))

  node_fresh : (id : ℕ) (ks : List ℕ) (v up sm k h q at : ℕ) → Ends k at → fresh_at t id ks v up sm k h q at ≡ fresh_node t id ks v up sm k h q
  unfolding fresh_at fresh_node
  node_fresh id ks v up sm k h q at z = said_path _ _ _ _ _ _ refl refl (tables_path _ _ _ _ _ _ given_is refl z)

  whole : (spot t % 2 ^ 32 ≡ spot t) × (generation_of (W t (spot t) own) ≤ 0x7FFE)
  whole =
      let free = (fresh_free d i room).1 in
      let small = fresh_small d i room in
      let g = i.clean.gens (spot t) free in
      (omega arith, omega arith)

  -- the free slot has no children
  bare_fresh : (x k h q at : ℕ)
      → said 0 (leaf_own t) (tables (given_by more_of t.arena) t.nodes.kids (facts_put t.nodes.facts (spot t) (fresh_facts (leaf_own t) x 0 0 k h q)) (set t.find at (spot t % 65536)))
      ≡ fresh_at t (leaf_own t) empties x 0 0 k h q at
  unfolding fresh_at fresh_facts
  bare_fresh x k h q at =
      let free = fresh_free d i room in
      let c = i.clean.cleared (spot t) free.1 free.2 in
      said_path _ _ _ _ _ _ refl refl (tables_path _ _ _ _ _ _ refl
      (sym (written_kept t.nodes (spot t) empties (leaf_own t) (fresh_rest x 0 0 k h q) empties_length refl
      (λ j l. empties_at j l ∙ sym (c.words j (omega arith) (omega arith) (omega arith))))) refl)

  pub leaf_fresh_lem : (x h q at : ℕ) → Ends (leaf_hash x) at → leaf_fresh t x (leaf_hash x) h q at ≡ leaf_anew t x h q
  unfolding leaf_fresh leaf_anew
  leaf_fresh_lem x h q at z =
      let w = whole in
      let a = w.0 in
      let b = new_leaf_lem (spot t) (generation_of (W t (spot t) own)) w.1 in
      rw (a, b) (bare_fresh x (leaf_hash x) h q at ∙ node_fresh (leaf_own t) empties x 0 0 (leaf_hash x) h q at z)

  pub branch_fresh_lem : (n : ℕ) (ks : List ℕ) (v up sm k h q at : ℕ) → v ≡ value_for n (W t) ks → up ≡ height_for n (W t) ks → sm ≡ sum_for n (W t) ks → k ≡ kids_hash ks → Ends k at
      → branch_fresh t ks v up sm k h q at ≡ branch_anew n t ks h q
  unfolding branch_with branch_anew
  branch_fresh_lem n ks v up sm k h q at ev eu es ek z =
      let w = whole in
      let a = w.0 in
      let b = new_branch_lem ks (spot t) (generation_of (W t (spot t) own)) w.1 in
      rw (a, b)
      (node_fresh (branch_own t ks) ks v up sm k h q at z
      ∙ rw (ev, eu, es, ek))
