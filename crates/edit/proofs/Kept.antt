-- What a node keeps of its parts, on well-formed tables, and what becomes of it when one part changes: the hash, the sum of the values, the height.
use mathlib.Core.Path.{◌≡◌, refl, sym, ap, ◌∙◌, subst}
use mathlib.Core.Logic.{◌≢◌, inl, inr}
use mathlib.Core.Bool.{Bool, true, false, not}
use mathlib.Core.List.{List}
use Prim.Native.Nat.{ℕ, ◌+◌, ◌-◌, ◌*◌, ◌%◌, ◌^◌, ◌≤◌, ◌<◌}
use native.Mathlib.Decide.{ℕ_discrete, dec_lt}
use native.Mathlib.Omega.{arith}
use lib.Dec.{eqb}
use lib.ListN.{length, get_or, set, replicate}
use borrow.Author.Tests.{eq-eqb, ne_eqb, lt-ltb, le-ltb}
use Rattle.basics.specs.Limits.{cube_kids, kid_words, largest_value}
use Rattle.basics.specs.Sums.{sum_to}
use Rattle.ids.specs.Ids.{is_leaf, leaf_flag, mask_of}
use Rattle.nodes.specs.Words.{Words, sum, hash, places, mark, slot}
use Rattle.nodes.specs.Tally.{one_if}
use Rattle.nodes.specs.Values.{value_at, height_at, max_to}
use Rattle.nodes.proofs.Counts.{live_nonzero}
use Rattle.nodes.proofs.Sums.{cases, sum_to_ext_lem, tab_from_ext_lem, tab_from_length_lem}
use Rattle.find_hash.specs.Hash.{kids_hash, rekids_hash}
use Rattle.find_hash.proofs.Hashes.{sum_set, rehash_set, even}
use Rattle.tree.specs.Tree.{LiveOr0, Flat, Branch, Kind, empty, leaf, branch, kind, WellMade}
use Rattle.tree.specs.Anew.{part}
use Rattle.tree.proofs.Canon.{live, le_max_to_lem}
use Rattle.tree.proofs.Grow.{extends_keeps, value_later, height_later}
use Rattle.tree.proofs.Making.{part_flat, part_branch}
use Rattle.arena.specs.Calls.{each}
use Rattle.arena.specs.Models.{more_of, bumped, top_for, sum_by}
use Rattle.arena.specs.Node.{BranchNode, bits_of, kid_mask, kid_types, sum_for, height_for}
use Rattle.arena.specs.Tables.{Tables, cap, W, LiveSlot, WellFormed}
use Rattle.arena.proofs.Bits.{mask_kids, types_kids}
use Rattle.arena.proofs.Fresh.{Grown}
use Rattle.arena.proofs.Ids.{node_branch}
use Rattle.arena.proofs.Inv.{sized_within}
use Rattle.arena.proofs.Places.{more_few}
use Rattle.edit_way.specs.Models.{eight_parts, hash_over}
use Rattle.tree.proofs.Ends.{end_flat, end_branch}
use Rattle.edit_way.proofs.Words.{parts_at, parts_flat, parts_branch}
use Rattle.edit_make.specs.Models.{sum_over, height_over, resum, placed_where, other_bits, with_bit, types_over, mask_over, seven_placed, placed_over}
use Rattle.edit.proofs.Growing.{grown_live, grown_extends}
use Rattle.edit.proofs.Placing.{with_bits, where_placed, seven_placed_lem, none_placed}
use Rattle.edit.proofs.Planning.{leaf_flagged}
use Rattle.edit.proofs.Upward.{set_at, set_other, max_under}

-- ---- the eight parts

module _ (U : Words) (a : ℕ) where
  pub parts_length : length (eight_parts U a) ≡ kid_words
  unfolding eight_parts
  parts_length = tab_from_length_lem kid_words 0 (part U a)

flag_low : (x : ℕ) → x < 2 ^ 63 → leaf_flag x ≡ 0
unfolding leaf_flag
flag_low x h = omega arith

low_flag : (x : ℕ) → x < 2 ^ 63 → is_leaf x ≡ false
unfolding is_leaf
low_flag x h = ne_eqb (leaf_flag x) 1 (let e = flag_low x h in omega arith)

eight_times : (v : ℕ) → v ≤ largest_value → 8 * v % 2 ^ 32 ≡ 0 + v + v + v + v + v + v + v + v
eight_times v h = omega arith

-- ---- what is kept

module _ {tallest : ℕ} {t : Tables} (w : WellFormed cube_kids tallest t) where
  pub small_value : (y : ℕ) → LiveOr0 (cap t) (W t) y → value_at (W t) y ≤ largest_value
  unfolding value_at
  small_value y (inl e) = rw (eq-eqb y 0 e) (omega arith)
  small_value y (inr v) = rw (ne_eqb y 0 (live_nonzero v)) (w.nodes (slot y) (v.low, rw v.is v.high)).small

  module _ (a : ℕ) (l : LiveOr0 (cap t) (W t) a) where
    node : Branch a → BranchNode cube_kids tallest (cap t) (W t) (slot a)
    node b =
        let v = live l b.0 in
        let s : LiveSlot t (slot a) = (v.low, rw v.is v.high) in
        node_branch (omega arith) v.low w.sized.most (w.nodes (slot a) s) (ap is_leaf v.is ∙ low_flag a b.1)

    pub hash_over_lem : hash_over (W t) a ≡ kids_hash (eight_parts (W t) a)
    unfolding hash_over
    hash_over_lem = go (kind a)
      where
        flat : Flat a → hash_over (W t) a ≡ kids_hash (eight_parts (W t) a)
        flat f = rw (end_flat a f) (sym (even a) ∙ ap kids_hash (sym (parts_flat (W t) a f)))

        go : Kind a → hash_over (W t) a ≡ kids_hash (eight_parts (W t) a)
        go (empty e) = flat (inl e)
        go (leaf e) = flat (inr e)
        go (branch b) = rw (end_branch a b) ((node b).hashed ∙ ap kids_hash (sym (parts_branch (W t) a b)))

    pub sum_over_lem : sum_over (W t) a ≡ sum_to cube_kids (λ j. value_at (W t) (part (W t) a j))
    unfolding sum_over sum_to
    sum_over_lem = go (kind a)
      where
        flat : Flat a → sum_over (W t) a ≡ sum_to cube_kids (λ j. value_at (W t) (part (W t) a j))
        flat f =
            rw (end_flat a f) (eight_times (value_at (W t) a) (small_value a l)
            ∙ sym (sum_to_ext_lem 8 (λ j. value_at (W t) (part (W t) a j)) (λ j. value_at (W t) a) (λ j h. ap (value_at (W t)) (part_flat (W t) a j f))))

        go : Kind a → sum_over (W t) a ≡ sum_to cube_kids (λ j. value_at (W t) (part (W t) a j))
        go (empty e) = flat (inl e)
        go (leaf e) = flat (inr e)
        go (branch b) =
            rw (end_branch a b) ((node b).summed
            ∙ sym (sum_to_ext_lem 8 (λ j. value_at (W t) (part (W t) a j)) (λ j. value_at (W t) (W t (slot a) j)) (λ j h. ap (value_at (W t)) (part_branch (W t) a j b))))

-- ---- the two bytes of the parts

even_bits : (p : ℕ → Bool) (a : ℕ) → p a ≡ true → bits_of p (replicate 8 a) ≡ 255
unfolding bits_of one_if
even_bits p a e = rw e

none_bits : (p : ℕ → Bool) → p 0 ≡ false → bits_of p (replicate 8 0) ≡ 0
unfolding bits_of one_if
none_bits p e = rw e

module _ {tallest : ℕ} {t : Tables} (w : WellFormed cube_kids tallest t) (a : ℕ) (l : LiveOr0 (cap t) (W t) a) where
  fit : cube_kids ≤ kid_words
  fit = omega arith

  pub mask_over_lem : mask_over a ≡ kid_mask (eight_parts (W t) a)
  unfolding mask_over kid_mask
  mask_over_lem = go (kind a)
    where
      go : Kind a → mask_over a ≡ kid_mask (eight_parts (W t) a)
      go (empty e) = rw (parts_flat (W t) a (inl e), e) (sym (none_bits (λ y. not (eqb y 0)) refl))
      go (leaf e) =
          let d : a ≢ 0 = (λ z. omega arith) in
          rw (parts_flat (W t) a (inr e), ne_eqb a 0 d, end_flat a (inr e)) (sym (even_bits (λ y. not (eqb y 0)) a (rw (ne_eqb a 0 d))))
      go (branch b) = rw (ne_eqb a 0 b.0, end_branch a b, parts_branch (W t) a b) (mask_kids fit w a (live l b.0) (low_flag a b.1))

  pub types_over_lem : types_over a ≡ kid_types (eight_parts (W t) a)
  unfolding types_over kid_types
  types_over_lem = go (kind a)
    where
      go : Kind a → types_over a ≡ kid_types (eight_parts (W t) a)
      go (empty e) = rw (parts_flat (W t) a (inl e), e) (sym (none_bits is_leaf (low_flag 0 (omega arith))))
      go (leaf e) =
          let d : a ≢ 0 = (λ z. omega arith) in
          rw (parts_flat (W t) a (inr e), ne_eqb a 0 d, end_flat a (inr e)) (sym (even_bits is_leaf a (leaf_flagged fit (omega arith) w a l e)))
      go (branch b) = rw (ne_eqb a 0 b.0, end_branch a b, parts_branch (W t) a b) (types_kids fit w a (live l b.0) (low_flag a b.1))

  module _ (c y : ℕ) (h : c < cube_kids) where
    pub mask_set : with_bit (mask_over a) c (not (eqb y 0)) ≡ kid_mask (set (eight_parts (W t) a) c y)
    unfolding kid_mask
    mask_set = with_bits (λ k. not (eqb k 0)) (eight_parts (W t) a) c (mask_over a) mask_over_lem (parts_length (W t) a) h y

    pub types_set : with_bit (types_over a) c (is_leaf y) ≡ kid_types (set (eight_parts (W t) a) c y)
    unfolding kid_types
    types_set = with_bits is_leaf (eight_parts (W t) a) c (types_over a) types_over_lem (parts_length (W t) a) h y

-- ---- one part changed: number c of the parts of a in U is y in V, where the others have the values and heights that they had

round : (s r x y : ℕ) → r + x ≡ s + y → r < 2 ^ 32 → x ≤ largest_value → (s + y + (2 ^ 32 - x)) % 2 ^ 32 ≡ r
round s r x y e l h = omega arith

pub sum_fits : (n : ℕ) (U : Words) (ks : List ℕ) → sum_by n U ks ≡ sum_for n U ks → sum_for n U ks < 2 ^ 32
unfolding sum_by
sum_fits n U ks e = omega arith

module _ (U U' : Words) (a c y : ℕ) (l : c < cube_kids) where
  abbrev ks : List ℕ
  ks = set (eight_parts U a) c y

  pub hash_set : (k : ℕ) → k ≡ kids_hash (eight_parts U a) → rekids_hash k c (part U a c) y ≡ kids_hash ks
  hash_set k e =
      ap (λ (h : ℕ). rekids_hash h c (part U a c) y) e ∙ sym (ap (λ (x : ℕ). rekids_hash (kids_hash (eight_parts U a)) c x y) (parts_at U a c l))
      ∙ rehash_set (eight_parts U a) c y (parts_length U a) l

  pub resum_set : (s : ℕ) → s ≡ sum_to cube_kids (λ j. value_at U (part U a j)) → ((i : ℕ) → i < cube_kids → value_at U' (part U a i) ≡ value_at U (part U a i))
      → sum_for cube_kids U' ks < 2 ^ 32 → value_at U (part U a c) ≤ largest_value → resum s (value_at U (part U a c)) (value_at U' y) ≡ sum_for cube_kids U' ks
  unfolding resum sum_for
  resum_set s e same fits few =
      let q = sum_set 8 (λ j k. value_at U' k) (eight_parts U a) c y (parts_length U a) l in
      let p : sum_to 8 (λ j. value_at U' (get_or (eight_parts U a) j 0)) ≡ s =
      sum_to_ext_lem 8 (λ j. value_at U' (get_or (eight_parts U a) j 0)) (λ j. value_at U (part U a j)) (λ i h. ap (value_at U') (parts_at U a i h) ∙ same i h) ∙ sym e in
      let z : value_at U' (get_or (eight_parts U a) c 0) ≡ value_at U (part U a c) = ap (value_at U') (parts_at U a c l) ∙ same c l in
      round s (sum_to 8 (λ j. value_at U' (get_or ks j 0))) (value_at U (part U a c)) (value_at U' y) (omega arith) fits few

  pub height_set : ((i : ℕ) → i < cube_kids → height_at U' (part U a i) ≤ height_at U a - 1) → height_for cube_kids U' ks ≤ 1000
      → height_over U' ks y (height_at U a) ≡ height_for cube_kids U' ks
  unfolding height_over height_for top_for
  height_set low few = cases (dec_lt (more_of (height_at U' y)) (height_at U a))
      (λ g. rw (lt-ltb (more_of (height_at U' y)) (height_at U a) g) (let m = more_few top (omega arith) in omega arith))
      (λ g. rw (le-ltb (more_of (height_at U' y)) (height_at U a) (omega arith))
      (let m = more_few (height_at U' y) (omega (arith, at_least)) in let u = max_under 8 f (height_at U' y) (λ i h. under (omega arith) i h) in omega (arith, at_least)))
    where
      f : ℕ → ℕ
      f i = height_at U' (get_or ks i 0)

      top : ℕ
      top = max_to 8 f

      at_c : f c ≡ height_at U' y
      at_c = ap (height_at U') (set_at (eight_parts U a) c y (omega (arith, parts_length U a)))

      at_least : height_at U' y ≤ top
      at_least = let h = le_max_to_lem 8 f c l in omega (arith, at_c)

      under : height_at U a ≤ height_at U' y + 1 → (i : ℕ) → i < 8 → f i ≤ height_at U' y
      under g i h = cases (ℕ_discrete i c)
          (λ (e : i ≡ c). let q : f i ≡ f c = ap f e in omega (arith, at_c))
          (λ d. let q : f i ≡ height_at U' (part U a i) = ap (height_at U') (set_other (eight_parts U a) c y i d ∙ parts_at U a i h) in let z = low i h in omega arith)

-- ---- what is kept stays while nodes are made

module _ {n tallest : ℕ} {t u : Tables} {d : List ℕ} {k : ℕ} (m : n ≤ kid_words) (made : WellMade n (cap t) (W t)) (g : Grown n tallest t u d k) (a : ℕ) (l : LiveOr0 (cap t) (W t) a) where
  word_stays : (f : ℕ) → Branch a → f ≤ mark → f ≢ places → W u (slot a) f ≡ W t (slot a) f
  word_stays f b h q = g.old a f (live l b.0) h q

  pub part_stays : (i : ℕ) → i < kid_words → part (W u) a i ≡ part (W t) a i
  part_stays i h = go (kind a)
    where
      flat : Flat a → part (W u) a i ≡ part (W t) a i
      flat f = part_flat (W u) a i f ∙ sym (part_flat (W t) a i f)

      go : Kind a → part (W u) a i ≡ part (W t) a i
      go (empty e) = flat (inl e)
      go (leaf e) = flat (inr e)
      go (branch b) = part_branch (W u) a i b ∙ word_stays i b (omega arith) (omega arith) ∙ sym (part_branch (W t) a i b)

  pub parts_stay : eight_parts (W u) a ≡ eight_parts (W t) a
  unfolding eight_parts
  parts_stay = tab_from_ext_lem kid_words 0 (part (W u) a) (part (W t) a) (λ i p q. part_stays i q)

  pub hash_stays : hash_over (W u) a ≡ hash_over (W t) a
  unfolding hash_over
  hash_stays = go (kind a)
    where
      go : Kind a → hash_over (W u) a ≡ hash_over (W t) a
      go (empty e) = rw (end_flat a (inl e))
      go (leaf e) = rw (end_flat a (inr e))
      go (branch b) = rw (end_branch a b) (word_stays hash b (omega arith) (omega arith))

  pub value_stays : (y : ℕ) → LiveOr0 (cap t) (W t) y → value_at (W u) y ≡ value_at (W t) y
  value_stays y ly = sym (value_later n (cap t) (W t) (W u) made y ly (extends_keeps (grown_extends g m) y))

  pub height_stays : height_at (W u) a ≡ height_at (W t) a
  height_stays = sym (height_later n (cap t) (W t) (W u) made a l (extends_keeps (grown_extends g m) a))

  pub sum_stays : sum_over (W u) a ≡ sum_over (W t) a
  unfolding sum_over
  sum_stays = go (kind a)
    where
      flat : Flat a → sum_over (W u) a ≡ sum_over (W t) a
      flat f = rw (end_flat a f) (ap (λ (x : ℕ). 8 * x % 2 ^ 32) (value_stays a l))

      go : Kind a → sum_over (W u) a ≡ sum_over (W t) a
      go (empty e) = flat (inl e)
      go (leaf e) = flat (inr e)
      go (branch b) = rw (end_branch a b) (word_stays sum b (omega arith) (omega arith))

-- ---- the places of the other parts

module _ {tallest : ℕ} {t u : Tables} {d : List ℕ} {k : ℕ} (w : WellFormed cube_kids tallest t) (g : Grown cube_kids tallest t u d k) (a c : ℕ) (l : LiveOr0 (cap t) (W t) a) (h : c < cube_kids) where
  masked : mask_of a ≡ kid_mask (eight_parts (W t) a)
      → placed_where u.nodes.facts (eight_parts (W t) a) (other_bits (mask_of a) c) ≡ each (bumped places) u.nodes.facts (set (eight_parts (W t) a) c 0)
  unfolding kid_mask
  masked e =
      where_placed u.nodes.facts (eight_parts (W t) a) c (mask_of a) e (parts_length (W t) a) h

  pub others_placed : placed_over u.nodes.facts (eight_parts (W t) a) a c ≡ each (bumped places) u.nodes.facts (set (eight_parts (W t) a) c 0)
  unfolding placed_over
  others_placed = go (kind a)
    where
      eight : Flat a → replicate 8 a ≡ eight_parts (W t) a
      eight f = sym (parts_flat (W t) a f)

      flat : (f : Flat a) → seven_placed u.nodes.facts a ≡ each (bumped places) u.nodes.facts (set (replicate 8 a) c 0)
          → placed_over u.nodes.facts (eight_parts (W t) a) a c ≡ each (bumped places) u.nodes.facts (set (eight_parts (W t) a) c 0)
      flat f e = rw (end_flat a f) (e ∙ ap (λ (ks : List ℕ). each (bumped places) u.nodes.facts (set ks c 0)) (eight f))

      go : Kind a → placed_over u.nodes.facts (eight_parts (W t) a) a c ≡ each (bumped places) u.nodes.facts (set (eight_parts (W t) a) c 0)
      go (empty e) = flat (inl e) (subst (λ (x : ℕ). seven_placed u.nodes.facts x ≡ each (bumped places) u.nodes.facts (set (replicate 8 x) c 0)) (sym e) (none_placed u.nodes.facts c h))
      go (leaf e) =
          let v = live l (λ z. omega arith) in
          let low = (grown_live g a v).low in
          flat (inr e) (seven_placed_lem u.nodes.kids u.nodes.facts a (live_nonzero v) (sized_within (slot a) g.inv.sized low) c h)
      go (branch b) =
          let v = live l b.0 in
          let mask = mask_kids (omega arith) w a v (low_flag a b.1) ∙ ap kid_mask (sym (parts_branch (W t) a b)) in
          rw (end_branch a b) (masked mask)
