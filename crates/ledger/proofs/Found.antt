-- What interning finds: the live node of the content asked for, or that there is none.
use mathlib.Core.Path.{◌≡◌, sym, ap, ◌∙◌}
use mathlib.Core.Logic.{◌≢◌, ⊎_elim}
use mathlib.Core.Bool.{true, false, true≢false}
use mathlib.Core.List.{List}
use Prim.Native.Nat.{ℕ, ◌+◌, ◌/◌, ◌≤◌, ◌<◌}
use native.Mathlib.Omega.{arith}
use lib.Dec.{eqb, leb}
use lib.ListN.{length, get_or}
use borrow.Author.Tests.{eq-eqb, eqb-true, leb-true, le-leb}
use Rattle.ids.specs.Ids.{generation_of, is_leaf}
use Rattle.nodes.specs.Tally.{kids_of}
use Rattle.nodes.specs.Words.{Words, own, value, slot, floor, word_of}
use Rattle.nodes.proofs.Counts.{floor_pos}
use Rattle.nodes.proofs.Sums.{sum_to_ext_lem, tab_from_length_lem}
use Rattle.find.specs.Content.{agree}
use Rattle.find.proofs.Contents.{agree_true, agree_words, kids_are_lem}
use Rattle.find.proofs.Searched.{kids_at}
use Rattle.arena.specs.Calls.{empties, leaf_in, leaf_slot, none_of, branch_in, branch_slot}
use Rattle.arena.specs.Node.{value_for}
use Rattle.nodes.specs.Values.{value_at}
use Rattle.arena.specs.Tables.{Tables, cap, W, LiveSlot, WellFormed}
use Rattle.arena.proofs.Branches.{some_kid}
use Rattle.arena.proofs.Fits.{both}
use Rattle.arena.proofs.Ids.{flag_floor, leaf_flag_lem, node_leaf, node_slot, gen_small}
use Rattle.arena.proofs.Rows.{empties_length, empties_at}
use Rattle.arena.proofs.Scan.{find_hit, find_miss}
use Rattle.ledger.specs.Fates.{Lives, HasContent}

pub kid_word : (U : Words) (s i : ℕ) → i < 8 → U s i ≡ get_or (kids_of 8 U s) i 0
kid_word U s i l = kids_at U s i l

pub kids_length : (U : Words) (s : ℕ) → length (kids_of 8 U s) ≡ 8
unfolding kids_of
kids_length U s = tab_from_length_lem 8 0 (U s)

-- the slot of a live node
pub lives_slot : (t : Tables) (y : ℕ) → Lives t y → LiveSlot t (slot y)
lives_slot t y v = let i = v.is in let h = v.high in (v.low, omega arith)

module _ {n tallest : ℕ} {t : Tables} (m : n ≤ 8) (w : WellFormed n tallest t) where
  pub slot_own : (s : ℕ) → LiveSlot t s → slot (W t s own) ≡ s
  slot_own s l = node_slot m l.0 w.sized.most (w.nodes s l)

  pub slot_lives : (s : ℕ) → LiveSlot t s → Lives t (W t s own)
  slot_lives s l =
      let e = slot_own s l in
      let k = l.0 in
      record { low = omega arith; is = ap (λ (b : ℕ). W t b own) e; high = l.1 }

  pub not_ground : (y : ℕ) → Lives t y → slot y ≢ 0
  not_ground y v q =
      let z : W t (slot y) own ≡ 0 = ap (λ (b : ℕ). W t b own) q ∙ w.stack.ground in
      let i = v.is in
      let h = v.high in
      let p = floor_pos in
      omega arith

  has_slot : (s v : ℕ) (ks : List ℕ) → LiveSlot t s → kids_of 8 (W t) s ≡ ks → W t s value ≡ v → HasContent t (W t s own) ks v
  has_slot s v ks l k x =
      let e = slot_own s l in
      record { live = slot_lives s l; kids = ap (kids_of 8 (W t)) e ∙ k; worth = ap (λ (b : ℕ). W t b value) e ∙ x }

  -- a live node with eight EMPTY children is a leaf
  bare_leaf : (s : ℕ) → LiveSlot t s → ((i : ℕ) → i < 8 → W t s i ≡ 0) → is_leaf (W t s own) ≡ true
  bare_leaf s l bare =
      ⊎_elim
      (λ f. let a = l.0 in let b = w.sized.most in ap is_leaf f.id ∙ leaf_flag_lem s (generation_of (W t s own)) (omega arith) (gen_small (W t s own)))
      (λ b. absurd (let k = b.some in let j = k.1 in k.2 (bare k.0 (omega arith))))
      (w.nodes s l).kind

  pub leaf_found_lem : (v : ℕ) → leaf_slot t v ≢ 0 → LiveSlot t (leaf_slot t v) × HasContent t (W t (leaf_slot t v) own) empties v
  unfolding leaf_slot leaf_in
  leaf_found_lem v d =
      let r = find_hit (leaf_in t v) (cap t) d in
      let b = both (is_leaf (W t (leaf_slot t v) own)) (eqb (W t (leaf_slot t v) value) v) r.0 in
      let l : LiveSlot t (leaf_slot t v) = (r.1, flag_floor (W t (leaf_slot t v) own) b.0) in
      let f = node_leaf m l.0 w.sized.most (w.nodes (leaf_slot t v) l) b.0 in
      (l, has_slot (leaf_slot t v) v empties l (kids_are_lem (W t) (leaf_slot t v) empties empties_length (λ i j. f.bare i j ∙ sym (empties_at i j))) (eqb-true (W t (leaf_slot t v) value) v b.1))

  leaf_in_lem : (v y : ℕ) → HasContent t y empties v → leaf_in t v (slot y) ≡ true
  unfolding leaf_in
  leaf_in_lem v y h =
      rw (bare_leaf (slot y) (lives_slot t y h.live) (λ i j. kid_word (W t) (slot y) i j ∙ ap (λ (l : List ℕ). get_or l i 0) h.kids ∙ empties_at i j))
      (eq-eqb (W t (slot y) value) v h.worth)

  pub leaf_missing : (v : ℕ) → leaf_slot t v ≡ 0 → (y : ℕ) → HasContent t y empties v → ⊥
  unfolding leaf_slot
  leaf_missing v z y h =
      true≢false (sym (leaf_in_lem v y h) ∙ find_miss (leaf_in t v) (cap t) z (slot y) h.live.low (not_ground y h.live))

  -- ---- branches

  -- a live node with these children, not all EMPTY, has the stored value that they give
  pub value_of : (ks : List ℕ) → length ks ≡ 8 → none_of ks ≡ false → (y : ℕ) → Lives t y → kids_of 8 (W t) (slot y) ≡ ks → W t (slot y) value ≡ value_for n (W t) ks
  unfolding value_for
  value_of ks e some y v k =
      let word : (i : ℕ) → i < 8 → W t (slot y) i ≡ get_or ks i 0 = (λ i j. kid_word (W t) (slot y) i j ∙ ap (λ (l : List ℕ). get_or l i 0) k) in
      ⊎_elim
      (λ f. absurd (let q = some_kid ks some in let j = q.1 in q.2 (sym (word q.0 (omega arith)) ∙ f.bare q.0 (omega arith))))
      (λ b. b.averaged ∙ ap (λ (x : ℕ). x / n)
      (sum_to_ext_lem n (λ i. value_at (W t) (W t (slot y) i)) (λ i. value_at (W t) (get_or ks i 0)) (λ i j. ap (value_at (W t)) (word i (omega arith)))))
      (w.nodes (slot y) (lives_slot t y v)).kind

  pub branch_found : (ks : List ℕ) → length ks ≡ 8 → none_of ks ≡ false → branch_slot t ks ≢ 0
      → LiveSlot t (branch_slot t ks) × HasContent t (W t (branch_slot t ks) own) ks (value_for n (W t) ks)
  unfolding branch_slot branch_in
  branch_found ks e some d =
      let r = find_hit (branch_in t ks) (cap t) d in
      let b = both (leb floor (W t (branch_slot t ks) own)) (agree (W t) (branch_slot t ks) 0 ks) r.0 in
      let l : LiveSlot t (branch_slot t ks) = (r.1, leb-true floor (W t (branch_slot t ks) own) b.0) in
      let k : kids_of 8 (W t) (branch_slot t ks) ≡ ks = kids_are_lem (W t) (branch_slot t ks) ks e
      (λ i j. let z : i ≡ 0 + i = omega arith in ap (word_of t.nodes (branch_slot t ks)) z ∙ agree_words (W t) (branch_slot t ks) 0 ks b.1 i (omega arith)) in
      let s = slot_own (branch_slot t ks) l in
      let v : W t (branch_slot t ks) value ≡ value_for n (W t) ks =
      sym (ap (λ (x : ℕ). W t x value) s) ∙ value_of ks e some (W t (branch_slot t ks) own) (slot_lives (branch_slot t ks) l) (ap (kids_of 8 (W t)) s ∙ k) in
      (l, has_slot (branch_slot t ks) (value_for n (W t) ks) ks l k v)

  branch_in_lem : (ks : List ℕ) → length ks ≡ 8 → (y : ℕ) → Lives t y → kids_of 8 (W t) (slot y) ≡ ks → branch_in t ks (slot y) ≡ true
  unfolding branch_in
  branch_in_lem ks e y v k =
      rw (le-leb floor (W t (slot y) own) (lives_slot t y v).1)
      (agree_true (W t) (slot y) 0 ks (λ j l. let z : 0 + j ≡ j = omega arith in rw z (kid_word (W t) (slot y) j (omega arith) ∙ ap (λ (l : List ℕ). get_or l j 0) k)))

  pub branch_missing : (ks : List ℕ) → length ks ≡ 8 → branch_slot t ks ≡ 0 → (y : ℕ) → Lives t y → kids_of 8 (W t) (slot y) ≡ ks → ⊥
  unfolding branch_slot
  branch_missing ks e z y v k =
      true≢false (sym (branch_in_lem ks e y v k) ∙ find_miss (branch_in t ks) (cap t) z (slot y) v.low (not_ground y v))
