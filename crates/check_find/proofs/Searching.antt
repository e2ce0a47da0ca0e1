-- The finding table: what the passes over it tell.
use mathlib.Core.Path.{◌≡◌, sym, ap, ◌∙◌}
use mathlib.Core.Bool.{Bool, true, false}
use mathlib.Core.List.{List}
use Prim.Native.Nat.{ℕ, ◌≤◌, ◌<◌}
use native.Mathlib.Decide.{dec_lt}
use native.Mathlib.Omega.{arith}
use lib.ListN.{length, get_or-eq_default}
use Rattle.ids.specs.Ids.{is_leaf}
use Rattle.nodes.specs.Words.{Words, own, value, nodes, kid_of, fact_of, word_of, floor}
use Rattle.nodes.specs.Tally.{kids_of}
use Rattle.nodes.proofs.Access.{word_fact, kids_word}
use Rattle.nodes.proofs.Sums.{cases}
use Rattle.find_hash.specs.Hash.{leaf_hash, kids_hash}
use Rattle.find.specs.Cells.{cell, leaf_cell, kids_cell, seat}
use Rattle.find.proofs.Contents.{leaf_facts}
use Rattle.check_freed.specs.Models.{all_in}
use Rattle.check_freed.proofs.Ladders.{Tells, tells_eq, tells_le, tells_lt, tells_map, tells_and, tells_then, tells_else}
use Rattle.check_freed.proofs.Passes.{tells_all}
use Rattle.check_find.specs.Models.{live_at, named_at, cell_fine, found_at, find_fine}

-- ---- the finding table

module _ (e : List ℕ) (c : ℕ) (W : Words) where
  -- each cell that is not empty names a live slot, and is where the search for it ends
  abbrev pub Seated : Type 0
  Seated = (p : ℕ) → 0 < cell e p → ((cell e p < c) × (floor ≤ W (cell e p) own)) × (seat e c W (cell e p) ≡ p)

module _ (k f e : List ℕ) (c : ℕ) where
  abbrev U : Words
  U = word_of (nodes k f)

  -- as the code has the kind, and the value or the children, of slot s
  pub seat_leaf : (s o v h p : ℕ) (b : Bool) → o ≡ fact_of f s own → b ≡ is_leaf o → b ≡ true → v ≡ fact_of f s value → h ≡ leaf_hash v → p ≡ leaf_cell e c (fact_of f) h v → p ≡ seat e c U s
  unfolding seat word_of
  seat_leaf s o v h p b q d t w g r =
      let l : is_leaf (fact_of f s own) ≡ true = ap is_leaf (sym q) ∙ sym d ∙ t in
      rw l (r ∙ leaf_facts e c k f h v ∙ rw (g, w))

  pub seat_kids : (s o h p : ℕ) (ks : List ℕ) (b : Bool) → o ≡ fact_of f s own → b ≡ is_leaf o → b ≡ false → ks ≡ kids_of 8 (kid_of k) s → h ≡ kids_hash ks → p ≡ kids_cell e c U h ks → p ≡ seat e c U s
  unfolding seat
  seat_kids s o h p ks b q d t w g r =
      let l : is_leaf (U s own) ≡ false = ap is_leaf (word_fact (nodes k f) s own (omega arith) ∙ sym q) ∙ sym d ∙ t in
      let y : ks ≡ kids_of 8 U s = w ∙ kids_word 8 (nodes k f) s (omega arith) in
      rw l (r ∙ rw (g, y))

  live_tells : (s : ℕ) → Tells (live_at f c s) ((s < c) × (floor ≤ U s own))
  unfolding live_at word_of
  live_tells s = tells_and (tells_lt s c) (λ l. tells_le floor (fact_of f s own))

  named_tells : (s p : ℕ) → Tells (named_at k f e c s p) (((s < c) × (floor ≤ U s own)) × (seat e c U s ≡ p))
  unfolding named_at
  named_tells s p = tells_and (live_tells s) (λ l. tells_eq (seat e c U s) p)

  cell_tells : (p : ℕ) → Tells (cell_fine k f e c p) (0 < cell e p → ((cell e p < c) × (floor ≤ U (cell e p) own)) × (seat e c U (cell e p) ≡ p))
  unfolding cell_fine
  cell_tells p = tells_map (λ r a. r (λ z. omega arith)) (λ r n. r (omega arith)) (tells_else (tells_eq (cell e p) 0) (λ n. named_tells (cell e p) p))

  found_tells : (s : ℕ) → s < c → Tells (found_at k f e c s) (floor ≤ U s own → cell e (seat e c U s) ≡ s)
  unfolding found_at
  found_tells s l =
      tells_map (λ r h. r (l, h)) (λ r v. r v.1)
      (tells_then (live_tells s) (λ v. tells_eq (cell e (seat e c U s)) s))

  cells_tell : Tells (all_in 0 (length e) (cell_fine k f e c)) (Seated e c U)
  cells_tell =
      tells_map
      (λ q p h. cases (dec_lt p (length e)) (λ l. q p (omega arith) l h)
      (λ l. absurd (let m : length e ≤ p = omega arith in let w : cell e p ≡ 0 = get_or-eq_default e 0 m in omega arith)))
      (λ q p h l. q p)
      (tells_all (cell_fine k f e c) (λ p. 0 < cell e p → ((cell e p < c) × (floor ≤ U (cell e p) own)) × (seat e c U (cell e p) ≡ p)) 0 (length e) (λ p h l. cell_tells p))

  all_found : Tells (all_in 0 c (found_at k f e c)) ((s : ℕ) → s < c → floor ≤ U s own → cell e (seat e c U s) ≡ s)
  all_found =
      tells_map (λ q s l. q s (omega arith) l) (λ q s h l. q s l)
      (tells_all (found_at k f e c) (λ s. floor ≤ U s own → cell e (seat e c U s) ≡ s) 0 c (λ s h l. found_tells s l))

pub find_tells : (c : ℕ) (k f e : List ℕ) → Tells (find_fine c k f e)
    (Seated e c (word_of (nodes k f)) × ((s : ℕ) → s < c → floor ≤ word_of (nodes k f) s own → cell e (seat e c (word_of (nodes k f)) s) ≡ s))
unfolding find_fine
find_tells c k f e = tells_and (cells_tell k f e c) (λ v. all_found k f e c)
