-- The search on well-formed tables: a live slot keeps its content's hash, no two live slots have one content, and so the search finds each.
use mathlib.Core.Path.{◌≡◌, sym, ap, ◌∙◌, subst}
use mathlib.Core.Logic.{⊎_elim}
use mathlib.Core.Bool.{Bool, true, false}
use Prim.Native.Nat.{ℕ, ◌/◌, ◌≤◌, ◌<◌}
use native.Mathlib.Decide.{ℕ_discrete}
use native.Mathlib.Omega.{arith}
use lib.ListN.{get_or}
use Rattle.ids.specs.Ids.{is_leaf}
use Rattle.nodes.specs.Tally.{kids_of}
use Rattle.nodes.specs.Values.{value_at}
use Rattle.nodes.specs.Words.{own, value, hash}
use Rattle.nodes.proofs.Counts.{floor_pos}
use Rattle.nodes.proofs.Sums.{cases, split, sum_to_ext_lem}
use Rattle.find_hash.specs.Hash.{leaf_hash, kids_hash, home_in}
use Rattle.find.specs.Cells.{probe, Searched}
use Rattle.find.specs.Content.{hash_for, home_at}
use Rattle.find.proofs.Contents.{leaf_words, kids_words}
use Rattle.find.proofs.Finding.{finds_hit, finds_miss}
use Rattle.find.proofs.Searched.{kids_length, kids_at, alike, alike_leaf, alike_kids, finds_searched}
use Rattle.arena.specs.Tables.{Tables, cap, W, LiveSlot, WellFormed}
use Rattle.arena.proofs.Ids.{node_leaf, node_branch}

pub not_ground : {n tallest : ℕ} {t : Tables} → WellFormed n tallest t → (s : ℕ) → LiveSlot t s → 0 < s
not_ground {t = t} w s l = cases (ℕ_discrete s 0)
    (λ (q : s ≡ 0). absurd (let z : W t s own ≡ 0 = rw q w.stack.ground in let f = floor_pos in let h = l.1 in omega arith)) (λ q. omega arith)

module _ {n tallest : ℕ} {t : Tables} (m : n ≤ 8) (w : WellFormed n tallest t) where
  -- ---- the hash that is kept

  pub leaf_hash_lem : (s : ℕ) → LiveSlot t s → is_leaf (W t s own) ≡ true → W t s hash ≡ leaf_hash (W t s value)
  leaf_hash_lem s l f = (node_leaf m l.0 w.sized.most (w.nodes s l) f).hashed

  pub kids_hash_lem : (s : ℕ) → LiveSlot t s → is_leaf (W t s own) ≡ false → W t s hash ≡ kids_hash (kids_of 8 (W t) s)
  kids_hash_lem s l f = (node_branch m l.0 w.sized.most (w.nodes s l) f).hashed

  pub hash_kept : (s : ℕ) → LiveSlot t s → W t s hash ≡ hash_for (W t) s
  unfolding hash_for
  hash_kept s l = split (is_leaf (W t s own)) (λ f. rw f (leaf_hash_lem s l f)) (λ f. rw f (kids_hash_lem s l f))

  -- ---- one content, one slot

  pub leaf_one : (x s : ℕ) → LiveSlot t x → LiveSlot t s → is_leaf (W t x own) ≡ true → is_leaf (W t s own) ≡ true → W t x value ≡ W t s value → x ≡ s
  leaf_one x s lx ls fx fs e =
      let a = node_leaf m lx.0 w.sized.most (w.nodes x lx) fx in
      let b = node_leaf m ls.0 w.sized.most (w.nodes s ls) fs in
      w.distinct x s lx ls (λ i k. a.bare i k ∙ sym (b.bare i k)) e

  -- a slot with the children of a branch has a branch, and so the same value
  pub kids_one : (x s : ℕ) → LiveSlot t x → LiveSlot t s → is_leaf (W t s own) ≡ false → ((i : ℕ) → i < 8 → W t x i ≡ W t s i) → x ≡ s
  kids_one x s lx ls f e =
      let b = node_branch m ls.0 w.sized.most (w.nodes s ls) f in
      ⊎_elim
      (λ a. absurd (let k = b.some in let j = k.1 in k.2 (sym (e k.0 (omega arith)) ∙ a.bare k.0 (omega arith))))
      (λ a. w.distinct x s lx ls e
      (a.averaged ∙ ap (λ (z : ℕ). z / n) (sum_to_ext_lem n (λ i. value_at (W t) (W t x i)) (λ i. value_at (W t) (W t s i)) (λ i j. ap (value_at (W t)) (e i (omega arith)))) ∙ sym b.averaged))
      (w.nodes x lx).kind

  -- ---- the search

  pub search_hit : (same : ℕ → Bool) (h s : ℕ) → LiveSlot t s → W t s hash ≡ h → same s ≡ true → ((x : ℕ) → LiveSlot t x → same x ≡ true → x ≡ s)
      → get_or t.find (probe same t.find (home_in (cap t) h)) 0 ≡ s
  unfolding home_at
  search_hit same h s l e is only =
      subst (λ (z : ℕ). get_or t.find (probe same t.find (home_in (cap t) z)) 0 ≡ s) e
      (finds_hit (home_at (cap t) (W t)) (LiveSlot t) t.find w.finds same s (not_ground w s l) l is (λ x p lx hx. only x lx hx))

  pub search_miss : (same : ℕ → Bool) (h : ℕ) → ((x : ℕ) → 0 < x → LiveSlot t x → same x ≡ false) → get_or t.find (probe same t.find (home_in (cap t) h)) 0 ≡ 0
  search_miss same h none = finds_miss (home_at (cap t) (W t)) (LiveSlot t) t.find w.finds same (home_in (cap t) h) none

  -- the search for the content of a live slot ends at a cell that names it, and the table names live slots only, each once
  pub well_searched : Searched (cap t) (W t) (LiveSlot t) t.find
  well_searched =
      finds_searched t.find (cap t) (W t) (LiveSlot t) hash_kept (λ v. let g = w.stack.ground in let h = v.1 in omega (arith, floor_pos)) one w.finds
    where
      one : (s x : ℕ) → LiveSlot t s → LiveSlot t x → alike (W t) s x ≡ true → x ≡ s
      one s x ls lx e = split (is_leaf (W t s own))
          (λ f. let r = leaf_words (W t) (leaf_hash (W t s value)) (W t s value) x (sym (alike_leaf (W t) s f x) ∙ e) in leaf_one x s lx ls r.1 f r.2)
          (λ f.
          let r = kids_words (W t) (kids_hash (kids_of 8 (W t) s)) (kids_of 8 (W t) s) x (kids_length (W t) s) (sym (alike_kids (W t) s f x) ∙ e) in
          kids_one x s lx ls f (λ i k. r.1 i k ∙ sym (kids_at (W t) s i k)))
