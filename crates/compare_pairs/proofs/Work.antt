-- The work is bounded by the change: between tidy roots every opened pair holds a differing cell.
use mathlib.Core.Path.{◌≡◌, ◌∙◌, sym, ap}
use mathlib.Core.Logic.{◌≢◌}
use mathlib.Core.Bool.{Bool, true, false}
use mathlib.Core.List.{List, Memᴰ}
use Prim.Native.Nat.{ℕ, zero, suc, ◌+◌, ◌*◌, ◌^◌, ◌≤◌, ◌<◌}
use native.Mathlib.Nat.{mod-eq_of_lt}
use native.Mathlib.Decide.{ℕ_discrete, dec_le}
use native.Mathlib.Omega.{arith}
use borrow.Author.Tests.{eq-eqb, ne_eqb}
use lib.ListN.{length}
use Rattle.basics.specs.Pick.{pick}
use Rattle.basics.specs.Sums.{sum_to}
use Rattle.nodes.specs.Words.{Words, value, slot}
use Rattle.nodes.specs.Values.{value_at, height_at}
use Rattle.nodes.proofs.Sums.{cases, sum_to_ext_lem}
use Rattle.tree.specs.Tree.{LiveOr0, WellMade, Root, look}
use Rattle.tree.specs.Anew.{part}
use Rattle.tree.proofs.Canon.{canon, low_flat}
use Rattle.tree.proofs.Making.{part_there, part_low, part_tidy}
use Rattle.read_cell.specs.Reading.{descent}
use Rattle.read_cell.proofs.Ends.{look_descent}
use Rattle.compare_pairs.specs.Differing.{Differs, cell_of, reads, differing, opens, opened}
use Rattle.compare_pairs.proofs.Joined.{sum_times}
use Rattle.compare_pairs.proofs.Codes.{Coded, coded}
use Rattle.compare_pairs.proofs.Exact.{exact}
use Rattle.compare_pairs.proofs.Ids.{ends_shut}
use Rattle.compare_pairs.proofs.Pairs.{count_places, equal_unopened}

-- ---- the number of opened pairs is of the two trees: no depth that both roots fit in changes it

module _ (n cap : ℕ) (W : Words) (w : WellMade n cap W) where
  deeper_step : (k a b : ℕ) → LiveOr0 cap W a → LiveOr0 cap W b → height_at W a ≤ suc k → height_at W b ≤ suc k
      → ((i j : ℕ) → LiveOr0 cap W i → LiveOr0 cap W j → height_at W i ≤ k → height_at W j ≤ k → opened n W (suc k) i j ≡ opened n W k i j)
      → opened n W (suc (suc k)) a b ≡ opened n W (suc k) a b
  unfolding opened
  deeper_step k a b la lb ha hb ih =
      ap (λ (s : ℕ). pick (opens a b) (1 + s) 0)
      (sum_to_ext_lem n (λ i. opened n W (suc k) (part W a i) (part W b i)) (λ i. opened n W k (part W a i) (part W b i))
      (λ i h.
      ih (part W a i) (part W b i) (part_there n cap W w a i la h) (part_there n cap W w b i lb h) (part_low n cap W w a i la h k ha)
      (part_low n cap W w b i lb h k hb)))

  one_deeper : (k a b : ℕ) → LiveOr0 cap W a → LiveOr0 cap W b → height_at W a ≤ k → height_at W b ≤ k → opened n W (suc k) a b ≡ opened n W k a b
  unfolding opened
  one_deeper zero a b la lb ha hb =
      rw (ends_shut a b (low_flat n cap W w a la (omega arith)) (low_flat n cap W w b lb (omega arith)))
  one_deeper (suc k) a b la lb ha hb = deeper_step k a b la lb ha hb (one_deeper k)

  pub opened_deeper : (e d a b : ℕ) → LiveOr0 cap W a → LiveOr0 cap W b → height_at W a ≤ d → height_at W b ≤ d → opened n W (e + d) a b ≡ opened n W d a b
  opened_deeper zero d a b la lb ha hb = let q : 0 + d ≡ d = omega arith in ap (λ (i : ℕ). opened n W i a b) q
  opened_deeper (suc e) d a b la lb ha hb =
      let q : suc e + d ≡ suc (e + d) = omega arith in
      ap (λ (i : ℕ). opened n W i a b) q ∙ one_deeper (e + d) a b la lb (omega arith) (omega arith) ∙ opened_deeper e d a b la lb ha hb

-- ---- different tidy roots differ in a cell

-- 16 bits are enough where every stored value has no more
module _ (W : Words) (small : (s : ℕ) → W s value < 2 ^ 16) where
  value_small : (a : ℕ) → value_at W a < 2 ^ 16
  unfolding value_at
  value_small a = cases (ℕ_discrete a 0) (λ e. rw (eq-eqb a 0 e) (omega arith)) (λ e. rw (ne_eqb a 0 e) (small (slot a)))

  pub reads_whole : (p : List ℕ) (a : ℕ) → reads W p a ≡ look W p a
  reads_whole p a = mod-eq_of_lt (rw (look_descent W 0 p a) (value_small (descent W 0 p a).id.0))

in_length : {A : Type 0} {x : A} {l : List A} → Memᴰ x l → 1 ≤ length l
in_length (Memᴰ.head e) = omega arith
in_length (Memᴰ.tail m) = omega (arith, in_length m)

module _ (n cap : ℕ) (W : Words) (w : WellMade n cap W) (n≥1 : 0 < n) (small : (s : ℕ) → W s value < 2 ^ 16) where
  pub some_cell_differs : (d a b : ℕ) → Root n cap d W a → Root n cap d W b → a ≢ b → 1 ≤ length (differing n W d a b)
  some_cell_differs d a b ra rb h =
      cases (dec_le 1 (length ds)) (λ k. k) (λ k. absurd (h (canon n cap W w n≥1 d a b ra rb (λ p c. same k p (coded c)))))
    where
      ds : List Differs
      ds = differing n W d a b

      at : (1 ≤ length ds → ⊥) → (c : ℕ) → c < n ^ d → reads W (cell_of n d c) a ≡ reads W (cell_of n d c) b
      at k c l =
          cases (ℕ_discrete (reads W (cell_of n d c) a) (reads W (cell_of n d c) b)) (λ e. e) (λ e. absurd (k (in_length ((exact n W d a b).all c l e))))

      same : (1 ≤ length ds → ⊥) → (p : List ℕ) → Coded n d p → look W p a ≡ look W p b
      same k p t =
          let e : reads W p a ≡ reads W p b = rw t.cell at (at k t.code t.small) in
          sym (reads_whole W small p a) ∙ e ∙ reads_whole W small p b

  -- ---- the bound

  part_root : (d a i : ℕ) → Root n cap (suc d) W a → i < n → Root n cap d W (part W a i)
  part_root d a i r h =
      record {
        there = part_there n cap W w a i r.there h;
        tidy = part_tidy n cap W w a i r.there h r.tidy;
        low = part_low n cap W w a i r.there h d r.low;
      }

  work_step : (k a b : ℕ) → ((i j : ℕ) → Root n cap k W i → Root n cap k W j → opened n W k i j ≤ k * length (differing n W k i j))
      → Root n cap (suc k) W a → Root n cap (suc k) W b → opened n W (suc k) a b ≤ suc k * length (differing n W (suc k) a b)
  unfolding opened
  work_step k a b ih ra rb = cases (ℕ_discrete a b) (λ e. rw e (omega (arith, equal_unopened n W (suc k) b))) (λ e. go (opens a b) e)
    where
      below : ℕ → ℕ
      below i = opened n W k (part W a i) (part W b i)

      cells : ℕ → ℕ
      cells i = length (differing n W k (part W a i) (part W b i))

      go : (t : Bool) → a ≢ b → pick t (1 + sum_to n (λ i. opened n W k (part W a i) (part W b i))) 0 ≤ suc k * length (differing n W (suc k) a b)
      go false e = omega arith
      go true e =
          let one : 1 ≤ length (differing n W (suc k) a b) = some_cell_differs (suc k) a b ra rb e in
          let rest : sum_to n below ≤ k * sum_to n cells =
          sum_times n k below cells (λ i h. ih (part W a i) (part W b i) (part_root k a i ra h) (part_root k b i rb h)) in
          let more : k * length (differing n W (suc k) a b) ≡ k * sum_to n cells = ap (λ (i : ℕ). k * i) (count_places n W k a b) in
          omega arith

  -- Between tidy roots no taller than d at most d pairs are opened for each differing cell.
  pub work : (d a b : ℕ) → Root n cap d W a → Root n cap d W b → opened n W d a b ≤ d * length (differing n W d a b)
  unfolding opened
  work zero a b ra rb = omega arith
  work (suc d) a b ra rb = work_step d a b (work d) ra rb
