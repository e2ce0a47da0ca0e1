-- The list by its places.
use mathlib.Core.Path.{◌≡◌, ◌∙◌, refl, sym, ap}
use mathlib.Core.List.{List, [], ◌∷◌, map, Memᴰ}
use Prim.Native.Nat.{ℕ, zero, suc, ◌+◌, ◌≤◌, ◌<◌}
use native.Mathlib.Omega.{arith}
use lib.ListN.{length, get_or, get_or-map}
use Rattle.basics.specs.Puts.{puts_from}
use Rattle.basics.proofs.Puts.{puts_other, puts_at}
use Rattle.compare_pairs.specs.Differing.{Differs, differs}
use Rattle.compare_pairs.proofs.Exact.{Rising}

abbrev pub none : Differs
none = differs 0 0 0

pub mem_place : {x : Differs} {l : List Differs} → Memᴰ x l → (i : ℕ) × (i < length l) × (get_or l i none ≡ x)
mem_place (Memᴰ.head e) = (0, omega arith, sym e)
mem_place (Memᴰ.tail m) = let (i, h, e) = mem_place m in (suc i, omega arith, e)

pub place_mem : (l : List Differs) (i : ℕ) → i < length l → Memᴰ (get_or l i none) l
place_mem [] i h = absurd (omega arith)
place_mem (e ∷ l) zero h = Memᴰ.head refl
place_mem (e ∷ l) (suc i) h = Memᴰ.tail (place_mem l i (omega arith))

-- ---- rising codes

rising_from : (lo hi : ℕ) (l : List Differs) (j : ℕ) → Rising lo hi l → j < length l → lo ≤ (get_or l j none).code
rising_from lo hi [] j r h = absurd (omega arith)
rising_from lo hi (e ∷ l) zero r h = r.0
rising_from lo hi (e ∷ l) (suc j) r h = omega (arith, r.0, rising_from (suc e.code) hi l j r.1 (omega arith))

pub rising_lt : (lo hi : ℕ) (l : List Differs) (i j : ℕ) → Rising lo hi l → i < j → j < length l → (get_or l i none).code < (get_or l j none).code
rising_lt lo hi [] i j r h k = absurd (omega arith)
rising_lt lo hi (e ∷ l) i zero r h k = absurd (omega arith)
rising_lt lo hi (e ∷ l) zero (suc j) r h k = rising_from (suc e.code) hi l j r.1 (omega arith)
rising_lt lo hi (e ∷ l) (suc i) (suc j) r h k = rising_lt (suc e.code) hi l i j r.1 (omega arith) (omega arith)

-- ---- one part of the list, with the cells at its start

pub map_length : {A : Type 0} (f : Differs → A) (l : List Differs) → length (map f l) ≡ length l
map_length f [] = refl
map_length f (e ∷ l) = ap suc (map_length f l)

module _ (f : Differs → ℕ) (z : f none ≡ 0) (ds : List Differs) (l : List ℕ) (room : length ds ≤ length l) where
  pub written_at : (i : ℕ) → i < length ds → get_or (puts_from l 0 (map f ds)) i 0 ≡ f (get_or ds i none)
  written_at i h =
      let e : i ≡ 0 + i = omega arith in
      ap (λ (k : ℕ). get_or (puts_from l 0 (map f ds)) k 0) e
      ∙ puts_at l 0 (map f ds) i (omega (arith, map_length f ds)) (omega (arith, map_length f ds))
      ∙ ap (λ (k : ℕ). get_or (map f ds) i k) (sym z) ∙ get_or-map f ds i none

pub written_past : (f : Differs → ℕ) (ds : List Differs) (l : List ℕ) (i : ℕ) → length ds ≤ i → get_or (puts_from l 0 (map f ds)) i 0 ≡ get_or l i 0
written_past f ds l i h = puts_other l 0 (map f ds) i (λ j k. omega (arith, map_length f ds))
