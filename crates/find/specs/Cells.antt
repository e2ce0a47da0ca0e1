-- The finding table: cells that name slots, 0 for an empty cell. A slot stands at its home or above it. A table's end counts as an empty cell
-- (`cell t p` is 0 there), so nothing wraps around.
use Rattle.std.specs.Prelude.{◌≡◌, ◌⊎◌, ◌↔◌, Bool, true, false, List, ℕ, zero, suc, ◌-◌, ◌≤◌, ◌<◌, eqb, leb, length, get_or, set}
use Rattle.basics.specs.Limits.{kid_words}
use Rattle.basics.specs.Pick.{pick}
use Rattle.ids.specs.Ids.{is_leaf}
use Rattle.nodes.specs.Words.{Words, own, value}
use Rattle.nodes.specs.Tally.{kids_of}
use Rattle.find_hash.specs.Hash.{leaf_hash, kids_hash, home_in}
use Rattle.find.specs.Content.{leaf_is, kids_are}

abbrev pub cell : List ℕ → ℕ → ℕ
cell t p = get_or t p 0

-- ## The search

-- a cell with x ends a probe: it is empty, or names a slot with the content looked for
unfoldable pub stops : (ℕ → Bool) → ℕ → Bool
stops same x = pick (eqb x 0) true (same x)

-- the first cell at or after i that ends the probe. The first number is how many cells are still to be looked at
unfoldable pub probe_n : (ℕ → Bool) → List ℕ → ℕ → ℕ → ℕ
probe_n same t zero i = i
probe_n same t (suc f) i = let on = probe_n same t f (suc i) in pick (stops same (get_or t i 0)) i on

unfoldable pub probe : (ℕ → Bool) → List ℕ → ℕ → ℕ
probe same t i = probe_n same t (length t - i) i

-- the cell where the search for the leaf of value v, or for the branch of the children ks, ends, whose hash is h: the search stops at the first slot whose
-- content is equal
unfoldable pub leaf_cell : List ℕ → ℕ → Words → ℕ → ℕ → ℕ
leaf_cell t cap W h v = probe (leaf_is W h v) t (home_in cap h)

unfoldable pub kids_cell : List ℕ → ℕ → Words → ℕ → List ℕ → ℕ
kids_cell t cap W h ks = probe (kids_are W h ks) t (home_in cap h)

-- a probe from cell i ends at r: the cells passed name slots that are not the same, and r is empty or names one that is. `u p` is what the cell p holds
pub record Ended (same : ℕ → Bool) (u : ℕ → ℕ) (i r : ℕ) : Type 0 where
  pub from : i ≤ r
  pub passed : (q : ℕ) → i ≤ q → q < r → (0 < u q) × (same (u q) ≡ false)
  pub ends : (u r ≡ 0) ⊎ (same (u r) ≡ true)

-- the cell where the search for the content of slot s ends
unfoldable pub seat : List ℕ → ℕ → Words → ℕ → ℕ
seat t cap W s =
    let ks = kids_of kid_words W s in
    pick (is_leaf (W s own)) (leaf_cell t cap W (leaf_hash (W s value)) (W s value)) (kids_cell t cap W (kids_hash ks) ks)

-- ## A slot put in, and taken out

-- the slot s written where the probe from its home h ends
unfoldable pub insert_at : (ℕ → Bool) → List ℕ → ℕ → ℕ → List ℕ
insert_at same t h s = set t (probe same t h) s

-- cell i is a hole, and the cells from j on are still to be looked at: an entry whose home is at or below the hole moves into it
unfoldable pub shift_n : (ℕ → ℕ) → ℕ → List ℕ → ℕ → ℕ → List ℕ
shift_n home zero t i j = set t i 0
shift_n home (suc f) t i j =
    let moved = shift_n home f (set t i (get_or t j 0)) j (suc j) in
    let kept = shift_n home f t i (suc j) in
    let filled = pick (leb (home (get_or t j 0)) i) moved kept in
    pick (eqb (get_or t j 0) 0) (set t i 0) filled

unfoldable pub shift : (ℕ → ℕ) → List ℕ → ℕ → ℕ → List ℕ
shift home t i j = shift_n home (length t - j) t i j

-- cell i taken out
unfoldable pub erase : (ℕ → ℕ) → List ℕ → ℕ → List ℕ
erase home t i = shift home t i (suc i)

-- the cell where the probe for the number s ends
abbrev pub place_of : (ℕ → ℕ) → List ℕ → ℕ → ℕ
place_of home t s = probe (eqb s) t (home s)

-- slot s taken out, from the cell that the probe for its number finds
unfoldable pub remove : (ℕ → ℕ) → List ℕ → ℕ → List ℕ
remove home t s = erase home t (place_of home t s)

-- ## Well formed

-- every named slot stands at its home or above it with no empty cell between, and is named once. `u p` is what the cell p holds
pub record Reach (home : ℕ → ℕ) (u : ℕ → ℕ) : Type 0 where
  pub above : (p : ℕ) → 0 < u p → home (u p) ≤ p
  pub filled : (p q : ℕ) → 0 < u p → home (u p) ≤ q → q ≤ p → 0 < u q
  pub once : (p q : ℕ) → 0 < u p → u p ≡ u q → p ≡ q

-- slot s is named
abbrev pub Named : (ℕ → ℕ) → ℕ → Type 0
Named u s = (p : ℕ) × (u p ≡ s)

-- the table names exactly the live slots, each once and where a probe finds it
pub record Finds (home : ℕ → ℕ) (live : ℕ → Type 0) (t : List ℕ) : Type 0 where
  pub reach : Reach home (cell t)
  pub names : (x : ℕ) → 0 < x → Named (cell t) x ↔ live x

-- The same said of the search: the search for the content of a live slot ends at a cell that names it; the table names live slots only, each once.
-- (Where no two live slots have equal content and each keeps its content's hash, it is `Finds` with the slots' homes, both ways: proofs/Searched.antt)
pub record Searched (cap : ℕ) (W : Words) (live : ℕ → Type 0) (t : List ℕ) : Type 0 where
  pub found : (s : ℕ) → live s → cell t (seat t cap W s) ≡ s
  pub named : (p : ℕ) → 0 < cell t p → live (cell t p)
  pub once : (p q : ℕ) → 0 < cell t p → cell t p ≡ cell t q → p ≡ q
