-- What lives, who names whom, and the freed slots.
use Rattle.std.specs.Prelude.{◌≡◌, ◌≢◌, Bool, true, false, List, [], ◌∷◌, ℕ, zero, suc, ◌+◌, ◌≤◌, ◌<◌, eqb, leb}
use Rattle.basics.specs.Limits.{kid_words}
use Rattle.basics.specs.Pick.{pick}
use Rattle.basics.specs.Sums.{sum_to}
use Rattle.ids.specs.Ids.{is_leaf}
use Rattle.nodes.specs.Words.{Words, own, mark, entry, slot, floor}

-- 1 for true, 0 for false
unfoldable pub one_if : Bool → ℕ
one_if true = 1
one_if false = 0

-- 1 if the two are equal, else 0
unfoldable pub same : ℕ → ℕ → ℕ
same x y = one_if (eqb x y)

-- how often y stands in a list
unfoldable pub occ : ℕ → List ℕ → ℕ
occ y [] = 0
occ y (a ∷ l) = same y a + occ y l

-- f i, f (i+1), .., k of them
unfoldable pub tab_from : ℕ → ℕ → (ℕ → ℕ) → List ℕ
tab_from zero i f = []
tab_from (suc k) i f = f i ∷ tab_from k (suc i) f

-- the first n children of slot s
unfoldable pub kids_of : ℕ → Words → ℕ → List ℕ
kids_of n W s = tab_from n 0 (W s)

-- the true tally: how many child places name the id y
unfoldable pub tally : ℕ → ℕ → Words → ℕ → ℕ
tally n cap W y = sum_to cap (λ b. occ y (kids_of n W b))

-- the child places that name y, of live branches alone: of slots whose own word is the id of a live node, and no leaf's. (On well-formed tables it is
-- the true tally: crates/ledger/proofs/Places.antt)
unfoldable pub tally_live : ℕ → ℕ → Words → ℕ → ℕ
tally_live n cap W y = sum_to cap (λ b. pick (leb floor (W b own)) (pick (is_leaf (W b own)) 0 (occ y (kids_of n W b))) 0)

-- the id y is live: in all its bits it is the id of the node in its slot
pub record Live (cap : ℕ) (W : Words) (y : ℕ) : Type 0 where
  pub low : slot y < cap
  pub is : W (slot y) own ≡ y
  pub high : floor ≤ y

-- y is a, or stands below it
pub data Under (W : Words) (a : ℕ) : ℕ → Type 0 where
  here : Under W a a
  down : {b y : ℕ} → Under W a b → y ≢ 0 → 1 ≤ occ y (kids_of kid_words W (slot b)) → Under W a y

-- 1 if the own word x is that of a live node
unfoldable pub live_bit : ℕ → ℕ
live_bit x = one_if (leb floor x)

-- how many slots live
unfoldable pub live_count : ℕ → Words → ℕ
live_count cap W = sum_to cap (λ s. live_bit (W s own))

-- slot s was given out and is not live
pub record Free (W : Words) (next s : ℕ) : Type 0 where
  pub given : 1 ≤ s
  pub below : s < next
  pub dead : W s own < floor

-- the freed slots, the last one freed in front: entries freed-1, .., 0 of their stack
unfoldable pub freed_list : Words → ℕ → List ℕ
freed_list W zero = []
freed_list W (suc k) = W k entry ∷ freed_list W k

-- each entry of the stack is a slot of 1 .. next-1 that is not live, and knows its number there, so that no two entries are one slot; with the live they
-- make up 1 .. next-1. (So each slot of 1 .. next-1 that is not live stands on the stack once: proofs/Freeing.antt.) Slot 0 and the slots from next on,
-- never given out, are dead with generation 0
pub record Freed (cap : ℕ) (W : Words) (next freed : ℕ) : Type 0 where
  pub some : 1 ≤ next
  pub fits : next ≤ cap
  pub only : (i : ℕ) → i < freed → Free W next (W i entry)
  pub knows : (i : ℕ) → i < freed → W (W i entry) mark ≡ i
  pub count : freed + live_count cap W + 1 ≡ next
  pub unused : (s : ℕ) → next ≤ s → s < cap → W s own ≡ 0
  pub ground : W 0 own ≡ 0
