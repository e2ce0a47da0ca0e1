-- What becomes of a node in a call, what a content is, and how often a slot was recycled.
use Rattle.std.specs.Prelude.{◌≡◌, List, ℕ, zero, suc, ◌<◌, leb, ltb}
use Rattle.basics.specs.Limits.{kid_words}
use Rattle.basics.specs.Pick.{pick}
use Rattle.nodes.specs.Tally.{Live, kids_of}
use Rattle.nodes.specs.Words.{own, value, holds, slot, floor}
use Rattle.arena.specs.Calls.{Out}
use Rattle.arena.specs.Node.{next_generation}
use Rattle.arena.specs.Tables.{Tables, cap, W}

-- y is the id of a node now in the arena
abbrev pub Lives : Tables → ℕ → Type 0
Lives t y = Live (cap t) (W t) y

-- y has the same id, eight children, stored value, height, sum and hash in u as in t: all its words but the two counts (and the mark)
abbrev pub SameNode : Tables → Tables → ℕ → Type 0
SameNode t u y = (f : ℕ) → f < holds → W u (slot y) f ≡ W t (slot y) f

-- from t to u no node ends: each that is live in t is live in u, and has there all that it had but its counts
pub record Grew (t u : Tables) : Type 0 where
  pub size : cap u ≡ cap t
  pub stays : (y : ℕ) → Lives t y → Lives u y × SameNode t u y

-- ## Contents

-- y is a live node with the eight children ks and the stored value v
pub record HasContent (t : Tables) (y : ℕ) (ks : List ℕ) (v : ℕ) : Type 0 where
  pub live : Lives t y
  pub kids : kids_of kid_words (W t) (slot y) ≡ ks
  pub worth : W t (slot y) value ≡ v

-- interning the content ks, v answered o: the id of a live node of exactly that content; the one that was there if there was one, and then no
-- slot was given out; else an id that was not live before
pub record Interned (t : Tables) (ks : List ℕ) (v : ℕ) (o : Out) : Type 0 where
  pub has : HasContent o.after o.id ks v
  pub again : (y : ℕ) → HasContent t y ks v → (o.id ≡ y) × (o.after.arena ≡ t.arena)
  pub fresh : ((y : ℕ) → HasContent t y ks v → ⊥) → Lives t o.id → ⊥

-- ## Generations

-- the generation of a slot after k recyclings
unfoldable pub turned : ℕ → ℕ → ℕ
turned zero g = g
turned (suc k) g = next_generation (turned k g)

-- 1 if the node in slot s ended between t and u: it was live and the slot is not; else 0
unfoldable pub ended : Tables → Tables → ℕ → ℕ
ended t u s = pick (leb floor (W t s own)) (pick (ltb (W u s own) floor) 1 0) 0
