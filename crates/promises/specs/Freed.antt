-- The freed slots over any calls since a fresh arena: which they are, the last one freed first, and which slots were ever used.
use Rattle.std.specs.Prelude.{◌⊎◌, List, [], ℕ}
use Rattle.basics.specs.Limits.{deepest}
use Rattle.arena.specs.Tables.{Tables, LiveSlot}
use Rattle.ledger.specs.Stack.{pushed, left_of, recycled_by}
use Rattle.calls.specs.Does.{Fresh}
use Rattle.promises.specs.Promises.{Call, leaf, branch, hold, release, voxel, Handed, outcome}

-- The slots freed and not given out again, the last one freed first, after a call; before it they were fs. A release puts the slots that it recycles on
-- top, in its order; any other call takes off the top one for each node that it makes.
abbrev pub freed_after : Tables → List ℕ → Call → List ℕ
freed_after t fs (leaf v) = left_of t (outcome t (leaf v)).after fs
freed_after t fs (branch ks) = left_of t (outcome t (branch ks)).after fs
freed_after t fs (hold b) = left_of t (outcome t (hold b)).after fs
freed_after t fs (release b) = pushed (recycled_by deepest t b) fs
freed_after t fs (voxel b e p v) = left_of t (outcome t (voxel b e p v)).after fs

-- Tables that calls since a fresh arena have reached, accepted or refused, and the slots freed on the way and not given out again. A fresh arena has none.
pub data Freeing : Tables → List ℕ → Type 0 where
  bare : {t : Tables} → Fresh t → Freeing t []
  then : {t : Tables} {fs : List ℕ} → Freeing t fs → (c : Call) → Handed c → Freeing (outcome t c).after (freed_after t fs c)

-- the slot s was used: after one of the calls it had a live node
unfoldable pub Used : {t : Tables} {fs : List ℕ} → Freeing t fs → ℕ → Type 0
Used (bare f) s = ⊥
Used (then {t = t} {fs = fs} h c k) s = LiveSlot (outcome t c).after s ⊎ Used h s
