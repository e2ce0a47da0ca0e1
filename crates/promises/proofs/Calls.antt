-- What each call does, and what follows for any calls and readings: the ledger, old ids, the roots that are kept.
use mathlib.Core.Path.{◌≡◌, ap, ◌∙◌}
use mathlib.Core.Logic.{◌≢◌, ◌↔◌}
use Prim.Native.Nat.{ℕ, ◌+◌, ◌%◌, ◌≤◌, ◌<◌}
use native.Mathlib.Omega.{arith}
use Rattle.basics.specs.Limits.{deepest, cube_kids, kid_words}
use Rattle.nodes.specs.Tally.{kids_of, occ}
use Rattle.nodes.specs.Words.{slot}
use Rattle.nodes.proofs.Counts.{live_nonzero}
use Rattle.tree.specs.Tree.{LiveOr0, Same}
use Rattle.arena.specs.Calls.{Out, counts_of}
use Rattle.arena.specs.Tables.{Tables, cap, W, WellFormed}
use Rattle.ledger.specs.Ledger.{holds_on}
use Rattle.ledger.specs.Fates.{Lives, ended}
use Rattle.ledger.proofs.Refusals.{leaf_refused, branch_refused, hold_refused, release_refused}
use Rattle.calls.specs.Does.{Does, Since, History, Kept}
use Rattle.calls.proofs.Compose.{since_does}
use Rattle.calls.proofs.Once.{ended_small}
use Rattle.calls.proofs.Arena.{leaf_does, branch_does, hold_does, release_does}
use Rattle.calls.proofs.Again as again
use Rattle.calls.proofs.Follows as follows
use Rattle.calls.proofs.Follows.{there_kept, old_ended}
use Rattle.promises.specs.Promises.{Call, leaf, branch, hold, release, voxel, Handed, outcome, grants, takes_of, Step, call, entry, Refused}
use Rattle.edit.proofs.Edits.{edit_refused, edit_number}
use Rattle.edit.proofs.Does.{edit_does}
use Rattle.readings.proofs.Does.{enter_does}
use Rattle.promises.proofs.Dead.{dead_refused}

fit : cube_kids ≤ kid_words
fit = omega arith

-- ## Each call

module _ {t : Tables} (w : WellFormed cube_kids deepest t) where
  pub call_does : (c : Call) → Handed c
      → Does cube_kids deepest t (outcome t c).after (λ y. grants (outcome t c) c y) (λ y. takes_of (outcome t c) c y) (λ s. ended t (outcome t c).after s)
  call_does (leaf v) h = leaf_does fit w v h
  call_does (branch ks) h = branch_does fit w (omega arith) ks h (λ i p q. absurd (omega arith))
  call_does (hold b) h = hold_does fit w b
  call_does (release b) h = release_does fit w b
  call_does (voxel b e p v) h = edit_does w b e p v h

  -- Any call, accepted or refused, keeps every root that is EMPTY or live before and afterwards: held, or at or below a held one.
  pub call_keeps : (a : ℕ) (c : Call) → Handed c → LiveOr0 (cap t) (W t) a → LiveOr0 (cap (outcome t c).after) (W (outcome t c).after) a
      → Kept cube_kids deepest t (outcome t c).after a
  call_keeps a c h l k = there_kept fit w (call_does c h) a l k (let s = ended_small t (outcome t c).after (slot a) in omega arith)

  -- A node goes in a call exactly if nobody holds it afterwards, that is, all holds that it had or was granted are taken, and no node that is there
  -- afterwards has it as a child.
  pub gone_exactly : (c : Call) → Handed c → (y : ℕ) → Lives t y
      → (Lives (outcome t c).after y → ⊥)
      ↔ ((holds_on t y + grants (outcome t c) c y ≡ takes_of (outcome t c) c y)
      × ((b : ℕ) → Lives (outcome t c).after b → occ y (kids_of kid_words (W (outcome t c).after) (slot b)) ≡ 0))
  gone_exactly c h = follows.gone_exactly fit w (call_does c h)

  -- A node that is there before and afterwards keeps its id, its children, its stored value and its height.
  pub stays : (c : Call) → Handed c → (y : ℕ) → Lives t y → Lives (outcome t c).after y → Same cube_kids (cap t) (W t) (W (outcome t c).after) y
  stays c h y l k = follows.stays fit w (call_does c h) y l k (let s = ended_small t (outcome t c).after (slot y) in omega arith)

pub step_does : (t u : Tables) (g k j : ℕ → ℕ) → WellFormed cube_kids deepest t → Step t u g k j → Does cube_kids deepest t u g k j
step_does t u g k j w (call c h) = call_does w c h
step_does t u g k j w (entry b e i l h) = enter_does b e i l h w

-- ## Any calls since the fresh arena

-- They reach well-formed tables.
pub reached_well : {t : Tables} {granted taken : ℕ → ℕ} → History Step t granted taken → WellFormed cube_kids deepest t
reached_well h = follows.reached_well cube_kids deepest fit Step step_does h

-- Holds equal those granted less those returned or used, counted over the calls since the fresh arena.
pub holds_ledger : {t : Tables} {granted taken : ℕ → ℕ} → History Step t granted taken → (y : ℕ) → granted y ≡ taken y + holds_on t y
holds_ledger h = follows.holds_ledger cube_kids deepest fit Step step_does h

-- So it is what counts answers.
pub ledger_counts : {t : Tables} {granted taken : ℕ → ℕ} → History Step t granted taken → (y : ℕ) → granted y ≡ taken y + (counts_of t y).holds
ledger_counts h = follows.ledger_counts cube_kids deepest fit Step step_does h

-- ## Any calls from t on

pub calls_do : {t u : Tables} {granted taken times : ℕ → ℕ} → WellFormed cube_kids deepest t → Since Step t u granted taken times → Does cube_kids deepest t u granted taken times
calls_do = since_does cube_kids deepest fit Step step_does

-- An old id is refused after 1 to 32,765 recyclings of its slot, by every call that is handed it.
pub old_refused : {t u : Tables} {granted taken times : ℕ → ℕ} → WellFormed cube_kids deepest t → Since Step t u granted taken times → (y : ℕ) → Lives t y
    → 1 ≤ times (slot y) → times (slot y) ≤ 32765 → Refused u y
old_refused {u = u} w k y v a b = let d = calls_do w k in dead_refused u y (live_nonzero v) (old_ended fit w d y v a b) d.well.sized

-- After 32,766 it can match again: if a node with the same children is in the slot then, its id is the same number. (So is a leaf's of another value: the id
-- does not hold the value.)
pub matches_again : {t u : Tables} {granted taken times : ℕ → ℕ} → WellFormed cube_kids deepest t → Since Step t u granted taken times → (y : ℕ) → Lives t y
    → times (slot y) % 32766 ≡ 0 → (z : ℕ) → Lives u z → slot z ≡ slot y → ((i : ℕ) → i < kid_words → W u (slot y) i ≡ W t (slot y) i) → z ≡ y
matches_again w k = follows.matches_again fit w (calls_do w k)

-- And there are well-formed tables with a live id y, and calls after which the slot of y was recycled 32,766 times and y is live.
pub can_match_again : (t : Tables) × (u : Tables) × (granted : ℕ → ℕ) × (taken : ℕ → ℕ) × (times : ℕ → ℕ) × (y : ℕ)
    × WellFormed cube_kids deepest t × Since Step t u granted taken times × Lives t y × (times (slot y) ≡ 32766) × Lives u y
can_match_again = again.can_match_again cube_kids deepest fit Step step_does (λ t. call (leaf 1) (omega arith)) (λ t id. call (release id) tt)

-- ## A refusal

-- A refusal changes nothing lent, and the arena's state stays. On any tables.
pub refused_changes_nothing : (t : Tables) (c : Call) → (outcome t c).no ≢ 0 → (outcome t c).after ≡ t
refused_changes_nothing t (leaf v) = leaf_refused t v
refused_changes_nothing t (branch ks) = branch_refused cube_kids deepest t ks
refused_changes_nothing t (hold b) = hold_refused t b
refused_changes_nothing t (release b) = release_refused deepest t b
refused_changes_nothing t (voxel b e p v) = λ d. ap (λ (o : Out). o.after) (edit_refused t b e p v (λ z. d (edit_number t b e p v ∙ z)))
