-- Calls that release nothing: from well-formed tables they lead to well-formed tables of the same size, in which every node stays as it was.
use mathlib.Core.Path.{◌≡◌, refl, ◌∙◌, subst}
use Prim.Native.Nat.{ℕ, ◌≤◌}
use native.Mathlib.Omega.{arith}
use Rattle.basics.specs.Limits.{deepest, cube_kids, kid_words}
use Rattle.tree.specs.Tree.{Extends}
use Rattle.tree.proofs.Grow.{extends_keeps, extends_trans}
use Rattle.arena.specs.Tables.{Tables, cap, W, WellFormed}
use Rattle.ledger.proofs.Going.{leaf_ends_none, branch_ends_none, hold_ends_none}
use Rattle.calls.specs.Does.{There}
use Rattle.calls.proofs.Once.{grew_extends}
use Rattle.calls.proofs.Roots.{kept_there}
use Rattle.promises.specs.Promises.{Call, leaf, branch, hold, release, voxel, Handed, outcome, NoRelease, Unreleased, none, and}
use Rattle.edit.proofs.Does.{edit_grows}
use Rattle.promises.proofs.Calls.{call_does}

-- the tables stay well formed, of the same size, and every node that was live is live and has the same content
pub record AllKept (t u : Tables) : Type 0 where
  pub well : WellFormed cube_kids deepest u
  pub size : cap u ≡ cap t
  pub grows : Extends cube_kids (cap t) (W t) (W u)

fit : cube_kids ≤ kid_words
fit = omega arith

-- ## One call

-- a call that is no release, accepted or refused, ends no node
call_grows : {t : Tables} → WellFormed cube_kids deepest t → (c : Call) → Handed c → NoRelease c → Extends cube_kids (cap t) (W t) (W (outcome t c).after)
call_grows w (leaf v) h n = grew_extends cube_kids fit (leaf_ends_none fit w v)
call_grows w (branch ks) h n = grew_extends cube_kids fit (branch_ends_none fit w ks h)
call_grows {t} w (hold b) h n = grew_extends cube_kids fit (hold_ends_none t b)
call_grows w (release b) h n = absurd n
call_grows w (voxel b e p v) h n = (edit_grows w b e p v h).1

pub call_keeps_all : {t : Tables} (c : Call) → WellFormed cube_kids deepest t → Handed c → NoRelease c → AllKept t (outcome t c).after
call_keeps_all c w h n = let d = call_does w c h in record { well = d.well; size = d.size; grows = call_grows w c h n }

-- so what was there is there
pub all_there : {t u : Tables} → WellFormed cube_kids deepest t → AllKept t u → {b : ℕ} → There t b → There u b
all_there w g {b} l = kept_there fit w l (record { well = g.well; size = g.size; keeps = extends_keeps g.grows b })

-- ## Any number of calls

all_kept_then : {t u : Tables} (v : Tables) → AllKept t u → AllKept u v → AllKept t v
all_kept_then {u = u} v g h = record {
  well = h.well;
  size = h.size ∙ g.size;
  grows = extends_trans g.grows (subst (λ (k : ℕ). Extends cube_kids k (W u) (W v)) g.size h.grows);
}

pub unreleased_keeps_all : {t u : Tables} → WellFormed cube_kids deepest t → Unreleased t u → AllKept t u
unreleased_keeps_all w none = record { well = w; size = refl; grows = λ a l. record { still = l; kids = λ i k. refl; value = refl; height = refl } }
unreleased_keeps_all {u = u} w (and c h n r) =
    let g = call_keeps_all c w h n in
    all_kept_then u g (unreleased_keeps_all g.well r)
