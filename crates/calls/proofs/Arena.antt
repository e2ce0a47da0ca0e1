-- What interning a leaf, interning a branch, hold and release do.
use mathlib.Core.Path.{◌≡◌, ap, ◌∙◌}
use mathlib.Core.Logic.{inl, inr}
use mathlib.Core.Bool.{false}
use mathlib.Core.List.{List}
use Prim.Native.Nat.{ℕ, ◌≤◌, ◌<◌}
use lib.Dec.{eqb}
use lib.ListN.{length, get_or}
use Rattle.basics.specs.Limits.{kid_words, largest_value}
use Rattle.basics.specs.Pick.{pick}
use Rattle.ids.specs.Ids.{generation_of}
use Rattle.nodes.specs.Tally.{occ}
use Rattle.nodes.specs.Words.{own}
use Rattle.arena.specs.Calls.{Fair, fits, intern_leaf_of, intern_branch_of, hold_of, release_no, release_of}
use Rattle.arena.specs.Tables.{Tables, W, WellFormed}
use Rattle.arena.proofs.Branching.{branch_well}
use Rattle.arena.proofs.Holding.{hold_well}
use Rattle.arena.proofs.Leaves.{leaf_well}
use Rattle.arena.proofs.Releasing.{release_well}
use Rattle.ledger.specs.Ledger.{on, if_accepted, Balanced}
use Rattle.ledger.specs.Fates.{Grew, ended}
use Rattle.ledger.proofs.Balance.{leaf_balanced, branch_balanced, hold_balanced, release_balanced}
use Rattle.ledger.proofs.Generations.{leaf_same_gens, branch_same_gens, hold_same_gens, release_advances}
use Rattle.ledger.proofs.Going.{leaf_ends_none, branch_ends_none, hold_ends_none, release_makes_none}
use Rattle.calls.specs.Does.{Does}
use Rattle.calls.proofs.Once.{grew_extends, grown, shrunk}

module _ {n tallest : ℕ} (m : n ≤ kid_words) {t : Tables} (w : WellFormed n tallest t) where
  grew : {u : Tables} {g k : ℕ → ℕ} → WellFormed n tallest u → Grew t u → Balanced t u g k → ((s : ℕ) → generation_of (W u s own) ≡ generation_of (W t s own))
      → Does n tallest t u g k (ended t u)
  grew {u} {g} {k} v e = grown m u w (grew_extends n m e) g k v e.size

  -- Interning a leaf grants one hold on the leaf.
  pub leaf_does : (v : ℕ) → v ≤ largest_value
      → Does n tallest t (intern_leaf_of t v).after (λ y. if_accepted (intern_leaf_of t v) (on y (intern_leaf_of t v).id)) (λ y. 0) (ended t (intern_leaf_of t v).after)
  leaf_does v h = grew (leaf_well v m h w) (leaf_ends_none m w v) (leaf_balanced m w v) (leaf_same_gens m w v)

  -- Interning a branch grants one on the branch, and takes one for each child place that isn't EMPTY.
  pub branch_does : 1 ≤ n → (ks : List ℕ) → length ks ≡ kid_words → ((i : ℕ) → n ≤ i → i < kid_words → get_or ks i 0 ≡ 0)
      → Does n tallest t (intern_branch_of n tallest t ks).after (λ y. if_accepted (intern_branch_of n tallest t ks) (on y (intern_branch_of n tallest t ks).id))
      (λ y. if_accepted (intern_branch_of n tallest t ks) (pick (eqb y 0) 0 (occ y ks))) (ended t (intern_branch_of n tallest t ks).after)
  branch_does pos ks e z =
      grew (branch_well ks m pos e z w) (branch_ends_none m w ks e) (branch_balanced m w ks e) (branch_same_gens m w ks e)

  -- A hold grants one.
  pub hold_does : (id : ℕ) → Does n tallest t (hold_of t id).after (λ y. if_accepted (hold_of t id) (on y id)) (λ y. 0) (ended t (hold_of t id).after)
  hold_does id = grew (hold_well id m w) (hold_ends_none t id) (hold_balanced w id) (hold_same_gens t id)

  -- A release takes one.
  pub release_does : (id : ℕ) → Does n tallest t (release_of tallest t id).after (λ y. 0) (λ y. if_accepted (release_of tallest t id) (on y id)) (ended t (release_of tallest t id).after)
  release_does id =
      shrunk m (release_of tallest t id).after w (λ y. 0) (λ y. if_accepted (release_of tallest t id) (on y id)) (release_well id m w)
      (release_makes_none m w id) (release_balanced m w id) (release_advances m w id)

-- ## A release of tables that are well formed or not sized

release_unsized : (tallest : ℕ) {t : Tables} (id : ℕ) → fits t ≡ false → (release_of tallest t id).after ≡ t
unfolding release_of release_no
release_unsized tallest id f = rw f

-- It leaves them so.
pub release_fair : {n tallest : ℕ} → n ≤ kid_words → {t : Tables} (id : ℕ) → Fair n tallest t → Fair n tallest (release_of tallest t id).after
release_fair {tallest = tallest} m {t} id (inl f) = inl (ap fits (release_unsized tallest id f) ∙ f)
release_fair m id (inr w) = inr (release_well id m w)
