-- The places of a node are the child places of live branches that name it: dead slots and leaves have EMPTY children.
use mathlib.Core.Path.{◌≡◌, ◌∙◌}
use mathlib.Core.Logic.{◌≢◌}
use Prim.Native.Nat.{ℕ, ◌≤◌}
use native.Mathlib.Decide.{dec_lt}
use native.Mathlib.Omega.{arith}
use borrow.Author.Tests.{le-leb, lt-leb}
use Rattle.ids.specs.Ids.{is_leaf}
use Rattle.nodes.specs.Tally.{tally, tally_live}
use Rattle.nodes.specs.Words.{own, floor}
use Rattle.nodes.proofs.Counts.{live_nonzero, occ_bare}
use Rattle.nodes.proofs.Sums.{cases, split, sum_to_ext_lem}
use Rattle.arena.specs.Calls.{counts_of}
use Rattle.arena.specs.Tables.{Tables, cap, W, WellFormed}
use Rattle.arena.proofs.Ids.{node_leaf}
use Rattle.ledger.specs.Fates.{Lives}
use Rattle.ledger.proofs.Balance.{counts_places}

-- On well-formed tables the tally over all slots is the tally over live branches alone.
pub tally_live_lem : {n tallest : ℕ} {t : Tables} → n ≤ 8 → WellFormed n tallest t → (y : ℕ) → y ≢ 0 → tally 8 (cap t) (W t) y ≡ tally_live 8 (cap t) (W t) y
unfolding tally tally_live
tally_live_lem {t = t} m w y d = sum_to_ext_lem (cap t) _ _ (λ b l. cases (dec_lt (W t b own) floor)
    (λ h. rw (lt-leb floor (W t b own) h) (occ_bare 8 (W t) b y d (λ i j. (w.cleared b l h).words i (omega arith) (omega arith) (omega arith))))
    (λ h.
    let k : floor ≤ W t b own = omega arith in
    split (is_leaf (W t b own))
    (λ f. rw (le-leb floor (W t b own) k, f) (occ_bare 8 (W t) b y d (node_leaf m l w.sized.most (w.nodes b (l, k)) f).bare))
    (λ f. rw (le-leb floor (W t b own) k, f))))

-- The places that counts answers of a live node: the child places of live branches that name it.
pub counts_live_places : {n tallest : ℕ} {t : Tables} → n ≤ 8 → WellFormed n tallest t → (y : ℕ) → Lives t y → (counts_of t y).places ≡ tally_live 8 (cap t) (W t) y
counts_live_places m w y v = counts_places w y v ∙ tally_live_lem m w y (live_nonzero v)
