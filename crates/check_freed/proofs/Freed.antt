-- The freed slots: what the pass over their stack tells.
use mathlib.Core.Path.{◌≡◌}
use mathlib.Core.Logic.{◌≢◌}
use mathlib.Core.List.{List}
use Prim.Native.Nat.{ℕ, ◌+◌, ◌-◌, ◌<◌}
use native.Mathlib.Decide.{ℕ_discrete}
use native.Mathlib.Omega.{arith}
use Rattle.nodes.specs.Words.{own, mark, entry, nodes, fact_of, word_of, floor}
use Rattle.nodes.specs.Tally.{Free, live_count}
use Rattle.nodes.proofs.Access.{word_fact}
use Rattle.nodes.proofs.Freeing.{live_keep}
use Rattle.nodes.proofs.Sums.{cases}
use Rattle.arena.specs.Tables.{State}
use Rattle.check_freed.specs.Models.{all_in, is_given, is_free, numbered_by, entry_fine, state_fine}
use Rattle.check_freed.proofs.Ladders.{Tells, tells_eq, tells_lt, tells_map, tells_and, tells_not}
use Rattle.check_freed.proofs.Passes.{tells_all}

pub given_tells : (next s : ℕ) → Tells (is_given next s) ((s ≢ 0) × (s < next))
unfolding is_given
given_tells next s = tells_not (tells_eq s 0) (tells_lt s next)

module _ (k f : List ℕ) (next : ℕ) where
  free_tells : (s : ℕ) → Tells (is_free f next s) (Free (word_of (nodes k f)) next s)
  unfolding is_free word_of
  free_tells s =
      tells_map (λ r. let d = r.0.0 in record { given = cases (ℕ_discrete s 0) (λ z. absurd (d z)) (λ z. omega arith); below = r.0.1; dead = r.1 })
      (λ r. (((λ z. let g = r.given in omega arith), r.below), r.dead))
      (tells_and (given_tells next s) (λ g. tells_lt (fact_of f s own) floor))

  -- entry i is a slot given out and not live, with the number i
  abbrev Entered : ℕ → Type 0
  Entered i = Free (word_of (nodes k f)) next (word_of (nodes k f) i entry) × (word_of (nodes k f) (word_of (nodes k f) i entry) mark ≡ i)

  entry_tells : (i : ℕ) → Tells (entry_fine f next i) (Entered i)
  unfolding entry_fine numbered_by word_of
  entry_tells i = tells_and (free_tells (fact_of f i entry)) (λ r. tells_eq (fact_of f (fact_of f i entry) mark) i)

  entries_tell : (freed : ℕ) → Tells (all_in 0 freed (entry_fine f next)) ((i : ℕ) → i < freed → Entered i)
  entries_tell freed = tells_map (λ q i l. q i (omega arith) l) (λ q i h l. q i l) (tells_all (entry_fine f next) Entered 0 freed (λ i h l. entry_tells i))

-- the live slots are as many as they must be, and each entry of the stack is right
pub state_tells : (a : State) (k f : List ℕ) → Tells (state_fine a f)
    ((a.freed + live_count a.capacity (word_of (nodes k f)) + 1 ≡ a.next)
    × ((i : ℕ) → i < a.freed → Free (word_of (nodes k f)) a.next (word_of (nodes k f) i entry) × (word_of (nodes k f) (word_of (nodes k f) i entry) mark ≡ i)))
unfolding state_fine
state_tells a k f =
    let e : live_count a.capacity (word_of (nodes k f)) ≡ live_count a.capacity (fact_of f) = live_keep a.capacity (fact_of f) (word_of (nodes k f)) (λ b. word_fact (nodes k f) b own (omega arith)) in
    tells_map (λ r. (let l = r.0 in let q = r.1.0 in omega arith, r.1.1)) (λ r. (let q = r.0 in omega arith, (let q = r.0 in omega arith, r.1)))
    (tells_and (tells_lt a.freed a.next)
    (λ l. tells_and (tells_eq (live_count a.capacity (fact_of f)) (a.next - 1 - a.freed)) (λ q. entries_tell k f a.next a.freed)))
