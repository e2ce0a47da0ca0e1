use Rattle.std.proofs.Common.{rules, arith, ◌≡◌, ℕ, ◌-◌, ◌≤◌, ◌<◌, List, Bool, false, ◌∙◌}
use lib.Dec.{eqb}
use borrow.Author.Tests.{lt-ltb, le-ltb, eq-eqb, ne_eqb}
use Rattle.nodes.specs.Words.{fact_of}
use Rattle.nodes.specs.Tally.{live_count}
use Rattle.arena.specs.Tables.{State}
use Rattle.check_freed.specs.Models.{all_in, entry_fine, state_fine}
use Rattle.check_freed.proofs.state_fine.Goals as goal

module _ (a : State) (f : List ℕ) (n m : ℕ) (e : n ≡ a.next) (d : m ≡ a.freed) where
  over : n ≤ m → false ≡ state_fine a f
  unfolding state_fine
  over l = rw (le-ltb a.freed a.next (omega arith))

  module _ (l : m < n) (w : ℕ) (h : w ≡ live_count a.capacity (fact_of f)) where
    miscounted : (w ≡ n - 1 - m → ⊥) → eqb w (n - 1 - m) ≡ state_fine a f
    unfolding state_fine
    miscounted q =
        ne_eqb w (n - 1 - m) q
        ∙ rw (lt-ltb a.freed a.next (omega arith), ne_eqb (live_count a.capacity (fact_of f)) (a.next - 1 - a.freed) (λ z. q (omega arith)))

    counted : (t : Bool) → w ≡ n - 1 - m → t ≡ all_in 0 m (entry_fine f n) → t ≡ state_fine a f
    unfolding state_fine
    counted t q r =
        rw (lt-ltb a.freed a.next (omega arith), eq-eqb (live_count a.capacity (fact_of f)) (a.next - 1 - a.freed) (omega arith), r, e, d)

ruleset mine = (over, miscounted, counted)

pub returns-then-freed-next : goal.returns-then-freed-next
returns-then-freed-next c = search (mine, rules)

pub returns-then-count_live-next : goal.returns-then-count_live-next
returns-then-count_live-next c = search (mine, rules)

pub returns-else-count_live-next : goal.returns-else-count_live-next
returns-else-count_live-next c = search (mine, rules)
