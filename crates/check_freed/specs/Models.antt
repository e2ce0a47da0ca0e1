-- What the functions here answer, of any tables: mirrors of the code. No reader has to believe them: the public contract of the arena check cites
-- `WellFormed`. `f` is the list of the table facts.
use Rattle.std.specs.Prelude.{Bool, false, List, ℕ, zero, suc, ◌-◌, eqb, ltb}
use Rattle.basics.specs.Pick.{pick}
use Rattle.nodes.specs.Words.{own, mark, entry, fact_of, floor}
use Rattle.nodes.specs.Tally.{tab_from, live_count}
use Rattle.arena.specs.Calls.{all_of}
use Rattle.arena.specs.Tables.{State}

-- ## Passes

-- is p true of each number from i to the one before m?
unfoldable pub all_in : ℕ → ℕ → (ℕ → Bool) → Bool
all_in i m p = all_of p (tab_from (m - i) i (λ j. j))

-- g once for each number below b, in order
unfoldable pub up_to : {A : Type 0} → (A → ℕ → A) → A → ℕ → A
up_to g x zero = x
up_to g x (suc b) = g (up_to g x b) b

-- ## The freed slots

-- slot s was given out
unfoldable pub is_given : ℕ → ℕ → Bool
is_given next s = pick (eqb s 0) false (ltb s next)

unfoldable pub is_free : List ℕ → ℕ → ℕ → Bool
is_free f next s = pick (is_given next s) (ltb (fact_of f s own) floor) false

-- slot s is free, and its number on the stack is i
unfoldable pub numbered_by : List ℕ → ℕ → ℕ → ℕ → Bool
numbered_by f next i s = pick (is_free f next s) (eqb (fact_of f s mark) i) false

-- entry i of the stack is such a slot
unfoldable pub entry_fine : List ℕ → ℕ → ℕ → Bool
entry_fine f next i = numbered_by f next i (fact_of f i entry)

-- the slots given out are as many as are freed and as live, slot 0 aside, and each entry of the stack is right
unfoldable pub state_fine : State → List ℕ → Bool
state_fine a f =
    pick (ltb a.freed a.next)
    (pick (eqb (live_count a.capacity (fact_of f)) (a.next - 1 - a.freed)) (all_in 0 a.freed (entry_fine f a.next)) false) false
