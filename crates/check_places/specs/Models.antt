-- What the functions here answer, of any tables: mirrors of the code. No reader has to believe them: the public contract of the arena check cites
-- `WellFormed`. `k` and `f` are the lists of the tables kids and facts.
use Rattle.std.specs.Prelude.{Bool, true, List, ℕ, eqb, leb}
use Rattle.basics.specs.Limits.{kid_words}
use Rattle.basics.specs.Pick.{pick}
use Rattle.nodes.specs.Words.{own, places, mark, kid_of, fact_of, fact_put, floor}
use Rattle.nodes.specs.Tally.{kids_of}
use Rattle.arena.specs.Calls.{each}
use Rattle.arena.specs.Models.{bumped}
use Rattle.check_freed.specs.Models.{up_to}

-- ## The tally of all nodes in one pass: a counter in the mark word of live slots

-- the children of slot b counted
unfoldable pub kids_bumped : List ℕ → List ℕ → ℕ → List ℕ
kids_bumped k f b = each (bumped mark) f (kids_of kid_words (kid_of k) b)

-- those of the slots below b
abbrev pub count_to : List ℕ → List ℕ → ℕ → List ℕ
count_to k f b = up_to (kids_bumped k) f b

-- the counter of slot s set to 0 again, if it is live
unfoldable pub unmarked : List ℕ → ℕ → List ℕ
unmarked f s = pick (leb floor (fact_of f s own)) (fact_put f s mark 0) f

-- those of the slots below b
abbrev pub clear_to : List ℕ → ℕ → List ℕ
clear_to f b = up_to unmarked f b

-- slot s is not live, or its counter equals its places
unfoldable pub agree_at : List ℕ → ℕ → Bool
agree_at f s = pick (leb floor (fact_of f s own)) (eqb (fact_of f s places) (fact_of f s mark)) true
