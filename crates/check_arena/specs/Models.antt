-- What the functions here answer, of any tables: mirrors of the code. No reader has to believe them: the public contract of the arena check cites
-- `WellFormed`. `k`, `f` and `e` are the lists of the tables kids, facts and find, c is the capacity, ks are the children of slot s.
use Rattle.std.specs.Prelude.{Bool, true, false, List, ℕ, ◌+◌, ◌-◌, ◌%◌, ◌^◌, eqb, leb, length}
use Rattle.basics.specs.Limits.{deepest, cube_kids, kid_words, largest_value, most_holds, last_generation}
use Rattle.basics.specs.Pick.{pick}
use Rattle.ids.specs.Ids.{generation_of, new_leaf, new_branch}
use Rattle.nodes.specs.Words.{own, value, height, sum, spare, hash, holds, places, mark, kid_of, fact_of, floor}
use Rattle.nodes.specs.Tally.{kids_of}
use Rattle.find_hash.specs.Hash.{leaf_hash, kids_hash}
use Rattle.arena.specs.Calls.{fit_of, none_of, all_live}
use Rattle.arena.specs.Models.{top_for}
use Rattle.arena.specs.Node.{kid_mask, kid_types, sum_for, value_for}
use Rattle.arena.specs.Tables.{State}
use Rattle.check_freed.specs.Models.{all_in, is_given, state_fine}
use Rattle.check_find.specs.Models.{find_fine}
use Rattle.check_places.specs.Models.{count_to, agree_at}

-- ## A slot that is not live

unfoldable pub fact_zero : List ℕ → ℕ → ℕ → Bool
fact_zero f s g = eqb (fact_of f s g) 0

-- the words from the value to the places are 0
unfoldable pub blank_at : List ℕ → ℕ → Bool
blank_at f s = all_in value mark (fact_zero f s)

unfoldable pub dead_fine : List ℕ → List ℕ → ℕ → Bool
dead_fine k f s = pick (eqb (fact_of f s own % 2 ^ 32) 0) (pick (none_of (kids_of kid_words (kid_of k) s)) (blank_at f s) false) false

-- ## A live slot

-- both counts, and the mark 0
unfoldable pub counts_fine : List ℕ → ℕ → Bool
counts_fine f s =
    pick (leb (fact_of f s holds) most_holds) (pick (leb 1 (fact_of f s holds + fact_of f s places)) (eqb (fact_of f s mark) 0) false) false

unfoldable pub leaf_named : List ℕ → ℕ → Bool
leaf_named f s = eqb (fact_of f s own) (new_leaf (s % 2 ^ 32) (generation_of (fact_of f s own)))

-- the sum and the hash that it keeps
unfoldable pub kept_at : List ℕ → ℕ → ℕ → ℕ → Bool
kept_at f total h s = pick (eqb (fact_of f s sum) total) (eqb (fact_of f s hash) h) false

unfoldable pub leaf_fine : List ℕ → ℕ → Bool
leaf_fine f s =
    pick (leaf_named f s)
    (pick (eqb (fact_of f s value) 0) false (pick (eqb (fact_of f s height) 0) (kept_at f 0 (leaf_hash (fact_of f s value)) s) false)) false

unfoldable pub branch_named : List ℕ → List ℕ → ℕ → Bool
branch_named f ks s = eqb (fact_of f s own) (new_branch (s % 2 ^ 32) (generation_of (fact_of f s own)) (kid_types ks) (kid_mask ks))

-- one more than `top`, at most the tallest allowed
unfoldable pub tall_at : List ℕ → ℕ → ℕ → Bool
tall_at f top s = pick (eqb (fact_of f s height) 0) false (pick (leb (fact_of f s height) deepest) (eqb (fact_of f s height - 1) top) false)

unfoldable pub branch_fine : List ℕ → ℕ → List ℕ → ℕ → Bool
branch_fine f c ks s =
    pick (branch_named f ks s)
    (pick (all_live c (fact_of f) ks)
    (pick (eqb (fact_of f s value) (value_for cube_kids (fact_of f) ks))
    (pick (kept_at f (sum_for cube_kids (fact_of f) ks) (kids_hash ks) s) (tall_at f (top_for (fact_of f) ks cube_kids) s) false) false) false) false

unfoldable pub kind_fine : List ℕ → ℕ → List ℕ → ℕ → Bool
kind_fine f c ks s = pick (none_of ks) (leaf_fine f s) (branch_fine f c ks s)

unfoldable pub live_fine : List ℕ → List ℕ → ℕ → ℕ → Bool
live_fine k f c s = pick (counts_fine f s) (kind_fine f c (kids_of kid_words (kid_of k) s) s) false

-- ## Every slot

-- given out, or its generation 0 and the mark 0
unfoldable pub rests_at : List ℕ → ℕ → ℕ → Bool
rests_at f next s = pick (is_given next s) true (pick (eqb (fact_of f s own) 0) (eqb (fact_of f s mark) 0) false)

unfoldable pub plain_at : List ℕ → ℕ → Bool
plain_at f s =
    pick (eqb (fact_of f s spare) 0) (pick (leb (fact_of f s value) largest_value) (leb (generation_of (fact_of f s own)) last_generation) false) false

unfoldable pub slot_fine : List ℕ → List ℕ → ℕ → ℕ → ℕ → Bool
slot_fine k f c next s =
    pick (plain_at f s) (pick (rests_at f next s) (pick (leb floor (fact_of f s own)) (live_fine k f c s) (dead_fine k f s)) false) false

-- ## All of it

unfoldable pub ranged_by : ℕ → ℕ → Bool
ranged_by next c = pick (leb 1 next) (leb next c) false

-- all but the tally
unfoldable pub sound_by : State → List ℕ → List ℕ → List ℕ → Bool
sound_by a k f e =
    pick (fit_of a.capacity (length k) (length f) (length e))
    (pick (ranged_by a.next a.capacity)
    (pick (all_in 0 a.capacity (slot_fine k f a.capacity a.next)) (pick (state_fine a f) (find_fine a.capacity k f e) false) false) false) false

-- and the tally
unfoldable pub check_by : State → List ℕ → List ℕ → List ℕ → Bool
check_by a k f e = pick (sound_by a k f e) (all_in 0 a.capacity (agree_at (count_to k f a.capacity))) false
