-- What the private functions leave, of any tables: mirrors of the code. No reader has to believe them: the public contracts cite `Calls`.
use Rattle.std.specs.Prelude.{Bool, true, false, List, [], ◌∷◌, ℕ, zero, suc, ◌+◌, ◌-◌, ◌%◌, ◌^◌, eqb, ltb, get_or, set}
use Rattle.basics.specs.Limits.{kid_words}
use Rattle.basics.specs.Pick.{pick}
use Rattle.ids.specs.Ids.{generation_of, new_leaf, new_branch}
use Rattle.nodes.specs.Tally.{kids_of}
use Rattle.nodes.specs.Words.{Nodes, nodes, Words, word_of, fact_of, put_of, fact_put, facts_put, row_put, written, own, height, holds, places, entry, slot}
use Rattle.find_hash.specs.Hash.{leaf_hash, kids_hash}
use Rattle.find.specs.Cells.{leaf_cell, kids_cell, remove}
use Rattle.find.specs.Content.{home_at}
use Rattle.arena.specs.Calls.{Out, said, refused, did, fits, full_of, room_of, held_at, fresh_in, given_by, fresh_facts, dead_facts, empties, recycled, less_of, each, release_no, none_of, all_live, enough}
use Rattle.arena.specs.Node.{kid_types, kid_mask, sum_for, value_for}
use Rattle.nodes.specs.Values.{height_at, max_to}
use Rattle.arena.specs.Tables.{State, Tables, tables_of, tables, cap, W}

-- ## Recycling

unfoldable pub unplaced : Tables → ℕ → Tables
unplaced t s = tables_of t.arena (put_of t.nodes s places (W t s places - 1)) t.find

-- the node in slot s has a hold, or a place besides the one that is owed
unfoldable pub stays_of : Words → ℕ → Bool
stays_of W s = pick (eqb (W s holds) 0) (ltb 1 (W s places)) true

-- slot s recycled, and `rec` done for each of its children
abbrev pub gone_of : (Tables → ℕ → Tables) → Tables → ℕ → Tables
gone_of rec t s = each rec (recycled t s) (kids_of kid_words (W t) s)

-- one place taken from x: it stays, or it goes by `gone`; EMPTY: nothing
unfoldable pub drop_one : ((Tables → ℕ → Tables) → Tables → ℕ → Tables) → (Tables → ℕ → Tables) → Tables → ℕ → Tables
drop_one gone rec t x =
    let left = pick (stays_of (W t) (slot x)) (unplaced t (slot x)) (gone rec t (slot x)) in
    pick (eqb x 0) t left

-- takes one place from x; the last one recycles its slot and drops its children in turn, k levels down at most
unfoldable pub drop_place : ((Tables → ℕ → Tables) → Tables → ℕ → Tables) → ℕ → Tables → ℕ → Tables
drop_place gone zero t x = t
drop_place gone (suc k) t x = drop_one gone (drop_place gone k) t x

-- one more, running over at 2^32
unfoldable pub more_of : ℕ → ℕ
more_of x = (x + 1) % 2 ^ 32

-- slot s recycled but for its children, as the code counts
unfoldable pub recycled_by : Tables → ℕ → Tables
recycled_by t s =
    let top = t.arena.freed in
    tables_of (record { capacity = t.arena.capacity; next = t.arena.next; freed = more_of top })
    (nodes t.nodes.kids (fact_put (facts_put t.nodes.facts s (dead_facts (W t s own) top)) top entry (s % 2 ^ 32))) (remove (home_at (cap t) (W t)) t.find s)

-- the children of slot s are EMPTY
unfoldable pub bared : Tables → ℕ → Tables
bared t s = tables t.arena (row_put kid_words t.nodes.kids s empties) t.nodes.facts t.find

-- slot s recycled, and `rec` done for each of its children, as the code does: of a leaf, which has height 0, no children are read or written
unfoldable pub gone_by : (Tables → ℕ → Tables) → Tables → ℕ → Tables
gone_by rec t s = let dead = recycled_by t s in pick (eqb (W t s height) 0) dead (each rec (bared dead s) (kids_of kid_words (W t) s))

-- ## A fresh node

-- one more in the fact w of the node of id; EMPTY: nothing
unfoldable pub bumped : ℕ → List ℕ → ℕ → List ℕ
bumped w f id = pick (eqb id 0) f (fact_put f (slot id) w (more_of (fact_of f (slot id) w)))

-- one place more for each of the nodes
abbrev pub placed_by : Nodes → List ℕ → Nodes
placed_by x ks = nodes x.kids (each (bumped places) x.facts ks)

-- a fresh node, named in the cell `at`
unfoldable pub fresh_at : Tables → ℕ → List ℕ → ℕ → ℕ → ℕ → ℕ → ℕ → ℕ → ℕ → Out
fresh_at t id ks v up sum k h q at =
    let s = fresh_in t in
    said 0 id (tables_of (given_by more_of t.arena) (written t.nodes s ks (fresh_facts id v up sum k h q)) (set t.find at (s % 65536)))

-- a fresh leaf: no children are written, since a free slot has none
unfoldable pub leaf_fresh : Tables → ℕ → ℕ → ℕ → ℕ → ℕ → Out
leaf_fresh t v k h q at =
    let s = fresh_in t in
    let id = new_leaf (s % 2 ^ 32) (generation_of (W t s own)) in
    said 0 id (tables (given_by more_of t.arena) t.nodes.kids (facts_put t.nodes.facts s (fresh_facts id v 0 0 k h q)) (set t.find at (s % 65536)))

-- a fresh branch with these two bytes in its id
unfoldable pub branch_with : Tables → List ℕ → ℕ → ℕ → ℕ → ℕ → ℕ → ℕ → ℕ → ℕ → ℕ → Out
branch_with t ks types mask v up sum k h q at =
    let s = fresh_in t in
    fresh_at t (new_branch (s % 2 ^ 32) (generation_of (W t s own)) types mask) ks v up sum k h q at

-- with those of its children
abbrev pub branch_fresh : Tables → List ℕ → ℕ → ℕ → ℕ → ℕ → ℕ → ℕ → ℕ → Out
branch_fresh t ks v up sum k h q at = branch_with t ks (kid_types ks) (kid_mask ks) v up sum k h q at

-- ## Intern leaf

-- the cells where the searches for a leaf and for a branch end
abbrev pub leaf_for : Tables → ℕ → ℕ
leaf_for t v = leaf_cell t.find (cap t) (W t) (leaf_hash v) v

abbrev pub kids_for : Tables → List ℕ → ℕ
kids_for t ks = kids_cell t.find (cap t) (W t) (kids_hash ks) ks

unfoldable pub hit_by : Tables → ℕ → Out
hit_by t s = pick (full_of (W t) s) (refused 10 t) (said 0 (W t s own) (held_at t s))

unfoldable pub leaf_miss_by : Tables → ℕ → ℕ → Out
leaf_miss_by t v at = pick (room_of t.arena) (leaf_fresh t v (leaf_hash v) 1 0 at) (refused 11 t)

-- once the search has ended at the cell `at`, which names s
unfoldable pub leaf_at : Tables → ℕ → ℕ → ℕ → Out
leaf_at t v s at = pick (eqb s 0) (leaf_miss_by t v at) (hit_by t s)

unfoldable pub leaf_by : Tables → ℕ → Out
leaf_by t v = leaf_at t v (get_or t.find (leaf_for t v) 0) (leaf_for t v)

unfoldable pub intern_leaf_by : Tables → ℕ → Out
intern_leaf_by t v = pick (fits t) (pick (eqb v 0) (refused 6 t) (leaf_by t v)) (refused 1 t)

-- ## Release

-- a hold becomes a place that is owed
unfoldable pub settled_n : Nodes → ℕ → Nodes
settled_n x s = put_of (put_of x s holds (word_of x s holds - 1)) s places (more_of (word_of x s places))

unfoldable pub settled : Tables → ℕ → Tables
settled t s = tables_of t.arena (settled_n t.nodes s) t.find

unfoldable pub release_by : ℕ → Tables → ℕ → Tables
release_by tallest t id = drop_place gone_by (suc tallest) (settled t (slot id)) id

-- where another hold is left nothing else is looked at
unfoldable pub release_any : ℕ → Tables → ℕ → Out
release_any tallest t id =
    let left = pick (ltb 1 (W t (slot id) holds)) (less_of holds t id) (release_by tallest t id) in
    pick (eqb (release_no t id) 0) (did 0 (pick (eqb id 0) t left)) (did (release_no t id) t)

-- ## Intern branch

-- the height of the tallest of the children
unfoldable pub top_for : Words → List ℕ → ℕ → ℕ
top_for W ks n = max_to n (λ i. height_at W (get_or ks i 0))

-- the sum, as the code keeps it
unfoldable pub sum_by : ℕ → Words → List ℕ → ℕ
sum_by n W ks = sum_for n W ks % 2 ^ 32

-- one hold less for the node of id; EMPTY: nothing
unfoldable pub taken_one : List ℕ → ℕ → List ℕ
taken_one f id = pick (eqb id 0) f (fact_put f (slot id) holds (fact_of f (slot id) holds - 1))

-- it has one to take; EMPTY needs none
unfoldable pub has_one : List ℕ → ℕ → Bool
has_one f id = pick (eqb id 0) true (ltb 0 (fact_of f (slot id) holds))

-- each has one left when its turn comes
unfoldable pub lasts : List ℕ → List ℕ → Bool
lasts f [] = true
lasts f (k ∷ ks) = let rest = lasts (taken_one f k) ks in pick (has_one f k) rest false

-- one hold less for each of the nodes
abbrev pub taken_by : Nodes → List ℕ → Nodes
taken_by x ks = nodes x.kids (each taken_one x.facts ks)

-- the holds of the first i are given back, the last one first
unfoldable pub given_back : List ℕ → List ℕ → ℕ → List ℕ
given_back f ks zero = f
given_back f ks (suc i) = given_back (bumped holds f (get_or ks i 0)) ks i

-- s is 0 where the branch is not there, else its slot

-- not refusal 4: where it is there its children live
unfoldable pub lives_at : ℕ → Words → List ℕ → ℕ → Bool
lives_at c W ks s = pick (eqb s 0) (all_live c W ks) true

-- the refusals after 5: 8 and 11 where it is not there, and the tallest of its children has the height `top`, else 10
unfoldable pub late_no : ℕ → State → Words → ℕ → ℕ → ℕ
late_no tallest a W s top = pick (eqb s 0) (pick (ltb top tallest) (pick (room_of a) 0 11) 8) (pick (full_of W s) 10 0)

-- 5 in place of such a one where there are too few holds. Where none applies, taking the holds shows whether there are enough
unfoldable pub first_no : ℕ → State → Words → List ℕ → ℕ → ℕ → ℕ
first_no tallest a W ks s top = let late = late_no tallest a W s top in pick (eqb late 0) 0 (pick (enough W ks) late 5)

-- a fresh branch, the holds of its children taken already: they become places
unfoldable pub branch_new_by : Tables → List ℕ → ℕ → ℕ → ℕ → ℕ → Out
branch_new_by t ks v top sum at = branch_fresh (tables_of t.arena (placed_by t.nodes ks) t.find) ks v (top + 1) sum (kids_hash ks) 1 0 at

-- refusal 5 alone is left
unfoldable pub branch_take_by : ℕ → Tables → List ℕ → ℕ → ℕ → Out
branch_take_by n t ks s at =
    let u = tables_of t.arena (taken_by t.nodes ks) t.find in
    let granted = pick (eqb s 0) (branch_new_by u ks (value_for n (W t) ks) (top_for (W t) ks n) (sum_by n (W t) ks) at) (hit_by u s) in
    pick (lasts t.nodes.facts ks) granted (refused 5 t)

-- once the search has ended at the cell `at`, which names s
unfoldable pub branch_at : ℕ → ℕ → Tables → List ℕ → ℕ → ℕ → Out
branch_at n tallest t ks s at =
    let no = first_no tallest t.arena (W t) ks s (top_for (W t) ks n) in
    pick (lives_at (cap t) (W t) ks s) (pick (eqb no 0) (branch_take_by n t ks s at) (refused no t)) (refused 4 t)

unfoldable pub branch_by : ℕ → ℕ → Tables → List ℕ → Out
branch_by n tallest t ks = branch_at n tallest t ks (get_or t.find (kids_for t ks) 0) (kids_for t ks)

-- of eight EMPTY ids neither 4 nor 5 can apply
unfoldable pub intern_branch_by : ℕ → ℕ → Tables → List ℕ → Out
intern_branch_by n tallest t ks = pick (fits t) (pick (none_of ks) (refused 7 t) (branch_by n tallest t ks)) (refused 1 t)
