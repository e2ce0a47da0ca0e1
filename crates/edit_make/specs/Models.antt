-- What the functions answer and leave, of any tables: mirrors of the code. No reader has to believe them.
use Rattle.std.specs.Prelude.{Bool, not, List, [], ◌∷◌, ℕ, zero, suc, ◌+◌, ◌-◌, ◌*◌, ◌/◌, ◌%◌, ◌^◌, eqb, leb, ltb, get_or, set}
use Rattle.basics.specs.Limits.{deepest, cube_kids}
use Rattle.basics.specs.Pick.{pick}
use Rattle.ids.specs.Ids.{is_leaf, types_of, mask_of}
use Rattle.nodes.specs.Words.{Words, sum, places, nodes, fact_of, fact_put, slot}
use Rattle.nodes.specs.Tally.{one_if}
use Rattle.nodes.specs.Values.{value_at, height_at}
use Rattle.find_hash.specs.Hash.{leaf_hash, rekids_hash, home_in}
use Rattle.find.specs.Cells.{probe}
use Rattle.tree.specs.Anew.{part}
use Rattle.arena.specs.Tables.{Tables, tables_of, cap, W}
use Rattle.arena.specs.Calls.{Out, said, refused, fresh_in}
use Rattle.arena.specs.Models.{more_of, placed_by, leaf_fresh, branch_with, top_for}
use Rattle.edit_way.specs.declared.Way.{Way}
use Rattle.ids.specs.Ids.{is_end}
use Rattle.edit_way.specs.Models.{eight_parts, hash_over}
use Rattle.edit_plan.specs.Models.{planned}
use Rattle.edit_plan.specs.declared.Plan.{Plan}

-- one place more for each of the nodes
abbrev pub owed_by : Tables → List ℕ → Tables
owed_by t ks = tables_of t.arena (placed_by t.nodes ks) t.find

-- the first empty cell from the home of the hash k on: no cell names the fresh slot
abbrev pub place_for : Tables → ℕ → ℕ
place_for t k = probe (eqb (fresh_in t)) t.find (home_in (cap t) k)

unfoldable pub leaf_anew_by : Tables → ℕ → ℕ → ℕ → Out
leaf_anew_by t x h q = leaf_fresh t x (leaf_hash x) h q (place_for t (leaf_hash x))

-- the sum of the values of the parts of an id; a branch keeps it
unfoldable pub sum_over : Words → ℕ → ℕ
sum_over U a = pick (is_end a) (8 * value_at U a % 2 ^ 32) (U (slot a) sum)

-- the sum after a part of value x became one of value y
unfoldable pub resum : ℕ → ℕ → ℕ → ℕ
resum s x y = (s + y + (2 ^ 32 - x)) % 2 ^ 32

-- the height over the parts ks, of which y is new in a node of height g
unfoldable pub height_over : Words → List ℕ → ℕ → ℕ → ℕ
height_over U ks y g = pick (ltb (more_of (height_at U y)) g) (more_of (top_for U ks cube_kids)) (more_of (height_at U y))

-- ## Places

unfoldable pub placed_if : List ℕ → ℕ → Bool → List ℕ
placed_if l k on = pick on (fact_put l (slot k) places (more_of (fact_of l (slot k) places))) l

-- for each of the list whose bit is 1, the first the lowest
unfoldable pub placed_where : List ℕ → List ℕ → ℕ → List ℕ
placed_where l [] m = l
placed_where l (k ∷ ks) m = placed_where (placed_if l k (eqb (m % 2) 1)) ks (m / 2)

-- the bits but for bit c
unfoldable pub other_bits : ℕ → ℕ → ℕ
other_bits m c = m - m / 2 ^ c % 2 * 2 ^ c % 2 ^ 8

unfoldable pub seven_placed : List ℕ → ℕ → List ℕ
seven_placed l a = pick (eqb a 0) l (fact_put l (slot a) places ((fact_of l (slot a) places + 7) % 2 ^ 32))

-- for the parts ks of a but number c
unfoldable pub placed_over : List ℕ → List ℕ → ℕ → ℕ → List ℕ
placed_over l ks a c = pick (is_end a) (seven_placed l a) (placed_where l ks (other_bits (mask_of a) c))

-- ## The two bytes of a branch's id

-- a byte with bit c as `on` says
unfoldable pub with_bit : ℕ → ℕ → Bool → ℕ
with_bit m c on = (other_bits m c + one_if on * 2 ^ c % 2 ^ 8) % 2 ^ 8

-- the types and the mask of a branch with the parts of a; an end's eight are alike
unfoldable pub types_over : ℕ → ℕ
types_over a = pick (eqb a 0) 0 (pick (is_end a) 255 (types_of a))

unfoldable pub mask_over : ℕ → ℕ
mask_over a = pick (eqb a 0) 0 (pick (is_end a) 255 (mask_of a))

-- ## Nodes

unfoldable pub branch_anew_by : Tables → List ℕ → ℕ → ℕ → ℕ → ℕ → ℕ → ℕ → ℕ → Out
branch_anew_by t ks types mask up s k h q = branch_with t ks types mask (s / 8) up s k h q (place_for t k)

-- in the place of a, over its part number c that was made: the others get their places, then the branch
unfoldable pub up_by : Out → ℕ → ℕ → ℕ → ℕ → Out
up_by low a c h q =
    let u = low.after in
    let ks = eight_parts (W u) a in
    let was = part (W u) a c in
    let t = tables_of u.arena (nodes u.nodes.kids (placed_over u.nodes.facts ks a c)) u.find in
    let all = set ks c low.id in
    branch_anew_by t all (with_bit (types_over a) c (is_leaf low.id)) (with_bit (mask_over a) c (not (eqb low.id 0))) (height_over (W t) all low.id (height_at (W u) a)) (resum (sum_over (W u) a) (value_at (W u) was) (value_at (W t) low.id))
    (rekids_hash (hash_over (W u) a) c was low.id) h q

-- ## Upward along a way

-- the holds of what is made at level l below a root of level d; it has a place where it has none
unfoldable pub hold_at : ℕ → ℕ → ℕ
hold_at l d = pick (eqb l d) 1 0

-- from level l, k levels
unfoldable pub make_up : List ℕ → ℕ → ℕ → ℕ → ℕ → Out → Out
make_up ids d zero l p o = o
make_up ids d (suc k) l p o = make_up ids d k (suc l) (p / 8) (up_by o (get_or ids l 0) (p % 8) (hold_at (suc l) d) (1 - hold_at (suc l) d))

-- the digits without the lowest n
unfoldable pub passed : ℕ → ℕ → ℕ
passed p zero = p
passed p (suc n) = passed (p / 8) n

-- the level of the lowest branch that is to be made
unfoldable pub from_of : ℕ → Plan → ℕ
from_of d b = pick (ltb d b.new) 0 (d - b.new)

-- what it stands over
unfoldable pub low_of : Tables → ℕ → ℕ → Plan → Out
low_of t x d b = pick (ltb d b.new) (leaf_anew_by t x (hold_at 0 d) (1 - hold_at 0 d)) (said 0 b.id (owed_by t (b.id ∷ [])))

-- refusal 2 of a depth above 6
unfoldable pub make_on : Tables → ℕ → Way → ℕ → Plan → Out
make_on t x w d b =
    pick (leb d deepest) (make_up w.ids d (d - from_of d b) (from_of d b) (passed w.path (from_of d b)) (low_of t x d b)) (refused 2 t)

-- ## The same by the path from the root, and no way

-- the plan's new nodes upward over its part
unfoldable pub make_by : Tables → ℕ → List ℕ → ℕ → Plan → ℕ → ℕ → Out
make_by t x [] a b h q = pick (eqb b.new 0) (said 0 b.id (owed_by t (b.id ∷ []))) (leaf_anew_by t x h q)
make_by t x (c ∷ p) a b h q =
    let low = make_by t x p (part (W t) a c) (planned (b.new - 1) b.id) 0 1 in
    pick (eqb b.new 0) (said 0 b.id (owed_by t (b.id ∷ []))) (up_by low a c h q)
