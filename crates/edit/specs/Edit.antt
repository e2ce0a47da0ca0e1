-- The edit of one cell: what it answers and leaves. `n` is the number of children of a node, a cell is the list of its child numbers from the root
-- down, and `a` the node that the list starts from.
use Rattle.std.specs.Prelude.{Bool, false, List, [], ◌∷◌, ℕ, suc, eqb, leb, ltb, set}
use Rattle.basics.specs.Limits.{cube_kids, kid_words}
use Rattle.basics.specs.Pick.{pick}
use Rattle.ids.specs.Ids.{empty, is_leaf}
use Rattle.paths.specs.declared.IVec3.{IVec3}
use Rattle.paths.specs.Paths.{whole}
use Rattle.nodes.specs.Words.{own, slot}
use Rattle.nodes.specs.Tally.{tab_from}
use Rattle.tree.specs.Tree.{look}
use Rattle.nodes.specs.Values.{height_at}
use Rattle.tree.specs.Cells.{cube_path}
use Rattle.tree.specs.Anew.{part, replace}
use Rattle.tree.specs.Lacks.{Need, have, lack}
use Rattle.arena.specs.Tables.{Tables, tables_of, W}
use Rattle.arena.specs.Calls.{Out, said, refused, full_of, free_slots, held_at, leaf_anew, branch_anew, leaf_slot, branch_slot, all_of, each, placed_kid}
use Rattle.read_cell.specs.Calls.{look_no}

-- ## The dry run: what is there already, and how many nodes are not

-- the child words of a branch that has the n parts f: EMPTY from n on
unfoldable pub words_of : ℕ → (ℕ → ℕ) → List ℕ
words_of n f = tab_from kid_words 0 (λ i. pick (ltb i n) (f i) empty)

-- the n parts are one leaf, n times
unfoldable pub one_leaf : ℕ → (ℕ → ℕ) → Bool
one_leaf n f = pick (is_leaf (f 0)) (all_of (eqb (f 0)) (tab_from n 0 f)) false

-- what n parts come to: n EMPTY become EMPTY, n times one leaf become that leaf, and others are the live branch of those children if there is
-- one; else one node is still to be made
unfoldable pub need_of : ℕ → Tables → (ℕ → ℕ) → Need
need_of n t f =
    pick (all_of (eqb empty) (tab_from n 0 f)) (have empty)
    (pick (one_leaf n f) (have (f 0))
    (pick (eqb (branch_slot t (words_of n f)) 0) (lack 1) (have (W t (branch_slot t (words_of n f)) own))))

-- the cell itself: EMPTY for the value 0, the live leaf of the value if there is one
unfoldable pub cell_need : Tables → ℕ → Need
cell_need t x =
    pick (eqb x 0) (have empty) (pick (eqb (leaf_slot t x) 0) (lack 1) (have (W t (leaf_slot t x) own)))

-- one level up: over a part that is to be made, one node more is to be made
unfoldable pub up_need : (ℕ → Need) → Need → Need
up_need g (have s) = g s
up_need g (lack k) = lack (suc k)

-- the node a with its cell p made anew with the value x; a leaf, and EMPTY, stands for n of itself
unfoldable pub plan_of : ℕ → Tables → ℕ → List ℕ → ℕ → Need
plan_of n t x [] a = cell_need t x
plan_of n t x (c ∷ p) a = up_need (λ s. need_of n t (replace (part (W t) a) c s)) (plan_of n t x p (part (W t) a c))

-- the answer of the edit: the old root if the cell already has the value
unfoldable pub result_of : ℕ → Tables → ℕ → List ℕ → ℕ → Need
result_of n t x p root = pick (eqb (look (W t) p root) x) (have root) (plan_of n t x p root)

-- ## The making, leaf first and upward

-- one place more for the node s, which the branch that is made next will have; EMPTY: nothing
unfoldable pub owed : Tables → ℕ → Tables
owed t s = tables_of t.arena (placed_kid t.nodes s) t.find

-- the part below: it is there already, or it was made for this place
unfoldable pub low_of : Tables → Need → Out → Out
low_of t (have s) new = said 0 s (owed t s)
low_of t (lack k) new = new

-- the node a with its cell p made anew, a fresh node with h holds and q places; the part below, number c, has its place, and the others get theirs
unfoldable pub make_of : ℕ → Tables → ℕ → List ℕ → ℕ → ℕ → ℕ → Out
make_of n t x [] a h q = leaf_anew t x h q
make_of n t x (c ∷ p) a h q =
    let new = make_of n t x p (part (W t) a c) 0 1 in
    let low = low_of t (plan_of n t x p (part (W t) a c)) new in
    let ks = words_of n (replace (part (W t) a) c low.id) in
    branch_anew n (each owed low.after (set ks c empty)) ks h q

-- ## The edit of a cell

-- refusals 10 and 11: the answer already has 1,000,000 holds; more nodes of the result not yet live than free slots
unfoldable pub grant_no : Tables → Need → ℕ
grant_no t (have r) = pick (eqb r empty) 0 (pick (full_of (W t) (slot r)) 10 0)
grant_no t (lack k) = pick (leb k (free_slots t.arena)) 0 11

-- the caller gets one hold on the answer, none on EMPTY
unfoldable pub granted : Tables → ℕ → Tables
granted t r = pick (eqb r empty) t (held_at t (slot r))

-- a result that was there, or is made
unfoldable pub answer_of : Tables → Need → Out → Out
answer_of t (have r) new = said 0 r (granted t r)
answer_of t (lack k) new = new

-- refusals 8 (root taller than d), 10 and 11, the lowest that applies
unfoldable pub cell_no : ℕ → Tables → ℕ → ℕ → List ℕ → ℕ → ℕ
cell_no n t root d cell x = pick (leb (height_at (W t) root) d) (grant_no t (result_of n t x cell root)) 8

-- the edit of a cell of depth d below a root that is EMPTY or live
unfoldable pub edit_cell : ℕ → Tables → ℕ → ℕ → List ℕ → ℕ → Out
edit_cell n t root d cell x =
    let new = make_of n t x cell root 1 0 in
    pick (eqb (cell_no n t root d cell x) 0) (answer_of t (result_of n t x cell root) new) (refused (cell_no n t root d cell x) t)

-- ## The call, of a cube

-- the path of the position at depth d
abbrev pub cell_at : ℕ → IVec3 → List ℕ
cell_at d p = cube_path d (whole p.x) (whole p.y) (whole p.z)

-- refusals 1, 2, 3 and 4 as of a lookup, then those of the cell
unfoldable pub edit_no : Tables → ℕ → ℕ → IVec3 → ℕ → ℕ
edit_no t root d p x = pick (eqb (look_no t root d p) 0) (cell_no cube_kids t root d (cell_at d p) x) (look_no t root d p)

unfoldable pub edit_of : Tables → ℕ → ℕ → IVec3 → ℕ → Out
edit_of t root d p x = pick (eqb (look_no t root d p) 0) (edit_cell cube_kids t root d (cell_at d p) x) (refused (look_no t root d p) t)
