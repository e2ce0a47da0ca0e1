-- What the functions answer, of any tables: mirrors of the code. No reader has to believe them.
use Rattle.std.specs.Prelude.{Bool, false, List, [], ◌∷◌, ℕ, zero, suc, ◌/◌, ◌%◌, ◌^◌, eqb, leb, get_or, set}
use Rattle.basics.specs.Limits.{deepest}
use Rattle.basics.specs.Pick.{pick}
use Rattle.ids.specs.Ids.{invalid}
use Rattle.nodes.specs.Words.{Words, own}
use Rattle.nodes.specs.Values.{value_at}
use Rattle.find_hash.specs.Hash.{rekids_hash}
use Rattle.find.specs.Cells.{kids_cell}
use Rattle.tree.specs.Tree.{look}
use Rattle.paths.specs.declared.Cell.{Cell}
use Rattle.tree.specs.Cells.{path_to}
use Rattle.tree.specs.Anew.{part}
use Rattle.arena.specs.Tables.{Tables, cap, W}
use Rattle.arena.specs.Calls.{all_of}
use Rattle.arena.specs.Models.{more_of, leaf_for}
use Rattle.edit_way.specs.declared.Way.{Way}
use Rattle.ids.specs.Ids.{is_end}
use Rattle.edit_way.specs.Models.{eight_parts, hash_over}
use Rattle.edit_plan.specs.declared.Plan.{Plan}

abbrev pub planned : ℕ → ℕ → Plan
planned k s = record { new = k; id = s }

-- ## How many nodes are to be made, and the part below them that is there

-- a slot that was found has the node; none found: one is to be made over s
unfoldable pub slot_plan : Words → ℕ → ℕ → Plan
slot_plan U found s = pick (eqb found 0) (planned 1 s) (planned 0 (U found own))

-- the slot that the search for a leaf finds
unfoldable pub leaf_found : Tables → ℕ → ℕ
leaf_found t v = get_or t.find (leaf_for t v) 0

unfoldable pub cell_plan : Tables → ℕ → Plan
cell_plan t x = pick (eqb x 0) (planned 0 0) (slot_plan (W t) (leaf_found t x) 0)

-- eight times one end
unfoldable pub whole_of : List ℕ → ℕ → Bool
whole_of ks s = pick (is_end s) (all_of (eqb s) ks) false

-- the hash of the parts of a with number c replaced by s, from the one that is kept
unfoldable pub hash_with : Words → ℕ → ℕ → ℕ → ℕ
hash_with U a c s = rekids_hash (hash_over U a) c (part U a c) s

-- the slot that the search for a branch of that hash finds
unfoldable pub kids_found : Tables → ℕ → List ℕ → ℕ
kids_found t h ks = get_or t.find (kids_cell t.find (cap t) (W t) h ks) 0

-- the parts of a with number c replaced by s
unfoldable pub need_plan : Tables → ℕ → ℕ → ℕ → Plan
need_plan t a c s =
    let ks = set (eight_parts (W t) a) c s in pick (whole_of ks s) (planned 0 s) (slot_plan (W t) (kids_found t (hash_with (W t) a c s) ks) s)

unfoldable pub up_plan : Tables → ℕ → ℕ → Plan → Plan
up_plan t a c b = pick (eqb b.new 0) (need_plan t a c b.id) (planned (more_of b.new) b.id)

-- from level l upward, k levels
unfoldable pub plan_up : Tables → List ℕ → ℕ → ℕ → ℕ → Plan → Plan
plan_up t ids zero l p b = b
plan_up t ids (suc k) l p b = plan_up t ids k (suc l) (p / 8) (up_plan t (get_or ids l 0) (p % 8) b)

-- along a way: the root if its end has the value already. INVALID of a depth above 6
unfoldable pub plan_on : Tables → ℕ → Cell → ℕ → Way → Plan
plan_on t v c root w =
    pick (leb c.depth deepest)
    (pick (eqb (value_at (W t) w.end % 2 ^ 16) v) (planned 0 root) (plan_up t w.ids c.depth 0 w.path (cell_plan t v)))
    (planned 0 invalid)

-- ## The same by the path from the root, and no way

unfoldable pub plan_by : Tables → ℕ → List ℕ → ℕ → Plan
plan_by t x [] a = cell_plan t x
plan_by t x (c ∷ p) a = up_plan t a c (plan_by t x p (part (W t) a c))

-- the plan of the cell p with the value v: the old root if it has it already
unfoldable pub root_plan : Tables → ℕ → List ℕ → ℕ → Plan
root_plan t v p root = pick (eqb (look (W t) p root % 2 ^ 16) v) (planned 0 root) (plan_by t v p root)

-- INVALID of a depth above 6
unfoldable pub result_by : Tables → ℕ → Cell → ℕ → Plan
result_by t v c root = pick (leb c.depth deepest) (root_plan t v (path_to c) root) (planned 0 invalid)
