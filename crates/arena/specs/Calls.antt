-- What each public call answers and leaves. On tables that are not sized: refusal 1, nothing changed. On well-formed tables: exactly this.
use Rattle.std.specs.Prelude.{◌≡◌, ◌⊎◌, Bool, true, false, List, [], ◌∷◌, ℕ, zero, suc, ◌+◌, ◌-◌, ◌*◌, ◌^◌, Result, eqb, leb, ltb, length, replicate}
use Rattle.std.specs.declared.result.Result.TheVariants.{Ok, Err}
use Rattle.basics.specs.Limits.{kid_words, fact_words, slot_cells, least_slots, most_slots, most_holds}
use Rattle.basics.specs.Pick.{pick}
use Rattle.basics.specs.Refusals.{number}
use Rattle.basics.specs.declared.Refusal.{Refusal}
use Rattle.ids.specs.Ids.{empty, invalid, is_leaf, generation_of}
use Rattle.nodes.specs.Tally.{occ, kids_of}
use Rattle.ids.specs.declared.BlockId.{BlockId}
use Rattle.nodes.specs.Words.{Nodes, Words, word_of, put_of, written, own, value, holds, places, entry, slot, floor}
use Rattle.find_hash.specs.Hash.{leaf_hash, kids_hash, home_in}
use Rattle.find.specs.Cells.{insert_at, remove}
use Rattle.find.specs.Content.{agree, home_at}
use Rattle.arena.specs.Node.{next_generation, leaf_id, branch_id, sum_for, value_for, height_for}
use Rattle.arena.specs.Tables.{State, live_in, state_in, Tables, tables_of, tables, cap, W, WellFormed}
use Rattle.arena.specs.declared.Answer.{Answer}
use Rattle.arena.specs.declared.Counted.{Counted}
use Rattle.arena.specs.declared.Counts.{Counts}
use Rattle.arena.specs.declared.Made.{Made}

-- ## Answers: a number, an id, and the arena afterwards

pub record Out : Type 0 where
  pub no : ℕ
  pub id : ℕ
  pub after : Tables

abbrev pub said : ℕ → ℕ → Tables → Out
said x id t = record { no = x; id = id; after = t }

-- a refusal returns its number with id INVALID, and changes nothing lent
abbrev pub refused : ℕ → Tables → Out
refused x t = said x invalid t

-- a call that answers no id
abbrev pub did : ℕ → Tables → Out
did x t = said x empty t

-- the raw numbers of ids
unfoldable pub raw_ids : List BlockId → List ℕ
raw_ids [] = []
raw_ids (b ∷ bs) = b.0 ∷ raw_ids bs

-- what the code's answer and the lists afterwards come to, in an arena of c slots
abbrev pub made_of : ℕ → Made → List ℕ → List ℕ → List ℕ → Out
made_of c r k f e = said r.no r.id.0 (tables (state_in c r.slots) k f e)

abbrev pub answered_of : ℕ → Answer → List ℕ → List ℕ → List ℕ → Out
answered_of c r k f e = did r.no (tables (state_in c r.slots) k f e)

-- ## Refusals

-- not refusal 1: capacity 2 to 65,536, and each table's length the one fixed for it: 8 and 11 words and 5 cells a slot
unfoldable pub fit_of : ℕ → ℕ → ℕ → ℕ → Bool
fit_of c k f e =
    pick (leb least_slots c) (pick (leb c most_slots) (pick (eqb k (kid_words * c)) (pick (eqb f (fact_words * c)) (eqb e (slot_cells * c)) false) false) false) false

abbrev pub fits : Tables → Bool
fits t = fit_of (cap t) (length t.nodes.kids) (length t.nodes.facts) (length t.find)

-- the tables of which a contract speaks: not sized, or well formed
abbrev pub Fair : ℕ → ℕ → Tables → Type 0
Fair n tallest t = (fits t ≡ false) ⊎ WellFormed n tallest t

-- an id is live exactly if it is, in all 64 bits, the id of a node now in the arena
unfoldable pub live_of : ℕ → Words → ℕ → Bool
live_of c W id = pick (ltb (slot id) c) (pick (leb floor id) (eqb (W (slot id) own) id) false) false

-- what a call that is handed an id answers: it refuses with 1 on tables that are not sized, and with 4 an id that is neither EMPTY nor live; of EMPTY it
-- answers as with no refusal, and of a live id `live`
abbrev pub of_id : {A : Type 0} → Tables → ℕ → (ℕ → A) → A → A
of_id t id refuse live = pick (fits t) (pick (eqb id 0) (refuse 0) (pick (live_of (cap t) (W t) id) live (refuse 4))) (refuse 1)

-- refusals 1 and 4, and no other
unfoldable pub there_no : Tables → ℕ → ℕ
there_no t id = of_id t id (λ k. k) 0

-- refusal 10: the node in slot s already has 1,000,000 holds
unfoldable pub full_of : Words → ℕ → Bool
full_of W s = leb most_holds (W s holds)

-- the free slots: capacity - 1 - live
abbrev pub free_slots : State → ℕ
free_slots a = a.capacity - 1 - live_in a

-- not refusal 11: there is one
unfoldable pub room_of : State → Bool
room_of a = ltb 0 (free_slots a)

-- ## A hold: the caller gets one hold on the node in slot s

unfoldable pub held_at : Tables → ℕ → Tables
held_at t s = tables_of t.arena (put_of t.nodes s holds (W t s holds + 1)) t.find

-- ## A fresh node

-- fresh slot: the last one freed, else the lowest never used
unfoldable pub fresh_slot : State → Words → ℕ
fresh_slot a W = pick (eqb a.freed 0) a.next (W (a.freed - 1) entry)

abbrev pub fresh_in : Tables → ℕ
fresh_in t = fresh_slot t.arena (W t)

-- the state once a slot is given out, where `more` counts one more
abbrev pub given_by : (ℕ → ℕ) → State → State
given_by more a = record { capacity = a.capacity; next = pick (eqb a.freed 0) (more a.next) a.next; freed = a.freed - 1 }

-- the state once it is given out
unfoldable pub slot_given : State → State
slot_given a = given_by (λ x. x + 1) a

-- its facts in order: its id, value and height; the sum and the hash that it keeps beside, with the spare word between them, which is 0; h holds and p
-- places; it has no number on the stack of freed slots
unfoldable pub fresh_facts : ℕ → ℕ → ℕ → ℕ → ℕ → ℕ → ℕ → List ℕ
fresh_facts id v up sum k h p = id ∷ v ∷ up ∷ sum ∷ 0 ∷ k ∷ h ∷ p ∷ 0 ∷ []

-- eight EMPTY children
unfoldable pub empties : List ℕ
empties = 0 ∷ 0 ∷ 0 ∷ 0 ∷ 0 ∷ 0 ∷ 0 ∷ 0 ∷ []

-- its slot stands in the first empty cell from the home of its hash on
unfoldable pub named : Tables → ℕ → ℕ → List ℕ
named t k s = insert_at (λ x. false) t.find (home_in (cap t) k) s

-- the node of id, with the children ks, the stored value v and the height up, and beside these the sum and the hash k; h holds and q places
unfoldable pub fresh_node : Tables → ℕ → List ℕ → ℕ → ℕ → ℕ → ℕ → ℕ → ℕ → Out
fresh_node t id ks v up sum k h q =
    let s = fresh_in t in
    said 0 id (tables_of (slot_given t.arena) (written t.nodes s ks (fresh_facts id v up sum k h q)) (named t k s))

-- a fresh leaf of the value x, and a fresh branch of the children ks, of which each has its place already
unfoldable pub leaf_anew : Tables → ℕ → ℕ → ℕ → Out
leaf_anew t x h q =
    let s = fresh_in t in
    fresh_node t (leaf_id s (generation_of (W t s own))) empties x 0 0 (leaf_hash x) h q

unfoldable pub branch_anew : ℕ → Tables → List ℕ → ℕ → ℕ → Out
branch_anew n t ks h q =
    let s = fresh_in t in
    fresh_node t (branch_id ks s (generation_of (W t s own))) ks (value_for n (W t) ks) (height_for n (W t) ks) (sum_for n (W t) ks) (kids_hash ks) h q

-- ## Intern leaf: the live node of that value if there is one, else a fresh one; the caller gets one hold

-- a slot below k of which p is true, or 0 for none (slot 0 has no node)
unfoldable pub find_slot : (ℕ → Bool) → ℕ → ℕ
find_slot p zero = 0
find_slot p (suc k) = let on = find_slot p k in pick (p k) k on

-- slot s has the leaf of value v. (An own word with the leaf flag is the id of a live leaf)
unfoldable pub leaf_in : Tables → ℕ → ℕ → Bool
leaf_in t v s = pick (is_leaf (W t s own)) (eqb (W t s value) v) false

unfoldable pub leaf_slot : Tables → ℕ → ℕ
leaf_slot t v = find_slot (leaf_in t v) (cap t)

-- refusals 1, 6, 10 (there is one) and 11 (there is none), the lowest that applies
unfoldable pub intern_leaf_no : Tables → ℕ → ℕ
intern_leaf_no t v =
    pick (fits t)
    (pick (eqb v 0) 6
    (pick (eqb (leaf_slot t v) 0) (pick (room_of t.arena) 0 11) (pick (full_of (W t) (leaf_slot t v)) 10 0)))
    1

-- a fresh leaf, with one hold
unfoldable pub leaf_made : Tables → ℕ → Out
leaf_made t v = leaf_anew t v 1 0

unfoldable pub intern_leaf_of : Tables → ℕ → Out
intern_leaf_of t v =
    pick (eqb (intern_leaf_no t v) 0)
    (pick (eqb (leaf_slot t v) 0) (leaf_made t v) (said 0 (W t (leaf_slot t v) own) (held_at t (leaf_slot t v))))
    (refused (intern_leaf_no t v) t)

-- ## Release: takes one hold. A node with both counts 0 is recycled, and then its eight children are released in octant order, each
-- completely before the next (a child's place ends, as the hold did)

-- recycled: value 0, both counts 0, generation one higher, or 0 where that would reach 0x7FFE; it keeps its number on the stack of freed slots
unfoldable pub dead_facts : ℕ → ℕ → List ℕ
dead_facts o number = next_generation (generation_of o) * 2 ^ 32 ∷ 0 ∷ 0 ∷ 0 ∷ 0 ∷ 0 ∷ 0 ∷ 0 ∷ number ∷ []

-- children EMPTY; its slot is on top of the freed ones, and no longer in the finding table
unfoldable pub recycled : Tables → ℕ → Tables
recycled t s =
    let top = t.arena.freed in
    tables_of (record { capacity = t.arena.capacity; next = t.arena.next; freed = top + 1 })
    (put_of (written t.nodes s empties (dead_facts (W t s own) top)) top entry s) (remove (home_at (cap t) (W t)) t.find s)

-- one less in a count f, holds or places, of the node of id
unfoldable pub less_of : ℕ → Tables → ℕ → Tables
less_of f t id = tables_of t.arena (put_of t.nodes (slot id) f (W t (slot id) f - 1)) t.find

-- both counts are 0
unfoldable pub unused_of : Tables → ℕ → Bool
unused_of t id = pick (eqb (W t (slot id) holds) 0) (eqb (W t (slot id) places) 0) false

-- one after the other
unfoldable pub each : {A : Type 0} → (A → ℕ → A) → A → List ℕ → A
each g t [] = t
each g t (y ∷ ys) = each g (g t y) ys

-- one of a count is taken, k levels down at most: no node is taller than k - 1. EMPTY: nothing
unfoldable pub takes : ℕ → ℕ → Tables → ℕ → Tables
takes zero f t id = t
takes (suc k) f t id =
    let less = less_of f t id in
    let gone = each (takes k places) (recycled less (slot id)) (kids_of kid_words (W less) (slot id)) in
    let left = pick (unused_of less id) gone less in
    pick (eqb id 0) t left

-- refusals 1, 4, 5
unfoldable pub release_no : Tables → ℕ → ℕ
release_no t id = of_id t id (λ k. k) (pick (eqb (W t (slot id) holds) 0) 5 0)

-- in an arena whose nodes are at most so tall
unfoldable pub release_of : ℕ → Tables → ℕ → Out
release_of tallest t id = pick (eqb (release_no t id) 0) (did 0 (takes (suc tallest) holds t id)) (did (release_no t id) t)

-- ## Hold: EMPTY is accepted and changes nothing. Refusals 1, 4, 10

unfoldable pub hold_no : Tables → ℕ → ℕ
hold_no t id = of_id t id (λ k. k) (pick (full_of (W t) (slot id)) 10 0)

unfoldable pub hold_of : Tables → ℕ → Out
hold_of t id = pick (eqb (hold_no t id) 0) (did 0 (pick (eqb id 0) t (held_at t (slot id)))) (did (hold_no t id) t)

-- ## Counts: holds and places of a live node, 0 and 0 of EMPTY. Refusals 1, 4

pub record Numbers : Type 0 where
  pub no : ℕ
  pub holds : ℕ
  pub places : ℕ

abbrev pub numbers : ℕ → ℕ → ℕ → Numbers
numbers x h p = record { no = x; holds = h; places = p }

unfoldable pub counts_of : Tables → ℕ → Numbers
counts_of t id = of_id t id (λ k. numbers k 0 0) (numbers 0 (W t (slot id) holds) (W t (slot id) places))

abbrev pub counted : Counted → Numbers
counted r = numbers r.no r.holds r.places

-- what the code answers, so written
abbrev pub counted_as : Result Counts Refusal → Numbers
counted_as (Ok r) = numbers 0 r.holds r.places
counted_as (Err refusal) = numbers (number refusal) 0 0

-- ## A fresh arena clears every slot, with generation 0 and none given out. Refusal 1

abbrev pub fresh : ℕ → State
fresh c = record { capacity = c; next = 1; freed = 0 }

unfoldable pub fresh_of : ℕ → List ℕ → List ℕ → List ℕ → Out
fresh_of c k f e =
    pick (fit_of c (length k) (length f) (length e))
    (did 0 (tables (fresh c) (replicate (length k) 0) (replicate (length f) 0) (replicate (length e) 0)))
    (did 1 (tables (fresh c) k f e))

-- ## Intern branch: the live node of those eight ids if there is one, else a fresh one; the caller gets one hold. It uses up one of the
-- caller's holds for each child place that isn't EMPTY. On a hit those holds just end; on a fresh node they become places

-- is p true of each?
unfoldable pub all_of : (ℕ → Bool) → List ℕ → Bool
all_of p [] = true
all_of p (k ∷ ks) = let rest = all_of p ks in pick (p k) rest false

-- EMPTY or live
unfoldable pub live_or_empty : ℕ → Words → ℕ → Bool
live_or_empty c W k = pick (eqb k 0) true (live_of c W k)

-- EMPTY, or it has the holds that the call would take, one for each place of it among ks
unfoldable pub enough_for : Words → List ℕ → ℕ → Bool
enough_for W ks k = pick (eqb k 0) true (leb (occ k ks) (W (slot k) holds))

-- not refusal 4: each id is EMPTY or live
abbrev pub all_live : ℕ → Words → List ℕ → Bool
all_live c W ks = all_of (live_or_empty c W) ks

-- not refusal 5: no fewer holds than the call would take
abbrev pub enough : Words → List ℕ → Bool
enough W ks = all_of (enough_for W ks) ks

-- refusal 7: eight EMPTY children
unfoldable pub none_of : List ℕ → Bool
none_of ks = all_of (λ k. eqb k 0) ks

-- slot s has the live node of the eight ids
unfoldable pub branch_in : Tables → List ℕ → ℕ → Bool
branch_in t ks s = pick (leb floor (W t s own)) (agree (W t) s 0 ks) false

unfoldable pub branch_slot : Tables → List ℕ → ℕ
branch_slot t ks = find_slot (branch_in t ks) (cap t)

-- refusals 1, 4, 5, 7, 8 (taller than allowed), 10 (there is one) and 11 (there is none), the lowest that applies
unfoldable pub intern_branch_no : ℕ → ℕ → Tables → List ℕ → ℕ
intern_branch_no n tallest t ks =
    pick (fits t)
    (pick (all_live (cap t) (W t) ks)
    (pick (enough (W t) ks)
    (pick (none_of ks) 7
    (pick (leb (height_for n (W t) ks) tallest)
    (pick (eqb (branch_slot t ks) 0) (pick (room_of t.arena) 0 11) (pick (full_of (W t) (branch_slot t ks)) 10 0))
    8))
    5)
    4)
    1

-- a hold on the node of k ends; EMPTY: nothing
unfoldable pub unheld_kid : Nodes → ℕ → Nodes
unheld_kid x k = pick (eqb k 0) x (put_of x (slot k) holds (word_of x (slot k) holds - 1))

-- the holds end
abbrev pub unheld : Nodes → List ℕ → Nodes
unheld x ks = each unheld_kid x ks

-- one place more for the node of k; EMPTY: nothing
unfoldable pub placed_kid : Nodes → ℕ → Nodes
placed_kid x k = pick (eqb k 0) x (put_of x (slot k) places (word_of x (slot k) places + 1))

-- the holds become places: each child has its place, and the holds end
abbrev pub placed : Nodes → List ℕ → Nodes
placed x ks = unheld (each placed_kid x ks) ks

-- a fresh branch, with one hold
unfoldable pub branch_made : ℕ → Tables → List ℕ → Out
branch_made n t ks = branch_anew n (tables_of t.arena (placed t.nodes ks) t.find) ks 1 0

unfoldable pub intern_branch_of : ℕ → ℕ → Tables → List ℕ → Out
intern_branch_of n tallest t ks =
    pick (eqb (intern_branch_no n tallest t ks) 0)
    (pick (eqb (branch_slot t ks) 0) (branch_made n t ks)
    (said 0 (W t (branch_slot t ks) own) (held_at (tables_of t.arena (unheld t.nodes ks) t.find) (branch_slot t ks))))
    (refused (intern_branch_no n tallest t ks) t)
