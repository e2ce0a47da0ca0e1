-- The definitions can be met, and they compute: two crews enter two changes from EMPTY in a fresh arena, in both orders, and end in one id, or in another where the first end was
-- let go before.
use mathlib.Core.Path.{◌≡◌, refl, ap}
use mathlib.Core.Logic.{◌≢◌, inl}
use mathlib.Core.Bool.{true}
use mathlib.Core.List.Permᴰ
use mathlib.Core.List.{List, [], ◌∷◌}
use Prim.Native.Nat.{ℕ, ◌<◌}
use native.Mathlib.Decide.{ℕ_discrete, dec_le}
use native.Mathlib.Omega.{arith}
use lib.ListN.{length, replicate}
use Rattle.basics.specs.Limits.{deepest, cube_kids}
use Rattle.basics.specs.Sums.{sum_to}
use Rattle.ids.specs.Ids.{leaf_flag, index_of, is_leaf, generation_of, pack}
use Rattle.paths.specs.Paths.{place, inside, whole, octant}
use Rattle.nodes.specs.Words.{row_in, row_at, row_set, row_from, row_put, kid_of, fact_of, word_of, fact_put, put_of, facts_put, written, slot, floor}
use Rattle.nodes.specs.Values.{value_at, height_at, max_to}
use Rattle.nodes.specs.Tally.{one_if, tab_from, kids_of}
use Rattle.find_hash.specs.Hash.{factor, term, kids_hash, leaf_hash, home_in}
use Rattle.find.specs.Cells.{stops, probe_n, probe, insert_at, shift_n, shift, erase, remove}
use Rattle.find.specs.Content.{agree, home_at}
use Rattle.tree.specs.Tree.{kind, look}
use Rattle.tree.specs.Anew.{part, replace}
use Rattle.tree.specs.Cells.{path_by, At}
use Rattle.arena.specs.Node.{bits_of, kid_mask, kid_types, leaf_id, branch_id, next_generation, sum_for, value_for, height_for}
use Rattle.arena.specs.Tables.{live_in, Tables}
use Rattle.arena.specs.Calls.{Out, fresh_of, fit_of, live_of, full_of, held_at, fresh_slot, slot_given, fresh_facts, empties, named, find_slot, leaf_in, leaf_slot, dead_facts, recycled, less_of, unused_of, each, takes, release_no, release_of, all_of, live_or_empty, branch_in, branch_slot, placed_kid, fresh_node, leaf_anew, branch_anew}
use Rattle.arena.proofs.Holding.{fresh_well}
use Rattle.ledger.specs.Ledger.{holds_on}
use Rattle.read_cell.specs.Calls.{look_no}
use Rattle.edit.specs.Edit.{words_of, one_leaf, need_of, cell_need, up_need, plan_of, result_of, owed, low_of, make_of, grant_no, granted, answer_of, cell_no, edit_cell, edit_no, edit_of}
use Rattle.lists.specs.Changes as lists
use Rattle.lists.specs.Runs.{ends, edits, releases, begins}
use Rattle.promises.specs.Promises.{same_at}
use Rattle.promises.specs.Runs.{Change, last_only, accepted, Crew, OneEnd}
use Rattle.promises.proofs.Lists.{empty_root, any_order, two_crews}

-- ## The calls

abbrev zeros : ℕ → List ℕ
zeros n = replicate n 0

-- a fresh arena of 5 slots
abbrev t₀ : Tables
t₀ = (fresh_of 5 (zeros 40) (zeros 55) (zeros 25)).after

-- the first crew: two edits, and its passing root released
abbrev o₁ : Out
o₁ = edit_of t₀ 0 1 (place 0 0 0) 5

abbrev o₂ : Out
o₂ = edit_of o₁.after o₁.id 1 (place 1 0 0) 7

abbrev t₁ : Tables
t₁ = (release_of deepest o₂.after o₁.id).after

-- the second crew, in the other order
abbrev o₃ : Out
o₃ = edit_of t₁ 0 1 (place 1 0 0) 7

abbrev o₄ : Out
o₄ = edit_of o₃.after o₃.id 1 (place 0 0 0) 5

abbrev t₂ : Tables
t₂ = (release_of deepest o₄.after o₃.id).after

-- the same, but the first crew's end was let go before
abbrev u₁ : Tables
u₁ = (release_of deepest t₁ o₂.id).after

abbrev o₅ : Out
o₅ = edit_of u₁ 0 1 (place 1 0 0) 7

abbrev o₆ : Out
o₆ = edit_of o₅.after o₅.id 1 (place 0 0 0) 5

record Computed : Type 0 where
  -- the tables are sized
  sized : fit_of 5 (length (zeros 40)) (length (zeros 55)) (length (zeros 25)) ≡ true
  -- the edits are accepted
  no₁ : edit_no t₀ 0 1 (place 0 0 0) 5 ≡ 0
  no₂ : edit_no o₁.after o₁.id 1 (place 1 0 0) 7 ≡ 0
  no₃ : edit_no t₁ 0 1 (place 1 0 0) 7 ≡ 0
  no₄ : edit_no o₃.after o₃.id 1 (place 0 0 0) 5 ≡ 0
  no₅ : edit_no u₁ 0 1 (place 1 0 0) 7 ≡ 0
  no₆ : edit_no o₅.after o₅.id 1 (place 0 0 0) 5 ≡ 0
  -- the first passing root is gone, and the second crew's is in its slot
  gone : holds_on t₁ o₁.id ≡ 0
  again : slot o₃.id ≡ slot o₁.id
  -- the ends
  end₂ : o₂.id ≡ 0x0181800000000004
  end₄ : o₄.id ≡ 0x0181800000000004
  end₆ : o₆.id ≡ 0x0181800100000002

computed : Computed
unfolding sum_to index_of is_leaf leaf_flag generation_of pack inside whole octant row_in row_at row_set row_from row_put kid_of fact_of word_of fact_put put_of facts_put written slot floor value_at height_at max_to one_if tab_from kids_of factor term kids_hash leaf_hash home_in stops probe_n probe insert_at shift_n shift erase remove agree home_at kind look dec_le ℕ_discrete part replace path_by bits_of kid_mask kid_types leaf_id branch_id next_generation sum_for value_for height_for live_in fresh_of fit_of live_of full_of held_at fresh_slot slot_given fresh_facts empties named find_slot leaf_in leaf_slot dead_facts recycled less_of unused_of each takes release_no release_of all_of live_or_empty branch_in branch_slot placed_kid look_no words_of one_leaf need_of cell_need up_need plan_of result_of fresh_node leaf_anew branch_anew owed low_of make_of grant_no granted answer_of cell_no edit_cell edit_no edit_of holds_on
computed = record {
  sized = refl;
  no₁ = refl;
  no₂ = refl;
  no₃ = refl;
  no₄ = refl;
  no₅ = refl;
  no₆ = refl;
  gone = refl;
  again = refl;
  end₂ = refl;
  end₄ = refl;
  end₆ = refl;
}

-- ## The two crews

abbrev at : (x : ℕ) → x < 2 → At 1
at x h = record { x = x; y = 0; z = 0; in_x = h; in_y = omega arith; in_z = omega arith }

abbrev change : (x : ℕ) → x < 2 → ℕ → Change 1
change x h v = record { cell = at x h; value = v }

abbrev five : Change 1
five = change 0 (omega arith) 5

abbrev seven : Change 1
seven = change 1 (omega arith) 7

first : Crew 1 t₀ 0 (five ∷ seven ∷ []) t₁ o₂.id
first = begins five (accepted {v = 5} (omega arith) computed.no₁) (edits seven (accepted {v = 7} (omega arith) computed.no₂) (releases [] o₁.id [] ends))

second : Crew 1 t₁ 0 (seven ∷ five ∷ []) t₂ o₄.id
second = begins seven (accepted {v = 7} (omega arith) computed.no₃) (edits five (accepted {v = 5} (omega arith) computed.no₄) (releases [] o₃.id [] ends))

third : Crew 1 u₁ 0 (seven ∷ five ∷ []) o₆.after o₆.id
third = begins seven (accepted {v = 7} (omega arith) computed.no₅) (edits five (accepted {v = 5} (omega arith) computed.no₆) ends)

-- The theorem gives the id that computing gives.
pub sample : OneEnd 1 t₀ 0 (five ∷ seven ∷ []) o₂.id o₄.id t₂
sample =
    any_order (omega arith) (two_crews (fresh_well cube_kids deepest 5 (zeros 40) (zeros 55) (zeros 25) computed.sized) (inl refl) (empty_root 1 t₀) first second)
    (((λ r. omega (arith, ap (λ (s : At 1). s.x) r)), tt), (tt, tt)) (Permᴰ.swap refl refl)

-- Where the first end is let go before the second crew starts, both lists are entered and the ids can differ.
pub needed : Crew 1 t₀ 0 (five ∷ seven ∷ []) t₁ o₂.id × Crew 1 u₁ 0 (seven ∷ five ∷ []) o₆.after o₆.id × (o₂.id ≢ o₆.id)
needed = (first, third, (λ e. omega (arith, e, computed.end₂, computed.end₆)))

-- ## Only the last values

pub lasts : last_only (five ∷ seven ∷ change 0 (omega arith) 9 ∷ []) ≡ seven ∷ change 0 (omega arith) 9 ∷ []
unfolding lists.last_only lists.names same_at
lasts = refl
