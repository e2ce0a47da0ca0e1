use mathlib.Core.Path.{◌≡◌, refl, ap, ap₂, ◌∙◌}
use mathlib.Core.List.{List, [], ◌∷◌}
use Prim.Native.Nat.{ℕ, ◌%◌, ◌^◌}
use lib.ListN.{set}
use Rattle.ids.specs.Ids.{generation_of, new_leaf}
use Rattle.nodes.specs.Words.{fact_of, facts_put, word_of, own}
use Rattle.nodes.proofs.Access.{nodes_path}
use Rattle.arena.specs.Calls.{fresh_facts, fresh_slot, given_by, said}
use Rattle.arena.specs.Models.{more_of, leaf_fresh}
use Rattle.arena.specs.Tables.{state_in, tables}
use Rattle.arena.proofs.Outs.{said_path, tables_path}
use Rattle.new_node.proofs.fresh_leaf.Goals as goal

leaf_done : (c slots : ℕ) (f e : List ℕ) (at v kh h q s w id r : ℕ) (f' e' : List ℕ) → s ≡ fresh_slot (state_in c slots) (fact_of f) → w ≡ fact_of f s own → id ≡ new_leaf (s % 2 ^ 32) (generation_of w)
    → f' ≡ facts_put f s (id ∷ v ∷ 0 ∷ 0 ∷ 0 ∷ kh ∷ h ∷ q ∷ 0 ∷ []) → e' ≡ set e at (s % 65536) → ((c : ℕ) → state_in c r ≡ given_by more_of (state_in c slots))
    → (k : List ℕ) → said 0 id (tables (state_in c r) k f' e') ≡ leaf_fresh (tables (state_in c slots) k f e) v kh h q at
unfolding leaf_fresh fresh_slot word_of fresh_facts
leaf_done c slots f e at v kh h q s w id r f' e' es ew ei ef ee eb k =
    let spot = fresh_slot (state_in c slots) (fact_of f) in
    let i : id ≡ new_leaf (spot % 2 ^ 32) (generation_of (fact_of f spot own)) =
    ei ∙ ap (λ (x : ℕ). new_leaf (s % 2 ^ 32) (generation_of x)) ew ∙ ap (λ (x : ℕ). new_leaf (x % 2 ^ 32) (generation_of (fact_of f x own))) es in
    said_path _ _ _ _ _ _ refl i
    (tables_path _ _ _ _ _ _ (eb c)
    (nodes_path _ _ _ _ refl (ef ∙ ap₂ (λ (x y : ℕ). facts_put f x (y ∷ v ∷ 0 ∷ 0 ∷ 0 ∷ kh ∷ h ∷ q ∷ 0 ∷ [])) es i))
    (ee ∙ ap (λ (x : ℕ). set e at (x % 65536)) es))

pub returns : goal.returns
returns c =
    rw c.done.ensures
    (leaf_done _ _ _ _ _ _ _ _ _ _ _ _ _ _ _ c.fresh_slot-s.ensures c.own.ensures c.leaf_id-id.ensures c.put_facts.ensures c.put_cell.ensures c.give.ensures)
