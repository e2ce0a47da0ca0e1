use mathlib.Core.Path.{◌≡◌, refl, ap, ap₂, ◌∙◌}
use mathlib.Core.List.{List, [], ◌∷◌}
use Prim.Native.Nat.{ℕ, ◌%◌, ◌^◌}
use lib.ListN.{set}
use Rattle.ids.specs.Ids.{generation_of, new_branch}
use Rattle.nodes.specs.Words.{fact_of, facts_put, row_put, word_of, own, written}
use Rattle.nodes.proofs.Access.{nodes_path}
use Rattle.arena.specs.Calls.{fresh_facts, fresh_slot, given_by, said}
use Rattle.arena.specs.Models.{more_of, fresh_at, branch_with}
use Rattle.arena.specs.Tables.{state_in, tables}
use Rattle.arena.proofs.Outs.{said_path, tables_path}
use Rattle.new_node.proofs.fresh_branch.Goals as goal

branch_done : (c slots : ℕ) (k f e ks : List ℕ) (ty ma at v up sm kh h q s w id r : ℕ) (k' f' e' : List ℕ) → s ≡ fresh_slot (state_in c slots) (fact_of f) → w ≡ fact_of f s own
    → id ≡ new_branch (s % 2 ^ 32) (generation_of w) ty ma → k' ≡ row_put 8 k s ks → f' ≡ facts_put f s (id ∷ v ∷ up ∷ sm ∷ 0 ∷ kh ∷ h ∷ q ∷ 0 ∷ [])
    → e' ≡ set e at (s % 65536) → ((c : ℕ) → state_in c r ≡ given_by more_of (state_in c slots))
    → said 0 id (tables (state_in c r) k' f' e') ≡ branch_with (tables (state_in c slots) k f e) ks ty ma v up sm kh h q at
unfolding branch_with fresh_at fresh_slot word_of fresh_facts written
branch_done c slots k f e ks ty ma at v up sm kh h q s w id r k' f' e' es ew ei ek ef ee eb =
    let spot = fresh_slot (state_in c slots) (fact_of f) in
    let i : id ≡ new_branch (spot % 2 ^ 32) (generation_of (fact_of f spot own)) ty ma =
    ei ∙ ap (λ (x : ℕ). new_branch (s % 2 ^ 32) (generation_of x) ty ma) ew ∙ ap (λ (x : ℕ). new_branch (x % 2 ^ 32) (generation_of (fact_of f x own)) ty ma) es in
    said_path _ _ _ _ _ _ refl i
    (tables_path _ _ _ _ _ _ (eb c)
    (nodes_path _ _ _ _ (ek ∙ ap (λ (x : ℕ). row_put 8 k x ks) es) (ef ∙ ap₂ (λ (x y : ℕ). facts_put f x (y ∷ v ∷ up ∷ sm ∷ 0 ∷ kh ∷ h ∷ q ∷ 0 ∷ [])) es i))
    (ee ∙ ap (λ (x : ℕ). set e at (x % 65536)) es))

pub returns : goal.returns
returns c =
    rw c.done.ensures
    (branch_done _ _ _ _ _ _ _ _ _ _ _ _ _ _ _ _ _ _ _ _ _ _ c.fresh_slot-s.ensures c.own.ensures c.branch_with-id.ensures c.put_children.ensures c.put_facts.ensures
    c.put_cell.ensures c.give.ensures)
