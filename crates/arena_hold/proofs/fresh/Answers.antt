use Rattle.std.proofs.Common.{◌≡◌, Bool, true, false, List, ℕ, length, rules, refl, sym, ap, ◌∙◌}
use Rattle.std.specs.Prelude.{replicate}
use Rattle.nodes.proofs.Access.{nodes_path}
use Rattle.arena.specs.Calls.{did, fit_of, fresh, fresh_of}
use Rattle.arena.specs.Tables.{State, next_in, freed_in, state_in, tables}
use Rattle.arena.proofs.Outs.{said_path, state_path, tables_path}
use Rattle.arena_hold.proofs.fresh.Goals as goal

module _ (c : ℕ) (k f e : List ℕ) (r : Bool) (slots : ℕ) (er : r ≡ fit_of c (length k) (length f) (length e)) (es : (next_in slots ≡ 1) × (freed_in slots ≡ 0)) where
  state : state_in c slots ≡ fresh c
  state = state_path _ _ _ _ _ _ refl es.0 es.1

  unsized : r ≡ false → did 1 (tables (state_in c slots) k f e) ≡ fresh_of c k f e
  unfolding fresh_of
  unsized z = rw (sym er ∙ z) (ap (λ (a : State). did 1 (tables a k f e)) state)

  sized : (k' f' e' : List ℕ) → r ≡ true → k' ≡ replicate (length k) 0 → f' ≡ replicate (length f) 0 → e' ≡ replicate (length e) 0
      → did 0 (tables (state_in c slots) k' f' e') ≡ fresh_of c k f e
  unfolding fresh_of
  sized k' f' e' z ek ef ee = rw (sym er ∙ z) (said_path _ _ _ _ _ _ refl refl (tables_path _ _ _ _ _ _ state (nodes_path _ _ _ _ ek ef) ee))

pub returns-then-not-fit : goal.returns-then-not-fit
returns-then-not-fit c = rw c.refused.ensures (unsized _ _ _ _ _ _ c.fit.ensures c.slots_of-slots.ensures c.if-not-fit.true)

pub returns : goal.returns
returns c =
    rw c.done.ensures
    (sized _ _ _ _ _ _ c.fit.ensures c.slots_of-slots.ensures _ _ _ c.if-not-fit.false (c.fill.ensures.after (λ y e. search rules))
    (c.fill-2.ensures.after (λ y e. search rules)) (c.fill-3.ensures.after (λ y e. search rules)))
