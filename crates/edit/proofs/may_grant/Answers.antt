use Rattle.std.proofs.Common.{◌≡◌, ℕ, ◌<◌, ◌≤◌, List, ap, ◌∙◌}
use native.Mathlib.Omega.{arith}
use borrow.Author.Tests.{eq-eqb, ne_eqb, le-leb, lt-leb}
use Rattle.nodes.specs.Words.{fact_of, word_of, nodes, holds, slot}
use Rattle.arena.specs.Calls.{full_of, free_slots}
use Rattle.arena.specs.Tables.{State, tables}
use Rattle.edit.specs.Models.{grant_by}
use Rattle.edit_plan.specs.declared.Plan.{Plan}
use Rattle.edit.proofs.may_grant.Goals.{else-p-via-then-p+else-fact-ge-MOST_HOLDS, else-p-via-else-p}
use Rattle.edit.proofs.may_grant.Goals as goal

module _ (a : State) (k f e : List ℕ) (p : Plan) where
  short : (r : ℕ) → (p.new ≡ 0 → ⊥) → r ≡ free_slots a → r < p.new → 11 ≡ grant_by (tables a k f e) p
  unfolding grant_by
  short r z er h = rw (ne_eqb p.new 0 z, lt-leb p.new (free_slots a) (omega arith))

  room : (r : ℕ) → (p.new ≡ 0 → ⊥) → r ≡ free_slots a → p.new ≤ r → 0 ≡ grant_by (tables a k f e) p
  unfolding grant_by
  room r z er h = rw (ne_eqb p.new 0 z, le-leb p.new (free_slots a) (omega arith))

  nothing : p.new ≡ 0 → p.id ≡ 0 → 0 ≡ grant_by (tables a k f e) p
  unfolding grant_by
  nothing z q = rw (eq-eqb p.new 0 z, eq-eqb p.id 0 q)

  module _ (z : p.new ≡ 0) (q : p.id ≡ 0 → ⊥) (s w : ℕ) (es : s ≡ slot p.id) (ew : w ≡ fact_of f s holds) where
    word : w ≡ word_of (nodes k f) (slot p.id) holds
    unfolding word_of
    word = ew ∙ ap (λ (x : ℕ). fact_of f x holds) es

    full : 1000000 ≤ w → 10 ≡ grant_by (tables a k f e) p
    unfolding grant_by full_of
    full h = rw (eq-eqb p.new 0 z, ne_eqb p.id 0 q, le-leb 1000000 (word_of (nodes k f) (slot p.id) holds) (omega (arith, word)))

    held : w < 1000000 → 0 ≡ grant_by (tables a k f e) p
    unfolding grant_by full_of
    held h = rw (eq-eqb p.new 0 z, ne_eqb p.id 0 q, lt-leb 1000000 (word_of (nodes k f) (slot p.id) holds) (omega (arith, word)))

pub returns-then-free_slots-p : goal.returns-then-free_slots-p
returns-then-free_slots-p c = search short

pub returns-then-p-ne0 : goal.returns-then-p-ne0
returns-then-p-ne0 c = search room

pub returns-then-fact-ge-MOST_HOLDS : goal.returns-then-fact-ge-MOST_HOLDS
returns-then-fact-ge-MOST_HOLDS c = search full

pub returns : goal.returns
returns c =
    elim c.else-p.branch [
      | else-p-via-then-p+else-fact-ge-MOST_HOLDS w ↦ held _ _ _ _ _ c.if-p-ne0.false w.if-p.true _ _ w.slot_of.ensures w.fact.ensures w.if-fact-ge-MOST_HOLDS.false
      | else-p-via-else-p w ↦ nothing _ _ _ _ _ c.if-p-ne0.false w.if-p.false
    ]
