use Rattle.std.proofs.Common.{◌≡◌, Bool, true, false, List, ℕ, ◌≤◌, ◌<◌, ap, ◌∙◌, eqb, arith, refl}
use Rattle.std.proofs.lemmas.Result.{err_from_is_err_and}
use borrow.Author.Tests.{eq-eqb, le-leb, lt-leb, ne_eqb}
use Rattle.basics.specs.Pick.{pick}
use Rattle.basics.proofs.Refusals.{number_some}
use Rattle.nodes.specs.Words.{Nodes, nodes, fact_of, holds, slot, word_of}
use Rattle.arena.specs.Calls.{did, full_of, held_at, hold_no, hold_of, there_no}
use Rattle.arena.specs.Models.{bumped}
use Rattle.arena.specs.Tables.{State, Tables, W, tables, tables_of}
use Rattle.arena.proofs.Fits.{there_law}
use Rattle.arena.proofs.Seeing.{named_before}
use Rattle.arena.proofs.Places.{bumped_is}
use Rattle.arena_hold.proofs.grant.Goals as goal

module _ (a : State) (k f e : List ℕ) (id x : ℕ) (ex : x ≡ there_no (tables a k f e) id) where
  abbrev t : Tables
  t = tables a k f e

  number : hold_no t id ≡ pick (eqb x 0) (pick (eqb id 0) 0 (pick (full_of (W t) (slot id)) 10 0)) x
  unfolding hold_no
  number = there_law t id x (λ k. k) (pick (full_of (W t) (slot id)) 10 0) ex

  refusal : (x ≡ 0 → ⊥) → did x t ≡ hold_of t id
  unfolding hold_of
  refusal d = rw (number, ne_eqb x 0 d, ne_eqb x 0 d)

  module _ (z : x ≡ 0) where
    nothing : id ≡ 0 → did 0 t ≡ hold_of t id
    unfolding hold_of
    nothing n = rw (number, eq-eqb x 0 z, eq-eqb id 0 n)

    module _ (s h : ℕ) (d : id ≡ 0 → ⊥) (es : s ≡ slot id) (eh : h ≡ fact_of f s holds) where
      held_as : (b : Bool) → full_of (W t) (slot id) ≡ b → hold_no t id ≡ pick b 10 0
      held_as b eb = number ∙ rw (eq-eqb x 0 z, ne_eqb id 0 d, eb)

      here : h ≡ fact_of f (slot id) holds
      here = eh ∙ ap (λ (y : ℕ). fact_of f y holds) es

      full : 1000000 ≤ h → did 10 t ≡ hold_of t id
      unfolding full_of hold_of word_of
      full l = let q = here in rw (held_as true (le-leb 1000000 (fact_of f (slot id) holds) (omega arith)))

      -- the code's sum, which runs over at 2^32, is the definition's: a node that takes one more hold has fewer than 1,000,000
      held : (m : List ℕ) → h < 1000000 → m ≡ bumped holds f id → did 0 (tables a k m e) ≡ hold_of t id
      unfolding full_of held_at hold_of word_of
      held m l em =
          let o = here in
          let w = ap (nodes k) em ∙ (rw (ne_eqb id 0 d) at (bumped_is holds (nodes k f) id (omega arith) (λ z. omega arith))) in
          rw (held_as false (lt-leb 1000000 (fact_of f (slot id) holds) (omega arith)), ne_eqb id 0 d) (ap (λ (y : Nodes). did 0 (tables_of a y e)) w)

pub returns-in_err-may_name : goal.returns-in_err-may_name
returns-in_err-may_name c =
    let p = err_from_is_err_and c.from_residual.result c.from_residual.ensures.1 in
    let q = number_some c.in_err-may_name.field-0.0 in
    rw (p.1, p.2) (refusal _ _ _ _ _ _ (named_before c.seen.result _ _ _ _ c.seen.ensures _ _ c.in_err-may_name.ensures) (λ z. omega arith))

pub returns-then-id : goal.returns-then-id
returns-then-id c = nothing _ _ _ _ _ 0 (named_before c.seen.result _ _ _ _ c.seen.ensures _ _ c.in_ok-may_name.ensures) refl c.if-id.true

pub returns-then-fact-ge-MOST_HOLDS : goal.returns-then-fact-ge-MOST_HOLDS
returns-then-fact-ge-MOST_HOLDS c = full _ _ _ _ _ 0 (named_before c.seen.result _ _ _ _ c.seen.ensures _ _ c.in_ok-may_name.ensures) refl _ _ c.if-id.false c.slot_of-s.ensures c.fact.ensures c.if-fact-ge-MOST_HOLDS.true

pub returns : goal.returns
returns c = held _ _ _ _ _ 0 (named_before c.seen.result _ _ _ _ c.seen.ensures _ _ c.in_ok-may_name.ensures) refl _ _ c.if-id.false c.slot_of-s.ensures c.fact.ensures _ (omega arith) c.bump.ensures
