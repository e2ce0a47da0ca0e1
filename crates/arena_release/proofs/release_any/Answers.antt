use Rattle.std.proofs.Common.{refl}
use Rattle.std.proofs.lemmas.Result.{err_from_is_err_and}
use Rattle.basics.proofs.Refusals.{number_some}
use mathlib.Core.Path.{◌≡◌, sym, ap, ◌∙◌}
use mathlib.Core.List.{List}
use Prim.Native.Nat.{ℕ, ◌-◌, ◌≤◌, ◌<◌}
use native.Mathlib.Omega.{arith}
use lib.Dec.{eqb}
use borrow.Author.Tests.{eq-eqb, ne_eqb, lt-ltb, le-ltb}
use Rattle.basics.specs.Limits.{deepest}
use Rattle.basics.specs.Pick.{pick}
use Rattle.nodes.specs.Words.{fact_of, fact_put, holds, put_of, slot, word_of}
use Rattle.arena.specs.Calls.{did, less_of, release_no, there_no}
use Rattle.arena.specs.Models.{release_any, release_by}
use Rattle.arena.specs.Tables.{state_in, Tables, W, tables}
use Rattle.arena.proofs.Fits.{there_law}
use Rattle.arena.proofs.Seeing.{named_before}
use Rattle.arena_release.proofs.release_any.Goals as goal

module _ (c slots : ℕ) (k f e : List ℕ) (id x : ℕ) (ex : x ≡ there_no (tables (state_in c slots) k f e) id) where
  abbrev t : Tables
  t = tables (state_in c slots) k f e

  number : release_no t id ≡ pick (eqb x 0) (pick (eqb id 0) 0 (pick (eqb (W t (slot id) holds) 0) 5 0)) x
  unfolding release_no
  number = there_law t id x (λ k. k) (pick (eqb (W t (slot id) holds) 0) 5 0) ex

  refusal : (x ≡ 0 → ⊥) → did x t ≡ release_any deepest t id
  unfolding release_any
  refusal d = rw (number, ne_eqb x 0 d, ne_eqb x 0 d)

  module _ (z : x ≡ 0) where
    nothing : id ≡ 0 → did 0 t ≡ release_any deepest t id
    unfolding release_any
    nothing n = rw (number, eq-eqb x 0 z, eq-eqb id 0 n)

    module _ (s h : ℕ) (d : id ≡ 0 → ⊥) (es : s ≡ slot id) (eh : h ≡ fact_of f s holds) where
      here : h ≡ fact_of f (slot id) holds
      here = eh ∙ ap (λ (y : ℕ). fact_of f y holds) es

      unheld : (k' f' e' : List ℕ) → k' ≡ k → f' ≡ f → e' ≡ e → h ≡ 0 → did 5 (tables (state_in c slots) k' f' e') ≡ release_any deepest t id
      unfolding release_any word_of
      unheld k' f' e' ek ef ee n = rw (ek, ef, ee, number, eq-eqb x 0 z, ne_eqb id 0 d, eq-eqb (fact_of f (slot id) holds) 0 (sym here ∙ n))

      module _ (some : h ≡ 0 → ⊥) where
        accepted : release_no t id ≡ 0
        unfolding word_of
        accepted = number ∙ rw (eq-eqb x 0 z, ne_eqb id 0 d, ne_eqb (fact_of f (slot id) holds) 0 (λ y. some (here ∙ y)))

        left : (k' m f' e' : List ℕ) → k' ≡ k → m ≡ f → e' ≡ e → 1 < h → f' ≡ fact_put m s holds (h - 1) → did 0 (tables (state_in c slots) k' f' e') ≡ release_any deepest t id
        unfolding release_any less_of put_of word_of
        left k' m f' e' ek em ee l ef =
            let q = here in
            rw (ek, ee, accepted, ne_eqb id 0 d, lt-ltb 1 (fact_of f (slot id) holds) (omega arith))
            (ap (λ (y : List ℕ). did 0 (tables (state_in c slots) k y e)) (ef ∙ rw (em, es, q)))

        freed : (w : ℕ) (k' f' e' : List ℕ) → h ≤ 1 → tables (state_in c w) k' f' e' ≡ release_by deepest t id → did 0 (tables (state_in c w) k' f' e') ≡ release_any deepest t id
        unfolding release_any word_of
        freed w k' f' e' l eu =
            let q = here in
            rw (accepted, ne_eqb id 0 d, le-ltb 1 (fact_of f (slot id) holds) (omega arith)) (ap (did 0) eu)

pub returns-in_err-may_name : goal.returns-in_err-may_name
returns-in_err-may_name c =
    let p = err_from_is_err_and c.from_residual.result c.from_residual.ensures.1 in
    let q = number_some c.in_err-may_name.field-0.0 in
    rw (p.1, p.2) (refusal _ _ _ _ _ _ _ (named_before c.seen.result _ _ _ _ c.seen.ensures _ _ c.in_err-may_name.ensures) (λ z. omega arith))

pub returns-then-id : goal.returns-then-id
returns-then-id c = nothing _ _ _ _ _ _ 0 (named_before c.seen.result _ _ _ _ c.seen.ensures _ _ c.in_ok-may_name.ensures) refl c.if-id.true

pub returns-then-h-eq0 : goal.returns-then-h-eq0
returns-then-h-eq0 c = unheld _ _ _ _ _ _ 0 (named_before c.seen.result _ _ _ _ c.seen.ensures _ _ c.in_ok-may_name.ensures) refl _ _ c.if-id.false c.slot_of-s.ensures c.fact-h.ensures _ _ _ refl refl refl c.if-h-eq0.true

pub returns-then-h-gt-LAST_HOLD : goal.returns-then-h-gt-LAST_HOLD
returns-then-h-gt-LAST_HOLD c =
    left _ _ _ _ _ _ 0 (named_before c.seen.result _ _ _ _ c.seen.ensures _ _ c.in_ok-may_name.ensures) refl _ _ c.if-id.false c.slot_of-s.ensures c.fact-h.ensures c.if-h-eq0.false _ _ _ _ refl refl refl c.if-h-gt-LAST_HOLD.true
    c.put_fact.ensures

pub returns : goal.returns
returns c =
    freed _ _ _ _ _ _ 0 (named_before c.seen.result _ _ _ _ c.seen.ensures _ _ c.in_ok-may_name.ensures) refl _ _ c.if-id.false c.slot_of-s.ensures c.fact-h.ensures c.if-h-eq0.false _ _ _ _ (omega arith)
    c.take_hold.ensures
