use Rattle.std.proofs.Common.{◌≡◌, refl, List, ℕ, sym, ap, ap₂, ◌∙◌, eqb, arith}
use Rattle.std.proofs.lemmas.Result.{err_from_is_err_and}
use borrow.Author.Tests.{eq-eqb, ne_eqb, eqb-true, eqb-false}
use Rattle.basics.specs.Pick.{pick}
use Rattle.basics.proofs.Refusals.{number_some}
use Rattle.nodes.specs.Words.{fact_of, holds, places, slot, word_of}
use Rattle.arena.specs.Calls.{Numbers, counts_of, numbers, there_no}
use Rattle.arena.specs.Tables.{State, Tables, W, tables}
use Rattle.arena.proofs.Fits.{there_law}
use Rattle.arena_hold.proofs.counts.Goals as goal

module _ (a : State) (k f e : List ℕ) (id x : ℕ) (ex : x ≡ there_no (tables a k f e) id) where
  abbrev t : Tables
  t = tables a k f e

  abbrev both : Numbers
  both = numbers 0 (W t (slot id) holds) (W t (slot id) places)

  all : counts_of t id ≡ pick (eqb x 0) (pick (eqb id 0) (numbers 0 0 0) both) (numbers x 0 0)
  unfolding counts_of
  all = there_law t id x (λ k. numbers k 0 0) both ex

  refusal : (x ≡ 0 → ⊥) → numbers x 0 0 ≡ counts_of t id
  refusal d = rw (all, ne_eqb x 0 d)

  nothing : x ≡ 0 → id ≡ 0 → numbers 0 0 0 ≡ counts_of t id
  nothing z n = rw (all, eq-eqb x 0 z, eq-eqb id 0 n)

  alive : (s h p : ℕ) → x ≡ 0 → (id ≡ 0 → ⊥) → s ≡ slot id → h ≡ fact_of f s holds → p ≡ fact_of f s places → numbers 0 h p ≡ counts_of t id
  unfolding word_of
  alive s h p z d es eh ep =
      rw (all, eq-eqb x 0 z, ne_eqb id 0 d) (ap₂ (numbers 0) (eh ∙ ap (λ (y : ℕ). fact_of f y holds) es) (ep ∙ ap (λ (y : ℕ). fact_of f y places) es))

pub returns-in_err-may_name : goal.returns-in_err-may_name
returns-in_err-may_name c =
    let p = err_from_is_err_and c.from_residual.result c.from_residual.ensures.1 in
    let q = number_some c.in_err-may_name.field-0.0 in
    rw (p.1, p.2) (refusal _ _ _ _ _ _ c.in_err-may_name.ensures (λ z. omega arith))

pub returns-then-is_empty : goal.returns-then-is_empty
returns-then-is_empty c = nothing _ _ _ _ _ _ c.in_ok-may_name.ensures refl (eqb-true c.args.id.0 0 (sym c.is_empty.ensures ∙ c.if-is_empty.true))

pub returns : goal.returns
returns c = alive _ _ _ _ _ _ c.in_ok-may_name.ensures _ _ _ refl (eqb-false c.args.id.0 0 (sym c.is_empty.ensures ∙ c.if-is_empty.false)) c.slot_of-s.ensures c.fact.ensures c.fact-2.ensures
