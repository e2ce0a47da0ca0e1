-- What a text says follows digit by digit, by the lemmas of proofs/Digits.antt.
use Rattle.std.proofs.Common.{rules, arith, sym, ap, ◌∙◌, ◌≡◌, ◌+◌, ◌*◌, min, ℕ}
use Rattle.survey.specs.Digits.{too_fine}
use Rattle.survey.proofs.Digits.{edge_empty, edge_begun, edge_other, edge_again, edge_done}
use Rattle.survey.proofs.edge_of.Goals as goal

pub returns-then-is_empty : goal.returns-then-is_empty
returns-then-is_empty c = edge_empty _ (sym c.is_empty.ensures ∙ c.if-is_empty.true)

pub loop-byte-init : goal.loop-byte-init
loop-byte-init c = record { capped = omega arith; said = edge_begun _ (sym c.is_empty.ensures ∙ c.if-is_empty.false) }

pub returns-then-not-is_ascii_digit : goal.returns-then-not-is_ascii_digit
returns-then-not-is_ascii_digit c =
    edge_other _ _ _ c.loop-byte.invariant.said c.loop-byte-test.true (sym c.is_ascii_digit.ensures.value ∙ c.if-not-is_ascii_digit.true)

pub loop-byte-preserved : goal.loop-byte-preserved
loop-byte-preserved c = record {
  capped = omega (arith, c.min-k.ensures);
  said =
      edge_again _ _ _ c.loop-byte.invariant.said c.loop-byte-test.true (sym c.is_ascii_digit.ensures.value ∙ c.if-not-is_ascii_digit.false) _
      (c.min-k.ensures ∙ ap (λ (m : ℕ). min (10 * c.loop-byte.k + m) too_fine) c.from.ensures);
}

pub returns : goal.returns
returns c = edge_done c.args.text.now c.loop-byte.k c.loop-byte.byte-index c.loop-byte.invariant.said (omega (arith, c.loop-byte-test.false)) c.loop-byte.invariant.capped
