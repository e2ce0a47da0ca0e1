-- How the lines are written: one piece after the other.
use mathlib.Core.Path.{◌≡◌, refl, sym, ap}
use mathlib.Core.List.{List, [], ◌∷◌, ◌++◌}
use Prim.Native.Nat.{ℕ, ◌+◌, ◌≤◌}
use native.Mathlib.Decide.{ℕ_discrete}
use native.Mathlib.Omega.{arith}
use lib.ListN.{length, length-append}
use borrow.Author.Tests.{ne_eqb}
use Rattle.basics.specs.Codes.{codes}
use Rattle.basics.specs.Puts.{puts_from}
use Rattle.lines.specs.Lines.{decimal, space, newline}
use Rattle.lines.proofs.Digits.{digits_short}
use Rattle.lines.proofs.Pieces.{Wrote, wrote_then, wrote_as}
use Rattle.nodes.proofs.Sums.{cases}
use Rattle.listing.specs.Listing.{widest}
use Rattle.month_listing.specs.declared.Side.{Side}
use Rattle.month_listing.specs.declared.Side.TheVariants.{Left, Right}
use Rattle.month_listing.specs.Months.{side_word, refused_line, short_line, numbered, refusal_line, closing_of}

-- three pieces at the start
pub wrote_three : {l m o u : List ℕ} {a b c : ℕ} {s t v : List ℕ} → Wrote l m 0 a s → Wrote m o a b t → Wrote o u (a + b) c v
    → (u ≡ puts_from l 0 (s ++ (t ++ v))) × (a + b + c ≡ length (s ++ (t ++ v)))
wrote_three {a} {b} {c} x y z =
    let w = wrote_then x (omega arith) (wrote_then y refl z) in
    (w.puts, omega (arith, w.long))

side_short_lem : (side : Side) → length (side_word side) ≤ 6
unfolding side_word
side_short_lem (Left) = omega arith
side_short_lem (Right) = omega arith

pub word_is : {l m : List ℕ} {n : ℕ} {side known : Side} → side ≡ known → Wrote l m 0 n (side_word known)
    → (m ≡ puts_from l 0 (side_word side)) × (n ≡ length (side_word side)) × (n ≤ 6)
word_is {side} e x = let w = wrote_as x (ap side_word (sym e)) in (w.puts, w.long, omega (arith, w.long, side_short_lem side))

-- ---- a refused record

refused_accepted : (side : Side) (number : ℕ) → refused_line side number 0 ≡ []
unfolding refused_line
refused_accepted side number = refl

refused_some : (side : Side) (number refusal : ℕ) → (refusal ≡ 0 → ⊥) → side_word side ++ ((decimal number ++ (space ∷ [])) ++ (decimal refusal ++ (newline ∷ []))) ≡ refused_line side number refusal
unfolding refused_line
refused_some side number refusal z = rw (ne_eqb refusal 0 z)

pub refused_none : (l : List ℕ) (side : Side) (number refusal : ℕ) → refusal ≡ 0
    → (l ≡ puts_from l 0 (refused_line side number refusal)) × (0 ≡ length (refused_line side number refusal)) × (0 ≤ widest)
unfolding refused_line puts_from
refused_none l side number refusal z = rw z (refl, refl, omega arith)

pub refused_is : {l m o u : List ℕ} {a b c : ℕ} (side : Side) (number refusal : ℕ) → (refusal ≡ 0 → ⊥)
    → Wrote l m 0 a (side_word side) → a ≤ 6 → Wrote m o a b (decimal number ++ (space ∷ [])) → b ≤ 21 → Wrote o u (a + b) c (decimal refusal ++ (newline ∷ [])) → c ≤ 21
    → (u ≡ puts_from l 0 (refused_line side number refusal)) × (a + b + c ≡ length (refused_line side number refusal)) × (a + b + c ≤ widest)
refused_is side number refusal z x ha y hb v hc =
    let w = wrote_three x y v in
    let q = refused_some side number refusal z in
    (rw q at w.0, rw q at w.1, omega arith)

pub refused_short : (side : Side) (number refusal : ℕ) → length (refused_line side number refusal) ≤ widest
refused_short side number refusal = cases (ℕ_discrete refusal 0)
    (λ z. rw (z, refused_accepted side number) (omega arith))
    (λ z.
    let p : List ℕ = decimal number ++ (space ∷ []) in
    let q : List ℕ = decimal refusal ++ (newline ∷ []) in
    rw (← refused_some side number refusal z) (omega (
      arith,
      length-append (side_word side) (p ++ q),
      length-append p q,
      length-append (decimal number) (space ∷ []),
      length-append (decimal refusal) (newline ∷ []),
      side_short_lem side,
      digits_short 20 number,
      digits_short 20 refusal,
    )))

-- ---- a cut record

pub short_none : (l : List ℕ) (side : Side) (cut : ℕ) → cut ≡ 0 → (l ≡ puts_from l 0 (short_line side cut)) × (0 ≡ length (short_line side cut))
unfolding short_line puts_from
short_none l side cut z = rw z (refl, refl)

short_some : (side : Side) (cut : ℕ) → (cut ≡ 0 → ⊥) → side_word side ++ (codes "short " ++ (decimal cut ++ (newline ∷ []))) ≡ short_line side cut
unfolding short_line
short_some side cut z = rw (ne_eqb cut 0 z)

pub short_is : {l m o u : List ℕ} {a b c : ℕ} (side : Side) (cut : ℕ) → (cut ≡ 0 → ⊥)
    → Wrote l m 0 a (side_word side) → Wrote m o a b (codes "short ") → Wrote o u (a + b) c (decimal cut ++ (newline ∷ []))
    → (u ≡ puts_from l 0 (short_line side cut)) × (a + b + c ≡ length (short_line side cut))
short_is side cut z x y v =
    let w = wrote_three x y v in
    let q = short_some side cut z in
    (rw q at w.0, rw q at w.1)

-- ---- the last lines

pub numbered_is : {l m o : List ℕ} {at a b : ℕ} {s u : List ℕ} → Wrote l m at a s → Wrote m o (at + a) b u → b ≤ 21
    → (o ≡ puts_from l at (s ++ u)) × (a + b ≡ length (s ++ u)) × (a + b ≤ length s + 21)
numbered_is x y h = let w = wrote_then x refl y in (w.puts, w.long, omega (arith, x.long))

pub refusal_none : (l : List ℕ) (refusal : ℕ) → refusal ≡ 0 → (l ≡ puts_from l 0 (refusal_line refusal)) × (0 ≡ length (refusal_line refusal)) × (0 ≤ 29)
unfolding refusal_line puts_from
refusal_none l refusal z = rw z (refl, refl, omega arith)

refusal_some : (refusal : ℕ) → (refusal ≡ 0 → ⊥) → numbered "refused " refusal ≡ refusal_line refusal
unfolding refusal_line
refusal_some refusal z = rw (ne_eqb refusal 0 z)

pub refusal_is : {l m : List ℕ} {a : ℕ} (refusal : ℕ) → (refusal ≡ 0 → ⊥) → Wrote l m 0 a (numbered "refused " refusal) → a ≤ 29
    → (m ≡ puts_from l 0 (refusal_line refusal)) × (a ≡ length (refusal_line refusal)) × (a ≤ 29)
refusal_is refusal z x h = let w = wrote_as x (refusal_some refusal z) in (w.puts, w.long, h)

pub closing_is : {l m o u v : List ℕ} {a b c d : ℕ} (refusal count opened live : ℕ)
    → Wrote l m 0 a (refusal_line refusal) → Wrote m o a b (numbered "cells " count) → Wrote o u (a + b) c (numbered "opened " opened) → Wrote u v (a + b + c) d (numbered "live " live)
    → (v ≡ puts_from l 0 (closing_of refusal count opened live)) × (a + b + c + d ≡ length (closing_of refusal count opened live))
unfolding closing_of
closing_is {a} {b} {c} {d} refusal count opened live x y z q =
    let w = wrote_then x (omega arith) (wrote_then y refl (wrote_then z refl q)) in
    (w.puts, omega (arith, w.long))
