-- How the lines are written: one piece after the other.
use Rattle.std.proofs.Common.{◌≡◌, ℕ, ◌+◌, ◌-◌, ◌≤◌, Bool, true, false, eqb, List, [], ◌∷◌, ◌++◌, length, take, replicate, refl, ap, ◌∙◌, arith, length-append, ne_eqb}
use lib.ListN.{length-replicate}
use lib.Seq.{take-append_seam}
use Rattle.basics.specs.Codes.{codes}
use Rattle.basics.specs.Pick.{pick}
use Rattle.basics.specs.Puts.{puts_from}
use Rattle.lines.specs.Lines.{decimal, space, newline}
use Rattle.lines.proofs.Digits.{digits_short}
use Rattle.lines.proofs.Pieces.{Wrote, wrote_then, wrote_as}
use Rattle.ids.specs.Ids.{empty, invalid, is_leaf}
use Rattle.ids_text.specs.Text.{text_of, leaf_text, branch_text, hex, padded, id_text_of}
use Rattle.ids_text.specs.declared.IdText.{IdText}
use Rattle.listing.specs.Listing.{line_of, short_of, live_line, ending_of, widest}

-- ---- the text of an id

short_pick : (b : Bool) (s u : List ℕ) → length s ≤ 41 → length u ≤ 41 → length (pick b s u) ≤ 41
short_pick true s u p q = p
short_pick false s u p q = q

pub text_short : (raw : ℕ) → length (text_of raw) ≤ 41
unfolding text_of leaf_text branch_text hex
text_short raw =
    short_pick (eqb raw invalid) _ _ (omega arith)
    (short_pick (eqb raw empty) _ _ (omega arith) (short_pick (is_leaf raw) _ _ (omega arith) (omega arith)))

pub text_parts : (r : IdText) (raw : ℕ) → r ≡ id_text_of raw → (r.len ≡ length (text_of raw)) × (r.len ≤ 41) × (take r.len r.bytes ≡ text_of raw) × (41 ≡ length r.bytes)
unfolding padded
text_parts r raw e =
    let n : r.len ≡ length (text_of raw) = ap (λ (x : IdText). x.len) e in
    let h = text_short raw in
    let zeros : List ℕ = replicate (41 - length (text_of raw)) 0 in (
      n,
      omega arith,
      ap (λ (x : IdText). take x.len x.bytes) e ∙ take-append_seam (text_of raw) zeros,
      omega (arith, length-append (text_of raw) zeros, length-replicate {A = ℕ} (41 - length (text_of raw)) 0, ap (λ (x : IdText). length x.bytes) e),
    )

-- the text and the end of its line
pub id_is : {l m o : List ℕ} {at a b : ℕ} {r s : List ℕ} → r ≡ s → length s ≤ 41 → Wrote l m at a r → Wrote m o (at + a) b (newline ∷ [])
    → (o ≡ puts_from l at (s ++ (newline ∷ []))) × (a + b ≡ length (s ++ (newline ∷ []))) × (a + b ≤ 42)
id_is {s} e h x y =
    let w = wrote_then (wrote_as x e) refl y in
    (w.puts, w.long, omega (arith, w.long, length-append s (newline ∷ [])))

-- ---- the lines

pub line_is : {l m o u : List ℕ} {a b c : ℕ} (number refusal root : ℕ)
    → Wrote l m 0 a (decimal number ++ (space ∷ [])) → a ≤ 21 → Wrote m o a b (decimal refusal ++ (space ∷ [])) → b ≤ 21 → Wrote o u (a + b) c (text_of root ++ (newline ∷ [])) → c ≤ 42
    → (u ≡ puts_from l 0 (line_of number refusal root)) × (a + b + c ≡ length (line_of number refusal root)) × (a + b + c ≤ widest)
unfolding line_of
line_is {a} {b} {c} number refusal root x ha y hb z hc =
    let w = wrote_then x (omega arith) (wrote_then y refl z) in
    (w.puts, omega (arith, w.long), omega arith)

-- a line has room in `widest` bytes
pub line_short : (number refusal root : ℕ) → length (line_of number refusal root) ≤ widest
unfolding line_of
line_short number refusal root =
    let p : List ℕ = decimal number ++ (space ∷ []) in
    let q : List ℕ = decimal refusal ++ (space ∷ []) in
    let r = text_of root in
    omega (
      arith,
      length-append p (q ++ (r ++ (newline ∷ []))),
      length-append q (r ++ (newline ∷ [])),
      length-append r (newline ∷ []),
      length-append (decimal number) (space ∷ []),
      length-append (decimal refusal) (space ∷ []),
      digits_short 20 number,
      digits_short 20 refusal,
      text_short root,
    )

pub short_none : (l : List ℕ) (cut : ℕ) → cut ≡ 0 → (l ≡ puts_from l 0 (short_of cut)) × (0 ≡ length (short_of cut)) × (0 ≤ 27)
unfolding short_of puts_from
short_none l cut z = rw z (refl, refl, omega arith)

short_some : (cut : ℕ) → (cut ≡ 0 → ⊥) → codes "short " ++ (decimal cut ++ (newline ∷ [])) ≡ short_of cut
unfolding short_of
short_some cut z = rw (ne_eqb cut 0 z)

pub short_is : {l m o : List ℕ} {a b : ℕ} (cut : ℕ) → (cut ≡ 0 → ⊥) → Wrote l m 0 a (codes "short ") → Wrote m o a b (decimal cut ++ (newline ∷ [])) → b ≤ 21
    → (o ≡ puts_from l 0 (short_of cut)) × (a + b ≡ length (short_of cut)) × (a + b ≤ 27)
short_is cut z x y h =
    let w = wrote_as (wrote_then x (omega arith) y) (short_some cut z) in
    (w.puts, w.long, omega (arith, x.long))

pub ending_is : {l m o u : List ℕ} {a b c : ℕ} (cut live : ℕ) → Wrote l m 0 a (short_of cut) → Wrote m o a b (codes "live ") → Wrote o u (a + b) c (decimal live ++ (newline ∷ []))
    → (u ≡ puts_from l 0 (ending_of cut live)) × (a + b + c ≡ length (ending_of cut live))
unfolding ending_of live_line
ending_is {a} {b} {c} cut live x y z =
    let w = wrote_then x (omega arith) (wrote_then y refl z) in
    (w.puts, omega (arith, w.long))
