-- The lines of the differing cells, one after the other.
use mathlib.Core.Path.{◌≡◌, refl, sym, ap, ◌∙◌}
use mathlib.Core.List.{List, [], ◌∷◌, ◌++◌}
use Prim.Native.Nat.{ℕ, zero, suc, ◌+◌, ◌-◌, ◌*◌, ◌/◌, ◌≤◌, ◌<◌, min}
use native.Mathlib.Numerals.{add-one}
use native.Mathlib.Omega.{arith}
use lib.ListN.{length, get_or, take, length-append}
use Rattle.basics.specs.Puts.{puts_from}
use Rattle.basics.proofs.Puts.{puts_there, puts_length}
use Rattle.lines.specs.Lines.{decimal, space, newline}
use Rattle.lines.proofs.Digits.{digits_short}
use Rattle.lines.proofs.Pieces.{Wrote, wrote_then, wrote_as}
use Rattle.paths.specs.Paths.{decoded_of, to_cell}
use Rattle.paths.specs.declared.Cell.{Cell}
use Rattle.edit_listing.specs.Listing.{record_depth}
use Rattle.month_listing.specs.Months.{cell_line, cell_lines, widest_cell, cells_taken}

-- ---- one cell

-- a number and the byte after it
abbrev piece : ℕ → ℕ → List ℕ
piece n end = decimal n ++ (end ∷ [])

piece_short : (n end : ℕ) → length (piece n end) ≤ 21
piece_short n end = omega (arith, length-append (decimal n) (end ∷ []), digits_short 20 n)

cell_short : (code left right : ℕ) → length (cell_line code left right) ≤ widest_cell
unfolding cell_line
cell_short code left right =
    let cell = to_cell (decoded_of code).position record_depth in
    let p₅ : List ℕ = piece left space ++ piece right newline in
    let p₄ : List ℕ = piece cell.z space ++ p₅ in
    let p₃ : List ℕ = piece cell.y space ++ p₄ in
    let p₂ : List ℕ = piece cell.x space ++ p₃ in
    omega (
      arith,
      length-append (piece code space) p₂,
      length-append (piece cell.x space) p₃,
      length-append (piece cell.y space) p₄,
      length-append (piece cell.z space) p₅,
      length-append (piece left space) (piece right newline),
      piece_short code space,
      piece_short cell.x space,
      piece_short cell.y space,
      piece_short cell.z space,
      piece_short left space,
      piece_short right newline,
    )

cell_parts : (code left right : ℕ) (cell : Cell) → cell ≡ to_cell (decoded_of code).position record_depth
    → piece code space ++ (piece cell.x space ++ (piece cell.y space ++ (piece cell.z space ++ (piece left space ++ piece right newline)))) ≡ cell_line code left right
unfolding cell_line
cell_parts code left right cell q =
    ap (λ (p : Cell). piece code space ++ (piece p.x space ++ (piece p.y space ++ (piece p.z space ++ (piece left space ++ piece right newline))))) q

pub cell_is : {l₀ l₁ l₂ l₃ l₄ l₅ l₆ : List ℕ} {at a b c d e f : ℕ} (code left right : ℕ) (cell : Cell) → cell ≡ to_cell (decoded_of code).position record_depth
    → Wrote l₀ l₁ at a (decimal code ++ (space ∷ [])) → Wrote l₁ l₂ (at + a) b (decimal cell.x ++ (space ∷ []))
    → Wrote l₂ l₃ (at + a + b) c (decimal cell.y ++ (space ∷ [])) → Wrote l₃ l₄ (at + a + b + c) d (decimal cell.z ++ (space ∷ []))
    → Wrote l₄ l₅ (at + a + b + c + d) e (decimal left ++ (space ∷ [])) → Wrote l₅ l₆ (at + a + b + c + d + e) f (decimal right ++ (newline ∷ []))
    → (l₆ ≡ puts_from l₀ at (cell_line code left right)) × (at + a + b + c + d + e + f - at ≡ length (cell_line code left right)) × (at + a + b + c + d + e + f - at ≤ widest_cell)
cell_is {at} {a} {b} {c} {d} {e} {f} code left right cell q u v w x y z =
    let r = wrote_as (wrote_then u refl (wrote_then v refl (wrote_then w refl (wrote_then x refl (wrote_then y refl z))))) (cell_parts code left right cell q) in
    let m : at + a + b + c + d + e + f - at ≡ a + (b + (c + (d + (e + f)))) = omega arith in
    (r.puts, m ∙ r.long, omega (arith, r.long, cell_short code left right))

-- ---- how many

pub taken_is : (n s room m : ℕ) → s ≡ n → m ≡ min s (room / widest_cell) → m ≡ cells_taken n room
unfolding cells_taken
taken_is n s room m es e = omega arith

taken_most : (n room : ℕ) → cells_taken n room ≤ n
unfolding cells_taken
taken_most n room = omega arith

taken_room : (n room : ℕ) → widest_cell * cells_taken n room ≤ room
unfolding cells_taken
taken_room n room = omega arith

-- where there are cells and there is room for a line, some are taken
pub taken_some : (n room m : ℕ) → m ≡ cells_taken n room → 1 ≤ n → widest_cell ≤ room → (1 ≤ m) × (m ≤ n)
unfolding cells_taken
taken_some n room m e h k = (omega arith, omega arith)

-- ---- the loop over a block

-- The state of a loop over the cells of a list, from place `from` up to `count`, as far as o₀ has room: the lines of the first i are written.
pub record Loop (cs ls rs : List ℕ) (from count : ℕ) (o₀ : List ℕ) (most : ℕ) (o : List ℕ) (i len : ℕ) : Type 0 where
  pub within : i ≤ most
  pub few : len ≤ widest_cell * i
  pub many : most ≡ cells_taken (count - from) (length o₀)
  pub out : length o ≡ length o₀
  pub wrote : Wrote o₀ o 0 len (cell_lines cs ls rs from i)

pub loop_begun : (cs ls rs : List ℕ) (from count : ℕ) (o₀ : List ℕ) (most : ℕ) → most ≡ cells_taken (count - from) (length o₀) → Loop cs ls rs from count o₀ most o₀ 0 0
unfolding cell_lines puts_from
loop_begun cs ls rs from count o₀ most e = record { within = omega arith; few = omega arith; many = e; out = refl; wrote = record { puts = refl; long = refl } }

module _ {cs ls rs : List ℕ} {from count : ℕ} {o₀ : List ℕ} {most : ℕ} {o : List ℕ} {i len : ℕ} (at : Loop cs ls rs from count o₀ most o i len) where
  -- a cell that is still to be taken is there, and there is room for its line
  pub next_there : i < most → from + i < count
  next_there h = omega (arith, taken_most (count - from) (length o₀), at.many)

  pub next_room : i < most → len + widest_cell ≤ length o
  next_room h = omega (arith, taken_room (count - from) (length o₀), at.many, at.few, at.out)

  pub again : i < most → (c l r : ℕ) → c ≡ get_or cs (from + i) 0 → l ≡ get_or ls (from + i) 0 → r ≡ get_or rs (from + i) 0 → (o₁ : List ℕ) (n : ℕ)
      → (o₁ ≡ puts_from o len (cell_line c l r)) × (n ≡ length (cell_line c l r)) × (n ≤ widest_cell) → Loop cs ls rs from count o₀ most o₁ (i + 1) (len + n)
  unfolding cell_lines
  again h c l r ec el er o₁ n (puts, long, short) =
      let more : Wrote o₀ o₁ 0 (len + n) (cell_lines cs ls rs from i ++ cell_line c l r) = wrote_then at.wrote (omega arith) (record { puts = puts; long = long }) in
      let line : cell_lines cs ls rs from i ++ cell_line c l r ≡ cell_lines cs ls rs from (suc i) = rw (ec, el, er) in
      record {
        within = omega arith;
        few = omega (arith, at.few);
        many = at.many;
        out = ap length puts ∙ puts_length o len (cell_line c l r) ∙ at.out;
        wrote = wrote_as more (line ∙ ap (cell_lines cs ls rs from) (sym (add-one i)));
      }

  pub loop_done : most ≤ i
      → (most ≡ cells_taken (count - from) (length o₀)) × (o ≡ puts_from o₀ 0 (cell_lines cs ls rs from most)) × (len ≡ length (cell_lines cs ls rs from most))
  loop_done h = let e : most ≡ i = omega (arith, at.within) in (at.many, rw e at.wrote.puts, rw e at.wrote.long)

-- ---- there is room: the bytes that a call writes are the lines

lines_short : (cs ls rs : List ℕ) (from n : ℕ) → length (cell_lines cs ls rs from n) ≤ widest_cell * n
unfolding cell_lines
lines_short cs ls rs from zero = omega arith
lines_short cs ls rs from (suc n) =
    let line = cell_line (get_or cs (from + n) 0) (get_or ls (from + n) 0) (get_or rs (from + n) 0) in
    omega (
      arith,
      length-append (cell_lines cs ls rs from n) line,
      lines_short cs ls rs from n,
      cell_short (get_or cs (from + n) 0) (get_or ls (from + n) 0) (get_or rs (from + n) 0),
    )

pub cells_there : (cs ls rs o : List ℕ) (from n : ℕ) → widest_cell * n ≤ length o
    → take (length (cell_lines cs ls rs from n)) (puts_from o 0 (cell_lines cs ls rs from n)) ≡ cell_lines cs ls rs from n
cells_there cs ls rs o from n h = puts_there o (cell_lines cs ls rs from n) (omega (arith, lines_short cs ls rs from n))
