-- What the accessors answer, as the definitions have it.
use mathlib.Core.Path.{◌≡◌, refl, sym, ap, ◌∙◌, subst}
use mathlib.Core.Logic.{◌≢◌}
use mathlib.Core.Bool.{false}
use mathlib.Core.List.{List, [], ◌∷◌}
use Prim.Native.Nat.{ℕ, ◌+◌, ◌-◌, ◌*◌, ◌/◌, ◌^◌, ◌≤◌, ◌<◌}
use native.Mathlib.Decide.{dec_lt}
use native.Mathlib.Omega.{arith}
use lib.Dec.{ltb}
use lib.ListN.{length, get_or, take, drop}
use Rattle.std.proofs.lemmas.List.{get_or-take, get_or-drop, length-drop, length-take-le}
use borrow.Author.Tests.{lt-ltb, le-ltb}
use Rattle.basics.specs.Pick.{pick}
use Rattle.nodes.specs.Tally.{kids_of, tab_from}
use Rattle.nodes.specs.Words.{own, value, hash, entry, row_in, row_at, in_rows, in_facts, kid_of, fact_of}
use Rattle.nodes.proofs.Access.{fact_own, fact_row, fact_out}
use Rattle.nodes.proofs.Sums.{cases, tab_list}
use Rattle.nodes.proofs.Rows.{In, in_small, in_short, at_before, at_after, cell_in_lem, cell_out, cell_past}

module _ (l : List ℕ) (s : ℕ) where
  -- ---- the own word and the facts

  pub own_read : s < 2 ^ 32 → 11 * s + 10 < length l → (x y : ℕ) → x ≡ get_or l (10 * s) 0 → y ≡ get_or l (10 * s + 1) 0 → x + 2 ^ 32 * y ≡ fact_of l s own
  own_read a b x y p q =
      let w : In 11 l s = record { small = a; room = b } in
      let e : 10 * s ≡ 10 * s + 0 = omega arith in
      let g : x ≡ row_at 11 in_facts l s 0 = p ∙ ap (λ (n : ℕ). get_or l n 0) e ∙ sym (cell_in_lem 11 in_facts l s 0 w (omega arith)) in
      let h : y ≡ row_at 11 in_facts l s 1 = q ∙ sym (cell_in_lem 11 in_facts l s 1 w (omega arith)) in
      rw (g, h) (sym (fact_own l s))

  pub own_none : row_in 11 l s ≡ false → 0 ≡ fact_of l s own
  own_none h = sym (fact_out l s own h)

  fact_read : (f : ℕ) → s < 2 ^ 32 → 11 * s + 10 < length l → own < f → f ≤ entry → get_or l (in_facts (length l) s (f - 7)) 0 ≡ pick (ltb own f) (fact_of l s f) 0
  fact_read f a b h k = rw (lt-ltb own f h) (sym (fact_row l s f h ∙ cell_in_lem 11 in_facts l s (f - 7) (record { small = a; room = b }) (omega arith)))

  pub fact_hash : (f : ℕ) → s < 2 ^ 32 → 11 * s + 10 < length l → f ≡ hash → get_or l (length l - 1 - s) 0 ≡ pick (ltb own f) (fact_of l s f) 0
  fact_hash f a b e = rw e (fact_read hash a b (omega arith) (omega arith))

  pub fact_before : (f : ℕ) → s < 2 ^ 32 → 11 * s + 10 < length l → value ≤ f → f < hash → get_or l (10 * s + (f - 7)) 0 ≡ pick (ltb own f) (fact_of l s f) 0
  fact_before f a b h k = rw (sym (at_before (length l) s (f - 7) (omega arith))) (fact_read f a b (omega arith) (omega arith))

  pub fact_after : (f : ℕ) → s < 2 ^ 32 → 11 * s + 10 < length l → hash ≤ f → f ≢ hash → f ≤ entry → get_or l (10 * s + (f - 8)) 0 ≡ pick (ltb own f) (fact_of l s f) 0
  fact_after f a b h d k =
      let e : f - 8 ≡ f - 7 - 1 = omega arith in
      rw (e, sym (at_after (length l) s (f - 7) (omega arith))) (fact_read f a b (omega arith) k)

  fact_none : (f : ℕ) → row_in 11 l s ≡ false → 0 ≡ pick (ltb own f) (fact_of l s f) 0
  fact_none f e = cases (dec_lt own f) (λ h. rw (lt-ltb own f h) (sym (fact_out l s f e))) (λ h. rw (le-ltb own f (omega arith)))

  pub fact_short : (f : ℕ) → length l ≤ 11 * s + 10 → 0 ≡ pick (ltb own f) (fact_of l s f) 0
  fact_short f h = fact_none f (in_short 11 l s h)

  pub fact_large : (f : ℕ) → 2 ^ 32 ≤ s → 0 ≡ pick (ltb own f) (fact_of l s f) 0
  fact_large f h = fact_none f (in_small 11 l s h)

  pub fact_past : (f : ℕ) → entry < f → 0 ≡ pick (ltb own f) (fact_of l s f) 0
  fact_past f h = rw (lt-ltb own f (omega arith)) (sym (fact_row l s f (omega arith) ∙ cell_past 11 in_facts l s (f - 7) (omega arith)))

  pub fact_low : (f : ℕ) → f < value → 0 ≡ pick (ltb own f) (fact_of l s f) 0
  fact_low f h = rw (le-ltb own f (omega arith))

  pub stored_read : s < 2 ^ 32 → s < length l / 11 → get_or l (10 * s + 2) 0 ≡ fact_of l s value
  stored_read a b = sym (fact_row l s value (omega arith) ∙ cell_in_lem 11 in_facts l s 2 (record { small = a; room = omega arith }) (omega arith))

  pub stored_short : length l / 11 ≤ s → 0 ≡ fact_of l s value
  stored_short h = sym (fact_out l s value (in_short 11 l s (omega arith)))

  pub stored_large : 2 ^ 32 ≤ s → 0 ≡ fact_of l s value
  stored_large h = sym (fact_out l s value (in_small 11 l s h))

  -- ---- the children

  pub kid_read : (i : ℕ) → s < 2 ^ 32 → s < length l / 8 → i < 8 → get_or l (8 * s + i) 0 ≡ kid_of l s i
  unfolding kid_of
  kid_read i a b h = sym (cell_in_lem 8 (in_rows 8) l s i (record { small = a; room = omega arith }) h)

  pub kid_short : (i : ℕ) → length l / 8 ≤ s → 0 ≡ kid_of l s i
  unfolding kid_of
  kid_short i h = sym (cell_out 8 (in_rows 8) l s i (in_short 8 l s (omega arith)))

  pub kid_past : (i : ℕ) → 8 ≤ i → 0 ≡ kid_of l s i
  unfolding kid_of
  kid_past i h = sym (cell_past 8 (in_rows 8) l s i h)

  pub kid_none : (i : ℕ) → row_in 8 l s ≡ false → 0 ≡ kid_of l s i
  unfolding kid_of
  kid_none i h = sym (cell_out 8 (in_rows 8) l s i h)

  pub kids_read : s < 2 ^ 32 → 8 * s + 7 < length l → take 8 (drop (8 * s) l) ≡ kids_of 8 (kid_of l) s
  unfolding kids_of kid_of
  kids_read a b =
      let row = take 8 (drop (8 * s) l) in
      let e : length row ≡ 8 = length-take-le 8 (drop (8 * s) l) (omega (arith, length-drop (8 * s) l)) in
      sym (subst (λ (n : ℕ). tab_from n 0 (row_at 8 (in_rows 8) l s) ≡ row) e
      (tab_list row 0 (row_at 8 (in_rows 8) l s) (λ j m.
      let z : 0 + j ≡ j = omega arith in
      rw z (cell_in_lem 8 (in_rows 8) l s j (record { small = a; room = b }) (omega arith) ∙ sym (get_or-take 8 (drop (8 * s) l) j 0 (omega arith) ∙ get_or-drop (8 * s) l j 0)))))

  kid_at : (row : List ℕ) (i : ℕ) → s < 2 ^ 32 → 8 * s + 7 < length l → row ≡ take 8 (drop (8 * s) l) → i < 8 → get_or row i 0 ≡ kid_of l s i
  kid_at row i a b e h = ap (λ (x : List ℕ). get_or x i 0) e ∙ get_or-take 8 (drop (8 * s) l) i 0 h ∙ get_or-drop (8 * s) l i 0 ∙ kid_read i a (omega arith) h

  pub kids_whole : (row : List ℕ) → s < 2 ^ 32 → 8 * s + 7 < length l → row ≡ take (8 * s + 8 - 8 * s) (drop (8 * s) l) → row ≡ kids_of 8 (kid_of l) s
  kids_whole row a b e =
      let n : 8 * s + 8 - 8 * s ≡ 8 = omega arith in
      rw n at e ∙ kids_read a b

  -- the words of the row, one by one
  pub kids_each : (row : List ℕ) → s < 2 ^ 32 → 8 * s + 7 < length l → row ≡ take (8 * s + 8 - 8 * s) (drop (8 * s) l) → ◌≡◌ {A = List ℕ} (get_or row 0 0 ∷ get_or row 1 0 ∷ get_or row 2 0 ∷ get_or row 3 0 ∷ get_or row 4 0 ∷ get_or row 5 0 ∷ get_or row 6 0 ∷ get_or row 7 0 ∷ []) (kids_of 8 (kid_of l) s)
  unfolding kids_of tab_from
  kids_each row a b d =
      let n : 8 * s + 8 - 8 * s ≡ 8 = omega arith in
      let e : row ≡ take 8 (drop (8 * s) l) = rw n at d in
      rw (kid_at row 0 a b e (omega arith), kid_at row 1 a b e (omega arith), kid_at row 2 a b e (omega arith), kid_at row 3 a b e (omega arith), kid_at row 4 a b e (omega arith), kid_at row 5 a b e (omega arith), kid_at row 6 a b e (omega arith), kid_at row 7 a b e (omega arith)) refl

  pub kids_none : row_in 8 l s ≡ false → ◌≡◌ {A = List ℕ} (0 ∷ 0 ∷ 0 ∷ 0 ∷ 0 ∷ 0 ∷ 0 ∷ 0 ∷ []) (kids_of 8 (kid_of l) s)
  unfolding kids_of tab_from kid_of
  kids_none e =
      rw (cell_out 8 (in_rows 8) l s 0 e, cell_out 8 (in_rows 8) l s 1 e, cell_out 8 (in_rows 8) l s 2 e, cell_out 8 (in_rows 8) l s 3 e, cell_out 8 (in_rows 8) l s 4 e, cell_out 8 (in_rows 8) l s 5 e, cell_out 8 (in_rows 8) l s 6 e, cell_out 8 (in_rows 8) l s 7 e)

-- a row that does not lie in the table
pub ruleset outside = (in_short, in_small, own_none, kid_past, kid_short, kid_none, kids_none)

-- the children of a row, as it stands or one by one
pub ruleset children_rules = (kids_whole, kids_each, outside)

-- child i, and a fact, of a row that lies in the table or not
pub ruleset kid_rules = (kid_read, kid_short, kid_past, kid_none, in_small)

pub ruleset fact_rules = (fact_hash, fact_before, fact_after, fact_short, fact_large, fact_past, fact_low)
