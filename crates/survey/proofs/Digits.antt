-- A text read digit by digit: every number from too_fine on is kept as too_fine.
use mathlib.Core.Path.{◌≡◌, sym, ap, ◌∙◌}
use mathlib.Core.Bool.{true, false}
use mathlib.Core.List.{List, [], ◌∷◌}
use Prim.Native.Nat.{ℕ, suc, ◌+◌, ◌-◌, ◌*◌, ◌≤◌, ◌<◌, min}
use native.Mathlib.Numerals.{add-one}
use native.Mathlib.Omega.{arith}
use lib.ListN.{length, get_or, drop, drop_of_length-le}
use lib.Seq.{drop-cons}
use Rattle.basics.specs.Pick.{pick}
use Rattle.survey.specs.Digits.{digit, all_digits, number_from, too_fine, edge_after, edge_of}
use Rattle.std.specs.Prelude.{Some, None, eqb}

pub edge_empty : (s : List ℕ) → eqb (length s) 0 ≡ true → None ≡ edge_of s
unfolding edge_of
edge_empty s z = rw z

pub edge_begun : (s : List ℕ) → eqb (length s) 0 ≡ false → edge_after 0 s ≡ edge_of s
unfolding edge_of
edge_begun s z = rw z

-- ---- one digit

capped : (s : List ℕ) (n : ℕ) → min too_fine (number_from (min too_fine n) s) ≡ min too_fine (number_from n s)
unfolding number_from
capped [] n = omega arith
capped (c ∷ s) n =
    let e : min too_fine (10 * min too_fine n + (c - 48)) ≡ min too_fine (10 * n + (c - 48)) = omega arith in
    sym (capped s (10 * min too_fine n + (c - 48))) ∙ ap (λ (m : ℕ). min too_fine (number_from m s)) e ∙ capped s (10 * n + (c - 48))

after_capped : (s : List ℕ) (n : ℕ) → edge_after (min too_fine n) s ≡ edge_after n s
unfolding edge_after
after_capped s n = ap (λ (m : ℕ). pick (all_digits s) (Some m) None) (capped s n)

after_digit : (n c : ℕ) (s : List ℕ) → digit c ≡ true → edge_after n (c ∷ s) ≡ edge_after (10 * n + (c - 48)) s
unfolding edge_after all_digits number_from
after_digit n c s d = rw d

after_other : (n c : ℕ) (s : List ℕ) → digit c ≡ false → edge_after n (c ∷ s) ≡ None
unfolding edge_after all_digits
after_other n c s d = rw d

-- ---- the loop: i bytes are digits and say k

module _ (s : List ℕ) (k i : ℕ) (so : edge_after k (drop i s) ≡ edge_of s) where
  pub edge_other : i < length s → digit (get_or s i 0) ≡ false → None ≡ edge_of s
  edge_other h d = sym (sym so ∙ ap (edge_after k) (drop-cons s i 0 h) ∙ after_other k (get_or s i 0) (drop (suc i) s) d)

  pub edge_again : i < length s → digit (get_or s i 0) ≡ true → (n : ℕ) → n ≡ min (10 * k + (get_or s i 0 - 48)) too_fine → edge_after n (drop (i + 1) s) ≡ edge_of s
  edge_again h d n e =
      let m : n ≡ min too_fine (10 * k + (get_or s i 0 - 48)) = omega arith in
      rw (m, add-one i)
      (after_capped (drop (suc i) s) (10 * k + (get_or s i 0 - 48))
      ∙ sym (after_digit k (get_or s i 0) (drop (suc i) s) d) ∙ ap (edge_after k) (sym (drop-cons s i 0 h)) ∙ so)

  pub edge_done : length s ≤ i → k ≤ too_fine → Some k ≡ edge_of s
  unfolding edge_after all_digits number_from
  edge_done h l = let e : k ≡ min too_fine k = omega arith in ap Some e ∙ ap (edge_after k) (sym (drop_of_length-le s {i = i} h)) ∙ so
