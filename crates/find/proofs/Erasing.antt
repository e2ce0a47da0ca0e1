-- An erased cell's slot is named no more, every other slot is as findable as before. While the shift runs, what the hole holds counts for
-- nothing (`Holed`).
use Prim.Native.Nat.{ℕ, zero, suc, ◌+◌, ◌-◌, ◌≤◌, ◌<◌}
use mathlib.Core.Logic.{⊎_elim, ◌↔◌}
use mathlib.Core.Path.{◌≡◌, refl, sym, ap, ◌∙◌}
use mathlib.Core.List.{List}
use native.Mathlib.Decide.{ℕ_discrete, dec_lt}
use native.Mathlib.Omega.{arith}
use lib.ListN.{length, set, length-set, get_or-eq_default}
use Rattle.find.specs.Cells.{shift, erase, cell, Reach, Named}
use Rattle.find.proofs.Probing.{Put, set_put}
use Rattle.find.proofs.Steps.{shift_end, shift_empty, shift_move, shift_skip, erase_start}

-- Cell i is a hole, and the cells between it and j have been looked at.
record Holed (home u : ℕ → ℕ) (i j : ℕ) : Type 0 where
  above : (p : ℕ) → (p ≡ i → ⊥) → 0 < u p → home (u p) ≤ p
  filled : (p q : ℕ) → (p ≡ i → ⊥) → (q ≡ i → ⊥) → 0 < u p → home (u p) ≤ q → q ≤ p → 0 < u q
  once : (p q : ℕ) → (p ≡ i → ⊥) → (q ≡ i → ⊥) → 0 < u p → u p ≡ u q → p ≡ q
  past : (p : ℕ) → i < p → p < j → 0 < u p → i < home (u p)

abbrev NamedBut : (ℕ → ℕ) → ℕ → ℕ → Type 0
NamedBut u i x = (p : ℕ) × (p ≡ i → ⊥) × (u p ≡ x)

holed_start : (home u : ℕ → ℕ) (i : ℕ) → Reach home u → Holed home u i (i + 1)
holed_start home u i R =
    record {
      above = λ p n a. R.above p a;
      filled = λ p q n k a b c. R.filled p q a b c;
      once = λ p q n k a b. R.once p q a b;
      past = λ p a b c. absurd (omega arith);
    }

holed_skip : (home u : ℕ → ℕ) (i j : ℕ) → i < home (u j) → Holed home u i j → Holed home u i (j + 1)
holed_skip home u i j l H =
    record {
      above = H.above;
      filled = H.filled;
      once = H.once;
      past = λ p a b c. elim (ℕ_discrete p j) [ yes e ↦ rw e l | no n ↦ H.past p a (omega arith) c ];
    }

module _ (home u u' : ℕ → ℕ) (i j : ℕ) (l : i < j) (H : Holed home u i j) where
  holed_move : 0 < u j → home (u j) ≤ i → Put u u' i (u j) → Holed home u' j (j + 1)
  holed_move pos near P =
      record {
        above = λ p n a. ⊎_elim (λ w. rw w.1 (omega arith)) (λ w. rw w.1 (H.above p w.0 (omega arith))) (P p);
        filled = λ p q n k a b c.
            ⊎_elim
            (λ z. omega arith)
            (λ z. rw z.1
            (⊎_elim
            (λ w. H.filled j q (omega arith) z.0 pos (rw w.1 at b) (omega arith))
            (λ w. H.filled p q w.0 z.0 (omega arith) (rw w.1 at b) c)
            (P p)))
            (P q);
        once = λ p q n k a b.
            ⊎_elim
            (λ w. ⊎_elim (λ z. omega arith) (λ z. absurd (k (H.once q j z.0 (omega arith) (omega arith) (omega arith)))) (P q))
            (λ w. ⊎_elim (λ z. absurd (n (H.once p j w.0 (omega arith) (omega arith) (omega arith)))) (λ z. H.once p q w.0 z.0 (omega arith) (omega arith)) (P q))
            (P p);
        past = λ p a b c. absurd (omega arith);
      }

  move_named : Put u u' i (u j) → (x : ℕ) → NamedBut u' j x ↔ NamedBut u i x
  move_named P x = (fwd, bwd)
    where
      fwd : NamedBut u' j x → NamedBut u i x
      fwd n = ⊎_elim (λ w. (j, omega arith, sym w.1 ∙ n.2)) (λ w. (n.0, w.0, sym w.1 ∙ n.2)) (P n.0)

      at_hole : (p : ℕ) → p ≡ j → u p ≡ x → NamedBut u' j x
      at_hole p e v = (i, omega arith, ⊎_elim (λ w. w.1 ∙ ap u (sym e) ∙ v) (λ w. absurd (w.0 refl)) (P i))

      bwd : NamedBut u i x → NamedBut u' j x
      bwd n =
          elim (ℕ_discrete n.0 j) [
            | yes e ↦ at_hole n.0 e n.2
            | no k ↦ (n.0, k, ⊎_elim (λ w. absurd (n.1 w.0)) (λ w. w.1 ∙ n.2) (P n.0))
          ]

  holed_end : u j ≡ 0 → Put u u' i 0 → Reach home u'
  holed_end e P =
      record {
        above = λ p a. ⊎_elim (λ w. absurd (omega arith)) (λ w. rw w.1 (H.above p w.0 (omega arith))) (P p);
        filled = λ p q a b c.
            ⊎_elim
            (λ w. absurd (omega arith))
            (λ w. let b' : home (u p) ≤ q = rw w.1 at b in ⊎_elim (λ z. absurd (inside p w.0 (omega arith) (omega arith) (omega arith))) (λ z. rw z.1 (H.filled p q w.0 z.0 (omega arith) b' c)) (P q))
            (P p);
        once = λ p q a b.
            ⊎_elim
            (λ w. absurd (omega arith))
            (λ w. ⊎_elim (λ z. absurd (omega arith)) (λ z. H.once p q w.0 z.0 (omega arith) (omega arith)) (P q))
            (P p);
      }
    where
      inside : (p : ℕ) → (p ≡ i → ⊥) → 0 < u p → home (u p) ≤ i → i ≤ p → ⊥
      inside p n a b c =
          elim (dec_lt p j) [
            | yes k ↦ omega (arith, H.past p (omega arith) k a)
            | no k ↦ omega (arith, H.filled p j n (omega arith) a (omega arith) (omega arith))
          ]

  end_named : Put u u' i 0 → (x : ℕ) → 0 < x → Named u' x ↔ NamedBut u i x
  end_named P x pos = (fwd, bwd)
    where
      fwd : Named u' x → NamedBut u i x
      fwd n = ⊎_elim (λ w. absurd (omega arith)) (λ w. (n.0, w.0, sym w.1 ∙ n.1)) (P n.0)

      bwd : NamedBut u i x → Named u' x
      bwd n = (n.0, ⊎_elim (λ w. absurd (n.1 w.0)) (λ w. w.1 ∙ n.2) (P n.0))

-- ---- the whole shift
record Shifted (home : ℕ → ℕ) (t t' : List ℕ) (i : ℕ) : Type 0 where
  reach : Reach home (cell t')
  named : (x : ℕ) → 0 < x → Named (cell t') x ↔ NamedBut (cell t) i x

module _ (home : ℕ → ℕ) where
  ends : (t : List ℕ) (i j : ℕ) → i < j → i < length t → cell t j ≡ 0 → Holed home (cell t) i j → Shifted home t (set t i 0) i
  ends t i j l k e H =
      let P = set_put t i 0 k in
      record {
        reach = holed_end home (cell t) (cell (set t i 0)) i j l H e P;
        named = end_named home (cell t) (cell (set t i 0)) i j l H P;
      }

  moves : (t t'' : List ℕ) (i j : ℕ) → i < j → i < length t → Holed home (cell t) i j → Shifted home (set t i (cell t j)) t'' j → Shifted home t t'' i
  moves t t'' i j l k H S =
      let m = move_named home (cell t) (cell (set t i (cell t j))) i j l H (set_put t i (cell t j) k) in
      record {
        reach = S.reach;
        named = λ x a. (λ n. (m x).0 ((S.named x a).0 n), λ n. (S.named x a).1 ((m x).1 n));
      }

  -- one step, from what holds of the rest
  step : (t : List ℕ) (i j : ℕ) → j < length t → i < j → i < length t → Holed home (cell t) i j
      → ((t' : List ℕ) (i' : ℕ) → length t' ≡ length t → i' ≤ j → i' < length t' → Holed home (cell t') i' (j + 1) → Shifted home t' (shift home t' i' (j + 1)) i')
      → Shifted home t (shift home t i j) i
  step t i j h l k H rest =
      elim (ℕ_discrete (cell t j) 0) [
        | yes z ↦ rw (shift_empty home t i j h z) (ends t i j l k z H)
        | no n ↦ elim (dec_lt i (home (cell t j))) [ yes far ↦ skip n far | no near ↦ move n (omega arith) ]
      ]
    where
      skip : (cell t j ≡ 0 → ⊥) → i < home (cell t j) → Shifted home t (shift home t i j) i
      skip n far = rw (shift_skip home t i j h n far) (rest t i refl (omega arith) k (holed_skip home (cell t) i j far H))

      move : (cell t j ≡ 0 → ⊥) → home (cell t j) ≤ i → Shifted home t (shift home t i j) i
      move n near =
          let t' : List ℕ = set t i (cell t j) in
          rw (shift_move home t i j h n near)
          (moves t (shift home t' j (j + 1)) i j l k H
          (rest t' j (length-set t i (cell t j)) (omega arith) (simp length-set h)
          (holed_move home (cell t) (cell t') i j l H (omega arith) near (set_put t i (cell t j) k))))

  shifted : (f : ℕ) (t : List ℕ) (i j : ℕ) → length t - j ≡ f → i < j → i < length t → Holed home (cell t) i j → Shifted home t (shift home t i j) i
  shifted zero t i j e l k H =
      let h : length t ≤ j = omega arith in
      rw (shift_end home t i j h) (ends t i j l k (get_or-eq_default t 0 h) H)
  shifted (suc f) t i j e l k H =
      step t i j (omega arith) l k H (λ t' i' a b c H'. shifted f t' i' (j + 1) (omega arith) (omega arith) c H')

  module _ (t : List ℕ) (i : ℕ) (R : Reach home (cell t)) (pos : 0 < cell t i) where
    inside_table : i < length t
    inside_table = elim (dec_lt i (length t)) [ yes l ↦ l | no n ↦ absurd (omega (arith, get_or-eq_default t 0 {n = i} (omega arith))) ]

    done : Shifted home t (erase home t i) i
    done = rw (erase_start home t i) (shifted (length t - (i + 1)) t i (i + 1) refl (omega arith) inside_table (holed_start home (cell t) i R))

    pub erase_reach : Reach home (cell (erase home t i))
    erase_reach = done.reach

    pub erase_named : (x : ℕ) → 0 < x → Named (cell (erase home t i)) x ↔ (Named (cell t) x × (x ≡ cell t i → ⊥))
    erase_named x a = (
      λ n. let m = (done.named x a).0 n in ((m.0, m.2), λ e. m.1 (R.once m.0 i (omega arith) (m.2 ∙ e))),
      λ n. (done.named x a).1 (n.0.0, (λ e. n.1 (sym n.0.1 ∙ ap (cell t) e)), n.0.1),
    )
