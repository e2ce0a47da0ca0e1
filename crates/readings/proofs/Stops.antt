-- Where a bar stops: its number is that of the first edit that is refused.
use mathlib.Core.Path.{◌≡◌, refl, sym, ap, ◌∙◌}
use mathlib.Core.Logic.{◌≢◌, ◌↔◌}
use Prim.Native.Nat.{ℕ, zero, suc, ◌+◌, ◌≤◌, ◌<◌}
use native.Mathlib.Decide.{ℕ_discrete}
use native.Mathlib.Omega.{arith}
use Rattle.basics.specs.Limits.{deepest}
use Rattle.nodes.proofs.Sums.{cases}
use Rattle.paths.specs.Paths.{place}
use Rattle.arena.specs.Tables.{Tables}
use Rattle.arena.specs.Calls.{Out, said, release_of}
use Rattle.edit.specs.Edit.{edit_of}
use Rattle.bars.specs.Bars.{pass_of, bar_of}
use Rattle.bars.proofs.Ways.{pass_none, pass_on, pass_stop, bar_on, bar_stop}
use Rattle.readings.specs.Stops.{reached_of, Stops}

module _ (d y z v : ℕ) where
  -- the edit of the cell j after x, from where the first j cells lead
  abbrev next_no : Tables → ℕ → ℕ → ℕ → ℕ
  next_no u r x j = (edit_of (pass_of d y z v u r x j).after (pass_of d y z v u r x j).id d (place (x + j) y z) v).no

  -- where a passing root stops
  record PassStops (u : Tables) (r x k n : ℕ) : Type 0 where
    turn : ℕ
    within : turn < k
    so_far : (pass_of d y z v u r x turn).no ≡ 0
    number : next_no u r x turn ≡ n

  pass_stops : (k : ℕ) (u : Tables) (r x n : ℕ) → n ≢ 0 → (pass_of d y z v u r x k).no ≡ n → PassStops u r x k n
  pass_stops zero u r x n h e = absurd (h (sym e ∙ ap (λ (o : Out). o.no) (pass_none d y z v u r x)))
  pass_stops (suc k) u r x n h e =
      let o = edit_of u r d (place x y z) v in
      let u' = (release_of deepest o.after r).after in
      cases (ℕ_discrete o.no 0)
      (λ ok.
      let s = pass_stops k u' o.id (suc x) n h (sym (ap (λ (i : Out). i.no) (pass_on d y z v u r x k ok)) ∙ e) in
      let j = s.turn in
      let w = s.within in
      let q = pass_on d y z v u r x j ok in
      let c : x + suc j ≡ suc x + j = omega arith in
      record {
        turn = suc j;
        within = omega arith;
        so_far = ap (λ (i : Out). i.no) q ∙ s.so_far;
        number = ap (λ (i : Out). (edit_of i.after i.id d (place (x + suc j) y z) v).no) q
            ∙ ap (λ (i : ℕ). (edit_of (pass_of d y z v u' o.id (suc x) j).after (pass_of d y z v u' o.id (suc x) j).id d (place i y z) v).no) c ∙ s.number;
      })
      (λ no.
      let q = pass_none d y z v u r x in
      let c : x + 0 ≡ x = omega arith in
      record {
        turn = 0;
        within = omega arith;
        so_far = ap (λ (i : Out). i.no) q;
        number = ap (λ (i : Out). (edit_of i.after i.id d (place (x + 0) y z) v).no) q ∙ ap (λ (i : ℕ). (edit_of u r d (place i y z) v).no) c
            ∙ sym (ap (λ (i : Out). i.no) (pass_stop d y z v u r x k no)) ∙ e;
      })

  stops_pass : (j k : ℕ) (u : Tables) (r x n : ℕ) → n ≢ 0 → j < k → (pass_of d y z v u r x j).no ≡ 0 → next_no u r x j ≡ n → (pass_of d y z v u r x k).no ≡ n
  stops_pass j zero u r x n h w ok e = absurd (omega arith)
  stops_pass zero (suc k) u r x n h w ok e =
      let q = pass_none d y z v u r x in
      let c : x + 0 ≡ x = omega arith in
      let f : (edit_of u r d (place x y z) v).no ≡ n =
      sym (ap (λ (i : Out). (edit_of i.after i.id d (place (x + 0) y z) v).no) q ∙ ap (λ (i : ℕ). (edit_of u r d (place i y z) v).no) c) ∙ e in
      ap (λ (i : Out). i.no) (pass_stop d y z v u r x k (λ i. h (sym f ∙ i))) ∙ f
  stops_pass (suc j) (suc k) u r x n h w ok e =
      let o = edit_of u r d (place x y z) v in
      let u' = (release_of deepest o.after r).after in
      cases (ℕ_discrete o.no 0)
      (λ on.
      let q = pass_on d y z v u r x j on in
      let c : x + suc j ≡ suc x + j = omega arith in
      ap (λ (i : Out). i.no) (pass_on d y z v u r x k on)
      ∙ stops_pass j k u' o.id (suc x) n h (omega arith) (sym (ap (λ (i : Out). i.no) q) ∙ ok)
      (sym (ap (λ (i : Out). (edit_of i.after i.id d (place (x + suc j) y z) v).no) q
      ∙ ap (λ (i : ℕ). (edit_of (pass_of d y z v u' o.id (suc x) j).after (pass_of d y z v u' o.id (suc x) j).id d (place i y z) v).no) c) ∙ e))
      (λ no. absurd (no (sym (ap (λ (i : Out). i.no) (pass_stop d y z v u r x j no)) ∙ ok)))

  module _ (t : Tables) (root x k n : ℕ) (h : n ≢ 0) where
    reached_first : reached_of t root d y z x 0 v ≡ said 0 root t
    unfolding reached_of
    reached_first = refl

    reached_next : (j : ℕ) → reached_of t root d y z x (suc j) v ≡ bar_of t root d y z x j v
    unfolding reached_of
    reached_next j = refl

    -- the edit of the first cell
    abbrev o : Out
    o = edit_of t root d (place x y z) v

    at_first : (edit_of (reached_of t root d y z x 0 v).after (reached_of t root d y z x 0 v).id d (place (x + 0) y z) v).no ≡ o.no
    at_first =
        let c : x + 0 ≡ x = omega arith in
        ap (λ (i : Out). (edit_of i.after i.id d (place (x + 0) y z) v).no) reached_first ∙ ap (λ (i : ℕ). (edit_of t root d (place i y z) v).no) c

    at_next : (j : ℕ) → o.no ≡ 0
        → (edit_of (reached_of t root d y z x (suc j) v).after (reached_of t root d y z x (suc j) v).id d (place (x + suc j) y z) v).no ≡ next_no o.after o.id (suc x) j
    at_next j on =
        let q = reached_next j ∙ bar_on d y z v t root x j on in
        let c : x + suc j ≡ suc x + j = omega arith in
        ap (λ (i : Out). (edit_of i.after i.id d (place (x + suc j) y z) v).no) q
        ∙ ap (λ (i : ℕ). (edit_of (pass_of d y z v o.after o.id (suc x) j).after (pass_of d y z v o.after o.id (suc x) j).id d (place i y z) v).no) c

    to : (bar_of t root d y z x k v).no ≡ n → Stops t root d y z x k v n
    to e = cases (ℕ_discrete o.no 0)
        (λ on.
        let s = pass_stops k o.after o.id (suc x) n h (sym (ap (λ (i : Out). i.no) (bar_on d y z v t root x k on)) ∙ e) in
        let w = s.within in
        record {
          cell = suc s.turn;
          within = omega arith;
          so_far = ap (λ (i : Out). i.no) (reached_next s.turn ∙ bar_on d y z v t root x s.turn on) ∙ s.so_far;
          number = at_next s.turn on ∙ s.number;
        })
        (λ no. record {
          cell = 0;
          within = omega arith;
          so_far = ap (λ (i : Out). i.no) reached_first;
          number = at_first ∙ sym (ap (λ (i : Out). i.no) (bar_stop d y z v t root x k no)) ∙ e;
        })

    from : (j : ℕ) → j ≤ k → (reached_of t root d y z x j v).no ≡ 0
        → (edit_of (reached_of t root d y z x j v).after (reached_of t root d y z x j v).id d (place (x + j) y z) v).no ≡ n → (bar_of t root d y z x k v).no ≡ n
    from zero w ok e =
        let f : o.no ≡ n = sym at_first ∙ e in
        ap (λ (i : Out). i.no) (bar_stop d y z v t root x k (λ i. h (sym f ∙ i))) ∙ f
    from (suc j) w ok e = cases (ℕ_discrete o.no 0)
        (λ on.
        ap (λ (i : Out). i.no) (bar_on d y z v t root x k on)
        ∙ stops_pass j k o.after o.id (suc x) n h (omega arith) (sym (ap (λ (i : Out). i.no) (reached_next j ∙ bar_on d y z v t root x j on)) ∙ ok)
        (sym (at_next j on) ∙ e))
        (λ no. absurd (no (sym (ap (λ (i : Out). i.no) (reached_next j ∙ bar_stop d y z v t root x j no)) ∙ ok)))

    -- A bar is refused with the number of its first edit that is refused, and with no other.
    pub bar_stops : ((bar_of t root d y z x k v).no ≡ n) ↔ Stops t root d y z x k v n
    bar_stops = (to, λ s. from s.cell s.within s.so_far s.number)
