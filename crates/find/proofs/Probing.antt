-- A probe ends at the slot looked for, or at an empty cell; a slot is written there.
use Prim.Native.Nat.{ℕ, zero, suc, ◌+◌, ◌-◌, ◌≤◌, ◌<◌}
use mathlib.Core.Bool.{Bool, true, false, true≢false}
use mathlib.Core.Logic.{◌⊎◌, inl, inr, ⊎_elim, ◌↔◌}
use mathlib.Core.Path.{◌≡◌, refl, sym, ap, ◌∙◌}
use mathlib.Core.List.{List}
use native.Mathlib.Decide.{ℕ_discrete, dec_lt}
use native.Mathlib.Omega.{arith}
use lib.ListN.{length, set, get_or-eq_default}
use lib.Seq.{get_or-set_same, get_or-set_other}
use lib.Dec.{eqb}
use borrow.Author.Tests.{eqb-true, eqb-false, eq-eqb, ne_eqb}
use Rattle.basics.specs.Pick.{pick}
use Rattle.find.specs.Cells.{stops, probe, Ended, insert_at, cell, Reach, Named}
use Rattle.find.proofs.Steps.{probe_end, probe_here, probe_on}

-- ---- what a stop means
stops_why : (same : ℕ → Bool) (x : ℕ) → stops same x ≡ true → (x ≡ 0) ⊎ (same x ≡ true)
unfolding stops
stops_why same x = go (eqb x 0) refl
  where
    go : (b : Bool) → eqb x 0 ≡ b → pick b true (same x) ≡ true → (x ≡ 0) ⊎ (same x ≡ true)
    go true e h = inl (eqb-true x 0 e)
    go false e h = inr h

goes_why : (same : ℕ → Bool) (x : ℕ) → stops same x ≡ false → (0 < x) × (same x ≡ false)
unfolding stops
goes_why same x = go (eqb x 0) refl
  where
    go : (b : Bool) → eqb x 0 ≡ b → pick b true (same x) ≡ false → (0 < x) × (same x ≡ false)
    go true e h = absurd (true≢false h)
    go false e h = let n : x ≡ 0 → ⊥ = eqb-false x 0 e in (omega arith, h)

-- ---- where a probe ends
pub ended : (same : ℕ → Bool) (t : List ℕ) (i : ℕ) → Ended same (cell t) i (probe same t i)
ended same t i = go (length t - i) i refl
  where
    at_end : (j : ℕ) → length t ≤ j → Ended same (cell t) j j
    at_end j h = record { from = omega arith; passed = λ q a b. absurd (omega arith); ends = inl (get_or-eq_default t 0 h) }

    here : (j : ℕ) → stops same (cell t j) ≡ true → Ended same (cell t) j j
    here j e = record { from = omega arith; passed = λ q a b. absurd (omega arith); ends = stops_why same (cell t j) e }

    on : (j r : ℕ) → stops same (cell t j) ≡ false → Ended same (cell t) (j + 1) r → Ended same (cell t) j r
    on j r e E =
        record {
          from = omega arith;
          passed = λ q a b. elim (ℕ_discrete q j) [ yes p ↦ rw p (goes_why same (cell t j) e) | no n ↦ E.passed q (omega arith) b ];
          ends = E.ends;
        }

    go : (f j : ℕ) → length t - j ≡ f → Ended same (cell t) j (probe same t j)
    go zero j e = let h : length t ≤ j = omega arith in rw (probe_end same t j h) (at_end j h)
    go (suc f) j e = by (go f (j + 1) (omega arith)) (stops same (cell t j)) refl
      where
        h : j < length t
        h = omega arith

        by : Ended same (cell t) (j + 1) (probe same t (j + 1)) → (b : Bool) → stops same (cell t j) ≡ b → Ended same (cell t) j (probe same t j)
        by ih true s = rw (probe_here same t j h s) (here j s)
        by ih false s = rw (probe_on same t j h s) (on j (probe same t (j + 1)) s ih)

-- ---- L1: a probe from a named slot's home ends at the slot; where no named slot is the same, it ends at an empty cell
pub found : (home : ℕ → ℕ) (t : List ℕ) (same : ℕ → Bool) (s p : ℕ)
    → Reach home (cell t)
    → 0 < s
    → cell t p ≡ s
    → same s ≡ true
    → ((q : ℕ) → 0 < cell t q → same (cell t q) ≡ true → cell t q ≡ s)
    → probe same t (home s) ≡ p
found home t same s p R pos e is only =
    elim (dec_lt r p) [ yes l ↦ low l | no n ↦ elim (dec_lt p r) [ yes l ↦ high l | no k ↦ omega arith ] ]
  where
    r : ℕ
    r = probe same t (home s)

    E : Ended same (cell t) (home s) r
    E = ended same t (home s)

    here : 0 < cell t p
    here = omega arith

    low : r < p → r ≡ p
    low l =
        let c : 0 < cell t r = R.filled p r here (rw e E.from) (omega arith) in
        ⊎_elim (λ z. absurd (omega arith)) (λ w. R.once r p c (only r c w ∙ sym e)) E.ends

    high : p < r → r ≡ p
    high l = absurd (true≢false (sym is ∙ ap same (sym e) ∙ (E.passed p (rw e at (R.above p here)) l).1))

pub missing : (t : List ℕ) (same : ℕ → Bool) (h : ℕ) → ((q : ℕ) → 0 < cell t q → same (cell t q) ≡ false) → cell t (probe same t h) ≡ 0
missing t same h none = ⊎_elim (λ z. z) some (ended same t h).ends
  where
    r : ℕ
    r = probe same t h

    some : same (cell t r) ≡ true → cell t r ≡ 0
    some w = elim (ℕ_discrete (cell t r) 0) [ yes z ↦ z | no n ↦ absurd (true≢false (sym w ∙ none r (omega arith))) ]

-- n + 1 numbers among 1 to n are not all different
pub pigeon : (n : ℕ) (f : ℕ → ℕ) → ((i : ℕ) → i ≤ n → (0 < f i) × (f i ≤ n)) → ((i j : ℕ) → i ≤ n → j ≤ n → f i ≡ f j → i ≡ j) → ⊥
pigeon zero f within inj = let w = within 0 (omega arith) in omega arith
pigeon (suc n) f within inj = pigeon n g g_within g_inj
  where
    v : ℕ
    v = f (suc n)

    g : ℕ → ℕ
    g i = pick (eqb (f i) (suc n)) v (f i)

    Case : ℕ → Type 0
    Case i = ((f i ≡ suc n) × (g i ≡ v)) ⊎ ((f i ≤ n) × (g i ≡ f i))

    case : (i : ℕ) → i ≤ n → Case i
    case i l = elim (ℕ_discrete (f i) (suc n)) [ yes e ↦ inl (e, rw (eq-eqb (f i) (suc n) e)) | no k ↦ inr (omega (arith, within i (omega arith)), rw (ne_eqb (f i) (suc n) k)) ]

    far : (i : ℕ) → i ≤ n → f i ≡ v → ⊥
    far i l e = omega (arith, inj i (suc n) (omega arith) (omega arith) e)

    g_within : (i : ℕ) → i ≤ n → (0 < g i) × (g i ≤ n)
    g_within i l =
        ⊎_elim
        (λ w. let k : v ≡ suc n → ⊥ = λ e. far i l (w.0 ∙ sym e) in omega (arith, within (suc n) (omega arith)))
        (λ w. omega (arith, within i (omega arith)))
        (case i l)

    g_inj : (i j : ℕ) → i ≤ n → j ≤ n → g i ≡ g j → i ≡ j
    g_inj i j a b e =
        ⊎_elim
        (λ w. ⊎_elim (λ z. inj i j (omega arith) (omega arith) (omega arith)) (λ z. absurd (far j b (omega arith))) (case j b))
        (λ w. ⊎_elim (λ z. absurd (far i a (omega arith))) (λ z. inj i j (omega arith) (omega arith) (omega arith)) (case j b))
        (case i a)

-- The cells from a home on do not run out: with c cells past the last home and every slot number below c, a probe that ends at an
-- empty cell ends inside the table.
pub room : (home : ℕ → ℕ) (t : List ℕ) (same : ℕ → Bool) (m c h : ℕ)
    → Reach home (cell t)
    → h ≤ m
    → m + c ≤ length t
    → 0 < c
    → ((p : ℕ) → cell t p < c)
    → probe same t h < length t
room home t same m c h R a b pos small = elim (dec_lt r (length t)) [ yes l ↦ l | no n ↦ absurd (pigeon (c - 1) (λ i. cell t (m + i)) (within n) (inj n)) ]
  where
    r : ℕ
    r = probe same t h

    within : (r < length t → ⊥) → (i : ℕ) → i ≤ c - 1 → (0 < cell t (m + i)) × (cell t (m + i) ≤ c - 1)
    within n i l = (((ended same t h).passed (m + i) (omega arith) (omega arith)).0, omega (arith, small (m + i)))

    inj : (r < length t → ⊥) → (i j : ℕ) → i ≤ c - 1 → j ≤ c - 1 → cell t (m + i) ≡ cell t (m + j) → i ≡ j
    inj n i j k l e = omega (arith, R.once (m + i) (m + j) (within n i k).0 e)

-- ---- L2: a new slot in the empty cell where the probe from its home ends
-- u' is u with s at e
abbrev pub Put : (u u' : ℕ → ℕ) (e s : ℕ) → Type 0
Put u u' e s = (p : ℕ) → ((p ≡ e) × (u' p ≡ s)) ⊎ ((p ≡ e → ⊥) × (u' p ≡ u p))

pub set_put : (t : List ℕ) (e s : ℕ) → e < length t → Put (cell t) (cell (set t e s)) e s
set_put t e s l p =
    elim (ℕ_discrete p e) [ yes q ↦ inl (q, rw q (get_or-set_same t e s 0 l)) | no n ↦ inr (n, get_or-set_other t e p s 0 n) ]

module _ (home u u' : ℕ → ℕ) (e s : ℕ) (P : Put u u' e s) (pos : 0 < s) (free : u e ≡ 0) where
  put_reach : Reach home u → home s ≤ e → ((q : ℕ) → home s ≤ q → q < e → 0 < u q) → ((p : ℕ) → u p ≡ s → ⊥) → Reach home u'
  put_reach R h range new =
      record {
        above = λ p a. ⊎_elim (λ w. rw w.1 (omega arith)) (λ w. rw w.1 (R.above p (omega arith))) (P p);
        filled = λ p q a b c.
            ⊎_elim
            (λ w. omega arith)
            (λ w. rw w.1 (⊎_elim (λ z. range q (rw z.1 at b) (omega arith)) (λ z. R.filled p q (omega arith) (rw z.1 at b) c) (P p)))
            (P q);
        once = λ p q a b.
            ⊎_elim
            (λ w. ⊎_elim (λ z. omega arith) (λ z. absurd (new q (omega arith))) (P q))
            (λ w. ⊎_elim (λ z. absurd (new p (omega arith))) (λ z. R.once p q (omega arith) (omega arith)) (P q))
            (P p);
      }

  put_named : (x : ℕ) → 0 < x → Named u' x ↔ (Named u x ⊎ (x ≡ s))
  put_named x l = (fwd, ⊎_elim old new)
    where
      fwd : Named u' x → Named u x ⊎ (x ≡ s)
      fwd n = ⊎_elim (λ w. inr (sym n.1 ∙ w.1)) (λ w. inl (n.0, sym w.1 ∙ n.1)) (P n.0)

      old : Named u x → Named u' x
      old n = ⊎_elim (λ w. let z : u n.0 ≡ 0 = ap u w.0 ∙ free in absurd (omega (arith, n.1))) (λ w. (n.0, w.1 ∙ n.1)) (P n.0)

      new : x ≡ s → Named u' x
      new q = (e, ⊎_elim (λ w. w.1 ∙ sym q) (λ w. absurd (w.0 refl)) (P e))

module _ (home : ℕ → ℕ) (t : List ℕ) (same : ℕ → Bool) (s : ℕ) (pos : 0 < s) (l : probe same t (home s) < length t) (free : cell t (probe same t (home s)) ≡ 0) where
  pub insert_reach : Reach home (cell t) → ((p : ℕ) → cell t p ≡ s → ⊥) → Reach home (cell (insert_at same t (home s) s))
  unfolding insert_at
  insert_reach R new =
      let E = ended same t (home s) in
      put_reach home (cell t) (cell (set t (probe same t (home s)) s)) (probe same t (home s)) s (set_put t (probe same t (home s)) s l) pos free
      R E.from (λ q a b. (E.passed q a b).0) new

  pub insert_named : (x : ℕ) → 0 < x → Named (cell (insert_at same t (home s) s)) x ↔ (Named (cell t) x ⊎ (x ≡ s))
  unfolding insert_at
  insert_named =
      put_named home (cell t) (cell (set t (probe same t (home s)) s)) (probe same t (home s)) s (set_put t (probe same t (home s)) s l) pos free
