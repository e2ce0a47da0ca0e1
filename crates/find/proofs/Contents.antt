-- A content compared, and the homes: a slot's home depends on its hash alone.
use mathlib.Core.Path.{◌≡◌, refl, sym, ap, ◌∙◌, subst}
use mathlib.Core.Bool.{Bool, true, false, true≢false, ◌&&◌}
use mathlib.Core.List.{List, [], ◌∷◌}
use Prim.Native.Nat.{ℕ, zero, suc, ◌+◌, ◌-◌, ◌≤◌, ◌<◌}
use native.Mathlib.Decide.{ℕ_discrete}
use native.Mathlib.Omega.{arith}
use lib.Dec.{eqb}
use lib.ListN.{length, get_or}
use lib.Pointwise.{pointwise}
use native.Mathlib.Numerals.{add-one}
use borrow.Author.Tests.{eq-eqb, ne_eqb, eqb-true}
use Rattle.basics.specs.Pick.{pick}
use Rattle.ids.specs.Ids.{is_leaf}
use Rattle.nodes.specs.Tally.{tab_from, kids_of}
use Rattle.nodes.specs.Words.{Words, nodes, kid_of, fact_of, word_of, value, own, hash}
use Rattle.nodes.proofs.Access.{word_kid}
use Rattle.nodes.proofs.Sums.{cases, split, tab_at, tab_list}
use Rattle.find.specs.Cells.{stops, probe_n, probe, cell, leaf_cell}
use Rattle.find.specs.Content.{agree, leaf_is, kids_are, home_at}

-- the children of slot s, read at once
pub own_at : (j : ℕ) → j < 8 → (U : Words) (s : ℕ) (own : List ℕ) → own ≡ kids_of 8 U s → get_or own j 0 ≡ U s j
unfolding kids_of
own_at j l U s own is = let z : 0 + j ≡ j = omega arith in ap (λ (x : List ℕ). get_or x j 0) is ∙ tab_at 8 0 (U s) j l ∙ ap (U s) z

-- ---- the content compared

pub agree_true : (W : Words) (s i : ℕ) (ks : List ℕ) → ((j : ℕ) → j < length ks → W s (i + j) ≡ get_or ks j 0) → agree W s i ks ≡ true
unfolding agree
agree_true W s i [] h = refl
agree_true W s i (k ∷ ks) h =
    let e : i + 0 ≡ i = omega arith in
    let w : W s i ≡ k = ap (W s) (sym e) ∙ h 0 (omega arith) in
    let r = agree_true W s (i + 1) ks (λ j m. let q : i + 1 + j ≡ i + suc j = omega arith in ap (W s) q ∙ h (suc j) (omega arith)) in
    rw (eq-eqb (W s i) k w) r

pub agree_words : (W : Words) (s i : ℕ) (ks : List ℕ) → agree W s i ks ≡ true → (j : ℕ) → j < length ks → W s (i + j) ≡ get_or ks j 0
unfolding agree
agree_words W s i [] a j m = absurd (omega arith)
agree_words W s i (k ∷ ks) a zero m = go (eqb (W s i) k) refl a
  where
    go : (b : Bool) → eqb (W s i) k ≡ b → pick b (agree W s (i + 1) ks) false ≡ true → W s (i + 0) ≡ k
    go true e q = let z : i + 0 ≡ i = omega arith in ap (W s) z ∙ eqb-true (W s i) k e
    go false e q = absurd (true≢false (sym q))
agree_words W s i (k ∷ ks) a (suc j) m =
    let z : i + suc j ≡ i + 1 + j = omega arith in
    ap (W s) z ∙ agree_words W s (i + 1) ks (go (eqb (W s i) k) a) j (omega arith)
  where
    go : (b : Bool) → pick b (agree W s (i + 1) ks) false ≡ true → agree W s (i + 1) ks ≡ true
    go true q = q
    go false q = absurd (true≢false (sym q))

-- what `==` says of the children of slot s and others
and_rest : (b : Bool) {r s : Bool} → r ≡ s → (b && r) ≡ pick b s false
and_rest true e = e
and_rest false e = refl

tab_same : (W : Words) (s n i : ℕ) (ks : List ℕ) → length ks ≡ n → pointwise eqb (tab_from n i (W s)) ks ≡ agree W s i ks
unfolding tab_from agree
tab_same W s zero i [] e = refl
tab_same W s zero i (k ∷ ks) e = absurd (omega arith)
tab_same W s (suc n) i [] e = absurd (omega arith)
tab_same W s (suc n) i (k ∷ ks) e = rw add-one (and_rest (eqb (W s i) k) (tab_same W s n (suc i) ks (omega arith)))

pub kids_same : (W : Words) (s : ℕ) (ks : List ℕ) → length ks ≡ 8 → pointwise eqb (kids_of 8 W s) ks ≡ agree W s 0 ks
unfolding kids_of
kids_same W s ks e = tab_same W s 8 0 ks e

-- ---- a leaf, and a branch

module _ (W : Words) (h v s : ℕ) where
  pub leaf_true : W s hash ≡ h → is_leaf (W s own) ≡ true → W s value ≡ v → leaf_is W h v s ≡ true
  unfolding leaf_is
  leaf_true a b c = rw (eq-eqb (W s hash) h a, b) (eq-eqb (W s value) v c)

  pub leaf_words : leaf_is W h v s ≡ true → (W s hash ≡ h) × (is_leaf (W s own) ≡ true) × (W s value ≡ v)
  unfolding leaf_is
  leaf_words e = split (eqb (W s hash) h)
      (λ a. split (is_leaf (W s own)) (λ b. (eqb-true (W s hash) h a, b, eqb-true (W s value) v (rw (a, b) at e))) (λ b. absurd (true≢false (sym (rw (a, b) at e)))))
      (λ a. absurd (true≢false (sym (rw a at e))))

  -- what the code tests, one after the other
  pub leaf_other : (x : ℕ) → x ≡ W s hash → (x ≡ h → ⊥) → false ≡ leaf_is W h v s
  unfolding leaf_is
  leaf_other x e n = rw (ne_eqb (W s hash) h (λ q. n (e ∙ q)))

  pub leaf_none : (x o : ℕ) (b : Bool) → x ≡ W s hash → x ≡ h → o ≡ W s own → b ≡ is_leaf o → b ≡ false → false ≡ leaf_is W h v s
  unfolding leaf_is
  leaf_none x o b e q i f g = let z : is_leaf (W s own) ≡ false = ap is_leaf (sym i) ∙ sym f ∙ g in rw (eq-eqb (W s hash) h (sym e ∙ q), z)

  pub leaf_test : (x o y : ℕ) (b : Bool) → x ≡ W s hash → x ≡ h → o ≡ W s own → b ≡ is_leaf o → b ≡ true → y ≡ W s value → eqb y v ≡ leaf_is W h v s
  unfolding leaf_is
  leaf_test x o y b e q i f g z =
      let l : is_leaf (W s own) ≡ true = ap is_leaf (sym i) ∙ sym f ∙ g in rw (eq-eqb (W s hash) h (sym e ∙ q), l) (ap (λ (w : ℕ). eqb w v) z)

module _ (W : Words) (h : ℕ) (ks : List ℕ) (s : ℕ) where
  pub kids_true : length ks ≡ 8 → W s hash ≡ h → ((i : ℕ) → i < 8 → W s i ≡ get_or ks i 0) → kids_are W h ks s ≡ true
  unfolding kids_are
  kids_true n a e = rw (eq-eqb (W s hash) h a) (agree_true W s 0 ks (λ j m. let z : 0 + j ≡ j = omega arith in rw z (e j (omega arith))))

  pub kids_words : length ks ≡ 8 → kids_are W h ks s ≡ true → (W s hash ≡ h) × ((i : ℕ) → i < 8 → W s i ≡ get_or ks i 0)
  unfolding kids_are
  kids_words n e = split (eqb (W s hash) h)
      (λ a. (eqb-true (W s hash) h a, (λ i m. let z : 0 + i ≡ i = omega arith in ap (W s) (sym z) ∙ agree_words W s 0 ks (rw a at e) i (omega arith))))
      (λ a. absurd (true≢false (sym (rw a at e))))

  pub kids_other : (x : ℕ) → x ≡ W s hash → (x ≡ h → ⊥) → false ≡ kids_are W h ks s
  unfolding kids_are
  kids_other x e n = rw (ne_eqb (W s hash) h (λ q. n (e ∙ q)))

  pub kids_test : (x : ℕ) (b : Bool) → x ≡ W s hash → x ≡ h → b ≡ agree W s 0 ks → b ≡ kids_are W h ks s
  unfolding kids_are
  kids_test x b e q f = rw (eq-eqb (W s hash) h (sym e ∙ q)) f

-- the facts say whether a slot has a leaf
pub leaf_facts : (t : List ℕ) (c : ℕ) (k f : List ℕ) (h v : ℕ) → leaf_cell t c (fact_of f) h v ≡ leaf_cell t c (word_of (nodes k f)) h v
unfolding leaf_cell leaf_is word_of
leaf_facts t c k f h v = refl

-- the words of a slot begin with its children
pub kids_agree : (k f : List ℕ) (s i : ℕ) (ks : List ℕ) → i + length ks ≤ 8 → agree (kid_of k) s i ks ≡ agree (word_of (nodes k f)) s i ks
unfolding agree
kids_agree k f s i [] h = refl
kids_agree k f s i (x ∷ ks) h = rw (word_kid (nodes k f) s i (omega arith), kids_agree k f s (i + 1) ks (omega arith))

-- ---- homes

pub home_same : (cap : ℕ) (W W' : Words) (s : ℕ) → W' s hash ≡ W s hash → home_at cap W' s ≡ home_at cap W s
unfolding home_at
home_same cap W W' s e = rw e

-- the content of a slot is its words
pub kids_are_lem : (W : Words) (s : ℕ) (ks : List ℕ) → length ks ≡ 8 → ((i : ℕ) → i < 8 → W s i ≡ get_or ks i 0) → kids_of 8 W s ≡ ks
unfolding kids_of
kids_are_lem W s ks e h = subst (λ (n : ℕ). tab_from n 0 (W s) ≡ ks) e (tab_list ks 0 (W s) (λ j l. let q : 0 + j ≡ j = omega arith in rw q (h j (omega arith))))

-- ---- probes

-- two tests that agree on what the table names lead to the same cell
stops_as : (same other : ℕ → Bool) (x : ℕ) → (0 < x → same x ≡ other x) → stops same x ≡ stops other x
unfolding stops
stops_as same other x h = cases (ℕ_discrete x 0) (λ z. rw (eq-eqb x 0 z)) (λ z. rw (ne_eqb x 0 z) (h (omega arith)))

probe_n_as_lem : (same other : ℕ → Bool) (t : List ℕ) (f i : ℕ) → ((q : ℕ) → 0 < cell t q → same (cell t q) ≡ other (cell t q)) → probe_n same t f i ≡ probe_n other t f i
unfolding probe_n
probe_n_as_lem same other t zero i h = refl
probe_n_as_lem same other t (suc f) i h =
    let e = stops_as same other (get_or t i 0) (h i) in
    let r = probe_n_as_lem same other t f (suc i) h in
    rw (e, r)

pub probe_as : (same other : ℕ → Bool) (t : List ℕ) (i : ℕ) → ((q : ℕ) → 0 < cell t q → same (cell t q) ≡ other (cell t q)) → probe same t i ≡ probe other t i
unfolding probe
probe_as same other t i h = probe_n_as_lem same other t (length t - i) i h

-- has a slot the leaf looked for?
pub ruleset leaf_rules = (leaf_other, leaf_none, leaf_test)
