-- What a list of changes does to plain numbers: the order of distinct cells does not matter, of two changes at one cell the last decides, and lists with no cell in
-- common can be interleaved in any way.
use mathlib.Core.Path.{◌≡◌, refl, sym, ap, subst, ◌∙◌}
use mathlib.Core.Logic.{◌≢◌, ◌⊎◌, inl, inr}
use mathlib.Core.Bool.{Bool, true, false, true≢false}
use mathlib.Core.List.{List, [], ◌∷◌, ◌++◌, Permᴰ}
use Prim.Native.Nat.{ℕ}
use Rattle.basics.specs.Pick.{pick}
use Rattle.nodes.proofs.Sums.{split}
use Rattle.lists.specs.Changes.{Change, changed, entered, Not-at, Distinct, Disjoint, names, last_only, Interleaved, none, first, second}

-- ## Cells of a list, in any order

module _ {C : Type 0} where
  not_at_order : (s : C) {es fs : List (Change C)} → Permᴰ es fs → Not-at s es → Not-at s fs
  not_at_order s Permᴰ.nil h = h
  not_at_order s (Permᴰ.cons e t) h = (subst (λ (c : Change C). s ≢ c.cell) e h.0, not_at_order s t h.1)
  not_at_order s (Permᴰ.swap e f) h = (subst (λ (c : Change C). s ≢ c.cell) f h.1.0, (subst (λ (c : Change C). s ≢ c.cell) e h.0, h.1.1))
  not_at_order s (Permᴰ.trans t u) h = not_at_order s u (not_at_order s t h)

  distinct_order : {es fs : List (Change C)} → Permᴰ es fs → Distinct es → Distinct fs
  distinct_order Permᴰ.nil h = h
  distinct_order (Permᴰ.cons {b = b} {l₁ = es} e t) h =
      (not_at_order b.cell t (subst (λ (c : Change C). Not-at c.cell es) e h.0), distinct_order t h.1)
  distinct_order (Permᴰ.swap {a = a} {b = b} {a' = a'} {l = l} e f) h = (
    (
      λ q. h.0.0 (ap (λ (c : Change C). c.cell) e ∙ sym q ∙ ap (λ (c : Change C). c.cell) (sym f)),
      subst (λ (c : Change C). Not-at c.cell l) f h.1.0,
    ),
    (subst (λ (c : Change C). Not-at c.cell l) e h.0.1, h.1.1),
  )
  distinct_order (Permᴰ.trans t u) h = distinct_order u (distinct_order t h)

-- ## What `same` tells

module _ {C : Type 0} (same : C → C → Bool) (yes-one : (s c : C) → same s c ≡ true → s ≡ c) (no_two : (s c : C) → same s c ≡ false → s ≢ c) where
  same_self : (s : C) → same s s ≡ true
  same_self s = split (same s s) (λ q. q) (λ q. absurd (no_two s s q refl))

  -- ## One change

  pub changed_here : (F : C → ℕ) (c : C) (v : ℕ) → changed same F c v c ≡ v
  unfolding changed
  changed_here F c v = rw (same_self c)

  pub changed_off : (F : C → ℕ) (c : C) (v : ℕ) (s : C) → s ≢ c → changed same F c v s ≡ F s
  unfolding changed
  changed_off F c v s h = split (same s c) (λ q. absurd (h (yes-one s c q))) (λ q. rw q)

  changed_at : (F G : C → ℕ) (c : C) (v : ℕ) (s : C) → F s ≡ G s → changed same F c v s ≡ changed same G c v s
  unfolding changed
  changed_at F G c v s e = ap (pick (same s c) v) e

  -- changes of different cells can be entered in either order
  changed_swap : (F : C → ℕ) (c e : C) (v w : ℕ) (s : C) → c ≢ e → changed same (changed same F c v) e w s ≡ changed same (changed same F e w) c v s
  unfolding changed
  changed_swap F c e v w s h = split (same s c)
      (λ p. split (same s e) (λ q. absurd (h (sym (yes-one s c p) ∙ yes-one s e q))) (λ q. rw (p, q)))
      (λ p. rw p)

  -- ## A list

  -- a cell after the list depends on no other cell before it
  pub entered_at : (F G : C → ℕ) (es : List (Change C)) (s : C) → F s ≡ G s → entered same F es s ≡ entered same G es s
  unfolding entered
  entered_at F G [] s e = e
  entered_at F G (c ∷ es) s e =
      entered_at (changed same F c.cell c.value) (changed same G c.cell c.value) es s (changed_at F G c.cell c.value s e)

  -- where the list changes nothing the numbers are the old ones
  pub entered_off : (F : C → ℕ) (es : List (Change C)) (s : C) → Not-at s es → entered same F es s ≡ F s
  unfolding entered
  entered_off F [] s h = refl
  entered_off F (c ∷ es) s h = entered_off (changed same F c.cell c.value) es s h.1 ∙ changed_off F c.cell c.value s h.0

  entered_then : (F : C → ℕ) (es fs : List (Change C)) → entered same F (es ++ fs) ≡ entered same (entered same F es) fs
  unfolding entered
  entered_then F [] fs = refl
  entered_then F (c ∷ es) fs = entered_then (changed same F c.cell c.value) es fs

  -- The last value entered for a cell decides: what comes before it, in the list or at the start, does not count.
  pub last_decides : (F : C → ℕ) (es : List (Change C)) (c : Change C) (fs : List (Change C)) → Not-at c.cell fs
      → entered same F (es ++ c ∷ fs) c.cell ≡ c.value
  unfolding entered
  last_decides F es c fs h =
      ap (λ (G : C → ℕ). G c.cell) (entered_then F es (c ∷ fs))
      ∙ entered_off (changed same (entered same F es) c.cell c.value) fs c.cell h
      ∙ changed_here (entered same F es) c.cell c.value

  -- ## Any order

  -- Any two orders of one list, all cells distinct, do the same to every cell.
  pub entered_order : {es fs : List (Change C)} → Permᴰ es fs → Distinct es → (F : C → ℕ) (s : C) → entered same F es s ≡ entered same F fs s
  unfolding entered
  entered_order Permᴰ.nil h F s = refl
  entered_order (Permᴰ.cons {a = a} {l₂ = fs} e t) h F s =
      entered_order t h.1 (changed same F a.cell a.value) s ∙ ap (λ (c : Change C). entered same (changed same F c.cell c.value) fs s) e
  entered_order (Permᴰ.swap {a = a} {b = b} {b' = b'} {l = l} e f) h F s =
      entered_at (changed same (changed same F a.cell a.value) b.cell b.value) (changed same (changed same F b.cell b.value) a.cell a.value) l s
      (changed_swap F a.cell b.cell a.value b.value s h.0.0)
      ∙ ap (λ (c : Change C). entered same (changed same (changed same F b.cell b.value) c.cell c.value) l s) e
      ∙ ap (λ (c : Change C). entered same (changed same (changed same F c.cell c.value) b'.cell b'.value) l s) f
  entered_order (Permᴰ.trans t u) h F s = entered_order t h F s ∙ entered_order u (distinct_order t h) F s

  -- ## Only the last values

  -- a cell that the list names does not show what it held before
  overruled : (es : List (Change C)) (s : C) → names same es s ≡ true → (F G : C → ℕ) → entered same F es s ≡ entered same G es s
  unfolding entered names changed
  overruled [] s h F G = absurd (true≢false (sym h))
  overruled (e ∷ es) s h F G =
      let f = changed same F e.cell e.value in
      let g = changed same G e.cell e.value in
      split (same s e.cell) (λ q. entered_at f g es s (rw q)) (λ q. overruled es s (rw q at h) f g)

  -- Entering only the last values does the same to every cell.
  pub entered_last : (es : List (Change C)) (F : C → ℕ) (s : C) → entered same F (last_only same es) s ≡ entered same F es s
  unfolding entered last_only
  entered_last [] F s = refl
  entered_last (e ∷ es) F s =
      let f = changed same F e.cell e.value in
      split (names same es e.cell)
      (λ q. rw q
      (entered_last es F s
      ∙ split (same s e.cell)
      (λ p. overruled es s (ap (names same es) (yes-one s e.cell p) ∙ q) F f)
      (λ p. entered_at F f es s (sym (changed_off F e.cell e.value s (no_two s e.cell p))))))
      (λ q. rw q (entered_last es f s))

  not_named : (es : List (Change C)) (s : C) → names same es s ≡ false → Not-at s es
  unfolding names
  not_named [] s h = tt
  not_named (e ∷ es) s h =
      split (same s e.cell) (λ q. absurd (true≢false (rw q at h))) (λ q. (no_two s e.cell q, not_named es s (rw q at h)))

  not_at_last : (s : C) (es : List (Change C)) → Not-at s es → Not-at s (last_only same es)
  unfolding last_only
  not_at_last s [] h = tt
  not_at_last s (e ∷ es) h = split (names same es e.cell) (λ q. rw q (not_at_last s es h.1)) (λ q. rw q (h.0, not_at_last s es h.1))

  -- What is left has distinct cells.
  pub distinct_last : (es : List (Change C)) → Distinct (last_only same es)
  unfolding last_only
  distinct_last [] = tt
  distinct_last (e ∷ es) =
      split (names same es e.cell)
      (λ q. rw q (distinct_last es))
      (λ q. rw q (not_at_last e.cell es (not_named es e.cell q), distinct_last es))

  -- ## Two lists as they come

  -- a cell that one of them has not shows what the other does
  first_shown : {es fs gs : List (Change C)} → Interleaved es fs gs → (F : C → ℕ) (s : C) → Not-at s fs → entered same F gs s ≡ entered same F es s
  unfolding entered
  first_shown none F s h = refl
  first_shown (first e m) F s h = first_shown m (changed same F e.cell e.value) s h
  first_shown (second {es = es} e m) F s h =
      first_shown m (changed same F e.cell e.value) s h.1
      ∙ entered_at (changed same F e.cell e.value) F es s (changed_off F e.cell e.value s h.0)

  second_shown : {es fs gs : List (Change C)} → Interleaved es fs gs → (F : C → ℕ) (s : C) → Not-at s es → entered same F gs s ≡ entered same F fs s
  unfolding entered
  second_shown none F s h = refl
  second_shown (first {fs = fs} e m) F s h =
      second_shown m (changed same F e.cell e.value) s h.1
      ∙ entered_at (changed same F e.cell e.value) F fs s (changed_off F e.cell e.value s h.0)
  second_shown (second e m) F s h = second_shown m (changed same F e.cell e.value) s h

  -- a cell is not in the one list or not in the other
  in_one : (es fs : List (Change C)) → Disjoint es fs → (s : C) → Not-at s es ⊎ Not-at s fs
  in_one [] fs h s = inl tt
  in_one (e ∷ es) fs h s = split (same s e.cell)
      (λ q. inr (subst (λ (c : C). Not-at c fs) (sym (yes-one s e.cell q)) h.0))
      (λ q. more (no_two s e.cell q) (in_one es fs h.1 s))
    where
      more : s ≢ e.cell → Not-at s es ⊎ Not-at s fs → Not-at s (e ∷ es) ⊎ Not-at s fs
      more n (inl k) = inl (n, k)
      more n (inr k) = inr k

  -- Two lists with no cell in common, each in its own order, do the same to every cell in whatever way they are interleaved.
  pub entered_interleaved : {es fs gs hs : List (Change C)} → Disjoint es fs → Interleaved es fs gs → Interleaved es fs hs → (F : C → ℕ) (s : C)
      → entered same F gs s ≡ entered same F hs s
  entered_interleaved {es} {fs} {gs} {hs} apart m k F s = go (in_one es fs apart s)
    where
      go : Not-at s es ⊎ Not-at s fs → entered same F gs s ≡ entered same F hs s
      go (inl h) = second_shown m F s h ∙ sym (second_shown k F s h)
      go (inr h) = first_shown m F s h ∙ sym (first_shown k F s h)
