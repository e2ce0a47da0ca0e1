-- What is seen of an arena is what it is lent with.
use mathlib.Core.Path.{◌≡◌, refl, ap, ◌∙◌}
use mathlib.Core.List.{List}
use Prim.Native.Nat.{ℕ}
use Rattle.arena.specs.Calls.{there_no}
use Rattle.arena.specs.Lent.{before}
use Rattle.arena.specs.Seen.{Shows, seen_in}
use Rattle.arena.specs.declared.Arena.{Arena}
use Rattle.arena.specs.declared.Seen.{Seen}

module _ (s : Seen) (a : Arena) (k f e : List ℕ) (h : Shows s a k f e) where
  pub seen_before : seen_in s ≡ before a k f e
  seen_before = rw (h.0, h.1, h.2, h.3, h.4) refl

  pub named_before : (id x : ℕ) → x ≡ there_no (seen_in s) id → x ≡ there_no (before a k f e) id
  named_before id x q = q ∙ ap (λ t. there_no t id) seen_before
