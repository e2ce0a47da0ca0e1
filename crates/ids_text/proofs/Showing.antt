-- What printing a text writes.
use mathlib.Core.Path.{◌≡◌, ◌∙◌, refl, sym, subst}
use mathlib.Core.Bool.{Bool, true, false}
use mathlib.Core.List.{List, []}
use Prim.Native.Nat.{ℕ}
use Rattle.std.specs.Prelude.{take}
use Rattle.std.specs.Str.{IsUtf8, is_utf8}
use Rattle.std.proofs.lemmas.Str.{IsUtf8-from_is_utf8, is_utf8-from_IsUtf8}
use Rattle.basics.specs.Pick.{pick}
use Rattle.ids_text.specs.declared.IdText.{IdText}
use Rattle.ids_text.specs.Text.{shown}

by_test : (b : Bool) (s : List ℕ) → b ≡ true → pick b s [] ≡ s
by_test b s e = rw e

by_fault : (b : Bool) (s : List ℕ) → (b ≡ true → ⊥) → pick b s [] ≡ []
by_fault true s n = absurd (n refl)
by_fault false s n = refl

pub shown_text : (t : IdText) (s : List ℕ) → s ≡ take t.len t.bytes → IsUtf8 s → s ≡ shown t
unfolding shown
shown_text t s e u = e ∙ sym (by_test (is_utf8 (take t.len t.bytes)) (take t.len t.bytes) (is_utf8-from_IsUtf8 (take t.len t.bytes) (subst IsUtf8 e u)))

pub shown_none : (t : IdText) (s : List ℕ) → s ≡ take t.len t.bytes → (IsUtf8 s → ⊥) → [] ≡ shown t
unfolding shown
shown_none t s e n = sym (by_fault (is_utf8 (take t.len t.bytes)) (take t.len t.bytes) (λ y. n (subst IsUtf8 (sym e) (IsUtf8-from_is_utf8 (take t.len t.bytes) y))))
