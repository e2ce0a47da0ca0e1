-- EMPTY and leaves by the test of an id, and its parts.
use mathlib.Core.Path.{◌≡◌, sym, ap, ◌∙◌}
use mathlib.Core.Logic.{inl, inr}
use mathlib.Core.Bool.{Bool, true, false, true≢false}
use Prim.Native.Nat.{ℕ, ◌^◌}
use native.Mathlib.Omega.{arith}
use borrow.Author.Tests.{eq-eqb, ne_eqb, le-leb, lt-leb}
use Rattle.ids.specs.Ids.{is_end}
use Rattle.nodes.specs.Words.{Words, slot}
use Rattle.tree.specs.Tree.{Flat, Branch, Kind, empty, leaf, branch, kind}
use Rattle.tree.specs.Anew.{part}
use Rattle.tree.proofs.Making.{part_flat, part_branch}

pub end_flat : (a : ℕ) → Flat a → is_end a ≡ true
unfolding is_end
end_flat a (inl e) = rw (eq-eqb a 0 e)
end_flat a (inr h) = rw (ne_eqb a 0 (omega arith), le-leb (2 ^ 63) a h)

pub end_branch : (a : ℕ) → Branch a → is_end a ≡ false
unfolding is_end
end_branch a b = rw (ne_eqb a 0 b.0, lt-leb (2 ^ 63) a b.1)

pub flat_end : (a : ℕ) → is_end a ≡ true → Flat a
flat_end a h = go (kind a)
  where
    go : Kind a → Flat a
    go (empty e) = inl e
    go (leaf e) = inr e
    go (branch b) = absurd (true≢false (sym h ∙ end_branch a b))

pub branch_end : (a : ℕ) → is_end a ≡ false → Branch a
branch_end a h = go (kind a)
  where
    go : Kind a → Branch a
    go (empty e) = absurd (true≢false (sym (end_flat a (inl e)) ∙ h))
    go (leaf e) = absurd (true≢false (sym (end_flat a (inr e)) ∙ h))
    go (branch b) = b

module _ (W : Words) (a c : ℕ) (t : Bool) (e : t ≡ is_end a) where
  pub part_end : t ≡ true → a ≡ part W a c
  part_end h = sym (part_flat W a c (flat_end a (sym e ∙ h)))

  pub part_kid : (s r : ℕ) → t ≡ false → s ≡ slot a → r ≡ W s c → r ≡ part W a c
  part_kid s r h es er = er ∙ ap (λ (x : ℕ). W x c) es ∙ sym (part_branch W a c (branch_end a (sym e ∙ h)))
