-- Branches by the test, parts by the table of children, and pairs that go on.
use mathlib.Core.Path.{◌≡◌, ◌∙◌, refl, sym, ap}
use mathlib.Core.Logic.{◌⊎◌, inl, inr}
use mathlib.Core.Bool.{Bool, true, false, not}
use mathlib.Core.List.{List}
use Prim.Native.Nat.{ℕ, ◌<◌}
use native.Mathlib.Decide.{ℕ_discrete}
use native.Mathlib.Omega.{arith}
use borrow.Author.Tests.{eq-eqb, ne_eqb}
use lib.Dec.{eqb}
use Rattle.basics.specs.Pick.{pick}
use Rattle.nodes.specs.Words.{nodes, kid_of, word_of, slot}
use Rattle.nodes.proofs.Access.{word_kid}
use Rattle.nodes.proofs.Sums.{cases}
use Rattle.tree.specs.Tree.{Branch, Flat, Kind, empty, leaf, branch, kind}
use Rattle.tree.specs.Anew.{part}
use Rattle.tree.proofs.Making.{part_flat, part_branch}
use Rattle.tree.proofs.Ends.{end_flat, end_branch}
use Rattle.ids.specs.Ids.{is_end}
use Rattle.read_cell.proofs.Ends.{never}
use Rattle.compare_pairs.specs.Differing.{branches, opens}
use Rattle.compare_pairs.specs.Models.{goes_on}

pub branches_yes : (a : ℕ) → Branch a → branches a ≡ true
unfolding branches
branches_yes a h = go (kind a)
  where
    go : (k : Kind a) → ◌≡◌ {A = Bool} (elim k [ empty _ ↦ false | leaf _ ↦ false | branch _ ↦ true ]) true
    go (empty e) = absurd (h.0 e)
    go (leaf e) = absurd (omega arith)
    go (branch e) = refl

pub branches_no : (a : ℕ) → Flat a → branches a ≡ false
unfolding branches
branches_no a f = go (kind a) f
  where
    go : (k : Kind a) → Flat a → ◌≡◌ {A = Bool} (elim k [ empty _ ↦ false | leaf _ ↦ false | branch _ ↦ true ]) false
    go (empty e) f = refl
    go (leaf e) f = refl
    go (branch e) (inl z) = absurd (e.0 z)
    go (branch e) (inr z) = absurd (omega arith)

pub is_branch_lem : (a : ℕ) → branches a ≡ true → Branch a
is_branch_lem a h = go (kind a)
  where
    go : Kind a → Branch a
    go (empty e) = absurd (never (sym h ∙ branches_no a (inl e)))
    go (leaf e) = absurd (never (sym h ∙ branches_no a (inr e)))
    go (branch e) = e

pub is_flat : (a : ℕ) → branches a ≡ false → Flat a
is_flat a h = go (kind a)
  where
    go : Kind a → Flat a
    go (empty e) = inl e
    go (leaf e) = inr e
    go (branch e) = absurd (never (sym (branches_yes a e) ∙ h))

-- ---- the code's tests

pub branches_is : (a : ℕ) → branches a ≡ not (is_end a)
branches_is a = go (kind a)
  where
    go : Kind a → branches a ≡ not (is_end a)
    go (empty e) = branches_no a (inl e) ∙ sym (ap not (end_flat a (inl e)))
    go (leaf e) = branches_no a (inr e) ∙ sym (ap not (end_flat a (inr e)))
    go (branch e) = branches_yes a e ∙ sym (ap not (end_branch a e))

-- the table of children alone tells
pub part_kids : (ks fs : List ℕ) (a c : ℕ) → c < 8 → part (kid_of ks) a c ≡ part (word_of (nodes ks fs)) a c
part_kids ks fs a c h = go (kind a)
  where
    flat : Flat a → part (kid_of ks) a c ≡ part (word_of (nodes ks fs)) a c
    flat f = part_flat (kid_of ks) a c f ∙ sym (part_flat (word_of (nodes ks fs)) a c f)

    go : Kind a → part (kid_of ks) a c ≡ part (word_of (nodes ks fs)) a c
    go (empty e) = flat (inl e)
    go (leaf e) = flat (inr e)
    go (branch b) =
        part_branch (kid_of ks) a c b ∙ sym (word_kid (nodes ks fs) (slot a) c h) ∙ sym (part_branch (word_of (nodes ks fs)) a c b)

-- ---- a pair that goes on has a level left and a branch; one that does not has no level left or two ends

pub on_not_last : (k a b : ℕ) → goes_on k a b ≡ true → k ≡ 0 → ⊥
unfolding goes_on
on_not_last k a b h e = never (sym h ∙ rw (eq-eqb k 0 e))

pub on_opens : (k a b : ℕ) → (a ≡ b → ⊥) → goes_on k a b ≡ true → opens a b ≡ true
unfolding goes_on opens
on_opens k a b n h =
    let q : eqb k 0 ≡ false = ne_eqb k 0 (on_not_last k a b h) in
    rw (ne_eqb a b n) (rw q at h)

pub off_ends : (k a b : ℕ) → goes_on k a b ≡ false → (k ≡ 0) ⊎ (Flat a × Flat b)
unfolding goes_on
off_ends k a b h =
    cases (ℕ_discrete k 0) (λ e. inl e) (λ e. inr (go (branches a) (branches b) refl refl (rw (ne_eqb k 0 e) at h)))
  where
    go : (x y : Bool) → branches a ≡ x → branches b ≡ y → pick (branches a) true (branches b) ≡ false → Flat a × Flat b
    go true y ex ey q = absurd (never (rw ex at q))
    go false true ex ey q = absurd (never (sym ey ∙ (rw ex at q)))
    go false false ex ey q = (is_flat a ex, is_flat b ey)

pub ends_shut : (a b : ℕ) → Flat a → Flat b → opens a b ≡ false
unfolding opens
ends_shut a b f g = go (eqb a b)
  where
    go : (t : Bool) → pick t false (pick (branches a) true (branches b)) ≡ false
    go true = refl
    go false = rw (branches_no a f) (branches_no b g)
