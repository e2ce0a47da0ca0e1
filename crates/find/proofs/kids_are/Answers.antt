use native.Mathlib.Omega.{arith}
use borrow.Author.Rules.{rules}
use borrow.Author.Tests.{ne_eqb}
use Prim.Native.Nat.{ℕ}
use mathlib.Core.Path.{◌≡◌, sym, ◌∙◌}
use mathlib.Core.List.{List}
use mathlib.Core.Bool.{Bool}
use lib.Dec.{eqb}
use lib.ListN.{length}
use lib.Pointwise.{pointwise}
use Rattle.nodes.specs.Words.{hash, nodes, kid_of, fact_of, word_of}
use Rattle.nodes.specs.Tally.{kids_of}
use Rattle.nodes.proofs.Access.{word_fact}
use Rattle.find.specs.Content.{kids_are}
use Rattle.find.proofs.Contents.{kids_other, kids_test, kids_agree, kids_same}
use Rattle.find.proofs.kids_are.Goals as goal

module _ (k f : List ℕ) (h : ℕ) (ks : List ℕ) (s x : ℕ) (e : x ≡ fact_of f s hash) where
  word : x ≡ word_of (nodes k f) s hash
  word = e ∙ sym (word_fact (nodes k f) s hash (omega arith))

  other : (x ≡ h → ⊥) → eqb x h ≡ kids_are (word_of (nodes k f)) h ks s
  other n = ne_eqb x h n ∙ kids_other (word_of (nodes k f)) h ks s x word n

  same : (b : Bool) (own : List ℕ) → length ks ≡ 8 → x ≡ h → own ≡ kids_of 8 (kid_of k) s → b ≡ pointwise eqb own ks → b ≡ kids_are (word_of (nodes k f)) h ks s
  same b own n q p r =
      kids_test (word_of (nodes k f)) h ks s x b word q (r ∙ rw p (kids_same (kid_of k) s ks n) ∙ kids_agree k f s 0 ks (omega arith))

pub returns-then-fact-h : goal.returns-then-fact-h
returns-then-fact-h c = search (same, rules)

pub returns-else-fact-h : goal.returns-else-fact-h
returns-else-fact-h c = search other
