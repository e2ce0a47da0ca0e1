-- What the code works out of the facts is what the definitions work out of the words.
use mathlib.Core.Path.{◌≡◌, refl}
use mathlib.Core.List.{List}
use Prim.Native.Nat.{ℕ}
use Rattle.basics.specs.Limits.{cube_kids}
use Rattle.nodes.specs.Words.{fact_of, word_of, nodes}
use Rattle.nodes.specs.Values.{height_at, value_at}
use Rattle.arena.specs.Models.{top_for}
use Rattle.arena.specs.Node.{sum_for, value_for}

module _ (k f ks : List ℕ) where
  pub sum_facts : sum_for cube_kids (fact_of f) ks ≡ sum_for cube_kids (word_of (nodes k f)) ks
  unfolding sum_for value_at word_of
  sum_facts = refl

  pub value_facts : value_for cube_kids (fact_of f) ks ≡ value_for cube_kids (word_of (nodes k f)) ks
  unfolding value_for value_at word_of
  value_facts = refl

  pub top_facts : top_for (fact_of f) ks cube_kids ≡ top_for (word_of (nodes k f)) ks cube_kids
  unfolding top_for height_at word_of
  top_facts = refl
