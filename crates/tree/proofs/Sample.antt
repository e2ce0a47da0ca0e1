-- The definitions can be met, and they compute: two fresh slots are well made, and so they are with a leaf of value 5 in slot 1, which reads 5.
use mathlib.Core.Path.{◌≡◌, refl}
use mathlib.Core.List.{List, [], ◌∷◌}
use Prim.Native.Nat.{ℕ, zero, suc, ◌≤◌, ◌<◌}
use native.Mathlib.Decide.{dec_le}
use native.Mathlib.Omega.{arith}
use lib.ListN.{replicate}
use Rattle.ids.specs.Ids.{index_of}
use Rattle.nodes.specs.Words.{row_in, row_at, row_set, row_from, row_put, Nodes, nodes, own, fact_of, word_of, facts_put, written, slot, floor}
use Rattle.nodes.specs.Tally.{Live}
use Rattle.nodes.proofs.Access.{written_others}
use Rattle.tree.specs.Tree.{WellMade, look, kind}
use Rattle.nodes.specs.Values.{value_at, height_at}
use Rattle.tree.proofs.OneNode.{Added, added_made}

-- ## Two slots, never given out

abbrev pub fresh : Nodes
fresh = nodes (replicate 16 0) (replicate 22 0)

fresh_own : (s : ℕ) → s < 2 → word_of fresh s own ≡ 0
unfolding word_of fact_of row_at row_in
fresh_own zero h = refl
fresh_own (suc zero) h = refl
fresh_own (suc (suc s)) h = absurd (omega arith)

fresh_dead : (a : ℕ) → ¬ (Live 2 (word_of fresh) a)
unfolding floor
fresh_dead a l = omega (arith, fresh_own (slot a) l.low, l.is, l.high)

pub fresh_made : (n : ℕ) → WellMade n 2 (word_of fresh)
fresh_made n =
    record {
      leaves = λ a l. absurd (fresh_dead a l);
      branches = λ a l. absurd (fresh_dead a l);
      one_leaf = λ a b l. absurd (fresh_dead a l);
      one_branch = λ a b l. absurd (fresh_dead a l);
    }

-- ## A leaf

-- W10's id: leaf, index 1, generation 0
abbrev pub five : ℕ
five = 0x8000000000000001

-- no children; its id, value 5, height 0, sum 0, spare 0, the hash of 5, one hold, no place, mark 0
abbrev none : List ℕ
none = 0 ∷ 0 ∷ 0 ∷ 0 ∷ 0 ∷ 0 ∷ 0 ∷ 0 ∷ []

abbrev facts : List ℕ
facts = 5 ∷ 0 ∷ 0 ∷ 0 ∷ 0x17156075 ∷ 1 ∷ 0 ∷ 0 ∷ []

abbrev pub with_five : Nodes
with_five = written fresh 1 none (five ∷ facts)

five_slot : slot five ≡ 1
unfolding slot index_of
five_slot = refl

five_own : word_of with_five 1 own ≡ five
unfolding word_of fact_of row_at row_in written facts_put row_put row_from row_set
five_own = refl

five_live : Live 2 (word_of with_five) five
unfolding floor
five_live = record { low = rw five_slot (omega arith); is = rw five_slot five_own; high = omega arith }

added : Added 2 (word_of fresh) (word_of with_five) five
added =
    record {
      dead = rw (five_slot, fresh_own 1 (omega arith)) (omega (arith, Rattle.nodes.proofs.Counts.floor_pos));
      now = five_live;
      rest = λ s h f k. written_others fresh 1 none five facts refl refl s f (rw five_slot at h) (omega arith);
    }

five_value : value_at (word_of with_five) five ≡ 5
unfolding value_at slot index_of word_of fact_of row_at row_in written facts_put row_put row_from row_set
five_value = refl

five_height : height_at (word_of with_five) five ≡ 0
unfolding height_at slot index_of word_of fact_of row_at row_in written facts_put row_put row_from row_set
five_height = refl

pub five_made : (n : ℕ) → n ≤ 8 → WellMade n 2 (word_of with_five)
five_made n h =
    added_made h (fresh_made n) added
    (λ l. record { something = λ e. omega (arith, five_value, e); flat = five_height })
    (λ b. absurd (omega (arith, b.1)))
    (λ b l. absurd (fresh_dead b l))
    (λ b l. absurd (fresh_dead b l))

-- ## Lookup computes

pub reads : look (word_of with_five) (3 ∷ 7 ∷ []) five ≡ 5
unfolding look kind dec_le value_at slot index_of word_of fact_of row_at row_in written facts_put row_put row_from row_set
reads = refl
