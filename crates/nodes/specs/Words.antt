-- Where a node's words lie. Two lent tables hold a slot's words: `kids` the eight children, eight words a slot, and `facts` the rest, eleven words of 32 bits
-- a slot: the low and the high half of the own word, and then each fact in a word of its own, the hashes apart from the others. `W s f` is the word f of the slot s.
use Rattle.std.specs.Prelude.{Bool, false, List, [], ◌∷◌, ℕ, suc, ◌+◌, ◌-◌, ◌*◌, ◌/◌, ◌%◌, ◌^◌, eqb, ltb, length, get_or, set}
use Rattle.basics.specs.Limits.{kid_words, fact_words, row_words}
use Rattle.basics.specs.Pick.{pick}
use Rattle.ids.specs.Ids.{index_of}

-- ## The words: 0 to 7 are the children

-- the whole id of a live node; in a dead slot the generation times 2^32
abbrev pub own : ℕ
own = kid_words

-- the stored value
abbrev pub value : ℕ
value = 9

abbrev pub height : ℕ
height = 10

-- the sum of the children's stored values
abbrev pub sum : ℕ
sum = 11

-- 0
abbrev pub spare : ℕ
spare = 12

-- the hash of the content
abbrev pub hash : ℕ
hash = 13

-- the callers' holds
abbrev pub holds : ℕ
holds = 14

-- the child places of live branches that name it
abbrev pub places : ℕ
places = 15

-- in a freed slot its number on the stack of freed slots; else 0, but while the check counts in it
abbrev pub mark : ℕ
mark = 16

-- entry s of the stack of freed slots, which is no word of the node in slot s
abbrev pub entry : ℕ
entry = 17

-- ## A table of r words a slot. What lies outside the table reads 0 and is not written; a slot for whose r words it has no room lies outside

-- slot s lies in the table: slot numbers are below 2^32
unfoldable pub row_in : ℕ → List ℕ → ℕ → Bool
row_in r l s = pick (ltb s (2 ^ 32)) (ltb (r * s + (r - 1)) (length l)) false

-- where the words stand: word p of slot s at `at n s p` in a table of n words
abbrev pub Place : Type 0
Place = ℕ → ℕ → ℕ → ℕ

-- word p of slot s
unfoldable pub row_at : ℕ → Place → List ℕ → ℕ → ℕ → ℕ
row_at r at l s p = pick (ltb p r) (pick (row_in r l s) (get_or l (at (length l) s p) 0) 0) 0

-- it is written
unfoldable pub row_set : ℕ → Place → List ℕ → ℕ → ℕ → ℕ → List ℕ
row_set r at l s p v = pick (ltb p r) (pick (row_in r l s) (set l (at (length l) s p) v) l) l

-- its words p, p + 1, .. are written
unfoldable pub row_from : ℕ → Place → List ℕ → ℕ → ℕ → List ℕ → List ℕ
row_from r at l s p [] = l
row_from r at l s p (v ∷ vs) = row_from r at (row_set r at l s p v) s (suc p) vs

-- ## The places of the words

-- rows of r words, one after the other
abbrev pub in_rows : ℕ → Place
in_rows r n s p = r * s + p

-- the first words of row s are written
unfoldable pub row_put : ℕ → List ℕ → ℕ → List ℕ → List ℕ
row_put r l s vs = row_from r (in_rows r) l s 0 vs

-- A slot's eleven words in `facts`: own low 0, own high 1, value 2, height 3, sum 4, spare 5, hash 6, holds 7, places 8, mark 9, entry 10, so that fact f is
-- word f - 7. All but the hash stand in rows of ten words, in this order: those after the hash one before their number. The hashes stand at the end of the
-- table, counted backwards: the last word is the hash of slot 0. A slot s that lies in the table, 11·s + 10 < n, has its hash past every such slot's row.
abbrev pub in_facts : Place
in_facts n s p = pick (eqb p (hash - 7)) (n - 1 - s) (row_words * s + pick (ltb p (hash - 7)) p (p - 1))

-- ## The two tables

pub record Nodes : Type 0 where
  pub kids : List ℕ
  pub facts : List ℕ

abbrev pub nodes : List ℕ → List ℕ → Nodes
nodes k f = record { kids = k; facts = f }

abbrev pub Words : Type 0
Words = ℕ → ℕ → ℕ

unfoldable pub kid_of : List ℕ → Words
kid_of l s i = row_at kid_words (in_rows kid_words) l s i

unfoldable pub fact_of : List ℕ → Words
fact_of l s f =
    pick (eqb f own) (row_at fact_words in_facts l s 0 + 2 ^ 32 * row_at fact_words in_facts l s 1)
    (pick (ltb f own) 0 (row_at fact_words in_facts l s (f - 7)))

unfoldable pub word_of : Nodes → Words
word_of x s f = pick (ltb f kid_words) (kid_of x.kids s f) (fact_of x.facts s f)

-- one of the facts written, but for the own word
unfoldable pub fact_put : List ℕ → ℕ → ℕ → ℕ → List ℕ
fact_put l s f v = pick (ltb own f) (row_set fact_words in_facts l s (f - 7) v) l

unfoldable pub put_of : Nodes → ℕ → ℕ → ℕ → Nodes
put_of x s f v = nodes x.kids (fact_put x.facts s f v)

-- the facts from the own word to the mark written, in order; the entry is no node's
unfoldable pub facts_put : List ℕ → ℕ → List ℕ → List ℕ
facts_put l s [] = l
facts_put l s (o ∷ fs) = row_from fact_words in_facts l s 0 (o % 2 ^ 32 ∷ o / 2 ^ 32 ∷ fs)

-- a whole slot written: its eight children, and its facts from the own word to the mark
unfoldable pub written : Nodes → ℕ → List ℕ → List ℕ → Nodes
written x s ks fs = nodes (row_put kid_words x.kids s ks) (facts_put x.facts s fs)

-- ## Ids and own words

-- the slot of an id: its index
unfoldable pub slot : ℕ → ℕ
slot x = index_of x

-- 2^47, the lowest id with a mask bit or the leaf flag: an own word from here on is the id of a live node, below it is a dead slot's
unfoldable pub floor : ℕ
floor = 2 ^ 47
