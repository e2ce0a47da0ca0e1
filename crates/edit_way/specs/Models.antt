-- What the functions answer, of any tables: mirrors of the code. No reader has to believe them.
use Rattle.ids.specs.Ids.{is_end}
use Rattle.std.specs.Prelude.{List, ℕ, zero, suc, ◌+◌, ◌*◌, leb, set, replicate}
use Rattle.basics.specs.Limits.{deepest, kid_words}
use Rattle.basics.specs.Pick.{pick}
use Rattle.nodes.specs.Words.{Words, hash, slot}
use Rattle.nodes.specs.Tally.{tab_from}
use Rattle.find_hash.specs.Hash.{even_hash}
use Rattle.paths.specs.declared.Cell.{Cell}
use Rattle.paths.specs.Paths.{octant}
use Rattle.tree.specs.Anew.{part}
use Rattle.edit_way.specs.declared.Way.{Way}

-- the eight parts of an id
unfoldable pub eight_parts : Words → ℕ → List ℕ
eight_parts U a = tab_from kid_words 0 (part U a)

-- the hash of the parts of an id; a branch keeps it
unfoldable pub hash_over : Words → ℕ → ℕ
hash_over U a = pick (is_end a) (even_hash a) (U (slot a) hash)

-- ## Down from a node by the child numbers f (l - 1), .., f 0

-- the nodes passed, each at the number of levels left below it
unfoldable pub ids_down : Words → (ℕ → ℕ) → ℕ → ℕ → List ℕ → List ℕ
ids_down U f a zero ids = ids
ids_down U f a (suc l) ids = ids_down U f (part U a (f l)) l (set ids l a)

-- the id at the end
unfoldable pub end_down : Words → (ℕ → ℕ) → ℕ → ℕ → ℕ
end_down U f a zero = a
end_down U f a (suc l) = end_down U f (part U a (f l)) l

-- the child numbers as octal digits behind those of p
unfoldable pub path_down : (ℕ → ℕ) → ℕ → ℕ → ℕ
path_down f p zero = p
path_down f p (suc l) = path_down f (8 * p + f l) l

abbrev pub octants : Cell → ℕ → ℕ
octants c b = octant b c.x c.y c.z

abbrev pub way_from : List ℕ → ℕ → ℕ → Way
way_from ids a p = record { ids = ids; end = a; path = p }

-- none for a depth above 6
unfoldable pub way_of : Words → Cell → ℕ → Way
way_of U c root =
    pick (leb c.depth deepest)
    (way_from (ids_down U (octants c) root c.depth (replicate 6 root)) (end_down U (octants c) root c.depth) (path_down (octants c) 0 c.depth))
    (way_from (replicate 6 root) root 0)
