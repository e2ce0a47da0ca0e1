-- The words of the slots, from the lent tables kids and facts as a contract names them: `x.old` or `x.now` is what the call found in one, `x.new` what it left.
use Rattle.std.specs.Prelude.{List, ℕ}
use Rattle.nodes.specs.Words.{Words, nodes, word_of}

abbrev pub words_in : List ℕ → List ℕ → Words
words_in k f = word_of (nodes k f)
