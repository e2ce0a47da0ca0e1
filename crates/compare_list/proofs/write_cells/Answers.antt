use borrow.Author.Rules.{rules}
use Rattle.compare_list.proofs.Steps.{write_back}
use Rattle.compare_list.proofs.write_cells.Goals as goal

pub returns : goal.returns
returns c =
    write_back _ _ _ _ _ _ _ _ _ _ _ _ _ _ _ _ c.pair-w.ensures.laid (search rules) (search rules) (search rules)
