use Rattle.std.proofs.Common.{◌≡◌, ℕ, List, Bool, eqb, ltb, refl, rules, ◌∙◌}
use Rattle.std.proofs.lemmas.Iterator.{YieldsList-from_range}
use Rattle.std.proofs.lemmas.Iterator.Search.{all_from_yields_List}
use Rattle.basics.specs.Pick.{pick}
use Rattle.nodes.specs.Tally.{tab_from}
use Rattle.nodes.specs.Words.{own, value, mark, fact_of}
use Rattle.arena.specs.Calls.{all_of}
use Rattle.check_freed.specs.Models.{all_in}
use Rattle.check_arena.specs.Models.{fact_zero, blank_at}
use Rattle.check_freed.proofs.Passes.{all_range}
use Rattle.check_arena.proofs.blank.Goals as goal

-- as `fact` reads it, which answers 0 of an own word
read_zero : List ℕ → ℕ → ℕ → Bool
read_zero f s g = eqb (pick (ltb own g) (fact_of f s g) 0) 0

-- none of the words from `value` to before `mark` is the own word
same : (f : List ℕ) (s : ℕ) → all_in value mark (read_zero f s) ≡ blank_at f s
unfolding all_in all_of tab_from read_zero fact_zero blank_at
same f s = refl

pub returns : goal.returns
unfolding read_zero
returns c =
    let p = read_zero c.args.facts.now c.args.s in
    all_from_yields_List p _ _ c.all.result c.all.ensures.ran (YieldsList-from_range value mark _ (cc) refl) (λ x b q k. search rules) ∙ all_range p value mark ∙ same c.args.facts.now c.args.s
