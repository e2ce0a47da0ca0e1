use Rattle.std.proofs.Common.{◌≡◌, ℕ, List, [], ◌∷◌, length, eqb, refl, rules, tests, arith, sym, ◌∙◌, eq-eqb, ne_eqb}
use Rattle.std.specs.List.{filter}
use Rattle.std.proofs.lemmas.Iterator.{YieldsList-from_slice}
use Rattle.std.proofs.lemmas.Iterator.Consumers.{YieldsList-at, YieldsList-from_filter, count_from_yields_List}
use native.Mathlib.Decide.{ℕ_discrete}
use Rattle.nodes.specs.Tally.{occ}
use Rattle.nodes.proofs.Sums.{cases, occ_nil, occ_here, occ_there}
use Rattle.arena_branch.proofs.occurs.Goals as goal

-- as the standard library counts it
count_occ : (y : ℕ) (ks : List ℕ) → length (filter (λ k. eqb k y) ks) ≡ occ y ks
count_occ y [] = sym (occ_nil y)
count_occ y (k ∷ ks) =
    let e = count_occ y ks in
    cases (ℕ_discrete k y)
    (λ (d : k ≡ y). rw (d, eq-eqb y y refl, occ_here y ks) (omega arith))
    (λ d. rw (ne_eqb k y d) (e ∙ sym (occ_there y k ks (λ q. d (sym q)))))

pub returns : goal.returns
returns c =
    let y = c.args.y in
    let ks = c.args.ks in
    count_from_yields_List _ _ c.count.ensures.ran (YieldsList-from_filter _ (λ k. eqb k y) (YieldsList-at c.filter.ensures.source (YieldsList-from_slice ks cc)) c.filter.ensures.closure (λ x b q k. search (rules, tests))) ∙ count_occ y ks
