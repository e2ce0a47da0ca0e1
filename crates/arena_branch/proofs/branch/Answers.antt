use Rattle.std.proofs.Common.{ℕ, ◌≡◌, List, get_or, sym, ap, ◌∙◌}
use Rattle.basics.specs.Limits.{cube_kids, deepest}
use Rattle.nodes.specs.Words.{nodes, word_of}
use Rattle.find_hash.specs.Hash.{kids_hash}
use Rattle.find.specs.Cells.{kids_cell}
use Rattle.arena.specs.Models.{branch_at, branch_by}
use Rattle.arena.specs.Tables.{State, state_of, tables}
use Rattle.arena_branch.proofs.branch.Goals as goal

-- the search for the hash h of the ids has ended at the cell p, which names s
ended : (a : State) (k f e ks : List ℕ) (h p s : ℕ) → h ≡ kids_hash ks → p ≡ kids_cell e a.capacity (word_of (nodes k f)) h ks → s ≡ get_or e p 0
    → branch_at cube_kids deepest (tables a k f e) ks s p ≡ branch_by cube_kids deepest (tables a k f e) ks
unfolding branch_by
ended a k f e ks h p s eh ep es =
    let q : p ≡ kids_cell e a.capacity (word_of (nodes k f)) (kids_hash ks) ks = ep ∙ ap (λ (y : ℕ). kids_cell e a.capacity (word_of (nodes k f)) y ks) eh in
    λ i. branch_at cube_kids deepest (tables a k f e) ks ((es ∙ ap (λ (y : ℕ). get_or e y 0) q) i) (q i)

pub returns-then-found-eq0 : goal.returns-then-found-eq0
returns-then-found-eq0 c =
    let a = state_of c.args.a in
    let k = c.args.kids.now in
    let f = c.args.facts.now in
    let e = c.args.find.now in
    let ks = c.args.ks in
    c.branch_miss.ensures ∙ ap (λ (s : ℕ). branch_at cube_kids deepest (tables a k f e) ks s c.search-found.result.cell) (sym c.if-found-eq0.true) ∙ ended a k f e ks c.kids_hash-k.result c.search-found.result.cell c.search-found.result.slot c.kids_hash-k.ensures c.search-found.ensures.0 c.search-found.ensures.1

pub returns-else-found-eq0 : goal.returns-else-found-eq0
returns-else-found-eq0 c =
    let a = state_of c.args.a in
    let k = c.args.kids.now in
    let f = c.args.facts.now in
    let e = c.args.find.now in
    let ks = c.args.ks in
    c.branch_hit.ensures k e c.search-found.result.cell ∙ ended a k f e ks c.kids_hash-k.result c.search-found.result.cell c.search-found.result.slot c.kids_hash-k.ensures c.search-found.ensures.0 c.search-found.ensures.1
