use Rattle.std.proofs.Common.{◌≡◌, refl, ap, ◌∙◌, List, ℕ, ◌+◌, ◌≤◌, ◌<◌, arith}
use borrow.Author.Tests.{le-leb, lt-leb}
use Rattle.nodes.specs.Words.{fact_of, fact_put, holds, own, put_of, word_of}
use Rattle.nodes.proofs.Access.{nodes_path}
use Rattle.arena.specs.Calls.{full_of, held_at, refused, said}
use Rattle.arena.specs.Models.{hit_by}
use Rattle.arena.specs.Tables.{State, tables}
use Rattle.arena.proofs.Outs.{said_path, tables_path}
use Rattle.arena.proofs.hit.Goals as goal

module _ (a : State) (f : List ℕ) (s h : ℕ) (eh : h ≡ fact_of f s holds) where
  full : 1000000 ≤ h → (k e : List ℕ) → refused 10 (tables a k f e) ≡ hit_by (tables a k f e) s
  unfolding hit_by full_of word_of
  full l k e = rw (le-leb 1000000 (fact_of f s holds) (omega arith))

  held : (o : ℕ) (m : List ℕ) → h < 1000000 → o ≡ fact_of f s own → m ≡ fact_put f s holds (h + 1)
      → (k e : List ℕ) → said 0 o (tables a k m e) ≡ hit_by (tables a k f e) s
  unfolding hit_by full_of held_at word_of put_of
  held o m l eo em k e =
      rw (lt-leb 1000000 (fact_of f s holds) (omega arith))
      (said_path _ _ _ _ _ _ refl eo (tables_path _ _ _ _ _ _ refl (nodes_path _ _ _ _ refl (em ∙ ap (λ (x : ℕ). fact_put f s holds (x + 1)) eh)) refl))

pub returns-then-h-ge-MOST_HOLDS : goal.returns-then-h-ge-MOST_HOLDS
returns-then-h-ge-MOST_HOLDS c = rw c.refused.ensures (full _ _ _ _ c.fact-h.ensures c.if-h-ge-MOST_HOLDS.true)

pub returns : goal.returns
returns c = rw c.done.ensures (held _ _ _ _ c.fact-h.ensures _ _ (omega arith) c.own.ensures c.put_fact.ensures)
