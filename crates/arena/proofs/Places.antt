-- One place more for each of a list of nodes: what it leaves, and that the code's count does not run over.
use mathlib.Core.Path.{◌≡◌, refl, sym, ap, ◌∙◌}
use mathlib.Core.Logic.{◌≢◌, inr}
use mathlib.Core.List.{List, [], ◌∷◌, ◌++◌}
use Prim.Native.Nat.{ℕ, ◌+◌, ◌-◌, ◌^◌, ◌≤◌, ◌<◌}
use native.Mathlib.Decide.{ℕ_discrete}
use native.Mathlib.Omega.{arith}
use lib.Dec.{eqb}
use lib.ListN.{length}
use borrow.Author.Tests.{eq-eqb, ne_eqb}
use Rattle.basics.specs.Pick.{pick}
use Rattle.nodes.specs.Tally.{Live, occ}
use Rattle.nodes.specs.Words.{Nodes, own, places, slot, nodes, word_of, fact_of, put_of}
use Rattle.nodes.proofs.Access.{SameSize, put_size, size_refl, size_trans, word_fact, put_same, put_keeps}
use Rattle.nodes.proofs.Counts.{live_same, total_bound}
use Rattle.nodes.proofs.Sums.{cases, occ_cons, occ_here, occ_there, occ_append}
use Rattle.arena.specs.Calls.{each, placed_kid}
use Rattle.arena.specs.Models.{bumped, more_of, placed_by}
use Rattle.arena.specs.Tables.{State, tables_of}
use Rattle.arena.proofs.Dropping.{put_recounted}
use Rattle.arena.proofs.Inv.{sized_within, Inv, move_inv, inv_debt}

pub more_few : (x : ℕ) → x < 2 ^ 32 - 1 → more_of x ≡ x + 1
unfolding more_of
more_few x h = omega arith

pub bumped_is : (w : ℕ) (x : Nodes) (k : ℕ) → own ≤ w → (k ≢ 0 → word_of x (slot k) w < 2 ^ 32 - 1)
    → nodes x.kids (bumped w x.facts k) ≡ pick (eqb k 0) x (put_of x (slot k) w (word_of x (slot k) w + 1))
unfolding bumped put_of
bumped_is w x k l h = cases (ℕ_discrete k 0)
    (λ z. rw (eq-eqb k 0 z))
    (λ z.
    let b = h z in
    let e = word_fact x (slot k) w l in
    let m = more_few (fact_of x.facts (slot k) w) (omega arith) in
    rw (ne_eqb k 0 z, e, m))

-- ---- one

module _ (x : Nodes) (k : ℕ) where
  placed_empty : k ≡ 0 → placed_kid x k ≡ x
  unfolding placed_kid
  placed_empty e = rw (eq-eqb k 0 e)

  placed_node : k ≢ 0 → placed_kid x k ≡ put_of x (slot k) places (word_of x (slot k) places + 1)
  unfolding placed_kid
  placed_node e = rw (ne_eqb k 0 e)

  placed_size : SameSize x (placed_kid x k)
  placed_size = cases (ℕ_discrete k 0)
      (λ z. rw (placed_empty z) (size_refl x))
      (λ z. rw (placed_node z) (put_size x (slot k) places (word_of x (slot k) places + 1)))

  -- only places are written
  pub placed_word : (b f : ℕ) → f ≢ places → word_of (placed_kid x k) b f ≡ word_of x b f
  placed_word b f d = cases (ℕ_discrete k 0)
      (λ z. rw (placed_empty z))
      (λ z. rw (placed_node z) (put_keeps x (slot k) places (word_of x (slot k) places + 1) b f d))

  module _ (a : State) (e d : List ℕ) (i : Inv (tables_of a x e) d) (live : k ≢ 0 → Live a.capacity (word_of x) k) where
    pub placed_inv : Inv (tables_of a (placed_kid x k) e) (k ∷ d)
    placed_inv = cases (ℕ_discrete k 0)
        (λ z. rw (placed_empty z) (inv_debt d (k ∷ d) (λ y p. sym (occ_there y k d (λ q. p (q ∙ z)))) i))
        (λ z.
        let p = word_of x (slot k) places + 1 in
        let now : word_of (put_of x (slot k) places p) (slot k) places ≡ p =
        put_same x (slot k) places p (sized_within (slot k) i.sized (live z).low) (omega arith) (omega arith) in
        rw (placed_node z)
        (move_inv a x (put_of x (slot k) places p) e d (k ∷ d) k i (live z) (put_recounted x (slot k) places p (inr refl)) (λ y q b. occ_there y k d b) (omega (arith, occ_here k d)) (omega arith)))

    placed_same : length d ≤ 1000 → nodes x.kids (bumped places x.facts k) ≡ placed_kid x k
    unfolding placed_kid
    placed_same n = bumped_is places x k (omega arith)
        (λ z. let c = i.counts.placed k (live z) in let m = i.sized.most in omega (arith, total_bound 8 a.capacity (word_of x) d k))

-- ---- each

pub record Owing (a : State) (x : Nodes) (e ks d : List ℕ) : Type 0 where
  pub inv : Inv (tables_of a (each placed_kid x ks) e) (ks ++ d)
  pub same : placed_by x ks ≡ each placed_kid x ks
  pub size : SameSize x (each placed_kid x ks)
  pub words : (b f : ℕ) → f ≢ places → word_of (each placed_kid x ks) b f ≡ word_of x b f

pub owing : (a : State) (e ks : List ℕ) (x : Nodes) (d : List ℕ) → length d + length ks ≤ 1000 → Inv (tables_of a x e) d
    → ((y : ℕ) → y ≢ 0 → 1 ≤ occ y ks → Live a.capacity (word_of x) y) → Owing a x e ks d
unfolding each
owing a e [] x d n i h = record { inv = i; same = refl; size = size_refl x; words = λ b f q. refl }
owing a e (k ∷ ks) x d n i h =
    let first : k ≢ 0 → Live a.capacity (word_of x) k = (λ z. h k z (omega (arith, occ_here k ks))) in
    let r = owing a e ks (placed_kid x k) (k ∷ d) (omega arith) (placed_inv x k a e d i first)
    (λ y z o. live_same a.capacity (word_of x) (word_of (placed_kid x k)) y (placed_word x k (slot y) own (omega arith)) (h y z (omega (arith, occ_cons y k ks)))) in
    record {
      inv = inv_debt (ks ++ (k ∷ d)) (k ∷ (ks ++ d))
          (λ z q. omega (arith, occ_append z ks (k ∷ d), occ_append z ks d, occ_cons z k d, occ_cons z k (ks ++ d))) r.inv;
      same = ap (λ (y : Nodes). placed_by y ks) (placed_same x k a e d i first (omega arith)) ∙ r.same;
      size = size_trans (placed_size x k) r.size;
      words = λ b f q. r.words b f q ∙ placed_word x k b f q;
    }
