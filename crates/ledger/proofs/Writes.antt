-- The three ways in which the calls write holds: one more on a node, one less for each place in a list of children, and a fresh node with one.
use mathlib.Core.Path.{◌≡◌, refl, sym, ap, ◌∙◌, subst}
use mathlib.Core.Logic.{◌≢◌, ◌⊎◌, inl, inr}
use mathlib.Core.List.{List, [], ◌∷◌}
use Prim.Native.Nat.{ℕ, suc, ◌+◌, ◌-◌, ◌≤◌, ◌<◌}
use native.Mathlib.Decide.{ℕ_discrete}
use native.Mathlib.Omega.{arith}
use lib.ListN.{length}
use Rattle.ids.specs.Ids.{generation_of}
use Rattle.nodes.specs.Tally.{occ, Live}
use Rattle.nodes.specs.Words.{Nodes, own, holds, slot, floor, word_of}
use Rattle.nodes.proofs.Access.{Within, put_same, put_slot, put_keeps, put_less}
use Rattle.nodes.proofs.Counts.{live_inj, live_nonzero}
use Rattle.nodes.proofs.Sums.{cases, occ_nil, occ_cons, occ_here, occ_there}
use Rattle.find.proofs.Contents.{kids_are_lem}
use Rattle.arena.specs.Calls.{held_at, unheld}
use Rattle.arena.specs.Tables.{Tables, cap, W, Sized}
use Rattle.arena.proofs.Branches.{less_n, unheld_nil, unheld_empty, unheld_node}
use Rattle.arena.proofs.Fresh.{Fresh, fresh_gens}
use Rattle.arena.proofs.Inv.{sized_within}
use Rattle.ledger.specs.Ledger.{on, holds_on}
use Rattle.ledger.specs.Fates.{Lives, Grew, HasContent}
use Rattle.ledger.proofs.Effects.{on_same, on_diff, holds_live, holds_dead, counted_holds, still_live, was_live}

-- ---- one hold more

module _ (t : Tables) (s : ℕ) where
  pub held_cap : cap (held_at t s) ≡ cap t
  unfolding held_at
  held_cap = refl

  pub held_arena : (held_at t s).arena ≡ t.arena
  unfolding held_at
  held_arena = refl

  pub held_word : (b f : ℕ) → f ≢ holds → W (held_at t s) b f ≡ W t b f
  unfolding held_at
  held_word b f d = put_keeps t.nodes s holds (W t s holds + 1) b f d

  pub held_here : Within t.nodes s → W (held_at t s) s holds ≡ W t s holds + 1
  unfolding held_at
  held_here w = put_same t.nodes s holds (W t s holds + 1) w (omega arith) (omega arith)

  pub held_there : (b : ℕ) → b ≢ s → W (held_at t s) b holds ≡ W t b holds
  unfolding held_at
  held_there b d = put_slot t.nodes s holds (W t s holds + 1) b holds d

  pub held_grew : Grew t (held_at t s)
  held_grew = record {
    size = held_cap;
    stays = λ y v. (still_live t (held_at t s) held_cap y (held_word (slot y) own (omega arith)) v, (λ f l. held_word (slot y) f (omega arith)));
  }

pub held_balance : {t : Tables} (s x : ℕ) → Sized t → Lives t x → slot x ≡ s → (y : ℕ) → holds_on (held_at t s) y + 0 ≡ holds_on t y + on y x
held_balance {t} s x z v e y =
    counted_holds t (held_at t s) (held_cap t s) y (on y x) 0 (held_word t s (slot y) own (omega arith))
    (λ w. cases (ℕ_discrete (slot y) s)
    (λ (q : slot y ≡ s).
    let p = on_same y x (live_nonzero v) (live_inj w v (q ∙ sym e)) in
    let h : W (held_at t s) (slot y) holds ≡ W t (slot y) holds + 1 =
    subst (λ (k : ℕ). W (held_at t s) k holds ≡ W t k holds + 1) (sym q) (held_here t s (sized_within s z (let l = v.low in omega arith))) in
    omega arith)
    (λ q. let p = on_diff y x (λ r. q (ap slot r ∙ e)) in let h = held_there t s (slot y) q in omega arith))
    (λ d. sym (on_diff y x (λ r. d (subst (λ (k : ℕ). Lives t k) (sym r) v))))

-- ---- one hold less for each child place that isn't EMPTY

module _ (y : ℕ) (d : y ≢ 0) where
  pub unheld_holds : (ks : List ℕ) (l : Nodes) → ((k : ℕ) → k ≢ 0 → 1 ≤ occ k ks → slot y ≡ slot k → y ≡ k) → word_of (unheld l ks) (slot y) holds ≡ word_of l (slot y) holds - occ y ks
  unheld_holds [] l apart = ap (λ (x : Nodes). word_of x (slot y) holds) (unheld_nil l) ∙ omega (arith, occ_nil y)
  unheld_holds (k ∷ ks) l apart =
      let later : (x : Nodes) → word_of (unheld x ks) (slot y) holds ≡ word_of x (slot y) holds - occ y ks = (λ x. unheld_holds ks x (λ j z o q. apart j z (omega (arith, occ_cons j k ks)) q)) in
      cases (ℕ_discrete k 0)
      (λ z. ap (λ (x : Nodes). word_of x (slot y) holds) (unheld_empty l ks k z) ∙ later l ∙ omega (arith, occ_there y k ks (λ q. d (q ∙ z))))
      (λ z. ap (λ (x : Nodes). word_of x (slot y) holds) (unheld_node l ks k z) ∙ later (less_n l (slot k)) ∙ cases (ℕ_discrete (slot y) (slot k))
      (λ q.
      let e : y ≡ k = apart k z (omega (arith, occ_here k ks)) q in
      let o : occ y (k ∷ ks) ≡ suc (occ y ks) = ap (λ (x : ℕ). occ y (x ∷ ks)) (sym e) ∙ occ_here y ks in
      let h : word_of (less_n l (slot k)) (slot y) holds ≡ word_of l (slot y) holds - 1 =
      subst (λ (x : ℕ). word_of (less_n l (slot k)) x holds ≡ word_of l x holds - 1) (sym q) (put_less l (slot k) holds (omega arith) (omega arith)) in
      omega arith)
      (λ q. let h = put_slot l (slot k) holds (word_of l (slot k) holds - 1) (slot y) holds q in omega (arith, occ_there y k ks (λ r. q (ap slot r)))))

-- ---- a fresh node with one hold

-- p is t but for the counts, and u has the node of id besides
module _ (t p : Tables) {u : Tables} (id : ℕ) (ks : List ℕ) (v : ℕ) (eight : length ks ≡ 8) (size : cap p ≡ cap t) (words : (b f : ℕ) → f < holds → W p b f ≡ W t b f)
    (new : Fresh p u id ks v 1 0) where
  caps : cap u ≡ cap t
  caps = new.caps ∙ size

  new_lives : Lives u id
  new_lives = subst (λ (c : ℕ). Live c (W u) id) (sym new.caps) new.live

  away : (y : ℕ) → Lives t y → slot y ≢ slot id
  away y l q =
      let b : W p (slot y) own < floor = subst (λ (z : ℕ). W p z own < floor) (sym q) new.dead in
      let o = words (slot y) own (omega arith) in
      let i = l.is in
      let h = l.high in
      omega arith

  new_word : (b f : ℕ) → b ≢ slot id → f < holds → W u b f ≡ W t b f
  new_word b f q l = new.others b f q (omega arith) ∙ words b f l

  pub new_grew : Grew t u
  new_grew = record {
    size = caps;
    stays = λ y l. (still_live t u caps y (new_word (slot y) own (away y l) (omega arith)) l, (λ f m. new_word (slot y) f (away y l) m));
  }

  -- the only new one
  pub new_only : (y : ℕ) → Lives u y → (y ≡ id) ⊎ Lives t y
  new_only y l = cases (ℕ_discrete (slot y) (slot id))
      (λ q. inl (live_inj l new_lives q))
      (λ q. inr (was_live t u caps y (new_word (slot y) own q (omega arith)) l))

  -- it has the content asked for, and was not there before
  pub new_has : HasContent u id ks v × (Lives t id → ⊥)
  new_has = (record { live = new_lives; kids = kids_are_lem (W u) (slot id) ks eight new.kid; worth = new.worth }, (λ l. away id l refl))

  -- its slot keeps its generation, and so do all others
  pub new_gens : (b : ℕ) → generation_of (W u b own) ≡ generation_of (W t b own)
  new_gens b = fresh_gens new b ∙ ap generation_of (words b own (omega arith))

  -- k holds on y are taken
  pub new_balance : (y k : ℕ) → (Lives t y → W p (slot y) holds + k ≡ W t (slot y) holds) → ((Lives t y → ⊥) → k ≡ 0) → holds_on u y + k ≡ holds_on t y + on y id
  new_balance y k live none = cases (ℕ_discrete (slot y) (slot id))
      (λ q.
      let d : Lives t y → ⊥ = (λ l. away y l q) in
      let z = none d in
      cases (ℕ_discrete y id)
      (λ (e : y ≡ id). omega (arith, holds_dead t y d, holds_live u y (subst (λ (x : ℕ). Lives u x) (sym e) new_lives), ap (λ (b : ℕ). W u b holds) q ∙ new.held, on_same y id (live_nonzero new_lives) e))
      (λ e. omega (arith, holds_dead t y d, holds_dead u y (λ l. e (live_inj l new_lives q)), on_diff y id e)))
      (λ q.
      let e = on_diff y id (λ r. q (ap slot r)) in
      let o = new.others (slot y) holds q (omega arith) in
      counted_holds t u caps y (on y id) k (new_word (slot y) own q (omega arith)) (λ l. let h = live l in omega arith) (λ d. let h = none d in omega arith))
