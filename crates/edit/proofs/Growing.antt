-- What the making leaves, step by step: places that are owed.
use mathlib.Core.Path.{◌≡◌, refl, sym, ap, ◌∙◌, subst}
use mathlib.Core.Logic.{◌≢◌, inl, inr, ⊎_elim}
use mathlib.Core.List.{List, [], ◌∷◌, ◌++◌}
use Prim.Native.Nat.{ℕ, ◌+◌, ◌≤◌}
use native.Mathlib.Decide.{ℕ_discrete}
use native.Mathlib.Omega.{arith}
use borrow.Author.Tests.{ne_eqb}
use Rattle.basics.specs.Limits.{kid_words}
use Rattle.nodes.specs.Tally.{Live, occ}
use Rattle.nodes.specs.Values.{height_at, value_at}
use Rattle.nodes.specs.Words.{own, value, height, holds, places, slot, word_of}
use Rattle.nodes.proofs.Counts.{live_nonzero}
use Rattle.nodes.proofs.Sums.{cases, occ_cons, occ_here, occ_append}
use Rattle.tree.specs.Tree.{LiveOr0, Extends}
use Rattle.arena.specs.Calls.{each, placed_kid}
use Rattle.arena.specs.Tables.{State, Tables, cap, W}
use Rattle.arena.proofs.Fresh.{Grown}
use Rattle.arena.proofs.Inv.{Inv, Content, inv_debt, content_recount}
use Rattle.arena.proofs.Places.{placed_inv, placed_word}
use Rattle.edit.specs.Edit.{owed}

module _ {n tallest : ℕ} {t u : Tables} {d : List ℕ} {k : ℕ} (g : Grown n tallest t u d k) where
  -- what was live is live
  pub grown_live : (y : ℕ) → Live (cap t) (W t) y → Live (cap u) (W u) y
  grown_live y l =
      let c = g.caps in
      let b = l.low in
      record { low = omega arith; is = g.old y own l (omega arith) (omega arith) ∙ l.is; high = l.high }

  pub grown_debt : (d' : List ℕ) → ((y : ℕ) → y ≢ 0 → occ y d ≡ occ y d') → Grown n tallest t u d' k
  grown_debt d' e =
      record { inv = inv_debt d d' e g.inv; content = g.content; caps = g.caps; lives = g.lives; old = g.old }

  pub grown_trans : {v : Tables} {d' : List ℕ} {j : ℕ} → Grown n tallest u v d' j → Grown n tallest t v d' (k + j)
  grown_trans h = record {
    inv = h.inv;
    content = h.content;
    caps = h.caps ∙ g.caps;
    lives = (let a = g.lives in let b = h.lives in omega arith);
    old = λ y f l m q. h.old y f (grown_live y l) m q ∙ g.old y f l m q;
  }

  -- nothing that was there moved
  pub grown_extends : n ≤ kid_words → Extends n (cap t) (W t) (W u)
  unfolding value_at height_at
  grown_extends m a l =
      let z = ne_eqb a 0 (live_nonzero l) in
      record {
        still = subst (λ (c : ℕ). Live c (W u) a) g.caps (grown_live a l);
        kids = λ i h. sym (g.old a i l (omega arith) (omega arith));
        value = rw z (sym (g.old a value l (omega arith) (omega arith)));
        height = rw z (sym (g.old a height l (omega arith) (omega arith)));
      }

pub grown_none : {n tallest : ℕ} {t : Tables} {d : List ℕ} → Inv t d → Content n tallest (cap t) (W t) → Grown n tallest t t d 0
grown_none {t = t} i c =
    record { inv = i; content = c; caps = refl; lives = omega arith; old = λ y f l m q. refl }

-- ---- places that are owed

module _ (n tallest : ℕ) (m : n ≤ kid_words) {t : Tables} (d : List ℕ) (i : Inv t d) (c : Content n tallest (cap t) (W t)) where
  pub owed_grown : (s : ℕ) → LiveOr0 (cap t) (W t) s → Grown n tallest t (owed t s) (s ∷ d) 0
  unfolding owed
  owed_grown s l = record {
    inv = placed_inv t.nodes s t.arena t.find d i (λ z. ⊎_elim (λ e. absurd (z e)) (λ v. v) l);
    content =
        content_recount n tallest (cap t) (W t) (word_of (placed_kid t.nodes s)) m (λ b f q. placed_word t.nodes s b f (omega arith))
        (λ b q h. let z = placed_word t.nodes s b holds (omega arith) in let few = (c.nodes b q h).few in omega arith) c;
    caps = refl;
    lives = omega arith;
    old = λ y f q a b. placed_word t.nodes s (slot y) f b;
  }

-- only places are written
pub owed_word : (t : Tables) (s b f : ℕ) → f ≢ places → W (owed t s) b f ≡ W t b f
unfolding owed
owed_word t s b f d = placed_word t.nodes s b f d

pub each_nil : (t : Tables) → each owed t [] ≡ t
unfolding each
each_nil t = refl

pub each_cons : (t : Tables) (k : ℕ) (ks : List ℕ) → each owed t (k ∷ ks) ≡ each owed (owed t k) ks
unfolding each
each_cons t k ks = refl

pub each_word : (ks : List ℕ) (t : Tables) (b f : ℕ) → f ≢ places → W (each owed t ks) b f ≡ W t b f
each_word [] t b f d = ap (λ (u : Tables). W u b f) (each_nil t)
each_word (k ∷ ks) t b f d = ap (λ (u : Tables). W u b f) (each_cons t k ks) ∙ each_word ks (owed t k) b f d ∙ owed_word t k b f d

pub owed_arena : (t : Tables) (s : ℕ) → (owed t s).arena ≡ t.arena
unfolding owed
owed_arena t s = refl

pub each_arena : (ks : List ℕ) (t : Tables) → (each owed t ks).arena ≡ t.arena
each_arena [] t = ap (λ (u : Tables). u.arena) (each_nil t)
each_arena (k ∷ ks) t = ap (λ (u : Tables). u.arena) (each_cons t k ks) ∙ each_arena ks (owed t k) ∙ owed_arena t k

pub each_cap : (ks : List ℕ) (t : Tables) → cap (each owed t ks) ≡ cap t
each_cap ks t = ap (λ (a : State). a.capacity) (each_arena ks t)

module _ (n tallest : ℕ) (t : Tables) (k : ℕ) (ks d : List ℕ) where
  each_step : Grown n tallest t (owed t k) (k ∷ d) 0 → Grown n tallest (owed t k) (each owed (owed t k) ks) (ks ++ (k ∷ d)) 0
      → Grown n tallest t (each owed t (k ∷ ks)) ((k ∷ ks) ++ d) 0
  each_step g r =
      rw (each_cons t k ks)
      (grown_debt (grown_trans g r) (k ∷ (ks ++ d))
      (λ y z. omega (arith, occ_append y ks (k ∷ d), occ_append y ks d, occ_cons y k d, occ_cons y k (ks ++ d))))

  first_there : ((y : ℕ) → y ≢ 0 → 1 ≤ occ y (k ∷ ks) → Live (cap t) (W t) y) → LiveOr0 (cap t) (W t) k
  first_there h = cases (ℕ_discrete k 0) (λ o. inl o) (λ o. inr (h k o (omega (arith, occ_here k ks))))

  rest_live : (g : Grown n tallest t (owed t k) (k ∷ d) 0) → ((y : ℕ) → y ≢ 0 → 1 ≤ occ y (k ∷ ks) → Live (cap t) (W t) y)
      → (y : ℕ) → y ≢ 0 → 1 ≤ occ y ks → Live (cap (owed t k)) (W (owed t k)) y
  rest_live g h y a b = grown_live g y (h y a (omega (arith, occ_cons y k ks)))

-- each of the list gets one place more
pub each_grown : (n tallest : ℕ) → n ≤ kid_words → (ks : List ℕ) {t : Tables} (d : List ℕ) → Inv t d → Content n tallest (cap t) (W t)
    → ((y : ℕ) → y ≢ 0 → 1 ≤ occ y ks → Live (cap t) (W t) y) → Grown n tallest t (each owed t ks) (ks ++ d) 0
each_grown n tallest m [] {t} d i c h = rw (each_nil t) (grown_none i c)
each_grown n tallest m (k ∷ ks) {t} d i c h =
    let g = owed_grown n tallest m d i c k (first_there n tallest t k ks d h) in
    each_step n tallest t k ks d g (each_grown n tallest m ks (k ∷ d) g.inv g.content (rest_live n tallest t k ks d g h))
