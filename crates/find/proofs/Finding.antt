-- What the arena uses of its finding table: the search by content and by number, a slot put in, a slot taken out.
use Prim.Native.Nat.{ℕ, ◌+◌, ◌≤◌, ◌<◌}
use mathlib.Core.Bool.{Bool, true, false}
use mathlib.Core.Logic.{◌⊎◌, inl, inr, ⊎_elim, ◌↔◌}
use mathlib.Core.Path.{◌≡◌, refl, sym, ◌∙◌}
use mathlib.Core.List.{List}
use native.Mathlib.Decide.{ℕ_discrete, dec_lt}
use native.Mathlib.Omega.{arith}
use lib.ListN.{length, replicate, get_or-replicate, length-replicate, get_or-eq_default}
use lib.Dec.{eqb}
use borrow.Author.Tests.{eqb-true, eq-eqb}
use Rattle.find.specs.Cells.{Finds, probe, insert_at, remove, cell}
use Rattle.find.proofs.Erasing.{erase_reach, erase_named}
use Rattle.find.proofs.Probing.{found, missing, room, insert_reach, insert_named}

-- ---- a fresh table
zeros : (n p : ℕ) → cell (replicate n 0) p ≡ 0
zeros n p = elim (dec_lt p n) [ yes l ↦ get_or-replicate n p 0 0 l | no k ↦ get_or-eq_default (replicate n 0) 0 (rw length-replicate (omega arith)) ]

pub finds_fresh : (home : ℕ → ℕ) (n : ℕ) → Finds home (λ x. ⊥) (replicate n 0)
finds_fresh home n =
    record {
      reach =
          record {
            above = λ p a. absurd (omega (arith, zeros n p));
            filled = λ p q a b c. absurd (omega (arith, zeros n p));
            once = λ p q a b. absurd (omega (arith, zeros n p));
          };
      names = λ x a. (λ m. omega (arith, zeros n m.0, m.1), λ b. absurd b);
    }

-- ---- only the homes of live slots count, and `live` is up to equivalence
pub finds_as : (home home' : ℕ → ℕ) (live live' : ℕ → Type 0) (t : List ℕ)
    → Finds home live t
    → ((x : ℕ) → 0 < x → live x ↔ live' x)
    → ((x : ℕ) → 0 < x → live x → home x ≡ home' x)
    → Finds home' live' t
finds_as home home' live live' t F same_live same_home =
    record {
      reach =
          record {
            above = λ p a. rw (← h p a) (F.reach.above p a);
            filled = λ p q a b c. F.reach.filled p q a (rw (h p a) b) c;
            once = F.reach.once;
          };
      names = λ x a. (λ n. (same_live x a).0 ((F.names x a).0 n), λ v. (F.names x a).1 ((same_live x a).1 v));
    }
  where
    h : (p : ℕ) → 0 < cell t p → home (cell t p) ≡ home' (cell t p)
    h p a = same_home (cell t p) a ((F.names (cell t p) a).0 (p, refl))

module _ (home : ℕ → ℕ) (live : ℕ → Type 0) (t : List ℕ) (F : Finds home live t) where
  -- every number in the table is live
  named_live : (p : ℕ) → 0 < cell t p → live (cell t p)
  named_live p a = (F.names (cell t p) a).0 (p, refl)

  -- ---- the search: by content, or by number
  pub finds_hit : (same : ℕ → Bool) (s : ℕ) → 0 < s → live s → same s ≡ true → ((x : ℕ) → 0 < x → live x → same x ≡ true → x ≡ s)
      → cell t (probe same t (home s)) ≡ s
  finds_hit same s pos v is only =
      let n = (F.names s pos).1 v in
      rw (found home t same s n.0 F.reach pos n.1 is (λ q a b. only (cell t q) a (named_live q a) b)) n.1

  pub finds_miss : (same : ℕ → Bool) (h : ℕ) → ((x : ℕ) → 0 < x → live x → same x ≡ false) → cell t (probe same t h) ≡ 0
  finds_miss same h none = missing t same h (λ q a. none (cell t q) a (named_live q a))

  pub finds_number : (s : ℕ) → 0 < s → live s → cell t (probe (eqb s) t (home s)) ≡ s
  finds_number s pos v = finds_hit (eqb s) s pos v (eq-eqb s s refl) (λ x a b c. sym (eqb-true s x c))

  pub finds_room : (same : ℕ → Bool) (m c h : ℕ) → h ≤ m → m + c ≤ length t → 0 < c → ((x : ℕ) → 0 < x → live x → x < c) → probe same t h < length t
  finds_room same m c h a b pos small =
      room home t same m c h F.reach a b pos (λ p. elim (ℕ_discrete (cell t p) 0) [ yes z ↦ omega arith | no n ↦ small (cell t p) (omega arith) (named_live p (omega arith)) ])

  -- ---- a new slot
  pub finds_insert : (same : ℕ → Bool) (m c s : ℕ) → 0 < s → (live s → ⊥) → ((x : ℕ) → 0 < x → live x → same x ≡ false)
      → home s ≤ m → m + c ≤ length t → 0 < c → ((x : ℕ) → 0 < x → live x → x < c)
      → Finds home (λ x. live x ⊎ (x ≡ s)) (insert_at same t (home s) s)
  finds_insert same m c s pos new none a b k small =
      let l = finds_room same m c (home s) a b k small in
      let z = finds_miss same (home s) none in
      record {
        reach = insert_reach home t same s pos l z F.reach (λ p e. new ((F.names s pos).0 (p, e)));
        names = λ x u.
            let n = insert_named home t same s pos l z x u in (
              λ q. ⊎_elim (λ w. inl ((F.names x u).0 w)) (λ w. inr w) (n.0 q),
              λ q. n.1 (⊎_elim (λ w. inl ((F.names x u).1 w)) (λ w. inr w) q),
            );
      }

  -- ---- a slot less
  pub finds_remove : (s : ℕ) → 0 < s → live s → Finds home (λ x. live x × (x ≡ s → ⊥)) (remove home t s)
  unfolding remove
  finds_remove s pos v =
      let i = probe (eqb s) t (home s) in
      let e : cell t i ≡ s = finds_number s pos v in
      let a : 0 < cell t i = omega arith in
      record {
        reach = erase_reach home t i F.reach a;
        names = λ x u.
            let n = erase_named home t i F.reach a x u in (
              λ q. let w = n.0 q in ((F.names x u).0 w.0, λ k. w.1 (k ∙ sym e)),
              λ q. n.1 ((F.names x u).1 q.0, λ k. q.1 (k ∙ e)),
            );
      }
