-- What the finding table is in terms of its cells (`Finds`), said of the search itself (`Searched`): both ways.
use mathlib.Core.Path.{◌≡◌, refl, sym, ap, ◌∙◌}
use mathlib.Core.Bool.{Bool, true, false}
use mathlib.Core.List.{List}
use Prim.Native.Nat.{ℕ, ◌<◌}
use native.Mathlib.Decide.{ℕ_discrete}
use native.Mathlib.Omega.{arith}
use lib.ListN.{length, get_or}
use Rattle.basics.specs.Pick.{pick}
use Rattle.ids.specs.Ids.{is_leaf}
use Rattle.find_hash.specs.Hash.{leaf_hash, kids_hash, home_in}
use Rattle.nodes.specs.Words.{Words, own, value, hash}
use Rattle.nodes.specs.Tally.{kids_of}
use Rattle.nodes.proofs.Sums.{cases, split, tab_from_length_lem}
use Rattle.find.specs.Cells.{cell, probe, Ended, leaf_cell, kids_cell, seat, Reach, Finds, Searched}
use Rattle.find.specs.Content.{leaf_is, kids_are, hash_for, home_at}
use Rattle.find.proofs.Contents.{own_at, leaf_true, kids_true}
use Rattle.find.proofs.Finding.{finds_hit}
use Rattle.find.proofs.Probing.{ended}

-- ---- a slot's content is its own

module _ (W : Words) (s : ℕ) where
  pub kids_length : length (kids_of 8 W s) ≡ 8
  unfolding kids_of
  kids_length = tab_from_length_lem 8 0 (W s)

  pub kids_at : (i : ℕ) → i < 8 → W s i ≡ get_or (kids_of 8 W s) i 0
  kids_at i l = sym (own_at i l W s (kids_of 8 W s) refl)

  -- has slot x the content of slot s?
  unfoldable pub alike : ℕ → Bool
  alike x = pick (is_leaf (W s own)) (leaf_is W (leaf_hash (W s value)) (W s value) x) (kids_are W (kids_hash (kids_of 8 W s)) (kids_of 8 W s) x)

  pub alike_self : W s hash ≡ hash_for W s → alike s ≡ true
  unfolding alike hash_for
  alike_self e = split (is_leaf (W s own))
      (λ b. let h = rw b at e in rw b (leaf_true W (leaf_hash (W s value)) (W s value) s h b refl))
      (λ b. let h = rw b at e in rw b (kids_true W (kids_hash (kids_of 8 W s)) (kids_of 8 W s) s kids_length h kids_at))

  pub alike_leaf : is_leaf (W s own) ≡ true → (x : ℕ) → alike x ≡ leaf_is W (leaf_hash (W s value)) (W s value) x
  unfolding alike
  alike_leaf b x = rw b

  pub alike_kids : is_leaf (W s own) ≡ false → (x : ℕ) → alike x ≡ kids_are W (kids_hash (kids_of 8 W s)) (kids_of 8 W s) x
  unfolding alike
  alike_kids b x = rw b

module _ (e : List ℕ) (c : ℕ) (W : Words) where
  -- a slot that keeps its content's hash is searched for from its home
  pub seat_probe : (s : ℕ) → W s hash ≡ hash_for W s → seat e c W s ≡ probe (alike W s) e (home_at c W s)
  unfolding seat leaf_cell kids_cell home_at hash_for
  seat_probe s h = split (is_leaf (W s own))
      (λ b. rw (h, b) (ap (λ (same : ℕ → Bool). probe same e (home_in c (leaf_hash (W s value)))) (λ i x. sym (alike_leaf W s b x) i)))
      (λ b. rw (h, b) (ap (λ (same : ℕ → Bool). probe same e (home_in c (kids_hash (kids_of 8 W s)))) (λ i x. sym (alike_kids W s b x) i)))

  -- where each cell that is not empty is where the search for the slot that it names ends
  pub seated_reach : ((p : ℕ) → 0 < cell e p → W (cell e p) hash ≡ hash_for W (cell e p)) → ((p : ℕ) → 0 < cell e p → seat e c W (cell e p) ≡ p) → Reach (home_at c W) (cell e)
  seated_reach kept h =
      record {
        above = λ p a. rw (sits p a) at (E p).from;
        filled = λ p q a b d. cases (ℕ_discrete q p) (λ (z : q ≡ p). rw z a) (λ z. ((E p).passed q b (rw (sits p a) (omega arith))).0);
        once = λ p q a b. sym (h p a) ∙ ap (seat e c W) b ∙ h q (omega arith);
      }
    where
      sits : (p : ℕ) → 0 < cell e p → probe (alike W (cell e p)) e (home_at c W (cell e p)) ≡ p
      sits p a = sym (seat_probe (cell e p) (kept p a)) ∙ h p a

      E : (p : ℕ) → Ended (alike W (cell e p)) (cell e) (home_at c W (cell e p)) (probe (alike W (cell e p)) e (home_at c W (cell e p)))
      E p = ended (alike W (cell e p)) e (home_at c W (cell e p))

  module _ (live : ℕ → Type 0) (kept : (s : ℕ) → live s → W s hash ≡ hash_for W s) where
    -- Where slot 0 is not live and no two live slots have equal content, the search finds each.
    pub finds_searched : (live 0 → ⊥) → ((s x : ℕ) → live s → live x → alike W s x ≡ true → x ≡ s) → Finds (home_at c W) live e → Searched c W live e
    finds_searched ground distinct F = record {
      found = λ s v.
          let a : 0 < s = cases (ℕ_discrete s 0) (λ (z : s ≡ 0). absurd (ground (rw z at v))) (λ z. omega arith) in
          ap (cell e) (seat_probe s (kept s v))
          ∙ finds_hit (home_at c W) live e F (alike W s) s a v (alike_self W s (kept s v)) (λ x b u q. distinct s x v u q);
      named = λ p a. (F.names (cell e p) a).0 (p, refl);
      once = F.reach.once;
    }

    -- And where the search finds each, the table is right: contents need not differ, since then they do.
    pub searched_finds : Searched c W live e → Finds (home_at c W) live e
    searched_finds S = record {
      reach = seated_reach (λ p a. kept (cell e p) (S.named p a))
          (λ p a. let f = S.found (cell e p) (S.named p a) in sym (S.once p (seat e c W (cell e p)) a (sym f)));
      names = λ x a. ((λ n. let q = n.1 in rw n.1 at (S.named n.0 (omega arith))), λ v. (seat e c W x, S.found x v));
    }
