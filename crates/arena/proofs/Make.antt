-- A fresh node: its slot and id, the words written, and what they leave of the invariant and of the content rules.
use mathlib.Core.Path.{◌≡◌, refl, sym, ap, ◌∙◌, subst}
use mathlib.Core.Logic.{◌≢◌, ◌⊎◌, inl, inr, ⊎_elim}
use mathlib.Core.Bool.{false, not, true≢false}
use mathlib.Core.List.{List, [], ◌∷◌, ◌++◌}
use Prim.Native.Nat.{ℕ, zero, suc, ◌+◌, ◌-◌, ◌*◌, ◌%◌, ◌^◌, ◌≤◌, ◌<◌}
use native.Mathlib.Decide.{ℕ_discrete}
use native.Mathlib.Omega.{arith}
use lib.Dec.{eqb}
use lib.ListN.{length, get_or, replicate, length-set}
use borrow.Author.Tests.{eq-eqb, ne_eqb}
use Rattle.ids.specs.Ids.{generation_of, pack}
use Rattle.nodes.specs.Tally.{one_if, kids_of, Live, Free, Freed, occ}
use Rattle.nodes.specs.Words.{own, value, height, sum, spare, hash, holds, places, mark, entry, Nodes, slot, floor, Words, word_of, written}
use Rattle.nodes.proofs.Access.{Within, SameSize, written_size, written_others, written_entry, written_kid, written_own, written_fact}
use Rattle.nodes.proofs.Counts.{floor_pos, Others, fresh_counts}
use Rattle.nodes.proofs.Freeing.{pop_top, bump}
use Rattle.nodes.proofs.Sums.{cases, occ_nil, occ_here, occ_there}
use Rattle.find_hash.specs.Hash.{home_in}
use Rattle.find_hash.proofs.Hashes.{home_low}
use Rattle.find.specs.Cells.{insert_at, probe, Finds}
use Rattle.find.specs.Content.{home_at}
use Rattle.find.proofs.Contents.{kids_are_lem, home_same}
use Rattle.find.proofs.Finding.{finds_as, finds_insert}
use Rattle.arena.specs.Calls.{all_of, fresh_facts, none_of, fresh_slot, fresh_in, slot_given, named}
use Rattle.arena.specs.Node.{kid_mask, bits_of, leaf_id, branch_id, Node}
use Rattle.arena.specs.Tables.{State, live_in, tables_of, Tables, cap, W, LiveSlot}
use Rattle.arena.proofs.Ids.{leaf_floor, leaf_slot_lem, leaf_gen, branch_slot_lem, branch_gen, gen_small, node_child}
use Rattle.arena.proofs.Inv.{sized_within, Clean, Inv, Content, node_kept}
use Rattle.arena.proofs.Rows.{fresh_rest}

-- ---- ids

none_mask : (ks : List ℕ) → none_of ks ≡ false → 1 ≤ bits_of (λ k. not (eqb k 0)) ks
unfolding none_of all_of bits_of one_if
none_mask [] e = absurd (true≢false e)
none_mask (k ∷ ks) e = cases (ℕ_discrete k 0)
    (λ (q : k ≡ 0). let z = eq-eqb k 0 q in let r = none_mask ks (rw z at e) in rw z (omega arith))
    (λ d. rw (ne_eqb k 0 d) (omega arith))

branch_floor : (ks : List ℕ) (s g : ℕ) → none_of ks ≡ false → floor ≤ branch_id ks s g
unfolding branch_id pack kid_mask floor
branch_floor ks s g e = omega (arith, none_mask ks e)

-- ---- the slot given out

module _ {t : Tables} (d : List ℕ) (v : Inv t d) (room : live_in t.arena + 1 < cap t) where
  pub fresh_bumps : t.arena.freed ≡ 0 → (fresh_in t ≡ t.arena.next) × (t.arena.next < cap t)
  unfolding fresh_slot live_in
  fresh_bumps e = (rw (eq-eqb t.arena.freed 0 e), (let p = v.freed.some in omega arith))

  pub fresh_pops : t.arena.freed ≢ 0 → (fresh_in t ≡ W t (t.arena.freed - 1) entry) × Free (W t) t.arena.next (W t (t.arena.freed - 1) entry)
  unfolding fresh_slot
  fresh_pops e = (rw (ne_eqb t.arena.freed 0 e), v.freed.only (t.arena.freed - 1) (omega arith))

  pub fresh_free : (1 ≤ fresh_in t) × (fresh_in t < cap t) × (W t (fresh_in t) own < floor)
  fresh_free = cases (ℕ_discrete t.arena.freed 0)
      (λ e.
      let p = fresh_bumps e in
      let q = p.0 in
      let l = p.1 in
      let o = v.freed.some in
      let z = v.freed.unused t.arena.next (omega arith) l in
      (omega arith, omega arith, subst (λ (s : ℕ). W t s own < floor) (sym q) (omega (arith, floor_pos))))
      (λ e.
      let p = fresh_pops e in
      let q = p.0 in
      let f = p.1 in
      let g = f.given in
      let b = f.below in
      let m = v.freed.fits in
      (omega arith, omega arith, subst (λ (s : ℕ). W t s own < floor) (sym q) f.dead))

  -- there is one node more
  pub given_lives : live_in (slot_given t.arena) ≡ live_in t.arena + 1
  unfolding slot_given live_in
  given_lives =
      let c = v.freed.count in
      let o = v.freed.some in
      cases (ℕ_discrete t.arena.freed 0)
      (λ e. rw (eq-eqb t.arena.freed 0 e) (omega arith))
      (λ e. rw (ne_eqb t.arena.freed 0 e) (omega arith))

  pub fresh_small : fresh_in t < 65536
  fresh_small = let p = fresh_free.1 in let m = v.sized.most in omega arith

abbrev pub spot : Tables → ℕ
spot t = fresh_in t

abbrev pub leaf_own : Tables → ℕ
leaf_own t = leaf_id (spot t) (generation_of (W t (spot t) own))

abbrev pub branch_own : Tables → List ℕ → ℕ
branch_own t ks = branch_id ks (spot t) (generation_of (W t (spot t) own))

-- the id of a node in the fresh slot, with the slot's generation
pub record Called (t : Tables) (id : ℕ) : Type 0 where
  pub spot : slot id ≡ fresh_in t
  pub high : floor ≤ id
  pub gen : generation_of id ≡ generation_of (W t (fresh_in t) own)

module _ {t : Tables} (d : List ℕ) (v : Inv t d) (room : live_in t.arena + 1 < cap t) where
  pub leaf_called : Called t (leaf_own t)
  leaf_called =
      let g = generation_of (W t (spot t) own) in
      let l = fresh_small d v room in
      record { spot = leaf_slot_lem (spot t) g (omega arith); high = leaf_floor (spot t) g; gen = leaf_gen (spot t) g (omega arith) (gen_small (W t (spot t) own)) }

  pub branch_called : (ks : List ℕ) → none_of ks ≡ false → Called t (branch_own t ks)
  branch_called ks some =
      let g = generation_of (W t (spot t) own) in
      let l = fresh_small d v room in
      record { spot = branch_slot_lem ks (spot t) g (omega arith); high = branch_floor ks (spot t) g some; gen = branch_gen ks (spot t) g (omega arith) (gen_small (W t (spot t) own)) }

-- ---- the words written

-- from U to U': the slot s has the node of id, and every other slot, and every entry, is as it was
pub record Row (U U' : Words) (s id : ℕ) (ks : List ℕ) (v up sm k h q : ℕ) : Type 0 where
  pub others : Others s U U'
  pub entries : (b : ℕ) → U' b entry ≡ U b entry
  pub kid : (j : ℕ) → j < 8 → U' s j ≡ get_or ks j 0
  pub self : U' s own ≡ id
  pub worth : U' s value ≡ v
  pub tall : U' s height ≡ up
  pub summed : U' s sum ≡ sm
  pub unspared : U' s spare ≡ 0
  pub hashed : U' s hash ≡ k
  pub held : U' s holds ≡ h
  pub put : U' s places ≡ q
  pub unmarked : U' s mark ≡ 0

pub row_written : (x : Nodes) (s id : ℕ) (ks : List ℕ) (v up sm k h q : ℕ) → length ks ≡ 8 → Within x s
    → Row (word_of x) (word_of (written x s ks (fresh_facts id v up sm k h q))) s id ks v up sm k h q
unfolding fresh_facts
row_written x s id ks v up sm k h q e w =
    let fact = written_fact x s ks id (fresh_rest v up sm k h q) e refl w in
    record {
      others = written_others x s ks id (fresh_rest v up sm k h q) e refl;
      entries = written_entry x s ks id (fresh_rest v up sm k h q) e refl;
      kid = written_kid x s ks id (fresh_rest v up sm k h q) e refl w;
      self = written_own x s ks id (fresh_rest v up sm k h q) e refl w;
      worth = fact 0 (omega arith);
      tall = fact 1 (omega arith);
      summed = fact 2 (omega arith);
      unspared = fact 3 (omega arith);
      hashed = fact 4 (omega arith);
      held = fact 5 (omega arith);
      put = fact 6 (omega arith);
      unmarked = fact 7 (omega arith);
    }

-- no live node has this content
abbrev pub Alone : Tables → List ℕ → ℕ → Type 0
Alone t ks v = (x : ℕ) → LiveSlot t x → ((j : ℕ) → j < 8 → W t x j ≡ get_or ks j 0) → W t x value ≡ v → ⊥

-- a debt of q places of r
occ_debt : (q r : ℕ) → occ r (replicate q r) ≡ q
occ_debt zero r = occ_nil r
occ_debt (suc q) r = occ_here r (replicate q r) ∙ ap suc (occ_debt q r)

occ_other : (q r y : ℕ) → y ≢ r → occ y (replicate q r) ≡ 0
occ_other zero r y d = occ_nil y
occ_other (suc q) r y d = occ_there y r (replicate q r) d ∙ occ_other q r y d

-- ---- the fresh node

module _ {t : Tables} (id : ℕ) (ks : List ℕ) (v up sm kh h q : ℕ) (e : length ks ≡ 8) (i : Inv t (ks ++ [])) (room : live_in t.arena + 1 < cap t)
    (called : Called t id) where
  abbrev s : ℕ
  s = fresh_in t

  abbrev x : Nodes
  x = written t.nodes s ks (fresh_facts id v up sm kh h q)

  abbrev U' : Words
  U' = word_of x

  abbrev given : State
  given = slot_given t.arena

  low : s < cap t
  low = (fresh_free (ks ++ []) i room).1

  dead : W t s own < floor
  dead = (fresh_free (ks ++ []) i room).2

  pub made_row : Row (W t) U' s id ks v up sm kh h q
  made_row = row_written t.nodes s id ks v up sm kh h q e (sized_within s i.sized low)

  others : Others s (W t) U'
  others = made_row.others

  made_size : SameSize t.nodes x
  unfolding fresh_facts
  made_size = written_size t.nodes s ks id (fresh_rest v up sm kh h q) e refl

  made_live : floor ≤ U' s own
  made_live = let o = made_row.self in let z = called.high in omega arith

  away : (b : ℕ) → LiveSlot t b → b ≢ s
  away b z o = let y : W t b own < floor = rw o dead in let l = z.1 in omega arith

  -- what lived has its words
  pub made_old : (y f : ℕ) → Live (cap t) (W t) y → f ≤ mark → U' (slot y) f ≡ W t (slot y) f
  made_old y f l m = others (slot y) f (away (slot y) (l.low, (let o = l.is in let z = l.high in omega arith))) m

  made_kids : kids_of 8 U' s ≡ ks
  made_kids = kids_are_lem U' s ks e made_row.kid

  made_clean : (next : ℕ) → (next ≡ t.arena.next) ⊎ (t.arena.next < next) → Clean (cap t) next U'
  made_clean next nx = record {
    cleared = λ b l z.
        let n : b ≢ s = (λ (o : b ≡ s). let y : floor ≤ U' b own = rw o made_live in omega arith) in
        let o = others b own n (omega arith) in
        let r = i.clean.cleared b l (omega arith) in
        record { words = λ f m a c. others b f n m ∙ r.words f m a c; seal = ap (λ (k : ℕ). k % 2 ^ 32) o ∙ r.seal };
    marked = λ b l z.
        let n : b ≢ s = (λ (o : b ≡ s). let y : U' b mark ≡ 0 = rw o made_row.unmarked in omega arith) in
        let o = others b own n (omega arith) in
        let y = others b mark n (omega arith) in
        let r = i.clean.marked b l (omega arith) in
        record { given = r.given; below = (let y = r.below in ⊎_elim (λ z. omega arith) (λ z. omega arith) nx); dead = (let y = r.dead in omega arith) };
    spared = λ b l. cases (ℕ_discrete b s)
        (λ (o : b ≡ s). rw o made_row.unspared)
        (λ o. others b spare o (omega arith) ∙ i.clean.spared b l);
    gens = λ b l. cases (ℕ_discrete b s)
        (λ (o : b ≡ s). subst (λ (k : ℕ). generation_of (U' k own) ≤ 0x7FFD) (sym o) (let g = ap generation_of made_row.self ∙ called.gen in let r = i.clean.gens s low in omega arith))
        (λ o. let g = ap generation_of (others b own o (omega arith)) in let r = i.clean.gens b l in omega arith);
  }

  made_freed : Freed (cap t) U' given.next given.freed
  unfolding slot_given
  made_freed = cases (ℕ_discrete t.arena.freed 0)
      (λ z.
      let o = fresh_bumps (ks ++ []) i room z in
      let b : Freed (cap t) U' (suc t.arena.next) t.arena.freed =
      bump U' i.freed (subst (λ (k : ℕ). Others k (W t) U') o.0 others) (λ j m. made_row.entries j) o.1 (subst (λ (k : ℕ). floor ≤ U' k own) o.0 made_live) in
      let n : t.arena.next + 1 ≡ suc t.arena.next = omega arith in
      let f : t.arena.freed - 1 ≡ t.arena.freed = omega arith in
      rw (eq-eqb t.arena.freed 0 z, n, f) b)
      (λ z.
      let o = fresh_pops (ks ++ []) i room z in
      rw (ne_eqb t.arena.freed 0 z)
      (pop_top U' i.freed z (subst (λ (k : ℕ). Others k (W t) U') o.0 others) (λ j m. made_row.entries j) (subst (λ (k : ℕ). floor ≤ U' k own) o.0 made_live)))

  made_next : (given.next ≡ t.arena.next) ⊎ (t.arena.next < given.next)
  unfolding slot_given
  made_next = cases (ℕ_discrete t.arena.freed 0) (λ z. rw (eq-eqb t.arena.freed 0 z) (inr (omega arith))) (λ z. rw (ne_eqb t.arena.freed 0 z) (inl refl))

  made_home : home_at (cap t) U' s ≡ home_in (cap t) kh
  unfolding home_at
  made_home = ap (home_in (cap t)) made_row.hashed

  named_length : length (named t kh s) ≡ length t.find
  unfolding named insert_at
  named_length = length-set t.find (probe (λ x. false) t.find (home_in (cap t) kh)) s

  made_finds : (a : State) → a.capacity ≡ cap t → (f : List ℕ) → Finds (home_at (cap t) U') (LiveSlot (tables_of a x f)) (named t kh s)
  unfolding named
  made_finds a ca f =
      let F : Finds (home_at (cap t) U') (LiveSlot t) t.find =
      finds_as (home_at (cap t) (W t)) (home_at (cap t) U') (LiveSlot t) (LiveSlot t) t.find i.finds
      (λ b o. ((λ z. z), (λ z. z)))
      (λ b o z. sym (home_same (cap t) (W t) U' b (others b hash (away b z) (omega arith)))) in
      let m = i.sized.least in
      let hb = home_low (cap t) kh (omega arith) in
      let hm = made_home in
      let G = finds_insert (home_at (cap t) U') (LiveSlot t) t.find F (λ b. false) (4 * cap t) (cap t) s (fresh_free (ks ++ []) i room).0
      (λ z. away s z refl) (λ b o z. refl) (omega arith) (let o = i.sized.cells in omega arith) (omega arith) (λ b o z. z.0) in
      subst (λ (k : ℕ). Finds (home_at (cap t) U') (LiveSlot (tables_of a x f)) (insert_at (λ b. false) t.find k s)) made_home
      (finds_as (home_at (cap t) U') (home_at (cap t) U') (λ b. LiveSlot t b ⊎ (b ≡ s)) (LiveSlot (tables_of a x f))
      (insert_at (λ b. false) t.find (home_at (cap t) U' s) s) G
      (λ b o. (forth b, back b)) (λ b o z. refl))
    where
      forth : (b : ℕ) → LiveSlot t b ⊎ (b ≡ s) → LiveSlot (tables_of a x f) b
      forth b (inl z) = let o = others b own (away b z) (omega arith) in let l = z.0 in let y = z.1 in (omega arith, omega arith)
      forth b (inr z) = let o : floor ≤ U' b own = rw z made_live in let l = low in (omega arith, o)

      back : (b : ℕ) → LiveSlot (tables_of a x f) b → LiveSlot t b ⊎ (b ≡ s)
      back b z = cases (ℕ_discrete b s) (λ o. inr o) (λ o. let y = others b own o (omega arith) in let l = z.0 in let k = z.1 in inl (omega arith, omega arith))

  -- the fresh node has its places, or the caller's hold, and the children that were owed now stand in its child places
  pub made_inv : 1 ≤ h + q → ((y : ℕ) → y ≢ 0 → 1 ≤ occ y ks → W t (slot y) height < up) → Inv (tables_of given x (named t kh s)) (replicate q id)
  unfolding slot_given
  made_inv held taller = record {
    sized =
        let z = made_size in
        record { least = i.sized.least; most = i.sized.most; kids = z.kids ∙ i.sized.kids; facts = z.facts ∙ i.sized.facts; cells = named_length ∙ i.sized.cells };
    counts =
        let o = made_row.self in
        let a = made_row.tall in
        let b = made_row.held in
        let c = made_row.put in
        fresh_counts 8 (cap t) (W t) U' s [] (replicate q id) (rw made_kids i.counts) low dead others
        (ap slot o ∙ called.spot) made_live (omega arith) (λ y z r. occ_other q id y (λ k. r (k ∙ sym o)) ∙ sym (occ_nil y))
        (subst (λ (k : ℕ). U' s places + occ k [] ≡ occ k (replicate q id)) (sym o) (omega (arith, occ_debt q id, occ_nil id)))
        (λ y z m. let w = taller y z (rw made_kids at m) in omega arith);
    freed = made_freed;
    clean = made_clean given.next made_next;
    finds = made_finds given refl (named t kh s);
  }

  -- the content rules of the others stay, and with them the new node's
  pub made_content : (n tallest : ℕ) → n ≤ 8 → Alone t ks v → Node n tallest (cap t) U' s → Content n tallest (cap t) (W t) → Content n tallest (cap t) U'
  made_content n tallest m alone new c = record {
    nodes = λ b l z. cases (ℕ_discrete b s)
        (λ (o : b ≡ s). subst (λ (k : ℕ). Node n tallest (cap t) U' k) (sym o) new)
        (λ o.
        let y = others b own o (omega arith) in
        let w = c.nodes b l (omega arith) in
        node_kept n tallest (cap t) m (W t) U' b (λ f k. others b f o (omega arith))
        (λ j k d f a. made_old (W t b j) f (node_child m l i.sized.most w j k d).0 (omega arith))
        (let u = others b holds o (omega arith) in let few = w.few in omega arith) w);
    distinct = λ b g l k z y f d. cases (ℕ_discrete b s)
        (λ (o : b ≡ s). cases (ℕ_discrete g s)
        (λ r. o ∙ sym r)
        (λ r. absurd (alone g (k, subst (λ (u : ℕ). floor ≤ u) (others g own r (omega arith)) y)
        (λ j w. sym (others g j r (omega arith)) ∙ sym (f j w) ∙ ap (λ (u : ℕ). U' u j) o ∙ made_row.kid j w)
        (sym (others g value r (omega arith)) ∙ sym d ∙ ap (λ (u : ℕ). U' u value) o ∙ made_row.worth))))
        (λ o. cases (ℕ_discrete g s)
        (λ (r : g ≡ s). absurd (alone b (l, subst (λ (u : ℕ). floor ≤ u) (others b own o (omega arith)) z)
        (λ j w. sym (others b j o (omega arith)) ∙ f j w ∙ ap (λ (u : ℕ). U' u j) r ∙ made_row.kid j w)
        (sym (others b value o (omega arith)) ∙ d ∙ ap (λ (u : ℕ). U' u value) r ∙ made_row.worth)))
        (λ r. c.distinct b g l k
        (subst (λ (u : ℕ). floor ≤ u) (others b own o (omega arith)) z) (subst (λ (u : ℕ). floor ≤ u) (others g own r (omega arith)) y)
        (λ j w. sym (others b j o (omega arith)) ∙ f j w ∙ others g j r (omega arith))
        (sym (others b value o (omega arith)) ∙ d ∙ others g value r (omega arith))));
  }
