-- What a check in linear time has to decide, and that it is well formed: each clause reads one slot and its children, one entry of the stack, or one cell.
-- Two live nodes of equal content would be one for the search: so the search for each live node's content, ending at that node, is enough.
use mathlib.Core.Path.{◌≡◌, refl, sym, ap, ◌∙◌, subst}
use mathlib.Core.Logic.{◌⊎◌, inl, inr, ⊎_elim}
use mathlib.Core.Bool.{true, false}
use Prim.Native.Nat.{ℕ, ◌+◌, ◌≤◌, ◌<◌}
use native.Mathlib.Decide.{ℕ_discrete, dec_lt}
use native.Mathlib.Omega.{arith}
use Rattle.ids.specs.Ids.{is_leaf}
use Rattle.nodes.specs.Words.{Words, own, value, hash, places, mark, entry, floor}
use Rattle.nodes.specs.Tally.{kids_of, tally, Free, live_count}
use Rattle.nodes.proofs.Sums.{cases, split, tab_from_ext_lem}
use Rattle.find.specs.Cells.{cell, seat, Searched}
use Rattle.find.specs.Content.{hash_for}
use Rattle.find.proofs.Searched.{searched_finds}
use Rattle.arena.specs.Node.{LeafNode, BranchNode}
use Rattle.arena.specs.Tables.{Tables, cap, W, LiveSlot, Sized, WellFormed}
use Rattle.arena.proofs.Ids.{node_leaf, node_branch}
use Rattle.arena.proofs.Searched.{well_searched}
use Rattle.check_arena.proofs.Slots.{GoodSlot}
use Rattle.check_find.proofs.Searching.{Seated}

-- all but the tally
pub record Sound (n tallest : ℕ) (t : Tables) : Type 0 where
  pub sized : Sized t
  pub some : 1 ≤ t.arena.next
  pub fits : t.arena.next ≤ cap t
  pub slots : (s : ℕ) → s < cap t → GoodSlot n tallest (cap t) t.arena.next (W t) s
  -- the freed slots: with the live they make up 1 .. next-1; each entry of the stack is one of them, and knows its number
  pub count : t.arena.freed + live_count (cap t) (W t) + 1 ≡ t.arena.next
  pub entries : (i : ℕ) → i < t.arena.freed → Free (W t) t.arena.next (W t i entry) × (W t (W t i entry) mark ≡ i)
  -- the finding table: each cell where the search for its slot ends, each live slot found by its content
  pub seated : Seated t.find (cap t) (W t)
  pub found : (s : ℕ) → s < cap t → floor ≤ W t s own → cell t.find (seat t.find (cap t) (W t) s) ≡ s

-- the tally, counted in one pass over all child places
abbrev pub Tallied : Tables → Type 0
Tallied t = (s : ℕ) → s < cap t → floor ≤ W t s own → W t s places ≡ tally 8 (cap t) (W t) (W t s own)

-- ---- well formed tables pass

module _ {n tallest : ℕ} {t : Tables} (m : n ≤ 8) (w : WellFormed n tallest t) where
  own_zero : (s : ℕ) → s < cap t → (s ≡ 0) ⊎ (t.arena.next ≤ s) → W t s own ≡ 0
  own_zero s l (inl z) = subst (λ (k : ℕ). W t k own ≡ 0) (sym z) w.stack.ground
  own_zero s l (inr z) = w.stack.unused s z l

  mark_zero : (s : ℕ) → s < cap t → (s ≡ 0) ⊎ (t.arena.next ≤ s) → W t s mark ≡ 0
  mark_zero s l k = cases (ℕ_discrete (W t s mark) 0) (λ z. z)
      (λ z. absurd (let f = w.marked s l (omega arith) in let g = f.given in let b = f.below in ⊎_elim (λ q. omega arith) (λ q. omega arith) k))

  searched : Searched (cap t) (W t) (LiveSlot t) t.find
  searched = well_searched m w

  pub well_sound : Sound n tallest t
  well_sound = record {
    sized = w.sized;
    some = w.stack.some;
    fits = w.stack.fits;
    slots = λ s l. record {
      node = λ h. w.nodes s (l, h);
      used = λ h. w.used s (l, h);
      plain = λ h. cases (ℕ_discrete (W t s mark) 0) (λ z. z) (λ z. absurd (let f = w.marked s l (omega arith) in let d = f.dead in omega arith));
      cleared = λ h. w.cleared s l h;
      blank = λ k. (own_zero s l k, mark_zero s l k);
      spared = w.spared s l;
      gens = w.gens s l;
    };
    count = w.stack.count;
    entries = λ i l. (w.stack.only i l, w.stack.knows i l);
    seated = λ p a. let v = searched.named p a in (v, sym (searched.once p (seat t.find (cap t) (W t) (cell t.find p)) a (sym (searched.found (cell t.find p) v))));
    found = λ s l h. searched.found s (l, h);
  }

-- ---- tables that pass are well formed

kids_alike : (X : Words) (s b : ℕ) → ((i : ℕ) → i < 8 → X s i ≡ X b i) → kids_of 8 X s ≡ kids_of 8 X b
unfolding kids_of
kids_alike X s b e = tab_from_ext_lem 8 0 (X s) (X b) (λ j p q. e j (omega arith))

module _ {n tallest : ℕ} {t : Tables} (m : n ≤ 8) (c : Sound n tallest t) (tallied : Tallied t) where
  ground : W t 0 own ≡ 0
  ground = ((c.slots 0 (let p = c.sized.least in omega arith)).blank (inl refl)).0

  unused : (s : ℕ) → t.arena.next ≤ s → s < cap t → W t s own ≡ 0
  unused s a l = ((c.slots s l).blank (inr a)).0

  free : (s : ℕ) → s < cap t → 1 ≤ W t s mark → Free (W t) t.arena.next s
  free s l h = record {
    given = cases (ℕ_discrete s 0) (λ z. absurd (let q = ((c.slots s l).blank (inl z)).1 in omega arith)) (λ z. omega arith);
    below = cases (dec_lt s t.arena.next) (λ z. z) (λ z. absurd (let q = ((c.slots s l).blank (inr (omega arith))).1 in omega arith));
    dead = cases (dec_lt (W t s own) floor) (λ z. z) (λ z. absurd (let q = (c.slots s l).plain (omega arith) in omega arith));
  }

  leaf : (s : ℕ) → LiveSlot t s → is_leaf (W t s own) ≡ true → LeafNode (W t) s
  leaf s l f = node_leaf m l.0 c.sized.most ((c.slots s l.0).node l.1) f

  branch : (s : ℕ) → LiveSlot t s → is_leaf (W t s own) ≡ false → BranchNode n tallest (cap t) (W t) s
  branch s l f = node_branch m l.0 c.sized.most ((c.slots s l.0).node l.1) f

  kept : (s : ℕ) → LiveSlot t s → W t s hash ≡ hash_for (W t) s
  unfolding hash_for
  kept s l = split (is_leaf (W t s own)) (λ f. rw f (leaf s l f).hashed) (λ f. rw f (branch s l f).hashed)

  -- a branch has a child, and a leaf none
  not_both : (s b : ℕ) → LeafNode (W t) s → BranchNode n tallest (cap t) (W t) b → ((i : ℕ) → i < 8 → W t s i ≡ W t b i) → ⊥
  not_both s b v u e = let k = u.some in let j = k.1 in k.2 (sym (e k.0 (omega arith)) ∙ v.bare k.0 (omega arith))

  alike_same : (s b : ℕ) → LiveSlot t s → LiveSlot t b → ((i : ℕ) → i < 8 → W t s i ≡ W t b i) → W t s value ≡ W t b value
      → seat t.find (cap t) (W t) s ≡ seat t.find (cap t) (W t) b
  unfolding seat
  alike_same s b ls lb e v = split (is_leaf (W t s own))
      (λ f. split (is_leaf (W t b own)) (λ g. rw (f, g, v)) (λ g. absurd (not_both s b (leaf s ls f) (branch b lb g) e)))
      (λ f. split (is_leaf (W t b own)) (λ g. absurd (not_both b s (leaf b lb g) (branch s ls f) (λ i k. sym (e i k)))) (λ g. rw (f, g, kids_alike (W t) s b e)))

  pub sound_well : WellFormed n tallest t
  sound_well = record {
    sized = c.sized;
    stack = record {
      some = c.some;
      fits = c.fits;
      only = λ i l. (c.entries i l).0;
      knows = λ i l. (c.entries i l).1;
      count = c.count;
      unused = unused;
      ground = ground;
    };
    nodes = λ s l. (c.slots s l.0).node l.1;
    distinct = λ s b l k e f. sym (c.found s l.0 l.1) ∙ ap (cell t.find) (alike_same s b l k e f) ∙ c.found b k.0 k.1;
    tallied = λ s l. tallied s l.0 l.1;
    used = λ s l. (c.slots s l.0).used l.1;
    finds = searched_finds t.find (cap t) (W t) (LiveSlot t) kept (record {
      found = λ s l. c.found s l.0 l.1;
      named = λ p a. (c.seated p a).0;
      once = λ p q a e. sym (c.seated p a).1 ∙ ap (seat t.find (cap t) (W t)) e ∙ (c.seated q (omega arith)).1;
    });
    cleared = λ s l h. (c.slots s l).cleared h;
    marked = λ s l h. free s l h;
    spared = λ s l. (c.slots s l).spared;
    gens = λ s l. (c.slots s l).gens;
  }
