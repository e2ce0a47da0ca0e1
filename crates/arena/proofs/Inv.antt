-- The invariant with a debt, and that `WellFormed` is it with none. What one count moved leaves of it.
use mathlib.Core.Path.{◌≡◌, sym, ap, ap₂, ◌∙◌, subst}
use mathlib.Core.Logic.{◌≢◌, inl, inr, ⊎_elim}
use mathlib.Core.List.{List, [], ◌∷◌}
use Prim.Native.Nat.{ℕ, suc, ◌+◌, ◌/◌, ◌%◌, ◌^◌, ◌≤◌, ◌<◌}
use native.Mathlib.Decide.{ℕ_discrete, dec_lt}
use native.Mathlib.Omega.{arith}
use Rattle.ids.specs.Ids.{generation_of}
use Rattle.nodes.specs.Tally.{kids_of, Live, Free, Freed, occ}
use Rattle.nodes.specs.Words.{own, value, height, sum, spare, hash, holds, places, mark, entry, slot, floor, Words, word_of, Nodes}
use Rattle.nodes.proofs.Access.{SameSize, Within}
use Rattle.nodes.proofs.Counts.{Others, kids_same, Counts, move_counts, counts_debt, drop_empty, live_same, kid_live, kid_occ}
use Rattle.nodes.proofs.Frame.{Frame}
use Rattle.nodes.proofs.Freeing.{freed_same}
use Rattle.nodes.proofs.Local.{Slots, slots_counts, counts_slots}
use Rattle.nodes.proofs.Sums.{cases, sum_to_ext_lem}
use Rattle.find_hash.specs.Hash.{leaf_hash, kids_hash}
use Rattle.find.specs.Cells.{Finds}
use Rattle.find.specs.Content.{home_at}
use Rattle.find.proofs.Contents.{home_same}
use Rattle.find.proofs.Finding.{finds_as}
use Rattle.arena.specs.Node.{leaf_id, branch_id, LeafNode, BranchNode, Node}
use Rattle.nodes.specs.Values.{value_at, height_at}
use Rattle.arena.specs.Tables.{State, tables_of, Tables, cap, W, LiveSlot, Sized, Cleared, WellFormed}
use Rattle.arena.proofs.Ids.{node_slot, node_child, height_node, value_node, height_zero, value_zero, max_ext}

pub record Clean (cap next : ℕ) (W : Words) : Type 0 where
  pub cleared : (s : ℕ) → s < cap → W s own < floor → Cleared W s
  pub marked : (s : ℕ) → s < cap → 1 ≤ W s mark → Free W next s
  pub spared : (s : ℕ) → s < cap → W s spare ≡ 0
  pub gens : (s : ℕ) → s < cap → generation_of (W s own) ≤ 0x7FFD

pub record Inv (t : Tables) (debt : List ℕ) : Type 0 where
  pub sized : Sized t
  pub counts : Counts 8 (cap t) (W t) debt
  pub freed : Freed (cap t) (W t) t.arena.next t.arena.freed
  pub clean : Clean (cap t) t.arena.next (W t)
  pub finds : Finds (home_at (cap t) (W t)) (LiveSlot t) t.find

-- the rules that speak of content
pub record Content (n tallest cap : ℕ) (W : Words) : Type 0 where
  pub nodes : (s : ℕ) → s < cap → floor ≤ W s own → Node n tallest cap W s
  pub distinct : (s b : ℕ) → s < cap → b < cap → floor ≤ W s own → floor ≤ W b own → ((i : ℕ) → i < 8 → W s i ≡ W b i) → W s value ≡ W b value → s ≡ b

-- ---- the bridge

pub wf_counts : {n tallest : ℕ} {t : Tables} → n ≤ 8 → WellFormed n tallest t → Counts 8 (cap t) (W t) []
wf_counts {t = t} m w = slots_counts 8 (cap t) (W t) (omega arith) all
  where
    all : Slots 8 (cap t) (W t)
    all s l = record {
      child = λ i k d. cases (dec_lt (W t s own) floor)
          (λ h. absurd (d ((w.cleared s l h).words i (omega arith) (omega arith) (omega arith))))
          (λ h. node_child m l w.sized.most (w.nodes s (l, omega arith)) i k d);
      dead = λ h i k. (w.cleared s l h).words i (omega arith) (omega arith) (omega arith);
      id = λ h. node_slot m l w.sized.most (w.nodes s (l, h));
      tallied = λ h. w.tallied s (l, h);
      used = λ h. w.used s (l, h);
    }

pub wf_inv : {n tallest : ℕ} {t : Tables} → n ≤ 8 → WellFormed n tallest t → Inv t []
wf_inv m w = record {
  sized = w.sized;
  counts = wf_counts m w;
  freed = w.stack;
  clean = record { cleared = w.cleared; marked = w.marked; spared = w.spared; gens = w.gens };
  finds = w.finds;
}

pub wf_content : {n tallest : ℕ} {t : Tables} → WellFormed n tallest t → Content n tallest (cap t) (W t)
wf_content w = record { nodes = λ s l h. w.nodes s (l, h); distinct = λ s b l m h k e f. w.distinct s b (l, h) (m, k) e f }

pub inv_wf : (n tallest : ℕ) {t : Tables} → Inv t [] → Content n tallest (cap t) (W t) → WellFormed n tallest t
inv_wf n tallest {t} v c = record {
  sized = v.sized;
  stack = v.freed;
  nodes = λ s l. c.nodes s l.0 l.1;
  distinct = λ s b l m e f. c.distinct s b l.0 m.0 l.1 m.1 e f;
  tallied = λ s l. (counts_slots 8 (cap t) (W t) v.counts s l.0).tallied l.1;
  used = λ s l. (counts_slots 8 (cap t) (W t) v.counts s l.0).used l.1;
  finds = v.finds;
  cleared = v.clean.cleared;
  marked = v.clean.marked;
  spared = v.clean.spared;
  gens = v.clean.gens;
}

-- ---- one slot's counts are written

pub record Recounted (s : ℕ) (l l' : Nodes) : Type 0 where
  pub size : SameSize l l'
  pub others : Others s (word_of l) (word_of l')
  pub same : (f : ℕ) → f ≤ mark → f ≢ holds → f ≢ places → word_of l' s f ≡ word_of l s f
  pub entries : (b : ℕ) → word_of l' b entry ≡ word_of l b entry

pub recounted_word : {s : ℕ} {l l' : Nodes} → Recounted s l l' → (b f : ℕ) → f ≤ mark → f ≢ holds → f ≢ places → word_of l' b f ≡ word_of l b f
recounted_word {s} {l} {l'} r b f m p q = cases (ℕ_discrete b s)
    (λ (e : b ≡ s). rw e (r.same f m p q))
    (λ d. r.others b f d m)

clean_same : (cap next : ℕ) (W W' : Words) → ((b f : ℕ) → f ≤ mark → f ≢ holds → f ≢ places → W' b f ≡ W b f)
    → ((b f : ℕ) → b < cap → W b own < floor → f ≤ mark → W' b f ≡ W b f) → Clean cap next W → Clean cap next W'
clean_same cap next W W' e z c = record {
  cleared = λ s l h.
      let p = e s own (omega arith) (omega arith) (omega arith) in
      let r = c.cleared s l (omega arith) in
      record {
        words = λ f m a b. z s f l (omega arith) m ∙ r.words f m a b;
        seal = ap (λ (k : ℕ). k % 2 ^ 32) p ∙ r.seal;
      };
  marked = λ s l h.
      let p = e s own (omega arith) (omega arith) (omega arith) in
      let q = e s mark (omega arith) (omega arith) (omega arith) in
      let r = c.marked s l (omega arith) in
      record { given = r.given; below = r.below; dead = (let d = r.dead in omega arith) };
  spared = λ s l. e s spare (omega arith) (omega arith) (omega arith) ∙ c.spared s l;
  gens = λ s l. let p = ap generation_of (e s own (omega arith) (omega arith) (omega arith)) in let q = c.gens s l in omega arith;
}

-- both counts of one live node are written: places and debt move together
pub move_inv : (a : State) (l l' : Nodes) (f d d' : List ℕ) (x : ℕ) → Inv (tables_of a l f) d → Live a.capacity (word_of l) x → Recounted (slot x) l l'
    → ((y : ℕ) → y ≢ 0 → y ≢ x → occ y d' ≡ occ y d)
    → word_of l' (slot x) places + occ x d ≡ word_of l (slot x) places + occ x d' → 1 ≤ word_of l' (slot x) holds + word_of l' (slot x) places
    → Inv (tables_of a l' f) d'
move_inv a l l' f d d' x v live r same-debt moved kept = record {
  sized = record { least = v.sized.least; most = v.sized.most; kids = r.size.kids ∙ v.sized.kids; facts = r.size.facts ∙ v.sized.facts; cells = v.sized.cells };
  counts = move_counts 8 a.capacity (word_of l) (word_of l') x d d' v.counts live r.others
      (λ g m. r.same g (omega arith) (omega arith) (omega arith)) same-debt moved kept;
  freed = freed_same (word_of l') v.freed (λ b. w b own (omega arith) (omega arith) (omega arith)) (λ i m. r.entries i)
      (λ b d. w b mark (omega arith) (omega arith) (omega arith));
  clean = clean_same a.capacity a.next (word_of l) (word_of l') w
      (λ b g m h k. r.others b g (λ (q : b ≡ slot x). let e : word_of l b own ≡ x = rw q live.is in let t = live.high in omega arith) k) v.clean;
  finds = finds_as (home_at a.capacity (word_of l)) (home_at a.capacity (word_of l')) (LiveSlot (tables_of a l f)) (LiveSlot (tables_of a l' f)) f v.finds
      (λ s p. let e = w s own (omega arith) (omega arith) (omega arith) in ((λ z. (z.0, (let y = z.1 in omega arith))), (λ z. (z.0, (let y = z.1 in omega arith)))))
      (λ s p z. sym (home_same a.capacity (word_of l) (word_of l') s (w s hash (omega arith) (omega arith) (omega arith))));
}
  where
    w : (b g : ℕ) → g ≤ mark → g ≢ holds → g ≢ places → word_of l' b g ≡ word_of l b g
    w = recounted_word r

pub inv_debt : {t : Tables} (d d' : List ℕ) → ((y : ℕ) → y ≢ 0 → occ y d ≡ occ y d') → Inv t d → Inv t d'
inv_debt {t} d d' e v =
    record { sized = v.sized; counts = counts_debt 8 (cap t) (W t) d d' e v.counts; freed = v.freed; clean = v.clean; finds = v.finds }

pub inv_empty : {t : Tables} (d : List ℕ) → Inv t (0 ∷ d) → Inv t d
inv_empty {t} d v =
    record { sized = v.sized; counts = drop_empty 8 (cap t) (W t) d v.counts; freed = v.freed; clean = v.clean; finds = v.finds }

-- ---- a slot below the capacity lies inside the tables

pub sized_within : {t : Tables} (s : ℕ) → Sized t → s < cap t → Within t.nodes s
sized_within s z l =
    let k = z.kids in
    let f = z.facts in
    let m = z.most in
    record { kids = record { small = omega arith; room = omega arith }; facts = record { small = omega arith; room = omega arith } }

-- ---- content goes through

module _ (n tallest cap : ℕ) (m : n ≤ 8) (W W' : Words) (s : ℕ) (mine : (f : ℕ) → f < holds → W' s f ≡ W s f)
    (below : (i : ℕ) → i < 8 → W s i ≢ 0 → (f : ℕ) → f < holds → W' (slot (W s i)) f ≡ W (slot (W s i)) f) where
  value_kept : (i : ℕ) → i < n → value_at W' (W' s i) ≡ value_at W (W s i)
  value_kept i l =
      let e : W' s i ≡ W s i = mine i (omega arith) in
      rw e (cases (ℕ_discrete (W s i) 0)
      (λ (z : W s i ≡ 0). rw z (value_zero W' ∙ sym (value_zero W)))
      (λ d. value_node W' (W s i) d ∙ below i (omega arith) d value (omega arith) ∙ sym (value_node W (W s i) d)))

  height_kept : (i : ℕ) → i < n → height_at W' (W' s i) ≡ height_at W (W s i)
  height_kept i l =
      let e : W' s i ≡ W s i = mine i (omega arith) in
      rw e (cases (ℕ_discrete (W s i) 0)
      (λ (z : W s i ≡ 0). rw z (height_zero W' ∙ sym (height_zero W)))
      (λ d. height_node W' (W s i) d ∙ below i (omega arith) d height (omega arith) ∙ sym (height_node W (W s i) d)))

  leaf_kept : LeafNode W s → LeafNode W' s
  leaf_kept v =
      let e = mine own (omega arith) in
      let e9 = mine value (omega arith) in
      record {
        id = e ∙ v.id ∙ ap (λ (x : ℕ). leaf_id s (generation_of x)) (sym e);
        some = (let p = v.some in omega arith);
        bare = λ i l. mine i (omega arith) ∙ v.bare i l;
        flat = mine height (omega arith) ∙ v.flat;
        summed = mine sum (omega arith) ∙ v.summed;
        hashed = mine hash (omega arith) ∙ v.hashed ∙ ap leaf_hash (sym e9);
      }

  branch_kept : BranchNode n tallest cap W s → BranchNode n tallest cap W' s
  branch_kept v =
      let e = mine own (omega arith) in
      let k : kids_of 8 W' s ≡ kids_of 8 W s = kids_same 8 W W' s (λ i l. mine i (omega arith)) in
      record {
        id = e ∙ v.id ∙ ap₂ (λ (x : ℕ) (ks : List ℕ). branch_id ks s (generation_of x)) (sym e) (sym k);
        children = λ i l d.
            let q = mine i (omega arith) in
            let z : W s i ≢ 0 = (λ o. d (q ∙ o)) in
            subst (λ (x : ℕ). Live cap W' x) (sym q) (live_same cap W W' (W s i) (below i (omega arith) z own (omega arith)) (v.children i l z));
        some = (v.some.0, v.some.1, (let q = mine v.some.0 (let h = v.some.1 in omega arith) in λ o. v.some.2 (sym q ∙ o)));
        beyond = λ i a b. mine i (omega arith) ∙ v.beyond i a b;
        averaged = mine value (omega arith) ∙ v.averaged ∙ ap (λ (x : ℕ). x / n) (sym (sum_to_ext_lem n (λ i. value_at W' (W' s i)) (λ i. value_at W (W s i)) value_kept));
        tall = mine height (omega arith) ∙ v.tall ∙ ap suc (sym (max_ext n (λ i. height_at W' (W' s i)) (λ i. height_at W (W s i)) height_kept));
        low = (let q = mine height (omega arith) in let h = v.low in omega arith);
        summed = mine sum (omega arith) ∙ v.summed ∙ sym (sum_to_ext_lem n (λ i. value_at W' (W' s i)) (λ i. value_at W (W s i)) value_kept);
        hashed = mine hash (omega arith) ∙ v.hashed ∙ ap kids_hash (sym k);
      }

  pub node_kept : W' s holds ≤ 1000000 → Node n tallest cap W s → Node n tallest cap W' s
  node_kept few v = record { kind = ⊎_elim (λ p. inl (leaf_kept p)) (λ p. inr (branch_kept p)) v.kind; small = (let e = mine value (omega arith) in let p = v.small in omega arith); few = few }

-- where all words below the counts are as they were
pub content_recount : (n tallest cap : ℕ) (W W' : Words) → n ≤ 8 → ((b f : ℕ) → f < holds → W' b f ≡ W b f)
    → ((s : ℕ) → s < cap → floor ≤ W s own → W' s holds ≤ 1000000) → Content n tallest cap W → Content n tallest cap W'
content_recount n tallest cap W W' m e few c = record {
  nodes = λ s l h.
      let p = e s own (omega arith) in
      node_kept n tallest cap m W W' s (λ f k. e s f k) (λ i k d f j. e (slot (W s i)) f j) (few s l (omega arith)) (c.nodes s l (omega arith));
  distinct = λ s b l k h g f v.
      let p = e s own (omega arith) in
      let q = e b own (omega arith) in
      c.distinct s b l k (omega arith) (omega arith) (λ i j. sym (e s i (omega arith)) ∙ f i j ∙ e b i (omega arith)) (sym (e s value (omega arith)) ∙ v ∙ e b value (omega arith));
}

-- what lives on keeps its content, since its children live on
pub content_frame : (n tallest cap : ℕ) (W W' : Words) (debt : List ℕ) → n ≤ 8 → Counts 8 cap W' debt → Frame cap W W' → Content n tallest cap W → Content n tallest cap W'
content_frame n tallest cap W W' debt m c r v = record {
  nodes = λ s l h.
      let a : (f : ℕ) → f < holds → W' s f ≡ W s f = (λ f k. r.kept s l h f (omega arith) (omega arith)) in
      let e = a own (omega arith) in
      let o = v.nodes s l (omega arith) in
      node_kept n tallest cap m W W' s a
      (λ i k d f j.
      let q = a i (omega arith) in
      let g : Live cap W' (W s i) = subst (λ (x : ℕ). Live cap W' x) q (kid_live c s (W' s i) l (λ y. d (sym q ∙ y)) (kid_occ 8 W' s i k)) in
      let gi = g.is in
      let gh = g.high in
      r.kept (slot (W s i)) g.low (omega arith) f (omega arith) (omega arith))
      (let p = r.kept s l h holds (omega arith) (omega arith) in let q = o.few in omega arith) o;
  distinct = λ s b l k h g f x.
      let p = r.kept s l h own (omega arith) (omega arith) in
      let q = r.kept b k g own (omega arith) (omega arith) in
      v.distinct s b l k (omega arith) (omega arith)
      (λ i j. sym (r.kept s l h i (omega arith) (omega arith)) ∙ f i j ∙ r.kept b k g i (omega arith) (omega arith))
      (sym (r.kept s l h value (omega arith) (omega arith)) ∙ x ∙ r.kept b k g value (omega arith) (omega arith));
}
