-- Intern branch: the code's way is the definition's, and well formed stays well formed.
use mathlib.Core.Path.{◌≡◌, refl, sym, ap, ◌∙◌, subst}
use mathlib.Core.Logic.{◌≢◌, inl}
use mathlib.Core.Bool.{true, false, true≢false}
use mathlib.Core.List.{List, [], ◌∷◌, ◌++◌}
use Prim.Native.Nat.{ℕ, zero, suc, ◌+◌, ◌-◌, ◌≤◌, ◌<◌}
use native.Mathlib.Decide.{ℕ_discrete}
use native.Mathlib.Omega.{arith}
use lib.Dec.{leb}
use lib.ListN.{length, get_or}
use borrow.Author.Tests.{eq-eqb, ne_eqb, leb-true, le-leb}
use Rattle.nodes.specs.Tally.{Live, occ}
use Rattle.nodes.specs.Words.{own, holds, places, mark, entry, Nodes, slot, floor, Words, word_of, put_of}
use Rattle.nodes.proofs.Access.{SameSize, size_refl, size_trans, put_keeps, put_less}
use Rattle.nodes.proofs.Counts.{live_same, total_append}
use Rattle.nodes.proofs.Sums.{cases, occ_nil, occ_cons, occ_here, occ_there}
use Rattle.find.specs.Content.{agree}
use Rattle.find.proofs.Contents.{agree_true, agree_words}
use Rattle.arena.specs.Calls.{each, unheld_kid, placed_kid, live_or_empty, enough_for, live_of, all_live, enough, none_of, unheld, placed, all_of, branch_in, branch_slot}
use Rattle.arena.specs.Models.{placed_by}
use Rattle.arena.specs.Tables.{State, tables_of, Tables, cap, W, LiveSlot}
use Rattle.arena.proofs.Dropping.{put_recounted}
use Rattle.arena.proofs.Eight.{all_at}
use Rattle.arena.proofs.Fits.{both}
use Rattle.arena.proofs.Inv.{Inv, recounted_word, move_inv}
use Rattle.arena.proofs.Places.{owing}
use Rattle.arena.proofs.Scan.{find_miss}

-- ---- what the refusals leave

pub alive : (t : Tables) (ks : List ℕ) → all_live (cap t) (W t) ks ≡ true → (y : ℕ) → y ≢ 0 → 1 ≤ occ y ks → live_of (cap t) (W t) y ≡ true
unfolding live_or_empty
alive t ks e y d o = let h = all_at (live_or_empty (cap t) (W t)) ks y e o in rw (ne_eqb y 0 d) at h

pub affords : (U : Words) (ks : List ℕ) → enough U ks ≡ true → (y : ℕ) → y ≢ 0 → 1 ≤ occ y ks → occ y ks ≤ U (slot y) holds
unfolding enough_for
affords U ks e y d o =
    let h = all_at (enough_for U ks) ks y e o in
    leb-true (occ y ks) (U (slot y) holds) (rw (ne_eqb y 0 d) at h)

pub some_kid : (ks : List ℕ) → none_of ks ≡ false → (i : ℕ) × (i < length ks) × (get_or ks i 0 ≢ 0)
unfolding none_of all_of
some_kid [] e = absurd (true≢false e)
some_kid (k ∷ ks) e = cases (ℕ_discrete k 0)
    (λ z. let r = some_kid ks (rw (eq-eqb k 0 z) at e) in (suc r.0, (let l = r.1 in omega arith), r.2))
    (λ z. (0, omega arith, z))

pub occ_at : (ks : List ℕ) (i : ℕ) → i < length ks → 1 ≤ occ (get_or ks i 0) ks
occ_at [] i l = absurd (omega arith)
occ_at (k ∷ ks) zero l = omega (arith, occ_here k ks)
occ_at (k ∷ ks) (suc i) l = let r = occ_at ks i (omega arith) in omega (arith, occ_cons (get_or ks i 0) k ks)

pub occ_in : (ks : List ℕ) (y : ℕ) → 1 ≤ occ y ks → (i : ℕ) × (i < length ks) × (get_or ks i 0 ≡ y)
occ_in [] y o = absurd (omega (arith, occ_nil y))
occ_in (k ∷ ks) y o = cases (ℕ_discrete y k)
    (λ q. (0, omega arith, sym q))
    (λ q. let r = occ_in ks y (omega (arith, occ_there y k ks q)) in (suc r.0, (let l = r.1 in omega arith), r.2))

-- ---- the branch of these children

pub branch_words : (t : Tables) (ks : List ℕ) (s : ℕ) → branch_in t ks s ≡ true → (floor ≤ W t s own) × ((j : ℕ) → j < length ks → W t s (0 + j) ≡ get_or ks j 0)
unfolding branch_in
branch_words t ks s e =
    let b = both (leb floor (W t s own)) (agree (W t) s 0 ks) e in
    (leb-true floor (W t s own) b.0, agree_words (W t) s 0 ks b.1)

-- no live slot has words that the scan does not find
pub slot_lone : (t : Tables) (ks : List ℕ) → length ks ≡ 8 → branch_slot t ks ≡ 0 → (s : ℕ) → LiveSlot t s → s ≢ 0
    → ((j : ℕ) → j < 8 → W t s j ≡ get_or ks j 0) → ⊥
unfolding branch_slot branch_in
slot_lone t ks e z s l d h =
    let in-it : branch_in t ks s ≡ true = rw (le-leb floor (W t s own) l.1) (agree_true (W t) s 0 ks (λ j k. let q : 0 + j ≡ j = omega arith in rw q (h j (omega arith)))) in
    true≢false (sym in-it ∙ find_miss (branch_in t ks) (cap t) z s l.0 d)

-- ---- the holds end

pub record Eased (l l' : Nodes) : Type 0 where
  pub size : SameSize l l'
  pub words : (b f : ℕ) → f ≤ mark → f ≢ holds → f ≢ places → word_of l' b f ≡ word_of l b f
  pub fewer : (b : ℕ) → word_of l' b holds ≤ word_of l b holds
  pub entries : (b : ℕ) → word_of l' b entry ≡ word_of l b entry

eased_refl : (l : Nodes) → Eased l l
eased_refl l = record { size = size_refl l; words = λ b f m p q. refl; fewer = λ b. omega arith; entries = λ b. refl }

eased_trans : {l m n : Nodes} → Eased l m → Eased m n → Eased l n
eased_trans p q = record {
  size = size_trans p.size q.size;
  words = λ b f m c d. q.words b f m c d ∙ p.words b f m c d;
  fewer = λ b. let x = p.fewer b in let y = q.fewer b in omega arith;
  entries = λ b. q.entries b ∙ p.entries b;
}

abbrev pub less_n : Nodes → ℕ → Nodes
less_n l s = put_of l s holds (word_of l s holds - 1)

less_eased : (l : Nodes) (s : ℕ) → Eased l (less_n l s)
less_eased l s =
    let r = put_recounted l s holds (word_of l s holds - 1) (inl refl) in
    record {
      size = r.size;
      words = recounted_word r;
      fewer = λ b. cases (ℕ_discrete b s)
          (λ (q : b ≡ s). subst (λ (z : ℕ). word_of (less_n l s) z holds ≤ word_of l z holds) (sym q) (let e = put_less l s holds (omega arith) (omega arith) in omega arith))
          (λ q. let e = r.others b holds q (omega arith) in omega arith);
      entries = r.entries;
    }

pub unheld_empty : (l : Nodes) (ks : List ℕ) (k : ℕ) → k ≡ 0 → unheld l (k ∷ ks) ≡ unheld l ks
unfolding each unheld_kid
unheld_empty l ks k e = rw (eq-eqb k 0 e)

pub unheld_node : (l : Nodes) (ks : List ℕ) (k : ℕ) → k ≢ 0 → unheld l (k ∷ ks) ≡ unheld (less_n l (slot k)) ks
unfolding each unheld_kid
unheld_node l ks k e = rw (ne_eqb k 0 e)

pub unheld_nil : (l : Nodes) → unheld l [] ≡ l
unfolding each
unheld_nil l = refl

abbrev Named : ℕ → Nodes → List ℕ → Type 0
Named c l ks = (y : ℕ) → y ≢ 0 → 1 ≤ occ y ks → Live c (word_of l) y × (1 ≤ word_of l (slot y) places)

less_inv : (a : State) (l : Nodes) (f d : List ℕ) (y : ℕ) → Inv (tables_of a l f) d → Live a.capacity (word_of l) y → 1 ≤ word_of l (slot y) places → Inv (tables_of a (less_n l (slot y)) f) d
less_inv a l f d y v live one =
    let r = put_recounted l (slot y) holds (word_of l (slot y) holds - 1) (inl refl) in
    let e = put_keeps l (slot y) holds (word_of l (slot y) holds - 1) (slot y) places (omega arith) in
    move_inv a l (less_n l (slot y)) f d d y v live r (λ z p q. refl) (omega arith) (omega arith)

less_named : (c : ℕ) (l : Nodes) (ks : List ℕ) (s : ℕ) → Named c l ks → Named c (less_n l s) ks
less_named c l ks s h y d o =
    let p = h y d o in
    let e = less_eased l s in (
      live_same c (word_of l) (word_of (less_n l s)) y (e.words (slot y) own (omega arith) (omega arith) (omega arith)) p.0,
      (let q = p.1 in let z = put_keeps l s holds (word_of l s holds - 1) (slot y) places (omega arith) in omega arith),
    )

pub unheld_eased : (ks : List ℕ) (l : Nodes) → Eased l (unheld l ks)
unheld_eased [] l = rw (unheld_nil l) (eased_refl l)
unheld_eased (k ∷ ks) l = cases (ℕ_discrete k 0)
    (λ z. rw (unheld_empty l ks k z) (unheld_eased ks l))
    (λ z. rw (unheld_node l ks k z) (eased_trans (less_eased l (slot k)) (unheld_eased ks (less_n l (slot k)))))

pub unheld_inv : (a : State) (f d ks : List ℕ) (l : Nodes) → Inv (tables_of a l f) d → Named a.capacity l ks → Inv (tables_of a (unheld l ks) f) d
unheld_inv a f d [] l v h = rw (unheld_nil l) v
unheld_inv a f d (k ∷ ks) l v h = cases (ℕ_discrete k 0)
    (λ z. rw (unheld_empty l ks k z) (unheld_inv a f d ks l v (λ y d o. h y d (omega (arith, occ_cons y k ks)))))
    (λ z.
    let p = h k z (omega (arith, occ_here k ks)) in
    rw (unheld_node l ks k z)
    (unheld_inv a f d ks (less_n l (slot k)) (less_inv a l f d k v p.0 p.1) (less_named a.capacity l ks (slot k) (λ y d o. h y d (omega (arith, occ_cons y k ks))))))

-- ---- the holds become places

pub record Placing (a : State) (l : Nodes) (f ks : List ℕ) : Type 0 where
  pub inv : Inv (tables_of a (placed l ks) f) (ks ++ [])
  pub same : unheld (placed_by l ks) ks ≡ placed l ks
  pub eased : Eased l (placed l ks)
  pub held : (b : ℕ) → word_of (each placed_kid l ks) b holds ≡ word_of l b holds

pub placing : (a : State) (f ks : List ℕ) (l : Nodes) → length ks ≤ 1000 → Inv (tables_of a l f) [] → ((y : ℕ) → y ≢ 0 → 1 ≤ occ y ks → Live a.capacity (word_of l) y) → Placing a l f ks
placing a f ks l n v h =
    let o = owing a f ks l [] (omega arith) v h in
    record {
      inv = unheld_inv a f (ks ++ []) ks (each placed_kid l ks) o.inv
          (λ y z p.
          let live = live_same a.capacity (word_of l) (word_of (each placed_kid l ks)) y (o.words (slot y) own (omega arith)) (h y z p) in
          let c = o.inv.counts.placed y live in
          (live, omega (arith, total_append 8 a.capacity (word_of (each placed_kid l ks)) y ks [])));
      same = ap (λ (x : Nodes). unheld x ks) o.same;
      eased = eased_trans
          (record { size = o.size; words = λ b g m p q. o.words b g q; fewer = λ b. (let e = o.words b holds (omega arith) in omega arith); entries = λ b. o.words b entry (omega arith) })
          (unheld_eased ks (each placed_kid l ks));
      held = λ b. o.words b holds (omega arith);
    }
