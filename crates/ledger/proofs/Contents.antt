-- At most one live node of each content, and what interning answers: the live node of the content asked for if there is one, else a fresh one.
-- Hash equality is never enough: no answer depends on it.
use mathlib.Core.Path.{◌≡◌, refl, sym, ap, ◌∙◌}
use mathlib.Core.Bool.{false}
use mathlib.Core.List.{List}
use Prim.Native.Nat.{ℕ, ◌≤◌, ◌<◌}
use native.Mathlib.Omega.{arith}
use lib.ListN.{length, get_or}
use Rattle.nodes.specs.Tally.{kids_of}
use Rattle.nodes.specs.Words.{own, value, slot}
use Rattle.nodes.proofs.Counts.{kids_same, live_inj}
use Rattle.arena.specs.Calls.{Out, empties, leaf_slot, leaf_made, intern_leaf_of, none_of, unheld, branch_slot, branch_made, intern_branch_of}
use Rattle.arena.specs.Node.{value_for}
use Rattle.arena.specs.Tables.{Tables, tables_of, W, WellFormed}
use Rattle.arena.proofs.Fits.{room_yes}
use Rattle.ledger.specs.Fates.{Lives, Grew, HasContent, Interned}
use Rattle.ledger.proofs.Balance.{leaf_has, branch_has, branch_held_grew}
use Rattle.ledger.proofs.Found.{kid_word, kids_length, lives_slot, leaf_found_lem, leaf_missing, value_of, branch_found, branch_missing}
use Rattle.ledger.proofs.Ladders.{Fine, leaf_ways, branch_ways}
use Rattle.ledger.proofs.Writes.{held_grew, held_arena}

module _ {n tallest : ℕ} {t : Tables} (m : n ≤ 8) (w : WellFormed n tallest t) where
  -- No two live nodes have equal content: with the same eight children and the same value, the same id.
  pub one_of_a_content : (a b : ℕ) → Lives t a → Lives t b → ((i : ℕ) → i < 8 → W t (slot a) i ≡ W t (slot b) i) → W t (slot a) value ≡ W t (slot b) value → a ≡ b
  one_of_a_content a b u v k x = live_inj u v (w.distinct (slot a) (slot b) (lives_slot t a u) (lives_slot t b v) k x)

  -- The same, with the content named.
  pub one_has : (a b v : ℕ) (ks : List ℕ) → HasContent t a ks v → HasContent t b ks v → a ≡ b
  one_has a b v ks p q =
      one_of_a_content a b p.live q.live
      (λ i l. kid_word (W t) (slot a) i l ∙ ap (λ (k : List ℕ). get_or k i 0) (p.kids ∙ sym q.kids) ∙ sym (kid_word (W t) (slot b) i l))
      (p.worth ∙ sym q.worth)

  -- The eight ids, not all EMPTY, are a branch's content: they give its stored value.
  pub ids_decide : (y : ℕ) → Lives t y → none_of (kids_of 8 (W t) (slot y)) ≡ false → W t (slot y) value ≡ value_for n (W t) (kids_of 8 (W t) (slot y))
  ids_decide y v d = value_of m w (kids_of 8 (W t) (slot y)) (kids_length (W t) (slot y)) d y v refl

  -- At most one live branch of each eight ids.
  pub one_of_eight_ids : (a b : ℕ) (ks : List ℕ) → length ks ≡ 8 → none_of ks ≡ false → Lives t a → Lives t b → kids_of 8 (W t) (slot a) ≡ ks → kids_of 8 (W t) (slot b) ≡ ks → a ≡ b
  one_of_eight_ids a b ks e d u v p q =
      one_has a b (value_for n (W t) ks) ks
      (record { live = u; kids = p; worth = value_of m w ks e d a u p })
      (record { live = v; kids = q; worth = value_of m w ks e d b v q })

-- content goes through where nothing ends
has_grew : {t u : Tables} (y v : ℕ) (ks : List ℕ) → Grew t u → HasContent t y ks v → HasContent u y ks v
has_grew {t} {u} y v ks g h =
    let s = g.stays y h.live in
    record {
      live = s.0;
      kids = kids_same 8 (W t) (W u) (slot y) (λ i l. s.1 i (omega arith)) ∙ h.kids;
      worth = s.1 value (omega arith) ∙ h.worth;
    }

-- ---- the node that is there, and the fresh one

there : {n tallest : ℕ} {t u : Tables} (id v : ℕ) (ks : List ℕ) → n ≤ 8 → WellFormed n tallest t → Grew t u → u.arena ≡ t.arena → HasContent t id ks v
    → Interned t ks v (record { no = 0; id = id; after = u })
there id v ks m w g e h = record {
  has = has_grew id v ks g h;
  again = λ y q. (one_has m w id y v ks h q, e);
  fresh = λ none l. none id h;
}

made : (t : Tables) (v : ℕ) (ks : List ℕ) (o : Out) → ((y : ℕ) → HasContent t y ks v → ⊥) → HasContent o.after o.id ks v → (Lives t o.id → ⊥) → Interned t ks v o
made t v ks o none h new = record { has = h; again = λ y q. absurd (none y q); fresh = λ z l. new l }

-- Interning a leaf, accepted: a live node of that value; the live one of that value if there is one, else a fresh one.
pub leaf_interned : {n tallest : ℕ} {t : Tables} → n ≤ 8 → WellFormed n tallest t → (v : ℕ) → (intern_leaf_of t v).no ≡ 0 → Interned t empties v (intern_leaf_of t v)
leaf_interned {t = t} m w v =
    leaf_ways (λ o. o.no ≡ 0 → Interned t empties v o) t v (λ k d z. absurd (d z))
    (λ s r z.
    let h = leaf_has m w (room_yes t.arena r) v in
    made t v empties (leaf_made t v) (leaf_missing m w v s) h.0 h.1)
    (λ s z.
    there (W t (leaf_slot t v) own) v empties m w (held_grew t (leaf_slot t v)) (held_arena t (leaf_slot t v)) (leaf_found_lem m w v s).1)

-- Interning a branch, accepted: a live node of those eight ids (and of the value that they give); the live one of those ids if there is one,
-- else a fresh one.
pub branch_interned : {n tallest : ℕ} {t : Tables} → n ≤ 8 → WellFormed n tallest t → (ks : List ℕ) → length ks ≡ 8 → (intern_branch_of n tallest t ks).no ≡ 0
    → Interned t ks (value_for n (W t) ks) (intern_branch_of n tallest t ks)
branch_interned {n} {tallest} {t} m w ks e8 =
    branch_ways (λ o. o.no ≡ 0 → Interned t ks (value_for n (W t) ks) o) n tallest t ks (λ k d z. absurd (d z))
    (λ f s r z.
    let h = branch_has m w ks e8 f (room_yes t.arena r) in
    made t (value_for n (W t) ks) ks (branch_made n t ks) (λ y q. branch_missing m w ks e8 s y q.live q.kids) h.0 h.1)
    (λ f s z.
    there (W t (branch_slot t ks) own) (value_for n (W t) ks) ks m w (branch_held_grew m w ks e8 f)
    (held_arena (tables_of t.arena (unheld t.nodes ks) t.find) (branch_slot t ks)) (branch_found m w ks e8 f.some s).1)

-- an accepted interning of a branch passed the refusals
branch_fine_lem : (n tallest : ℕ) (t : Tables) (ks : List ℕ) → (intern_branch_of n tallest t ks).no ≡ 0 → Fine n tallest t ks
branch_fine_lem n tallest t ks = branch_ways (λ o. o.no ≡ 0 → Fine n tallest t ks) n tallest t ks (λ k d z. absurd (d z)) (λ f s r z. f) (λ f s z. f)

-- Interning a branch, accepted, goes by the eight ids: it answers the live node of those ids if there is one, and then gives no slot out.
pub branch_by_ids : {n tallest : ℕ} {t : Tables} → n ≤ 8 → WellFormed n tallest t → (ks : List ℕ) → length ks ≡ 8 → (intern_branch_of n tallest t ks).no ≡ 0
    → (y : ℕ) → Lives t y → kids_of 8 (W t) (slot y) ≡ ks → ((intern_branch_of n tallest t ks).id ≡ y) × ((intern_branch_of n tallest t ks).after.arena ≡ t.arena)
branch_by_ids {n} {tallest} {t} m w ks e8 z y v k =
    let f = branch_fine_lem n tallest t ks z in
    (branch_interned m w ks e8 z).again y (record { live = v; kids = k; worth = value_of m w ks e8 f.some y v k })
