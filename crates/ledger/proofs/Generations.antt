-- What each call does to the generations of the slots.
use mathlib.Core.Path.{◌≡◌, refl, sym, ap, ap₂, ◌∙◌, subst}
use mathlib.Core.Logic.{◌≢◌, ⊎_elim, ◌↔◌}
use mathlib.Core.List.{List}
use Prim.Native.Nat.{ℕ, zero, suc, ◌+◌, ◌%◌, ◌≤◌, ◌<◌}
use native.Mathlib.Decide.{dec_lt}
use native.Mathlib.Omega.{arith}
use lib.ListN.{length}
use borrow.Author.Tests.{le-leb, lt-leb, lt-ltb, le-ltb}
use Rattle.ids.specs.Ids.{generation_of}
use Rattle.nodes.specs.Words.{own, holds, slot, floor}
use Rattle.nodes.proofs.Counts.{kids_same}
use Rattle.nodes.proofs.Sums.{cases}
use Rattle.arena.specs.Calls.{Out, leaf_slot, intern_leaf_of, unheld, branch_slot, intern_branch_of, hold_of, takes, release_of}
use Rattle.arena.specs.Node.{next_generation, leaf_id, branch_id, Node}
use Rattle.arena.specs.Tables.{Tables, tables_of, cap, W, WellFormed}
use Rattle.arena.proofs.Fits.{live_is, room_yes}
use Rattle.arena.proofs.Ids.{next_gen_low_lem, next_gen_high_lem, next_gen_le_lem, dead_low, dead_gen}
use Rattle.ledger.specs.Fates.{Lives, turned, ended}
use Rattle.ledger.proofs.Balance.{leaf_gens, branch_gens, eased_word}
use Rattle.ledger.proofs.Ladders.{leaf_ways, branch_ways, hold_ways, release_ways}
use Rattle.ledger.proofs.Recycling.{Recycles, takes_recycles}
use Rattle.ledger.proofs.Writes.{held_word}

-- ---- the count of the generations

pub turned_zero : (g : ℕ) → turned 0 g ≡ g
unfolding turned
turned_zero g = refl

pub turned_suc : (k g : ℕ) → turned (suc k) g ≡ next_generation (turned k g)
unfolding turned
turned_suc k g = refl

pub turned_add : (a b g : ℕ) → turned (a + b) g ≡ turned b (turned a g)
turned_add a zero g = let e : a + 0 ≡ a = omega arith in rw e (sym (turned_zero (turned a g)))
turned_add a (suc b) g =
    let e : a + suc b ≡ suc (a + b) = omega arith in
    ap (λ (k : ℕ). turned k g) e ∙ turned_suc (a + b) g ∙ ap next_generation (turned_add a b g) ∙ sym (turned_suc b (turned a g))

-- After k recyclings a slot of generation g has the generation g + k, counted modulo 32,766.
pub turns : (k g : ℕ) → g ≤ 0x7FFD → turned k g ≡ (g + k) % 32766
turns zero g h = turned_zero g ∙ omega arith
turns (suc k) g h =
    let r = turns k g h in
    turned_suc k g ∙ ap next_generation r ∙ cases (dec_lt ((g + k) % 32766) 0x7FFD)
    (λ l. next_gen_low_lem ((g + k) % 32766) l ∙ omega arith)
    (λ l. next_gen_high_lem ((g + k) % 32766) (omega arith) ∙ omega arith)

-- So it has its generation again exactly if 32,766 divides the number of recyclings.
pub turns_round : (k g : ℕ) → g ≤ 0x7FFD → (turned k g ≡ g) ↔ (k % 32766 ≡ 0)
turns_round k g h = let r = turns k g h in ((λ e. omega arith), (λ e. omega arith))

-- ---- one call

pub ended_none : (t u : Tables) (s : ℕ) → (floor ≤ W t s own → floor ≤ W u s own) → ended t u s ≡ 0
unfolding ended
ended_none t u s h = cases (dec_lt (W t s own) floor)
    (λ l. rw (lt-leb floor (W t s own) l))
    (λ l. let p : floor ≤ W t s own = omega arith in let q = h p in rw (le-leb floor (W t s own) p, le-ltb (W u s own) floor q))

pub ended_one : (t u : Tables) (s : ℕ) → floor ≤ W t s own → W u s own < floor → ended t u s ≡ 1
unfolding ended
ended_one t u s p q = rw (le-leb floor (W t s own) p, lt-ltb (W u s own) floor q)

-- the generation of slot s goes on by as many as nodes of it ended
abbrev pub Advances : Tables → Tables → ℕ → Type 0
Advances t u s = generation_of (W u s own) ≡ turned (ended t u s) (generation_of (W t s own))

advances_none : (t u : Tables) (s : ℕ) → (floor ≤ W t s own → floor ≤ W u s own) → generation_of (W u s own) ≡ generation_of (W t s own) → Advances t u s
advances_none t u s h e = e ∙ sym (ap (λ (k : ℕ). turned k (generation_of (W t s own))) (ended_none t u s h) ∙ turned_zero (generation_of (W t s own)))

recycles_advances : (t u : Tables) → Recycles (cap t) (W t) (W u) → (s : ℕ) → s < cap t → Advances t u s
recycles_advances t u r s l =
    ⊎_elim
    (λ e. advances_none t u s (λ h. omega arith) (ap generation_of e))
    (λ e.
    let g = next_generation (generation_of (W t s own)) in
    let small = next_gen_le_lem (generation_of (W t s own)) in
    let x = e.1 in
    let low : W u s own < floor = (let p = dead_low g small in omega arith) in
    let one : ended t u s ≡ 1 = ended_one t u s e.0 low in
    ap generation_of e.1 ∙ dead_gen g small
    ∙ sym (ap (λ (k : ℕ). turned k (generation_of (W t s own))) one ∙ turned_suc 0 (generation_of (W t s own)) ∙ ap next_generation (turned_zero (generation_of (W t s own)))))
    (r s l)

abbrev Gens : Tables → ℕ → Out → Type 0
Gens t b o = generation_of (W o.after b own) ≡ generation_of (W t b own)

-- interning and holding leave the generation of every slot, also of one that is given out
pub leaf_same_gens : {n tallest : ℕ} {t : Tables} → n ≤ 8 → WellFormed n tallest t → (v b : ℕ) → generation_of (W (intern_leaf_of t v).after b own) ≡ generation_of (W t b own)
leaf_same_gens {t = t} m w v b =
    leaf_ways (Gens t b) t v (λ k d. refl) (λ s r. leaf_gens m w (room_yes t.arena r) v b) (λ s. ap generation_of (held_word t (leaf_slot t v) b own (omega arith)))

pub branch_same_gens : {n tallest : ℕ} {t : Tables} → n ≤ 8 → WellFormed n tallest t → (ks : List ℕ) → length ks ≡ 8 → (b : ℕ)
    → generation_of (W (intern_branch_of n tallest t ks).after b own) ≡ generation_of (W t b own)
branch_same_gens {n} {tallest} {t} m w ks e8 b =
    branch_ways (Gens t b) n tallest t ks (λ k d. refl) (λ f s r. branch_gens m w ks e8 f (room_yes t.arena r) b)
    (λ f s. ap generation_of (held_word (tables_of t.arena (unheld t.nodes ks) t.find) (branch_slot t ks) b own (omega arith) ∙ eased_word m w ks e8 f b own (omega arith)))

pub hold_same_gens : (t : Tables) (id b : ℕ) → generation_of (W (hold_of t id).after b own) ≡ generation_of (W t b own)
hold_same_gens t id b = hold_ways (Gens t b) t id (λ k d. refl) (λ z. refl) (λ z l. ap generation_of (held_word t (slot id) b own (omega arith)))

-- A slot whose node ends in a release, which is then recycled, has the generation one higher, or 0 where that would reach 0x7FFE; every other slot keeps its own.
pub release_advances : {n tallest : ℕ} {t : Tables} → n ≤ 8 → WellFormed n tallest t → (id s : ℕ) → s < cap t → Advances t (release_of tallest t id).after s
release_advances {tallest = tallest} {t = t} m w id s l =
    release_ways tallest t id (λ f e. to e stay) (λ f z e. to e stay) (λ f z v e. to e stay) (λ f z v r e. to e stay)
    (λ f z v r k e. to e (recycles_advances t (takes (suc tallest) holds t id) (takes_recycles m w id (live_is t id v) (omega arith)) s l))
  where
    to : {o : Out} → release_of tallest t id ≡ o → Advances t o.after s → Advances t (release_of tallest t id).after s
    to e x = subst (λ (o : Out). Advances t o.after s) (sym e) x

    stay : Advances t t s
    stay = advances_none t t s (λ h. h) refl

-- An id of another generation than its slot's is not live.
pub other_generation : (t : Tables) (y : ℕ) → generation_of y ≢ generation_of (W t (slot y) own) → Lives t y → ⊥
other_generation t y d v = d (sym (ap generation_of v.is))

-- the id of a node follows from its slot, its generation and its children alone
pub id_same : (n tallest : ℕ) (t u : Tables) (s : ℕ) → n ≤ 8 → Node n tallest (cap t) (W t) s → Node n tallest (cap u) (W u) s
    → generation_of (W u s own) ≡ generation_of (W t s own) → ((i : ℕ) → i < 8 → W u s i ≡ W t s i) → W u s own ≡ W t s own
id_same n tallest t u s m a b g k =
    ⊎_elim
    (λ p. ⊎_elim
    (λ q. q.id ∙ ap (leaf_id s) g ∙ sym p.id)
    (λ q. absurd (let x = q.some in let l = x.1 in x.2 (k x.0 (omega arith) ∙ p.bare x.0 (omega arith)))) b.kind)
    (λ p. ⊎_elim
    (λ q. absurd (let x = p.some in let l = x.1 in x.2 (sym (k x.0 (omega arith)) ∙ q.bare x.0 (omega arith))))
    (λ q. q.id ∙ ap₂ (λ (ks : List ℕ) (h : ℕ). branch_id ks s h) (kids_same 8 (W t) (W u) s k) g ∙ sym p.id) b.kind)
    a.kind
