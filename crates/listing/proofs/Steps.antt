-- From one record to the next: what it does to the state, that fair tables stay fair, and the start.
use Rattle.std.proofs.Common.{◌≡◌, ℕ, ◌+◌, ◌%◌, ◌^◌, ◌≤◌, ◌≢◌, List, length, sym, refl, ap, ◌∙◌, subst, inl, inr, arith, eq-eqb, ne_eqb}
use native.Mathlib.Decide.{ℕ_discrete}
use Rattle.basics.specs.Limits.{deepest, cube_kids, kid_words}
use Rattle.basics.specs.Puts.{puts_from}
use Rattle.nodes.proofs.Sums.{cases}
use Rattle.ids.specs.declared.BlockId.{BlockId}
use Rattle.arena.specs.Tables.{state_in, Tables, tables, WellFormed, state_of as arena_of}
use Rattle.arena.specs.Calls.{Out, Fair, fits, made_of, answered_of, release_of, fresh_of}
use Rattle.arena.specs.declared.Made.{Made}
use Rattle.arena.specs.declared.Answer.{Answer}
use Rattle.arena.proofs.Releasing.{release_well}
use Rattle.calls.proofs.Arena.{release_fair}
use Rattle.basics.specs.Bytes.{Bytes}
use Rattle.listing.specs.Listing.{State, Stepped, Progress, Records, state_of, one_more, step_to, stepped_of, answer_to, lined_of, start_of}
use Rattle.listing.specs.Models.{one_of}
use Rattle.listing.specs.Holding.{Enters}
use Rattle.listing.specs.declared.Run.{Run}
use Rattle.listing.specs.declared.Lined.{Lined}

-- ---- accepted, and refused

pub step_accepted : (root count : ℕ) (o : Out) → o.no ≡ 0
    → step_to root count o ≡ record { tables = (release_of deepest o.after root).after; root = o.id; count = one_more count }
unfolding step_to
step_accepted root count o z = rw (eq-eqb o.no 0 z)

pub step_refused : (root count : ℕ) (o : Out) → o.no ≢ 0 → step_to root count o ≡ record { tables = o.after; root = root; count = one_more count }
unfolding step_to
step_refused root count o z = rw (ne_eqb o.no 0 z)

-- what is true of a released state and of a refused one
pub step_either : (P : State → Type 0) (root count : ℕ) (o : Out)
    → (o.no ≡ 0 → P (record { tables = (release_of deepest o.after root).after; root = o.id; count = one_more count }))
    → (o.no ≢ 0 → P (record { tables = o.after; root = root; count = one_more count }))
    → P (step_to root count o)
step_either P root count o accepted refused =
    cases (ℕ_discrete o.no 0) (λ z. subst P (sym (step_accepted root count o z)) (accepted z)) (λ z. subst P (sym (step_refused root count o z)) (refused z))

pub step_well : (root count : ℕ) (o : Out) → WellFormed cube_kids deepest o.after → WellFormed cube_kids deepest (step_to root count o).tables
step_well root count o w = step_either (λ s. WellFormed cube_kids deepest s.tables) root count o (λ z. release_well root (omega arith) w) (λ z. w)

step_fair : (root count : ℕ) (o : Out) → Fair cube_kids deepest o.after → Fair cube_kids deepest (step_to root count o).tables
step_fair root count o w = step_either (λ s. Fair cube_kids deepest s.tables) root count o (λ z. release_fair (omega arith) root w) (λ z. w)

pub step_count : (root count : ℕ) (o : Out) → (step_to root count o).count ≡ one_more count
step_count root count o = step_either (λ s. s.count ≡ one_more count) root count o (λ z. refl) (λ z. refl)

-- ---- the code's answer and release

count_by : (n j : ℕ) → j ≡ (n + 1) % 2 ^ 64 → j ≡ one_more n
unfolding one_more
count_by n j e = e

module _ (c : ℕ) (root : BlockId) (count : ℕ) (m : Made) (k f e : List ℕ) (j : ℕ) (more : j ≡ (count + 1) % 2 ^ 64) where
  pub to_refused : (m.no ≡ 0 → ⊥) → Fair cube_kids deepest (tables (state_in c m.slots) k f e)
      → ◌≡◌ {A = Stepped} (record { state = record { tables = tables (state_in c m.slots) k f e; root = root.0; count = j }; no = m.no }) (stepped_of root.0 count (made_of c m k f e))
  unfolding stepped_of
  to_refused z fair =
      ap (λ (i : ℕ). record { state = record { tables = tables (state_in c m.slots) k f e; root = root.0; count = i }; no = m.no }) (count_by count j more)
      ∙ ap (λ (s : State). record { state = s; no = m.no }) (sym (step_refused root.0 count (made_of c m k f e) z))

  pub to_accepted : m.no ≡ 0 → (r : Answer) (k₁ f₁ e₁ : List ℕ)
      → ((n tallest : ℕ) → n ≤ kid_words → tallest ≤ deepest → Fair n tallest (tables (state_in c m.slots) k f e) → answered_of c r k₁ f₁ e₁ ≡ release_of tallest (tables (state_in c m.slots) k f e) root.0)
      → Fair cube_kids deepest (tables (state_in c m.slots) k f e)
      → ◌≡◌ {A = Stepped} (record { state = record { tables = tables (state_in c r.slots) k₁ f₁ e₁; root = m.id.0; count = j }; no = 0 }) (stepped_of root.0 count (made_of c m k f e))
  unfolding stepped_of
  to_accepted z r k₁ f₁ e₁ released fair =
      let t = tables (state_in c m.slots) k f e in
      let q = released cube_kids deepest (omega arith) (omega arith) fair in
      ap (λ (o : Out). record { state = record { tables = o.after; root = m.id.0; count = j }; no = 0 }) q
      ∙ ap (λ (i : ℕ). record { state = record { tables = (release_of deepest t root.0).after; root = m.id.0; count = i }; no = 0 }) (count_by count j more)
      ∙ ap (λ (s : State). record { state = s; no = 0 }) (sym (step_accepted root.0 count (made_of c m k f e) z))
      ∙ ap (λ (i : ℕ). record { state = step_to root.0 count (made_of c m k f e); no = i }) (sym z)

-- ---- with its line

pub lined_is : (line : ℕ → ℕ → ℕ → List ℕ) (root count : ℕ) (a : Out) (o o₁ : List ℕ) (s : State) (n len : ℕ) → ◌≡◌ {A = Stepped} (record { state = s; no = n }) (stepped_of root count a)
    → o₁ ≡ puts_from o 0 (line s.count n s.root) → len ≡ length (line s.count n s.root)
    → ◌≡◌ {A = Progress} (record { state = s; len = len; out = o₁ }) (lined_of line root count a o)
unfolding lined_of stepped_of
lined_is line root count a o o₁ s n len e eo el =
    rw (eo, el) (ap (λ (x : Stepped). let l = line x.state.count x.no x.state.root in record { state = x.state; len = length l; out = puts_from o 0 l }) e)

-- ---- a record of a kind

enters_fair : {k : Records} → Enters k → (t : Tables) (root : ℕ) (r : List ℕ) → Bytes r → Fair cube_kids deepest t → Fair cube_kids deepest (k.enter t root r).after
enters_fair h t root r b (inl f) = inl (ap (λ (o : Out). fits o.after) (h.unfit t root r f) ∙ f)
enters_fair h t root r b (inr w) = inr (h.grants t root r b w).well

lined_state : (line : ℕ → ℕ → ℕ → List ℕ) (root count : ℕ) (a : Out) (o : List ℕ) → (lined_of line root count a o).state ≡ step_to root count a
unfolding lined_of
lined_state line root count a o = refl

-- entered: fair tables stay fair
pub entered_is : {k : Records} → Enters k → (t : Tables) (root : ℕ) (r : List ℕ) → Bytes r → (o : Out) → (Fair cube_kids deepest t → o ≡ k.enter t root r)
    → Fair cube_kids deepest t → Fair cube_kids deepest o.after × (o ≡ k.enter t root r)
entered_is enters t root r bytes o entered fair =
    let e = entered fair in
    (subst (λ (x : Out). Fair cube_kids deepest x.after) (sym e) (enters_fair enters t root r bytes fair), e)

-- and then the run gone on
pub one_is : (k : Records) (run : Run) (kids f e rec o : List ℕ) (m : Made) (k₁ f₁ e₁ : List ℕ)
    → (Fair cube_kids deepest (tables (arena_of run.arena) kids f e)
    → Fair cube_kids deepest (made_of run.arena.capacity m k₁ f₁ e₁).after × (made_of run.arena.capacity m k₁ f₁ e₁ ≡ k.enter (tables (arena_of run.arena) kids f e) run.root.0 rec))
    → (r : Lined) (k₂ f₂ e₂ o₁ : List ℕ)
    → (Fair cube_kids deepest (tables (state_in run.arena.capacity m.slots) k₁ f₁ e₁)
    → ◌≡◌ {A = Progress} (record { state = state_of r.run k₂ f₂ e₂; len = r.len; out = o₁ }) (lined_of k.line run.root.0 run.count (made_of run.arena.capacity m k₁ f₁ e₁) o))
    → Fair cube_kids deepest (tables (arena_of run.arena) kids f e)
    → Fair cube_kids deepest (tables (arena_of r.run.arena) k₂ f₂ e₂)
    × (◌≡◌ {A = Progress} (record { state = state_of r.run k₂ f₂ e₂; len = r.len; out = o₁ }) (one_of k (state_of run kids f e) rec o))
unfolding one_of answer_to
one_is k run kids f e rec o m k₁ f₁ e₁ entered r k₂ f₂ e₂ o₁ gone fair =
    let (mid, q) = entered fair in
    let h = gone mid in
    let state = ap (λ (x : Progress). x.state) h ∙ lined_state k.line run.root.0 run.count (made_of run.arena.capacity m k₁ f₁ e₁) o in (
      subst (λ (s : State). Fair cube_kids deepest s.tables) (sym state) (step_fair run.root.0 run.count (made_of run.arena.capacity m k₁ f₁ e₁) mid),
      h ∙ ap (λ (x : Out). lined_of k.line run.root.0 run.count x o) q,
    )

-- ---- the start

pub start_is : (a : Answer) (c : ℕ) (k f e k₁ f₁ e₁ : List ℕ) → answered_of c a k₁ f₁ e₁ ≡ fresh_of c k f e
    → ◌≡◌ {A = Stepped} (record { state = record { tables = tables (state_in c a.slots) k₁ f₁ e₁; root = 0; count = 0 }; no = a.no }) (start_of c k f e)
unfolding start_of
start_is a c k f e k₁ f₁ e₁ h = ap (λ (o : Out). record { state = record { tables = o.after; root = 0; count = 0 }; no = o.no }) h
