-- The holds of a run: from a fresh arena each old root's release is accepted, and the present root alone is held.
use Rattle.std.proofs.Common.{◌≡◌, ℕ, zero, suc, ◌+◌, ◌≤◌, true, ◌⊎◌, List, length, sym, refl, ◌∙◌, subst, inl, inr, ⊎_elim, arith}
use native.Mathlib.Decide.{ℕ_discrete}
use Rattle.basics.specs.Limits.{deepest, cube_kids, kid_words}
use Rattle.nodes.proofs.Sums.{cases}
use Rattle.tree.specs.Tree.{Keeps}
use Rattle.tree.proofs.Grow.{keeps_trans}
use Rattle.read_cell.proofs.Meaning.{wf_made}
use Rattle.arena.specs.Tables.{Tables, cap, W, WellFormed}
use Rattle.arena.specs.Calls.{Out, fresh_of, fit_of, release_of}
use Rattle.ledger.specs.Ledger.{on, if_accepted, holds_on}
use Rattle.ledger.proofs.Effects.{on_zero, on_same, accepted, unaccepted}
use Rattle.calls.specs.Does.{Held, Kept, fresh}
use Rattle.calls.specs.Living.{HeldAlone}
use Rattle.calls.proofs.Arena.{release_does}
use Rattle.calls.proofs.Compose.{does_none}
use Rattle.calls.proofs.Follows.{held_there, spared_kept, fresh_made}
use Rattle.calls.proofs.Living.{held_released, alone_lives, alone_counted}
use Rattle.basics.specs.Bytes.{Bytes}
use Rattle.listing.specs.Listing.{State, Records, step_to, record_in, answer_to, state_at, start_of, Entered}
use Rattle.listing.specs.Holding.{Grants, Enters, OldReleased, HeldBeside, HoldsRoot}
use Rattle.listing.proofs.Steps.{step_either}
use Rattle.listing.proofs.Whole.{record_bytes_lem, records_well, start_well, entered_stands, entered_well}

m8 : cube_kids ≤ kid_words
m8 = omega arith

-- what is kept twice is kept
kept_then : {t u v : Tables} {a : ℕ} → WellFormed cube_kids deepest t → Held t a → Kept cube_kids deepest t u a → Kept cube_kids deepest u v a → Kept cube_kids deepest t v a
kept_then {t} {u} {v} {a} w h p q = record {
  well = q.well;
  size = q.size ∙ p.size;
  keeps = keeps_trans cube_kids (cap t) (W t) (W u) (wf_made m8 w) (W v) a (held_there t a h) p.keeps (subst (λ (x : ℕ). Keeps cube_kids x (W u) (W v) a) p.size q.keeps);
}

-- ---- one record

module _ (other : ℕ → ℕ) (s : State) (beside : HeldBeside other s) (o : Out) (g : Grants s.tables o) where
  answer_holds : (y : ℕ) → holds_on o.after y ≡ other y + on y s.root + if_accepted o (on y o.id)
  answer_holds y = omega (arith, g.balance y, beside y)

  still_held : Held o.after s.root
  still_held = cases (ℕ_discrete s.root 0) (λ z. inl z) (λ z. inr (omega (arith, answer_holds s.root, on_same s.root s.root z refl)))

  old_released : (release_of deepest o.after s.root).no ≡ 0
  old_released = held_released m8 g.well s.root still_held

  step_beside : HeldBeside other (step_to s.root s.count o)
  step_beside = step_either (HeldBeside other) s.root s.count o
      (λ z y.
      let u = release_of deepest o.after s.root in
      omega (
        arith,
        (release_does m8 g.well s.root).balance y,
        accepted u (on y s.root) old_released,
        answer_holds y,
        accepted o (on y o.id) z,
      ))
      (λ z y. omega (arith, answer_holds y, unaccepted o (on y o.id) z))

  -- whatever others hold stays as it is
  step_keeps : WellFormed cube_kids deepest s.tables → (a : ℕ) → (a ≡ 0) ⊎ (1 ≤ other a) → Kept cube_kids deepest s.tables (step_to s.root s.count o).tables a
  step_keeps w a h =
      let held : Held s.tables a = ⊎_elim (λ z. inl z) (λ k. inr (omega (arith, beside a))) h in
      step_either (λ u. Kept cube_kids deepest s.tables u.tables a) s.root s.count o
      (λ z.
      let u = release_of deepest o.after s.root in
      kept_then w held (g.keeps a held) (spared_kept m8 g.well (release_does m8 g.well s.root) a
      (⊎_elim (λ e. inl e) (λ k. inr (omega (arith, answer_holds a, accepted u (on a s.root) old_released))) h)))
      (λ z. g.keeps a held)

-- ---- any number of records

module _ {k : Records} (enters : Enters k) (s : State) (w : WellFormed cube_kids deepest s.tables) (other : ℕ → ℕ) (beside : HeldBeside other s) (b : List ℕ) (bytes : Bytes b) where
  entered : (n : ℕ) → Grants (state_at k s b n).tables (answer_to k (state_at k s b n) (record_in k.width b n))
  unfolding answer_to
  entered n =
      let t = state_at k s b n in
      enters.grants t.tables t.root (record_in k.width b n) (record_bytes_lem k.width b bytes n) (records_well enters s b bytes w n)

  -- what others hold stays held, and the root of each state besides
  pub records_beside : (n : ℕ) → HeldBeside other (state_at k s b n)
  unfolding state_at
  records_beside zero = beside
  records_beside (suc n) = step_beside other (state_at k s b n) (records_beside n) (answer_to k (state_at k s b n) (record_in k.width b n)) (entered n)

  -- and stays as it is
  pub records_keep : (a : ℕ) → (a ≡ 0) ⊎ (1 ≤ other a) → (n : ℕ) → Kept cube_kids deepest s.tables (state_at k s b n).tables a
  unfolding state_at
  records_keep a h zero = spared_kept m8 w (does_none cube_kids deepest m8 s.tables w) a (⊎_elim (λ z. inl z) (λ k. inr (omega (arith, beside a))) h)
  records_keep a h (suc n) =
      let t = state_at k s b n in
      kept_then w (⊎_elim (λ z. inl z) (λ k. inr (omega (arith, beside a))) h) (records_keep a h n)
      (step_keeps other t (records_beside n) (answer_to k t (record_in k.width b n)) (entered n) (records_well enters s b bytes w n) a h)

  -- if record n is accepted, so is the release of the old root
  pub records_release : (n : ℕ) → OldReleased k (state_at k s b n) (record_in k.width b n)
  records_release n z = old_released other (state_at k s b n) (records_beside n) (answer_to k (state_at k s b n) (record_in k.width b n)) (entered n)

-- ---- from a fresh arena

-- nobody holds anything
abbrev pub nobody : ℕ → ℕ
nobody y = 0

pub start_beside : (c : ℕ) (k f e : List ℕ) → fit_of c (length k) (length f) (length e) ≡ true → HeldBeside nobody (start_of c k f e).state
unfolding start_of fresh_of
start_beside c k f e fit y = omega (arith, (fresh_made cube_kids deepest m8 (fresh c k f e (rw fit))).1 y, on_zero y 0 refl)

module _ {k : Records} (enters : Enters k) (c : ℕ) (kids f e : List ℕ) (fit : fit_of c (length kids) (length f) (length e) ≡ true)
    {b lines : List ℕ} {t : State} (r : Entered k (start_of c kids f e).state b t lines) (bytes : Bytes b) where
  entered_beside : HeldBeside nobody t
  entered_beside =
      let z = entered_stands r in
      subst (HeldBeside nobody) (sym z.state) (records_beside enters (start_of c kids f e).state (start_well c kids f e fit) nobody (start_beside c kids f e fit) b bytes z.many)

  -- Over any blocks of whole records, and n records into the next block: no hold has leaked ..
  pub run_holds_root : (x : List ℕ) → Bytes x → (n : ℕ) → HoldsRoot (state_at k t x n)
  run_holds_root x i n =
      let u = state_at k t x n in
      let w = entered_well enters r bytes (start_well c kids f e fit) in
      let well = records_well enters t x i w n in
      let alone : HeldAlone u.tables u.root = λ y. omega (arith, records_beside enters t w nobody entered_beside x i n y) in
      record { alone = alone; lives = alone_lives m8 well u.root alone; counted = alone_counted m8 well u.root alone }

  -- .. and if record n is accepted, so is the release of the old root.
  pub run_releases : (x : List ℕ) → Bytes x → (n : ℕ) → OldReleased k (state_at k t x n) (record_in k.width x n)
  run_releases x i n = records_release enters t (entered_well enters r bytes (start_well c kids f e fit)) nobody entered_beside x i n
