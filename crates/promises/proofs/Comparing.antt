-- The list of a comparison, entered as edits into the left model, ends in the right root's id.
use mathlib.Core.Path.{◌≡◌, sym, ap, ◌∙◌}
use mathlib.Core.List.{List, [], ◌∷◌}
use Prim.Native.Nat.{ℕ, suc, ◌≤◌, ◌<◌}
use native.Mathlib.Decide.{ℕ_discrete}
use native.Mathlib.Omega.{arith}
use lib.ListN.{length, get_or}
use Rattle.basics.specs.Limits.{deepest, cube_kids}
use Rattle.nodes.proofs.Sums.{cases, split}
use Rattle.paths.specs.Paths.{path_of}
use Rattle.tree.specs.Tree.{Root}
use Rattle.tree.specs.Cells.{At, way}
use Rattle.arena.specs.Tables.{Tables, cap, W, WellFormed}
use Rattle.calls.specs.Cells.{spot}
use Rattle.calls.proofs.Expanding.{look_at_lem}
use Rattle.compare.specs.Compare.{Outcome, compare_of}
use Rattle.compare.specs.Promises.{shows, Listed, Compares}
use Rattle.compare.proofs.Codes.{code_one}
use Rattle.compare.proofs.Theorems.{accepted_exactly, number_is, compare_right}
use Rattle.lists.specs.Changes as lists
use Rattle.lists.specs.Runs.{numbers_of}
use Rattle.lists.proofs.Theorems.{one_end}
use Rattle.promises.specs.Promises.{Cube, same_at, changed}
use Rattle.promises.specs.Runs.{Change, entered, Run, Stays}
use Rattle.promises.specs.Comparing.{ListFrom}
use Rattle.promises.proofs.Spots.{SameSpot, cell_one, same_spot, changed_at}
use Rattle.promises.proofs.CubeKind.{cube_kind}

-- ## Cell by cell

shows_at : {d : ℕ} (t : Tables) (a : ℕ) (s c : At d) → SameSpot s c → shows t a s ≡ shows t a c
shows_at {d} t a s c e = ap (λ (i : At d). shows t a i) (cell_one s c e)

module _ {d : ℕ} (deep : d ≤ deepest) {t : Tables} {a b : ℕ} {c l r : List ℕ} {o : Outcome} (x : Compares d t a b c l r o) where
  -- no place is left out
  enters_to : (i : ℕ) (es : List (Change d)) → ListFrom o i es → i ≤ o.count
  enters_to i [] h = omega arith
  enters_to i (e ∷ es) h = let k = enters_to (suc i) es h.2 in omega arith

  -- a change has the value of the right root at its cell
  value_right : (i : ℕ) (e : Change d) → i < o.count → path_of (spot e.cell) ≡ get_or o.codes i 0 → e.value ≡ get_or o.rights i 0 → (s : At d) → SameSpot s e.cell
      → e.value ≡ shows t b s
  value_right i e h code value s same =
      let (q, k) = x.cells i h in
      value ∙ k.right ∙ sym (shows_at t b e.cell q (code_one (omega arith) e.cell q (code ∙ k.code))) ∙ sym (shows_at t b s e.cell same)

  one_right : (F : Cube d) (i : ℕ) (e : Change d) → i < o.count → path_of (spot e.cell) ≡ get_or o.codes i 0 → e.value ≡ get_or o.rights i 0 → (s : At d)
      → F s ≡ shows t b s → changed F e.cell e.value s ≡ shows t b s
  unfolding lists.changed
  one_right F i e h code value s f = split (same_at s e.cell)
      (λ q. rw q (value_right i e h code value s (same_spot s e.cell q)))
      (λ q. rw q f)

  -- a cell that shows what the right root shows goes on to
  stays_right : (i : ℕ) (es : List (Change d)) → ListFrom o i es → (F : Cube d) (s : At d) → F s ≡ shows t b s → entered F es s ≡ shows t b s
  unfolding lists.entered
  stays_right i [] h F s f = f
  stays_right i (e ∷ es) h F s f =
      let k = enters_to (suc i) es h.2 in
      stays_right (suc i) es h.2 (changed F e.cell e.value) s (one_right F i e (omega arith) h.0 h.1 s f)

  -- and a cell that is listed comes to
  comes_right : (i : ℕ) (es : List (Change d)) → ListFrom o i es → (F : Cube d) (s : At d) (j : ℕ) → i ≤ j → Listed t a b o s j → entered F es s ≡ shows t b s
  unfolding lists.entered
  comes_right i [] h F s j up k = absurd (let w = k.within in omega arith)
  comes_right i (e ∷ es) h F s j up k = cases (ℕ_discrete i j)
      (λ q.
      let n = enters_to (suc i) es h.2 in
      let p = code_one (omega arith) s e.cell (sym k.code ∙ ap (λ (m : ℕ). get_or o.codes m 0) (sym q) ∙ sym h.0) in
      stays_right (suc i) es h.2 (changed F e.cell e.value) s
      (changed_at F e.cell e.value s p ∙ value_right i e (omega arith) h.0 h.1 s p))
      (λ q. comes_right (suc i) es h.2 (changed F e.cell e.value) s j (omega arith) k)

  -- So every cell shows what the right root shows.
  all_right : (es : List (Change d)) → ListFrom o 0 es → (F : Cube d) → ((s : At d) → F s ≡ shows t a s) → (s : At d) → entered F es s ≡ shows t b s
  all_right es h F f s = cases (ℕ_discrete (shows t a s) (shows t b s))
      (λ e. stays_right 0 es h F s (f s ∙ e))
      (λ e. let (j, k) = x.places s e in comes_right 0 es h F s j (omega arith) k)

  -- ## The run

  ends_right : WellFormed cube_kids deepest t → Root cube_kids (cap t) d (W t) a → Root cube_kids (cap t) d (W t) b → (es : List (Change d)) → ListFrom o 0 es
      → {u : Tables} {end : ℕ} → Run d t a es u end → Stays d t u b → end ≡ b
  unfolding lists.entered
  ends_right w ra rb es h run kept =
      one_end (cube_kind d) w ra rb run kept
      (λ s. all_right es h (numbers_of way t a) (λ i. sym (look_at_lem w deep a ra.there i).value) s ∙ (look_at_lem w deep b rb.there s).value)

-- In well-formed tables take two roots, each EMPTY or live, tidy and no taller than d. A comparison of them is accepted. A run from the left root enters its list, with any
-- calls and readings between that leave the root that it stands at and the right root EMPTY or live: it ends with the right root's id.
pub entered_right : {d : ℕ} {t : Tables} {a b : ℕ} → WellFormed cube_kids deepest t → Root cube_kids (cap t) d (W t) a → Root cube_kids (cap t) d (W t) b → (c l r : List ℕ)
    → (compare_of t a b d c l r).no ≡ 0 → (es : List (Change d)) → ListFrom (compare_of t a b d c l r) 0 es → {u : Tables} {end : ℕ} → Run d t a es u end → Stays d t u b
    → end ≡ b
entered_right {d} {t} {a} {b} w ra rb c l r ok es h run kept =
    let no = sym (number_is t a b d c l r) ∙ ok in
    let past = ((accepted_exactly t a b d (length c) (length l) (length r)).0 no).0 in
    ends_right past.deep (compare_right t a b d c l r no) w ra rb es h run kept
