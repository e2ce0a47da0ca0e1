-- Demand 3: two edits in both orders. They are the two orders of a list of two changes, with calls between that release nothing.
use mathlib.Core.Path.{◌≡◌, refl, sym, ◌∙◌, subst}
use mathlib.Core.List.Permᴰ
use mathlib.Core.List.{List, [], ◌∷◌}
use Prim.Native.Nat.{ℕ, ◌≤◌}
use native.Mathlib.Omega.{arith}
use lib.ListN.{set}
use Rattle.basics.specs.Limits.{deepest, cube_kids, largest_value}
use Rattle.tree.specs.Tree.{LiveOr0, Root}
use Rattle.tree.specs.Cells.{At, Apart}
use Rattle.arena.specs.Tables.{Tables, cap, W, WellFormed}
use Rattle.calls.specs.Cells.{spot, stands_at, Answers, Alike}
use Rattle.calls.specs.Does.{There}
use Rattle.calls.proofs.Expanding.{look_at_lem, answers_as, answers_alike}
use Rattle.read_cell.specs.Calls.{expand_of}
use Rattle.edit.specs.Edit.{edit_no}
use Rattle.edit.specs.Promises.{then, gives}
use Rattle.edit.proofs.Edits.{edit_right}
use Rattle.lists.specs.Runs.{done, enter, besides}
use Rattle.lists.proofs.Changes.{last_decides, entered_off}
use Rattle.lists.proofs.Runs.{enter_besides}
use Rattle.compare.specs.Promises.{shows}
use Rattle.promises.specs.Promises.{same_at, call, Unreleased, none, and, BothOrders}
use Rattle.promises.specs.Runs.{Change, set_all, Run, accepted, Runs}
use Rattle.promises.proofs.Between.{AllKept, call_keeps_all, all_there, unreleased_keeps_all}
use Rattle.promises.proofs.Spots.{apart_two, same_one, no_two}
use Rattle.promises.proofs.CubeKind.{cube_kind}
use Rattle.promises.proofs.Lists.{any_order}

-- ## What is there

module _ {d : ℕ} {t : Tables} (w : WellFormed cube_kids deepest t) (a : ℕ) (c : At d) (v : ℕ) (high : v ≤ largest_value) (ok : edit_no t a d (spot c) v ≡ 0) where
  edit_keeps_all : AllKept t (then t a c v)
  edit_keeps_all = let r = edit_right w a d (spot c) v high ok in record { well = r.well; size = r.size; grows = r.edited.grows }

  answer_there : There (then t a c v) (gives t a c v)
  answer_there =
      let r = edit_right w a d (spot c) v high ok in
      subst (λ (k : ℕ). LiveOr0 k (W (then t a c v)) (gives t a c v)) (sym r.size) r.edited.there

-- Calls that release nothing may come before a run.
between : {d : ℕ} {t u v : Tables} {a r : ℕ} {es : List (Change d)} → WellFormed cube_kids deepest t → There t a → Unreleased t u → Run d u a es v r → Run d t a es v r
between w there none rest = rest
between w there (and c h n more) rest =
    let g = call_keeps_all c w h n in
    let on = all_there w g there in
    besides (call c h) on (between g.well on more rest)

-- ## Both orders

-- In a well-formed arena take EMPTY or a live tidy root no taller than the depth, two different cells and a value for each. Make both edits from that root in
-- one order, then from the same root in the other, all four accepted; between them come any calls that release nothing: t₁ to t₄ are what the four edits
-- leave, u₁ to u₃ what the calls after the first three leave. Both end in the same id, whose cube is the old one with those two cells changed.
module _ {d : ℕ} (t₀ : Tables) (w : WellFormed cube_kids deepest t₀) (deep_enough : d ≤ deepest) (root : ℕ) (tidy : Root cube_kids (cap t₀) d (W t₀) root) (p q : At d) (apart : Apart p q)
    (i j : ℕ) (hi : i ≤ largest_value) (hj : j ≤ largest_value) (u₁ u₂ u₃ : Tables) where
  abbrev pub t₁ : Tables
  t₁ = then t₀ root p i

  abbrev pub r₁ : ℕ
  r₁ = gives t₀ root p i

  abbrev pub t₂ : Tables
  t₂ = then u₁ r₁ q j

  abbrev pub r₂ : ℕ
  r₂ = gives u₁ r₁ q j

  abbrev pub t₃ : Tables
  t₃ = then u₂ root q j

  abbrev pub r₃ : ℕ
  r₃ = gives u₂ root q j

  abbrev pub t₄ : Tables
  t₄ = then u₃ r₃ p i

  abbrev pub r₄ : ℕ
  r₄ = gives u₃ r₃ p i

  abbrev first : Change d
  first = record { cell = p; value = i }

  abbrev second : Change d
  second = record { cell = q; value = j }

  both_set : (x : List ℕ) → set_all x (first ∷ second ∷ []) ≡ set (set x (stands_at p) i) (stands_at q) j
  unfolding set_all
  both_set x = refl

  pub both_orders : edit_no t₀ root d (spot p) i ≡ 0 → Unreleased t₁ u₁ → edit_no u₁ r₁ d (spot q) j ≡ 0 → Unreleased t₂ u₂
      → edit_no u₂ root d (spot q) j ≡ 0 → Unreleased t₃ u₃ → edit_no u₃ r₃ d (spot p) i ≡ 0
      → BothOrders d t₀ root p i q j t₄ r₂ r₄
  both_orders ok₁ calls₁ ok₂ calls₂ ok₃ calls₃ ok₄ =
      let k₁ = edit_keeps_all w root p i hi ok₁ in
      let l₁ = unreleased_keeps_all k₁.well calls₁ in
      let k₂ = edit_keeps_all l₁.well r₁ q j hj ok₂ in
      let l₂ = unreleased_keeps_all k₂.well calls₂ in
      let k₃ = edit_keeps_all l₂.well root q j hj ok₃ in
      let l₃ = unreleased_keeps_all k₃.well calls₃ in
      -- the starting root is there until the second run leaves it, and the first end from then on
      let root₁ : There t₁ root = all_there w k₁ tidy.there in
      let root₁' : There u₁ root = all_there k₁.well l₁ root₁ in
      let root₂ : There t₂ root = all_there l₁.well k₂ root₁' in
      let end₂ : There t₂ r₂ = answer_there l₁.well r₁ q j hj ok₂ in
      let end₂' : There u₂ r₂ = all_there k₂.well l₂ end₂ in
      let end₃ : There t₃ r₂ = all_there l₂.well k₃ end₂' in
      let end₃' : There u₃ r₂ = all_there k₃.well l₃ end₃ in
      let terms : Runs d t₀ root (first ∷ second ∷ []) r₂ (second ∷ first ∷ []) r₄ t₄ = record {
        well = w;
        start = tidy;
        first = enter first (accepted hi ok₁) (between k₁.well (answer_there w root p i hi ok₁) calls₁
            (enter second (accepted hj ok₂) (between k₂.well end₂ calls₂
            (enter_besides (cube_kind d) second l₂.well (accepted hj ok₃) end₂' (between k₃.well end₃ calls₃
            (enter_besides (cube_kind d) first l₃.well (accepted hi ok₄) end₃' done))))));
        second = enter_besides (cube_kind d) first w (accepted hi ok₁) tidy.there (between k₁.well root₁ calls₁
            (enter_besides (cube_kind d) second l₁.well (accepted hj ok₂) root₁' (between k₂.well root₂ calls₂
            (enter second (accepted hj ok₃) (between k₃.well (answer_there l₂.well root q j hj ok₃) calls₃
            (enter first (accepted hi ok₄) done))))));
      } in
      let e = any_order deep_enough terms ((apart_two p q apart, tt), (tt, tt)) (Permᴰ.swap refl refl) in
      let id = e.one in
      record {
        one = id;
        at_p = subst (λ (r : ℕ). Answers t₄ r p i) id
            (answers_as (e.reads p) (last_decides same_at same_one no_two (shows t₀ root) [] first (second ∷ []) (apart_two p q apart, tt)));
        at_q = subst (λ (r : ℕ). Answers t₄ r q j) id (answers_as (e.reads q) (last_decides same_at same_one no_two (shows t₀ root) (first ∷ []) second [] tt));
        elsewhere = λ s a b. subst (λ (r : ℕ). Alike t₄ r t₀ root s) id
            (answers_alike (e.reads s) (look_at_lem w deep_enough root tidy.there s)
            (entered_off same_at same_one no_two (shows t₀ root) (first ∷ second ∷ []) s (apart_two s p a, (apart_two s q b, tt))
            ∙ (look_at_lem w deep_enough root tidy.there s).value));
        cube = λ g l m x y.
            subst (λ (r : ℕ). (expand_of t₄ r d l).cube ≡ set (set (expand_of t₀ root d m).cube (stands_at p) i) (stands_at q) j) id
            ((e.expands g l m x y).1 ∙ both_set (expand_of t₀ root d m).cube);
      }
