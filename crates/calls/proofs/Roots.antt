-- A kept root answers lookup as before at every cell and depth, and expansion writes the same.
use mathlib.Core.Path.{◌≡◌, sym, ◌∙◌, subst}
use mathlib.Core.List.{List}
use Prim.Native.Nat.{ℕ, ◌^◌, ◌≤◌}
use native.Mathlib.Omega.{arith}
use lib.ListN.{length}
use Rattle.basics.specs.Limits.{deepest, deepest_cube, cube_kids, kid_words}
use Rattle.tree.specs.Tree.{LiveOr0, Cell, look}
use Rattle.tree.specs.Cells.{At, way}
use Rattle.tree.proofs.CellLaws.{cube_cell}
use Rattle.tree.proofs.Grow.{look_later, there_later}
use Rattle.arena.specs.Tables.{Tables, cap, W, WellFormed}
use Rattle.read_cell.specs.Calls.{expand_of}
use Rattle.read_cell.proofs.Meaning.{wf_made}
use Rattle.calls.specs.Cells.{Alike}
use Rattle.calls.specs.Does.{Kept}
use Rattle.calls.proofs.Expanding.{look_at_lem, answers_alike, expand_at, expand_list}

-- ## For any number of children

module _ {n tallest : ℕ} (m : n ≤ kid_words) {t u : Tables} {a : ℕ} (w : WellFormed n tallest t) (there : LiveOr0 (cap t) (W t) a) (k : Kept n tallest t u a) where
  pub kept_there : LiveOr0 (cap u) (W u) a
  kept_there = subst (λ (c : ℕ). LiveOr0 c (W u) a) (sym k.size) (there_later n (cap t) (W t) (W u) (wf_made m w) a there k.keeps)

  pub kept_cell : {e : ℕ} {p : List ℕ} → Cell n e p → look (W u) p a ≡ look (W t) p a
  kept_cell c = sym (look_later n (cap t) (W t) (W u) (wf_made m w) a there k.keeps c)

-- ## Cubes

module _ {tallest : ℕ} {t u : Tables} {a : ℕ} (w : WellFormed cube_kids tallest t) (there : LiveOr0 (cap t) (W t) a) (k : Kept cube_kids tallest t u a) where
  stays : LiveOr0 (cap u) (W u) a
  stays = kept_there (omega arith) w there k

  pub kept_look : {e : ℕ} (s : At e) → look (W u) (way s) a ≡ look (W t) (way s) a
  kept_look {e} s = kept_cell (omega arith) w there k (cube_cell e s.x s.y s.z)

  pub kept_reads : {e : ℕ} → e ≤ deepest → (s : At e) → Alike u a t a s
  kept_reads h s = answers_alike (look_at_lem k.well h a stays s) (look_at_lem w h a there s) (kept_look s)

  pub kept_cube : {e : ℕ} → e ≤ deepest_cube → (l m : List ℕ) → length l ≡ 8 ^ e → length m ≡ 8 ^ e → (expand_of u a e l).cube ≡ (expand_of t a e m).cube
  kept_cube h l m el em =
      let x = expand_at w h a there m em in
      expand_list k.well h a stays l el (expand_of t a _ m).cube x.size (λ c. x.cells c ∙ sym (kept_look c))
