-- The code's bar: what is left to do after each turn comes to the whole bar.
use mathlib.Core.Path.{◌≡◌, refl, sym, ap, ◌∙◌, subst}
use mathlib.Core.Logic.{◌≢◌}
use mathlib.Core.List.{List}
use Prim.Native.Nat.{ℕ, zero, suc, ◌+◌, ◌-◌, ◌^◌, ◌≤◌, ◌<◌}
use native.Mathlib.Decide.{ℕ_discrete}
use native.Mathlib.Omega.{arith}
use lib.IntN.{pos}
use mir.Syntax.{w32}
use mir.Val.{to_z}
use mir.ValLaws.{to_z-of_z}
use borrow.Author.Tests.{eq-eqb, ne_eqb}
use Rattle.basics.specs.Limits.{deepest, cube_kids, kid_words}
use Rattle.paths.specs.declared.IVec3.{IVec3}
use Rattle.paths.specs.Paths.{place}
use Rattle.nodes.proofs.Sums.{cases}
use Rattle.arena.specs.Tables.{state_in, state_of, Tables, tables}
use Rattle.arena.specs.Calls.{Out, said, refused, Fair, made_of, answered_of, release_of}
use Rattle.arena.specs.declared.Arena.{Arena}
use Rattle.arena.specs.declared.Made.{Made}
use Rattle.arena.specs.declared.Answer.{Answer}
use Rattle.calls.proofs.Arena.{release_fair}
use Rattle.edit.specs.Edit.{edit_of}
use Rattle.edit.proofs.Edits.{edit_fair}
use Rattle.bars.specs.Bars.{pass_of, bar_of}
use Rattle.bars.specs.Models.{next_of, on_of}
use Rattle.bars.proofs.Ways.{edit_at, passed, edit_stays, pass_none, pass_on, pass_stop, bar_on, bar_stop}

-- ## One turn

module _ (d y z v : ℕ) where
  on_yes : (o : Out) (x k : ℕ) → o.no ≡ 0 → on_of d y z v o x k ≡ pass_of d y z v o.after o.id x k
  unfolding on_of
  on_yes o x k e = rw (eq-eqb o.no 0 e)

  on_no : (o : Out) (x k : ℕ) → o.no ≢ 0 → on_of d y z v o x k ≡ o
  unfolding on_of
  on_no o x k e = rw (ne_eqb o.no 0 e)

  on_none : (o : Out) (x : ℕ) → on_of d y z v o x 0 ≡ o
  on_none o x = cases (ℕ_discrete o.no 0)
      (λ e. on_yes o x 0 e ∙ pass_none d y z v o.after o.id x ∙ ap (λ (k : ℕ). said k o.id o.after) (sym e))
      (λ e. on_no o x 0 e)

  on_first : (t : Tables) (root x k : ℕ) → on_of d y z v (edit_at d y z v t root x) (suc x) k ≡ bar_of t root d y z x k v
  on_first t root x k =
      let o = edit_at d y z v t root x in
      cases (ℕ_discrete o.no 0)
      (λ e. on_yes o (suc x) k e ∙ sym (bar_on d y z v t root x k e))
      (λ e. on_no o (suc x) k e ∙ edit_stays d y z v t root x e ∙ sym (bar_stop d y z v t root x k e))

  on_next : (t : Tables) (r x k : ℕ) → on_of d y z v (next_of t r d (place x y z) v) (suc x) k ≡ pass_of d y z v t r x (suc k)
  unfolding next_of
  on_next t r x k =
      let o = edit_at d y z v t r x in
      let i = said o.no o.id (passed d y z v t r x) in
      cases (ℕ_discrete o.no 0)
      (λ e. on_yes i (suc x) k e ∙ sym (pass_on d y z v t r x k e))
      (λ e.
      on_no i (suc x) k e ∙ ap (λ (q : Out). said o.no q.id (release_of deepest q.after r).after) (edit_stays d y z v t r x e)
      ∙ sym (pass_stop d y z v t r x k e))

  -- ## A bar in two parts

  -- the first j cells, and then, if they were accepted, k more from their answer on
  pass_then : (j k : ℕ) (t : Tables) (r x : ℕ) → pass_of d y z v t r x (j + k) ≡ on_of d y z v (pass_of d y z v t r x j) (x + j) k
  pass_then zero k t r x =
      let a : 0 + k ≡ k = omega arith in
      let b : x ≡ x + 0 = omega arith in
      ap (pass_of d y z v t r x) a ∙ sym (on_yes (said 0 r t) x k refl)
      ∙ ap (λ (n : ℕ). on_of d y z v (said 0 r t) n k) b ∙ ap (λ (o : Out). on_of d y z v o (x + 0) k) (sym (pass_none d y z v t r x))
  pass_then (suc j) k t r x =
      let o = edit_at d y z v t r x in
      let u = passed d y z v t r x in
      let a : suc j + k ≡ suc (j + k) = omega arith in
      let b : suc x + j ≡ x + suc j = omega arith in
      cases (ℕ_discrete o.no 0)
      (λ e.
      ap (pass_of d y z v t r x) a ∙ pass_on d y z v t r x (j + k) e ∙ pass_then j k u o.id (suc x)
      ∙ ap (λ (n : ℕ). on_of d y z v (pass_of d y z v u o.id (suc x) j) n k) b
      ∙ ap (λ (i : Out). on_of d y z v i (x + suc j) k) (sym (pass_on d y z v t r x j e)))
      (λ e.
      ap (pass_of d y z v t r x) a ∙ pass_stop d y z v t r x (j + k) e ∙ sym (on_no (refused o.no (release_of deepest t r).after) (x + suc j) k e)
      ∙ ap (λ (i : Out). on_of d y z v i (x + suc j) k) (sym (pass_stop d y z v t r x j e)))

-- A bar of j + k cells after the first is the bar of j, and, if that was accepted, the k cells more from its answer on. On any tables.
pub bar_then : (t : Tables) (root d y z x j k v : ℕ) → bar_of t root d y z x (j + k) v ≡ on_of d y z v (bar_of t root d y z x j v) (suc x + j) k
bar_then t root d y z x j k v =
    let o = edit_at d y z v t root x in
    cases (ℕ_discrete o.no 0)
    (λ e.
    bar_on d y z v t root x (j + k) e ∙ pass_then d y z v j k o.after o.id (suc x)
    ∙ ap (λ (i : Out). on_of d y z v i (suc x + j) k) (sym (bar_on d y z v t root x j e)))
    (λ e.
    bar_stop d y z v t root x (j + k) e ∙ sym (on_no d y z v (refused o.no t) (suc x + j) k e)
    ∙ ap (λ (i : Out). on_of d y z v i (suc x + j) k) (sym (bar_stop d y z v t root x j e)))

-- ## The functions

coord_is : (x : ℕ) → x < 2 ^ 31 → to_z w32 x ≡ pos x
coord_is x h = to_z-of_z w32 (pos x) (record { sfits = omega arith })

pub cell_is : (x y z : ℕ) → x < 2 ^ 31 → y < 65536 → z < 65536 → ◌≡◌ {A = IVec3} (record { x = to_z w32 x; y = to_z w32 y; z = to_z w32 z }) (place x y z)
cell_is x y z hx hy hz = rw (coord_is x hx, coord_is y (omega arith), coord_is z (omega arith))

next_fair : (t : Tables) (r d : ℕ) (p : IVec3) (v : ℕ) → v < 65536 → Fair cube_kids deepest t → Fair cube_kids deepest (next_of t r d p v).after
unfolding next_of
next_fair t r d p v h f = release_fair (omega arith) r (edit_fair r d p v (omega arith) f)

-- the edit, and the release
pub next_law : (a : Arena) (k f e : List ℕ) (root d : ℕ) (p : IVec3) (v : ℕ) → v < 65536 → (m : Made) (k₁ f₁ e₁ : List ℕ)
    → (Fair cube_kids deepest (tables (state_of a) k f e) → made_of a.capacity m k₁ f₁ e₁ ≡ edit_of (tables (state_of a) k f e) root d p v) → (r : Answer) (k₂ f₂ e₂ : List ℕ)
    → ((n tallest : ℕ) → n ≤ kid_words → tallest ≤ deepest → Fair n tallest (tables (state_in a.capacity m.slots) k₁ f₁ e₁) → answered_of a.capacity r k₂ f₂ e₂ ≡ release_of tallest (tables (state_in a.capacity m.slots) k₁ f₁ e₁) root)
    → Fair cube_kids deepest (tables (state_of a) k f e) → said m.no m.id.0 (tables (state_in a.capacity r.slots) k₂ f₂ e₂) ≡ next_of (tables (state_of a) k f e) root d p v
unfolding next_of
next_law a k f e root d p v small m k₁ f₁ e₁ edited r k₂ f₂ e₂ released fair =
    let q = edited fair in
    let fair₁ : Fair cube_kids deepest (tables (state_in a.capacity m.slots) k₁ f₁ e₁) =
    subst (λ (o : Out). Fair cube_kids deepest o.after) (sym q) (edit_fair root d p v (omega arith) fair) in
    ap (λ (o : Out). said m.no m.id.0 o.after) (released cube_kids deepest (omega arith) (omega arith) fair₁)
    ∙ ap (λ (o : Out). said o.no o.id (release_of deepest o.after root).after) q

-- what is left after i turns comes to the same
abbrev pub Left : ℕ → ℕ → ℕ → ℕ → ℕ → ℕ → Out → Out → ℕ → Type 0
Left d y z v x more first o i =
    Fair cube_kids deepest first.after → Fair cube_kids deepest o.after × (on_of d y z v o (x + i) (more - i) ≡ on_of d y z v first x more)

module _ (d y z v x more : ℕ) where
  pub left_start : (first : Out) → Left d y z v x more first first 0
  left_start first fair =
      let a : x + 0 ≡ x = omega arith in
      let b : more - 0 ≡ more = omega arith in
      (fair, ap (λ (n : ℕ). on_of d y z v first n (more - 0)) a ∙ ap (λ (n : ℕ). on_of d y z v first x n) b)

  pub left_again : (first : Out) (i c : ℕ) (l : Made) (k f e : List ℕ) → Left d y z v x more first (made_of c l k f e) i → i < more → l.no ≡ 0 → v < 65536
      → (p : IVec3) → p ≡ place (x + i) y z → (m : Made) (k₁ f₁ e₁ : List ℕ)
      → (Fair cube_kids deepest (tables (state_in c l.slots) k f e) → made_of c m k₁ f₁ e₁ ≡ next_of (tables (state_in c l.slots) k f e) l.id.0 d p v)
      → Left d y z v x more first (made_of c m k₁ f₁ e₁) (i + 1)
  left_again first i c l k f e left on ok small p at m k₁ f₁ e₁ next fair =
      let (now, same) = left fair in
      let t = tables (state_in c l.slots) k f e in
      let q : made_of c m k₁ f₁ e₁ ≡ next_of t l.id.0 d (place (x + i) y z) v = next now ∙ ap (λ (b : IVec3). next_of t l.id.0 d b v) at in
      let a : x + (i + 1) ≡ suc (x + i) = omega arith in
      let b : suc (more - (i + 1)) ≡ more - i = omega arith in (
        subst (λ (o : Out). Fair cube_kids deepest o.after) (sym q) (next_fair t l.id.0 d (place (x + i) y z) v small now),
        ap (λ (o : Out). on_of d y z v o (x + (i + 1)) (more - (i + 1))) q
            ∙ ap (λ (n : ℕ). on_of d y z v (next_of t l.id.0 d (place (x + i) y z) v) n (more - (i + 1))) a
            ∙ on_next d y z v t l.id.0 (x + i) (more - (i + 1))
            ∙ ap (λ (n : ℕ). pass_of d y z v t l.id.0 (x + i) n) b
            ∙ sym (on_yes d y z v (made_of c l k f e) (x + i) (more - i) ok) ∙ same,
      )

  module _ (first : Out) (i : ℕ) (o : Out) (left : Left d y z v x more first o i) where
    -- refused on the way
    pub left_stop : (o.no ≡ 0 → ⊥) → Fair cube_kids deepest first.after → o ≡ on_of d y z v first x more
    left_stop n fair = sym (on_no d y z v o (x + i) (more - i) n) ∙ (left fair).1

    -- all cells entered
    pub left_none : more ≤ i → Fair cube_kids deepest first.after → o ≡ on_of d y z v first x more
    left_none n fair =
        let q : more - i ≡ 0 = omega arith in
        sym (on_none d y z v o (x + i)) ∙ ap (λ (j : ℕ). on_of d y z v o (x + i) j) (sym q) ∙ (left fair).1

-- the first edit, and what follows it
pub bar_law : (a : Arena) (k f e : List ℕ) (root d y z x more v : ℕ) → v < 65536 → (p : IVec3) → p ≡ place x y z → (m : Made) (k₁ f₁ e₁ : List ℕ)
    → (Fair cube_kids deepest (tables (state_of a) k f e) → made_of a.capacity m k₁ f₁ e₁ ≡ edit_of (tables (state_of a) k f e) root d p v) → (o : Out)
    → (Fair cube_kids deepest (tables (state_in a.capacity m.slots) k₁ f₁ e₁) → o ≡ on_of d y z v (made_of a.capacity m k₁ f₁ e₁) (x + 1) more)
    → Fair cube_kids deepest (tables (state_of a) k f e) → o ≡ bar_of (tables (state_of a) k f e) root d y z x more v
bar_law a k f e root d y z x more v small p at m k₁ f₁ e₁ edited o on fair =
    let t = tables (state_of a) k f e in
    let q : made_of a.capacity m k₁ f₁ e₁ ≡ edit_of t root d (place x y z) v = edited fair ∙ ap (λ (c : IVec3). edit_of t root d c v) at in
    let s : x + 1 ≡ suc x = omega arith in
    on (subst (λ (i : Out). Fair cube_kids deepest i.after) (sym q) (edit_fair root d (place x y z) v (omega arith) fair))
    ∙ ap (λ (i : Out). on_of d y z v i (x + 1) more) q ∙ ap (λ (n : ℕ). on_of d y z v (edit_at d y z v t root x) n more) s
    ∙ on_first d y z v t root x more
