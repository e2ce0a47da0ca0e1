-- A bar is the list of its cells entered whole, so that entering them one by one, in any order, ends in the same id.
use mathlib.Core.Path.{◌≡◌, refl, sym, ap, subst}
use mathlib.Core.List.{List, Permᴰ}
use Prim.Native.Nat.{ℕ, zero, suc, ◌+◌, ◌^◌, ◌≤◌, ◌<◌}
use native.Mathlib.Omega.{arith}
use lib.Dec.{eqb}
use Rattle.basics.specs.Limits.{deepest, cube_kids, largest_value}
use Rattle.basics.specs.Pick.{pick}
use Rattle.paths.specs.Paths.{place}
use Rattle.tree.specs.Tree.{Root}
use Rattle.tree.specs.Cells.{At}
use Rattle.arena.specs.Tables.{Tables, cap, W, WellFormed}
use Rattle.arena.specs.Calls.{Out, refused, release_of}
use Rattle.calls.specs.Does.{Held}
use Rattle.edit.specs.Edit.{edit_of}
use Rattle.bars.specs.Bars.{bar_of, pass_of}
use Rattle.bars.proofs.Drawing.{bar_drawn}
use Rattle.lists.specs.Changes.{Not-at, Distinct}
use Rattle.lists.proofs.Crews.{crew_run}
use Rattle.promises.specs.Runs.{Change, Run, Stays, Crew, OneEnd}
use Rattle.promises.specs.Bars.{inside_first, inside_rest, bar_change, bar_changes}
use Rattle.promises.specs.Lists.{Small, wanted_of, rest_of, list_of}
use Rattle.promises.proofs.CubeKind.{cube_kind}
use Rattle.promises.proofs.Lists.{any_order, in_turn}
use Rattle.promises.proofs.Whole.{list_crew}

module _ (d y z v : ℕ) (hy : y < 2 ^ d) (hz : z < 2 ^ d) where
  -- ## The cells are distinct

  not_among : (n x : ℕ) (h : x + n ≤ 2 ^ d) (s : At d) → s.x < x → Not-at s (bar_changes d y z v hy hz n x h)
  unfolding bar_changes
  not_among zero x h s l = tt
  not_among (suc n) x h s l =
      ((λ r. let e : s.x ≡ x = ap (λ (i : At d). i.x) r in omega arith), not_among n (suc x) (inside_rest d n x h) s (omega arith))

  bar_distinct : (n x : ℕ) (h : x + n ≤ 2 ^ d) → Distinct (bar_changes d y z v hy hz n x h)
  unfolding bar_changes
  bar_distinct zero x h = tt
  bar_distinct (suc n) x h =
      (not_among n (suc x) (inside_rest d n x h) (bar_change d x y z v (inside_first d n x h) hy hz).cell (omega arith), bar_distinct n (suc x) (inside_rest d n x h))

  -- ## The list

  bar_small : v ≤ largest_value → (n x : ℕ) (h : x + n ≤ 2 ^ d) → Small (wanted_of (bar_changes d y z v hy hz n x h))
  unfolding bar_changes wanted_of
  bar_small high zero x h = tt
  bar_small high (suc n) x h = (high, bar_small high n (suc x) (inside_rest d n x h))

  pass_list : (k : ℕ) (t : Tables) (r x : ℕ) (h : x + k ≤ 2 ^ d) → pass_of d y z v t r x k ≡ rest_of d t r (wanted_of (bar_changes d y z v hy hz k x h))
  unfolding pass_of rest_of wanted_of bar_changes
  pass_list zero t r x h = refl
  pass_list (suc k) t r x h =
      let o = edit_of t r d (place x y z) v in
      ap (λ (on : Out). pick (eqb o.no 0) on (refused o.no (release_of deepest t r).after))
      (pass_list k (release_of deepest o.after r).after o.id (suc x) (inside_rest d k x h))

  -- A bar is the list of its cells, entered whole. On any tables.
  pub bar_list : (t : Tables) (root x k : ℕ) (h : x + suc k ≤ 2 ^ d) → bar_of t root d y z x k v ≡ list_of d t root (wanted_of (bar_changes d y z v hy hz (suc k) x h))
  unfolding bar_of list_of wanted_of bar_changes
  bar_list t root x k h =
      let o = edit_of t root d (place x y z) v in
      ap (λ (on : Out). pick (eqb o.no 0) on (refused o.no t)) (pass_list k o.after o.id (suc x) (inside_rest d k x h))

  -- So an accepted bar is a crew that enters its cells.
  pub bar_crew : v ≤ largest_value → (t : Tables) (root x k : ℕ) (h : x + suc k ≤ 2 ^ d) → (bar_of t root d y z x k v).no ≡ 0
      → Crew d t root (bar_changes d y z v hy hz (suc k) x h) (bar_of t root d y z x k v).after (bar_of t root d y z x k v).id
  unfolding bar_changes
  bar_crew high t root x k h =
      subst (λ (o : Out). o.no ≡ 0 → Crew d t root (bar_changes d y z v hy hz (suc k) x h) o.after o.id) (sym (bar_list t root x k h))
      (list_crew d (bar_change d x y z v (inside_first d k x h) hy hz) (bar_changes d y z v hy hz k (suc x) (inside_rest d k x h)) t root (bar_small high (suc k) x h))

-- An accepted bar lies inside.
pub bar_inside : {t : Tables} → WellFormed cube_kids deepest t → (root d y z x k v : ℕ) → v ≤ largest_value → (bar_of t root d y z x k v).no ≡ 0
    → (y < 2 ^ d) × (z < 2 ^ d) × (x + suc k ≤ 2 ^ d)
bar_inside w root d y z x k v high ok =
    let i = (bar_drawn w root d y z x k v high ok).inside in
    let last = i.2 in
    (i.0, i.1, omega arith)

-- An accepted bar from EMPTY or a held tidy root, and then its cells one by one from that root, in any order, while the bar's answer is kept: the same id.
pub bar_any_order : {t : Tables} → WellFormed cube_kids deepest t → (root d y z x k v : ℕ) → v ≤ largest_value → Held t root → Root cube_kids (cap t) d (W t) root
    → (bar_of t root d y z x k v).no ≡ 0 → (hy : y < 2 ^ d) (hz : z < 2 ^ d) (h : x + suc k ≤ 2 ^ d) → {fs : List (Change d)}
    → Permᴰ (bar_changes d y z v hy hz (suc k) x h) fs → {u : Tables} {r : ℕ} → Run d (bar_of t root d y z x k v).after root fs u r
    → Stays d (bar_of t root d y z x k v).after u (bar_of t root d y z x k v).id
    → OneEnd d t root (bar_changes d y z v hy hz (suc k) x h) (bar_of t root d y z x k v).id r u
bar_any_order {t} w root d y z x k v high held start ok hy hz h order second kept =
    let c = crew_run (cube_kind d) w (bar_crew d y z v hy hz high t root x k h ok) in
    any_order (bar_drawn w root d y z x k v high ok).deep (in_turn w start c.run (c.stays root held) second kept) (bar_distinct d y z v hy hz (suc k) x h) order
