-- One step of a probe and of a shift, as the code's loops take them.
use Prim.Native.Nat.{ℕ, zero, suc, ◌+◌, ◌-◌, ◌≤◌, ◌<◌}
use mathlib.Core.Bool.{Bool, true, false}
use mathlib.Core.Path.{◌≡◌, refl, sym, ap, ◌∙◌}
use mathlib.Core.List.{List}
use native.Mathlib.Numerals.{add-one}
use native.Mathlib.Omega.{arith}
use lib.ListN.{length, get_or, set, length-set}
use lib.Seq.{set_out}
use lib.Dec.{eqb, leb}
use borrow.Author.Tests.{eq-eqb, ne_eqb, le-leb, lt-leb}
use Rattle.basics.specs.Pick.{pick}
use Rattle.find_hash.specs.Hash.{home_in}
use Rattle.nodes.specs.Words.{Words}
use Rattle.find.specs.Cells.{stops, probe_n, probe, leaf_cell, kids_cell, shift_n, shift, erase, remove}
use Rattle.find.specs.Content.{leaf_is, kids_are}

-- ---- where a probe stops, and where not
pub stops_empty : (same : ℕ → Bool) (x : ℕ) → x ≡ 0 → stops same x ≡ true
unfolding stops
stops_empty same x e = rw (eq-eqb x 0 e)

pub stops_same : (same : ℕ → Bool) (x : ℕ) → same x ≡ true → stops same x ≡ true
unfolding stops
stops_same same x e = rw e (both (eqb x 0))
  where
    both : (b : Bool) → pick b true true ≡ true
    both true = refl
    both false = refl

pub stops_not : (same : ℕ → Bool) (x : ℕ) → (x ≡ 0 → ⊥) → same x ≡ false → stops same x ≡ false
unfolding stops
stops_not same x n e = rw (ne_eqb x 0 n) e

-- ---- a probe's steps
pub probe_end : (same : ℕ → Bool) (t : List ℕ) (i : ℕ) → length t ≤ i → probe same t i ≡ i
unfolding probe probe_n
probe_end same t i h = let e : length t - i ≡ 0 = omega arith in rw e

pub probe_step : (same : ℕ → Bool) (t : List ℕ) (i : ℕ) → i < length t → probe same t i ≡ pick (stops same (get_or t i 0)) i (probe same t (i + 1))
unfolding probe probe_n
probe_step same t i h = let e : length t - i ≡ suc (length t - (i + 1)) = omega arith in rw (e, add-one)

pub probe_here : (same : ℕ → Bool) (t : List ℕ) (i : ℕ) → i < length t → stops same (get_or t i 0) ≡ true → probe same t i ≡ i
probe_here same t i h e = probe_step same t i h ∙ rw e

pub probe_on : (same : ℕ → Bool) (t : List ℕ) (i : ℕ) → i < length t → stops same (get_or t i 0) ≡ false → probe same t i ≡ probe same t (i + 1)
probe_on same t i h e = probe_step same t i h ∙ rw e

-- ---- a search's steps: u is the cell where it ends, and i the cell that it has come to
pub leaf_start : (t : List ℕ) (cap : ℕ) (W : Words) (h v i : ℕ) → i ≡ home_in cap h → leaf_cell t cap W h v ≡ probe (leaf_is W h v) t i
unfolding leaf_cell
leaf_start t cap W h v i e = ap (probe (leaf_is W h v) t) (sym e)

pub kids_start : (t : List ℕ) (cap : ℕ) (W : Words) (h : ℕ) (ks : List ℕ) (i : ℕ) → i ≡ home_in cap h → kids_cell t cap W h ks ≡ probe (kids_are W h ks) t i
unfolding kids_cell
kids_start t cap W h ks i e = ap (probe (kids_are W h ks) t) (sym e)

module _ (same : ℕ → Bool) (t : List ℕ) (u i : ℕ) (e : u ≡ probe same t i) where
  pub search_on : (s : ℕ) (b : Bool) → i < length t → s ≡ get_or t i 0 → (s ≡ 0 → ⊥) → b ≡ same s → b ≡ false → u ≡ probe same t (i + 1)
  search_on s b l d n q z = e ∙ probe_on same t i l (stops_not same (get_or t i 0) (λ y. n (d ∙ y)) (ap same (sym d) ∙ sym q ∙ z))

  pub search_empty : (s : ℕ) → i < length t → s ≡ get_or t i 0 → s ≡ 0 → i ≡ u
  search_empty s l d z = sym (e ∙ probe_here same t i l (stops_empty same (get_or t i 0) (sym d ∙ z)))

  pub search_hit : (s : ℕ) (b : Bool) → i < length t → s ≡ get_or t i 0 → b ≡ same s → b ≡ true → i ≡ u
  search_hit s b l d q z = sym (e ∙ probe_here same t i l (stops_same same (get_or t i 0) (ap same (sym d) ∙ sym q ∙ z)))

-- ---- a shift's steps
pub shift_end : (home : ℕ → ℕ) (t : List ℕ) (i j : ℕ) → length t ≤ j → shift home t i j ≡ set t i 0
unfolding shift shift_n
shift_end home t i j h = let e : length t - j ≡ 0 = omega arith in rw e

pub shift_empty : (home : ℕ → ℕ) (t : List ℕ) (i j : ℕ) → j < length t → get_or t j 0 ≡ 0 → shift home t i j ≡ set t i 0
unfolding shift shift_n
shift_empty home t i j h z = let e : length t - j ≡ suc (length t - (j + 1)) = omega arith in rw (e, eq-eqb (get_or t j 0) 0 z)

pub shift_move : (home : ℕ → ℕ) (t : List ℕ) (i j : ℕ) → j < length t → (get_or t j 0 ≡ 0 → ⊥) → home (get_or t j 0) ≤ i → shift home t i j ≡ shift home (set t i (get_or t j 0)) j (j + 1)
unfolding shift shift_n
shift_move home t i j h n l =
    let e : length t - j ≡ suc (length t - (j + 1)) = omega arith in
    rw (e, length-set, ne_eqb (get_or t j 0) 0 n, le-leb (home (get_or t j 0)) i l, add-one)

pub shift_skip : (home : ℕ → ℕ) (t : List ℕ) (i j : ℕ) → j < length t → (get_or t j 0 ≡ 0 → ⊥) → i < home (get_or t j 0) → shift home t i j ≡ shift home t i (j + 1)
unfolding shift shift_n
shift_skip home t i j h n l =
    let e : length t - j ≡ suc (length t - (j + 1)) = omega arith in
    rw (e, ne_eqb (get_or t j 0) 0 n, lt-leb (home (get_or t j 0)) i l, add-one)

pub erase_start : (home : ℕ → ℕ) (t : List ℕ) (i : ℕ) → erase home t i ≡ shift home t i (i + 1)
unfolding erase
erase_start home t i = rw add-one

pub erase_out : (home : ℕ → ℕ) (t : List ℕ) (i : ℕ) → length t ≤ i → t ≡ erase home t i
erase_out home t i l = sym (erase_start home t i ∙ shift_end home t i (i + 1) (omega arith) ∙ set_out t i 0 l)

-- ---- lengths
pick_length : (b : Bool) (t u : List ℕ) (n : ℕ) → length t ≡ n → length u ≡ n → length (pick b t u) ≡ n
pick_length true t u n a b = a
pick_length false t u n a b = b

shift_n_length_lem : (home : ℕ → ℕ) (f : ℕ) (t : List ℕ) (i j : ℕ) → length (shift_n home f t i j) ≡ length t
unfolding shift_n
shift_n_length_lem home zero t i j = length-set t i 0
shift_n_length_lem home (suc f) t i j =
    pick_length (eqb (get_or t j 0) 0) _ _ (length t) (length-set t i 0)
    (pick_length (leb (home (get_or t j 0)) i) _ _ (length t)
    (shift_n_length_lem home f (set t i (get_or t j 0)) j (suc j) ∙ length-set t i (get_or t j 0))
    (shift_n_length_lem home f t i (suc j)))

pub erase_length : (home : ℕ → ℕ) (t : List ℕ) (i : ℕ) → length (erase home t i) ≡ length t
unfolding erase shift
erase_length home t i = shift_n_length_lem home (length t - suc i) t i (suc i)

pub remove_length : (home : ℕ → ℕ) (t : List ℕ) (s : ℕ) → length (remove home t s) ≡ length t
unfolding remove
remove_length home t s = erase_length home t (probe (eqb s) t (home s))

-- where a probe goes on, and where it ends
pub ruleset probe_rules = (probe_end, search_on, search_empty, search_hit)
