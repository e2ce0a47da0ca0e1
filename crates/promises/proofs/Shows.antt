-- What it is to show a cube, in the tables: each cell, read from the root, has the cube's number. EMPTY shows zeros; an edit changes one cell; a kept root
-- shows what it showed; and at another depth no less than its height it shows the same cube, scaled.
use mathlib.Core.Path.{◌≡◌, refl, sym, ap, ◌∙◌, subst}
use mathlib.Core.Logic.{inl}
use Prim.Native.Nat.{ℕ, ◌+◌, ◌-◌, ◌*◌, ◌/◌, ◌^◌, ◌≤◌}
use native.Mathlib.Nat.{mul-div_cancel, div-div-eq-div-mul}
use native.Mathlib.Decide.{dec_le}
use native.Mathlib.Omega.{arith}
use lib.Pow.{pow_pos, pow-add}
use Rattle.basics.specs.Limits.{deepest, cube_kids, largest_value}
use Rattle.nodes.specs.Values.{height_at}
use Rattle.nodes.proofs.Sums.{split, cases}
use Rattle.paths.specs.Paths.{whole}
use Rattle.tree.specs.Tree.{LiveOr0, look}
use Rattle.tree.specs.Cells.{cube_path, At, way}
use Rattle.tree.proofs.Canon.{look_flat, value_empty, height_empty}
use Rattle.tree.proofs.CellLaws.{cube_cell}
use Rattle.tree.proofs.Grow.{height_later}
use Rattle.arena.specs.Tables.{Tables, cap, W, WellFormed}
use Rattle.read_cell.proofs.Meaning.{wf_made}
use Rattle.read_cell.proofs.Plain.{cell_whole, plain_deeper}
use Rattle.read_cell.proofs.Laws.{well_small}
use Rattle.calls.specs.Cells.{spot}
use Rattle.calls.specs.Does.{Kept, There}
use Rattle.calls.proofs.Roots.{kept_there, kept_look}
use Rattle.edit.specs.Edit.{edit_no}
use Rattle.edit.specs.Promises.{then, gives}
use Rattle.edit.proofs.Edits.{edit_right}
use Rattle.lists.specs.Changes as lists
use Rattle.promises.specs.Promises.{Cube, same_at, changed, onto, scaled, Within}
use Rattle.promises.proofs.Spots.{same_one, same_no}

pub record Shows (d : ℕ) (t : Tables) (a : ℕ) (F : Cube d) : Type 0 where
  pub well : WellFormed cube_kids deepest t
  pub there : LiveOr0 (cap t) (W t) a
  pub low : height_at (W t) a ≤ d
  pub cells : (c : At d) → look (W t) (way c) a ≡ F c

pub empty_shows : (d : ℕ) {t : Tables} → WellFormed cube_kids deepest t → Shows d t 0 (λ c. 0)
empty_shows d {t} w = record {
  well = w;
  there = inl refl;
  low = (let e = height_empty (W t) 0 refl in omega arith);
  cells = λ c. look_flat (W t) (way c) 0 (inl refl) ∙ value_empty (W t) 0 refl;
}

pub edit_shows : (d : ℕ) {t : Tables} (a : ℕ) (F : Cube d) (c : At d) (v : ℕ) → v ≤ largest_value → edit_no t a d (spot c) v ≡ 0 → Shows d t a F
    → Shows d (then t a c v) (gives t a c v) (changed F c v)
unfolding lists.changed whole
edit_shows d {t} a F c v h ok s =
    let r = edit_right s.well a d (spot c) v h ok in
    let e = r.edited in
    record {
      well = r.well;
      there = subst (λ (k : ℕ). LiveOr0 k (W (then t a c v)) (gives t a c v)) (sym r.size) e.there;
      low = e.low;
      cells = λ i. split (same_at i c)
          (λ q. rw q (ap (λ (s : At d). look (W (then t a c v)) (way s) (gives t a c v)) (same_one i c q) ∙ e.changed))
          (λ q. rw q (e.others (way i) (cube_cell d i.x i.y i.z) (same_no i c q) ∙ s.cells i));
    }

pub kept_shows : (d : ℕ) {t u : Tables} (a : ℕ) (F : Cube d) → Kept cube_kids deepest t u a → Shows d t a F → Shows d u a F
kept_shows d {t} {u} a F k s =
    record {
      well = k.well;
      there = kept_there (omega arith) s.well s.there k;
      low = rw (height_later cube_kids (cap t) (W t) (W u) (wf_made (omega arith) s.well) a s.there k.keeps) at s.low;
      cells = λ c. kept_look s.well s.there k c ∙ s.cells c;
    }

-- ## At another depth

-- where a cell lies: in the block x / 2^k at a depth smaller by k ..
pub onto_block : (d k x : ℕ) → x * 2 ^ d / 2 ^ (d + k) ≡ x / 2 ^ k
onto_block d k x =
    ap (λ (i : ℕ). x * 2 ^ d / i) (pow-add 2 d k)
    ∙ sym (div-div-eq-div-mul (x * 2 ^ d) (2 ^ d) (2 ^ k))
    ∙ ap (λ (i : ℕ). i / 2 ^ k) (mul-div_cancel x (pow_pos d))

-- .. and its first corner in the cell x * 2^k at a depth greater by k
pub onto_first : (e k x : ℕ) → x * 2 ^ (e + k) / 2 ^ e ≡ x * 2 ^ k
onto_first e k x =
    let q : x * (2 ^ e * 2 ^ k) ≡ x * 2 ^ k * 2 ^ e = omega arith in
    ap (λ (i : ℕ). i / 2 ^ e) (ap (λ (i : ℕ). x * i) (pow-add 2 e k) ∙ q) ∙ mul-div_cancel (x * 2 ^ k) (pow_pos e)

module _ {t : Tables} (w : WellFormed cube_kids deepest t) (a : ℕ) (l : There t a) where
  shown : ℕ → ℕ → ℕ → ℕ → ℕ
  shown d x y z = look (W t) (cube_path d x y z) a

  shown_as : (d : ℕ) {x y z i j k : ℕ} → x ≡ i → y ≡ j → z ≡ k → shown d x y z ≡ shown d i j k
  shown_as d p q r = cc

  -- a greater depth shows the same cube in blocks of equal cells
  shown_deeper : (d k x y z : ℕ) → height_at (W t) a ≤ d → shown (d + k) x y z ≡ shown d (x / 2 ^ k) (y / 2 ^ k) (z / 2 ^ k)
  unfolding shown
  shown_deeper d k x y z h =
      let s = well_small w in
      sym (cell_whole (W t) s (d + k) a x y z)
      ∙ plain_deeper (cap t) (W t) (wf_made (omega arith) w) d k a x y z l h
      ∙ cell_whole (W t) s d a (x / 2 ^ k) (y / 2 ^ k) (z / 2 ^ k)

  shown_up : (d k x y z : ℕ) → height_at (W t) a ≤ d
      → shown (d + k) x y z ≡ shown d (x * 2 ^ d / 2 ^ (d + k)) (y * 2 ^ d / 2 ^ (d + k)) (z * 2 ^ d / 2 ^ (d + k))
  shown_up d k x y z h = shown_deeper d k x y z h ∙ sym (shown_as d (onto_block d k x) (onto_block d k y) (onto_block d k z))

  shown_down : (e k x y z : ℕ) → height_at (W t) a ≤ e
      → shown e x y z ≡ shown (e + k) (x * 2 ^ (e + k) / 2 ^ e) (y * 2 ^ (e + k) / 2 ^ e) (z * 2 ^ (e + k) / 2 ^ e)
  shown_down e k x y z h =
      sym
      (shown_as (e + k) (onto_first e k x) (onto_first e k y) (onto_first e k z)
      ∙ shown_deeper e k (x * 2 ^ k) (y * 2 ^ k) (z * 2 ^ k) h
      ∙ shown_as e (mul-div_cancel x (pow_pos k)) (mul-div_cancel y (pow_pos k)) (mul-div_cancel z (pow_pos k)))

  -- at any two depths no less than the height
  shown_onto : (d e x y z : ℕ) → height_at (W t) a ≤ d → height_at (W t) a ≤ e
      → shown e x y z ≡ shown d (x * 2 ^ d / 2 ^ e) (y * 2 ^ d / 2 ^ e) (z * 2 ^ d / 2 ^ e)
  shown_onto d e x y z h i = cases (dec_le d e)
      (λ k.
      let q : d + (e - d) ≡ e = omega arith in
      subst (λ (n : ℕ). shown n x y z ≡ shown d (x * 2 ^ d / 2 ^ n) (y * 2 ^ d / 2 ^ n) (z * 2 ^ d / 2 ^ n)) q (shown_up d (e - d) x y z h))
      (λ k.
      let q : e + (d - e) ≡ d = omega arith in
      subst (λ (n : ℕ). shown e x y z ≡ shown n (x * 2 ^ n / 2 ^ e) (y * 2 ^ n / 2 ^ e) (z * 2 ^ n / 2 ^ e)) q (shown_down e (d - e) x y z i))

pub scale_shows : (d : ℕ) {t : Tables} (a : ℕ) (F : Cube d) (e : ℕ) → height_at (W t) a ≤ e → Shows d t a F → Shows e t a (scaled e F)
unfolding shown
scale_shows d {t} a F e i s = record {
  well = s.well;
  there = s.there;
  low = i;
  cells = λ c. shown_onto s.well a s.there d e c.x c.y c.z s.low i ∙ s.cells (onto d c);
}

-- the cells of a block show its number
pub block_shown : {d : ℕ} (k : ℕ) (c : At (d + k)) (b : At d) → Within k c b → {t : Tables} (w : WellFormed cube_kids deepest t) {a : ℕ} (l : There t a)
    → height_at (W t) a ≤ d → look (W t) (way c) a ≡ look (W t) (way b) a
unfolding shown
block_shown {d} k c b m {t} w {a} l h = shown_deeper w a l d k c.x c.y c.z h ∙ shown_as w a l d m.0 m.1 m.2
