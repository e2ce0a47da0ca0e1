-- What the functions that find cells cite, over what their callees answered.
use mathlib.Core.Path.{◌≡◌, refl, ap, ◌∙◌, subst}
use mathlib.Core.Bool.{Bool, true, false, not, ◌&&◌, ◌||◌}
use mathlib.Core.List.{List}
use Prim.Native.Nat.{ℕ, ◌+◌, ◌^◌, ◌≤◌, ◌<◌}
use native.Mathlib.Omega.{arith}
use lib.ListN.{get_or}
use mir.Val.{Fits}
use mir.Syntax.{w8}
use lib.Dec.{T, eqb}
use lib.Ieee.{Float, binary64, of_bits, to_bits}
use lib.Ieee.Bits.{to_bits-of_bits, nan_bits_is}
use borrow.Author.Tests.{lt-ltb, le-ltb}
use Rattle.basics.specs.Limits.{deepest, finest_edge}
use Rattle.basics.specs.Pick.{pick}
use Rattle.metres.specs.Bits.{finite, placed, missed, cell_number, cell_of}
use Rattle.basics.specs.Bytes.{Bytes, word64}
use Rattle.metres.specs.Record.{kind_in, value_in, x_in, y_in, z_in, second_in, last_in, malformed, all_finite, unending, outside, point_at, said, reading_of, cells_at, aim_of}
use Rattle.metres.specs.Models.{cells_in, cells_of, wanted, aim_at}
use Rattle.std.specs.declared.option.Option.{Option}
use Rattle.std.specs.declared.option.Option.TheVariants.{Some, None}
use Rattle.std.specs.declared.result.Result.{Result}
use Rattle.std.specs.declared.result.Result.TheVariants.{Ok, Err}
use Rattle.basics.specs.declared.Refusal.{Refusal}
use Rattle.basics.specs.declared.Refusal.TheVariants.{Depth, Position, Record, NotFinite}
use Rattle.metres.specs.declared.Cells.{Cells}
use Rattle.metres.specs.declared.Metres.{Metres}
use Rattle.metres.specs.declared.Reading.{Reading}
use Rattle.metres.specs.declared.Reading.TheVariants.{Point, Bar, Pause}
use Rattle.metres.proofs.Order.{finite_no_nan}
use Rattle.metres.proofs.Parsing.{finite_point, finite_second, Right, pause, shot, bar, well_formed, all_finite_lem}

-- ---- what a reading asks for is what its record's bits ask for

-- the bits of a number that was made from finite bits
pub bits_back : (b : ℕ) → b < 2 ^ 64 → T (finite b) → to_bits binary64 (of_bits binary64 b) ≡ b
bits_back b h f = to_bits-of_bits binary64 b h (subst (λ (t : Bool). T (not t)) (nan_bits_is binary64 b) (finite_no_nan b f))

-- eight bytes are a number below 2 ^ 64
pub word64_lt : (l : List ℕ) (i : ℕ) → Bytes l → word64 l i < 2 ^ 64
word64_lt l i h = omega (arith, h i, h (i + 1), h (i + 2), h (i + 2 + 1), h (i + 4), h (i + 4 + 1), h (i + 4 + 2), h (i + 4 + 2 + 1))

-- the cells of a bar, over the bits of its numbers
abbrev cells_by : ℕ → ℕ → ℕ → ℕ → ℕ → ℕ → ℕ → Option Cells
cells_by x y z w v k d = cells_in (cell_of x k d) (cell_of w k d) (cell_of y k d) (cell_of z k d) v

all_or_3 : (x y z w v k d : ℕ)
    → wanted (cells_by x y z w v k d) ≡ pick (missed x k d || missed w k d || missed y k d || missed z k d) (Err Position) (Ok (Some (cells_at (cell_number x k) (cell_number w k) (cell_number y k) (cell_number z k) v)))
unfolding cells_in placed
all_or_3 x y z w v k d = go (missed x k d) (missed w k d) (missed y k d) (missed z k d)
  where
    go : (a e b c : Bool)
        → wanted (cells_in (pick a None (Some (cell_number x k))) (pick e None (Some (cell_number w k))) (pick b None (Some (cell_number y k))) (pick c None (Some (cell_number z k))) v)
        ≡ pick (a || e || b || c) (Err Position) (Ok (Some (cells_at (cell_number x k) (cell_number w k) (cell_number y k) (cell_number z k) v)))
    go true e b c = refl
    go false true b c = refl
    go false false true c = refl
    go false false false true = refl
    go false false false false = refl

module _ (v x y z w k d : ℕ) (X : x < 2 ^ 64) (Y : y < 2 ^ 64) (Z : z < 2 ^ 64) (W : w < 2 ^ 64) (f : T (all_finite x y z w)) where
  point_asks : (u : Float) (b : ℕ) → to_bits binary64 u ≡ b → wanted (cells_of (point_at x y z) u v k d) ≡ wanted (cells_by x y z b v k d)
  point_asks u b e =
      let g = finite_point x y z w f in
      rw (bits_back x X g.0, bits_back y Y g.1, bits_back z Z g.2, e)

  said_asks : (kind : ℕ) → Right kind v x y z w
      → aim_at (Ok (said kind v x y z w)) k d
      ≡ pick (not (eqb kind 0) && (missed x k d || missed (pick (eqb kind 2) w x) k d || missed y k d || missed z k d)) (Err Position)
      (pick (eqb kind 0) (Ok None) (Ok (Some (cells_at (cell_number x k) (cell_number (pick (eqb kind 2) w x) k) (cell_number y k) (cell_number z k) v))))
  unfolding said aim_at
  said_asks kind (pause e a b c g h) = rw e
  said_asks kind (shot e a) = rw e (point_asks (of_bits binary64 x) x (bits_back x X (finite_point x y z w f).0) ∙ all_or_3 x y z x v k d)
  said_asks kind (bar e a) = rw e (point_asks (of_bits binary64 w) w (bits_back w W (finite_second x y z w f)) ∙ all_or_3 x y z w v k d)

module _ (l : List ℕ) (k d : ℕ) (h : Bytes l) where
  reading_asks : aim_at (reading_of l) k d
      ≡ pick (malformed l) (Err Record)
      (pick (unending l) (Err NotFinite)
      (pick (outside l k d) (Err Position)
      (pick (eqb (kind_in l) 0) (Ok None)
      (Ok (Some (cells_at (cell_number (x_in l) k) (cell_number (last_in l) k) (cell_number (y_in l) k) (cell_number (z_in l) k) (value_in l)))))))
  unfolding reading_of outside
  reading_asks = go (malformed l) (unending l) refl refl
    where
      go : (a b : Bool) → malformed l ≡ a → unending l ≡ b
          → aim_at (pick a (Err Record) (pick b (Err NotFinite) (Ok (said (kind_in l) (value_in l) (x_in l) (y_in l) (z_in l) (second_in l))))) k d
          ≡ pick a (Err Record)
          (pick b (Err NotFinite)
          (pick (outside l k d) (Err Position)
          (pick (eqb (kind_in l) 0) (Ok None)
          (Ok (Some (cells_at (cell_number (x_in l) k) (cell_number (last_in l) k) (cell_number (y_in l) k) (cell_number (z_in l) k) (value_in l)))))))
      go true b e f = unfold aim_at in refl
      go false true e f = unfold aim_at in refl
      go false false e f =
          said_asks (value_in l) (x_in l) (y_in l) (z_in l) (second_in l) k d (word64_lt l 8 h) (word64_lt l 16 h) (word64_lt l 24 h) (word64_lt l 32 h)
          (all_finite_lem l f) (kind_in l) (well_formed l e).right

-- ---- `aim_of`, by its tests and by the reading

module _ (l : List ℕ) (k d : ℕ) where
  pub aim_deep : deepest < d → Err Depth ≡ aim_of l k d
  unfolding aim_of
  aim_deep h = rw (lt-ltb deepest d h)

  pub aim_fine : d ≤ deepest → finest_edge < k → Err Depth ≡ aim_of l k d
  unfolding aim_of
  aim_fine h g = rw (le-ltb deepest d h, lt-ltb finest_edge k g)

  aim_by : (r : Result Reading Refusal) → d ≤ deepest → k ≤ finest_edge → ((i : ℕ) → Fits w8 (get_or l i 0)) → r ≡ reading_of l → aim_at r k d ≡ aim_of l k d
  unfolding aim_of
  aim_by r deep fine bytes e =
      ap (λ (t : Result Reading Refusal). aim_at t k d) e ∙ rw (le-ltb deepest d deep, le-ltb finest_edge k fine) (reading_asks l k d (λ i. (bytes i).fits))

  -- what the code made of the reading r
  module _ (r : Result Reading Refusal) (deep : d ≤ deepest) (fine : k ≤ finest_edge) (bytes : (i : ℕ) → Fits w8 (get_or l i 0)) (e : r ≡ reading_of l) where
    abbrev Asks : Result Reading Refusal → Type 0
    Asks s = aim_at s k d ≡ aim_of l k d

    asks : (s : Result Reading Refusal) → r ≡ s → Asks s
    asks s f = subst Asks f (aim_by r deep fine bytes e)

    pub aim_refused : (refusal : Refusal) → r ≡ Err refusal → Err refusal ≡ aim_of l k d
    unfolding aim_at
    aim_refused refusal f = asks (Err refusal) f

    pub aim_pause : r ≡ Ok Pause → Ok None ≡ aim_of l k d
    unfolding aim_at
    aim_pause f = asks (Ok Pause) f

    pub aim_point : (p : Metres) (v : ℕ) (m : Option Cells) → r ≡ Ok (Point p v) → m ≡ cells_of p p.x v k d → wanted m ≡ aim_of l k d
    unfolding aim_at
    aim_point p v m f g = ap wanted g ∙ asks (Ok (Point p v)) f

    pub aim_bar : (p : Metres) (u : Float) (v : ℕ) (m : Option Cells) → r ≡ Ok (Bar p u v) → m ≡ cells_of p u v k d → wanted m ≡ aim_of l k d
    unfolding aim_at
    aim_bar p u v m f g = ap wanted g ∙ asks (Ok (Bar p u v)) f
