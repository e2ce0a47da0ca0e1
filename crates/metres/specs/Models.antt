-- What the private functions come to.
use Rattle.std.specs.Prelude.{◌≡◌, not, ◌||◌, Option, Result, MatchResult, ℕ, ◌<◌, eqb, Float}
use Rattle.std.specs.Float.{binary64}
use Rattle.std.specs.Float.Ieee.{to_bits}
use Rattle.std.specs.declared.option.Option.TheVariants.{Some, None}
use Rattle.std.specs.declared.result.Result.TheVariants.{Ok, Err}
use Rattle.basics.specs.Pick.{pick}
use Rattle.basics.specs.declared.Refusal.{Refusal}
use Rattle.basics.specs.declared.Refusal.TheVariants.{Position, Record, NotFinite}
use Rattle.metres.specs.Bits.{cell_of}
use Rattle.metres.specs.Record.{all_finite, wrong, said, cells_at}
use Rattle.metres.specs.declared.Cells.{Cells}
use Rattle.metres.specs.declared.Kind.{Kind}
use Rattle.metres.specs.declared.Kind.TheVariants as kinds
use Rattle.metres.specs.declared.Metres.{Metres}
use Rattle.metres.specs.declared.Reading.{Reading}
use Rattle.metres.specs.declared.Reading.TheVariants.{Point, Bar, Pause}

-- the number of a kind
abbrev pub code : Kind → ℕ
code kinds.Pause = 0
code kinds.Shot = 1
code kinds.Bar = 2

-- the kind of this number, or refusal 13 of a number that no kind has
abbrev pub Known : ℕ → Result Kind Refusal → Type 0
Known n r = MatchResult r (λ kind. code kind ≡ n) (λ refusal. (refusal ≡ Record) × (2 < n))

-- a record of 40 bytes, by its words
unfoldable pub judged : ℕ → ℕ → ℕ → ℕ → ℕ → ℕ → ℕ → Result Reading Refusal
judged kind v spare x y z second =
    pick (not (eqb spare 0) || wrong kind v x y z second) (Err Record)
    (pick (not (all_finite x y z second)) (Err NotFinite)
    (Ok (said kind v x y z second)))

-- the cells of a bar and of a shot: none where a coordinate has none
unfoldable pub cells_in : Option ℕ → Option ℕ → Option ℕ → Option ℕ → ℕ → Option Cells
cells_in (Some first) (Some last) (Some y) (Some z) v = Some (cells_at first last y z v)
cells_in (Some first) (Some last) (Some y) None v = None
cells_in (Some first) (Some last) None z v = None
cells_in (Some first) None y z v = None
cells_in None last y z v = None

abbrev pub cells_of : Metres → Float → ℕ → ℕ → ℕ → Option Cells
cells_of p second v k d =
    cells_in (cell_of (to_bits binary64 p.x) k d) (cell_of (to_bits binary64 second) k d) (cell_of (to_bits binary64 p.y) k d) (cell_of (to_bits binary64 p.z) k d) v

-- cells asked for, or refusal 3 where there are none
abbrev pub wanted : Option Cells → Result (Option Cells) Refusal
wanted (Some cells) = Ok (Some cells)
wanted None = Err Position

-- what a reading asks for
unfoldable pub aim_at : Result Reading Refusal → ℕ → ℕ → Result (Option Cells) Refusal
aim_at (Ok (Point p v)) k d = wanted (cells_of p p.x v k d)
aim_at (Ok (Bar p second v)) k d = wanted (cells_of p second v k d)
aim_at (Ok Pause) k d = Ok None
aim_at (Err refusal) k d = Err refusal
