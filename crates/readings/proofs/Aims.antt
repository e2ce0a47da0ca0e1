-- What a record of bytes can ask for: cells inside the cube, the last x not below the first, with a value of 16 bits.
use mathlib.Core.Path.{◌≡◌, refl, sym, subst}
use mathlib.Core.Bool.{Bool, true, false, ◌||◌, true≢false}
use mathlib.Core.List.{List}
use Prim.Native.Nat.{ℕ, ◌^◌, ◌≤◌, ◌<◌}
use lib.Dec.{ltb, eqb}
use borrow.Author.Tests.{ltb-false}
use Rattle.basics.specs.Limits.{deepest, finest_edge, largest_value}
use Rattle.basics.specs.Pick.{pick}
use Rattle.nodes.proofs.Sums.{split}
use Rattle.basics.specs.Bytes.{Bytes}
use Rattle.metres.specs.Record.{kind_in, malformed, unending, outside, aim_of}
use Rattle.metres.proofs.Theorems.{aim_cells}
use Rattle.std.specs.declared.option.Option.{Option}
use Rattle.std.specs.declared.result.Result.{Result}
use Rattle.std.specs.declared.option.Option.TheVariants.{Some, None}
use Rattle.std.specs.declared.result.Result.TheVariants.{Ok, Err}
use Rattle.basics.specs.declared.Refusal.{Refusal}
use Rattle.basics.specs.declared.Refusal.TheVariants.{Depth, Position, Record, NotFinite}
use Rattle.metres.specs.declared.Cells.{Cells}
use Rattle.readings.specs.Models.{Rising}

-- the cells from a to b at y and z lie in the cube of depth d, in rising order
pub record SoundCells (d a b y z v : ℕ) : Type 0 where
  pub deep : d ≤ deepest
  pub rises : a ≤ b
  pub in_x : b < 2 ^ d
  pub in_y : y < 2 ^ d
  pub in_z : z < 2 ^ d
  pub small : v ≤ largest_value

abbrev pub Sound : ℕ → Result (Option Cells) Refusal → Type 0
Sound d (Ok None) = Unit {0}
Sound d (Ok (Some c)) = SoundCells d c.first c.last c.y c.z c.value
Sound d (Err refusal) = Unit {0}

-- cells are asked for at a depth that is not refused
abbrev Counted : ℕ → Result (Option Cells) Refusal → Type 0
Counted d (Ok None) = Unit {0}
Counted d (Ok (Some c)) = d ≤ deepest
Counted d (Err refusal) = Unit {0}

by : (d : ℕ) (b : Bool) (x y : Result (Option Cells) Refusal) → Counted d x → (b ≡ false → Counted d y) → Counted d (pick b x y)
by d true x y p q = p
by d false x y p q = q refl

deep_enough : (d k : ℕ) → (ltb deepest d || ltb finest_edge k) ≡ false → d ≤ deepest
deep_enough d k e = split (ltb deepest d) (λ i. absurd (true≢false (rw i at e))) (λ i. ltb-false deepest d i)

aim_counted : (l : List ℕ) (k d : ℕ) → Counted d (aim_of l k d)
unfolding aim_of
aim_counted l k d =
    by d (ltb deepest d || ltb finest_edge k) (Err Depth) _ tt
    (λ e. by d (malformed l) (Err Record) _ tt
    (λ _. by d (unending l) (Err NotFinite) _ tt
    (λ _. by d (outside l k d) (Err Position) _ tt
    (λ _. by d (eqb (kind_in l) 0) (Ok None) _ tt (λ _. deep_enough d k e)))))

pub aim_sound : (l : List ℕ) (k d : ℕ) → Bytes l → Sound d (aim_of l k d)
aim_sound l k d bytes = go (aim_of l k d) refl (aim_counted l k d)
  where
    go : (m : Result (Option Cells) Refusal) → aim_of l k d ≡ m → Counted d m → Sound d m
    go (Ok None) e c = tt
    go (Ok (Some m)) e c =
        let q = aim_cells l k d m.first m.last m.y m.z m.value e bytes in
        record {
          deep = c;
          rises = q.rises;
          in_x = q.last_floor.inside;
          in_y = q.y_floor.inside;
          in_z = q.z_floor.inside;
          small = q.value_small;
        }
    go (Err refusal) e c = tt

pub sound_rising : (d : ℕ) (m : Result (Option Cells) Refusal) → Sound d m → Rising m
sound_rising d (Ok None) g = tt
sound_rising d (Ok (Some c)) g = g.rises
sound_rising d (Err refusal) g = tt

-- what the code aims at rises
pub aim_rising : (m : Result (Option Cells) Refusal) (l : List ℕ) (k d : ℕ) → m ≡ aim_of l k d → Bytes l → Rising m
aim_rising m l k d e h = subst Rising (sym e) (sound_rising d (aim_of l k d) (aim_sound l k d h))
