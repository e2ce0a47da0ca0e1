use Prim.Native.Nat.{ℕ, ◌+◌, ◌-◌}
use mathlib.Core.Path.{◌≡◌, ◌∙◌, ap, sym}
use native.Mathlib.Omega.{arith}
use lib.ListN.{length, replicate, length-drop, length-replicate}
use Rattle.std.proofs.Common.{length-take-le, drop}
use Rattle.std.proofs.lemmas.Slice.{put_mid-paste}
use borrow.Rule.Slice.PartMut.{mid_of}
use Rattle.read_cube.proofs.Fill.{row_is}
use Rattle.read_cube.proofs.fill_row.Goals as goal

pub returns : goal.returns
returns c =
    let at = c.args.at in
    let n = c.args.n in
    let l = c.args.cube.now in
    let same : at + n - at ≡ n = omega arith in
    let long : length (mid_of at (at + n - at) l) ≡ n = length-take-le (at + n - at) (drop at l) (omega (arith, length-drop at l)) ∙ same in
    let filled = c.fill.ensures.after (λ y e. e) ∙ ap (λ (k : ℕ). replicate k c.args.v) long in
    put_mid-paste at (at + n - at) l c.fill.new.self (replicate n c.args.v) n filled (sym same) (sym (length-replicate n c.args.v)) ∙ row_is at c.args.v l n c.requires
