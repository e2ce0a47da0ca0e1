use Rattle.std.proofs.Common.{rules, refl, not, eqb}
use Rattle.arena.specs.Node.{kid_mask}
use Rattle.new_id.proofs.Bits.{bits_same}
use Rattle.new_id.proofs.mask_of.Goals as goal

pub returns : goal.returns
unfolding kid_mask
returns c = bits_same _ _ _ c.args.ks (c.byte_of.ensures (λ k. not (eqb k 0)) (λ k r l h. search rules)) (search rules) (search rules) refl refl refl refl refl refl refl refl
