use Rattle.std.proofs.Common.{rules, refl}
use Rattle.ids.specs.Ids.{is_leaf}
use Rattle.arena.specs.Node.{kid_types}
use Rattle.new_id.proofs.Bits.{bits_same}
use Rattle.new_id.proofs.types_of.Goals as goal

pub returns : goal.returns
unfolding kid_types
returns c = bits_same _ _ _ c.args.ks (c.byte_of.ensures is_leaf (λ k r l h. search rules)) (search rules) (search rules) refl refl refl refl refl refl refl refl
