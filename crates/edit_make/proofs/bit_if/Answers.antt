use Rattle.std.proofs.Common.{ℕ, ◌*◌, ◌%◌, ◌^◌, ap, ◌∙◌}
use Rattle.edit_make.proofs.Steps.{flag_one}
use Rattle.edit_make.proofs.bit_if.Goals as goal

pub returns : goal.returns
returns c = ap (λ (x : ℕ). x * 2 ^ c.args.c % 256) (c.from.ensures ∙ flag_one c.args.on)
