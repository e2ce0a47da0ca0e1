-- What is left of a block without its cut record is whole in records.
use Rattle.std.proofs.Common.{rules, arith, ◌≡◌, ℕ, ◌-◌, ◌*◌, ◌/◌, ◌%◌}
use Rattle.std.proofs.Math.Nat.{mod-add-div', mul-mod_left}
use Rattle.streams.proofs.read_block.Goals as goal

whole : (n w : ℕ) → (n - n % w) % w ≡ 0
whole n w = let e : n - n % w ≡ n / w * w = omega (arith, mod-add-div' n w) in rw e (mul-mod_left (n / w) w)

pub returns-in-Err-clause-holds : goal.returns-in-Err-clause-holds
returns-in-Err-clause-holds g c = search (rules, whole)
