use Rattle.std.proofs.Common.{◌≡◌, Bool, true, false, ℕ, get_or, rules, refl, ap, ◌∙◌}
use mir.Val.{bool_byte}
use Rattle.nodes.specs.Tally.{one_if}
use Rattle.arena.proofs.Eight.{bits_done}
use Rattle.new_id.proofs.byte_of.Goals as goal

byte_one : (b : Bool) → bool_byte b ≡ one_if b
unfolding one_if
byte_one true = refl
byte_one false = refl

bit : (p : ℕ → Bool) (k : ℕ) {x : ℕ} {b : Bool} → x ≡ bool_byte b → b ≡ p k → x ≡ one_if (p k)
bit p k {x} {b} e q = e ∙ byte_one b ∙ ap one_if q

pub returns : goal.returns
returns g c p f =
    bits_done p c.args.ks _ _ _ _ _ _ _ _ (search rules)
    (bit p (get_or c.args.ks 0 0) c.from.ensures (f _ _ (search rules) c.test.ensures))
    (bit p (get_or c.args.ks 1 0) c.from-2.ensures (f _ _ (search rules) c.test-2.ensures))
    (bit p (get_or c.args.ks 2 0) c.from-3.ensures (f _ _ (search rules) c.test-3.ensures))
    (bit p (get_or c.args.ks 3 0) c.from-4.ensures (f _ _ (search rules) c.test-4.ensures))
    (bit p (get_or c.args.ks 4 0) c.from-5.ensures (f _ _ (search rules) c.test-5.ensures))
    (bit p (get_or c.args.ks 5 0) c.from-6.ensures (f _ _ (search rules) c.test-6.ensures))
    (bit p (get_or c.args.ks 6 0) c.from-7.ensures (f _ _ (search rules) c.test-7.ensures))
    (bit p (get_or c.args.ks 7 0) c.from-8.ensures (f _ _ (search rules) c.test-8.ensures))
