-- the digits from `place` on are written, and `rest` is the number without them
use Rattle.std.proofs.Common.{◌≡◌, ◌+◌, ◌-◌, ◌/◌, ◌^◌, ◌≤◌}
use Rattle.basics.specs.Puts.{puts_from}
use Rattle.ids_text.specs.Text.{hex}
use Rattle.ids_text.proofs.put_hex.Given as goal

abbrev pub invariant-loop-place : goal.invariant-loop-place
invariant-loop-place l =
    (l.at ≤ l.place)
    × (l.place ≤ l.at + l.n)
    × (l.rest ≡ l.v / 16 ^ (l.at + l.n - l.place))
    × (l.bytes ≡ puts_from l.fn.bytes l.place (hex (l.at + l.n - l.place) l.v))
