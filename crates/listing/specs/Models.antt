-- What the private functions here, and those of the listings over this one, come to.
use Rattle.std.specs.Prelude.{ℕ, List, length}
use Rattle.basics.specs.Puts.{puts_from}
use Rattle.listing.specs.Listing.{State, Progress, Records, answer_to, lined_of, state_at, lines_at}

-- one record, its line at the start of o
unfoldable pub one_of : Records → State → List ℕ → List ℕ → Progress
one_of k s r o = lined_of k.line s.root s.count (answer_to k s r) o

-- after the first n records
unfoldable pub kept_at : Records → State → List ℕ → List ℕ → ℕ → Progress
kept_at k s b o n = record { state = state_at k s b n; len = length (lines_at k s b n); out = puts_from o 0 (lines_at k s b n) }
