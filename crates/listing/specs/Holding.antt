-- What is asked of records of a kind, and what a run over them then holds: its present root, and nothing else.
use Rattle.std.specs.Prelude.{◌≡◌, ℕ, ◌+◌, ◌≤◌, false, ◌↔◌, List, length}
use Rattle.basics.specs.Limits.{deepest, cube_kids}
use Rattle.arena.specs.Tables.{live_in, Tables, WellFormed}
use Rattle.arena.specs.Calls.{Out, refused, fits, release_of}
use Rattle.ledger.specs.Ledger.{on, holds_on, if_accepted, Balanced}
use Rattle.ledger.specs.Fates.{Lives}
use Rattle.calls.specs.Does.{Held, Kept}
use Rattle.calls.specs.Living.{HeldAlone, NodeOf, NodesOf}
use Rattle.basics.specs.Bytes.{Bytes}
use Rattle.listing.specs.Listing.{State, Records, widest, answer_to}

-- The tables stay well formed, one hold is granted on the answer if it is accepted, no other hold is granted or taken, and whatever someone holds stays as it is.
pub record Grants (t : Tables) (o : Out) : Type 0 where
  pub well : WellFormed cube_kids deepest o.after
  pub balance : Balanced t o.after (λ y. if_accepted o (on y o.id)) (λ y. 0)
  pub keeps : (a : ℕ) → Held t a → Kept cube_kids deepest t o.after a

-- What is asked: on tables that are not sized a record is refused with 1 and changes nothing; on well-formed ones it grants its answer and nothing else; and its
-- line is not too long.
pub record Enters (k : Records) : Type 0 where
  pub unfit : (t : Tables) (root : ℕ) (r : List ℕ) → fits t ≡ false → k.enter t root r ≡ refused 1 t
  pub grants : (t : Tables) (root : ℕ) (r : List ℕ) → Bytes r → WellFormed cube_kids deepest t → Grants t (k.enter t root r)
  pub short : (number refusal root : ℕ) → length (k.line number refusal root) ≤ widest

-- after an accepted record the release of the old root is accepted
abbrev pub OldReleased : Records → State → List ℕ → Type 0
OldReleased k s r = (answer_to k s r).no ≡ 0 → (release_of deepest (answer_to k s r).after s.root).no ≡ 0

-- the root has one hold (none if it is EMPTY) besides those that others have on each node, and no other node has more
abbrev pub HeldBeside : (ℕ → ℕ) → State → Type 0
HeldBeside other s = (y : ℕ) → holds_on s.tables y ≡ other y + on y s.root

-- No hold leaks: the root has one hold (none if it is EMPTY) and no other node has any; what lives are the nodes at or below the root; and `live` is
-- their number.
pub record HoldsRoot (s : State) : Type 0 where
  pub alone : HeldAlone s.tables s.root
  pub lives : (y : ℕ) → Lives s.tables y ↔ NodeOf cube_kids s.tables s.root y
  pub counted : NodesOf cube_kids s.tables s.root (live_in s.tables.arena)
