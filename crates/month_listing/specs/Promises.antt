-- What stands while the second file is entered.
use Rattle.std.specs.Prelude.{ℕ}
use Rattle.basics.specs.Limits.{deepest, cube_kids}
use Rattle.arena.specs.Tables.{WellFormed}
use Rattle.ledger.specs.Ledger.{on}
use Rattle.calls.specs.Does.{Kept}
use Rattle.listing.specs.Listing.{State}
use Rattle.listing.specs.Holding.{HeldBeside}

-- t is the state after the first file, u one in the second: the tables are well formed; the roots of both have one hold each (none if EMPTY), and nothing else has
-- any; and the first root is as it was, with all that stands below it.
pub record BothHeld (t u : State) : Type 0 where
  pub well : WellFormed cube_kids deepest u.tables
  pub held : HeldBeside (λ (y : ℕ). on y t.root) u
  pub kept : Kept cube_kids deepest t.tables u.tables t.root
