-- The lent list: its parts are lent on and not exchanged.
use Rattle.std.specs.Prelude.{◌≡◌}
use Rattle.compare_list.specs.declared.list.List.{List}

abbrev pub Same : List → List → Type 0
Same l k = (k.codes.ghost_name ≡ l.codes.ghost_name) × (k.lefts.ghost_name ≡ l.lefts.ghost_name) × (k.rights.ghost_name ≡ l.rights.ghost_name)
