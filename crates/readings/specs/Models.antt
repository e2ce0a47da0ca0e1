-- What a private function asks of what it is handed. No reader has to believe it: the public contract cites `Enter`.
use Rattle.std.specs.Prelude.{Option, Result, ◌≤◌}
use Rattle.std.specs.declared.option.Option.TheVariants.{Some, None}
use Rattle.std.specs.declared.result.Result.TheVariants.{Ok, Err}
use Rattle.basics.specs.declared.Refusal.{Refusal}
use Rattle.metres.specs.declared.Cells.{Cells}

-- what is asked for are cells from the first x to one that is not below it
abbrev pub Rising : Result (Option Cells) Refusal → Type 0
Rising (Ok None) = Unit {0}
Rising (Ok (Some cells)) = cells.first ≤ cells.last
Rising (Err refusal) = Unit {0}
