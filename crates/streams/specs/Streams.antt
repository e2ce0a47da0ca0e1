-- What the programs over files of records learn of their arguments and of a block that they read.
use Rattle.std.specs.Prelude.{◌≡◌, ℕ, ◌%◌, ◌<◌, ◌≤◌, Bool, true, false, Result}
use Rattle.std.specs.declared.result.Result.TheVariants.{Ok, Err}
use Rattle.std.specs.declared.env.FillError.{FillError}
use Rattle.std.specs.declared.env.FillError.TheVariants.{NotPresent, TooLong}
use Rattle.streams.specs.declared.After.{After}
use Rattle.streams.specs.declared.After.TheVariants.{More, End, Failure}

-- an argument was given, be it too long or not
abbrev pub is_given : Result ℕ FillError → Bool
is_given (Ok n) = true
is_given (Err TooLong) = true
is_given (Err NotPresent) = false

-- how many bytes of a block with so much room are read, by what comes after them: all where there may be more, fewer at the end of the input, and whole records of
-- `width` bytes where a read failed
abbrev pub Holds : After → ℕ → ℕ → ℕ → Type 0
Holds More width room len = len ≡ room
Holds End width room len = len < room
Holds Failure width room len = (len ≤ room) × (0 < width → len % width ≡ 0)
