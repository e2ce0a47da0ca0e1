-- The refusals by their numbers, as 01 and 02 give them.
use Rattle.std.specs.Prelude.{ℕ, Result}
use Rattle.std.specs.declared.result.Result.TheVariants.{Ok, Err}
use Rattle.basics.specs.declared.Refusal.{Refusal}
use Rattle.basics.specs.declared.Refusal.TheVariants.{Size, Depth, Position, NotLive, FewHolds, ZeroLeaf, AllEmpty, Tall, Cube, ManyHolds, Full, Generation, Record, NotFinite, ShortList}

-- the number of a refusal
abbrev pub number : Refusal → ℕ
number Size = 1
number Depth = 2
number Position = 3
number NotLive = 4
number FewHolds = 5
number ZeroLeaf = 6
number AllEmpty = 7
number Tall = 8
number Cube = 9
number ManyHolds = 10
number Full = 11
number Generation = 12
number Record = 13
number NotFinite = 14
number ShortList = 15

-- 0 of what is accepted, else the number of the refusal
abbrev pub no_of : {A : Type 0} → Result A Refusal → ℕ
no_of (Ok x) = 0
no_of (Err refusal) = number refusal
