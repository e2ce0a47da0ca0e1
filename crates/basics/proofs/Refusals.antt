-- No two refusals have one number, and none has 0.
use mathlib.Core.Path.{◌≡◌, refl, sym, ap, ◌∙◌}
use mathlib.Core.List.{List, [], ◌∷◌}
use Prim.Native.Nat.{ℕ, ◌-◌, ◌<◌}
use native.Mathlib.Omega.{arith}
use lib.ListN.{get_or}
use Rattle.basics.specs.declared.Refusal.{Refusal}
use Rattle.basics.specs.declared.Refusal.TheVariants.{Size, Depth, Position, NotLive, FewHolds, ZeroLeaf, AllEmpty, Tall, Cube, ManyHolds, Full, Generation, Record, NotFinite, ShortList}
use Rattle.basics.specs.Refusals.{number}

-- all refusals, in the order of their numbers
listed : List Refusal
listed = Size ∷ Depth ∷ Position ∷ NotLive ∷ FewHolds ∷ ZeroLeaf ∷ AllEmpty ∷ Tall ∷ Cube ∷ ManyHolds ∷ Full ∷ Generation ∷ Record ∷ NotFinite ∷ ShortList ∷ []

-- the refusal of a number
refusal_at : ℕ → Refusal
refusal_at n = get_or listed (n - 1) Size

number_back : (r : Refusal) → refusal_at (number r) ≡ r
unfolding refusal_at listed
number_back Size = refl
number_back Depth = refl
number_back Position = refl
number_back NotLive = refl
number_back FewHolds = refl
number_back ZeroLeaf = refl
number_back AllEmpty = refl
number_back Tall = refl
number_back Cube = refl
number_back ManyHolds = refl
number_back Full = refl
number_back Generation = refl
number_back Record = refl
number_back NotFinite = refl
number_back ShortList = refl

pub number_one : (r s : Refusal) → number r ≡ number s → r ≡ s
number_one r s e = sym (number_back r) ∙ ap refusal_at e ∙ number_back s

pub number_some : (r : Refusal) → 0 < number r
number_some Size = omega arith
number_some Depth = omega arith
number_some Position = omega arith
number_some NotLive = omega arith
number_some FewHolds = omega arith
number_some ZeroLeaf = omega arith
number_some AllEmpty = omega arith
number_some Tall = omega arith
number_some Cube = omega arith
number_some ManyHolds = omega arith
number_some Full = omega arith
number_some Generation = omega arith
number_some Record = omega arith
number_some NotFinite = omega arith
number_some ShortList = omega arith
