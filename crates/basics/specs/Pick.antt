-- A choice by a test.
use Rattle.std.specs.Prelude.{Bool, true, false}

abbrev pub pick {ℓ} : {A : Type ℓ} → Bool → A → A → A
pick true x y = x
pick false x y = y
