-- How many nodes an edit has still to make: what refusal 11 compares with the free slots.
use Rattle.std.specs.Prelude.{◌≡◌, ◌≢◌, ◌⊎◌, ℕ, suc, length}
use mathlib.Core.List.{List, [], ◌∷◌, Memᴰ}
use Rattle.nodes.specs.Words.{Words}
use Rattle.nodes.specs.Tally.{Live}
use Rattle.tree.specs.Tree.{EMPTY, Below}
use Rattle.tree.specs.Anew.{part, replace, Mixed, Has, HasValue, Makes}

-- ## The nodes of a result that are not yet live

-- each once
abbrev pub Once : List ℕ → Type 0
Once [] = Unit {0}
Once (t ∷ ts) = ¬ (Memᴰ t ts) × Once ts

-- ts are the nodes at or below r in W' that are not live in W, each once; r is one of them
pub record NewNodes (n cap : ℕ) (W W' : Words) (r : ℕ) (ts : List ℕ) : Type 0 where
  pub now : Live cap W' r
  pub new : ¬ (Live cap W r)
  pub below : (t : ℕ) → Memᴰ t ts → Below n W' r t × Live cap W' t × ¬ (Live cap W t)
  pub all : (b : ℕ) → Below n W' r b → Live cap W' b → Live cap W b ⊎ Memᴰ b ts
  pub once : Once ts

-- in W' there are k nodes at or below r that are not live in W
pub record Lacks (n cap : ℕ) (W W' : Words) (r k : ℕ) : Type 0 where
  pub nodes : List ℕ
  pub many : length nodes ≡ k
  pub new : NewNodes n cap W W' r nodes

-- the same where r itself may be live in W: then there are none
pub record Newly (n cap : ℕ) (W W' : Words) (r k : ℕ) : Type 0 where
  pub nodes : List ℕ
  pub many : length nodes ≡ k
  pub new : (t : ℕ) → Memᴰ t nodes → Below n W' r t × Live cap W' t × ¬ (Live cap W t)
  pub all : (b : ℕ) → Below n W' r b → Live cap W' b → Live cap W b ⊎ Memᴰ b nodes
  pub once : Once nodes

-- ## What a dry run finds, going up from the leaf

-- what is to be had of a wanted node: it is there (or is EMPTY), or it and so many nodes in all are still to be made
pub data Need : Type 0 where
  have : ℕ → Need
  lack : ℕ → Need

-- the need of a with the cell p below it made anew with the value x, as W stands
pub data Plan (n cap : ℕ) (W : Words) (x : ℕ) : List ℕ → ℕ → Need → Type 0 where
  plan_gone : {a : ℕ} → x ≡ 0 → Plan n cap W x [] a (have EMPTY)
  plan_set : {a r : ℕ} → x ≢ 0 → HasValue cap W x r → Plan n cap W x [] a (have r)
  plan_leaf : {a : ℕ} → x ≢ 0 → ((r : ℕ) → ¬ (HasValue cap W x r)) → Plan n cap W x [] a (lack 1)
  plan_step : {c : ℕ} {p : List ℕ} {a s r : ℕ} → Plan n cap W x p (part W a c) (have s)
      → Makes n cap W (replace (part W a) c s) r → Plan n cap W x (c ∷ p) a (have r)
  plan_branch : {c : ℕ} {p : List ℕ} {a s : ℕ} → Plan n cap W x p (part W a c) (have s) → Mixed n (replace (part W a) c s)
      → ((r : ℕ) → ¬ (Has n cap W (replace (part W a) c s) r)) → Plan n cap W x (c ∷ p) a (lack 1)
  plan_more : {c : ℕ} {p : List ℕ} {a k : ℕ} → Plan n cap W x p (part W a c) (lack k) → Plan n cap W x (c ∷ p) a (lack (suc k))
