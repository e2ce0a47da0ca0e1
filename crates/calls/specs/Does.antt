-- What a call does to an arena, whichever call it is; and any sequence of calls.
use Rattle.std.specs.Prelude.{◌≡◌, ◌⊎◌, List, ℕ, ◌+◌, ◌≤◌, ◌<◌}
use Rattle.ids.specs.Ids.{generation_of}
use Rattle.nodes.specs.Words.{own, slot}
use Rattle.tree.specs.Tree.{LiveOr0, Keeps}
use Rattle.arena.specs.Calls.{fresh_of}
use Rattle.arena.specs.Tables.{Tables, cap, W, WellFormed}
use Rattle.ledger.specs.Ledger.{holds_on, Balanced}
use Rattle.ledger.specs.Fates.{Lives, turned}

-- From t to u, in an arena of nodes with n children and no taller than `tallest`: so many holds were granted and taken on each id, and each slot was
-- recycled so many times.
pub record Does (n tallest : ℕ) (t u : Tables) (granted taken times : ℕ → ℕ) : Type 0 where
  -- well formed, of the same capacity
  pub well : WellFormed n tallest u
  pub size : cap u ≡ cap t
  -- the holds afterwards and those taken are the holds before and those granted: of every id, live or not
  pub balance : Balanced t u granted taken
  -- every slot has the generation that the number of its recyclings gives
  pub turns : (s : ℕ) → s < cap t → generation_of (W u s own) ≡ turned (times s) (generation_of (W t s own))
  -- a node whose slot was not recycled stays as it is, and so does every node below it
  pub keeps : (a : ℕ) → Lives t a → times (slot a) ≡ 0 → Keeps n (cap t) (W t) (W u) a
  -- if fewer holds were taken on a node than it had, its slot was not recycled
  pub spares : (a : ℕ) → taken a < holds_on t a → times (slot a) ≡ 0

-- a kind of step: from which tables to which, with the holds granted and taken, and the recyclings of each slot
abbrev pub Stepping : Type 1
Stepping = Tables → Tables → (ℕ → ℕ) → (ℕ → ℕ) → (ℕ → ℕ) → Type 0

-- u is reached from t by steps; the holds granted, the holds taken, and the recyclings add up
pub data Since (Step : Stepping) (t : Tables) : Tables → (ℕ → ℕ) → (ℕ → ℕ) → (ℕ → ℕ) → Type 0 where
  now : Since Step t t (λ y. 0) (λ y. 0) (λ s. 0)
  then : {u v : Tables} {g k j granted taken times : ℕ → ℕ} → Since Step t u g k j → Step u v granted taken times
      → Since Step t v (λ y. g y + granted y) (λ y. k y + taken y) (λ s. j s + times s)

-- a fresh arena
pub data Fresh : Tables → Type 0 where
  fresh : (c : ℕ) (k f e : List ℕ) → (fresh_of c k f e).no ≡ 0 → Fresh (fresh_of c k f e).after

-- Tables that steps since a fresh arena have reached, with the holds granted and the holds returned or used on each node so far.
pub record History (Step : Stepping) (t : Tables) (granted taken : ℕ → ℕ) : Type 0 where
  pub begin : Tables
  pub bare : Fresh begin
  pub times : ℕ → ℕ
  pub since : Since Step begin t granted taken times

-- EMPTY, or the id of a node now in the arena. A held root is, and so is whatever stands at or below one that is.
abbrev pub There : Tables → ℕ → Type 0
There t a = LiveOr0 (cap t) (W t) a

-- EMPTY, or someone holds it
abbrev pub Held : Tables → ℕ → Type 0
Held t a = (a ≡ 0) ⊎ (1 ≤ holds_on t a)

-- from t to u the tables stay well formed, of the same size, and every node at or below a stays as it is
pub record Kept (n tallest : ℕ) (t u : Tables) (a : ℕ) : Type 0 where
  pub well : WellFormed n tallest u
  pub size : cap u ≡ cap t
  pub keeps : Keeps n (cap t) (W t) (W u) a
