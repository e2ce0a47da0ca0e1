-- What the theorems ask of a kind of cells, of its edit and of the steps beside it. The cube has it: crates/promises/proofs/CubeKind.antt.
use Rattle.std.specs.Prelude.{◌≡◌, ◌≢◌, Bool, true, false, List, ℕ, ◌≤◌, ◌<◌}
use Rattle.basics.specs.Limits.{kid_words}
use Rattle.tree.specs.Tree.{Cell}
use Rattle.tree.specs.Edits.{Edited}
use Rattle.arena.specs.Tables.{Tables, cap, W, WellFormed}
use Rattle.arena.specs.Calls.{release_of}
use Rattle.ledger.specs.Ledger.{on}
use Rattle.calls.specs.Does.{Does, Stepping, Kept, There}
use Rattle.lists.specs.Runs.{Entering}

-- The kind of cell: each has its way, all ways of depth d are some cell's, and `same` tells whether two are one.
pub record Cells (n d : ℕ) {C : Type 0} (way : C → List ℕ) (same : C → C → Bool) : Type 0 where
  pub cell : (c : C) → Cell n d (way c)
  pub all : (q : List ℕ) → Cell n d q → (c : C) × (way c ≡ q)
  pub one : (s c : C) → same s c ≡ true → s ≡ c
  pub two : (s c : C) → same s c ≡ false → way s ≢ way c

-- An accepted edit grants one hold on its answer and takes none, and its answer is the root with the cell changed.
pub record Accepted (n tallest d : ℕ) (t : Tables) (a : ℕ) (way : List ℕ) (v : ℕ) (u : Tables) (r : ℕ) : Type 0 where
  pub times : ℕ → ℕ
  pub does : Does n tallest t u (λ y. on y r) (λ y. 0) times
  pub edited : Edited n (cap t) d (W t) a way v (W u) r

-- The kind as a whole: its nodes have n children, its cells are of depth d, `Enters` is its edit, and `Step` what may come beside.
pub record CellKind (n tallest d : ℕ) {C : Type 0} (way : C → List ℕ) (same : C → C → Bool) (Enters : Entering C) (Step : Stepping) : Type 0 where
  pub words : n ≤ kid_words
  pub some : 0 < n
  pub cells : Cells n d way same
  pub enters : {t u : Tables} {a r : ℕ} (c : C) (v : ℕ) → WellFormed n tallest t → Enters t a c v u r → Accepted n tallest d t a (way c) v u r
  -- a root that is EMPTY or live before and after a step is kept
  pub steps : {t u : Tables} {g k j : ℕ → ℕ} → WellFormed n tallest t → Step t u g k j → (a : ℕ) → There t a → There u a → Kept n tallest t u a
  -- an accepted edit is one of the steps, and so is a release
  pub edit : {t u : Tables} {a r : ℕ} (c : C) (v : ℕ) → Enters t a c v u r → (g : ℕ → ℕ) × (k : ℕ → ℕ) × (j : ℕ → ℕ) × Step t u g k j
  pub release : (t : Tables) (b : ℕ) → (g : ℕ → ℕ) × (k : ℕ → ℕ) × (j : ℕ → ℕ) × Step t (release_of tallest t b).after g k j
