-- Paths of the records that answers are made of.
use Prim.Native.Nat.{ℕ}
use mathlib.Core.Path.{◌≡◌}
use mathlib.Core.List.{List}
use Rattle.nodes.specs.Words.{Nodes}
use Rattle.arena.specs.Calls.{said}
use Rattle.arena.specs.Tables.{State, tables_of, Tables}

pub said_path : (x y i j : ℕ) (s t : Tables) → x ≡ y → i ≡ j → s ≡ t → said x i s ≡ said y j t
said_path x y i j s t p q r = λ k. record { no = p k; id = q k; after = r k }

pub tables_path : (a b : State) (m n : Nodes) (f g : List ℕ) → a ≡ b → m ≡ n → f ≡ g → tables_of a m f ≡ tables_of b n g
tables_path a b m n f g p q r = λ k. record { arena = p k; nodes = q k; find = r k }

pub state_path : (c n f c' n' f' : ℕ) → c ≡ c' → n ≡ n' → f ≡ f'
    → ◌≡◌ {A = State} (record { capacity = c; next = n; freed = f }) (record { capacity = c'; next = n'; freed = f' })
state_path c n f c' n' f' p q r = λ k. record { capacity = p k; next = q k; freed = r k }
