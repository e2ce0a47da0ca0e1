-- A line written piece by piece.
use mathlib.Core.Path.{◌≡◌, ap, ◌∙◌}
use mathlib.Core.List.{List, ◌++◌}
use Prim.Native.Nat.{ℕ, ◌+◌, ◌≤◌}
use native.Mathlib.Omega.{arith}
use lib.ListN.{length, length-append}
use Rattle.basics.specs.Puts.{puts_from}
use Rattle.basics.proofs.Puts.{puts_then}

-- the n bytes s, written from `at` on, took l to m
pub record Wrote (l m : List ℕ) (at n : ℕ) (s : List ℕ) : Type 0 where
  pub puts : m ≡ puts_from l at s
  pub long : n ≡ length s

-- what was written, from what a call says of it
pub wrote_text : {l m : List ℕ} {at n : ℕ} {s : List ℕ} → (m ≡ puts_from l at s) × (n ≡ length s) → Wrote l m at n s
wrote_text (puts, long) = record { puts = puts; long = long }

pub wrote_number : {l m : List ℕ} {at n most : ℕ} {s : List ℕ} → (m ≡ puts_from l at s) × (n ≡ length s) × (n ≤ most) → Wrote l m at n s
wrote_number (puts, long, few) = record { puts = puts; long = long }

-- one piece and the next
pub wrote_then : {l m o : List ℕ} {at n p k : ℕ} {s u : List ℕ} → Wrote l m at n s → p ≡ at + n → Wrote m o p k u → Wrote l o at (n + k) (s ++ u)
wrote_then {l} {m} {o} {at} {n} {p} {k} {s} {u} x e y = record {
  puts = puts_then l m at n s x.puts x.long o u (y.puts ∙ ap (λ (i : ℕ). puts_from m i u) e);
  long = omega (arith, x.long, y.long, length-append s u);
}

-- the same bytes by another name
pub wrote_as : {l m : List ℕ} {at n : ℕ} {s u : List ℕ} → Wrote l m at n s → s ≡ u → Wrote l m at n u
wrote_as {l} {m} {at} {n} {s} {u} x e = record { puts = x.puts ∙ ap (puts_from l at) e; long = x.long ∙ ap length e }
