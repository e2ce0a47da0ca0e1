-- The byte of a test has one bit for each of eight children: it is the same for eight that are the same one by one.
use Rattle.std.proofs.Common.{◌≡◌, Bool, ℕ, List, length, get_or, refl, sym, ap, ◌∙◌}
use Rattle.nodes.specs.Tally.{one_if}
use Rattle.arena.specs.Node.{bits_of}
use Rattle.arena.proofs.Eight.{bits_done}

pub bits_same : (p : ℕ → Bool) (r : ℕ) (u ks : List ℕ) → r ≡ bits_of p u → length u ≡ 8 → length ks ≡ 8
    → get_or u 0 0 ≡ get_or ks 0 0 → get_or u 1 0 ≡ get_or ks 1 0 → get_or u 2 0 ≡ get_or ks 2 0 → get_or u 3 0 ≡ get_or ks 3 0
    → get_or u 4 0 ≡ get_or ks 4 0 → get_or u 5 0 ≡ get_or ks 5 0 → get_or u 6 0 ≡ get_or ks 6 0 → get_or u 7 0 ≡ get_or ks 7 0 → r ≡ bits_of p ks
bits_same p r u ks e n m q₀ q₁ q₂ q₃ q₄ q₅ q₆ q₇ =
    let bit = λ (x y : ℕ) (q : x ≡ y). ap (λ (k : ℕ). one_if (p k)) q in
    e ∙ sym (bits_done p u _ _ _ _ _ _ _ _ n refl refl refl refl refl refl refl refl)
    ∙ bits_done p ks _ _ _ _ _ _ _ _ m (bit _ _ q₀) (bit _ _ q₁) (bit _ _ q₂) (bit _ _ q₃) (bit _ _ q₄) (bit _ _ q₅) (bit _ _ q₆) (bit _ _ q₇)
