-- What a step that frees leaves alone (`Frame`), and what dies: a node lives on exactly if it is held or stands below one that is held.
use mathlib.Core.Path.{◌≡◌, refl, sym, ap, ◌∙◌, subst}
use mathlib.Core.Logic.{◌≢◌, ◌↔◌}
use mathlib.Core.List.{List, []}
use Prim.Native.Nat.{ℕ, zero, suc, ◌+◌, ◌≤◌, ◌<◌}
use native.Mathlib.Decide.{dec_lt}
use native.Mathlib.Omega.{arith}
use Rattle.nodes.specs.Tally.{kids_of, tally, Live, occ, Under, here, down}
use Rattle.nodes.specs.Words.{own, height, holds, places, floor, slot, Words, mark}
use Rattle.nodes.proofs.Counts.{kids_same, total, Counts, live_own, live_same, live_nonzero, kid_live, tally_pos, occ_bare}
use Rattle.nodes.proofs.Sums.{cases, occ_nil}

-- what a slot that lives on keeps: all but the places. A slot that is held lives on
pub record Frame (cap : ℕ) (W W' : Words) : Type 0 where
  pub kept : (b : ℕ) → b < cap → floor ≤ W' b own → (f : ℕ) → f ≤ mark → f ≢ places → W' b f ≡ W b f
  pub held : (b : ℕ) → b < cap → floor ≤ W b own → 1 ≤ W b holds → floor ≤ W' b own

pub frame_refl : (cap : ℕ) (W : Words) → Frame cap W W
frame_refl cap W = record { kept = λ b l h f m d. refl; held = λ b l h k. h }

pub frame_trans : {cap : ℕ} {W₀ W₁ W₂ : Words} → Frame cap W₀ W₁ → Frame cap W₁ W₂ → Frame cap W₀ W₂
frame_trans {cap} {W₀} {W₁} {W₂} p q = record {
  kept = λ b l h f m d.
      let e = q.kept b l h own (omega arith) (omega arith) in
      q.kept b l h f m d ∙ p.kept b l (omega arith) f m d;
  held = λ b l h k.
      let v = p.held b l h k in
      let e = p.kept b l v holds (omega arith) (omega arith) in
      q.held b l v (omega arith);
}

-- a height goes through
pub frame_low : (cap : ℕ) (W W' : Words) (k z : ℕ) → Frame cap W W' → Live cap W' z → W (slot z) height < k → W' (slot z) height < k
frame_low cap W W' k z r v h =
    let i = v.is in
    let g = v.high in
    let e = r.kept (slot z) v.low (omega arith) height (omega arith) (omega arith) in
    omega arith

pub total_nil : (n cap : ℕ) (W : Words) (y : ℕ) → total n cap W [] y ≡ tally n cap W y
unfolding total
total_nil n cap W y = omega (arith, occ_nil y)

-- every word but the places
abbrev pub Kept : Words → Words → ℕ → Type 0
Kept W W' s = (f : ℕ) → f ≤ mark → f ≢ places → W' s f ≡ W s f

module _ (cap : ℕ) (W W' : Words) (debt : List ℕ) (c : Counts 8 cap W' debt) (r : Frame cap W W') where
  -- what lives afterwards lived before, with the same words
  pub kept_live : (y : ℕ) → Live cap W' y → Live cap W y × Kept W W' (slot y)
  kept_live y v =
      let i = v.is in
      let h = v.high in
      let k : Kept W W' (slot y) = r.kept (slot y) v.low (omega arith) in
      (live_same cap W' W y (sym (k own (omega arith) (omega arith))) v, k)

  pub kept_kids : (y : ℕ) → Live cap W' y → kids_of 8 W' (slot y) ≡ kids_of 8 W (slot y)
  kept_kids y v = let k = (kept_live y v).1 in kids_same 8 W W' (slot y) (λ i m. k i (omega arith) (omega arith))

  -- a held one lives on, and all below it
  pub reach_lives : (a y : ℕ) → Live cap W a → 1 ≤ W (slot a) holds → Under W a y → Live cap W' y
  reach_lives a y v h (here) =
      let i = v.is in
      let g = v.high in
      let p = r.held (slot a) v.low (omega arith) h in
      live_same cap W W' a (r.kept (slot a) v.low p own (omega arith) (omega arith)) v
  reach_lives a y v h (down {b = b} q z o) =
      let w : Live cap W' b = reach_lives a b v h q in
      let e = kept_kids b w in
      kid_live c (slot b) y w.low z (rw e o)

  -- what lives afterwards and stands below another there, stood below it before
  pub reach_back : (a y : ℕ) → Live cap W' a → Under W' a y → Under W a y × Live cap W' y
  reach_back a y v (here) = (here, v)
  reach_back a y v (down {b = b} q z o) =
      let p = reach_back a b v q in
      let e = kept_kids b p.1 in
      (down p.0 z (rw e at o), kid_live c (slot b) y p.1.low z o)

-- in tables with no debt, a live node is held or stands below one that is. `top` is above every height
pub live_reached : (cap : ℕ) (W : Words) (c : Counts 8 cap W []) (top : ℕ) → ((b : ℕ) → b < cap → floor ≤ W b own → W b height < top)
    → (m : ℕ) (y : ℕ) → Live cap W y → top ≤ W (slot y) height + m → (a : ℕ) × Live cap W a × (1 ≤ W (slot a) holds) × Under W a y
live_reached cap W c top bound zero y v h =
    absurd (let i = v.is in let g = v.high in let p = bound (slot y) v.low (omega arith) in omega arith)
live_reached cap W c top bound (suc m) y v h =
    cases (dec_lt 0 (W (slot y) holds))
    (λ k. (y, v, k, here))
    (λ k.
    let p = c.placed y v in
    let q = c.alive y v in
    let t = tally_pos 8 cap W y (omega (arith, total_nil 8 cap W y)) in
    let b = t.0 in
    let l : b < cap = t.1 in
    let o : 1 ≤ occ y (kids_of 8 W b) = t.2 in
    let z : y ≢ 0 = live_nonzero v in
    cases (dec_lt (W b own) floor)
    (λ dead. absurd (let e = occ_bare 8 W b y z (c.bare b l dead) in omega arith))
    (λ alive.
    let w : Live cap W (W b own) = live_own 8 cap W [] c b l (omega arith) in
    let e : slot (W b own) ≡ b = c.ids b l (omega arith) in
    let g = c.tall b y l z o in
    let e10 : W (slot (W b own)) height ≡ W b height = ap (λ (s : ℕ). W s height) e in
    let r = live_reached cap W c top bound m (W b own) w (omega arith) in
    (r.0, r.1, r.2, down r.3 z (subst (λ (s : ℕ). 1 ≤ occ y (kids_of 8 W s)) (sym e) o))))

-- so after any step with that frame, a node of before lives exactly if it stood below a held one
pub lives_iff : (cap : ℕ) (W W' : Words) (c : Counts 8 cap W' []) (r : Frame cap W W') (top : ℕ)
    → ((b : ℕ) → b < cap → floor ≤ W b own → W b height < top) → (y : ℕ)
    → Live cap W' y ↔ ((a : ℕ) × Live cap W a × (1 ≤ W (slot a) holds) × Under W a y)
lives_iff cap W W' c r top bound y = (
  (λ v.
      let q = live_reached cap W' c top
      (λ b l h. let p = r.kept b l h height (omega arith) (omega arith) in let e = r.kept b l h own (omega arith) (omega arith) in let g = bound b l (omega arith) in omega arith)
      top y v (omega arith) in
      let a = kept_live cap W W' [] c r q.0 q.1 in
      let e = a.1 holds (omega arith) (omega arith) in
      let g = q.2 in
      (q.0, a.0, omega arith, (reach_back cap W W' [] c r q.0 y q.1 q.3).0)),
  (λ q. reach_lives cap W W' [] c r q.0 y q.1 q.2 q.3),
)
