-- `Counts` with no debt, said slot by slot: the form that a check of the tables decides, and that a reader reads.
use mathlib.Core.Path.{◌≡◌, sym, ap, ◌∙◌, subst}
use mathlib.Core.Logic.{◌≢◌}
use mathlib.Core.List.{[]}
use Prim.Native.Nat.{ℕ, ◌+◌, ◌≤◌, ◌<◌}
use native.Mathlib.Omega.{arith}
use Rattle.nodes.specs.Tally.{tally, Live}
use Rattle.nodes.specs.Words.{own, height, holds, places, floor, slot, Words}
use Rattle.nodes.proofs.Counts.{Counts, live_own, kid_live, kid_occ, occ_kid, tally_pos}
use Rattle.nodes.proofs.Frame.{total_nil}

-- a slot's rules: a child is EMPTY or live and less tall; a live slot's id names it, its places are the tally, and one of its counts is not 0;
-- a dead slot has no child
pub record Slot (n cap : ℕ) (W : Words) (s : ℕ) : Type 0 where
  pub child : (i : ℕ) → i < n → W s i ≢ 0 → Live cap W (W s i) × (W (slot (W s i)) height < W s height)
  pub dead : W s own < floor → (i : ℕ) → i < n → W s i ≡ 0
  pub id : floor ≤ W s own → slot (W s own) ≡ s
  pub tallied : floor ≤ W s own → W s places ≡ tally n cap W (W s own)
  pub used : floor ≤ W s own → 1 ≤ W s holds + W s places

abbrev pub Slots : ℕ → ℕ → Words → Type 0
Slots n cap W = (s : ℕ) → s < cap → Slot n cap W s

pub slots_counts : (n cap : ℕ) (W : Words) → n ≤ 8 → Slots n cap W → Counts n cap W []
slots_counts n cap W m r = record {
  small = m;
  ids = λ s l h. (r s l).id h;
  bare = λ s l h. (r s l).dead h;
  named = λ y z h.
      let t = tally_pos n cap W y (omega (arith, total_nil n cap W y)) in
      let k = occ_kid n W t.0 y t.2 in
      subst (λ (x : ℕ). Live cap W x) k.2 ((r t.0 t.1).child k.0 k.1 (λ e. z (sym k.2 ∙ e))).0;
  placed = λ y v.
      let i = v.is in
      let h = v.high in
      (r (slot y) v.low).tallied (omega arith) ∙ ap (tally n cap W) i ∙ sym (total_nil n cap W y);
  alive = λ y v. let i = v.is in let h = v.high in (r (slot y) v.low).used (omega arith);
  tall = λ b y l z h.
      let k = occ_kid n W b y h in
      let e = k.2 in
      subst (λ (x : ℕ). W (slot x) height < W b height) e ((r b l).child k.0 k.1 (λ q. z (sym e ∙ q))).1;
}

pub counts_slots : (n cap : ℕ) (W : Words) → Counts n cap W [] → Slots n cap W
counts_slots n cap W c s l = record {
  child = λ i m z. (kid_live c s (W s i) l z (kid_occ n W s i m), c.tall s (W s i) l z (kid_occ n W s i m));
  dead = λ h i m. c.bare s l h i m;
  id = λ h. c.ids s l h;
  tallied = λ h.
      let e = c.ids s l h in
      let p = c.placed (W s own) (live_own n cap W [] c s l h) in
      sym (ap (λ (k : ℕ). W k places) e) ∙ p ∙ total_nil n cap W (W s own);
  used = λ h.
      let e = c.ids s l h in
      let p = c.alive (W s own) (live_own n cap W [] c s l h) in
      let a : W (slot (W s own)) holds ≡ W s holds = ap (λ (k : ℕ). W k holds) e in
      let b : W (slot (W s own)) places ≡ W s places = ap (λ (k : ℕ). W k places) e in
      omega arith;
}
